-- The manifests of a store by their indices in its tree, and as boxes.
use Rattle.std.proofs.Common.{◌≡◌, ℕ, ◌<◌, Bool, List, length, map, Option, Some, None, slice_get, option_map, refl, sym, ap, ◌∙◌, subst, arith}
use Rattle.std.specs.Prelude.{option_and_then}
use Rattle.std.proofs.lemmas.List.{length-map}
use Rattle.std.proofs.lemmas.Option.{same_Some, slice_get-map}
use Rattle.c2_spec.specs.C2pa.Manifest.{IsStoreOf, manifest_boxes, superboxes}
use Rattle.c2_spec.specs.Jumbf.Boxes.{any_bytes, any_label, box_at, node}
use Rattle.c2_spec.specs.Jumbf.Tree.{AreDistinctLabels, IsLegalTree, IsNewLabel, Tree, Trees, leaf, more, none, super, tree_bytes, tree_label, tree_labels}
use Rattle.c2_spec.specs.declared.store.ManifestBoxes.{ManifestBoxes}
use Rattle.c2_new_file_spec.proofs.ByIndex.{at_box, both_get, supers_any}
use Rattle.c2_new_file_spec.specs.Manifests.{supers_in, supers_of}
use Rattle.c2_new_file_spec.specs.Redacting.{boxes_in}
use Rattle.c2_new_file_spec.proofs.Stores.{legal_inside, supers_are}
use Rattle.c2_collect.specs.Marked.{IsSide, MarkedStore, box_bytes, box_labels, manifests_in, marked}
use Rattle.c2_lemmas.proofs.Options.{some_at}
use Rattle.c2_new_file_spec.proofs.Stores.{both_len}
use Rattle.c2_new_file_spec.proofs.Valid.{same_label}

-- ---- manifests by their indices

-- what a list is mapped from
pub record MappedFrom {A B : Type 0} (f : A → B) (xs : List A) (i : ℕ) (y : B) : Type 0 where
  pub it : A
  pub is : slice_get xs i ≡ Some it
  pub gives : f it ≡ y

-- a member of a list that was mapped is of a member
pub mapped_from : {A B : Type 0} (f : A → B) (xs : List A) (i : ℕ) (y : B) → slice_get (map f xs) i ≡ Some y
    → MappedFrom f xs i y
mapped_from {A} {B} f xs i y e = go (slice_get xs i) refl (sym (slice_get-map f xs i) ∙ e)
  where
    go : (o : Option A) → slice_get xs i ≡ o → option_map f o ≡ Some y → MappedFrom f xs i y
    go None is h = absurd (cc (h))
    go (Some x) is h = record { it = x; is = is; gives = same_Some (f x) y h }

-- a member of a list has its place in the mapped list
pub map_at : {A B : Type 0} (f : A → B) (xs : List A) (i : ℕ) (x : A) → slice_get xs i ≡ Some x
    → slice_get (map f xs) i ≡ Some (f x)
map_at f xs i x e = slice_get-map f xs i ∙ ap (option_map f) e

-- what a member is mapped to
pub mapped_is : {A B : Type 0} (f : A → B) (xs : List A) (i : ℕ) (x : A) (y : B) → slice_get (map f xs) i ≡ Some y
    → slice_get xs i ≡ Some x → y ≡ f x
mapped_is f xs i x y e is = same_Some y (f x) (sym e ∙ map_at f xs i x is)

-- as many manifests as the store has
pub store_count : (t : Tree) (s : List ManifestBoxes) → IsStoreOf t s → length s ≡ length (supers_in (boxes_in t))
store_count t s h =
    ap length h.same ∙ length-map (superboxes t 0) (manifest_boxes t)
    ∙ both_len t (superboxes t 0) (supers_of t) (supers_any t) ∙ ap length (supers_are t)

-- the tree of a manifest
record WholeIs (t : Tree) (i w : ℕ) : Type 0 where
  pub manifest : Tree
  pub is : slice_get (supers_in (boxes_in t)) i ≡ Some manifest
  pub box : (box_at t w).box ≡ node manifest

-- the tree of a manifest is that of its index
whole_is : (t : Tree) (s : List ManifestBoxes) (i w : ℕ) → IsStoreOf t s → i < length (supers_in (boxes_in t))
    → Some w ≡ option_map (λ (m : ManifestBoxes). m.whole) (slice_get s i) → WholeIs t i w
whole_is t s i w h lt at =
    let kept =
    mapped_from (λ (m : ManifestBoxes). m.whole) s i w (slice_get-map (λ (m : ManifestBoxes). m.whole) s i ∙ sym at) in
    let index =
    mapped_from (manifest_boxes t) (superboxes t 0) i kept.it (ap (λ xs. slice_get xs i) (sym h.same) ∙ kept.is) in
    let same : index.it ≡ w = ap (λ (m : ManifestBoxes). m.whole) index.gives ∙ kept.gives in
    let tree = some_at (supers_in (boxes_in t)) i lt in
    let of : slice_get (supers_of t) i ≡ Some tree.0 = ap (λ xs. slice_get xs i) (supers_are t) ∙ tree.1 in
    record
    { manifest = tree.0; is = tree.1; box = at_box t w tree.0 (both_get t (superboxes t 0) (supers_of t) i w tree.0 (supers_any t) (index.is ∙ ap Some same) of) }

-- ---- what is seen of a store

-- as many flags as manifests
pub seen_count : (t : Tree) (s : List ManifestBoxes) (flags : List Bool) (v : MarkedStore) → IsSide t s flags
    → marked t flags ≡ v → length s ≡ length (manifests_in v)
seen_count t s flags v h e = store_count t s h.same ∙ ap (λ (x : MarkedStore). length (manifests_in x)) e

-- the label of a manifest
pub seen_label : (t : Tree) (s : List ManifestBoxes) (flags : List Bool) (v : MarkedStore) (i : ℕ) (l : List ℕ)
    → IsSide t s flags → marked t flags ≡ v → i < length (manifests_in v)
    → Some l ≡ option_and_then (λ (m : ManifestBoxes). any_label (box_at t m.whole).box) (slice_get s i)
    → slice_get (box_labels (manifests_in v)) i ≡ Some (Some l)
seen_label t s flags v i l h e lt at =
    let inside : i < length (supers_in (boxes_in t)) =
    omega (arith, lt, ap (λ (x : MarkedStore). length (manifests_in x)) e) in
    let m = some_at s i (omega (arith, inside, store_count t s h.same)) in
    let w = whole_is t s i m.0.whole h.same inside (ap (option_map (λ (x : ManifestBoxes). x.whole)) (sym m.1)) in
    let label : tree_label w.manifest ≡ Some l =
    same_label w.manifest ∙ sym (ap any_label w.box)
    ∙ sym (at ∙ ap (option_and_then (λ (x : ManifestBoxes). any_label (box_at t x.whole).box)) m.1) in
    subst (λ (x : MarkedStore). slice_get (box_labels (manifests_in x)) i ≡ Some (Some l)) e
    (map_at tree_label (supers_in (boxes_in t)) i w.manifest w.is ∙ ap Some label)

-- the bytes of a manifest
pub seen_bytes : (t : Tree) (s : List ManifestBoxes) (flags : List Bool) (v : MarkedStore) (i w : ℕ) (bytes : List ℕ)
    → IsSide t s flags → marked t flags ≡ v → i < length (manifests_in v)
    → Some w ≡ option_map (λ (m : ManifestBoxes). m.whole) (slice_get s i) → bytes ≡ any_bytes (box_at t w).box
    → slice_get (box_bytes (manifests_in v)) i ≡ Some bytes
seen_bytes t s flags v i w bytes h e lt at is =
    let inside : i < length (supers_in (boxes_in t)) =
    omega (arith, lt, ap (λ (x : MarkedStore). length (manifests_in x)) e) in
    let m = whole_is t s i w h.same inside at in
    subst (λ (x : MarkedStore). slice_get (box_bytes (manifests_in x)) i ≡ Some bytes) e
    (map_at tree_bytes (supers_in (boxes_in t)) i m.manifest m.is ∙ ap Some (sym (is ∙ ap any_bytes m.box)))

-- the box of a manifest
pub seen_box : (t : Tree) (s : List ManifestBoxes) (flags : List Bool) (v : MarkedStore) (i w : ℕ) (u : Tree)
    → IsSide t s flags → marked t flags ≡ v → i < length (manifests_in v)
    → Some w ≡ option_map (λ (m : ManifestBoxes). m.whole) (slice_get s i) → slice_get (manifests_in v) i ≡ Some u
    → (box_at t w).box ≡ node u
seen_box t s flags v i w u h e lt at is =
    let inside : i < length (supers_in (boxes_in t)) =
    omega (arith, lt, ap (λ (x : MarkedStore). length (manifests_in x)) e) in
    let m = whole_is t s i w h.same inside at in
    m.box ∙ ap node (same_Some m.manifest u (sym m.is ∙ ap (λ (x : MarkedStore). slice_get (manifests_in x) i) e ∙ is))

-- ---- labels that differ

-- a label that is new among boxes is so among the superboxes of them
new_supers : (o : Option (List ℕ)) (ts : Trees) → IsNewLabel o (tree_labels ts)
    → IsNewLabel o (box_labels (supers_in ts))
new_supers None ts h = tt
new_supers (Some l) none h = tt
new_supers (Some l) (more (leaf b) ts) h = new_supers (Some l) ts h.1
new_supers (Some l) (more (super wide d us) ts) h = (h.0, new_supers (Some l) ts h.1)

-- labels of superboxes differ where those of all boxes do
supers_distinct : (ts : Trees) → AreDistinctLabels (tree_labels ts) → AreDistinctLabels (box_labels (supers_in ts))
supers_distinct none h = tt
supers_distinct (more (leaf b) ts) h = supers_distinct ts h.1
supers_distinct (more (super wide d us) ts) h = (new_supers d.label ts h.0, supers_distinct ts h.1)

-- the labels of the manifests of a legal store differ
pub seen_distinct : (t : Tree) (flags : List Bool) (v : MarkedStore) → marked t flags ≡ v → IsLegalTree 1 t
    → AreDistinctLabels (box_labels (manifests_in v))
seen_distinct t flags v e legal =
    subst (λ (x : MarkedStore). AreDistinctLabels (box_labels (manifests_in x))) e
    (supers_distinct (boxes_in t) (legal_inside t legal).distinct)
