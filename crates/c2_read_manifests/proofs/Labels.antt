-- The manifests of a store have different labels.
use Rattle.std.proofs.Common.{◌≡◌, ℕ, zero, suc, Bool, true, false, cond, List, [], ◌∷◌, map, filter, Option, Some, None, unwrap_or, slice_get, refl, sym, ap, ◌∙◌}
use Rattle.std.specs.List.{AllByRecursion}
use Rattle.std.specs.Option.{option_map}
use Rattle.std.proofs.lemmas.Option.{same_Some, slice_get-map, slice_get_within, get_or_from_slice_get}
use Rattle.c2_spec.specs.Jumbf.Tree.{Tree, IsLegalTree, IsNewLabel, AreDistinctLabels}
use Rattle.c2_spec.specs.Jumbf.Boxes.{box_at, any_label, child_indices}
use Rattle.c2_spec.specs.C2pa.Manifest.{Manifest, is_superbox, superboxes, store_refusal, store_of, manifest_boxes, manifest_at, manifests_of}
use Rattle.c2_spec.specs.declared.store.ManifestBoxes.{ManifestBoxes}
use Rattle.c2_rules.specs.Chains.{LabelsDiffer, label_in}
use Rattle.c2_rules.specs.Readings.{Reading, IsReading, AreReadings}
use Rattle.c2_spec.proofs.JumbfBoxes.{some_box}
use Rattle.c2_spec.proofs.DistinctLabels.{distinct_at}
use Rattle.c2_spec.proofs.JumbfChildren.{distinct_children}
use Rattle.c2_spec.proofs.LabelsOfManifests.{labelled}
use Rattle.c2_lemmas.proofs.Each.{partner_at}
use Rattle.c2_spec.proofs.Openings.{new_filtered}

-- ---- lists of different labels

-- some of them are different still
kept_all : (f : ℕ → Option (List ℕ)) (p : ℕ → Bool) (P : Option (List ℕ) → Type 0) (xs : List ℕ)
    → AllByRecursion P (map f xs) → AllByRecursion P (map f (filter p xs))
kept_all f p P [] h = tt
kept_all f p P (x ∷ xs) h = by (p x) (kept_all f p P xs h.1)
  where
    by : (b : Bool) → AllByRecursion P (map f (filter p xs))
        → AllByRecursion P (map f (cond b (x ∷ filter p xs) (filter p xs)))
    by true rest = (h.0, rest)
    by false rest = rest

-- if boxes have different labels, those that a test picks of them do too
kept_distinct : (f : ℕ → Option (List ℕ)) (p : ℕ → Bool) (xs : List ℕ) → AreDistinctLabels (map f xs)
    → AreDistinctLabels (map f (filter p xs))
kept_distinct f p [] h = tt
kept_distinct f p (x ∷ xs) h = by (p x) (new_filtered f p (f x) xs h.0) (kept_distinct f p xs h.1)
  where
    by : (b : Bool) → IsNewLabel (f x) (map f (filter p xs)) → AreDistinctLabels (map f (filter p xs))
        → AreDistinctLabels (map f (cond b (x ∷ filter p xs) (filter p xs)))
    by true new rest = (new, rest)
    by false new rest = rest

-- ---- the manifest at a place

-- a manifest at a place comes from the superbox that stands at that place
boxes_at : (t : Tree) (xs : List ℕ) (i : ℕ) (m : Manifest)
    → slice_get (map (manifest_at t) (map (manifest_boxes t) xs)) i ≡ Some m
    → (w : ℕ) × (slice_get xs i ≡ Some w) × (m ≡ manifest_at t (manifest_boxes t w))
boxes_at t [] i m e = absurd cc
boxes_at t (x ∷ xs) zero m e = (x, refl, sym (same_Some (manifest_at t (manifest_boxes t x)) m e))
boxes_at t (x ∷ xs) (suc i) m e = boxes_at t xs i m e

-- a label that isn't missing is there
some_label : (o : Option (List ℕ)) → (o ≡ None → ⊥) → (a : List ℕ) × (o ≡ Some a)
some_label None h = absurd (h refl)
some_label (Some a) h = (a, refl)

-- a manifest that was read, its box, and its label
record Placed (t : Tree) (i : ℕ) (r : Reading) : Type 0 where
  pub box : ℕ
  pub at_place : slice_get (superboxes t 0) i ≡ Some box
  pub label : List ℕ
  pub has_label : any_label (box_at t box).box ≡ Some label
  pub is_label : label_in r ≡ label

-- in a store that isn't refused, the manifest that was read at a place has a box there, which has its label
placed : (t : Tree) (rs : List Reading) (i : ℕ) (r : Reading) → store_refusal t ≡ None → AreReadings (manifests_of t) rs
    → slice_get rs i ≡ Some r → Placed t i r
placed t rs i r accepted read at =
    let own = partner_at IsReading (manifests_of t) rs i r read at in
    let there = boxes_at t (superboxes t 0) i own.0 own.1 in
    let stored : slice_get (store_of t) i ≡ Some (manifest_boxes t there.0) =
    slice_get-map (manifest_boxes t) (superboxes t 0) i ∙ ap (option_map (manifest_boxes t)) there.1 in
    let some =
    some_label (any_label (box_at t there.0).box)
    (λ none. labelled t (store_of t) i there.0 (record { accepted = accepted; same = refl }) (sym (ap (option_map (λ (m : ManifestBoxes). m.whole)) stored)) none) in
    let same : label_in r ≡ some.0 =
    ap (λ (m : Manifest). unwrap_or m.label []) (own.2.same ∙ there.2)
    ∙ ap (λ (o : Option (List ℕ)). unwrap_or o []) some.1 in
    record { box = there.0; at_place = there.1; label = some.0; has_label = some.1; is_label = same }

-- readings of the manifests of a legal tree that isn't refused as a store have different labels
pub labels_differ : (t : Tree) (rs : List Reading) → IsLegalTree 1 t → store_refusal t ≡ None
    → AreReadings (manifests_of t) rs → LabelsDiffer rs
labels_differ t rs legal accepted read i j r s at_i at_j same =
    let a = placed t rs i r accepted read at_i in
    let b = placed t rs j s accepted read at_j in
    let f : ℕ → Option (List ℕ) = λ (k : ℕ). any_label (box_at t k).box in
    let distinct : AreDistinctLabels (map f (superboxes t 0)) =
    kept_distinct f (is_superbox t) (child_indices t 0) (distinct_children t 0 (some_box t) legal) in
    let first : slice_get (map f (superboxes t 0)) i ≡ Some (Some a.label) =
    slice_get-map f (superboxes t 0) i ∙ ap (option_map f) a.at_place ∙ ap Some a.has_label in
    let second : slice_get (map f (superboxes t 0)) j ≡ Some (Some b.label) =
    slice_get-map f (superboxes t 0) j ∙ ap (option_map f) b.at_place ∙ ap Some b.has_label in
    let one : b.label ≡ a.label = sym b.is_label ∙ sym same ∙ a.is_label in
    distinct_at a.label (map f (superboxes t 0)) i j distinct
    (slice_get_within (map f (superboxes t 0)) i (Some a.label) first)
    (slice_get_within (map f (superboxes t 0)) j (Some b.label) second)
    (get_or_from_slice_get (map f (superboxes t 0)) i (Some a.label) None first)
    (get_or_from_slice_get (map f (superboxes t 0)) j (Some b.label) None second ∙ ap Some one)
