-- The last manifest of a store, by its index and as a tree.
use Rattle.std.proofs.Common.{◌≡◌, ℕ, zero, suc, ◌-◌, Bool, true, false, cond, List, [], ◌∷◌, length, map, Option, Some, None, slice_get, option_map, refl, sym, ap, ◌∙◌, codes}
use Rattle.std.specs.Prelude.{bytes_eq, find, unwrap_or}
use Rattle.std.specs.Option.{option_map_or}
use Rattle.std.proofs.lemmas.List.{length-map}
use Rattle.std.proofs.lemmas.Slice.Eq.{bytes_eq-Decides}
use Rattle.c2_spec.specs.C2pa.Manifest.{Manifest, Superbox, is_given, manifest_boxes, signature_in, store_of, superbox_at, superboxes, type_uuid}
use Rattle.c2_spec.specs.Jumbf.Boxes.{AnyBox, node, any_contents, any_label, box_at}
use Rattle.c2_spec.specs.Jumbf.Tree.{Tree, Trees, leaf, super, none, more}
use Rattle.c2_spec.specs.declared.store.ManifestBoxes.{ManifestBoxes}
use Rattle.c2_new_file_spec.proofs.ByIndex.{At, at_box, both_get, manifest_is, supers_any}
use Rattle.c2_new_file_spec.specs.FreshBoxes.{contents_of}
use Rattle.c2_new_file_spec.specs.Manifests.{is_assertion_store, is_signature_box, is_super, superbox_of, supers_in, supers_of}
use Rattle.c2_new_file_spec.specs.Store.{NamedManifest}
use Rattle.c2_new_file_spec.specs.Parents.{IsParentOf}
use Rattle.c2_new_file_spec.specs.Redacting.{boxes_in, redacted_box, redacted_boxes, thin_boxes, thin_store, takes_out}
use Rattle.c2_parent.specs.Boxes.{name_in, redacted_any}
use Rattle.c2_lemmas.proofs.Options.{mapped_from}
use Rattle.c2_new_file_spec.proofs.Stores.{both_len}
use Rattle.c2_new_file_spec.proofs.Taken.{as_no_cs, redacted_super}

-- ---- lists

-- a member of a list that was mapped
get_map : {A B : Type 0} (f : A → B) (xs : List A) (i : ℕ) → slice_get (map f xs) i ≡ option_map f (slice_get xs i)
get_map f [] i = refl
get_map f (x ∷ xs) zero = refl
get_map f (x ∷ xs) (suc i) = get_map f xs i

-- ---- redacted manifests

-- the manifests of carried boxes are those of the store, each less what is redacted
supers_redacted : (redacts : List (List ℕ)) (ts : Trees)
    → supers_in (redacted_boxes redacts ts) ≡ map (redacted_box redacts) (supers_in ts)
supers_redacted redacts none = refl
supers_redacted redacts (more t ts) =
    ap
    (λ b. cond b (redacted_box redacts t ∷ supers_in (redacted_boxes redacts ts)) (supers_in (redacted_boxes redacts ts)))
    (redacted_super redacts t)
    ∙ ap (λ (xs : List Tree). cond (is_super t) (redacted_box redacts t ∷ xs) xs) (supers_redacted redacts ts)
    ∙ go (is_super t)
  where
    go : (b : Bool)
        → cond b (redacted_box redacts t ∷ map (redacted_box redacts) (supers_in ts)) (map (redacted_box redacts) (supers_in ts)) ≡ map (redacted_box redacts) (cond b (t ∷ supers_in ts) (supers_in ts))
    go true = refl
    go false = refl

-- a manifest less what is redacted keeps its label
redacted_label : (redacts : List (List ℕ)) (u : Tree) → any_label (node (redacted_box redacts u)) ≡ any_label (node u)
redacted_label redacts (leaf b) = refl
redacted_label redacts (super wide d us) = refl

-- the contents of a manifest less what is redacted, told in two ways
redacted_contents : (redacts : List (List ℕ)) (u : Tree)
    → any_contents (redacted_any redacts (node u)) ≡ contents_of (redacted_box redacts u)
redacted_contents redacts (leaf b) = refl
redacted_contents redacts (super wide d us) = refl

-- ---- the signature box stays

-- the type of assertion stores is not that of signatures
no_signature_type : (o : Option (List ℕ)) → is_given o (type_uuid (codes "c2as")) ≡ true
    → is_given o (type_uuid (codes "c2cs")) ≡ false
no_signature_type None e = refl
no_signature_type (Some x) e =
    ap (λ (y : List ℕ). bytes_eq y (type_uuid (codes "c2cs"))) ((bytes_eq-Decides x (type_uuid (codes "c2as"))).0 e)

-- an assertion store that loses boxes stays what it is
thin_signature : (out : List ℕ → Bool) (u : Tree) → is_signature_box (thin_store out u) ≡ is_signature_box u
thin_signature out (leaf b) = refl
thin_signature out (super wide d us) = refl

-- one box in front
find_front : (s g : Bool) (u : Tree) (xs : List Tree) → is_signature_box u ≡ g
    → find is_signature_box (cond s (u ∷ xs) xs) ≡ cond s (cond g (Some u) (find is_signature_box xs)) (find is_signature_box xs)
find_front true g u xs e = ap (λ (b : Bool). cond b (Some u) (find is_signature_box xs)) e
find_front false g u xs e = refl

-- the signature box among the boxes of a manifest is none that is lost
find_thin : (out : List ℕ → Bool) (ts : Trees)
    → find is_signature_box (supers_in (thin_boxes out ts)) ≡ find is_signature_box (supers_in ts)
find_thin out none = refl
find_thin out (more t ts) = go (is_assertion_store t) refl (find_thin out ts)
  where
    rest : List Tree
    rest = supers_in ts

    go : (b : Bool) → is_assertion_store t ≡ b
        → find is_signature_box (supers_in (thin_boxes out ts)) ≡ find is_signature_box (supers_in ts)
        → find is_signature_box (supers_in (cond b (more (thin_store out t) ts) (more t (thin_boxes out ts)))) ≡ find is_signature_box (supers_in (more t ts))
    go true e h =
        find_front (is_super (thin_store out t)) false (thin_store out t) (supers_in ts)
        (thin_signature out t ∙ as_no_cs t e)
        ∙ none_front (is_super (thin_store out t)) (thin_store out t)
        ∙ sym (find_front (is_super t) false t (supers_in ts) (as_no_cs t e) ∙ none_front (is_super t) t)
      where
        none_front : (s : Bool) (u : Tree)
            → cond s (cond false (Some u) (find is_signature_box (supers_in ts))) (find is_signature_box (supers_in ts)) ≡ find is_signature_box (supers_in ts)
        none_front true u = refl
        none_front false u = refl
    go false e h =
        find_front (is_super t) (is_signature_box t) t (supers_in (thin_boxes out ts)) refl
        ∙ ap (λ (o : Option Tree). cond (is_super t) (cond (is_signature_box t) (Some t) o) o) h
        ∙ sym (find_front (is_super t) (is_signature_box t) t (supers_in ts) refl)

-- a manifest keeps its signature box
signature_stays : (redacts : List (List ℕ)) (u : Tree)
    → find is_signature_box (supers_of (redacted_box redacts u)) ≡ find is_signature_box (supers_of u)
signature_stays redacts (leaf b) = refl
signature_stays redacts (super wide d us) = find_thin (takes_out redacts (unwrap_or d.label [])) us

-- ---- the last manifest

-- What the parent is, by the indices of the last manifest and of its signature box.
pub record IsLast (redacts : List (List ℕ)) (t : Tree) (p : NamedManifest) (whole : ℕ) (sign : Option ℕ) : Type 0 where
  pub label : name_in (box_at t whole).box ≡ p.label
  pub contents : any_contents (redacted_any redacts (box_at t whole).box) ≡ p.contents
  pub signed : option_map_or (λ i. any_contents (box_at t i).box) sign [] ≡ p.signed

-- a store's boxes by their indices
sign_of : (t : Tree) (w : ℕ) (s g : Tree) (p : List ℕ) → At t w s → find is_signature_box (supers_of s) ≡ Some g
    → contents_of g ≡ p → option_map_or (λ i. any_contents (box_at t i).box) (signature_in t (superboxes t w)) [] ≡ p
sign_of t w s g p at e f = go (signature_in t (superboxes t w)) same
  where
    same : option_map (superbox_at t) (signature_in t (superboxes t w)) ≡ Some (superbox_of g)
    same = ap (λ (m : Manifest). m.signature) (manifest_is t w s at) ∙ ap (option_map superbox_of) e

    go : (o : Option ℕ) → option_map (superbox_at t) o ≡ Some (superbox_of g)
        → option_map_or (λ i. any_contents (box_at t i).box) o [] ≡ p
    go None h = absurd (cc (h))
    go (Some i) h = let boxes : superbox_at t i ≡ superbox_of g = cc (h) in ap (λ (b : Superbox). b.contents) boxes ∙ f

-- the indices of a store's last manifest and of its signature box lead to the parent
pub last_is :
    (redacts : List (List ℕ)) (t : Tree) (store : List ManifestBoxes) (p : NamedManifest) (last whole : ℕ)
    (sign : Option ℕ)
    → store ≡ store_of t → last ≡ length store - 1
    → Some whole ≡ option_map (λ (m : ManifestBoxes). m.whole) (slice_get store last)
    → Some sign ≡ option_map (λ (m : ManifestBoxes). m.signature) (slice_get store last)
    → IsParentOf p (supers_in (redacted_boxes redacts (boxes_in t))) → IsLast redacts t p whole sign
last_is redacts t store p last whole sign is end at signs h =
    let both = supers_any t in
    let count : length store ≡ length (superboxes t 0) =
    ap length is ∙ length-map (superboxes t 0) (manifest_boxes t) in
    let boxes : supers_in (redacted_boxes redacts (boxes_in t)) ≡ map (redacted_box redacts) (supers_of t) =
    supers_redacted redacts (boxes_in t) ∙ ap (map (redacted_box redacts)) (supers_same t) in
    let size : length (supers_in (redacted_boxes redacts (boxes_in t))) ≡ length (superboxes t 0) =
    ap length boxes ∙ length-map (supers_of t) (redacted_box redacts)
    ∙ sym (both_len t (superboxes t 0) (supers_of t) both) in
    let here : slice_get (map (redacted_box redacts) (supers_of t)) last ≡ Some h.active =
    ap (slice_get (map (redacted_box redacts) (supers_of t))) (end ∙ ap (λ n. n - 1) (count ∙ sym size)) ∙ ap (λ xs. slice_get xs (length (supers_in (redacted_boxes redacts (boxes_in t))) - 1)) (sym boxes) ∙ h.is_active in
    let tree =
    mapped_from (redacted_box redacts) (slice_get (supers_of t) last) h.active
    (sym (get_map (redacted_box redacts) (supers_of t) last) ∙ here) in
    let found = mapped_from (λ (m : ManifestBoxes). m.whole) (slice_get store last) whole (sym at) in
    let stored : slice_get (map (manifest_boxes t) (superboxes t 0)) last ≡ Some found.0 =
    ap (λ xs. slice_get xs last) (sym is) ∙ found.1 in
    let index =
    mapped_from (manifest_boxes t) (slice_get (superboxes t 0) last) found.0
    (sym (get_map (manifest_boxes t) (superboxes t 0) last) ∙ stored) in
    let same : index.0 ≡ whole = ap (λ (m : ManifestBoxes). m.whole) index.2 ∙ found.2 in
    let own : At t whole tree.0 =
    both_get t (superboxes t 0) (supers_of t) last whole tree.0 both (index.1 ∙ ap Some same) tree.1 in
    let box : (box_at t whole).box ≡ node tree.0 = at_box t whole tree.0 own in
    let signed : Some sign ≡ Some found.0.signature =
    signs ∙ ap (option_map (λ (m : ManifestBoxes). m.signature)) found.1 in
    let sign_is : sign ≡ signature_in t (superboxes t whole) =
    (let e : sign ≡ found.0.signature = cc (signed) in e) ∙ ap (λ (m : ManifestBoxes). m.signature) (sym index.2)
    ∙ ap (λ (n : ℕ). signature_in t (superboxes t n)) same in
    record {
      label =
          ap name_in box
          ∙ ap (λ (o : Option (List ℕ)). unwrap_or o [])
          (sym (redacted_label redacts tree.0) ∙ ap (λ (u : Tree). any_label (node u)) tree.2 ∙ h.label);
      contents =
          ap (λ (b : AnyBox). any_contents (redacted_any redacts b)) box ∙ redacted_contents redacts tree.0
          ∙ ap contents_of tree.2 ∙ h.contents;
      signed = ap (λ (o : Option ℕ). option_map_or (λ i. any_contents (box_at t i).box) o []) sign_is
          ∙ sign_of t whole tree.0 h.signature p.signed own (sym (signature_stays redacts tree.0) ∙ ap (λ (u : Tree). find is_signature_box (supers_of u)) tree.2 ∙ h.is_signature) h.signed;
    }
  where
    supers_same : (u : Tree) → supers_in (boxes_in u) ≡ supers_of u
    supers_same (leaf b) = refl
    supers_same (super wide d us) = refl

-- a parent of these parts
abbrev pub made_parent : List ℕ → List ℕ → List ℕ → NamedManifest
made_parent label contents signed = record { label = label; contents = contents; signed = signed }

-- a parent with these parts is the one that is made of them
pub same_parent : (a b c : List ℕ) (p : NamedManifest) → a ≡ p.label → b ≡ p.contents → c ≡ p.signed
    → p ≡ made_parent a b c
same_parent a b c p l m n =
    sym
    (ap (λ (x : List ℕ). made_parent x b c) l ∙ ap (λ (x : List ℕ). made_parent p.label x c) m ∙ ap (λ (x : List ℕ). made_parent p.label p.contents x) n)
