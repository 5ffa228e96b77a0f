-- What is known of a store that isn't refused: its boxes are manifests with labels that differ.
use Rattle.std.specs.Prelude.{⊤, unwrap_or}
use Rattle.std.proofs.Common.{◌≡◌, ◌≢◌, ℕ, zero, suc, ◌<◌, Bool, true, false, cond, List, [], ◌∷◌, length, map, find, Option, Some, None, slice_get, refl, sym, ap, ◌∙◌, subst, arith, bytes_eq}
use Rattle.std.specs.Prelude.{option_map}
use Rattle.std.specs.List.{AllByRecursion, flat_map}
use Rattle.std.proofs.lemmas.Bool.{eqb-false, false≢true, not-false, or_parts}
use Rattle.std.proofs.lemmas.Option.{same_Some}
use Rattle.std.proofs.lemmas.Slice.Eq.{bytes_eq-Decides}
use Rattle.c2_spec.specs.C2pa.Manifest.{Manifest, StoreTest, count_tests, is_manifest, is_manifest_label, manifest_tests, store_refusal, store_tests, superboxes}
use Rattle.c2_spec.specs.Jumbf.Boxes.{any_label, box_at}
use Rattle.c2_spec.specs.Jumbf.Tree.{AreDistinctLabels, AreLegalTrees, IsLegalTree, IsNewLabel, Tree, Trees, leaf, more, none, super, tree_label, tree_labels}
use Rattle.c2_rules.specs.Chains.{LabelsDiffer, label_in}
use Rattle.c2_rules.specs.Ingredients.{label_text}
use Rattle.c2_rules.specs.Readings.{AreReadings, IsReading, Reading}
use Rattle.c2_new_file_spec.specs.Manifests.{manifest_of, supers_in, supers_of}
use Rattle.c2_new_file_spec.specs.Written.{IsStoreBox}
use Rattle.c2_new_file_spec.proofs.ByIndex.{Both, at_box, supers_any}
use Rattle.c2_new_file_spec.specs.Redacting.{boxes_in}
use Rattle.c2_new_file_spec.specs.Refusing.{has_manifest}
use Rattle.c2_lemmas.proofs.Each.{each_back, each_front, zip_length}
use Rattle.c2_lemmas.proofs.Lists.{mapped_length}

-- ---- tests

-- a test that doesn't fail
abbrev Passes : StoreTest → Type 0
Passes t = t.fails ≡ false

-- where nothing is refused, all tests pass
none_fails : (ts : List StoreTest)
    → option_map (λ (t : StoreTest). t.refusal) (find (λ (t : StoreTest). t.fails) ts) ≡ None → AllByRecursion Passes ts
none_fails [] h = tt
none_fails (t ∷ ts) h = go t.fails refl (none_fails ts) h
  where
    go : (b : Bool) → t.fails ≡ b
        → (option_map (λ (t : StoreTest). t.refusal) (find (λ (t : StoreTest). t.fails) ts) ≡ None → AllByRecursion Passes ts)
        → option_map (λ (t : StoreTest). t.refusal) (cond b (Some t) (find (λ (t : StoreTest). t.fails) ts)) ≡ None
        → AllByRecursion Passes (t ∷ ts)
    go true e k g = absurd (cc (g))
    go false e k g = (e, k g)

-- where all tests pass, each box is that of a manifest
boxes_pass : (t : Tree) (is : List ℕ) (ss : List Tree) → Both t is ss
    → AllByRecursion Passes (flat_map (manifest_tests t) is) → AllByRecursion IsStoreBox ss
unfolding Both
boxes_pass t [] [] h p = tt
boxes_pass t [] (s ∷ ss) h p = absurd h
boxes_pass t (i ∷ is) [] h p = absurd h
boxes_pass t (i ∷ is) (s ∷ ss) h p =
    let box = at_box t i s h.0 in (
      record {
        manifest = sym (ap is_manifest box) ∙ not-false (is_manifest (box_at t i).box) p.0;
        label =
            sym (ap (λ b. is_manifest_label (any_label b)) box)
            ∙ not-false (is_manifest_label (any_label (box_at t i).box)) p.1.0;
      },
      boxes_pass t is ss h.1 p.1.1,
    )

-- as many indices as boxes
pub both_len : (t : Tree) (is : List ℕ) (ss : List Tree) → Both t is ss → length is ≡ length ss
unfolding Both
both_len t [] [] h = refl
both_len t [] (s ∷ ss) h = absurd h
both_len t (i ∷ is) [] h = absurd h
both_len t (i ∷ is) (s ∷ ss) h = ap suc (both_len t is ss h.1)

-- each superbox of a store is a manifest
pub store_boxes : (t : Tree) → store_refusal t ≡ None → AllByRecursion IsStoreBox (supers_of t)
store_boxes t h =
    let all = none_fails (store_tests t) h in
    boxes_pass t (superboxes t 0) (supers_of t) (supers_any t)
    (each_front Passes (flat_map (manifest_tests t) (superboxes t 0)) (count_tests (length (superboxes t 0))) all.1)

-- a store has at least one superbox
pub some_boxes : (t : Tree) → store_refusal t ≡ None → 0 < length (supers_of t)
some_boxes t h =
    let all = none_fails (store_tests t) h in
    let last =
    each_back Passes (flat_map (manifest_tests t) (superboxes t 0)) (count_tests (length (superboxes t 0))) all.1 in
    positive (length (supers_of t))
    (λ e. eqb-false (length (superboxes t 0)) 0 last.0 (both_len t (superboxes t 0) (supers_of t) (supers_any t) ∙ e))
  where
    positive : (n : ℕ) → (n ≡ 0 → ⊥) → 0 < n
    positive n h = omega (arith, h)

-- the superboxes of a store, among its boxes
pub supers_are : (t : Tree) → supers_of t ≡ supers_in (boxes_in t)
supers_are (leaf b) = refl
supers_are (super wide d us) = refl

-- what is inside a legal tree
pub record IsLegalInside (t : Tree) : Type 0 where
  pub legal : AreLegalTrees 2 (boxes_in t)
  pub distinct : AreDistinctLabels (tree_labels (boxes_in t))

-- a legal tree is so inside
pub legal_inside : (t : Tree) → IsLegalTree 1 t → IsLegalInside t
legal_inside (leaf b) h = record { legal = tt; distinct = tt }
legal_inside (super wide d us) h = record { legal = h.3; distinct = h.4 }

-- each superbox among legal boxes is legal
pub legal_at : (ts : Trees) (depth i : ℕ) (t : Tree) → AreLegalTrees depth ts → slice_get (supers_in ts) i ≡ Some t
    → IsLegalTree depth t
legal_at none depth i t h e = absurd (cc (e))
legal_at (more (leaf b) ts) depth i t h e = legal_at ts depth i t h.1 e
legal_at (more (super wide d us) ts) depth zero t h e = subst (IsLegalTree depth) (same_Some (super wide d us) t e) h.0
legal_at (more (super wide d us) ts) depth (suc i) t h e = legal_at ts depth i t h.1 e

-- ---- lengths

-- as many boxes as readings
pub read_len : (ts : List Tree) (rs : List Reading) → AreReadings (map manifest_of ts) rs → length ts ≡ length rs
read_len ts rs h = sym (mapped_length manifest_of ts) ∙ zip_length IsReading (map manifest_of ts) rs h

-- ---- labels

-- a manifest's label is there
pub label_some : (o : Option (List ℕ)) → is_manifest_label o ≡ true → o ≡ Some (unwrap_or o [])
label_some None e = absurd (cc (e))
label_some (Some l) e = refl

-- a box's label is that of its reading
pub read_label : (s : Tree) (r : Reading) → IsReading (manifest_of s) r → IsStoreBox s
    → tree_label s ≡ Some (label_in r)
read_label (leaf b) r h k = absurd (cc (k.label))
read_label (super wide d us) r h k =
    label_some d.label k.label ∙ ap (λ (m : Manifest). Some (label_text m)) (sym h.same)

-- readings whose labels differ from one, and from each other
abbrev DiffersFrom : List ℕ → List Reading → Type 0
DiffersFrom label rs = AllByRecursion (λ (r : Reading). label_in r ≢ label) rs

-- labels that all differ, manifest by manifest
unfoldable RsDiffer : List Reading → Type 0
RsDiffer [] = ⊤
RsDiffer (r ∷ rs) = DiffersFrom (label_in r) rs × RsDiffer rs

-- a label that no box has, no reading has
later_differ : (label : List ℕ) (ts : Trees) (rs : List Reading) → AreReadings (map manifest_of (supers_in ts)) rs
    → AllByRecursion IsStoreBox (supers_in ts) → AllByRecursion (λ o. o ≢ Some label) (tree_labels ts)
    → DiffersFrom label rs
later_differ label none [] h k n = tt
later_differ label none (r ∷ rs) h k n = absurd h
later_differ label (more (leaf b) ts) rs h k n = later_differ label ts rs h k n.1
later_differ label (more (super wide d us) ts) [] h k n = absurd h
later_differ label (more (super wide d us) ts) (r ∷ rs) h k n =
    ((λ e. n.0 (read_label (super wide d us) r h.0 k.0 ∙ ap Some e)), later_differ label ts rs h.1 k.1 n.1)

-- a label that is new among others differs from each
new_from : (o : Option (List ℕ)) (l : List ℕ) (os : List (Option (List ℕ))) → o ≡ Some l → IsNewLabel o os
    → AllByRecursion (λ p. p ≢ Some l) os
new_from None l os e h = absurd (cc (e))
new_from (Some t) l os e h = let same : t ≡ l = same_Some t l e in subst (λ (x : List ℕ). AllByRecursion (λ p. p ≢ Some x) os) same h

-- where the labels of boxes differ, those of their readings do
rs_differ : (ts : Trees) (rs : List Reading) → AreReadings (map manifest_of (supers_in ts)) rs
    → AllByRecursion IsStoreBox (supers_in ts) → AreDistinctLabels (tree_labels ts) → RsDiffer rs
unfolding RsDiffer
rs_differ none [] h k d = tt
rs_differ none (r ∷ rs) h k d = absurd h
rs_differ (more (leaf b) ts) rs h k d = rs_differ ts rs h k d.1
rs_differ (more (super wide e us) ts) [] h k d = absurd h
rs_differ (more (super wide e us) ts) (r ∷ rs) h k d =
    (later_differ (label_in r) ts rs h.1 k.1 (new_from e.label (label_in r) (tree_labels ts) (read_label (super wide e us) r h.0 k.0) d.0), rs_differ ts rs h.1 k.1 d.1)

-- at each place
differs_at : (label : List ℕ) (rs : List Reading) (j : ℕ) (s : Reading) → DiffersFrom label rs → slice_get rs j ≡ Some s
    → label_in s ≢ label
differs_at label [] j s h e = absurd (cc (e))
differs_at label (r ∷ rs) zero s h e = subst (λ (x : Reading). label_in x ≢ label) (same_Some r s e) h.0
differs_at label (r ∷ rs) (suc j) s h e = differs_at label rs j s h.1 e

-- two places with one label are one
labels_differ : (rs : List Reading) → RsDiffer rs → LabelsDiffer rs
unfolding RsDiffer
labels_differ [] h i j r s e f g = absurd (cc (e))
labels_differ (x ∷ xs) h zero zero r s e f g = refl
labels_differ (x ∷ xs) h zero (suc j) r s e f g =
    absurd (differs_at (label_in x) xs j s h.0 f (sym g ∙ ap label_in (sym (same_Some x r e))))
labels_differ (x ∷ xs) h (suc i) zero r s e f g =
    absurd (differs_at (label_in x) xs i r h.0 e (g ∙ ap label_in (sym (same_Some x s f))))
labels_differ (x ∷ xs) h (suc i) (suc j) r s e f g = ap suc (labels_differ xs h.1 i j r s e f g)

-- the manifests of a store have different labels
pub store_differs : (ts : Trees) (rs : List Reading) → AreReadings (map manifest_of (supers_in ts)) rs
    → AllByRecursion IsStoreBox (supers_in ts) → AreDistinctLabels (tree_labels ts) → LabelsDiffer rs
store_differs ts rs h k d = labels_differ rs (rs_differ ts rs h k d)

-- a label that no manifest has is that of no box
pub none_taken : (label : List ℕ) (ts : Trees) (rs : List Reading) → AreReadings (map manifest_of (supers_in ts)) rs
    → AllByRecursion IsStoreBox (supers_in ts) → has_manifest rs label ≡ false
    → AllByRecursion (λ o. o ≢ Some label) (tree_labels ts)
none_taken label none rs h k n = tt
none_taken label (more (leaf b) ts) rs h k n = (λ e. cc (e), none_taken label ts rs h k n)
none_taken label (more (super wide d us) ts) [] h k n = absurd h
none_taken label (more (super wide d us) ts) (r ∷ rs) h k n =
    let parts = or_parts (bytes_eq (label_in r) label) (has_manifest rs label) n in
    ((λ e. false≢true (sym parts.0 ∙ (bytes_eq-Decides (label_in r) label).1 (same_Some (label_in r) label (sym (read_label (super wide d us) r h.0 k.0) ∙ e)))), none_taken label ts rs h.1 k.1 parts.1)
