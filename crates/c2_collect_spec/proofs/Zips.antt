-- Lists that correspond, and what is picked of them; and the labels of joined boxes.
use Rattle.std.specs.Prelude.{unwrap_or}
use Rattle.std.proofs.Common.{◌≡◌, ◌≢◌, ℕ, zero, suc, ◌+◌, ◌≤◌, Bool, true, false, ◌||◌, cond, List, [], ◌∷◌, ◌++◌, map, Option, Some, None, slice_get, refl, sym, ap, ◌∙◌, subst, arith, bytes_eq}
use Rattle.std.specs.List.{AllByRecursion, AllZip}
use Rattle.std.proofs.lemmas.Bool.{false≢true, or_parts, true≢false}
use Rattle.std.proofs.lemmas.Option.{same_Some}
use Rattle.std.proofs.lemmas.Slice.Eq.{bytes_eq-Decides}
use Rattle.c2_spec.specs.C2pa.Manifest.{is_given}
use Rattle.c2_spec.specs.Jumbf.Tree.{AreDistinctLabels, AreLegalTrees, IsLegalTree, IsNewLabel, Tree, Trees, leaf, more, none, super, tree_label, tree_labels}
use Rattle.c2_rules.specs.Chains.{label_in}
use Rattle.c2_rules.specs.Readings.{AreReadings, IsReading, Reading}
use Rattle.c2_chain_spec.specs.Joined.{has_manifest, picked}
use Rattle.c2_new_file_spec.specs.Manifests.{is_super, manifest_of, supers_in}
use Rattle.c2_new_file_spec.specs.Written.{IsStoreBox}
use Rattle.c2_new_file_spec.proofs.Stores.{read_label}
use Rattle.c2_collect_spec.specs.Sides.{boxes_then, has_same_label}
use Rattle.c2_lemmas.proofs.Each.{each_append}

-- ---- lists that correspond

-- what stands at a place of both
pub record ZipAt {A B : Type 0} (R : A → B → Type 0) (xs : List A) (i : ℕ) (y : B) : Type 0 where
  pub it : A
  pub is : slice_get xs i ≡ Some it
  pub corresponds : R it y

-- to what stands in the second
pub zip_at : {A B : Type 0} (R : A → B → Type 0) (xs : List A) (ys : List B) (i : ℕ) (y : B) → AllZip R xs ys
    → slice_get ys i ≡ Some y → ZipAt R xs i y
zip_at R [] [] i y h e = absurd (cc (e))
zip_at R [] (z ∷ ys) i y h e = absurd h
zip_at R (x ∷ xs) [] i y h e = absurd h
zip_at R (x ∷ xs) (z ∷ ys) zero y h e = record { it = x; is = refl; corresponds = subst (R x) (same_Some z y e) h.0 }
zip_at R (x ∷ xs) (z ∷ ys) (suc i) y h e =
    let at = zip_at R xs ys i y h.1 e in record { it = at.it; is = at.is; corresponds = at.corresponds }

-- what is picked of both corresponds, where the same places are
pub zip_picked : {A B : Type 0} (R : A → B → Type 0) (p : ℕ → A → Bool) (q : ℕ → B → Bool) (k : ℕ) (xs : List A) (ys : List B)
    → ((i : ℕ) (x : A) (y : B) → R x y → p i x ≡ q i y) → AllZip R xs ys → AllZip R (picked p k xs) (picked q k ys)
zip_picked R p q k [] [] same h = tt
zip_picked R p q k [] (y ∷ ys) same h = absurd h
zip_picked R p q k (x ∷ xs) [] same h = absurd h
zip_picked {A} {B} R p q k (x ∷ xs) (y ∷ ys) same h =
    step (p k x) (q k y) (same k x y h.0) (zip_picked R p q (k + 1) xs ys same h.1)
  where
    step : (a b : Bool) → a ≡ b → AllZip R (picked p (k + 1) xs) (picked q (k + 1) ys)
        → AllZip R (cond a (x ∷ picked p (k + 1) xs) (picked p (k + 1) xs))
        (cond b (y ∷ picked q (k + 1) ys) (picked q (k + 1) ys))
    step true true e rest = (h.0, rest)
    step true false e rest = absurd (true≢false e)
    step false true e rest = absurd (false≢true e)
    step false false e rest = rest

-- what holds of all holds of what is picked
pub all_picked : {X : Type 0} (P : X → Type 0) (p : ℕ → X → Bool) (k : ℕ) (xs : List X) → AllByRecursion P xs
    → AllByRecursion P (picked p k xs)
all_picked P p k [] h = tt
all_picked {X} P p k (x ∷ xs) h = step (p k x) (all_picked P p (k + 1) xs h.1)
  where
    step : (b : Bool) → AllByRecursion P (picked p (k + 1) xs)
        → AllByRecursion P (cond b (x ∷ picked p (k + 1) xs) (picked p (k + 1) xs))
    step true rest = (h.0, rest)
    step false rest = rest

-- what a test says of each that it picks holds of all that is picked
pub picked_pass : {X : Type 0} (P : X → Type 0) (p : ℕ → X → Bool) (k : ℕ) (xs : List X)
    → ((i : ℕ) (x : X) → p i x ≡ true → P x) → AllByRecursion P (picked p k xs)
picked_pass P p k [] h = tt
picked_pass {X} P p k (x ∷ xs) h = step (p k x) refl (picked_pass P p (k + 1) xs h)
  where
    step : (b : Bool) → p k x ≡ b → AllByRecursion P (picked p (k + 1) xs)
        → AllByRecursion P (cond b (x ∷ picked p (k + 1) xs) (picked p (k + 1) xs))
    step true e rest = (h k x e, rest)
    step false e rest = rest

-- a tree and its reading
abbrev pub Reads : Tree → Reading → Type 0
Reads t r = IsReading (manifest_of t) r × IsStoreBox t

-- trees and their readings
pub reads_zip : (ts : List Tree) (rs : List Reading) → AreReadings (map manifest_of ts) rs
    → AllByRecursion IsStoreBox ts → AllZip Reads ts rs
reads_zip [] [] h k = tt
reads_zip [] (r ∷ rs) h k = absurd h
reads_zip (t ∷ ts) [] h k = absurd h
reads_zip (t ∷ ts) (r ∷ rs) h k = ((h.0, k.0), reads_zip ts rs h.1 k.1)

-- trees one by one with their readings are read as these
pub zip_reads : (ts : List Tree) (rs : List Reading) → AllZip Reads ts rs → AreReadings (map manifest_of ts) rs
zip_reads [] [] h = tt
zip_reads [] (r ∷ rs) h = absurd h
zip_reads (t ∷ ts) [] h = absurd h
zip_reads (t ∷ ts) (r ∷ rs) h = (h.0.0, zip_reads ts rs h.1)

-- ---- labels

-- a box of a label is there exactly where a reading of it is
pub box_label : (ts : List Tree) (rs : List Reading) (t : Tree) (r : Reading) → AllZip Reads ts rs → Reads t r
    → has_same_label ts t ≡ has_manifest rs (label_in r)
box_label [] [] t r h k = refl
box_label [] (q ∷ rs) t r h k = absurd h
box_label (u ∷ ts) [] t r h k = absurd h
box_label (u ∷ ts) (q ∷ rs) t r h k =
    ap (λ o. is_given o (unwrap_or (tree_label t) []) || has_same_label ts t) (read_label u q h.0.0 h.0.1)
    ∙ ap (λ o. bytes_eq (label_in q) (unwrap_or o []) || has_same_label ts t) (read_label t r k.0 k.1)
    ∙ ap (λ b. bytes_eq (label_in q) (label_in r) || b) (box_label ts rs t r h.1 k)

-- labels among others
abbrev pub labels_of : List Tree → List (Option (List ℕ))
labels_of ts = map tree_label ts

-- a label that is new among two lists
new_append : (o : Option (List ℕ)) (xs ys : List (Option (List ℕ))) → IsNewLabel o xs → IsNewLabel o ys
    → IsNewLabel o (xs ++ ys)
new_append None xs ys h k = tt
new_append (Some l) xs ys h k = each_append (λ p. p ≢ Some l) xs ys h k

-- labels in a row differ
distinct_append : (xs ys : List (Option (List ℕ))) → AreDistinctLabels xs → AreDistinctLabels ys
    → AllByRecursion (λ o. IsNewLabel o ys) xs → AreDistinctLabels (xs ++ ys)
distinct_append [] ys h k a = k
distinct_append (x ∷ xs) ys h k a = (new_append x xs ys h.0 a.0, distinct_append xs ys h.1 k a.1)

-- a label that is new among boxes is so among the superboxes of them
new_supers : (o : Option (List ℕ)) (ts : Trees) → IsNewLabel o (tree_labels ts)
    → IsNewLabel o (labels_of (supers_in ts))
new_supers None ts h = tt
new_supers (Some l) none h = tt
new_supers (Some l) (more (leaf b) ts) h = new_supers (Some l) ts h.1
new_supers (Some l) (more (super wide d us) ts) h = (h.0, new_supers (Some l) ts h.1)

-- labels of superboxes differ where those of all boxes do
pub supers_distinct : (ts : Trees) → AreDistinctLabels (tree_labels ts) → AreDistinctLabels (labels_of (supers_in ts))
supers_distinct none h = tt
supers_distinct (more (leaf b) ts) h = supers_distinct ts h.1
supers_distinct (more (super wide d us) ts) h = (new_supers d.label ts h.0, supers_distinct ts h.1)

-- a label that is new among trees is so among those that are picked
new_picked : (o : Option (List ℕ)) (p : ℕ → Tree → Bool) (k : ℕ) (ts : List Tree) → IsNewLabel o (labels_of ts)
    → IsNewLabel o (labels_of (picked p k ts))
new_picked None p k ts h = tt
new_picked (Some l) p k [] h = tt
new_picked (Some l) p k (t ∷ ts) h = step (p k t) (new_picked (Some l) p (k + 1) ts h.1)
  where
    step : (b : Bool) → IsNewLabel (Some l) (labels_of (picked p (k + 1) ts))
        → IsNewLabel (Some l) (labels_of (cond b (t ∷ picked p (k + 1) ts) (picked p (k + 1) ts)))
    step true rest = (h.0, rest)
    step false rest = rest

-- labels of those that are picked differ
pub picked_distinct : (p : ℕ → Tree → Bool) (k : ℕ) (ts : List Tree) → AreDistinctLabels (labels_of ts)
    → AreDistinctLabels (labels_of (picked p k ts))
picked_distinct p k [] h = tt
picked_distinct p k (t ∷ ts) h = step (p k t) (picked_distinct p (k + 1) ts h.1)
  where
    step : (b : Bool) → AreDistinctLabels (labels_of (picked p (k + 1) ts))
        → AreDistinctLabels (labels_of (cond b (t ∷ picked p (k + 1) ts) (picked p (k + 1) ts)))
    step true rest = (new_picked (tree_label t) p (k + 1) ts h.0, rest)
    step false rest = rest

-- no box has the label of this tree
abbrev pub IsFree : Trees → Tree → Type 0
IsFree olds t = AllByRecursion (λ o. o ≢ tree_label t) (tree_labels olds)

-- where no manifest has a label, no box has
pub free_of : (olds : Trees) (t : Tree) (l : List ℕ) → tree_label t ≡ Some l → has_same_label (supers_in olds) t ≡ false
    → IsFree olds t
free_of none t l e h = tt
free_of (more (leaf b) ts) t l e h = (λ f. cc (f, e), free_of ts t l e h)
free_of (more (super wide d us) ts) t l e h =
    let parts = or_parts (is_given d.label (unwrap_or (tree_label t) [])) (has_same_label (supers_in ts) t) h in
    ((λ f. false≢true (sym parts.0 ∙ ap (λ o. is_given o (unwrap_or (tree_label t) [])) (f ∙ e) ∙ ap (λ o. bytes_eq l (unwrap_or o [])) e ∙ (bytes_eq-Decides l l).1 refl)), free_of ts t l e parts.1)

-- a box of a label that none of these trees has
new_among : (o : Option (List ℕ)) (xs : List Tree) → AllByRecursion (λ (x : Tree). o ≢ tree_label x) xs
    → IsNewLabel o (labels_of xs)
new_among None xs h = tt
new_among (Some l) [] h = tt
new_among (Some l) (x ∷ xs) h = (λ e. h.0 (sym e), new_among (Some l) xs h.1)

-- the first box, of each
free_first : (t : Tree) (ts : Trees) (xs : List Tree) → AllByRecursion (IsFree (more t ts)) xs
    → AllByRecursion (λ (x : Tree). tree_label t ≢ tree_label x) xs
free_first t ts [] h = tt
free_first t ts (x ∷ xs) h = (h.0.0, free_first t ts xs h.1)

-- the rest, of each
free_rest : (t : Tree) (ts : Trees) (xs : List Tree) → AllByRecursion (IsFree (more t ts)) xs
    → AllByRecursion (IsFree ts) xs
free_rest t ts [] h = tt
free_rest t ts (x ∷ xs) h = (h.0.1, free_rest t ts xs h.1)

-- labels of the boxes are new among these
pub all_new : (olds : Trees) (xs : List Tree) → AllByRecursion (IsFree olds) xs
    → AllByRecursion (λ o. IsNewLabel o (labels_of xs)) (tree_labels olds)
all_new none xs h = tt
all_new (more t ts) xs h = (new_among (tree_label t) xs (free_first t ts xs h), all_new ts xs (free_rest t ts xs h))

-- ---- boxes and trees behind them

-- trees alone
then_labels_none : (xs : List Tree) → tree_labels (boxes_then none xs) ≡ labels_of xs
then_labels_none [] = refl
then_labels_none (x ∷ xs) = ap (λ os. tree_label x ∷ os) (then_labels_none xs)

-- the labels of boxes and then trees
then_labels : (ts : Trees) (xs : List Tree) → tree_labels (boxes_then ts xs) ≡ tree_labels ts ++ labels_of xs
then_labels none xs = then_labels_none xs
then_labels (more t ts) xs = ap (λ os. tree_label t ∷ os) (then_labels ts xs)

-- the labels of boxes and then trees differ
pub then_distinct : (ts : Trees) (xs : List Tree) → AreDistinctLabels (tree_labels ts)
    → AreDistinctLabels (labels_of xs) → AllByRecursion (IsFree ts) xs
    → AreDistinctLabels (tree_labels (boxes_then ts xs))
then_distinct ts xs h k free =
    subst AreDistinctLabels (sym (then_labels ts xs))
    (distinct_append (tree_labels ts) (labels_of xs) h k (all_new ts xs free))

-- trees alone are legal
then_legal_none : (depth : ℕ) (xs : List Tree) → AllByRecursion (IsLegalTree depth) xs
    → AreLegalTrees depth (boxes_then none xs)
then_legal_none depth [] h = tt
then_legal_none depth (x ∷ xs) h = (h.0, then_legal_none depth xs h.1)

-- all are
pub then_legal : (depth : ℕ) (ts : Trees) (xs : List Tree) → AreLegalTrees depth ts
    → AllByRecursion (IsLegalTree depth) xs → AreLegalTrees depth (boxes_then ts xs)
then_legal depth none xs h k = then_legal_none depth xs k
then_legal depth (more t ts) xs h k = (h.0, then_legal depth ts xs h.1 k)

-- the superboxes among trees alone
then_supers_none : (xs : List Tree) → AllByRecursion (λ (x : Tree). is_super x ≡ true) xs
    → supers_in (boxes_then none xs) ≡ xs
then_supers_none [] h = refl
then_supers_none (x ∷ xs) h =
    ap (λ b. cond b (x ∷ supers_in (boxes_then none xs)) (supers_in (boxes_then none xs))) h.0
    ∙ ap (λ (zs : List Tree). x ∷ zs) (then_supers_none xs h.1)

-- the superboxes of all
pub then_supers : (ts : Trees) (xs : List Tree) → AllByRecursion (λ (x : Tree). is_super x ≡ true) xs
    → supers_in (boxes_then ts xs) ≡ supers_in ts ++ xs
then_supers none xs h = then_supers_none xs h
then_supers (more t ts) xs h = step (is_super t) (then_supers ts xs h)
  where
    step : (b : Bool) → supers_in (boxes_then ts xs) ≡ supers_in ts ++ xs
        → cond b (t ∷ supers_in (boxes_then ts xs)) (supers_in (boxes_then ts xs)) ≡ cond b (t ∷ supers_in ts)
        (supers_in ts) ++ xs
    step true e = ap (λ (zs : List Tree). t ∷ zs) e
    step false e = e

-- each superbox is one
pub are_supers : (ts : Trees) → AllByRecursion (λ (x : Tree). is_super x ≡ true) (supers_in ts)
are_supers none = tt
are_supers (more (leaf b) ts) = are_supers ts
are_supers (more (super wide d us) ts) = (refl, are_supers ts)

-- each is legal
pub legal_supers : (depth : ℕ) (ts : Trees) → AreLegalTrees depth ts
    → AllByRecursion (IsLegalTree depth) (supers_in ts)
legal_supers depth none h = tt
legal_supers depth (more (leaf b) ts) h = legal_supers depth ts h.1
legal_supers depth (more (super wide d us) ts) h = (h.0, legal_supers depth ts h.1)

-- ---- one tree

-- what is legal is so higher up
mutual
  pub higher : (depth most : ℕ) (t : Tree) → depth ≤ most → IsLegalTree most t → IsLegalTree depth t
  higher depth most (leaf b) le h = h
  higher depth most (super wide d us) le h =
      (omega (arith, le, h.0), h.1, h.2, higher_all (depth + 1) (most + 1) us (omega (arith, le)) h.3, h.4)

  -- trees side by side that are legal are so higher up
  pub higher_all : (depth most : ℕ) (ts : Trees) → depth ≤ most → AreLegalTrees most ts → AreLegalTrees depth ts
  higher_all depth most none le h = tt
  higher_all depth most (more t ts) le h = (higher depth most t le h.0, higher_all depth most ts le h.1)
