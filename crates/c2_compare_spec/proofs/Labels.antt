-- Superboxes side by side have different labels: two of one label stand at one place.
use Rattle.std.proofs.Common.{◌≡◌, ◌≢◌, ℕ, zero, suc, ◌<◌, Bool, true, false, cond, List, [], ◌∷◌, map, Option, Some, None, slice_get, refl, sym, ap, ◌∙◌}
use Rattle.std.specs.List.{AllByRecursion, filter}
use Rattle.std.proofs.lemmas.Option.{same_Some}
use Rattle.c2_spec.specs.Jumbf.Tree.{Tree, IsLegalTree, IsNewLabel, AreDistinctLabels}
use Rattle.c2_spec.specs.Jumbf.Boxes.{tree_count, child_indices}
use Rattle.c2_spec.specs.C2pa.Manifest.{is_superbox, superboxes, inside}
use Rattle.c2_spec.proofs.JumbfChildren.{label_at, distinct_children}
use Rattle.c2_spec.proofs.Openings.{new_filtered}

-- Members of a list at two places have one label only where the places are one.
abbrev pub AreApart : (ℕ → Option (List ℕ)) → List ℕ → Type 0
AreApart f xs =
    (p q i j : ℕ) (label : List ℕ) → slice_get xs p ≡ Some i → slice_get xs q ≡ Some j → f i ≡ Some label
    → f j ≡ Some label → p ≡ q

-- a label that is new to a list is that of none of its members
unlike : (f : ℕ → Option (List ℕ)) (o : Option (List ℕ)) (xs : List ℕ) (q j : ℕ) (label : List ℕ)
    → IsNewLabel o (map f xs)
    → o ≡ Some label → slice_get xs q ≡ Some j → f j ≡ Some label → ⊥
unlike f None xs q j label new is at same = cc (is)
unlike f (Some t) xs q j label new is at same = by xs q new at
  where
    by : (ys : List ℕ) (k : ℕ) → AllByRecursion (λ x. x ≢ Some t) (map f ys) → slice_get ys k ≡ Some j → ⊥
    by [] k h e = cc (e)
    by (y ∷ ys) zero h e = h.0 (ap f (same_Some y j e) ∙ same ∙ sym is)
    by (y ∷ ys) (suc k) h e = by ys k h.1 e

-- lists of different labels are apart
apart : (f : ℕ → Option (List ℕ)) (xs : List ℕ) → AreDistinctLabels (map f xs) → AreApart f xs
apart f [] h p q i j label at_p at_q e g = absurd (cc (at_p))
apart f (x ∷ xs) h zero zero i j label at_p at_q e g = refl
apart f (x ∷ xs) h zero (suc q) i j label at_p at_q e g =
    absurd (unlike f (f x) xs q j label h.0 (ap f (same_Some x i at_p) ∙ e) at_q g)
apart f (x ∷ xs) h (suc p) zero i j label at_p at_q e g =
    absurd (unlike f (f x) xs p i label h.0 (ap f (same_Some x j at_q) ∙ g) at_p e)
apart f (x ∷ xs) h (suc p) (suc q) i j label at_p at_q e g =
    ap suc (apart f xs h.1 p q i j label at_p at_q e g)

-- by whether the first is kept
distinct_more : (f : ℕ → Option (List ℕ)) (x : ℕ) (ys : List ℕ) (b : Bool) → IsNewLabel (f x) (map f ys)
    → AreDistinctLabels (map f ys)
    → AreDistinctLabels (map f (cond b (x ∷ ys) ys))
distinct_more f x ys true new rest = (new, rest)
distinct_more f x ys false new rest = rest

-- what is kept of a list of different labels has different labels
distinct_filtered : (f : ℕ → Option (List ℕ)) (d : ℕ → Bool) (xs : List ℕ) → AreDistinctLabels (map f xs)
    → AreDistinctLabels (map f (filter d xs))
distinct_filtered f d [] h = tt
distinct_filtered f d (x ∷ xs) h =
    distinct_more f x (filter d xs) (d x) (new_filtered f d (f x) xs h.0) (distinct_filtered f d xs h.1)

-- the superboxes of a box of a legal tree are apart
pub superboxes_apart : (t : Tree) (i : ℕ) → IsLegalTree 1 t → i < tree_count t
    → AreApart (label_at t) (superboxes t i)
superboxes_apart t i legal lt =
    apart (label_at t) (superboxes t i)
    (distinct_filtered (label_at t) (is_superbox t) (child_indices t i) (distinct_children t i lt legal))

-- the superboxes of a box of a legal tree that may be missing are apart
pub inside_apart : (t : Tree) (o : Option ℕ) → IsLegalTree 1 t → ((i : ℕ) → o ≡ Some i → i < tree_count t)
    → AreApart (label_at t) (inside t o)
inside_apart t None legal lt = λ p q i j label at_p at_q e g. absurd (cc (at_p))
inside_apart t (Some i) legal lt = superboxes_apart t i legal (lt i refl)
