-- A label is at one place of labels that are distinct.
use Rattle.std.proofs.Common.{◌≡◌, ℕ, zero, suc, ◌<◌, List, [], ◌∷◌, length, get_or, Option, Some, None, refl, sym, ap, ◌∙◌, arith}
use Rattle.c2_spec.specs.Jumbf.Tree.{IsNewLabel, AreDistinctLabels}
use Rattle.c2_lemmas.proofs.Each.{not_among}

-- a label that is new among some labels is at none of their places
new_among : (label : List ℕ) (o : Option (List ℕ)) (os : List (Option (List ℕ))) (n : ℕ) → IsNewLabel o os
    → o ≡ Some label → n < length os → get_or os n None ≡ Some label → ⊥
new_among label None os n h e l k = cc (e)
new_among label (Some t) os n h e l k = not_among t os n h l (k ∙ sym e)

-- a label is at one place of labels that are distinct
pub distinct_at : (label : List ℕ) (os : List (Option (List ℕ))) (m n : ℕ) → AreDistinctLabels os → m < length os
    → n < length os → get_or os m None ≡ Some label → get_or os n None ≡ Some label → m ≡ n
distinct_at label [] m n h l k d e = absurd (omega (arith, l))
distinct_at label (o ∷ os) zero zero h l k d e = refl
distinct_at label (o ∷ os) zero (suc n) h l k d e = absurd (new_among label o os n h.0 d (omega arith) e)
distinct_at label (o ∷ os) (suc m) zero h l k d e = absurd (new_among label o os m h.0 e (omega arith) d)
distinct_at label (o ∷ os) (suc m) (suc n) h l k d e =
    ap suc (distinct_at label os m n h.1 (omega arith) (omega arith) d e)
