-- What was written, part by part.
use Rattle.std.proofs.Common.{◌≡◌, ℕ, List, ◌++◌, Result, IfOk, sym, ap, subst, ◌∙◌, append_assoc}

-- what may be written is one head and what follows it
pub grown_further : {X E : Type 0} (r : Result X E) (old head rest first second whole : List ℕ) → first ≡ old ++ head
    → IfOk r (λ _. second ≡ first ++ rest) → whole ≡ head ++ rest → IfOk r (λ _. second ≡ old ++ whole)
grown_further r old head rest first second whole p h e =
    subst (λ x. IfOk r (λ _. second ≡ x))
    (ap (λ x. x ++ rest) p ∙ append_assoc old head rest ∙ ap (λ x. old ++ x) (sym e)) h

-- once a part of what is left is written, the rest of it is left
pub written_on : (old part rest new left whole : List ℕ) → new ≡ old ++ part → left ≡ part ++ rest → old ++ left ≡ whole
    → new ++ rest ≡ whole
written_on old part rest new left whole p q h =
    ap (λ x. x ++ rest) p ∙ append_assoc old part rest ∙ ap (λ x. old ++ x) (sym q) ∙ h
