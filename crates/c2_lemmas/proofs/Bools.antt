-- Tests that are joined, turned round and compared.
use Rattle.std.proofs.Common.{Bool, IsTrue, ap, false, inl, inr, not, refl, sym, true, ◌&&◌, ◌||◌, ◌∙◌, ◌≡◌, ◌⊎◌}
use Rattle.std.proofs.lemmas.Bool.{false≢true}

-- nothing is both
pub and_false : (b : Bool) → (b && false) ≡ false
and_false true = refl
and_false false = refl

-- three tests that must all hold may be joined either way
pub and_join : (a b c : Bool) → (a && (b && c)) ≡ ((a && b) && c)
and_join true b c = refl
and_join false b c = refl

-- one condition holds and not another
pub and_not_true : (a b : Bool) → a ≡ true → b ≡ false → (a && not b) ≡ true
and_not_true a b e f = ap (λ x. x && not b) e ∙ ap not f

-- of two conditions that don't both hold the second fails where the first holds
pub and_second : (a b : Bool) → (a && b) ≡ false → a ≡ true → b ≡ false
and_second a b e h = ap (λ c. c && b) (sym h) ∙ e

-- a test of two parts that both hold
pub and_true : (a b : Bool) → a ≡ true → b ≡ true → (a && b) ≡ true
and_true a b p q = ap (λ t. t && b) p ∙ q

-- "and true" changes nothing
pub and_true_is : (a : Bool) → a ≡ (a && true)
and_true_is true = refl
and_true_is false = refl

-- two conditions don't both hold where the first excludes the second
pub and_unless : (a b : Bool) → (a ≡ true → b ≡ false) → (a && b) ≡ false
and_unless true b h = h refl
and_unless false b h = refl

-- of two conditions that both hold each holds
pub both_true : (a b : Bool) → (a && b) ≡ true → (a ≡ true) × (b ≡ true)
both_true true b e = (refl, e)
both_true false b e = absurd cc

-- the first of two facts that both hold
pub first_true : (a b : Bool) → (a && b) ≡ true → a ≡ true
first_true true b h = refl
first_true false b h = h

-- and where it is false
pub from_false : (b : Bool) (P : Type 0) → (P → IsTrue b) → b ≡ false → P → ⊥
from_false b P f e p = let clash : true ≡ false = sym (f p) ∙ e in cc

-- what a test says where it is true
pub from_true : (b : Bool) (P : Type 0) → (IsTrue b → P) → b ≡ true → P
from_true b P f e = f e

-- a condition that can't hold doesn't
pub never_true_is_false : (b : Bool) → (b ≡ true → ⊥) → b ≡ false
never_true_is_false true h = absurd (h refl)
never_true_is_false false h = refl

-- what isn't refused holds
pub not_false_is_true : (b : Bool) → not b ≡ false → b ≡ true
not_false_is_true true e = refl
not_false_is_true false e = absurd cc

-- what isn't so
pub not_true_is_false : (a : Bool) → not a ≡ true → a ≡ false
not_true_is_false true e = absurd (false≢true e)
not_true_is_false false e = refl

-- one of two tests holds
pub or_cases : (a b : Bool) → (a || b) ≡ true → (a ≡ true) ⊎ (b ≡ true)
or_cases true b h = inl refl
or_cases false b h = inr h

-- nothing is added
pub or_false : (b : Bool) → (b || false) ≡ b
or_false true = refl
or_false false = refl

-- "or" may be joined in either order
pub or_join : (a b c : Bool) → ((a || b) || c) ≡ (a || (b || c))
or_join true b c = refl
or_join false b c = refl

-- a file type box is left out
pub or_middle : (x y z : Bool) → y ≡ true → (x || (y || z)) ≡ true
or_middle true y z e = refl
or_middle false true z e = refl
or_middle false false z e = absurd (cc (e))

-- none of two tests holds
pub or_neither : (a b : Bool) → a ≡ false → b ≡ false → (a || b) ≡ false
or_neither a b p q = ap (λ t. t || b) p ∙ q

-- the second of two
pub or_second : (a b : Bool) → b ≡ true → (a || b) ≡ true
or_second true b e = refl
or_second false b e = e

-- an "or" with `true` on its right passes
pub or_true : (t : Bool) → (t || true) ≡ true
or_true true = refl
or_true false = refl

-- two conditions are one where each follows from the other
pub same_test : (a b : Bool) → (a ≡ true → b ≡ true) → (b ≡ true → a ≡ true) → a ≡ b
same_test true b f g = sym (f refl)
same_test false true f g = g refl
same_test false false f g = refl

-- no condition holds and doesn't
pub true_and_false : {P : Type 0} (b : Bool) → b ≡ true → b ≡ false → P
true_and_false b p q = absurd (let bad = sym p ∙ q in cc (bad))

-- a condition doesn't both hold and fail
pub true_not_false : (b : Bool) → b ≡ true → b ≡ false → ⊥
true_not_false b e f = cc
