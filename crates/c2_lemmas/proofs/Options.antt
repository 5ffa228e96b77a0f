-- Values that may be there or not.
use Rattle.std.proofs.Common.{Bool, Decides, List, None, Ok, Option, Some, [], arith, cond, false, length, not, refl, slice_get, suc, sym, true, true≢false, zero, ℕ, ◌&&◌, ◌<◌, ◌∷◌, ◌≡◌}
use Rattle.std.proofs.lemmas.Option.{same_Some}
use Rattle.std.specs.Option.{ok_or, option_map, option_or, option_to_list}
use Rattle.std.specs.declared.result.Result.{Result}

-- where there is a value, it is this
pub from_ok_or : {A E : Type 0} (o : Option A) (e : E) (x : A) → ◌≡◌ {A = Result A E} (Ok x) (ok_or o e) → o ≡ Some x
from_ok_or None e x h = absurd (cc (h))
from_ok_or (Some y) e x h = cc (h)

-- an earlier place passes as it is
pub if_before : (k n : ℕ) (b : Bool) → Decides b (k < n) → k < n → cond b (Some k) None ≡ Some k
if_before k n true d lt = refl
if_before k n false d lt = absurd (true≢false (sym (d.1 lt)))

-- a box that isn't open says its size, where it isn't `mfra`
pub is_closed : (at : ℕ) (t m : Bool) → m ≡ false → cond (t && not m) (Some at) None ≡ None → t ≡ false
is_closed at true true e h = absurd (cc (e))
is_closed at true false e h = absurd (cc (h))
is_closed at false m e h = refl

-- nothing is made of nothing alone
pub map_none : {A B : Type 0} (f : A → B) (o : Option A) → option_map f o ≡ None → o ≡ None
map_none f None e = refl
map_none f (Some x) e = absurd (cc (e))

-- what is made of a value that may be missing is made of one
pub mapped_from : {X Y : Type 0} (f : X → Y) (o : Option X) (y : Y) → option_map f o ≡ Some y
    → (x : X) × (o ≡ Some x) × (f x ≡ y)
mapped_from f None y e = absurd cc
mapped_from f (Some x) y e = (x, refl, same_Some (f x) y e)

-- no bytes are needed where no number is
pub never_some : (o : Option ℕ) → ((n : ℕ) → o ≡ Some n → ⊥) → o ≡ None
never_some None h = refl
never_some (Some n) h = absurd (h n refl)

-- neither of two is there where the first of both isn't
pub none_first : {A : Type 0} (o p : Option A) → option_or o p ≡ None → (o ≡ None) × (p ≡ None)
none_first None p e = (refl, e)
none_first (Some x) p e = absurd (cc (e))

-- `None` isn't `Some`
pub none_some : {A : Type 0} (a : A) → None ≡ Some a → ⊥
none_some a e = cc (e)

-- what is there is one
pub one_value : {A : Type 0} (o : Option A) (x y : A) → o ≡ Some x → o ≡ Some y → x ≡ y
one_value o x y p q = cc

-- two values that are there are one
pub same_some : {A : Type 0} (a b : A) → Some a ≡ Some b → a ≡ b
same_some a b e = cc (e)

-- something stands at each place
pub some_at : {X : Type 0} (xs : List X) (i : ℕ) → i < length xs → (x : X) × (slice_get xs i ≡ Some x)
some_at [] i h = absurd (omega arith)
some_at (x ∷ xs) zero h = (x, refl)
some_at (x ∷ xs) (suc i) h = some_at xs i (omega arith)

-- a list made of a value that is there isn't empty
pub listed_some : {A B : Type 0} (f : A → B) (o : Option A) (a : A) → o ≡ Some a → option_to_list (option_map f o) ≡ []
    → ⊥
listed_some f None a e k = cc (e)
listed_some f (Some b) a e k = cc (k)
