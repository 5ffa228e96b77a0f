-- Answers of calls.
use Rattle.std.proofs.Common.{Bool, Err, Ok, OnOk, Result, false, if◌then◌else◌, not, true, ◌≡◌}
use Rattle.std.specs.Prelude.{IfOk}

-- two clauses of one answer together
pub both_if_ok : {T E : Type 0} (r : Result T E) (P Q R : T → Type 0) → ((x : T) → P x → Q x → R x) → IfOk r P
    → IfOk r Q → IfOk r R
both_if_ok (Ok x) P Q R f p q = f x p q
both_if_ok (Err e) P Q R f p q = tt

-- what holds holds of every `Ok`
pub on_ok : {T E : Type 0} (P : Type 0) (r : Result T E) → P → OnOk r P
on_ok P (Ok x) h = h
on_ok P (Err e) h = tt

-- what follows of a result that is there
pub on_ok_then : {T E : Type 0} {A B : Type 0} (r : Result T E) → (A → B) → OnOk r A → OnOk r B
on_ok_then (Ok x) f h = f h
on_ok_then (Err e) f h = tt

-- past a test that doesn't refuse, what follows it is answered
pub past_test : {A E : Type 0} (b : Bool) (e : E) (r : Result A E) (a : A) → (if not b then Err e else r) ≡ Ok a
    → r ≡ Ok a
past_test true e r a h = h
past_test false e r a h = absurd (cc (h))
