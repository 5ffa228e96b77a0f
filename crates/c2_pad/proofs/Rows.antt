-- The table of fills, row by row.
use Rattle.std.proofs.Common.{◌≡◌, ℕ, ◌-◌, ◌<◌, ◌≤◌, cond, eqb, leb, Option, Some, None, sym, subst, arith}
use Rattle.std.proofs.lemmas.Bool.{cond_both, leb-true, leb-false, eqb-true, eqb-false}
use Rattle.c2_pad.specs.declared.types.Fill.{Fill}
use Rattle.c2_pad.specs.Fill.{one_entry, two_entries, fill_of}

-- what holds of each row of the table, at the needs of the row
pub record OfRows (P : ℕ → Option Fill → Type 0) : Type 0 where
  pub nothing : P 0 (Some (record { pad = None; pad2 = None }))
  pub too_few : (need : ℕ) → 1 ≤ need → need ≤ 4 → P need None
  pub heads_of_1 : (need : ℕ) → 5 ≤ need → need ≤ 28 → P need (one_entry (need - 5))
  pub at_29 : P 29 (two_entries 18)
  pub heads_of_2 : (need : ℕ) → 30 ≤ need → need ≤ 261 → P need (one_entry (need - 6))
  pub at_262 : P 262 (two_entries 250)
  pub heads_of_3 : (need : ℕ) → 263 ≤ need → need ≤ 65542 → P need (one_entry (need - 7))
  pub at_65543 : P 65543 (two_entries 65530)
  pub at_65544 : P 65544 (two_entries 65531)
  pub heads_of_5 : (need : ℕ) → 65545 ≤ need → need ≤ 1048576 → P need (one_entry (need - 9))
  pub too_many : (need : ℕ) → 1048576 < need → P need None

-- what holds of each row holds of each fill
pub by_rows : (P : ℕ → Option Fill → Type 0) → OfRows P → (need : ℕ) → P need (fill_of need)
unfolding fill_of
by_rows P rows need =
    one 0 rows.nothing (λ n0.
    upto 4 (λ l4. rows.too_few need (omega arith) l4) (λ g4.
    upto 28 (λ l28. rows.heads_of_1 need (omega arith) l28) (λ g28.
    one 29 rows.at_29 (λ n29.
    upto 261 (λ l261. rows.heads_of_2 need (omega arith) l261) (λ g261.
    one 262 rows.at_262 (λ n262.
    upto 65542 (λ l65542. rows.heads_of_3 need (omega arith) l65542) (λ g65542.
    one 65543 rows.at_65543 (λ n65543.
    one 65544 rows.at_65544 (λ n65544.
    upto 1048576 (λ most. rows.heads_of_5 need (omega arith) most) (λ more. rows.too_many need more))))))))))
  where
    one : (n : ℕ) {x y : Option Fill} → P n x → ((need ≡ n → ⊥) → P need y) → P need (cond (eqb need n) x y)
    one n {x} {y} at other =
        cond_both (eqb need n) x y (P need) (λ e. subst (λ k. P k x) (sym (eqb-true need n e)) at)
        (λ e. other (eqb-false need n e))

    upto : (n : ℕ) {x y : Option Fill} → (need ≤ n → P need x) → (n < need → P need y) → P need (cond (leb need n) x y)
    upto n {x} {y} within behind =
        cond_both (leb need n) x y (P need) (λ e. within (leb-true need n e)) (λ e. behind (leb-false need n e))
