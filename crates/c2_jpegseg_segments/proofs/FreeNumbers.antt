-- Each list of segments has a free number, or none.
use Rattle.std.proofs.Common.{◌≡◌, ℕ, zero, suc, ◌+◌, ◌-◌, ◌^◌, ◌<◌, ◌≤◌, Bool, true, false, List, Option, Some, None, refl, arith, below_more}
use Rattle.c2_spec.specs.Jpeg.Segments.{Segment}
use Rattle.c2_spec.specs.Jpeg.Writing.{IsNumberOf, is_taken}
use Rattle.c2_spec.specs.declared.packets.TheConstants.{LEAST_NUMBER}

-- from here on one number is the least that is free, or each is taken, where those before are
free_from : (segments : List Segment) (count at : ℕ) → at + count ≡ 2 ^ 16 → LEAST_NUMBER ≤ at
    → ((n : ℕ) → LEAST_NUMBER ≤ n → n < at → is_taken segments n ≡ true) → (o : Option ℕ) × IsNumberOf segments o
free_from segments zero at e least h = (None, λ n from to. h n from (omega arith))
free_from segments (suc count) at e least h = by (is_taken segments at) refl (λ k. free_from segments count (at + 1) (omega arith) (omega arith) k)
  where
    more : is_taken segments at ≡ true → (n : ℕ) → LEAST_NUMBER ≤ n → n < at + 1 → is_taken segments n ≡ true
    more t n from to =
        below_more (λ (m : ℕ). LEAST_NUMBER ≤ m → is_taken segments m ≡ true) at (λ m lt le. h m le lt) (λ le. t) n to
        from

    by : (b : Bool) → is_taken segments at ≡ b
        → (((n : ℕ) → LEAST_NUMBER ≤ n → n < at + 1 → is_taken segments n ≡ true) → (o : Option ℕ) × IsNumberOf segments o)
        → (o : Option ℕ) × IsNumberOf segments o
    by true t later = later (more t)
    by false t later = (Some at, record { least = least; most = omega arith; free = t; first = h })

-- one number is free, or none
pub some_number : (segments : List Segment) → (o : Option ℕ) × IsNumberOf segments o
some_number segments =
    free_from segments (2 ^ 16 - LEAST_NUMBER) LEAST_NUMBER (omega arith) (omega arith)
    (λ n from to. absurd (omega arith))
