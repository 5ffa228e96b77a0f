-- Words that are numbers, and what the parser of numbers says of them.
use Rattle.std.proofs.Common.{◌≡◌, ◌<◌, ◌≤◌, ◌^◌, ◌==◌, ◌&&◌, ℕ, Bool, true, false, not, refl, sym, arith, List, [], ◌∷◌, drop, nat_le, cond, leb-true, eqb-true, Option, Some, None, true≢false}
use Rattle.std.specs.List.{list_all}
use Rattle.std.specs.Char.{digit_value, is_ascii_digit}
use Rattle.std.specs.Str.Parse.{AllDigits, IsNumeral, digits_value, without_leading_plus}
use Rattle.std.proofs.lemmas.Str.{digit_value_digit}
use Rattle.c2_usage.specs.CommandLine.{is_number, pieces_of, zero_digit}
use Rattle.c2_usage.specs.declared.types.TheConstants.{MAX_PIECES}
use Rattle.c2_lemmas.proofs.Bools.{both_true}

-- the value of a digit is below ten
digit_below : (c : ℕ) → is_ascii_digit c ≡ true → digit_value c < 10
digit_below c e =
    let p = both_true (nat_le 48 c) (nat_le c 57) e in
    let high : c ≤ 57 = leb-true c 57 p.1 in
    let is = digit_value_digit c (leb-true 48 c p.0, high) in
    omega (arith, is, high)

-- digits are digits to the parser
all_digits : (word : List ℕ) → list_all is_ascii_digit word ≡ true → AllDigits 10 word
all_digits [] e = tt
all_digits (c ∷ cs) e = let p = both_true (is_ascii_digit c) (list_all is_ascii_digit cs) e in (digit_below c p.0, all_digits cs p.1)

-- a number begins with no plus
no_plus : (word : List ℕ) → is_number word ≡ true → without_leading_plus word ≡ word
no_plus [] e = absurd (true≢false (sym e))
no_plus (c ∷ cs) e =
    let p = both_true (not (c == zero_digit)) _ e in
    let q = both_true (is_ascii_digit c) _ p.1 in
    let r = both_true (nat_le 48 c) (nat_le c 57) q.0 in
    go (c == 43) (λ same. let at : c ≡ 43 = eqb-true c 43 same in let low : 48 ≤ c = leb-true 48 c r.0 in omega (arith, low, at))
  where
    go : (b : Bool) → (b ≡ true → ⊥) → drop (cond b 1 0) (c ∷ cs) ≡ c ∷ cs
    go true never = absurd (never refl)
    go false never = refl

-- a number is one to the parser
numeral : (word : List ℕ) → is_number word ≡ true → IsNumeral 10 word
numeral [] e = absurd (true≢false (sym e))
numeral (c ∷ cs) e = (omega arith, all_digits (c ∷ cs) (both_true (not (c == zero_digit)) _ e).1)

-- what the parser refuses asks for no pieces
pub refused_number : (word : List ℕ) → is_number word ≡ true
    → (IsNumeral 10 (without_leading_plus word) × (digits_value 10 (without_leading_plus word) < 2 ^ 32) → ⊥)
    → None ≡ pieces_of word
refused_number word number never = go (nat_le (digits_value 10 word) MAX_PIECES) refl
  where
    go : (b : Bool) → nat_le (digits_value 10 word) MAX_PIECES ≡ b
        → ◌≡◌ {A = Option ℕ} None (cond (is_number word && b) (Some (digits_value 10 word)) None)
    go true e =
        let plain = no_plus word number in
        let small : digits_value 10 word ≤ MAX_PIECES = leb-true (digits_value 10 word) MAX_PIECES e in
        let few : digits_value 10 word < 2 ^ 32 = omega (arith, small) in
        absurd (never (rw plain (numeral word number), rw plain few))
    go false e = rw number refl
