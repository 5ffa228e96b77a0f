-- A text, character for character, without its control bytes.
use Rattle.std.proofs.Common.{◌≡◌, refl, sym, ◌∙◌, ap, ℕ, ◌+◌, ◌/◌, ◌%◌, ◌<◌, ◌≤◌, ◌⊎◌, inl, inr, Bool, true, false, ◌==◌, ◌||◌, cond, nat_lt, List, [], ◌∷◌, ◌++◌, map, append_assoc, arith}
use Rattle.std.proofs.lemmas.Bool.{le-ltb, ne_eqb}
use Rattle.std.proofs.lemmas.List.{map-append}
use Rattle.std.proofs.lemmas.Str.{encode_ascii}
use Rattle.std.specs.List.{AllByRecursion}
use Rattle.std.proofs.Math.Utf8.{encode}
use Rattle.c2_compare_spec.specs.EvidenceText.{printed_byte, printed}

-- what is no control byte stays
high_same : (b : ℕ) → 128 ≤ b → printed_byte b ≡ b
high_same b h =
    let low : nat_lt b 0x20 ≡ false = le-ltb b 0x20 (omega arith) in
    let other : (b == 0x7F) ≡ false = ne_eqb b 0x7F (omega arith) in
    simp (low, other) refl

-- a question mark or an ASCII byte is an ASCII byte
choice_low : (t : Bool) (b : ℕ) → b < 128 → cond t 0x3F b < 128
choice_low true b h = omega arith
choice_low false b h = h

-- what is printed for an ASCII byte is an ASCII byte
low_stays : (b : ℕ) → b < 128 → printed_byte b < 128
low_stays b h = choice_low (nat_lt b 0x20 || (b == 0x7F)) b h

-- the bytes of a character above ASCII
abbrev AreHigh : List ℕ → Type 0
AreHigh bs = AllByRecursion (λ b. 128 ≤ b) bs

-- of two lists of bytes above ASCII, the one that is chosen has only such bytes
either_high : (t : Bool) (xs ys : List ℕ) → AreHigh xs → AreHigh ys → AreHigh (cond t xs ys)
either_high true xs ys h k = h
either_high false xs ys h k = k

-- where the second of two lists is chosen and has only bytes above ASCII, the chosen one has
second_high : (t : Bool) (xs ys : List ℕ) → t ≡ false → AreHigh ys → AreHigh (cond t xs ys)
second_high true xs ys e k = absurd (cc (e))
second_high false xs ys e k = k

-- bytes above ASCII are printed as they are
same_high : (bs : List ℕ) → AreHigh bs → map printed_byte bs ≡ bs
same_high [] h = refl
same_high (b ∷ bs) h = let first = high_same b h.0 in let rest = same_high bs h.1 in cc

-- the bytes of a character above ASCII are printed as they are
high_bytes : (c : ℕ) → 128 ≤ c → map printed_byte (encode c) ≡ encode c
unfolding encode
high_bytes c h =
    same_high (encode c)
    (second_high (nat_lt c 128) (c ∷ []) _ (le-ltb c 128 h)
    (either_high (nat_lt c 2048) ((192 + c / 64) ∷ (128 + c % 64) ∷ []) _ (omega arith, (omega arith, tt))
    (either_high (nat_lt c 65536) ((224 + c / 4096) ∷ (128 + c / 64 % 64) ∷ (128 + c % 64) ∷ []) ((240 + c / 262144) ∷ (128 + c / 4096 % 64) ∷ (128 + c / 64 % 64) ∷ (128 + c % 64) ∷ [])
    (omega arith, (omega arith, (omega arith, tt)))
    (omega arith, (omega arith, (omega arith, (omega arith, tt)))))))

-- the printed bytes of a character, in ASCII or above, are the bytes of one character
by_size : (c : ℕ) → (c < 128) ⊎ (128 ≤ c) → map printed_byte (encode c) ≡ encode (printed_byte c)
by_size c (inl h) = ap (map printed_byte) (encode_ascii c h) ∙ sym (encode_ascii (printed_byte c) (low_stays c h))
by_size c (inr h) = high_bytes c h ∙ ap encode (sym (high_same c h))

-- printing the bytes of a character gives the bytes of the printed character: itself, or a question mark
pub printable_encode : (c : ℕ) → map printed_byte (encode c) ≡ encode (printed_byte c)
printable_encode c = by_size c (search arith)

-- one character more
pub printable_step : (copy more rest after text : List ℕ) (c : ℕ) → copy ++ printed rest ≡ text
    → rest ≡ encode c ++ after → more ≡ copy ++ encode (printed_byte c) → more ++ printed after ≡ text
printable_step copy more rest after text c so_far splits is =
    let front : printed (encode c ++ after) ≡ encode (printed_byte c) ++ printed after =
    map-append printed_byte (encode c) after ∙ ap (λ x. x ++ printed after) (printable_encode c) in
    ap (λ x. x ++ printed after) is ∙ append_assoc copy (encode (printed_byte c)) (printed after)
    ∙ ap (λ x. copy ++ x) (sym (ap printed splits ∙ front)) ∙ so_far
