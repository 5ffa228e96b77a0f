-- How many bytes the content of a JSON string has: no more than the lexer passes before the string has closed.
use Rattle.std.proofs.Common.{◌≡◌, ℕ, ◌+◌, ◌*◌, ◌≤◌, Bool, true, false, cond, ◌&&◌, ◌==◌, nat_lt, List, [], ◌∷◌, length}
use Rattle.std.proofs.Common.{Option, Some, None, option_and_then, refl, sym, ap, ◌∙◌, arith, length-append}
use Rattle.std.proofs.lemmas.Bool.{false≢true, eqb-true, and_parts}
use Rattle.std.specs.Prelude.{⊤}
use Rattle.std.specs.Char.{is_digit, digit_value, encode_utf8}
use Rattle.json.specs.Ascii as ascii
use Rattle.json.specs.Align.{span_byte, span}
use Rattle.json.specs.Lex.{quote, backslash, operator, space, other, Mode, in_string, in_escape}
use Rattle.json.specs.Text.{code_unit, short_escape, is_high_surrogate, is_low_surrogate, surrogate_pair, Within, plain}
use Rattle.json.specs.Text.{after_backslash, after_u, after_high, prepend, content}
use Rattle.json.specs.Word.{is_operator, is_space}

-- ---- no more than so many

-- bytes of which there are no more than this, where there are some
abbrev pub AtMost : ℕ → Option (List ℕ) → Type 0
AtMost n None = ⊤
AtMost n (Some s) = length s ≤ n

-- no more than so many are no more than more
wider : (n m : ℕ) (o : Option (List ℕ)) → AtMost m o → m ≤ n → AtMost n o
wider n m None h le = tt
wider n m (Some s) h le = omega (arith, h, le)

-- with some in front
behind : (n m : ℕ) (front : List ℕ) (o : Option (List ℕ)) → AtMost m o → length front + m ≤ n
    → AtMost n (prepend front o)
behind n m front None h le = tt
behind n m front (Some s) h le = omega (arith, h, le, length-append front s)

-- by a test
tested : (n : ℕ) (b : Bool) (o p : Option (List ℕ)) → (b ≡ true → AtMost n o) → (b ≡ false → AtMost n p)
    → AtMost n (cond b o p)
tested n true o p f g = f refl
tested n false o p f g = g refl

-- by a number that is there
found : (n : ℕ) (f : ℕ → Option (List ℕ)) (o : Option ℕ) → ((u : ℕ) → AtMost n (f u)) → AtMost n (option_and_then f o)
found n f None h = tt
found n f (Some u) h = h u

-- four hex digits
abbrev AreHex : ℕ → ℕ → ℕ → ℕ → Type 0
AreHex a b c d = (is_digit a 16 && is_digit b 16 && is_digit c 16 && is_digit d 16) ≡ true

-- by a number that they spell
spelled : (n : ℕ) (f : ℕ → Option (List ℕ)) (a b c d : ℕ) → (AreHex a b c d → (u : ℕ) → AtMost n (f u))
    → AtMost n (option_and_then f (code_unit a b c d))
unfolding code_unit
spelled n f a b c d h =
    by (is_digit a 16 && is_digit b 16 && is_digit c 16 && is_digit d 16)
    (digit_value a * 4096 + digit_value b * 256 + digit_value c * 16 + digit_value d) h
  where
    by : (t : Bool) (u : ℕ) → (t ≡ true → (v : ℕ) → AtMost n (f v))
        → AtMost n (option_and_then f (cond t (Some u) None))
    by true u g = g refl u
    by false u g = tt

-- a character has four bytes at most
encoded_most : (u : ℕ) → length (encode_utf8 u) ≤ 4
unfolding encode_utf8
encoded_most u = grind arith

-- ---- what the lexer passes

-- a byte of a string that neither closes it nor begins an escape
by_class : (q b o s : Bool) (k : Mode → ℕ) → q ≡ false → b ≡ false
    → span_byte in_string (cond q quote (cond b backslash (cond o operator (cond s space other)))) k ≡ 1 + k in_string
by_class true b o s k e f = absurd (cc (e))
by_class false true o s k e f = absurd (cc (f))
by_class false false true s k e f = refl
by_class false false false true k e f = refl
by_class false false false false k e f = refl

-- the walk over a string passes a byte that neither closes it nor begins an escape
span_plain : (x : ℕ) (xs : List ℕ) → (x == ascii.quote) ≡ false → (x == ascii.backslash) ≡ false
    → span in_string (x ∷ xs) ≡ 1 + span in_string xs
unfolding span
span_plain x xs q b =
    by_class (x == ascii.quote) (x == ascii.backslash) (is_operator x) (is_space x) (λ m. span m xs) q b

-- a backslash
span_backslash : (x : ℕ) (xs : List ℕ) → (x == ascii.backslash) ≡ true → span in_string (x ∷ xs) ≡ 1 + span in_escape xs
unfolding span
span_backslash x xs e = ap (λ y. span in_string (y ∷ xs)) (eqb-true x ascii.backslash e)

-- the byte after it
span_escape : (x : ℕ) (xs : List ℕ) → span in_escape (x ∷ xs) ≡ 1 + span in_string xs
unfolding span
span_escape x xs = refl

-- a hex digit isn't a byte that isn't one
digit_differs : (c x : ℕ) → is_digit c 16 ≡ false → is_digit x 16 ≡ true → (x == c) ≡ false
digit_differs c x never is = by (x == c) (eqb-true x c)
  where
    by : (t : Bool) → (t ≡ true → x ≡ c) → t ≡ false
    by false e = refl
    by true e = absurd (false≢true (sym never ∙ ap (λ y. is_digit y 16) (sym (e refl)) ∙ is))

-- a hex digit
span_digit : (x : ℕ) (xs : List ℕ) → is_digit x 16 ≡ true → span in_string (x ∷ xs) ≡ 1 + span in_string xs
span_digit x xs is = span_plain x xs (digit_differs ascii.quote x refl is) (digit_differs ascii.backslash x refl is)

-- four of them
span_digits : (a b c d : ℕ) (xs : List ℕ) → AreHex a b c d → span in_string (a ∷ b ∷ c ∷ d ∷ xs) ≡ 4 + span in_string xs
span_digits a b c d xs are =
    let last = and_parts (is_digit a 16 && is_digit b 16 && is_digit c 16) (is_digit d 16) are in
    let third = and_parts (is_digit a 16 && is_digit b 16) (is_digit c 16) last.0 in
    let both = and_parts (is_digit a 16) (is_digit b 16) third.0 in
    omega (
      arith,
      span_digit a (b ∷ c ∷ d ∷ xs) both.0,
      span_digit b (c ∷ d ∷ xs) both.1,
      span_digit c (d ∷ xs) third.1,
      span_digit d xs last.1,
    )

-- ---- the content

-- how the lexer goes on within a string
abbrev pub mode_of : Within → Mode
mode_of plain = in_string
mode_of after_backslash = in_escape
mode_of after_u = in_string
mode_of (after_high h) = in_string

-- the content of a string has no more bytes than the lexer passes
pub content_most : (w : Within) (xs : List ℕ) → AtMost (span (mode_of w) xs) (content w xs)
unfolding content
content_most plain [] = tt
content_most plain (x ∷ xs) =
    let n = span in_string (x ∷ xs) in
    tested n (x == 34) _ _ (λ q. omega arith) (λ q. tested n (x == 92) _ _
    (λ b. wider n _ _ (content_most after_backslash xs) (omega (arith, span_backslash x xs b)))
    (λ b. tested n (nat_lt x 32) _ _ (λ l. tt)
    (λ l. behind n _ (x ∷ []) _ (content_most plain xs) (omega (arith, span_plain x xs q b)))))
content_most after_backslash [] = tt
content_most after_backslash (x ∷ xs) =
    let n = span in_escape (x ∷ xs) in
    tested n (x == 117) _ _ (λ u. wider n _ _ (content_most after_u xs) (omega (arith, span_escape x xs)))
    (λ u. found n _ (short_escape x)
    (λ c. behind n _ (c ∷ []) _ (content_most plain xs) (omega (arith, span_escape x xs))))
content_most after_u [] = tt
content_most after_u (a ∷ []) = tt
content_most after_u (a ∷ b ∷ []) = tt
content_most after_u (a ∷ b ∷ c ∷ []) = tt
content_most after_u (a ∷ b ∷ c ∷ d ∷ xs) =
    let n = span in_string (a ∷ b ∷ c ∷ d ∷ xs) in
    spelled n _ a b c d (λ are u. tested n (is_high_surrogate u) _ _
    (λ high. wider n _ _ (content_most (after_high u) xs) (omega (arith, span_digits a b c d xs are)))
    (λ high. tested n (is_low_surrogate u) _ _ (λ low. tt)
    (λ low. behind n _ (encode_utf8 u) _ (content_most plain xs)
    (omega (arith, span_digits a b c d xs are, encoded_most u)))))
content_most (after_high h) [] = tt
content_most (after_high h) (s ∷ []) = tt
content_most (after_high h) (s ∷ u ∷ []) = tt
content_most (after_high h) (s ∷ u ∷ a ∷ []) = tt
content_most (after_high h) (s ∷ u ∷ a ∷ b ∷ []) = tt
content_most (after_high h) (s ∷ u ∷ a ∷ b ∷ c ∷ []) = tt
content_most (after_high h) (s ∷ u ∷ a ∷ b ∷ c ∷ d ∷ xs) =
    let n = span in_string (s ∷ u ∷ a ∷ b ∷ c ∷ d ∷ xs) in
    tested n ((s == 92) && (u == 117)) _ _
    (λ escape. spelled n _ a b c d (λ are l. tested n (is_low_surrogate l) _ _
    (λ low. behind n _ (encode_utf8 (surrogate_pair h l)) _ (content_most plain xs)
    (omega (
      arith,
      span_backslash s (u ∷ a ∷ b ∷ c ∷ d ∷ xs) (and_parts _ _ escape).0,
      span_escape u (a ∷ b ∷ c ∷ d ∷ xs),
      span_digits a b c d xs are,
      encoded_most (surrogate_pair h l),
    )))
    (λ low. tt)))
    (λ escape. tt)
