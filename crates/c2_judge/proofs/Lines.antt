-- The lines of some bytes, and the lines of rows: a row's line has no line feed, and tells the row.
use Rattle.std.proofs.Common.{◌≡◌, ◌≢◌, ℕ, suc, ◌/◌, ◌%◌, ◌<◌, false, ◌||◌, cond, eqb, ◌⊎◌, inl, inr, List, [], ◌∷◌, ◌++◌, length, take, drop, get_or, Some, None, refl, sym, ap, ◌∙◌, arith}
use Rattle.std.proofs.lemmas.Bool.{cases_lt, ne_eqb, or_parts}
use Rattle.std.proofs.lemmas.List.{get_or_past, take_at, drop_at, length-append}
use Rattle.std.proofs.lemmas.List.Folds.{list_any-append}
use Rattle.hex.specs.Hex.{encode_lower, encode_with, lower_digits, hex_digit_value, IsBytes}
use Rattle.hex.proofs.HexLemmas.{length-encode_with, IsDigits-lower_digits}
use Rattle.c2_spec.specs.declared.panel.Verdict.{Verdict}
use Rattle.c2_spec.specs.declared.panel.Verdict.TheVariants.{Approved, Mismatch, Untrusted, Invalid, Silent}
use Rattle.c2_spec.specs.declared.panel.VerdictRow.{VerdictRow}
use Rattle.c2_spec.specs.Judges.Panel.{verdict_name}
use Rattle.c2_spec.specs.Judges.VerdictFile.{IsId, IsRow, line_of}
use Rattle.c2_judge.specs.Reading.{has_feed, FirstLine, word_said}

-- the bytes of an id, past its end too
pub id_bytes : (id : List ℕ) → IsId id → IsBytes id
id_bytes id h i =
    elim (cases_lt i (length id)) [ inl lt ↦ h.bytes i 0 lt | inr past ↦ rw (get_or_past id i 0 past) (omega arith) ]

-- no digit is a line feed
digit_clean : (d : ℕ) → d < 16 → eqb (get_or lower_digits d 0) 0x0A ≡ false
digit_clean d lt =
    ne_eqb (get_or lower_digits d 0) 0x0A (λ e.
    let is : hex_digit_value 0x0A ≡ Some d = ap hex_digit_value (sym e) ∙ IsDigits-lower_digits d lt in
    cc is)

-- the digits of an id have no line feed
encode_clean : (xs : List ℕ) → IsBytes xs → has_feed (encode_lower xs) ≡ false
unfolding encode_with
encode_clean [] h = refl
encode_clean (b ∷ rest) h =
    let fits : b < 256 = h 0 in
    let high : eqb (get_or lower_digits (b / 16) 0) 0x0A ≡ false = digit_clean (b / 16) (omega arith) in
    let low : eqb (get_or lower_digits (b % 16) 0) 0x0A ≡ false = digit_clean (b % 16) (omega arith) in
    let more = encode_clean rest (λ k. h (suc k)) in
    rw (high, low, more) refl

-- no word of a verdict has a line feed
name_clean : (v : Verdict) → has_feed (0x20 ∷ verdict_name v) ≡ false
name_clean Approved = refl
name_clean Mismatch = refl
name_clean Untrusted = refl
name_clean Invalid = refl
name_clean Silent = refl

-- a row's line has no line feed
pub line_clean : (row : VerdictRow) → IsRow row → has_feed (line_of row) ≡ false
line_clean row h =
    list_any-append (λ b. eqb b 0x0A) (encode_lower row.id) (0x20 ∷ verdict_name row.verdict)
    ∙ ap (λ t. t || has_feed (0x20 ∷ verdict_name row.verdict)) (encode_clean row.id (id_bytes row.id h.is_id))
    ∙ name_clean row.verdict

-- an id has 64 digits
pub digits_len : (row : VerdictRow) → IsRow row → length (encode_lower row.id) ≡ 64
digits_len row h = omega (arith, length-encode_with lower_digits row.id, h.is_id.sized)

-- the first 64 bytes of a row's line are the digits of its id
pub front_of_line : (row : VerdictRow) → IsRow row → take 64 (line_of row) ≡ encode_lower row.id
front_of_line row h = take_at (encode_lower row.id) (0x20 ∷ verdict_name row.verdict) 64 (digits_len row h)

-- after them come a space and the verdict's word
pub word_of_line : (row : VerdictRow) → IsRow row → drop 64 (line_of row) ≡ 0x20 ∷ verdict_name row.verdict
word_of_line row h = drop_at (encode_lower row.id) (0x20 ∷ verdict_name row.verdict) 64 (digits_len row h)

-- a line of fewer than 64 bytes is no row's
pub short_line : (line : List ℕ) → length line < 64 → (row : VerdictRow) → IsRow row → line ≢ line_of row
short_line line short row h is =
    let parts = length-append (encode_lower row.id) (0x20 ∷ verdict_name row.verdict) in
    let whole : length line ≡ length (line_of row) = ap length is in
    let digits = digits_len row h in
    absurd (omega arith)

-- a line whose first 64 bytes are no id's digits is no row's
pub no_row_digits : (line digits : List ℕ) → digits ≡ take 64 line
    → ((id : List ℕ) → IsId id → digits ≢ encode_lower id) → (row : VerdictRow) → IsRow row → line ≢ line_of row
no_row_digits line digits is none row h e = none row.id h.is_id (is ∙ ap (λ l. take 64 l) e ∙ front_of_line row h)

-- the word of a verdict is read as this verdict
pub word_read : (v : Verdict) → v ≢ Silent → word_said (0x20 ∷ verdict_name v) ≡ Some v
word_read Approved loud = refl
word_read Mismatch loud = refl
word_read Untrusted loud = refl
word_read Invalid loud = refl
word_read Silent loud = absurd (loud refl)

-- a line whose rest is no verdict's word is no row's
pub no_row_word : (line word : List ℕ) → word ≡ drop 64 line → word_said word ≡ None → (row : VerdictRow) → IsRow row
    → line ≢ line_of row
no_row_word line word is none row h e =
    let named : word_said word ≡ Some row.verdict =
    ap word_said (is ∙ ap (λ l. drop 64 l) e ∙ word_of_line row h) ∙ word_read row.verdict h.loud in
    cc (none, named)

-- the lines of some bytes, of which the last may lack its line feed
unfoldable pub cons_first : ℕ → List (List ℕ) → List (List ℕ)
cons_first b [] = (b ∷ []) ∷ []
cons_first b (line ∷ rest) = (b ∷ line) ∷ rest

-- bytes as lines, cut at each line feed
unfoldable pub lines : List ℕ → List (List ℕ)
lines [] = []
lines (b ∷ bytes) = cond (eqb b 0x0A) ([] ∷ lines bytes) (cons_first b (lines bytes))

-- a line that a line feed ends comes first, and the others follow
pub lines-feed : (line rest : List ℕ) → has_feed line ≡ false → lines (line ++ 0x0A ∷ rest) ≡ line ∷ lines rest
unfolding lines cons_first
lines-feed [] rest clean = refl
lines-feed (b ∷ line) rest clean =
    let parts = or_parts (eqb b 0x0A) (has_feed line) clean in
    rw (parts.0, lines-feed line rest parts.1) refl

-- bytes without a line feed are one line
pub lines-open : (b : ℕ) (line : List ℕ) → has_feed (b ∷ line) ≡ false → lines (b ∷ line) ≡ (b ∷ line) ∷ []
unfolding lines cons_first
lines-open b [] clean =
    let parts = or_parts (eqb b 0x0A) false clean in
    rw parts.0 refl
lines-open b (c ∷ line) clean =
    let parts = or_parts (eqb b 0x0A) (has_feed (c ∷ line)) clean in
    rw (parts.0, lines-open c line parts.1) refl

-- a prefix without a line feed, which a line feed or the end follows, is the first line
pub lines-first : (bytes line : List ℕ) → 0 < length bytes → has_feed line ≡ false
    → ((bytes ≡ line) ⊎ ((rest : List ℕ) × (bytes ≡ line ++ 0x0A ∷ rest)))
    → (more : List (List ℕ)) × (lines bytes ≡ line ∷ more)
lines-first bytes line some clean (inr h) = (lines h.0, ap lines h.1 ∙ lines-feed line h.0 clean)
lines-first [] line some clean (inl h) = absurd (omega arith)
lines-first (b ∷ bytes) line some clean (inl h) =
    ([], lines-open b bytes (ap (λ l. has_feed l) h ∙ clean) ∙ ap (λ l. l ∷ []) h)

-- the first of some lines, or an empty one
unfoldable pub first_of : List (List ℕ) → List ℕ
first_of [] = []
first_of (line ∷ rest) = line

-- a file has one first line only
pub same_line : (bytes line behind other : List ℕ) → FirstLine bytes line behind → 0 < length bytes
    → has_feed other ≡ false → ((bytes ≡ other) ⊎ ((rest : List ℕ) × (bytes ≡ other ++ 0x0A ∷ rest))) → line ≡ other
unfolding first_of
same_line bytes line behind other first some clean stands =
    let one = lines-first bytes line some first.clean (either first.split) in
    let two = lines-first bytes other some clean stands in
    ap first_of (sym one.1 ∙ two.1)
  where
    either : {bytes line behind : List ℕ} → ((bytes ≡ line ++ 0x0A ∷ behind) ⊎ ((bytes ≡ line) × (behind ≡ [])))
        → (bytes ≡ line) ⊎ ((rest : List ℕ) × (bytes ≡ line ++ 0x0A ∷ rest))
    either {behind = behind} (inl e) = inr (behind, e)
    either (inr h) = inl h.0

-- what is behind a line is shorter
pub behind_shorter : (bytes line behind : List ℕ) → FirstLine bytes line behind → 0 < length bytes
    → length behind < length bytes
behind_shorter bytes line behind first some =
    elim first.split [
      | inl e ↦
          let parts = length-append line (0x0A ∷ behind) in
          let whole : length bytes ≡ length (line ++ 0x0A ∷ behind) = ap length e in
          omega arith
      | inr h ↦
          let none : length behind ≡ 0 = ap length h.1 in
          omega arith
    ]
