-- Each file has rows or a first bad line: its lines are read one after another.
use Rattle.std.proofs.Common.{◌≡◌, ◌≢◌, ℕ, zero, suc, ◌+◌, ◌^◌, ◌<◌, Bool, true, false, cond, eqb, eq-eqb, ◌⊎◌, inl, inr, List, [], ◌∷◌, ◌++◌, length, take, drop, take-append-drop, Option, Some, None, Result, Ok, Err, refl, sym, ap, subst, ◌∙◌, arith}
use Rattle.std.specs.Prelude.{All, codes}
use Rattle.std.specs.Str.{bytes_eq}
use Rattle.std.proofs.lemmas.Bool.{eqb-true}
use Rattle.std.proofs.lemmas.List.{length-append, append-nil}
use Rattle.std.proofs.lemmas.List.Elements.{All-nil, All-cons, All-push}
use Rattle.std.proofs.lemmas.Slice.Eq.{bytes_eq-Decides}
use Rattle.hex.specs.Hex.{encode_lower, decode_of, IsBytes}
use Rattle.hex.specs.declared.error.FromHexError.{FromHexError}
use Rattle.hex.proofs.HexLemmas.{decode_of-ok, decode_of-encode_lower, decode_of-same}
use Rattle.c2_spec.specs.declared.panel.Verdict.{Verdict}
use Rattle.c2_spec.specs.declared.panel.Verdict.TheVariants.{Approved, Mismatch, Untrusted, Invalid, Silent}
use Rattle.c2_spec.specs.declared.panel.VerdictRow.{VerdictRow}
use Rattle.c2_spec.specs.Judges.Panel.{verdict_name}
use Rattle.c2_spec.specs.Judges.VerdictFile.{IsId, IsRow, line_of, lines_of, HasRows, HasBadLine}
use Rattle.c2_judge.specs.Reading.{NoRowLine, IsRowLine, word_said}
use Rattle.c2_judge.proofs.Lines.{id_bytes, line_clean, front_of_line, no_row_word, lines-first}
use Rattle.c2_judge.proofs.RowSteps.{lines_of-more}
use Rattle.c2_judge.proofs.OneReading.{Front, front_of, heads, lines-has, same_rows}

-- a list of bytes, byte by byte
all_bytes : (xs : List ℕ) → IsBytes xs → All (λ b. b < 2 ^ 8) xs
all_bytes [] h = All-nil (λ b. b < 2 ^ 8)
all_bytes (b ∷ rest) h = All-cons (λ b. b < 2 ^ 8) b rest (h 0) (all_bytes rest (λ k. h (suc k)))

-- a word after a space that names a verdict is that verdict's
record IsWord (word : List ℕ) (v : Verdict) : Type 0 where
  loud : v ≢ Silent
  spelled : word ≡ 0x20 ∷ verdict_name v

-- one verdict's word, or another's
word_by : (word : List ℕ) (v w : Verdict) (other : Option Verdict) (b : Bool) → w ≢ Silent
    → bytes_eq word (0x20 ∷ verdict_name w) ≡ b → cond b (Some w) other ≡ Some v → (other ≡ Some v → IsWord word v)
    → IsWord word v
word_by word v w other true loud e is rest =
    let same : w ≡ v = cc (is) in
    subst (λ x. IsWord word x) same
    (record { loud = loud; spelled = (bytes_eq-Decides word (0x20 ∷ verdict_name w)).0 e })
word_by word v w other false loud e is rest = rest is

-- a word that is read is that of a verdict which isn't silence
word_is : (word : List ℕ) (v : Verdict) → word_said word ≡ Some v → IsWord word v
word_is word v e =
    word_by word v Approved _ (bytes_eq word (codes " approved")) (λ h. cc (h)) refl e
    (λ e. word_by word v Mismatch _ (bytes_eq word (codes " mismatch")) (λ h. cc (h)) refl e
    (λ e. word_by word v Untrusted _ (bytes_eq word (codes " untrusted")) (λ h. cc (h)) refl e
    (λ e. word_by word v Invalid None (bytes_eq word (codes " invalid")) (λ h. cc (h)) refl e (λ e. absurd (cc (e))))))

-- what a row's line says of its first 64 bytes
row_digits : (line : List ℕ) (row : VerdictRow) → IsRow row → line ≡ line_of row → take 64 line ≡ encode_lower row.id
row_digits line row is e = ap (λ l. take 64 l) e ∙ front_of_line row is

-- the first 64 bytes of a row's line decode to the row's id
row_decodes : (line : List ℕ) (row : VerdictRow) → IsRow row → line ≡ line_of row → decode_of (take 64 line) ≡ Ok row.id
row_decodes line row is e =
    ap decode_of (row_digits line row is e) ∙ decode_of-encode_lower row.id (id_bytes row.id is.is_id)

-- each line is a row's, or no row's
row_or : (line : List ℕ) → ((row : VerdictRow) × IsRowLine line row) ⊎ NoRowLine line
row_or line = decoded (decode_of (take 64 line)) refl
  where
    decoded : (r : Result (List ℕ) FromHexError) → decode_of (take 64 line) ≡ r
        → ((row : VerdictRow) × IsRowLine line row) ⊎ NoRowLine line
    decoded (Err f) e = inr (λ row is h. let bad = sym e ∙ row_decodes line row is h in cc (bad))
    decoded (Ok id) e = digits (bytes_eq (encode_lower id) (take 64 line)) refl
      where
        same_id : (row : VerdictRow) → IsRow row → line ≡ line_of row → id ≡ row.id
        same_id row is h = decode_of-same (take 64 line) id row.id e (row_decodes line row is h)

        digits : (b : Bool) → bytes_eq (encode_lower id) (take 64 line) ≡ b
            → ((row : VerdictRow) × IsRowLine line row) ⊎ NoRowLine line
        digits false differs =
            inr
            (λ row is h. let same = (bytes_eq-Decides (encode_lower id) (take 64 line)).1 (ap encode_lower (same_id row is h) ∙ sym (row_digits line row is h)) in
            cc (differs, same))
        digits true same = sized (eqb (length id) 32) refl
          where
            sized : (b : Bool) → eqb (length id) 32 ≡ b → ((row : VerdictRow) × IsRowLine line row) ⊎ NoRowLine line
            sized false other = inr (λ row is h. let of = eq-eqb (length id) 32 (ap length (same_id row is h) ∙ is.is_id.sized) in cc (other, of))
            sized true long = named (word_said (drop 64 line)) refl
              where
                named : (o : Option Verdict) → word_said (drop 64 line) ≡ o
                    → ((row : VerdictRow) × IsRowLine line row) ⊎ NoRowLine line
                named None none = inr (no_row_word line (drop 64 line) refl none)
                named (Some v) says =
                    let word = word_is (drop 64 line) v says in
                    let spelled : encode_lower id ≡ take 64 line =
                    (bytes_eq-Decides (encode_lower id) (take 64 line)).0 same in
                    let is_id : IsId id =
                    record
                    { sized = eqb-true (length id) 32 long; bytes = all_bytes id (decode_of-ok (take 64 line) id e).3 } in
                    let whole : line ≡ encode_lower id ++ 0x20 ∷ verdict_name v =
                    sym (take-append-drop 64 line) ∙ ap (λ (d : List ℕ). d ++ drop 64 line) (sym spelled) ∙ ap (λ (d : List ℕ). encode_lower id ++ d) word.spelled in
                    inl (record { id = id; verdict = v }, (record { is_id = is_id; loud = word.loud }, whole))

-- rows that were read, and the rest of a file
pub data FileOr (file : List ℕ) : Type 0 where
  has_rows : (rows : List VerdictRow) → HasRows rows file → FileOr file
  has_bad_line : (n : ℕ) → HasBadLine n file → FileOr file

-- rows and one more row are rows
rows_more : (rows : List VerdictRow) (row : VerdictRow) → All IsRow rows → IsRow row → All IsRow (rows ++ row ∷ [])
rows_more rows row are is = All-push IsRow rows row are is

-- one line after the other
file_from : (n : ℕ) (file : List ℕ) (rows : List VerdictRow) (rest : List ℕ) → length rest < n → All IsRow rows
    → file ≡ lines_of rows ++ rest → FileOr file
file_from zero file rows rest less are split = absurd (omega arith)
file_from (suc n) file rows [] less are split =
    has_rows rows (record { are_rows = are; spelled = inl (split ∙ append-nil (lines_of rows)) })
file_from (suc n) file rows (b ∷ bytes) less are split = go (file_from n file) (row_or (first.line))
  where
    first : Front (b ∷ bytes)
    first = front_of b bytes

    go : ((rows : List VerdictRow) (rest : List ℕ) → length rest < n → All IsRow rows → file ≡ lines_of rows ++ rest → FileOr file)
        → ((row : VerdictRow) × IsRowLine first.line row) ⊎ NoRowLine first.line → FileOr file
    go onwards (inl found) = elim first.stands [
      | inl last ↦ has_rows (rows ++ found.0 ∷ [])
          (record { are_rows = rows_more rows found.0 are found.1.0; spelled = inr (record { before = rows; last = found.0; are = refl; spelled = split ∙ ap (λ (r : List ℕ). lines_of rows ++ r) (last ∙ found.1.1) }) })
      | inr more ↦
          let size : length (b ∷ bytes) ≡ length first.line + suc (length more.0) =
          ap length more.1 ∙ length-append first.line (0x0A ∷ more.0) in
          onwards (rows ++ found.0 ∷ []) more.0 (omega (arith, less, size)) (rows_more rows found.0 are found.1.0)
          (split ∙ ap (λ (r : List ℕ). lines_of rows ++ r) (more.1 ∙ ap (λ (l : List ℕ). l ++ 0x0A ∷ more.0) found.1.1) ∙ sym (lines_of-more rows found.0 more.0))
    ]
    go onwards (inr none) = has_bad_line (length rows + 1)
        (record {
          rows = rows;
          rest = b ∷ bytes;
          are_rows = are;
          split = split;
          place = refl;
          some = λ e. cc (e);
          bad = λ begins.
              let other =
              lines-first (b ∷ bytes) (line_of begins.0) (omega arith) (line_clean begins.0 begins.1) begins.2 in
              none begins.0 begins.1 (heads first.line (line_of begins.0) first.more other.0 (sym first.is ∙ other.1));
        })

-- each file has rows or a bad line
pub file_or : (file : List ℕ) → FileOr file
file_or file = file_from (suc (length file)) file [] file (omega arith) (All-nil IsRow) refl

-- each file has rows or a bad line, as the law says it
pub each_file : (file : List ℕ) → ((rows : List VerdictRow) × HasRows rows file) ⊎ ((n : ℕ) × HasBadLine n file)
each_file file = go (file_or file)
  where
    go : FileOr file → ((rows : List VerdictRow) × HasRows rows file) ⊎ ((n : ℕ) × HasBadLine n file)
    go (has_rows rows h) = inl (rows, h)
    go (has_bad_line n h) = inr (n, h)

-- a file has one list of rows
pub one_list : (file : List ℕ) (rows others : List VerdictRow) → HasRows rows file → HasRows others file → rows ≡ others
one_list file rows others a b =
    same_rows rows others a.are_rows b.are_rows (sym (lines-has rows file a) ∙ lines-has others file b)
