-- A file has one list of rows or one first bad line, and never both.
use Rattle.std.proofs.Common.{◌≡◌, ◌≢◌, ℕ, ◌+◌, ◌<◌, ◌≤◌, false, eqb, ◌⊎◌, inl, inr, List, [], ◌∷◌, ◌++◌, length, map, take, drop, Some, Ok, Err, refl, sym, ap, ◌∙◌, arith}
use Rattle.std.specs.Prelude.{All, unwrap_or}
use Rattle.std.specs.BTreeMap.{BTreeMap}
use Rattle.std.proofs.lemmas.Bool.{cases_Bool, eqb-true}
use Rattle.std.proofs.lemmas.List.{length-append, append_assoc, append-nil, map-append}
use Rattle.std.proofs.lemmas.List.Elements.{All-head, All-tail, All-same}
use Rattle.hex.specs.Hex.{encode_lower}
use Rattle.hex.proofs.HexLemmas.{decode_of-encode_lower, decode_of-same}
use Rattle.c2_base.specs.declared.limits.TheConstants.{MAX_INPUT_LEN}
use Rattle.c2_base.specs.declared.values.Question.{Question}
use Rattle.c2_spec.specs.declared.panel.Verdict.{Verdict}
use Rattle.c2_spec.specs.declared.panel.Verdict.TheVariants.{Silent}
use Rattle.c2_spec.specs.declared.panel.VerdictRow.{VerdictRow}
use Rattle.c2_spec.specs.declared.panel.ListError.{ListError}
use Rattle.c2_spec.specs.declared.panel.ListError.TheVariants.{TooLarge, BadRow, NoMemory}
use Rattle.c2_spec.specs.Judges.Panel.{verdict_name}
use Rattle.c2_spec.specs.Judges.Question.{question_digest}
use Rattle.c2_spec.specs.Judges.VerdictFile.{IsRow, line_of, lines_of, HasRows, HasBadLine, SaysFile, HasListReason, rows_say}
use Rattle.c2_judge.specs.Reading.{has_feed, word_said, said_at, HasReadRows}
use Rattle.c2_judge.proofs.Lines.{id_bytes, line_clean, front_of_line, word_of_line, word_read, cons_first, lines, lines-feed, lines-open, first_of}

-- a list of lines without its first
rest_of : List (List ℕ) → List (List ℕ)
rest_of [] = []
rest_of (line ∷ rest) = rest

-- equal lists have equal first elements
pub heads : (x y : List ℕ) (xs ys : List (List ℕ)) → x ∷ xs ≡ y ∷ ys → x ≡ y
unfolding first_of
heads x y xs ys e = ap first_of e

-- equal lists have equal rests
tails : (x y : List ℕ) (xs ys : List (List ℕ)) → x ∷ xs ≡ y ∷ ys → xs ≡ ys
unfolding rest_of
tails x y xs ys e = ap rest_of e

-- the lines of rows' lines and of what is behind them
lines-rows : (rows : List VerdictRow) (rest : List ℕ) → All IsRow rows
    → lines (lines_of rows ++ rest) ≡ map line_of rows ++ lines rest
lines-rows [] rest are = refl
lines-rows (row ∷ rows) rest are =
    ap lines (append_assoc (line_of row) (0x0A ∷ lines_of rows) rest)
    ∙ lines-feed (line_of row) (lines_of rows ++ rest) (line_clean row (All-head IsRow row rows are))
    ∙ ap (λ ls. line_of row ∷ ls) (lines-rows rows rest (All-tail IsRow row rows are))

-- bytes without a line feed are one line
whole_line : (line : List ℕ) → 0 < length line → has_feed line ≡ false → lines line ≡ line ∷ []
whole_line [] some clean = absurd (omega arith)
whole_line (b ∷ line) some clean = lines-open b line clean

-- a row's line isn't empty
line_some : (row : VerdictRow) → 0 < length (line_of row)
line_some row = let parts = length-append (encode_lower row.id) (0x20 ∷ verdict_name row.verdict) in omega arith

-- the last of some rows is one
last_row : (front : List VerdictRow) (last : VerdictRow) → All IsRow (front ++ last ∷ []) → IsRow last
last_row [] last are = All-head IsRow last [] are
last_row (row ∷ front) last are = last_row front last (All-tail IsRow row (front ++ last ∷ []) are)

-- the lines of all rows but the last, and of what follows
front_rows : (front : List VerdictRow) (last : VerdictRow) → All IsRow (front ++ last ∷ []) → (rest : List ℕ)
    → lines (lines_of front ++ rest) ≡ map line_of front ++ lines rest
front_rows [] last are rest = refl
front_rows (row ∷ front) last are rest =
    ap lines (append_assoc (line_of row) (0x0A ∷ lines_of front) rest)
    ∙ lines-feed (line_of row) (lines_of front ++ rest) (line_clean row (All-head IsRow row (front ++ last ∷ []) are))
    ∙ ap (λ ls. line_of row ∷ ls) (front_rows front last (All-tail IsRow row (front ++ last ∷ []) are) rest)

-- the lines of a file with these rows
pub lines-has : (rows : List VerdictRow) (file : List ℕ) → HasRows rows file → lines file ≡ map line_of rows
unfolding lines
lines-has rows file has =
    elim has.spelled [
      | inl e ↦ ap lines (e ∙ sym (append-nil (lines_of rows))) ∙ lines-rows rows [] has.are_rows ∙ append-nil (map line_of rows)
      | inr o ↦
          let are : All IsRow (o.before ++ o.last ∷ []) =
          All-same IsRow (o.before ++ o.last ∷ []) rows (sym o.are) has.are_rows in
          ap lines o.spelled
          ∙ front_rows o.before o.last are (line_of o.last)
          ∙ ap (λ ls. map line_of o.before ++ ls)
          (whole_line (line_of o.last) (line_some o.last) (line_clean o.last (last_row o.before o.last are)))
          ∙ sym (map-append line_of o.before (o.last ∷ []))
          ∙ ap (map line_of) (sym o.are)
    ]

-- a line tells its row
same_row : (r s : VerdictRow) → IsRow r → IsRow s → line_of r ≡ line_of s → r ≡ s
same_row r s hr hs e =
    let digits : encode_lower r.id ≡ encode_lower s.id =
    sym (front_of_line r hr) ∙ ap (λ l. take 64 l) e ∙ front_of_line s hs in
    let id : r.id ≡ s.id =
    decode_of-same (encode_lower r.id) r.id s.id (decode_of-encode_lower r.id (id_bytes r.id hr.is_id))
    (rw digits (decode_of-encode_lower s.id (id_bytes s.id hs.is_id))) in
    let word : 0x20 ∷ verdict_name r.verdict ≡ 0x20 ∷ verdict_name s.verdict =
    sym (word_of_line r hr) ∙ ap (λ l. drop 64 l) e ∙ word_of_line s hs in
    let both : Some r.verdict ≡ Some s.verdict =
    sym (word_read r.verdict hr.loud) ∙ ap word_said word ∙ word_read s.verdict hs.loud in
    let verdict : r.verdict ≡ s.verdict = cc both in
    let one : VerdictRow = record { id = s.id; verdict = r.verdict } in
    ap {B = VerdictRow} (λ i. record { id = i; verdict = r.verdict }) id
    ∙ ap {B = VerdictRow} (λ v. record { id = s.id; verdict = v }) verdict

-- lines tell their rows
pub same_rows : (rows others : List VerdictRow) → All IsRow rows → All IsRow others
    → map line_of rows ≡ map line_of others → rows ≡ others
same_rows [] [] a b e = refl
same_rows [] (s ∷ others) a b e = absurd (cc e)
same_rows (r ∷ rows) [] a b e = absurd (cc e)
same_rows (r ∷ rows) (s ∷ others) a b e =
    let row =
    same_row r s (All-head IsRow r rows a) (All-head IsRow s others b)
    (heads (line_of r) (line_of s) (map line_of rows) (map line_of others) e) in
    let rest =
    same_rows rows others (All-tail IsRow r rows a) (All-tail IsRow s others b)
    (tails (line_of r) (line_of s) (map line_of rows) (map line_of others) e) in
    ap (λ x. x ∷ rows) row ∙ ap (λ xs. s ∷ xs) rest

-- the first line of bytes that aren't empty
pub record Front (bytes : List ℕ) : Type 0 where
  pub line : List ℕ
  pub more : List (List ℕ)
  pub is : lines bytes ≡ line ∷ more
  pub stands : (bytes ≡ line) ⊎ ((rest : List ℕ) × (bytes ≡ line ++ 0x0A ∷ rest))

-- a byte before the first line
longer : (b : ℕ) (bytes : List ℕ) → eqb b 0x0A ≡ false → Front bytes → Front (b ∷ bytes)
unfolding lines cons_first
longer b bytes other front = record {
  line = b ∷ front.line;
  more = front.more;
  is = rw (other, front.is) refl;
  stands = elim front.stands [ inl e ↦ inl (ap (λ l. b ∷ l) e) | inr h ↦ inr (h.0, ap (λ l. b ∷ l) h.1) ];
}

-- the first line of bytes, byte by byte
pub front_of : (b : ℕ) (bytes : List ℕ) → Front (b ∷ bytes)
unfolding lines cons_first
front_of b [] =
    elim (cases_Bool (eqb b 0x0A)) [
      | inl feed ↦ record { line = []; more = []; is = rw feed refl; stands = inr ([], ap (λ x. x ∷ []) (eqb-true b 0x0A feed)) }
      | inr other ↦ record { line = b ∷ []; more = []; is = rw other refl; stands = inl refl }
    ]
front_of b (c ∷ bytes) =
    let behind = front_of c bytes in
    elim (cases_Bool (eqb b 0x0A)) [
      | inl feed ↦ record { line = []; more = lines (c ∷ bytes); is = rw feed refl; stands = inr (c ∷ bytes, ap (λ x. x ∷ c ∷ bytes) (eqb-true b 0x0A feed)) }
      | inr other ↦ longer b (c ∷ bytes) other behind
    ]

-- a line that stands where rows' lines stand is a row's
finds : (rows others : List VerdictRow) (line : List ℕ) (more : List (List ℕ)) → All IsRow rows
    → map line_of rows ≡ map line_of others ++ line ∷ more → (row : VerdictRow) × IsRow row × (line ≡ line_of row)
finds [] [] line more a e = absurd (cc e)
finds [] (s ∷ others) line more a e = absurd (cc e)
finds (r ∷ rows) [] line more a e = (r, All-head IsRow r rows a, sym (heads (line_of r) line (map line_of rows) more e))
finds (r ∷ rows) (s ∷ others) line more a e =
    finds rows others line more (All-tail IsRow r rows a)
    (tails (line_of r) (line_of s) (map line_of rows) (map line_of others ++ line ∷ more) e)

-- two prefixes of rows end at one place, where none of the lines behind them is a row's
same_place : (rows others : List VerdictRow) (line line' : List ℕ) (more more' : List (List ℕ)) → All IsRow rows
    → All IsRow others → ((row : VerdictRow) → IsRow row → line ≢ line_of row)
    → ((row : VerdictRow) → IsRow row → line' ≢ line_of row)
    → map line_of rows ++ line ∷ more ≡ map line_of others ++ line' ∷ more' → length rows ≡ length others
same_place [] [] line line' more more' a b bad bad' e = refl
same_place [] (s ∷ others) line line' more more' a b bad bad' e =
    absurd (bad s (All-head IsRow s others b) (heads line (line_of s) more (map line_of others ++ line' ∷ more') e))
same_place (r ∷ rows) [] line line' more more' a b bad bad' e =
    absurd (bad' r (All-head IsRow r rows a) (sym (heads (line_of r) line' (map line_of rows ++ line ∷ more) more' e)))
same_place (r ∷ rows) (s ∷ others) line line' more more' a b bad bad' e =
    let rest =
    same_place rows others line line' more more' (All-tail IsRow r rows a) (All-tail IsRow s others b) bad bad'
    (tails (line_of r) (line_of s) (map line_of rows ++ line ∷ more) (map line_of others ++ line' ∷ more') e) in
    omega arith

-- the bad line of a file, and the lines before and behind it
pub record BadFront (n : ℕ) (file : List ℕ) : Type 0 where
  pub rows : List VerdictRow
  pub line : List ℕ
  pub more : List (List ℕ)
  pub are_rows : All IsRow rows
  pub place : n ≡ length rows + 1
  pub is : lines file ≡ map line_of rows ++ line ∷ more
  pub bad : (row : VerdictRow) → IsRow row → line ≢ line_of row

-- the bad line of a file, found
bad_front : (n : ℕ) (file : List ℕ) → HasBadLine n file → BadFront n file
bad_front n file h =
    let front = first_line h.rest h.some in
    record {
      rows = h.rows;
      line = front.line;
      more = front.more;
      are_rows = h.are_rows;
      place = h.place;
      is = ap lines h.split ∙ lines-rows h.rows h.rest h.are_rows ∙ ap (λ ls. map line_of h.rows ++ ls) front.is;
      bad = λ row is_row e. h.bad (row, is_row, rw e at front.stands);
    }
  where
    first_line : (bytes : List ℕ) → bytes ≢ [] → Front bytes
    first_line [] full = absurd (full refl)
    first_line (b ∷ bytes) full = front_of b bytes

-- what a judge says is what any rows of the file say
pub only_these : (file : List ℕ) (said : Question → Verdict) → SaysFile file said → (rows : List VerdictRow)
    → HasRows rows file → (q : Question) → said q ≡ rows_say rows q
only_these file said says rows has q =
    let same =
    same_rows says.0 rows says.1.are_rows has.are_rows
    (sym (lines-has says.0 file says.1) ∙ lines-has rows file has) in
    says.3 q ∙ ap (λ rs. rows_say rs q) same

-- a file with rows has no bad line
pub apart : (n : ℕ) (file : List ℕ) (rows : List VerdictRow) → HasRows rows file → HasBadLine n file → ⊥
apart n file rows has h =
    let front = bad_front n file h in
    let found = finds rows front.rows front.line front.more has.are_rows (sym (lines-has rows file has) ∙ front.is) in
    front.bad found.0 found.1 found.2

-- a file with a bad line gives no judge
pub none_said : (file : List ℕ) (said : Question → Verdict) → SaysFile file said → (n : ℕ) → HasBadLine n file → ⊥
none_said file said says n h = apart n file says.0 says.1 h

-- a file with rows is refused where memory runs out alone
pub only_memory : (file : List ℕ) (e : ListError) → HasListReason file e → (rows : List VerdictRow) → HasRows rows file
    → length file ≤ MAX_INPUT_LEN → e ≡ NoMemory
only_memory file (TooLarge n) reason rows has fits = let above = reason.1 in absurd (omega arith)
only_memory file (BadRow n) reason rows has fits = absurd (apart n file rows has reason.0)
only_memory file NoMemory reason rows has fits = refl

-- a file has one first bad line
pub one_place : (file : List ℕ) (m n : ℕ) → HasBadLine m file → HasBadLine n file → m ≡ n
one_place file m n a b =
    let one = bad_front m file a in
    let two = bad_front n file b in
    let same =
    same_place one.rows two.rows one.line two.line one.more two.more one.are_rows two.are_rows one.bad two.bad
    (sym one.is ∙ two.is) in
    omega (arith, one.place, two.place)

-- a file with a bad line is refused with its place, or where memory runs out
pub only_place : (file : List ℕ) (e : ListError) → HasListReason file e → (n : ℕ) → HasBadLine n file
    → length file ≤ MAX_INPUT_LEN → (e ≡ BadRow n) ⊎ (e ≡ NoMemory)
only_place file (TooLarge m) reason n h fits = let above = reason.1 in absurd (omega arith)
only_place file (BadRow m) reason n h fits =
    inl (ap BadRow (one_place file m n reason.0 h))
only_place file NoMemory reason n h fits = inr refl

-- the answers of the reading, as the public clauses say them
pub says_file : (file : List ℕ) (verdicts : BTreeMap (List ℕ) Verdict) → HasReadRows file (Ok verdicts)
    → length file ≤ MAX_INPUT_LEN → SaysFile file (λ q. said_at verdicts (question_digest q))
says_file file verdicts read fits =
    (read.0, read.1, fits, λ q. ap (λ o. unwrap_or o Silent) (read.2 (question_digest q)))

-- an error of reading a list that isn't too large has its reason
pub reason_of : (file : List ℕ) (e : ListError) → HasReadRows file (Err e) → length file ≤ MAX_INPUT_LEN
    → HasListReason file e
reason_of file (TooLarge n) read fits = absurd read
reason_of file (BadRow n) read fits = (read, fits)
reason_of file NoMemory read fits = tt
