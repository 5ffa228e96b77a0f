-- Reading rows one after another.
use Rattle.std.proofs.Common.{◌≡◌, ◌≢◌, ℕ, ◌+◌, ◌<◌, false, cond, ◌⊎◌, inl, inr, List, [], ◌∷◌, ◌++◌, length, Option, Some, None, Result, Ok, Err, OnOk, refl, sym, ap, ◌∙◌, arith}
use Rattle.std.specs.Option.{option_or, is_some}
use Rattle.std.specs.Result.{is_err}
use Rattle.std.specs.Ordering.{is_eq, nat_cmp}
use Rattle.std.specs.Cmp.Lexicographic.{slice_cmp}
use Rattle.std.specs.Str.{bytes_eq}
use Rattle.std.specs.BTreeMap.{BTreeMap}
use Rattle.std.proofs.lemmas.Bool.{cases_Bool}
use Rattle.std.proofs.lemmas.Map.Text.{is_eq-slice_cmp}
use Rattle.std.proofs.lemmas.Slice.Eq.{bytes_eq-Decides}
use Rattle.std.proofs.lemmas.List.{length-append, append_assoc}
use Rattle.std.proofs.lemmas.List.Elements.{All-push}
use Rattle.c2_spec.specs.declared.panel.Verdict.{Verdict}
use Rattle.c2_spec.specs.declared.panel.VerdictRow.{VerdictRow}
use Rattle.c2_spec.specs.Judges.VerdictFile.{IsRow, line_of, lines_of, EndsOpen, HasBadLine, listed}
use Rattle.c2_judge.specs.Reading.{FirstLine, at_id, AddsRow, Progress}
use Rattle.c2_judge.proofs.Lines.{line_clean, same_line}

-- nothing in place of nothing
or_none : (o : Option Verdict) → option_or o None ≡ o
or_none None = refl
or_none (Some v) = refl

-- what isn't some is none
none_there : (o : Option Verdict) → is_some o ≡ false → o ≡ None
none_there None h = refl
none_there (Some v) h = cc h

-- a row that is put at an id where there was none
pub adds_new : (old new : BTreeMap (List ℕ) Verdict) (row : VerdictRow) → is_some (at_id old row.id) ≡ false
    → ((id : List ℕ) → at_id new id ≡ cond (is_eq (slice_cmp nat_cmp row.id id)) (Some row.verdict) (at_id old id))
    → AddsRow row old new
adds_new old new row absent puts id =
    let test : is_eq (slice_cmp nat_cmp row.id id) ≡ bytes_eq row.id id = is_eq-slice_cmp row.id id in
    elim (cases_Bool (bytes_eq row.id id)) [
      | inl same_id ↦
          let same : row.id ≡ id = (bytes_eq-Decides row.id id).0 same_id in
          let none : at_id old id ≡ None = ap (λ k. at_id old k) (sym same) ∙ none_there (at_id old row.id) absent in
          let put : at_id new id ≡ Some row.verdict =
          puts id ∙ ap (λ b. cond b (Some row.verdict) (at_id old id)) (test ∙ same_id) in
          rw (none, same_id) put
      | inr other ↦
          let kept : at_id new id ≡ at_id old id =
          puts id ∙ ap (λ b. cond b (Some row.verdict) (at_id old id)) (test ∙ other) in
          rw other (kept ∙ sym (or_none (at_id old id)))
    ]

-- the lines of rows and one more row
lines_of-push : (rows : List VerdictRow) (row : VerdictRow)
    → lines_of (rows ++ row ∷ []) ≡ lines_of rows ++ (line_of row ++ 0x0A ∷ [])
lines_of-push [] row = refl
lines_of-push (first ∷ rows) row =
    ap (λ t. line_of first ++ 0x0A ∷ t) (lines_of-push rows row)
    ∙ sym (append_assoc (line_of first) (0x0A ∷ lines_of rows) (line_of row ++ 0x0A ∷ []))

-- a further line before what comes after it
pub lines_of-more : (rows : List VerdictRow) (row : VerdictRow) (behind : List ℕ)
    → lines_of (rows ++ row ∷ []) ++ behind ≡ lines_of rows ++ (line_of row ++ 0x0A ∷ behind)
lines_of-more rows row behind =
    ap (λ t. t ++ behind) (lines_of-push rows row)
    ∙ append_assoc (lines_of rows) (line_of row ++ 0x0A ∷ []) behind
    ∙ ap (λ t. lines_of rows ++ t) (append_assoc (line_of row) (0x0A ∷ []) behind)

-- the verdict of an id in rows and one more row
listed-push : (rows : List VerdictRow) (row : VerdictRow) (id : List ℕ)
    → listed (rows ++ row ∷ []) id ≡ option_or (listed rows id) (listed (row ∷ []) id)
listed-push [] row id = refl
listed-push (first ∷ rows) row id =
    let more = listed-push rows row id in
    elim (cases_Bool (bytes_eq first.id id)) [ inl same_id ↦ rw same_id refl | inr other ↦ rw other more ]

-- where bytes are left, all before them is lines of rows
pub left_over : (rows : List VerdictRow) (file rest : List ℕ)
    → ((file ≡ lines_of rows ++ rest) ⊎ ((rest ≡ []) × EndsOpen rows file)) → 0 < length rest
    → file ≡ lines_of rows ++ rest
left_over rows file rest (inl e) some = e
left_over rows file rest (inr h) some = let none : length rest ≡ 0 = ap length h.0 in absurd (omega arith)

-- one more row was read
pub progress_more : (rows : List VerdictRow) (row : VerdictRow) (file rest line behind : List ℕ) (number : ℕ)
    (old new : BTreeMap (List ℕ) Verdict) → Progress rows file rest number old → 0 < length rest
    → FirstLine rest line behind → IsRow row → line ≡ line_of row → AddsRow row old new
    → Progress (rows ++ row ∷ []) file behind (number + 1) new
progress_more rows row file rest line behind number old new so_far some first is_row is adds =
    let all : file ≡ lines_of rows ++ rest = left_over rows file rest so_far.spelled some in
    let size = length-append rows (row ∷ []) in
    record {
      are_rows = All-push IsRow rows row so_far.are_rows is_row;
      spelled = spells first.split all;
      count = omega (arith, so_far.count);
      lists =
          λ id. adds id ∙ ap (λ o. option_or o (listed (row ∷ []) id)) (so_far.lists id)
          ∙ sym (listed-push rows row id);
    }
  where
    spells : ((rest ≡ line ++ 0x0A ∷ behind) ⊎ ((rest ≡ line) × (behind ≡ []))) → file ≡ lines_of rows ++ rest
        → (file ≡ lines_of (rows ++ row ∷ []) ++ behind) ⊎ ((behind ≡ []) × EndsOpen (rows ++ row ∷ []) file)
    spells (inl e) all =
        inl
        (all ∙ ap (λ t. lines_of rows ++ t) (e ∙ ap (λ t. t ++ 0x0A ∷ behind) is) ∙ sym (lines_of-more rows row behind))
    spells (inr h) all =
        inr
        (h.1, record { before = rows; last = row; are = refl; spelled = all ∙ ap (λ t. lines_of rows ++ t) (h.0 ∙ is) })

-- the next line is no row's
pub bad_line :
    (rows : List VerdictRow) (file rest line behind : List ℕ) (number : ℕ) (verdicts : BTreeMap (List ℕ) Verdict)
    → Progress rows file rest number verdicts → 0 < length rest → FirstLine rest line behind
    → ((row : VerdictRow) → IsRow row → line ≢ line_of row) → HasBadLine (number + 1) file
bad_line rows file rest line behind number verdicts so_far some first none = record {
  rows = rows;
  rest = rest;
  are_rows = so_far.are_rows;
  split = left_over rows file rest so_far.spelled some;
  place = ap (λ n. n + 1) so_far.count;
  some = λ empty. let zero_long : length rest ≡ 0 = ap length empty in absurd (omega arith);
  bad =
      λ begins. none begins.0 begins.1 (same_line rest line behind (line_of begins.0) first some (line_clean begins.0 begins.1) begins.2);
}

-- a fact of a success, where it is one
pub on_success : {T E P : Type 0} (r : Result T E) → is_err r ≡ false → OnOk r P → P
on_success (Ok v) h p = p
on_success (Err e) h p = absurd (cc h)
