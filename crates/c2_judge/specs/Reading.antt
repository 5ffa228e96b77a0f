-- For private clauses: the steps of reading a verdict file.
use Rattle.std.specs.Prelude.{◌≡◌, ◌≢◌, ℕ, ◌==◌, ◌⊎◌, ⊤, Bool, false, List, [], ◌∷◌, ◌++◌, All, length, codes, if◌then◌else◌, Some, None, Ok, Err, bytes_eq, unwrap_or}
use Rattle.std.specs.declared.option.Option.{Option}
use Rattle.std.specs.declared.result.Result.{Result}
use Rattle.std.specs.List.{list_any}
use Rattle.std.specs.Option.{option_or}
use Rattle.std.specs.Ordering.{nat_cmp}
use Rattle.std.specs.Cmp.Lexicographic.{slice_cmp}
use Rattle.std.specs.BTreeMap as tree
use Rattle.std.specs.BTreeMap.{BTreeMap}
use Rattle.hex.specs.Hex.{encode_lower}
use Rattle.c2_spec.specs.declared.panel.Verdict.{Verdict}
use Rattle.c2_spec.specs.declared.panel.Verdict.TheVariants.{Approved, Mismatch, Untrusted, Invalid, Silent}
use Rattle.c2_spec.specs.declared.panel.VerdictRow.{VerdictRow}
use Rattle.c2_spec.specs.declared.panel.ListError.{ListError}
use Rattle.c2_spec.specs.declared.panel.ListError.TheVariants.{TooLarge, BadRow, NoMemory}
use Rattle.c2_spec.specs.Judges.VerdictFile.{IsId, IsRow, line_of, lines_of, EndsOpen, HasRows, HasBadLine, listed}

-- a line feed is among the bytes
abbrev pub has_feed : List ℕ → Bool
has_feed bytes = list_any (λ b. b == 0x0A) bytes

-- the first line of some bytes, and what comes after its line feed
pub record FirstLine (bytes line rest : List ℕ) : Type 0 where
  pub clean : has_feed line ≡ false
  pub split : (bytes ≡ line ++ 0x0A ∷ rest) ⊎ ((bytes ≡ line) × (rest ≡ []))

-- these digits are no id's lower case hex
abbrev pub NoIdDigits : List ℕ → Type 0
NoIdDigits digits = (id : List ℕ) → IsId id → digits ≢ encode_lower id

-- these digits are this id's lower case hex
abbrev pub IsIdDigits : List ℕ → List ℕ → Type 0
IsIdDigits digits id = IsId id × (digits ≡ encode_lower id)

-- these digits are no other id's lower case hex
abbrev pub OnlyIdDigits : List ℕ → List ℕ → Type 0
OnlyIdDigits digits id = (other : List ℕ) → IsId other → digits ≡ encode_lower other → other ≡ id

-- this line is no row's
abbrev pub NoRowLine : List ℕ → Type 0
NoRowLine line = (row : VerdictRow) → IsRow row → line ≢ line_of row

-- this line is this row's
abbrev pub IsRowLine : List ℕ → VerdictRow → Type 0
IsRowLine line row = IsRow row × (line ≡ line_of row)

-- the verdict that is named after a space
abbrev pub word_said : List ℕ → Option Verdict
word_said word =
    if bytes_eq word (codes " approved") then Some Approved
    else if bytes_eq word (codes " mismatch") then Some Mismatch
    else if bytes_eq word (codes " untrusted") then Some Untrusted
    else if bytes_eq word (codes " invalid") then Some Invalid
    else None

-- what a map has at an id
abbrev pub at_id : BTreeMap (List ℕ) Verdict → List ℕ → Option Verdict
at_id verdicts id = tree.get (slice_cmp nat_cmp) verdicts id

-- what a judge with this map says of the question with this id
abbrev pub said_at : BTreeMap (List ℕ) Verdict → List ℕ → Verdict
said_at verdicts id = unwrap_or (at_id verdicts id) Silent

-- a map has got a row after those that it had
abbrev pub AddsRow : VerdictRow → BTreeMap (List ℕ) Verdict → BTreeMap (List ℕ) Verdict → Type 0
AddsRow row old new = (id : List ℕ) → at_id new id ≡ option_or (at_id old id) (listed (row ∷ []) id)

-- a map says what these rows say
abbrev pub Lists : List VerdictRow → BTreeMap (List ℕ) Verdict → Type 0
Lists rows verdicts = (id : List ℕ) → at_id verdicts id ≡ listed rows id

-- these rows were read from the beginning of a file, and this is left
pub record Progress (rows : List VerdictRow) (file rest : List ℕ) (number : ℕ) (verdicts : BTreeMap (List ℕ) Verdict) : Type 0 where
  pub are_rows : All IsRow rows
  pub spelled : (file ≡ lines_of rows ++ rest) ⊎ ((rest ≡ []) × EndsOpen rows file)
  pub count : number ≡ length rows
  pub lists : Lists rows verdicts

-- what the reading of a file answers, which isn't too large
abbrev pub HasReadRows : List ℕ → Result (BTreeMap (List ℕ) Verdict) ListError → Type 0
HasReadRows file (Ok verdicts) = (rows : List VerdictRow) × HasRows rows file × Lists rows verdicts
HasReadRows file (Err (TooLarge n)) = ⊥
HasReadRows file (Err (BadRow n)) = HasBadLine n file
HasReadRows file (Err NoMemory) = ⊤
