-- The positions that an exclusion excludes through the boxes of these rows.
use Rattle.std.specs.Prelude.{◌≡◌, ℕ, ◌+◌, ◌-◌, ◌*◌, ◌^◌, ◌<◌, ◌≤◌, ⊤, Bool, true, ◌&&◌, ◌||◌, ◌==◌, nat_le, nat_lt, max, min, List, [], ◌∷◌, length, take, drop, Option, Some, None, if◌then◌else◌}
use Rattle.std.specs.List.{list_any, list_all}
use Rattle.std.specs.Str.{bytes_eq}
use Rattle.c2_base.specs.declared.values.Range.{Range}
use Rattle.c2_spec.specs.Bmff.Hash.{ByteTest, Exclusion, in_part, in_subset}
use Rattle.c2_spec.specs.Cover.{is_excluded}
use Rattle.c2_spec.specs.Bmff.Paths.{PathStep}
use Rattle.c2_bmff_rows.specs.Paths.{on_rows}
use Rattle.c2_bmff_rows.specs.declared.row.RootBox.{RootBox}

-- these bytes stand at a place of the file
abbrev pub stands_at : List ℕ → ℕ → List ℕ → Bool
stands_at file at value = bytes_eq (take (length value) (drop at file)) value

-- these are first bytes of the box of this row
abbrev pub IsFront : List ℕ → RootBox → List ℕ → Type 0
IsFront file r front = front ≡ take (length front) (drop r.start file)

-- a byte test holds of the box of this row
abbrev pub holds_test : List ℕ → RootBox → ByteTest → Bool
holds_test file r t =
    nat_le (t.offset + length t.value) r.length && stands_at file (r.start + t.offset) t.value

-- the box has the stated length, where one is stated
abbrev pub has_length : Option ℕ → RootBox → Bool
has_length None r = true
has_length (Some n) r = r.length == n

-- the exclusion takes the box of this row
abbrev pub takes : List ℕ → Exclusion → RootBox → Bool
takes file e r = has_length e.length r && list_all (holds_test file r) e.tests

-- the box of this row holds a position
abbrev pub in_row : ℕ → RootBox → Bool
in_row i r = nat_le r.start i && nat_lt i (r.start + r.length)

-- a position lies in the box of this row, and in this part of the box
abbrev pub in_row_part : ℕ → RootBox → Range → Bool
in_row_part i r part = in_row i r && in_part (i - r.start) part

-- a position lies in the box of this row, and in this subset of the box
abbrev pub in_row_subset : ℕ → RootBox → Option (List Range) → Bool
in_row_subset i r subset = in_row i r && in_subset (i - r.start) subset

-- the exclusion excludes a position through the box of this row
abbrev pub marks : List ℕ → Exclusion → ℕ → RootBox → Bool
marks file e i r = takes file e r && in_row_subset i r e.subset

-- the exclusion excludes a position
abbrev pub excludes_row : List ℕ → List RootBox → ℕ → Exclusion → Bool
excludes_row file roots i e = list_any (marks file e i) (on_rows file roots e.path)

-- a range ends in a source of `len` bytes
abbrev pub IsRangeWithin : ℕ → Range → Type 0
IsRangeWithin len r = r.start + r.length ≤ len

-- Beside what these ranges excluded, they exclude now only positions of which this is true, and nothing less.
abbrev pub GrowsWithin : (ℕ → Bool) → List Range → List Range → Type 0
GrowsWithin more old new =
    (i : ℕ) → (is_excluded old i ≡ true → is_excluded new i ≡ true)
    × (is_excluded new i ≡ true → (is_excluded old i || more i) ≡ true)

-- each of these ranges has positions, from `low` on, and between two of them there is a position
abbrev pub AreApart : ℕ → List Range → Type 0
AreApart low [] = ⊤
AreApart low (r ∷ rs) =
    (low ≤ r.start) × (0 < r.length) × AreApart (r.start + r.length + 1) rs

-- how many ranges there may be before they are joined again: as many as before where there were fewer, else twice as many as are left,
-- and no fewer than before
abbrev pub joined_again : ℕ → ℕ → ℕ → ℕ
joined_again full before left =
    if nat_lt before full then full else max (min (left * 2) (2 ^ 64 - 1)) full

-- the box of this row lies in a range
abbrev pub is_row_in : RootBox → Range → Bool
is_row_in r x = nat_le x.start r.start && nat_le (r.start + r.length) (x.start + x.length)

-- exclusions of one path
pub record SharedPath : Type 0 where
  pub path : List PathStep
  pub exclusions : List Exclusion

-- one of them excludes a position through the box of this row
abbrev pub marks_any : List ℕ → SharedPath → ℕ → RootBox → Bool
marks_any file e i r = list_any (λ (x : Exclusion). marks file x i r) e.exclusions

-- one of them excludes a position
abbrev pub excludes_any : List ℕ → List RootBox → ℕ → SharedPath → Bool
excludes_any file roots i e = list_any (marks_any file e i) (on_rows file roots e.path)
