-- Parts of boxes in the order of their starts, and exclusions with their parts in that order.
use Rattle.std.specs.Prelude.{◌≡◌, ℕ, ◌≤◌, List}
use Rattle.std.specs.List.{list_any}
use Rattle.std.specs.List.Sorted.{IsNonDecreasingBy}
use Rattle.c2_base.specs.declared.values.Range.{Range}
use Rattle.c2_spec.specs.Bmff.Hash.{Exclusion, in_part}
use Rattle.c2_bmff_excluded.specs.Marks.{SharedPath, excludes_any, excludes_row, marks}
use Rattle.c2_bmff_rows.specs.declared.row.RootBox.{RootBox}

-- a part begins no later than there
abbrev pub StartsBy : ℕ → Range → Type 0
StartsBy n part = part.start ≤ n

-- each part begins no earlier than those before it
abbrev pub AreRising : List Range → Type 0
AreRising parts = IsNonDecreasingBy (λ (part : Range). part.start) parts

-- the parts hold the same positions
abbrev pub HoldSame : List Range → List Range → Type 0
HoldSame parts others = (i : ℕ) → list_any (in_part i) parts ≡ list_any (in_part i) others

-- the exclusions exclude the same positions, of all files and siblings
abbrev pub ExcludeSame : List Exclusion → List Exclusion → Type 0
ExcludeSame es others = (file : List ℕ) (rows : List RootBox) (i : ℕ) → list_any (excludes_row file rows i) es ≡ list_any (excludes_row file rows i) others

-- exclusions that ask the same of a box
abbrev pub AskSame : Exclusion → Exclusion → Type 0
AskSame e d = (e.path ≡ d.path) × (e.length ≡ d.length) × (e.tests ≡ d.tests)

-- the exclusions exclude the same positions of each box, of all files
abbrev pub MarkSame : Exclusion → Exclusion → Type 0
MarkSame e d = (file : List ℕ) (i : ℕ) (r : RootBox) → marks file e i r ≡ marks file d i r

-- exclusions by their paths exclude the same positions as those of a list, of all files and siblings
abbrev pub ShareSame : List SharedPath → List Exclusion → Type 0
ShareSame es others = (file : List ℕ) (rows : List RootBox) (i : ℕ) → list_any (excludes_any file rows i) es ≡ list_any (excludes_row file rows i) others
