-- For private clauses: how far exclusions came on their paths, in a walk over boxes that visits each box once for all of them.
use Rattle.std.specs.Prelude.{All, ℕ, ◌+◌, ◌*◌, Bool, false, ◌||◌, List, [], ◌∷◌, length, take, drop, filter, nat_lt, Option, Some, None}
use Rattle.std.specs.List.{list_any, slice_get, sum_by}
use Rattle.std.specs.Str.{bytes_eq}
use Rattle.c2_bmff_rows.specs.Rows.{IsRowWithin}
use Rattle.c2_bmff_rows.specs.Children.{kids}
use Rattle.c2_bmff_boxes.specs.Children.{rows_len}
use Rattle.c2_bmff_rows.specs.Paths.{go_on, on_rows}
use Rattle.c2_bmff_excluded.specs.Marks.{SharedPath, marks_any}
use Rattle.c2_bmff_rows.specs.declared.row.RootBox.{RootBox}
use Rattle.c2_bmff.specs.declared.walking.Coming.{Coming}
use Rattle.c2_bmff.specs.declared.walking.Coming.TheVariants as coming
use Rattle.c2_bmff.specs.declared.walking.Level.{Level}
use Rattle.c2_bmff.specs.declared.walking.Trail.{Trail}

-- the siblings that a step means among the coming ones of its type: all, the one behind `n` others, or none
abbrev pub picks : Coming → List RootBox → List RootBox
picks coming.Each rows = rows
picks (coming.After n) rows = take 1 (drop n rows)
picks coming.Done rows = []

-- the siblings of a type
abbrev pub of_kind : List ℕ → List RootBox → List RootBox
of_kind kind rows = filter (λ (r : RootBox). bytes_eq r.kind kind) rows

-- the rows on the rest of an exclusion's path, where these siblings are still to come
abbrev pub rows_ahead : List ℕ → List RootBox → Trail → SharedPath → List RootBox
rows_ahead file rows t e = go_on file t.step (drop t.taken e.path) (picks t.coming (of_kind t.step.kind rows))

-- an exclusion of nothing
abbrev pub no_exclusion : SharedPath
no_exclusion = record { path = []; exclusions = [] }

-- a test of an exclusion; false where there is none
abbrev pub of_option : Option SharedPath → (SharedPath → Bool) → Bool
of_option None test = false
of_option (Some e) test = test e

-- a test of the exclusion of this index
abbrev pub of_entry : List SharedPath → ℕ → (SharedPath → Bool) → Bool
of_entry es k test = of_option (slice_get es k) test

-- the exclusion of a trail excludes a position through one of the siblings that are still to come, or below one
abbrev pub ahead : List ℕ → List SharedPath → ℕ → List RootBox → Trail → Bool
ahead file es i rows t = of_entry es t.entry (λ (e : SharedPath). list_any (marks_any file e i) (rows_ahead file rows t e))

-- the exclusion of this index excludes a position through one of the boxes on the rest of its path, or below one: so many of its steps were
-- taken before the first of these siblings
abbrev pub from_step : List ℕ → List SharedPath → ℕ → List RootBox → ℕ → ℕ → Bool
from_step file es i rows k taken = of_entry es k (λ (e : SharedPath). list_any (marks_any file e i) (on_rows file rows (drop taken e.path)))

-- an exclusion has more steps than these
abbrev pub has_step : List SharedPath → ℕ → ℕ → Bool
has_step es k taken = of_entry es k (λ (e : SharedPath). nat_lt taken (length e.path))

-- the exclusion of this index excludes a position through the box of this row
abbrev pub through : List ℕ → List SharedPath → ℕ → RootBox → ℕ → Bool
through file es i r k = of_entry es k (λ (e : SharedPath). marks_any file e i r)

-- what a trail excludes through the box of this row, which it means, or below it
abbrev pub arrives : List ℕ → List SharedPath → ℕ → RootBox → Trail → Bool
arrives file es i r t = of_entry es t.entry (λ (e : SharedPath). list_any (marks_any file e i) (go_on file t.step (drop t.taken e.path) (r ∷ [])))

-- what is excluded through the box of this row by exclusions whose paths end there, or below it by those that go on
abbrev pub found : List ℕ → List SharedPath → ℕ → RootBox → List ℕ → List Trail → Bool
found file es i r here below = list_any (through file es i r) here || list_any (ahead file es i (kids file r)) below

-- some trail of a list of siblings excludes a position through those that are still to come
abbrev pub level_ahead : List ℕ → List SharedPath → ℕ → Level → Bool
level_ahead file es i l = list_any (ahead file es i (drop l.next l.rows.items)) l.trails.items

-- all rows of a list of siblings lie inside a source of `len` bytes
abbrev pub IsLevelWithin : ℕ → Level → Type 0
IsLevelWithin len l = All (IsRowWithin len) l.rows.items

-- what is left to walk of a list of siblings
abbrev pub level_left : Level → ℕ
level_left l = 1 + 2 * rows_len (drop l.next l.rows.items)

-- what is left to walk of these lists of siblings together
abbrev pub levels_left : List Level → ℕ
levels_left ls = sum_by level_left ls
