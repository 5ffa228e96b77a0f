use Rattle.std.proofs.Common.{◌≡◌, ℕ, List, take}
use Rattle.std.specs.List.{list_any}
use Rattle.c2_bmff_excluded.specs.Marks.{excludes_any}
use Rattle.c2_bmff.specs.Trails.{ahead}
use Rattle.c2_bmff_rows.specs.declared.row.RootBox.{RootBox}
use Rattle.c2_bmff.proofs.walking.first_trails.Given as goal

-- the trails are those of the exclusions so far
abbrev pub invariant-loop-k : goal.invariant-loop-k
invariant-loop-k l =
    (file : List ℕ) (i : ℕ) (rows : List RootBox) → list_any (ahead file l.entries i rows) l.trails.items ≡ list_any
    (excludes_any file rows i) (take l.k l.entries)
