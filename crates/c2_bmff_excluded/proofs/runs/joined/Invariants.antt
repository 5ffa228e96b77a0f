use Rattle.std.proofs.Common.{◌≡◌, ◌&&◌, List, ℕ, length, take, map}
use Rattle.std.specs.Prelude.{All, nat_le}
use Rattle.std.specs.List.{list_all}
use Rattle.c2_bmff_excluded.specs.Marks.{holds_test}
use Rattle.c2_bmff_excluded.specs.Runs.{IsLastWithin, IsRunWithin, holds_last, key_test}
use Rattle.c2_bmff_rows.specs.declared.row.RootBox.{RootBox}
use Rattle.c2_bmff_excluded.proofs.runs.joined.Given as goal

-- a box meets the byte tests so far just when it is long enough and meets the runs so far
abbrev pub invariant-loop-key : goal.invariant-loop-key
invariant-loop-key l = record {
  last : IsLastWithin (length l.bytes.items) l.last;
  within : All (IsRunWithin (length l.bytes.items)) l.runs.items;
  same : (file : List ℕ) (r : RootBox)
      → (nat_le l.least r.length && holds_last file r l.bytes.items l.runs.items l.last) ≡ list_all (holds_test file r) (map (key_test l.tests) (take l.key-index l.keys));
}
