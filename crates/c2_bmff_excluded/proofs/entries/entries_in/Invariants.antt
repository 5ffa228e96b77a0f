use Rattle.std.proofs.Common.{take}
use Rattle.c2_bmff_excluded.specs.Parts.{ShareSame}
use Rattle.c2_bmff_excluded.proofs.entries.entries_in.Given as goal

-- the entries exclude what the groups so far do
abbrev pub invariant-loop-group : goal.invariant-loop-group
invariant-loop-group l = ShareSame l.entries.items (take l.group-index l.groups)
