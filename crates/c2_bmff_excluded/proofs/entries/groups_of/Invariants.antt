use Rattle.std.proofs.Common.{take}
use Rattle.c2_bmff_excluded.specs.Parts.{ExcludeSame}
use Rattle.c2_bmff_excluded.proofs.entries.groups_of.Given as goal

-- the groups exclude what the exclusions so far do
abbrev pub invariant-loop-member : goal.invariant-loop-member
invariant-loop-member l = ExcludeSame l.groups.items (take l.member-index l.list)
