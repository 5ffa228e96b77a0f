use Rattle.std.proofs.Common.{◌≡◌, take}
use Rattle.c2_bmff_excluded.proofs.entries.members.Given as goal

-- the list has the exclusions so far
abbrev pub invariant-loop-exclusion : goal.invariant-loop-exclusion
invariant-loop-exclusion l = l.list.items ≡ take l.exclusion-index l.exclusions
