use Rattle.std.proofs.Common.{◌≡◌, length}
use Rattle.c2_spec.specs.Bmff.Paths.{enters_other}
use Rattle.c2_bmff_paths.proofs.paths.passes_other.Given as goal

-- the path enters another box just when the steps that are left do
abbrev pub invariant-loop-rest : goal.invariant-loop-rest
invariant-loop-rest l = enters_other l.rest ≡ enters_other l.steps

-- the steps that are left, which get fewer with each one
abbrev pub decreases-loop-rest : goal.decreases-loop-rest
decreases-loop-rest l = length l.rest
