use Rattle.std.proofs.Common.{◌≡◌, ℕ, ◌<◌, ◌≤◌, true}
use Rattle.c2_spec.specs.declared.packets.TheConstants.{LEAST_NUMBER}
use Rattle.c2_jpegseg_segments.specs.Passing.{has_mark}
use Rattle.c2_jpegseg_segments.proofs.numbers.least_free.Given as goal

-- the numbers before this one are marked
abbrev pub invariant-loop-number : goal.invariant-loop-number
invariant-loop-number l = (m : ℕ) → LEAST_NUMBER ≤ m → m < l.number → has_mark l.marks m ≡ true
