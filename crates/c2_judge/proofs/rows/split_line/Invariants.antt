use Rattle.std.proofs.Common.{◌≡◌, take, false}
use Rattle.c2_judge.specs.Reading.{has_feed}
use Rattle.c2_judge.proofs.rows.split_line.Given as goal

abbrev pub invariant-loop-i : goal.invariant-loop-i
invariant-loop-i l = has_feed (take l.i l.bytes) ≡ false
