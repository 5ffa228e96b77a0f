use Rattle.std.proofs.Common.{append_assoc}
use Rattle.c2_sample.proofs.lines.sample_line.Goals as goal

-- what was written is the line of these lengths
pub returns : goal.returns
returns c = simp append_assoc c.in_ok-text.ensures.ok
