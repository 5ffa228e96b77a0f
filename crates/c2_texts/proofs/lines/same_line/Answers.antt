use Rattle.std.proofs.Common.{append_assoc}
use Rattle.c2_texts.proofs.lines.same_line.Goals as goal

-- what was written is the line of two files that one claim binds
pub returns : goal.returns
returns c = simp append_assoc c.in_ok-text.ensures.ok
