use Rattle.std.proofs.Common.{refl, append_assoc}
use Rattle.c2_texts.proofs.builds.parent_fails_line.Goals as goal

-- what was written is the line of a rule at which the check of the older store fails
pub returns : goal.returns
returns c = simp (c.in_ok-text.ensures.ok, c.in_ok-uri.ensures, c.code_name-name.ensures, append_assoc) refl
