use Rattle.std.proofs.Common.{refl, append_assoc}
use Rattle.c2_texts.proofs.builds.redaction_refused_line.Goals as goal

-- what was written is the line of a redaction that is refused
pub returns : goal.returns
returns c = simp (c.in_ok-text.ensures.ok, c.in_ok-uri.ensures, c.code_name-name.ensures, append_assoc) refl
