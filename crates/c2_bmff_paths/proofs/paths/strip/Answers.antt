use Rattle.c2_bmff_paths.proofs.paths.strip.Goals as goal
use Rattle.c2_spec.proofs.TextPrefixes.{strip_is}

-- a text that begins with the piece is stripped to what follows it, and no other text is
pub returns : goal.returns
returns c = strip_is _ _ _ c.strip_prefix.ensures.cases
