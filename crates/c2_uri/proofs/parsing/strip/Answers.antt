use Rattle.c2_uri.proofs.parsing.strip.Goals as goal
use Rattle.c2_spec.proofs.TextPrefixes.{strip_is}

pub returns : goal.returns
returns c = strip_is _ _ _ c.strip_prefix.ensures.cases
