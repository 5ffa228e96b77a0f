use Rattle.std.proofs.lemmas.Str.Pattern.{starts_text}
use Rattle.c2_assertion.proofs.kinds.begins.Goals as goal

-- a text begins with a piece exactly where its first codes are those of the piece
pub returns : goal.returns
returns c = starts_text c.starts_with.result c.args.piece.now c.args.text.now c.starts_with.ensures.cases
