use Rattle.c2_uri.proofs.TheLaws.{read_uris_are_spelled}
use Rattle.c2_uri.proofs.laws.read_uris_are_spelled.Goals as goal

pub returns : goal.returns
returns c = read_uris_are_spelled
