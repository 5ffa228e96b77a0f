use Rattle.c2_uri.proofs.TheLaws.{written_uris_are_read}
use Rattle.c2_uri.proofs.laws.written_uris_are_read.Goals as goal

pub returns : goal.returns
returns c = written_uris_are_read
