use Rattle.c2_bmff_chunks.proofs.TheLaws.{chunk_places_stay_true}
use Rattle.c2_bmff_chunks.proofs.laws.chunk_places_stay_true.Goals as goal

pub returns : goal.returns
returns c = chunk_places_stay_true
