use Rattle.c2_sample.proofs.Making.{media_first, media_next}
use Rattle.c2_sample.proofs.media.sample_media.Goals as goal

-- behind SOI there is no piece yet
pub loop-i-init : goal.loop-i-init
loop-i-init c = record { so_far = media_first c.in_ok-bytes.bytes.items c.in_ok-bytes.ensures.items }

-- and then one more
pub loop-i-preserved : goal.loop-i-preserved
loop-i-preserved c = record {
  so_far =
      media_next c.loop-i.bytes.items c.push_piece.new.bytes.items c.loop-i.i c.loop-i.invariant.so_far
      c.in_ok-push_piece.ensures;
}
