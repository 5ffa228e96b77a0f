use Rattle.std.proofs.Common.{arith}
use Rattle.c2_sample.proofs.Making.{begun_first, begun_next}
use Rattle.c2_sample.proofs.media.push_piece.Goals as goal

-- behind its head the piece has no byte yet
pub loop-j-init : goal.loop-j-init
loop-j-init c = record {
  within = omega arith;
  so_far =
      begun_first c.args.bytes.now.items c.extend_from_slice.new.self.items c.args.i
      c.in_ok-extend_from_slice.ensures.items;
}

-- and then one more
pub loop-j-preserved : goal.loop-j-preserved
loop-j-preserved c = record {
  within = omega (arith, c.loop-j-test.true);
  so_far =
      begun_next c.args.bytes.now.items c.loop-j.bytes.items c.push.new.self.items c.args.i c.loop-j.j
      c.piece_byte.result c.loop-j.invariant.so_far c.piece_byte.ensures c.in_ok-push.ensures.items;
}
