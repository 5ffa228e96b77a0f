use Rattle.std.proofs.Common.{arith, sym}
use Rattle.c2_bmff_boxes.proofs.PartLemmas.{short_piece}
use Rattle.c2_bmff_boxes.proofs.provenance.stand_at.Goals as goal

-- bytes that end before the wanted ones would don't have them at this place
pub returns-then-bytes-end : goal.returns-then-bytes-end
returns-then-bytes-end c =
    sym (short_piece c.args.at c.args.bytes.now c.args.want.now c.requires.some (omega (arith, c.if-bytes-end.true)))
