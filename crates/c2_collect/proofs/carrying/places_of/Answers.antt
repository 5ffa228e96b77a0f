use Rattle.std.proofs.Common.{arith}
use Rattle.c2_collect.specs.Marked.{box_labels, manifests_in}
use Rattle.c2_collect.proofs.Finding.{all_places, next_place}
use Rattle.c2_collect.proofs.carrying.places_of.Goals as goal

pub loop-i-preserved : goal.loop-i-preserved
loop-i-preserved c =
    next_place (box_labels (manifests_in c.args.side.now)) c.loop-i.places c.add_place.new.places c.loop-i.i
    c.label.result.now c.loop-i.invariant c.label.ensures c.in_ok-add_place.ensures

-- at the end, of each label the place of the manifest with it is kept
pub returns : goal.returns
returns c =
    all_places (manifests_in c.args.side.now) c.loop-i.places c.loop-i.i c.len-i-end.ensures.distinct
    (omega (arith, c.loop-i-test.false, c.len-i-end.ensures.count)) c.loop-i.invariant
