use Rattle.c2_spec.specs.C2pa.Manifest.{superbox_at}
use Rattle.c2_rules.specs.Readings.{IsReadBox}
use Rattle.c2_read_manifests.proofs.ParsingLemmas.{zip_more, zip_all}
use Rattle.c2_read_manifests.proofs.reading.read_boxes.Goals as goal

-- with one box more, what is found belongs to one index more
pub loop-i-preserved : goal.loop-i-preserved
loop-i-preserved c =
    zip_more IsReadBox (superbox_at c.args.tree.now) c.args.boxes.now c.loop-i.i 0 c.loop-i.found.items
    c.push.new.self.items c.in_ok-own.own c.loop-i-test.true c.loop-i.invariant c.in_ok-push.ensures.items
    c.in_ok-own.ensures

-- at the end it belongs to all of them
pub returns : goal.returns
returns c =
    zip_all IsReadBox (superbox_at c.args.tree.now) c.args.boxes.now c.loop-i.i c.loop-i.found.items c.loop-i-test.false
    c.loop-i.invariant
