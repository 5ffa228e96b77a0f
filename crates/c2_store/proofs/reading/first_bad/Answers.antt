use Rattle.std.proofs.Common.{arith}
use Rattle.c2_spec.specs.C2pa.Manifest.{manifest_tests}
use Rattle.c2_store.proofs.Picking.{refusal_here, refusal_next}
use Rattle.c2_store.proofs.reading.first_bad.Goals as goal

pub returns-in-Some : goal.returns-in-Some
returns-in-Some c =
    refusal_here (manifest_tests c.args.tree.now) c.args.boxes.now c.loop-i.i-index 0 c.in-Some.found (omega arith)
    c.loop-i.invariant c.in-Some.ensures

pub loop-i-preserved : goal.loop-i-preserved
loop-i-preserved c =
    refusal_next (manifest_tests c.args.tree.now) c.args.boxes.now c.loop-i.i-index 0 (omega arith) c.loop-i.invariant
    c.in-None.ensures
