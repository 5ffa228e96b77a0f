use Rattle.c2_new_file_spec.specs.Store.{entry_of}
use Rattle.c2_layout.proofs.AllBoxed.{boxes_step, made_step, boxes_end, made_end}
use Rattle.c2_layout.proofs.assertions.push_all.Goals as goal

pub loop-assertion-preserved : goal.loop-assertion-preserved
loop-assertion-preserved g c = record {
  boxes =
      boxes_step c.args.all.now c.loop-assertion.assertion-index c.assertion-item.result _ _ _
      c.loop-assertion-test.true c.assertion-item.is c.in_ok-push_one.ensures.boxes
      c.loop-assertion.invariant.boxes;
  entries =
      made_step (entry_of (g.H.Hashing.digest_of c.args.alg)) c.args.all.now c.loop-assertion.assertion-index
      c.assertion-item.result _ _ _ c.loop-assertion-test.true c.assertion-item.is c.in_ok-push_one.ensures.entries
      c.loop-assertion.invariant.entries;
}

pub returns-clause-boxes : goal.returns-clause-boxes
returns-clause-boxes g c =
    boxes_end c.args.all.now c.loop-assertion.assertion-index _ _ c.loop-assertion-test.false
    c.loop-assertion.invariant.boxes

pub returns-clause-entries : goal.returns-clause-entries
returns-clause-entries g c =
    made_end (entry_of (g.H.Hashing.digest_of c.args.alg)) c.args.all.now c.loop-assertion.assertion-index _ _
    c.loop-assertion-test.false c.loop-assertion.invariant.entries
