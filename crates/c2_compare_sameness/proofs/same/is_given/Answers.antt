use Rattle.std.proofs.Common.{length, slice_get}
use Rattle.c2_rules.specs.Readings.{Reading}
use Rattle.c2_compare_spec.specs.Deciding.{gives_at}
use Rattle.c2_compare_sameness.proofs.Sameness.{given_found, given_passed}
use Rattle.c2_compare_sameness.proofs.same.is_given.Goals as goal

-- this manifest has all of it
pub returns-then-gives : goal.returns-then-gives
returns-then-gives c =
    let at = c.args.left.now in
    given_found (slice_get at.all.now at.place) (λ (r : Reading). gives_at at.all.now at.place r c.args.second.now)
    (length c.args.second.now) c.loop-m.m c.in_ok-gives.gives c.loop-m-test.true c.loop-m.invariant
    c.in_ok-gives.ensures c.if-gives.true

-- it doesn't
pub loop-m-preserved : goal.loop-m-preserved
loop-m-preserved c =
    let at = c.args.left.now in
    given_passed (slice_get at.all.now at.place) (λ (r : Reading). gives_at at.all.now at.place r c.args.second.now)
    (length c.args.second.now) c.loop-m.m c.in_ok-gives.gives c.loop-m-test.true c.loop-m.invariant
    c.in_ok-gives.ensures c.if-gives.false
