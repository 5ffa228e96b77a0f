use Rattle.std.proofs.Common.{arith}
use Rattle.c2_store.proofs.Gathering.{gathered_start, gathered_inside, gathered_step, gathered_all}
use Rattle.c2_store.proofs.boxes.superboxes.Goals as goal

pub loop-at-init : goal.loop-at-init
loop-at-init c =
    gathered_start c.args.tree.now c.args.i c.after-end.result c.new-found.result.items c.requires
    c.after-end.ensures.after c.new-found.ensures.items

pub after-next-requires : goal.after-next-requires
after-next-requires c =
    (gathered_inside c.args.tree.now c.args.i c.after-end.result c.loop-at.at c.loop-at.found.items c.loop-at.invariant c.loop-at-test.true).0

pub is_superbox-wanted-requires : goal.is_superbox-wanted-requires
is_superbox-wanted-requires c =
    (gathered_inside c.args.tree.now c.args.i c.after-end.result c.loop-at.at c.loop-at.found.items c.loop-at.invariant c.loop-at-test.true).0

pub loop-at-preserved : goal.loop-at-preserved
loop-at-preserved c =
    gathered_step c.args.tree.now c.args.i c.after-end.result c.loop-at.at c.after-next.result c.loop-at.found.items
    c.push_if.new.found.items c.is_superbox-wanted.result
    c.loop-at.invariant c.loop-at-test.true c.is_superbox-wanted.ensures c.in_ok-push_if.ensures
    c.after-next.ensures.after

pub loop-at-smaller : goal.loop-at-smaller
loop-at-smaller c =
    let m =
    gathered_inside c.args.tree.now c.args.i c.after-end.result c.loop-at.at c.loop-at.found.items
    c.loop-at.invariant c.loop-at-test.true in
    omega (arith, m.1.0, m.1.1, c.after-next.ensures.after, c.loop-at-test.true)

pub returns-clause-found : goal.returns-clause-found
returns-clause-found c =
    gathered_all c.args.tree.now c.args.i c.after-end.result c.loop-at.at c.loop-at.found.items c.loop-at.invariant
    c.loop-at-test.false
