use Rattle.std.proofs.Common.{arith, sym}
use Rattle.c2_jumbf.proofs.ChildSteps.{sought_start, sought_inside, sought_next, sought_here, sought_none}
use Rattle.c2_jumbf.proofs.children.labelled_child.Goals as goal

pub loop-at-init : goal.loop-at-init
loop-at-init c =
    sought_start c.args.tree.now c.args.i c.after-end.result c.args.label.now c.requires c.after-end.ensures.after

pub is_labelled-requires : goal.is_labelled-requires
is_labelled-requires c =
    (sought_inside c.args.tree.now c.args.i c.after-end.result c.args.label.now c.loop-at.at c.loop-at.invariant c.loop-at-test.true).0

pub returns-then-is_labelled-clause-found : goal.returns-then-is_labelled-clause-found
returns-then-is_labelled-clause-found c =
    sought_here c.args.tree.now c.args.i c.after-end.result c.args.label.now c.loop-at.at c.loop-at.invariant
    c.loop-at-test.true (sym c.if-is_labelled.ensures)

pub after-at-requires : goal.after-at-requires
after-at-requires c =
    (sought_inside c.args.tree.now c.args.i c.after-end.result c.args.label.now c.loop-at.at c.loop-at.invariant c.loop-at-test.true).0

pub loop-at-smaller : goal.loop-at-smaller
loop-at-smaller c =
    let s =
    sought_inside c.args.tree.now c.args.i c.after-end.result c.args.label.now c.loop-at.at c.loop-at.invariant
    c.loop-at-test.true in
    omega (arith, s.1, s.2, c.after-at.ensures.after)

pub loop-at-preserved : goal.loop-at-preserved
loop-at-preserved c =
    sought_next c.args.tree.now c.args.i c.after-end.result c.args.label.now c.loop-at.at c.after-at.result
    c.loop-at.invariant c.loop-at-test.true (sym c.if-is_labelled.ensures) c.after-at.ensures.after

pub returns-clause-none : goal.returns-clause-none
returns-clause-none c =
    sought_none c.args.tree.now c.args.i c.after-end.result c.args.label.now c.loop-at.at c.loop-at.invariant
    c.loop-at-test.false
