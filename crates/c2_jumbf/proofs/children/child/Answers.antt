use Rattle.std.proofs.Common.{◌≡◌, arith, subst}
use Rattle.c2_jumbf.proofs.ChildSteps.{AtChild, child_start, child_inside, child_next, child_out, child_here}
use Rattle.c2_jumbf.proofs.children.child.Goals as goal

pub loop-turn-init : goal.loop-turn-init
loop-turn-init c = child_start c.args.tree.now c.args.i c.after-end.result c.requires c.after-end.ensures.after

pub returns-then-at-end : goal.returns-then-at-end
returns-then-at-end c =
    child_out c.args.tree.now c.args.i c.loop-turn._turn c.after-end.result c.loop-turn.at c.args.k
    c.loop-turn.invariant c.if-at-end.true (omega arith)

pub after-at-requires : goal.after-at-requires
after-at-requires c =
    child_inside c.args.tree.now c.args.i c.loop-turn._turn c.after-end.result c.loop-turn.at c.loop-turn.invariant
    c.if-at-end.false

pub loop-turn-preserved : goal.loop-turn-preserved
loop-turn-preserved c =
    child_next c.args.tree.now c.args.i c.loop-turn._turn c.after-end.result c.loop-turn.at c.after-at.result
    c.loop-turn.invariant c.if-at-end.false c.after-at.ensures.after

pub returns-then-at-end-2 : goal.returns-then-at-end-2
returns-then-at-end-2 c =
    let last : c.loop-turn._turn ≡ c.args.k = omega arith in
    child_here c.args.tree.now c.args.i c.after-end.result c.loop-turn.at c.args.k
    (subst (λ n. AtChild c.args.tree.now c.args.i n c.after-end.result c.loop-turn.at) last c.loop-turn.invariant)
    c.if-at-end-2.true

pub returns-else-at-end-2 : goal.returns-else-at-end-2
returns-else-at-end-2 c =
    child_out c.args.tree.now c.args.i c.loop-turn._turn c.after-end.result c.loop-turn.at c.args.k
    c.loop-turn.invariant c.if-at-end-2.false (omega arith)
