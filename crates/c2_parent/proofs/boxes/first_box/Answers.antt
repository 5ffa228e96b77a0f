use Rattle.std.proofs.Common.{◌+◌, ◌∙◌, refl, arith}
use Rattle.c2_parent.proofs.Walking.{from_end, from_inside}
use Rattle.c2_parent.proofs.boxes.first_box.Goals as goal

pub returns-then-end-i : goal.returns-then-end-i
returns-then-end-i c =
    from_end c.args.tree.now c.args.i c.after-end.result c.after-end.ensures.after
    (omega (arith, c.after-end.ensures.after, c.if-end-i.true))

pub returns-else-end-i : goal.returns-else-end-i
returns-else-end-i c =
    from_inside c.args.tree.now c.args.i (c.args.i + 2) c.requires refl
    (λ e. c.if-end-i.false (c.after-end.ensures.after ∙ e))
