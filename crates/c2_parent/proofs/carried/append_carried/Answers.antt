use Rattle.std.proofs.Common.{◌++◌, ◌∙◌, ℕ, List, ap}
use Rattle.c2_parent.proofs.CarriedLemmas.{none_there, whole_carried}
use Rattle.c2_parent.proofs.carried.append_carried.Goals as goal

-- without redactions all boxes are one piece
pub returns-then-is_empty : goal.returns-then-is_empty
returns-then-is_empty c =
    c.in_ok-extend_from_slice.ensures.items
    ∙ ap (λ (x : List ℕ). c.args.out.now.items ++ x)
    (c.whole_boxes.ensures ∙ whole_carried c.args.redactions.now c.args.tree.now (none_there c.args.redactions.now c.redactions.inside.texts.now c.is_empty.result c.redactions.view_is c.is_empty.ensures c.if-is_empty.true))
