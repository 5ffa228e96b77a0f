use Rattle.std.proofs.lemmas.List.{take_rest}
use Rattle.c2_spec.specs.Jumbf.Boxes.{box_at}
use Rattle.c2_jumbf.proofs.DescriptionLemmas.{label_missing, label_here, label_not_bad}
use Rattle.c2_jumbf.proofs.boxes.label_of.Goals as goal

pub returns-in_default : goal.returns-in_default
returns-in_default c = label_missing (box_at c.args.tree.now c.args.i).box c.in_default.ensures.none

pub returns-in_default-label_part : goal.returns-in_default-label_part
returns-in_default-label_part c =
    absurd
    (label_not_bad (box_at c.args.tree.now c.args.i).box c.in-Some.payload.now _ c.in-Some.ensures.found (take_rest c.in-Some.payload.now 17) c.in_default-label_part.ensures.none.0 c.in_default-label_part.ensures.none.1)

pub returns : goal.returns
returns c =
    label_here (box_at c.args.tree.now c.args.i).box c.in-Some.payload.now _ _ _ c.in-Some.ensures.found
    (take_rest c.in-Some.payload.now 17) c.in-Some-label_part.ensures.found
