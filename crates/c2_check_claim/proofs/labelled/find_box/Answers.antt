use Rattle.std.proofs.Common.{◌∙◌}
use Rattle.c2_check_claim.proofs.LabelledLemmas.{find_some, find_none}
use Rattle.c2_check_claim.proofs.labelled.find_box.Goals as goal

-- the box at the first place that is kept of a label is the manifest's box with that label
pub returns-in-Some : goal.returns-in-Some
returns-in-Some c =
    c.box_among.ensures
    ∙ find_some c.m.inside.own.now c.args.m.now c.boxes.result.now c.m.inside.box_places c.args.name.now c.in-Some.k
    c.m.view_is c.boxes.ensures c.m.invariant.boxes c.in-Some.ensures

-- where no place is kept of a label, the manifest has no box with it
pub returns-in-None : goal.returns-in-None
returns-in-None c =
    find_none c.m.inside.own.now c.args.m.now c.m.inside.box_places c.args.name.now c.m.view_is c.m.invariant.boxes
    c.in-None.ensures
