use Rattle.std.proofs.Common.{Some, None}
use Rattle.c2_check_claim.proofs.LabelledLemmas.{before_in}
use Rattle.c2_check_claim.proofs.labelled.is_listed_before.Goals as goal

-- a label with a first place is listed before this one just where that place is before it
pub returns-in-Some : goal.returns-in-Some
returns-in-Some c =
    before_in c.m.inside.own.now c.args.m.now c.m.inside.entry_places c.args.k c.args.name.now (Some c.in-Some.j)
    c.m.view_is c.m.invariant.listed c.in-Some.ensures

-- a label without a first place is listed by no entry before this one
pub returns-in-None : goal.returns-in-None
returns-in-None c =
    before_in c.m.inside.own.now c.args.m.now c.m.inside.entry_places c.args.k c.args.name.now None c.m.view_is
    c.m.invariant.listed c.in-None.ensures
