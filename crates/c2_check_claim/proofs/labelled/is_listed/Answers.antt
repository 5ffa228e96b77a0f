use Rattle.std.proofs.Common.{◌∙◌}
use Rattle.c2_check_claim.proofs.LabelledLemmas.{listed_in}
use Rattle.c2_check_claim.proofs.labelled.is_listed.Goals as goal

-- an entry lists the label just where a first place among the entries is kept of it
pub returns : goal.returns
returns c =
    c.is_some.ensures
    ∙ listed_in c.m.inside.own.now c.args.m.now c.m.inside.entry_places c.args.name.now c.first_place.result c.m.view_is
    c.m.invariant.listed c.first_place.ensures
