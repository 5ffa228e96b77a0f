use Rattle.std.proofs.Common.{◌∙◌, sym}
use Rattle.c2_collect.specs.Marked.{manifests_in}
use Rattle.c2_collect.proofs.Finding.{clashes, found_inside, no_label, shared}
use Rattle.c2_collect.proofs.carrying.is_carried.Goals as goal

pub returns-in_default : goal.returns-in_default
returns-in_default c =
    no_label c.args.old.now c.args.other.now c.args.places.now c.args.i c.label.result.now c.requires.places
    (sym c.is_reached.ensures ∙ c.if-not-is_reached.false) c.label.ensures
    (sym c.first_place.ensures ∙ c.in_default.is)

pub is_shared-requires-clause-ours : goal.is_shared-requires-clause-ours
is_shared-requires-clause-ours c =
    found_inside (manifests_in c.args.old.now) c.args.places.now c.label.result.now c.in-Some.at c.requires.places
    (sym c.first_place.ensures ∙ c.in-Some.is)

pub returns-then-is_shared : goal.returns-then-is_shared
returns-then-is_shared c =
    shared c.args.old.now c.args.other.now c.args.places.now c.args.i c.in-Some.at c.label.result.now c.is_shared.result c.requires.places (sym c.is_reached.ensures ∙ c.if-not-is_reached.false) c.label.ensures (sym c.first_place.ensures ∙ c.in-Some.is) c.is_shared.ensures c.if-is_shared.true

-- the stores clash
pub returns : goal.returns
returns c =
    clashes c.args.old.now c.args.other.now c.args.places.now c.args.i c.in-Some.at c.label.result.now c.is_shared.result c.requires.places (sym c.is_reached.ensures ∙ c.if-not-is_reached.false) c.label.ensures (sym c.first_place.ensures ∙ c.in-Some.is) c.is_shared.ensures c.if-is_shared.false
