use Rattle.c2_opening.proofs.TheLaws.{here_tree}
use Rattle.std.proofs.Common.{refl}
use Rattle.c2_build_refusals.specs.Stages.{fresh, stored}
use Rattle.c2_build_base.proofs.Opened.{absent_stage, boxes_of, found_at, found_none, refused_store}
use Rattle.c2_build_base.proofs.media.read_media.Goals as goal

-- a file without a store
pub returns-in_default-clause-stage : goal.returns-in_default-clause-stage
returns-in_default-clause-stage c = λ bytes found.
    let stage = absent_stage bytes (found_none bytes c.args.file.now c.in_default.is found) in
    (fresh, stage, record { stage = stage; found = found; older = refl; clears = c.cleared_of.ensures.fresh c.in_default.is bytes })

pub returns-in_default-clause-inside : goal.returns-in_default-clause-inside
returns-in_default-clause-inside c =
    λ len within. record { within = within; clears = c.cleared_of.ensures.is; boxes = tt }

-- one with a store of manifests
pub with_store-requires : goal.with_store-requires
with_store-requires c = c.in-Some.is

pub returns-in-Here-clause-stage : goal.returns-in-Here-clause-stage
returns-in-Here-clause-stage c = λ bytes found.
    let f = c.in-Some.found in
    let tree = here_tree f c.in-Ok.read _ _ c.in-Here.is c.in-Ok.ensures in
    let kind = c.with_store.ensures.kind bytes found tree in
    (stored f.start f.length c.in-Here.tree, kind.stage, kind)

pub returns-in-Here-clause-inside : goal.returns-in-Here-clause-inside
returns-in-Here-clause-inside c =
    λ len within. c.with_store.ensures.inside len within (boxes_of c.in-Some.found c.in-Ok.read _ _ c.in-Here.is c.in-Ok.ensures)

-- a refused store
pub returns-in-Refused-clause-stage : goal.returns-in-Refused-clause-stage
returns-in-Refused-clause-stage c = λ bytes found.
    refused_store bytes c.in-Some.found c.in-Ok.read c.in-Refused.reason c.in-Refused.number c.in-Refused.is c.in-Ok.ensures (found_at bytes c.args.file.now c.in-Some.found c.in-Some.is found)
