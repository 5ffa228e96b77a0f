use Rattle.std.proofs.Common.{map, refl, subst}
use Rattle.c2_spec.specs.Judges.Panel.{panel_says}
use Rattle.c2_calls_spec.proofs.PanelLemmas.{hears_early, hears_nobody, hears_same}
use Rattle.c2_opening.specs.Opened.{IsStoreRead}
use Rattle.c2_opening.specs.declared.error.ValidateError.TheVariants.{NoMemory}
use Rattle.c2_opening.specs.declared.types.StoreRead.TheVariants as read
use Rattle.c2_validate.specs.Boxes.{MediaAsks}
use Rattle.c2_validate.specs.Checked.{validate_heard}
use Rattle.c2_validate.proofs.FileLemmas.{media_asks, media_boxes, media_refused}
use Rattle.c2_validate.proofs.checking.check_media.Goals as goal

-- ---- the store was read

-- the boxes of its manifests are those of the tree
pub check_boxes-requires : goal.check_boxes-requires
check_boxes-requires g c = record {
  roots = c.requires;
  manifests =
      (subst (IsStoreRead c.args.media.now.found) c.in-Ok-Here.field-0-is c.in-Ok-Here.ensures).boxes;
}

pub returns-in-Ok-Here-clause-answer : goal.returns-in-Ok-Here-clause-answer
returns-in-Ok-Here-clause-answer g c = λ file known.
    media_boxes g.H.Hashing.digest_of
    (panel_says (map (λ j. (goal.Judge-dyn g (j.vtable, j.value)).says j.value) c.args.judges.now.items))
    file c.args.media.now c.in-Ok-Here.tree c.in-Ok-Here.manifests c.check_boxes.result
    (subst (IsStoreRead c.args.media.now.found) c.in-Ok-Here.field-0-is c.in-Ok-Here.ensures)
    (c.check_boxes.ensures.answer file known)

pub returns-in-Ok-Here-clause-panel : goal.returns-in-Ok-Here-clause-panel
returns-in-Ok-Here-clause-panel g c =
    hears_same _ _ _ validate_heard (MediaAsks g.H.Hashing.digest_of c.args.media.now) _ c.args.judges.now
    c.check_boxes.new.judges c.check_boxes.result
    (λ qs asks. media_asks g.H.Hashing.digest_of
    (panel_says (map (λ j. (goal.Judge-dyn g (j.vtable, j.value)).says j.value) c.args.judges.now.items))
    c.args.media.now (read.Here c.in-Ok-Here.tree c.in-Ok-Here.manifests) qs
    (subst (IsStoreRead c.args.media.now.found) c.in-Ok-Here.field-0-is c.in-Ok-Here.ensures) asks)
    c.check_boxes.ensures.panel

-- ---- it is refused

pub returns-in-Ok-Refused-clause-answer : goal.returns-in-Ok-Refused-clause-answer
returns-in-Ok-Refused-clause-answer g c = λ file known.
    media_refused g.H.Hashing.digest_of
    (panel_says (map (λ j. (goal.Judge-dyn g (j.vtable, j.value)).says j.value) c.args.judges.now.items))
    file c.args.media.now c.in-Ok-Refused.reason c.in-Ok-Refused.number
    (subst (IsStoreRead c.args.media.now.found) c.in-Ok-Refused.field-0-is c.in-Ok-Refused.ensures)

pub returns-in-Ok-Refused-clause-panel : goal.returns-in-Ok-Refused-clause-panel
returns-in-Ok-Refused-clause-panel g c =
    hears_nobody _ _ _ validate_heard (MediaAsks g.H.Hashing.digest_of c.args.media.now) c.args.judges.now _
    (λ qs asks. media_asks g.H.Hashing.digest_of _
    c.args.media.now (read.Refused c.in-Ok-Refused.reason c.in-Ok-Refused.number) qs
    (subst (IsStoreRead c.args.media.now.found) c.in-Ok-Refused.field-0-is c.in-Ok-Refused.ensures) asks)

-- ---- memory ran out before anybody was asked

pub returns-in-Err-clause-panel : goal.returns-in-Err-clause-panel
returns-in-Err-clause-panel g c =
    hears_early _ _ _ _ (MediaAsks g.H.Hashing.digest_of c.args.media.now) c.args.judges.now NoMemory refl
