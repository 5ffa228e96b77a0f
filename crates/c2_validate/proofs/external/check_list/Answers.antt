use Rattle.std.proofs.Common.{length, map, refl, subst}
use Rattle.std.proofs.lemmas.Bool.{le-ltb}
use Rattle.c2_base.specs.declared.limits.TheConstants.{MAX_STORE_LEN}
use Rattle.c2_spec.specs.Judges.Panel.{panel_says}
use Rattle.c2_calls_spec.proofs.PanelLemmas.{hears_early, hears_nobody, hears_same}
use Rattle.c2_opening.specs.Opened.{IsReadFrom}
use Rattle.c2_opening.specs.declared.error.ValidateError.TheVariants.{NoMemory}
use Rattle.c2_validate.specs.External.{ListAsks}
use Rattle.c2_validate.specs.Checked.{validate_heard}
use Rattle.c2_validate.proofs.ExternalLemmas.{boxes_read, list_answered, list_asks, list_refused, refused_asks}
use Rattle.c2_validate.proofs.external.check_list.Goals as goal

-- ---- it was read

-- the boxes of its manifests are those of the tree
pub check_store-requires : goal.check_store-requires
check_store-requires g c = record {
  roots = c.requires.roots;
  manifests =
      boxes_read c.args.store.now c.in-Ok-Here.tree c.in-Ok-Here.manifests
      (subst (IsReadFrom c.args.store.now) c.in-Ok-Here.field-0-is c.in-Ok-Here.ensures);
}

pub returns-in-Ok-Here-clause-answer : goal.returns-in-Ok-Here-clause-answer
returns-in-Ok-Here-clause-answer g c = λ file known.
    list_answered g.H.Hashing.digest_of
    (panel_says (map (λ j. (goal.Judge-dyn g (j.vtable, j.value)).says j.value) c.args.judges.now.items))
    c.args.container.now c.args.store.now file c.in-Ok-Here.tree c.in-Ok-Here.manifests c.check_store.result
    (le-ltb MAX_STORE_LEN (length c.args.store.now) c.requires.small)
    (subst (IsReadFrom c.args.store.now) c.in-Ok-Here.field-0-is c.in-Ok-Here.ensures)
    (c.check_store.ensures.answer file known)

pub returns-in-Ok-Here-clause-panel : goal.returns-in-Ok-Here-clause-panel
returns-in-Ok-Here-clause-panel g c =
    hears_same _ _ _ validate_heard (ListAsks g.H.Hashing.digest_of c.args.store.now) _ c.args.judges.now
    c.check_store.new.judges c.check_store.result
    (λ qs asks. list_asks g.H.Hashing.digest_of c.args.store.now
    (panel_says (map (λ j. (goal.Judge-dyn g (j.vtable, j.value)).says j.value) c.args.judges.now.items))
    c.in-Ok-Here.tree c.in-Ok-Here.manifests qs
    (le-ltb MAX_STORE_LEN (length c.args.store.now) c.requires.small)
    (subst (IsReadFrom c.args.store.now) c.in-Ok-Here.field-0-is c.in-Ok-Here.ensures) asks)
    c.check_store.ensures.panel

-- ---- it is refused

pub returns-in-Ok-Refused-clause-answer : goal.returns-in-Ok-Refused-clause-answer
returns-in-Ok-Refused-clause-answer g c = λ file known.
    list_refused g.H.Hashing.digest_of _ c.args.container.now c.args.store.now file c.in-Ok-Refused.reason
    c.in-Ok-Refused.number (le-ltb MAX_STORE_LEN (length c.args.store.now) c.requires.small)
    (subst (IsReadFrom c.args.store.now) c.in-Ok-Refused.field-0-is c.in-Ok-Refused.ensures)

pub returns-in-Ok-Refused-clause-panel : goal.returns-in-Ok-Refused-clause-panel
returns-in-Ok-Refused-clause-panel g c =
    hears_nobody _ _ _ _ (ListAsks g.H.Hashing.digest_of c.args.store.now) c.args.judges.now _
    (λ qs asks. refused_asks g.H.Hashing.digest_of c.args.store.now _ c.in-Ok-Refused.reason c.in-Ok-Refused.number qs
    (le-ltb MAX_STORE_LEN (length c.args.store.now) c.requires.small)
    (subst (IsReadFrom c.args.store.now) c.in-Ok-Refused.field-0-is c.in-Ok-Refused.ensures) asks)

-- ---- memory ran out before anybody was asked

pub returns-in-Err-clause-panel : goal.returns-in-Err-clause-panel
returns-in-Err-clause-panel g c =
    hears_early _ _ _ _ (ListAsks g.H.Hashing.digest_of c.args.store.now) c.args.judges.now NoMemory refl
