use Rattle.c2_read_manifests.proofs.TheLaws.{labels_of_a_store_differ, one_reading_manifests}
use Rattle.std.proofs.Common.{◌+◌, List, length, refl, subst, sym, ap, ◌∙◌}
use Rattle.c2_rules.specs.Readings.{Reading}
use Rattle.c2_new_file_spec.specs.Refusing.{has_manifest, redaction_refusal}
use Rattle.c2_build_base.specs.Grounds.{IsOverRefusal}
use Rattle.c2_build_base.proofs.ground.over_store.Goals as goal

-- the labels of a store differ
pub check_over-requires : goal.check_over-requires
check_over-requires g c =
    labels_of_a_store_differ c.args.older.now.tree c.args.chain.now.readings c.count-boxes.ensures.legal
    c.requires.boxes.accepted c.requires.reads

-- the label is taken, or a redaction can't be made
pub returns-in-Err-clause-refused : goal.returns-in-Err-clause-refused
returns-in-Err-clause-refused g c = λ rs reads.
    subst (λ (xs : List Reading). IsOverRefusal c.args.definition.now xs c.in-Err.error)
    (one_reading_manifests _ c.args.chain.now.readings rs c.requires.reads reads) c.in-Err.ensures.refused

-- the ground
pub returns-in-Ok-carried_of-clause-over : goal.returns-in-Ok-carried_of-clause-over
returns-in-Ok-carried_of-clause-over g c = λ rs reads.
    let same = one_reading_manifests _ c.args.chain.now.readings rs c.requires.reads reads in
    let d = c.args.definition.now in
    record {
      label = ap (λ (xs : List Reading). has_manifest xs d.label) (sym same) ∙ c.in-Ok.ensures.passed.0;
      redactions =
          ap (λ (xs : List Reading). redaction_refusal d.label xs d.redact) (sym same) ∙ c.in-Ok.ensures.passed.1;
      carried = c.in-Ok-carried_of.ensures;
      clears = refl;
      manifests = ap (λ (xs : List Reading). length xs + 1) (c.manifests.ensures ∙ c.readings.ensures ∙ same);
    }

pub returns-in-Ok-carried_of-clause-some : goal.returns-in-Ok-carried_of-clause-some
returns-in-Ok-carried_of-clause-some g c =
    record { content = c.in-Ok-carried_of.ensures.content; is = c.in-Ok-carried_of.ensures.is; clears = refl }
