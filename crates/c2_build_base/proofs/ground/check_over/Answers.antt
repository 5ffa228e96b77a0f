use Rattle.std.proofs.Common.{sym, ap, ◌∙◌}
use Rattle.c2_new_file_spec.specs.Refusing.{has_manifest, redaction_refusal}
use Rattle.c2_build_base.proofs.Grounds.{redaction_over, taken_over}
use Rattle.c2_build_base.proofs.ground.check_over.Goals as goal

-- the label is taken
pub returns-then-has_manifest-clause-refused : goal.returns-then-has_manifest-clause-refused
returns-then-has_manifest-clause-refused c =
    let rs = c.args.chain.now.readings in
    taken_over c.args.definition.now rs c.label_taken.result
    (ap (has_manifest rs) (sym c.as_str-own.ensures.value) ∙ sym c.has_manifest.ensures ∙ c.if-has_manifest.true)
    c.label_taken.ensures.told

-- it isn't, and no redaction is refused
pub returns-in-Ok-None-clause-passed : goal.returns-in-Ok-None-clause-passed
returns-in-Ok-None-clause-passed c =
    let rs = c.args.chain.now.readings in (
      ap (has_manifest rs) (sym c.as_str-own.ensures.value) ∙ sym c.has_manifest.ensures ∙ c.if-has_manifest.false,
      ap (λ l. redaction_refusal l rs c.args.definition.now.redact) (sym c.as_str-own.ensures.value)
          ∙ ap (redaction_refusal _ rs) (sym c.as_slice.ensures) ∙ sym c.in-Ok-None.ensures ∙ c.in-Ok-None.field-0-is,
    )

-- a redaction can't be made
pub returns-in-Ok-Some-clause-refused : goal.returns-in-Ok-Some-clause-refused
returns-in-Ok-Some-clause-refused c =
    let rs = c.args.chain.now.readings in
    let d = c.args.definition.now in
    redaction_over d rs c.in-Ok-Some.taken
    (ap (has_manifest rs) (sym c.as_str-own.ensures.value) ∙ sym c.has_manifest.ensures ∙ c.if-has_manifest.false)
    (ap (λ l. redaction_refusal l rs d.redact) (sym c.as_str-own.ensures.value)
    ∙ ap (redaction_refusal _ rs) (sym c.as_slice.ensures) ∙ sym c.in-Ok-Some.ensures ∙ c.in-Ok-Some.field-0-is)
