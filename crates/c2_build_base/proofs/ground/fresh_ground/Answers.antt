use Rattle.std.proofs.Common.{[], refl, sym, ap, ◌∙◌}
use Rattle.c2_new_file_spec.specs.Refusing.{redaction_refusal}
use Rattle.c2_new_file_spec.specs.Fresh.{fresh_content}
use Rattle.c2_build_refusals.specs.Stages.{fresh_ground}
use Rattle.c2_build_base.proofs.Grounds.{fresh_content_is, fresh_passed, fresh_refused}
use Rattle.c2_build_base.proofs.ground.fresh_ground.Goals as goal

-- no redaction is refused
pub returns-in-Ok-None-clause-ground : goal.returns-in-Ok-None-clause-ground
returns-in-Ok-None-clause-ground c = λ hash said file digests clear.
    let d = c.args.definition.now in
    let none = ap (λ own. redaction_refusal own [] d.redact) (sym c.as_str-own.ensures.value) ∙ ap (redaction_refusal c.as_str-own.result.now []) (sym c.as_slice.ensures) ∙ sym c.in-Ok-None.ensures ∙ c.in-Ok-None.field-0-is in (
      fresh_ground file d,
      fresh_passed hash said file d none,
      record { base = sym clear; content = fresh_content_is _ d _ digests c.nothing.ensures.boxes c.nothing.ensures.ingredients; manifests = refl },
    )

pub returns-in-Ok-None-clause-some : goal.returns-in-Ok-None-clause-some
returns-in-Ok-None-clause-some c =
    λ hash digests. record { content = fresh_content c.args.definition.now; is = fresh_content_is hash c.args.definition.now _ digests c.nothing.ensures.boxes c.nothing.ensures.ingredients; clears = refl }

-- one is
pub returns-in-Ok-Some-clause-ground : goal.returns-in-Ok-Some-clause-ground
returns-in-Ok-Some-clause-ground c = λ hash said file digests clear.
    let d = c.args.definition.now in
    let some =
    ap (λ own. redaction_refusal own [] d.redact) (sym c.as_str-own.ensures.value)
    ∙ ap (redaction_refusal c.as_str-own.result.now []) (sym c.as_slice.ensures) ∙ sym c.in-Ok-Some.ensures
    ∙ c.in-Ok-Some.field-0-is in
    fresh_refused hash said file d c.in-Ok-Some.refused some
