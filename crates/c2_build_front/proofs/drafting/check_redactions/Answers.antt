use Rattle.std.proofs.Common.{List, Option, [], ap, refl, sym, ◌∙◌, ℕ}
use Rattle.std.specs.Prelude.{option_map}
use Rattle.std.specs.Option.{option_to_list}
use Rattle.c2_new_file_spec.specs.Refusing.{redaction_refusal}
use Rattle.c2_new_file_spec.specs.declared.refused.RefusedRedaction.{RefusedRedaction}
use Rattle.c2_new_front_spec.specs.Order.{redaction_refused}
use Rattle.c2_build_front.proofs.drafting.check_redactions.Goals as goal

-- a redaction is refused
pub returns-in-Ok-Some-clause-refused : goal.returns-in-Ok-Some-clause-refused
returns-in-Ok-Some-clause-refused c =
    let d = c.args.definition.now in
    let own = ap (λ (x : List ℕ). redaction_refusal x [] c.as_slice.result.now) c.as_str-own.ensures.value in
    let list = ap (λ (x : List (List ℕ)). redaction_refusal d.label [] x) c.as_slice.ensures in
    let is = sym (c.in-Ok-Some.ensures ∙ own ∙ list) ∙ c.in-Ok-Some.field-0-is in
    (redaction_refused c.in-Ok-Some.refused, [], ap (λ (o : Option RefusedRedaction). option_to_list (option_map redaction_refused o)) is, refl)
