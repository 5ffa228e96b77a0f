use Rattle.std.proofs.Common.{sym, ap, ◌∙◌}
use Rattle.serde_json.specs.View.{view}
use Rattle.c2_definition.specs.DefinitionFile.{redactions_in, alg_in}
use Rattle.c2_definition.proofs.FieldSteps.{last_fields, after_first}
use Rattle.c2_definition.proofs.reading.last_fields.Goals as goal

-- the assertions are refused
pub returns-in_default-clause-refuses : goal.returns-in_default-clause-refuses
returns-in_default-clause-refuses c = λ payloads first told passes.
    let none = sym (c.in_ok-assertions.ensures payloads told) ∙ c.in_default.is in
    after_first (view c.args.value.now) payloads first passes
    ∙ ap (λ o. last_fields first o (redactions_in (view c.args.value.now)) (alg_in (view c.args.value.now))) none
