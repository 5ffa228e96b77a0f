-- A definition, field by field.
use Rattle.std.proofs.Common.{◌≡◌, List, ℕ, Bool, Option, None, Result, Ok, refl, ◌∙◌, if◌then◌else◌}
use Rattle.serde_json.specs.Data.{Data}
use Rattle.c2_spec.specs.Cbor.Fields.{require}
use Rattle.c2_spec.specs.declared.digest.Alg.{Alg}
use Rattle.c2_definition.specs.declared.fields.FirstFields.{FirstFields}
use Rattle.c2_definition.specs.declared.reading.LastFields.{LastFields}
use Rattle.c2_definition.specs.declared.types.Definition.{Definition}
use Rattle.c2_definition.specs.declared.types.DefinitionField.{DefinitionField}
use Rattle.c2_definition.specs.declared.types.DefinitionField.TheVariants as field
use Rattle.c2_definition.specs.declared.types.NewAssertion.{NewAssertion}
use Rattle.c2_definition.specs.DefinitionFile.{assertions_in, redactions_in, alg_in, definition_of}
use Rattle.c2_definition.specs.Stages.{AreLast, Passes, whole}

-- what the last three fields come to, after the others
abbrev pub last_fields : FirstFields → Option (List NewAssertion) → Option (List (List ℕ)) → Option Alg
    → Result Definition DefinitionField
last_fields d assertions redactions named =
    require field.Assertions assertions (λ list.
    require field.Redact redactions (λ redact.
    require field.Alg named (λ alg.
    Ok (whole d (record { assertions = list; redact = redact; alg = alg })))))

-- where the first fields pass, the last three decide
pub after_first : (v : Data) (payloads : Bool) (d : FirstFields) → Passes v d
    → definition_of payloads v ≡ last_fields d (if payloads then assertions_in v else None) (redactions_in v) (alg_in v)
after_first v payloads d p =
    rw p.keys (rw p.label (rw p.instance (rw p.generator (rw p.title (rw p.protected (rw p.reserve refl))))))

-- where the last three pass too, the whole is the definition
pub all_pass : (v : Data) (payloads : Bool) (d : FirstFields) (e : LastFields) → Passes v d → AreLast payloads v e
    → definition_of payloads v ≡ Ok (whole d e)
all_pass v payloads d e p q =
    after_first v payloads d p ∙ rw q.assertions (rw q.redact (rw q.alg refl))
