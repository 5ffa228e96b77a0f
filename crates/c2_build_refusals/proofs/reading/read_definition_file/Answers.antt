use Rattle.c2_definition.proofs.TheLaws.{definitions_are_well_formed, each_definition_is_read_one_way_one}
use Rattle.std.proofs.Common.{◌≡◌, length, List, ℕ, refl, subst, ◌∙◌, arith}
use Rattle.std.specs.Prelude.{Ok, Err}
use Rattle.c2_base.specs.ReadAll.{HasReason}
use Rattle.c2_base.specs.declared.limits.TheConstants.{MAX_INPUT_LEN}
use Rattle.c2_definition.specs.DefinitionFile.{IsDefinition}
use Rattle.c2_new_file_spec.specs.Written.{HasTexts}
use Rattle.c2_build_refusals.proofs.Inputs.{is_bad, is_read, long_definition}
use Rattle.c2_build_refusals.proofs.reading.read_definition_file.Goals as goal

-- the file is too long
pub returns-in-Err-TooLong-clause-stage : goal.returns-in-Err-TooLong-clause-stage
returns-in-Err-TooLong-clause-stage g c = λ file known.
    let reason =
    subst (HasReason g.B.Source.len g.B.Source.faults MAX_INPUT_LEN c.args.file.now c.read_all.new.source)
    c.in-Err-TooLong.field-0-is c.in-Err-TooLong.ensures.reason in
    let size : length file ≡ g.B.Source.len c.args.file.now = g.met.B.Source.known_len c.args.file.now file known in
    long_definition file (omega (arith, size, reason.1))

-- it is this definition
pub returns-in-Ok-read_definition-clause-stage : goal.returns-in-Ok-read_definition-clause-stage
returns-in-Ok-read_definition-clause-stage g c = λ file known.
    let bytes : c.as_slice.result.now ≡ file = c.as_slice.ensures.value ∙ c.in-Ok.ensures.bytes file known in (
      Ok c.in-Ok-read_definition.definition,
      subst (λ (s : List ℕ). IsDefinition s (Ok c.in-Ok-read_definition.definition)) bytes (is_read c.as_slice.result.now c.in-Ok-read_definition.definition c.in-Ok-read_definition.ensures),
      refl,
    )

-- which is well formed
pub returns-in-Ok-read_definition-clause-formed : goal.returns-in-Ok-read_definition-clause-formed
returns-in-Ok-read_definition-clause-formed g c =
    definitions_are_well_formed c.as_slice.result.now c.in-Ok-read_definition.definition (is_read c.as_slice.result.now c.in-Ok-read_definition.definition c.in-Ok-read_definition.ensures)

-- this is refused of it
pub returns-in-Err-BadDefinition-clause-stage : goal.returns-in-Err-BadDefinition-clause-stage
returns-in-Err-BadDefinition-clause-stage g c = λ file known.
    let bytes : c.as_slice.result.now ≡ file = c.as_slice.ensures.value ∙ c.in-Ok.ensures.bytes file known in (
      Err c.in-Err-BadDefinition.field,
      subst (λ (s : List ℕ). IsDefinition s (Err c.in-Err-BadDefinition.field)) bytes (is_bad c.as_slice.result.now c.in-Err-BadDefinition.field c.in-Err-BadDefinition.field-0 c.in-Err-BadDefinition.field-0-is c.in-Err-BadDefinition.ensures),
      refl,
    )

-- and its texts are texts
pub returns-in-Ok-read_definition-clause-texts : goal.returns-in-Ok-read_definition-clause-texts
returns-in-Ok-read_definition-clause-texts g c = λ file known d is.
    let definition = c.in-Ok-read_definition.definition in
    let bytes : c.as_slice.result.now ≡ file = c.as_slice.ensures.value ∙ c.in-Ok.ensures.bytes file known in
    let own =
    subst (λ (s : List ℕ). IsDefinition s (Ok definition)) bytes
    (is_read c.as_slice.result.now definition c.in-Ok-read_definition.ensures) in
    let same : definition ≡ d = cc (each_definition_is_read_one_way_one file (Ok definition) (Ok d) own is) in
    subst HasTexts same c.see_texts.ensures
