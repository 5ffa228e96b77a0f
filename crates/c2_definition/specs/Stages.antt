-- For private clauses: how far the fields of an object were read.
use Rattle.std.specs.Prelude.{◌≡◌, ◌↔◌, Bool, true, codes, Some, None, Err, ⊤, if◌then◌else◌}
use Rattle.serde_json.specs.Data.{Data}
use Rattle.c2_definition.specs.Json.{has_keys, optional_text_at}
use Rattle.c2_definition.specs.DefinitionFile.{is_field, label_in, filled_at, protected_in, reserve_in, redactions_in, alg_in, assertions_in, HavePayloads, definition_of}
use Rattle.c2_definition.specs.declared.fields.FirstFields.{FirstFields}
use Rattle.c2_definition.specs.declared.reading.LastFields.{LastFields}
use Rattle.c2_definition.specs.declared.types.Definition.{Definition}
use Rattle.c2_definition.specs.declared.error.DefinitionError.{DefinitionError}
use Rattle.c2_definition.specs.declared.error.DefinitionError.TheVariants.{BadDefinition, NoMemory}

-- these are the fields of an object before its assertions, and none is refused
pub record Passes (v : Data) (d : FirstFields) : Type 0 where
  pub keys : has_keys is_field v ≡ true
  pub label : label_in v ≡ Some d.label
  pub instance : filled_at (codes "instance_id") v ≡ Some d.instance_id
  pub generator : filled_at (codes "generator") v ≡ Some d.generator
  pub title : optional_text_at (codes "title") v ≡ Some d.title
  pub protected : protected_in v ≡ Some d.protected
  pub reserve : reserve_in v ≡ Some d.reserve

-- the flag says whether the new assertions of an object have their payloads
abbrev pub TellsObject : Bool → Data → Type 0
TellsObject payloads v = (payloads ≡ true) ↔ HavePayloads v

-- these are the fields of an object from its assertions on, and none is refused
pub record AreLast (payloads : Bool) (v : Data) (d : LastFields) : Type 0 where
  pub assertions : (if payloads then assertions_in v else None) ≡ Some d.assertions
  pub redact : redactions_in v ≡ Some d.redact
  pub alg : alg_in v ≡ Some d.alg

-- the definition of these fields
abbrev pub whole : FirstFields → LastFields → Definition
whole first last = record {
  label = first.label;
  instance_id = first.instance_id;
  generator = first.generator;
  title = first.title;
  protected = first.protected;
  reserve = first.reserve;
  assertions = last.assertions;
  redact = last.redact;
  alg = last.alg;
}

-- this is the first field of an object that is refused, whatever its assertions are; or memory ran out
abbrev pub RefusesFirst : Data → DefinitionError → Type 0
RefusesFirst v (BadDefinition f) = (payloads : Bool) → definition_of payloads v ≡ Err f
RefusesFirst v NoMemory = ⊤
