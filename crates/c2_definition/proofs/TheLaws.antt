-- The laws of this crate, for the proofs of the crates above it.
use Rattle.c2_definition.proofs.Decided.{each_file, one_reading}
use Rattle.c2_definition.proofs.WellFormed.{well_formed}
use Rattle.c2_definition.specs.DefinitionFile.{IsDefinition, IsWellFormed}
use Rattle.c2_definition.specs.declared.types.Definition.{Definition}
use Rattle.c2_definition.specs.declared.types.DefinitionField.{DefinitionField}
use Rattle.std.specs.Prelude.{List, Ok, Result, ℕ, ◌≡◌}

-- each file is one definition, or one thing of it is refused first
pub each_definition_is_read_one_way_some : (file : List ℕ)
    → (r : Result Definition DefinitionField) × IsDefinition file r
each_definition_is_read_one_way_some = each_file

-- each file is one definition, or one thing of it is refused first
pub each_definition_is_read_one_way_one : (file : List ℕ) (r s : Result Definition DefinitionField)
    → IsDefinition file r → IsDefinition file s → r ≡ s
each_definition_is_read_one_way_one = one_reading

-- a definition that a file is keeps what is asked of its fields
pub definitions_are_well_formed : (file : List ℕ) (d : Definition) → IsDefinition file (Ok d) → IsWellFormed d
definitions_are_well_formed = well_formed
