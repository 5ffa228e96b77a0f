-- How long the new store is that collects from two files: 64 bits hold its length.
use Rattle.std.specs.Prelude.{ℕ, ◌-◌, ◌^◌, ◌<◌, List}
use Rattle.std.specs.declared.result.Result.TheVariants.{Ok}
use Rattle.c2_base.specs.declared.values.Question.{Question}
use Rattle.c2_spec.specs.declared.digest.Alg.{Alg}
use Rattle.c2_spec.specs.declared.panel.Verdict.{Verdict}
use Rattle.c2_definition.specs.DefinitionFile.{IsDefinition}
use Rattle.c2_definition.specs.declared.types.Definition.{Definition}
use Rattle.c2_new_file_spec.specs.Store.{Content}
use Rattle.c2_new_lengths_spec.specs.Lengths.{IsShortOver}
use Rattle.c2_new_file_spec.specs.Places.{Place, store_len}
use Rattle.c2_collect_spec.specs.Collected.{CollectsFrom}
use Rattle.c2_collect_spec.specs.Order.{FilePair, IsFilePair}

-- What goes into a new store that collects from two files is short: neither file's store is longer than one may be, and the ingredients
-- name manifests of what is carried of them.
abbrev pub CollectedIsShort : Type 0
CollectedIsShort = (hash : Alg → List ℕ → List ℕ) (said : Question → Verdict) (media other : List ℕ) (d : Definition) (p : FilePair) (c : Content)
    → IsFilePair hash said media other p → CollectsFrom d p.media.boxes p.other.boxes p.media.readings p.other.readings c
    → IsShortOver c

-- The length of a new store that collects from two files is, in each place, below the greatest number that 64 bits hold, where a file is
-- the definition.
abbrev pub CollectedStoresFit : Type 0
CollectedStoresFit = (hash : Alg → List ℕ → List ℕ) (said : Question → Verdict) (media definition other : List ℕ) (d : Definition) (p : FilePair) (c : Content) (place : Place)
    → IsDefinition definition (Ok d) → IsFilePair hash said media other p
    → CollectsFrom d p.media.boxes p.other.boxes p.media.readings p.other.readings c
    → store_len place c d.reserve < 2 ^ 64 - 1
