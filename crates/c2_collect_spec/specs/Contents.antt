-- The new store that collects from two stores is one whose rules hold whichever its binding is.
use Rattle.std.specs.Prelude.{ℕ, List}
use Rattle.c2_spec.specs.C2pa.Sign1.{SignParts, SpellsMessage}
use Rattle.c2_spec.specs.Jumbf.Tree.{Trees}
use Rattle.c2_spec.specs.declared.digest.Alg.{Alg}
use Rattle.c2_rules.specs.Readings.{Reading}
use Rattle.c2_definition.specs.declared.types.Definition.{Definition}
use Rattle.c2_new_file_spec.specs.Store.{Content}
use Rattle.c2_new_content_spec.specs.Taken.{questions_from}
use Rattle.c2_collect_spec.specs.Collected.{IsCollected, collected_readings, collected_roots}
use Rattle.c2_new_content_spec.specs.Contents.{ContentMeets}

-- The new store that collects from two stores meets every rule but the verdict on its message and the one on its
-- binding, and asks the new question and then those of the joined chain.
abbrev pub CollectedContentMeets : Type 0
CollectedContentMeets = (hash : Alg → List ℕ → List ℕ) (d : Definition) (old other : Trees)
    (old_rs other_rs : List Reading) (c : Content) (message : List ℕ) (parts : SignParts)
    → IsCollected hash d old other old_rs other_rs c → SpellsMessage message parts
    → ContentMeets hash c message parts (questions_from (collected_readings old_rs other_rs) (collected_roots old_rs other_rs))
