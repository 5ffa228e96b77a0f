-- What a file meets whose new store collects from two stores, whichever its container is.
use Rattle.std.specs.Prelude.{◌≡◌, ℕ, List, ◌∷◌, length, Some}
use Rattle.c2_spec.specs.C2pa.Sign1.{SignParts, SpellsMessage, sig_structure}
use Rattle.c2_spec.specs.Cbor.Deterministic.{deterministic}
use Rattle.c2_spec.specs.Jumbf.Tree.{Trees, tree_bytes}
use Rattle.c2_spec.specs.declared.digest.Alg.{Alg}
use Rattle.c2_rules.specs.Readings.{Reading}
use Rattle.c2_rules.specs.CheckList.{StoreReading}
use Rattle.c2_rules.specs.Validated.{IsFileReading}
use Rattle.c2_definition.specs.declared.types.Definition.{Definition}
use Rattle.c2_new_file_spec.specs.Fresh.{GivesDigests, MeetsTheRules}
use Rattle.c2_new_file_spec.specs.Store.{Content, new_alg, new_claim}
use Rattle.c2_new_content_spec.specs.Taken.{questions_from}
use Rattle.c2_new_file_spec.specs.Places.{CanPut, Place, place_binding, place_file, place_question, place_start, place_store, put_bytes, range_len}
use Rattle.c2_collect_spec.specs.Collected.{IsCollected, ReachesCollected, collected_readings, collected_roots}

-- what is signed (RFC 9052, section 4.4): the definition's protected header and the new claim, which binds what the new file has outside
-- its new range, over this base and at this place
abbrev pub collected_signed : (Alg → List ℕ → List ℕ) → Definition → Content → List ℕ → Place → List ℕ
collected_signed hash d c base p =
    deterministic (sig_structure d.protected (new_claim (hash (new_alg d)) c
    (place_binding (hash (new_alg d)) c d.reserve base p)))

-- A file that is built in its place, over a base without a store, and whose new store collects from two stores, has the new store,
-- meets every rule but the verdict on its message, and asks the new question and then those of what is reached from the roots of the
-- joined chain. The message may be any that spells its parts.
abbrev pub CollectedFileMeets : Type 0
CollectedFileMeets = (hash : Alg → List ℕ → List ℕ) (d : Definition) (old other : Trees) (old_rs other_rs : List Reading) (c : Content) (message base bytes : List ℕ) (p : Place) (parts : SignParts)
    → GivesDigests hash → IsCollected hash d old other old_rs other_rs c → CanPut c (length message) base p
    → SpellsMessage message parts
    → put_bytes p (tree_bytes (place_store (hash (new_alg c.definition)) c message base p)) ≡ Some bytes
    → MeetsTheRules hash (place_file base p bytes) (place_start p) (range_len p c (length message))
    (place_store (hash (new_alg c.definition)) c message base p)
    (place_question (hash (new_alg c.definition)) c (length message) base p parts
    ∷ questions_from (collected_readings old_rs other_rs) (collected_roots old_rs other_rs))

-- Where the new store of a file in its place collects from two stores, the manifests that are reached in it, whatever it is read as, are
-- the new one and those that were reached in the media's store or in the other.
abbrev pub CollectedFileReaches : Type 0
CollectedFileReaches = (hash : Alg → List ℕ → List ℕ) (d : Definition) (old other : Trees) (old_rs other_rs : List Reading) (c : Content) (message base file : List ℕ) (p : Place) (parts : SignParts) (s : StoreReading)
    → GivesDigests hash → IsCollected hash d old other old_rs other_rs c → CanPut c (length message) base p
    → SpellsMessage message parts
    → IsFileReading file (place_store (hash (new_alg c.definition)) c message base p) s
    → ReachesCollected old_rs other_rs s.readings
