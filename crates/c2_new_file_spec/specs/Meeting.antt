-- What a file meets that a new store is put into in its place, whichever its container is.
use Rattle.std.specs.Prelude.{◌≡◌, ◌<◌, ℕ, false, List, [], ◌∷◌, length, Some, None}
use Rattle.c2_base.specs.declared.limits.TheConstants.{MAX_MANIFESTS}
use Rattle.c2_base.specs.declared.values.Question.{Question}
use Rattle.c2_spec.specs.C2pa.Sign1.{SignParts, SpellsMessage}
use Rattle.c2_spec.specs.Jumbf.Tree.{Tree, tree_bytes}
use Rattle.c2_spec.specs.Located.{here}
use Rattle.c2_spec.specs.PutIn.{taken_out}
use Rattle.c2_spec.specs.declared.digest.Alg.{Alg}
use Rattle.c2_spec.specs.declared.panel.Verdict.{Verdict}
use Rattle.c2_rules.specs.CheckList.{IsValid, StoreReading, questions}
use Rattle.c2_rules.specs.Opened.{IsOpened}
use Rattle.c2_rules.specs.Validated.{IsFileReading}
use Rattle.c2_definition.specs.declared.types.Definition.{Definition}
use Rattle.c2_new_file_spec.specs.Built.{HasDigestLen}
use Rattle.c2_new_file_spec.specs.Fresh.{GivesDigests, IsFresh, MeetsTheRules}
use Rattle.c2_new_file_spec.specs.Store.{Content, new_alg}
use Rattle.c2_new_file_spec.specs.Written.{CanBeWritten}
use Rattle.c2_new_file_spec.specs.Parents.{IsContentOver}
use Rattle.c2_new_file_spec.specs.Refusing.{has_manifest, redaction_refusal}
use Rattle.c2_new_file_spec.specs.Bases.{IsLeft}
use Rattle.c2_new_file_spec.specs.Places.{CanPut, Place, place_file, place_question, place_start, place_store, put_bytes, range_len}

-- The file that is built over one without a store has the new store, meets every rule but the verdict on its message, and asks one
-- question. The message may be any that spells its parts.
abbrev pub FreshPlaceMeets : Type 0
FreshPlaceMeets = (hash : Alg → List ℕ → List ℕ) (c : Content) (message base bytes : List ℕ) (p : Place) (parts : SignParts)
    → GivesDigests hash → IsFresh c → CanBeWritten c.definition → CanPut c (length message) base p → SpellsMessage message parts
    → put_bytes p (tree_bytes (place_store (hash (new_alg c.definition)) c message base p)) ≡ Some bytes
    → MeetsTheRules hash (place_file base p bytes) (place_start p) (range_len p c (length message)) (place_store (hash (new_alg c.definition)) c message base p)
    (place_question (hash (new_alg c.definition)) c (length message) base p parts ∷ [])

-- A media file with a store in this range that a new store of this definition may be built over: the file is valid, as judges find who
-- say this; it has no manifest of the new label and room for one more; and no redaction is refused.
pub record CanSucceedAt (hash : Alg → List ℕ → List ℕ) (said : Question → Verdict) (media : List ℕ) (start len : ℕ) (old : Tree) (s : StoreReading) (d : Definition) : Type 0 where
  pub opened : IsOpened media (here start len old)
  pub reads : IsFileReading media old s
  pub valid : IsValid hash said s
  pub label : has_manifest s.readings d.label ≡ false
  pub redactions : redaction_refusal d.label s.readings d.redact ≡ None
  pub few : length s.readings < MAX_MANIFESTS

-- The file that is built over what is left of it has the new store, meets every rule but the verdict on its message, and asks the new
-- question and then the older ones. The message may be any that spells its parts.
abbrev pub OverPlaceMeets : Type 0
OverPlaceMeets = (hash : Alg → List ℕ → List ℕ) (said : Question → Verdict) (media : List ℕ) (start len : ℕ) (old : Tree) (s : StoreReading) (d : Definition) (c : Content) (message base bytes : List ℕ) (p : Place) (parts : SignParts)
    → GivesDigests hash → CanSucceedAt hash said media start len old s d → CanBeWritten d → IsContentOver d old c → IsLeft media start len base
    → CanPut c (length message) base p → SpellsMessage message parts
    → put_bytes p (tree_bytes (place_store (hash (new_alg c.definition)) c message base p)) ≡ Some bytes
    → MeetsTheRules hash (place_file base p bytes) (place_start p) (range_len p c (length message)) (place_store (hash (new_alg c.definition)) c message base p)
    (place_question (hash (new_alg c.definition)) c (length message) base p parts ∷ questions s.readings)

-- Less the new range, the file is what it was.
abbrev pub BaseStays : Type 0
BaseStays = (hash : List ℕ → List ℕ) (c : Content) (message base bytes : List ℕ) (p : Place)
    → HasDigestLen (new_alg c.definition) hash → CanPut c (length message) base p
    → put_bytes p (tree_bytes (place_store hash c message base p)) ≡ Some bytes
    → taken_out (place_start p) (range_len p c (length message)) (place_file base p bytes) ≡ base
