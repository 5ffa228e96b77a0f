-- What a file meets that was built with its store in front.
use Rattle.std.specs.Prelude.{◌≡◌, ◌<◌, ◌≤◌, ◌+◌, ℕ, List, [], ◌∷◌, length, get_or, nat_lt, Contains, if◌then◌else◌}
use Rattle.c2_base.specs.declared.values.Question.{Question}
use Rattle.c2_spec.specs.Bmff.Boxes.{Box}
use Rattle.c2_spec.specs.C2pa.Sign1.{SignParts, SpellsMessage, question_of}
use Rattle.c2_spec.specs.declared.digest.Alg.{Alg}
use Rattle.c2_bmff_chunks.specs.Fields.{Covers, all_fields, number_at}
use Rattle.c2_bmff_chunks.specs.declared.table.ChunkTable.{ChunkTable}
use Rattle.c2_bmff_chunks.specs.declared.table.Field.{Field}
use Rattle.c2_new_file_spec.specs.Fresh.{GivesDigests, IsFresh, MeetsTheRules}
use Rattle.c2_new_file_spec.specs.Store.{Content, new_claim, new_alg}
use Rattle.c2_new_file_spec.specs.Written.{CanBeWritten}
use Rattle.c2_new_file_spec.specs.Films.{new_bmff_binding, bmff_len}
use Rattle.c2_new_front_spec.specs.Fronts.{CanBuildFront, IsFrontBuilt, front_covered, front_file, front_store, tables_of}
use Rattle.c2_new_front_spec.specs.InFront.{front_place}

-- ---- the rules

-- the question of the new manifest of a store in front, where so many bytes are reserved for a message with these parts
abbrev pub front_question : (List ℕ → List ℕ) → Content → ℕ → List ℕ → List Box → SignParts → Question
front_question hash c reserve media roots p =
    question_of p (new_claim hash c (new_bmff_binding (new_alg c.definition) (hash (front_covered (bmff_len c reserve) media roots))))

-- Where a media file can take a store of this content, the file `front_file` has that store, meets every rule but the verdict on its
-- message, and asks one question. The message may be any that spells its parts.
abbrev pub FreshFrontMeets : Type 0
FreshFrontMeets = (hash : Alg → List ℕ → List ℕ) (c : Content) (message media : List ℕ) (roots : List Box) (p : SignParts)
    → GivesDigests hash → IsFresh c → CanBeWritten c.definition
    → CanBuildFront c (length message) media roots → SpellsMessage message p
    → MeetsTheRules hash (front_file (hash (new_alg c.definition)) c message media roots) (front_place roots) (bmff_len c (length message))
    (front_store (hash (new_alg c.definition)) c message media roots)
    (front_question (hash (new_alg c.definition)) c (length message) media roots p ∷ [])

-- ---- the media data

-- A field of these chunk tables of the media holds the number `v`, a place in the media. In the file where so many bytes are put in, its
-- number is as much greater, and at that place stands the byte that the media has at `v`. Of a `v` inside a field nothing is said.
pub record ChunkIsThere (media file : List ℕ) (len : ℕ) (ts : List ChunkTable) (f : Field) (v : ℕ) : Type 0 where
  pub field : number_at f.wide file (f.at + len) ≡ v + len
  pub byte : ((g : Field) → Contains (all_fields ts) g → Covers g v → ⊥) → get_or file (v + len) 0 ≡ get_or media v 0

-- In a file with its store in front each field of a chunk table stays true whose number is a place of the media from the new store's on.
abbrev pub ChunksOfFrontStay : Type 0
ChunksOfFrontStay = (hash : List ℕ → List ℕ) (c : Content) (message media file : List ℕ) (start len : ℕ)
    → (b : IsFrontBuilt hash c message media file start len) → (f : Field) (v : ℕ)
    → Contains (all_fields (tables_of media b.roots)) f → v ≡ number_at f.wide media f.at → start ≤ v → v < length media
    → ChunkIsThere media file len (tables_of media b.roots) f v

-- where a place of the media is once so many bytes are put in
abbrev pub place_in_front : ℕ → ℕ → ℕ → ℕ
place_in_front start len i = if nat_lt i start then i else i + len

-- Each byte of the media that lies in no moved field is in the file with its store in front, in the order of the media. A field isn't moved
-- where its number is below the place of the new store.
abbrev pub BytesOfFrontStay : Type 0
BytesOfFrontStay = (hash : List ℕ → List ℕ) (c : Content) (message media file : List ℕ) (start len : ℕ)
    → (b : IsFrontBuilt hash c message media file start len) → (i : ℕ) → i < length media
    → ((f : Field) → Contains (all_fields (tables_of media b.roots)) f → Covers f i → number_at f.wide media f.at < start)
    → get_or file (place_in_front start len i) 0 ≡ get_or media i 0
