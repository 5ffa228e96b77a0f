-- What a file meets that the new store of a content is put into at a split. What is said of a store by its content, and
-- what is said of a file by its split, are two laws, and the file's is their sum: so each way to make a store goes with
-- each place.
use Rattle.std.specs.Prelude.{◌≡◌, ◌≤◌, ℕ, List, [], ◌∷◌, length, Some}
use Rattle.std.specs.List.{AllZip}
use Rattle.c2_base.specs.declared.limits.TheConstants.{MAX_STORE_LEN}
use Rattle.c2_base.specs.declared.values.Question.{Question}
use Rattle.c2_spec.specs.C2pa.Sign1.{SignParts, SpellsMessage, question_of}
use Rattle.c2_spec.specs.Digest.{digest_len}
use Rattle.c2_spec.specs.Jumbf.Tree.{Tree, tree_bytes}
use Rattle.c2_spec.specs.declared.digest.Alg.{Alg}
use Rattle.c2_spec.specs.declared.panel.Verdict.{Verdict}
use Rattle.c2_rules.specs.CheckList.{StoreReading, questions}
use Rattle.c2_rules.specs.Readings.{Reading}
use Rattle.c2_definition.specs.declared.types.Definition.{Definition}
use Rattle.c2_definition.specs.declared.types.NewAssertion.{NewAssertion}
use Rattle.c2_new_file_spec.specs.Built.{HasDigestLen, store_size}
use Rattle.c2_new_file_spec.specs.Fresh.{GivesDigests, IsFresh, MeetsTheRules}
use Rattle.c2_new_file_spec.specs.Store.{Content, NewIngredient, new_alg, new_claim, new_store}
use Rattle.c2_new_file_spec.specs.Unbound.{IsKnownBinding, MeetsUnbound}
use Rattle.c2_new_file_spec.specs.Written.{AreIngredients, CanBeWritten}
use Rattle.c2_new_file_spec.specs.Parents.{IsContentOver}
use Rattle.c2_new_file_spec.specs.Films.{bmff_store_size}
use Rattle.c2_new_content_spec.specs.Taken.{IsRoot, IsTakenFrom, questions_from}
use Rattle.c2_new_file_spec.specs.Meeting.{CanSucceedAt}
use Rattle.c2_new_file_spec.specs.Places.{CanPut, Place, place_file, place_question, place_start, place_store, put_bytes, range_len}
use Rattle.c2_new_content_spec.specs.Splits.{HasRoomFor, IsFree, Split, binding_at, of_boxes, of_segments, split_binding, split_file, split_len, split_piece, split_start}

-- ---- the new store at a split

-- how many bytes the new store of a content has at a split, with so many for its message
abbrev pub content_size : Split → Content → ℕ → ℕ
content_size (of_segments front back number) c reserve = store_size c reserve
content_size (of_boxes front back) c reserve = bmff_store_size c reserve

-- how many bytes are put in of the new store of a content
abbrev pub content_len : Split → Content → ℕ → ℕ
content_len s c reserve = split_len s (content_size s c reserve)

-- the binding of the new store of a content, at a split of a file without a store
abbrev pub content_binding : (List ℕ → List ℕ) → Content → ℕ → List ℕ → Split → NewAssertion
content_binding hash c reserve base s = binding_at hash (new_alg c.definition) base s (content_len s c reserve)

-- the new store of a content, at a split of a file without a store
abbrev pub content_store : (List ℕ → List ℕ) → Content → List ℕ → List ℕ → Split → Tree
content_store hash c message base s = new_store hash c (content_binding hash c (length message) base s) message

-- the question of the new manifest of a content at a split, where its message has these parts
abbrev pub content_question : (List ℕ → List ℕ) → Content → ℕ → List ℕ → Split → SignParts → Question
content_question hash c reserve base s parts = question_of parts (new_claim hash c (content_binding hash c reserve base s))

-- The new store of a content can be put into a file at a split, with so many bytes for its message: there is room for
-- it, and the file has no store.
pub record CanPutAt (c : Content) (reserve : ℕ) (base : List ℕ) (s : Split) : Type 0 where
  pub room : HasRoomFor base s (content_size s c reserve)
  pub free : IsFree s

-- The length of a new store at a split depends neither on its range nor on digests.
abbrev pub ContentSizeIsFixed : Type 0
ContentSizeIsFixed = (hash : List ℕ → List ℕ) (c : Content) (s : Split) (len : ℕ) (digest message : List ℕ)
    → HasDigestLen (new_alg c.definition) hash → length digest ≡ digest_len (new_alg c.definition)
    → length (tree_bytes (new_store hash c (split_binding (new_alg c.definition) s len digest) message)) ≡ content_size s c (length message)

-- ---- the laws of contents

-- Whichever binding the new store of a content has, of a kind that is known, it meets every rule but the verdict on its
-- message and the one on its binding, and asks the new question and then these.
abbrev pub ContentMeets : (Alg → List ℕ → List ℕ) → Content → List ℕ → SignParts → List Question → Type 0
ContentMeets hash c message parts older = (binding : NewAssertion) → IsKnownBinding binding
    → length (tree_bytes (new_store (hash (new_alg c.definition)) c binding message)) ≤ MAX_STORE_LEN
    → MeetsUnbound hash (new_store (hash (new_alg c.definition)) c binding message) binding
    (question_of parts (new_claim (hash (new_alg c.definition)) c binding) ∷ older)

-- The new store of a definition alone meets these rules, and asks one question.
abbrev pub FreshContentMeets : Type 0
FreshContentMeets = (hash : Alg → List ℕ → List ℕ) (c : Content) (message : List ℕ) (parts : SignParts)
    → IsFresh c → CanBeWritten c.definition → SpellsMessage message parts → ContentMeets hash c message parts []

-- The new store over a valid media file with a store meets these rules, and asks the older questions too.
abbrev pub OverContentMeets : Type 0
OverContentMeets = (hash : Alg → List ℕ → List ℕ) (said : Question → Verdict) (media : List ℕ) (start len : ℕ)
    (old : Tree) (r : StoreReading) (d : Definition) (c : Content) (message : List ℕ) (parts : SignParts)
    → CanSucceedAt hash said media start len old r d → CanBeWritten d → IsContentOver d old c
    → SpellsMessage message parts
    → ContentMeets hash c message parts (questions r.readings)

-- A new store that takes over a chain and has an ingredient for each of its roots, whichever its binding is: the
-- definition can be written, the ingredients are such as a manifest may have, and the message spells its parts.
pub record IsGatheredOver (hash : Alg → List ℕ → List ℕ) (c : Content) (message : List ℕ) (parts : SignParts)
    (roots : List ℕ) (rs ss : List Reading) : Type 0 where
  pub written : CanBeWritten c.definition
  pub ingredients : AreIngredients c.ingredients
  pub spells : SpellsMessage message parts
  pub taken : IsTakenFrom hash c.definition c.carried roots rs ss
  pub named : AllZip (λ (g : NewIngredient) root. IsRoot rs ss g.of root) c.ingredients roots

-- A new store that takes over a chain and has an ingredient for each of its roots meets the rules of a content, and asks the questions of
-- what is reached from the roots too.
abbrev pub GatheredContentMeets : Type 0
GatheredContentMeets = (hash : Alg → List ℕ → List ℕ) (c : Content) (message : List ℕ) (parts : SignParts)
    (roots : List ℕ) (rs ss : List Reading)
    → IsGatheredOver hash c message parts roots rs ss → ContentMeets hash c message parts (questions_from rs roots)

-- ---- the law of files

-- The file that the new store of a content is put into at a split has it in the new range, meets every rule but the
-- verdict on its message, and asks the new question and then the same older ones.
abbrev pub ContentFileMeets : Type 0
ContentFileMeets = (hash : Alg → List ℕ → List ℕ) (c : Content) (message base piece : List ℕ) (s : Split)
    (parts : SignParts) (older : List Question)
    → GivesDigests hash → ContentMeets hash c message parts older → CanPutAt c (length message) base s
    → split_piece s (tree_bytes (content_store (hash (new_alg c.definition)) c message base s)) ≡ Some piece
    → MeetsTheRules hash (split_file base s piece) (split_start s) (content_len s c (length message))
    (content_store (hash (new_alg c.definition)) c message base s)
    (content_question (hash (new_alg c.definition)) c (length message) base s parts ∷ older)

-- The file that the new store of a content is put into in its place meets the same rules, whichever its container is.
abbrev pub PlaceFileMeets : Type 0
PlaceFileMeets = (hash : Alg → List ℕ → List ℕ) (c : Content) (message base bytes : List ℕ) (p : Place)
    (parts : SignParts) (older : List Question)
    → GivesDigests hash → ContentMeets hash c message parts older → CanPut c (length message) base p
    → put_bytes p (tree_bytes (place_store (hash (new_alg c.definition)) c message base p)) ≡ Some bytes
    → MeetsTheRules hash (place_file base p bytes) (place_start p) (range_len p c (length message))
    (place_store (hash (new_alg c.definition)) c message base p)
    (place_question (hash (new_alg c.definition)) c (length message) base p parts ∷ older)
