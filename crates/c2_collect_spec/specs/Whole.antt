-- What the file that is built meets whose new store collects from two files, in one sentence over both.
use Rattle.std.specs.Prelude.{◌≡◌, ℕ, List, ◌∷◌}
use Rattle.std.specs.List.{AllByRecursion}
use Rattle.c2_base.specs.declared.values.Question.{Question}
use Rattle.c2_spec.specs.C2pa.Sign1.{SignParts}
use Rattle.c2_spec.specs.Jumbf.Tree.{Tree}
use Rattle.c2_spec.specs.PutIn.{taken_out}
use Rattle.c2_spec.specs.declared.digest.Alg.{Alg}
use Rattle.c2_spec.specs.declared.panel.Verdict.{Verdict}
use Rattle.c2_rules.specs.CheckList.{AreApproved, StoreReading}
use Rattle.c2_rules.specs.Validated.{IsFileReading}
use Rattle.c2_definition.specs.declared.types.Definition.{Definition}
use Rattle.c2_new_file_spec.specs.Fresh.{GivesDigests, MeetsTheRules}
use Rattle.c2_new_file_spec.specs.Store.{Content, new_alg}
use Rattle.c2_new_content_spec.specs.Taken.{questions_from}
use Rattle.c2_new_file_spec.specs.Places.{Place, place_start, place_store, range_len}
use Rattle.c2_collect_spec.specs.Collected.{IsOfEither, ReachesCollected}
use Rattle.c2_collect_spec.specs.Files.{collected_signed}
use Rattle.c2_collect_spec.specs.Order.{FilePair, IsCollectedFile, pair_readings, pair_roots}
use Rattle.c2_collect_spec.specs.Stores.{IsAcceptedFile}

-- the questions of what is reached from the roots of the joined chain of a pair
abbrev pub pair_questions : FilePair → List Question
pair_questions p = questions_from (pair_readings p) (pair_roots p)

-- The file has a new store in this range at the place, as long as that of this content with what the definition reserves. The store is that
-- of this content and this message, in its place over what is left of the media, and each rule but the verdict on its message holds of it.
-- It asks a new question, over the bytes that are signed of this definition and this content, and then others, each of which is one of the
-- media's store or of the other. What is reached in it are the new manifest, and what was reached in the media's store or in the other.
-- Less the range it is what is left of the media without its store. Judges who approve each of its questions accept it.
pub record MeetsCollected (hash : Alg → List ℕ → List ℕ) (d : Definition) (content : Content) (message : List ℕ) (pair : FilePair) (p : Place) (file : List ℕ) : Type 0 where
  pub len : ℕ
  pub range : len ≡ range_len p content d.reserve
  pub store : Tree
  pub is : store ≡ place_store (hash (new_alg d)) content message pair.media.base p
  pub question : Question
  pub meets : MeetsTheRules hash file (place_start p) len store (question ∷ pair_questions pair)
  pub signed : question.tbs ≡ collected_signed hash d content pair.media.base p
  pub either : AllByRecursion (IsOfEither pair.media.readings pair.other.readings) (pair_questions pair)
  pub reaches : (s : StoreReading) → IsFileReading file store s → ReachesCollected pair.media.readings pair.other.readings s.readings
  pub base : taken_out (place_start p) len file ≡ pair.media.base
  pub accepted : (said : Question → Verdict) → AreApproved said (question ∷ pair_questions pair)
      → (s : StoreReading) × IsAcceptedFile hash said file (place_start p) len store s

-- Each file that is built whose new store collects from two files has that store and meets the rules, as `MeetsCollected` says.
abbrev pub EachCollectedFileMeets : Type 0
EachCollectedFileMeets = (hash : Alg → List ℕ → List ℕ) (d : Definition) (pair : FilePair) (parts : SignParts) (p : Place) (file : List ℕ)
    → GivesDigests hash → (b : IsCollectedFile hash d pair parts p file) → MeetsCollected hash d b.content b.message pair p file
