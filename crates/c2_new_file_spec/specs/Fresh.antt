-- What a file meets that was built of a JPEG file without a store.
use Rattle.std.specs.Prelude.{◌≡◌, ℕ, List, []}
use Rattle.c2_base.specs.declared.values.Question.{Question}
use Rattle.c2_spec.specs.Digest.{IsDigest}
use Rattle.c2_spec.specs.Jumbf.Tree.{Tree, none}
use Rattle.c2_spec.specs.Located.{here}
use Rattle.c2_spec.specs.declared.digest.Alg.{Alg}
use Rattle.c2_rules.specs.CheckList.{StoreReading, unjudged_list, questions}
use Rattle.c2_rules.specs.Opened.{IsOpened}
use Rattle.c2_rules.specs.Tests.{AllHold}
use Rattle.c2_rules.specs.Validated.{IsFileReading}
use Rattle.c2_definition.specs.declared.types.Definition.{Definition}
use Rattle.c2_new_file_spec.specs.Store.{Content}

-- what goes into a store of a definition alone: nothing is carried, and there are no ingredients
abbrev pub fresh_content : Definition → Content
fresh_content d = record { definition = d; carried = none; ingredients = [] }

-- nothing is carried, there are no ingredients, and nothing is redacted
pub record IsFresh (c : Content) : Type 0 where
  pub carried : c.carried ≡ none
  pub ingredients : c.ingredients ≡ []
  pub redact : c.definition.redact ≡ []

-- a hash gives digests
abbrev pub GivesDigests : (Alg → List ℕ → List ℕ) → Type 0
GivesDigests hash = (alg : Alg) (text : List ℕ) → IsDigest alg (hash alg text)

-- a file is opened as this store in this range, each rule holds of it apart from verdicts, and its questions are these
pub record MeetsTheRules (hash : Alg → List ℕ → List ℕ) (file : List ℕ) (start len : ℕ) (t : Tree) (qs : List Question) : Type 0 where
  pub opened : IsOpened file (here start len t)
  pub reading : StoreReading
  pub reads : IsFileReading file t reading
  pub holds : AllHold (unjudged_list hash reading)
  pub asks : questions reading.readings ≡ qs
