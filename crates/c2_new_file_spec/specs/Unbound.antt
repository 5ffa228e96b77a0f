-- What a new store meets beside its binding to a media file: so a file that holds the store meets all rules but verdicts, once the
-- binding is met in it.
use Rattle.std.specs.Prelude.{◌≡◌, ◌⊎◌, ℕ, List, codes, Some, None, Ok}
use Rattle.c2_base.specs.declared.values.Question.{Question}
use Rattle.c2_spec.specs.C2pa.Manifest.{manifests_of, store_refusal}
use Rattle.c2_spec.specs.Cbor.Fields.{HasItem}
use Rattle.c2_spec.specs.Cbor.Item.{Item}
use Rattle.c2_spec.specs.Container.{IsLocated}
use Rattle.c2_spec.specs.Jumbf.Tree.{SpellsTree, Tree, tree_bytes}
use Rattle.c2_spec.specs.Located.{here}
use Rattle.c2_spec.specs.declared.digest.Alg.{Alg}
use Rattle.c2_rules.specs.Binding.{Binding, IsBinding, IsMedia, Media, binding_label, binding_payload, bound_tests}
use Rattle.c2_rules.specs.Chains.{label_in}
use Rattle.c2_rules.specs.CheckList.{active_in, active_tests, chain_tests, questions}
use Rattle.c2_rules.specs.Ingredients.{assertion_uri}
use Rattle.c2_rules.specs.Readings.{AreReadings, Reading}
use Rattle.c2_rules.specs.Rules.{label_kind, unjudged_tests}
use Rattle.c2_rules.specs.Tests.{AllHold}
use Rattle.c2_definition.specs.declared.types.NewAssertion.{NewAssertion}
use Rattle.c2_definition.specs.declared.types.Payload.TheVariants as payload
use Rattle.c2_new_file_spec.specs.Fresh.{MeetsTheRules}

-- the label of a binding of a kind that is known: to ranges of a file, or to its boxes
abbrev pub IsKnownLabel : List ℕ → Type 0
IsKnownLabel label = (label ≡ codes "c2pa.hash.data") ⊎ (label ≡ codes "c2pa.hash.bmff.v2")

-- a binding of such a kind, which is an item
pub record IsKnownBinding (binding : NewAssertion) : Type 0 where
  pub label : IsKnownLabel binding.label
  pub item : binding.kind ≡ payload.Cbor

-- A store whose last manifest has this binding. Its bytes spell it; its manifests are read so that each rule holds of them, apart from
-- verdicts and the rule on the binding; and its questions are these.
pub record MeetsUnbound (hash : Alg → List ℕ → List ℕ) (t : Tree) (binding : NewAssertion) (qs : List Question) : Type 0 where
  pub spelled : SpellsTree (tree_bytes t) t
  pub store : store_refusal t ≡ None
  pub readings : List Reading
  pub reads : AreReadings (manifests_of t) readings
  pub active : Reading
  pub is_active : active_in readings ≡ Some active
  pub label : binding_label active ≡ Some binding.label
  pub item : binding_payload active ≡ Some binding.bytes
  pub no_update : AllHold (active_tests (Some active))
  pub holds : AllHold (chain_tests (unjudged_tests hash) readings)
  pub asks : questions readings ≡ qs

-- A binding is met in a file: what its item comes to there meets the rule on it, whichever manifest has the binding.
pub record IsBindingMet (hash : Alg → List ℕ → List ℕ) (binding : NewAssertion) (file : List ℕ) : Type 0 where
  pub media : Media
  pub is_media : IsMedia file media
  pub item : Item
  pub has : HasItem binding.bytes item
  pub comes : Binding
  pub is : IsBinding media (label_kind binding.label) item (Ok comes)
  pub holds : (r : Reading) → AllHold (bound_tests hash r (assertion_uri (label_in r) binding.label) (label_kind binding.label) (Ok comes))

-- A new store in a file meets each rule, where its binding is met in the file.
abbrev pub BoundFileMeets : Type 0
BoundFileMeets = (hash : Alg → List ℕ → List ℕ) (file : List ℕ) (start len : ℕ) (t : Tree) (binding : NewAssertion) (qs : List Question)
    → MeetsUnbound hash t binding qs → IsLocated file (here start len (tree_bytes t)) → IsBindingMet hash binding file
    → MeetsTheRules hash file start len t qs
