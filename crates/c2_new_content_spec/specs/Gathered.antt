-- A new store whose manifest has some ingredients, each a manifest that is carried (C2PA Technical Specification 2.x, "Ingredient"):
-- none, as over a media file without a store; the last one, as over an older store; or the last of two stores.
use Rattle.std.specs.Prelude.{◌≡◌, ◌≤◌, ◌<◌, ◌+◌, ℕ, true, List, ◌∷◌, length}
use Rattle.std.specs.List.{AllZip}
use Rattle.c2_base.specs.declared.limits.TheConstants.{MAX_STORE_LEN}
use Rattle.c2_spec.specs.C2pa.Manifest.{manifests_of}
use Rattle.c2_spec.specs.C2pa.Sign1.{SignParts, SpellsMessage, question_of}
use Rattle.c2_spec.specs.Jumbf.Tree.{tree_bytes}
use Rattle.c2_spec.specs.declared.digest.Alg.{Alg}
use Rattle.c2_rules.specs.Chains.{is_reached}
use Rattle.c2_rules.specs.Readings.{AreReadings, Reading}
use Rattle.c2_chain_spec.specs.Rooted.{is_reached_from}
use Rattle.c2_definition.specs.declared.types.NewAssertion.{NewAssertion}
use Rattle.c2_new_file_spec.specs.Store.{Content, NewIngredient, new_alg, new_claim, new_store}
use Rattle.c2_new_file_spec.specs.Unbound.{IsKnownBinding, MeetsUnbound}
use Rattle.c2_new_file_spec.specs.Written.{AreIngredients, CanBeWritten}
use Rattle.c2_new_content_spec.specs.Taken.{IsRoot, IsTakenFrom, questions_from}

-- A new store that takes over a chain and has an ingredient for each of its roots, in their order: the definition can be written, the
-- ingredients and the binding are such as a manifest may have, the store isn't too large, and the message spells its parts.
pub record IsOverRoots (hash : Alg → List ℕ → List ℕ) (c : Content) (binding : NewAssertion) (message : List ℕ) (p : SignParts) (roots : List ℕ) (rs ss : List Reading) : Type 0 where
  pub written : CanBeWritten c.definition
  pub ingredients : AreIngredients c.ingredients
  pub known : IsKnownBinding binding
  pub fits : length (tree_bytes (new_store (hash (new_alg c.definition)) c binding message)) ≤ MAX_STORE_LEN
  pub spells : SpellsMessage message p
  pub taken : IsTakenFrom hash c.definition c.carried roots rs ss
  pub named : AllZip (λ (g : NewIngredient) root. IsRoot rs ss g.of root) c.ingredients roots

-- A new store over roots meets each rule but the verdict on its message and the one on its binding, and asks the new question and then
-- those of what is reached from the roots.
abbrev pub GatheredStoreMeets : Type 0
GatheredStoreMeets = (hash : Alg → List ℕ → List ℕ) (c : Content) (binding : NewAssertion) (message : List ℕ) (p : SignParts) (roots : List ℕ) (rs ss : List Reading)
    → IsOverRoots hash c binding message p roots rs ss
    → MeetsUnbound hash (new_store (hash (new_alg c.definition)) c binding message) binding
    (question_of p (new_claim (hash (new_alg c.definition)) c binding) ∷ questions_from rs roots)

-- In these readings of a store what is reached are the new manifest, the last, and what is reached from the roots of the chain that it
-- takes over.
pub record ReachesRoots (rs : List Reading) (roots : List ℕ) (all : List Reading) : Type 0 where
  pub count : length all ≡ length rs + 1
  pub older : (i : ℕ) → i < length rs → is_reached all i ≡ is_reached_from rs roots i
  pub new : is_reached all (length rs) ≡ true

-- A new store over roots reaches its new manifest and what is reached from the roots, in the readings that its manifests come to.
abbrev pub GatheredStoreReaches : Type 0
GatheredStoreReaches = (hash : Alg → List ℕ → List ℕ) (c : Content) (binding : NewAssertion) (message : List ℕ) (p : SignParts) (roots : List ℕ) (rs ss : List Reading)
    → IsOverRoots hash c binding message p roots rs ss
    → (all : List Reading) × AreReadings (manifests_of (new_store (hash (new_alg c.definition)) c binding message)) all
    × ReachesRoots rs roots all
