-- What a new store meets that takes over older manifests, and what judges say of a valid store.
use Rattle.std.specs.Prelude.{◌≡◌, ◌≤◌, ℕ, List, [], ◌∷◌, length}
use Rattle.std.specs.List.{AllByRecursion}
use Rattle.c2_base.specs.declared.limits.TheConstants.{MAX_STORE_LEN}
use Rattle.c2_base.specs.declared.values.Question.{Question}
use Rattle.c2_spec.specs.C2pa.Sign1.{SignParts, SpellsMessage, question_of}
use Rattle.c2_spec.specs.Jumbf.Tree.{tree_bytes}
use Rattle.c2_spec.specs.declared.digest.Alg.{Alg}
use Rattle.c2_spec.specs.declared.panel.Verdict.{Verdict}
use Rattle.c2_spec.specs.declared.panel.Verdict.TheVariants.{Approved}
use Rattle.c2_rules.specs.CheckList.{IsValid, StoreReading, questions}
use Rattle.c2_rules.specs.Readings.{Reading}
use Rattle.c2_definition.specs.declared.types.NewAssertion.{NewAssertion}
use Rattle.c2_new_file_spec.specs.Store.{Content, NamedManifest, new_alg, new_claim, new_store, parent_ingredient}
use Rattle.c2_new_file_spec.specs.Unbound.{IsKnownBinding, MeetsUnbound}
use Rattle.c2_new_file_spec.specs.Written.{CanBeWritten}
use Rattle.c2_new_file_spec.specs.Carrying.{IsLast, IsTakenOver}

-- A new store that takes over these older manifests and has the last of them as its parent meets all but its binding, and asks the new
-- question and then the older ones. The message may be any that spells its parts.
abbrev pub SucceedingStoreMeets : Type 0
SucceedingStoreMeets = (hash : Alg → List ℕ → List ℕ) (c : Content) (parent : NamedManifest) (binding : NewAssertion) (message : List ℕ) (p : SignParts) (rs ss : List Reading)
    → c.ingredients ≡ parent_ingredient parent ∷ [] → CanBeWritten c.definition → IsKnownBinding binding
    → length (tree_bytes (new_store (hash (new_alg c.definition)) c binding message)) ≤ MAX_STORE_LEN → SpellsMessage message p
    → IsTakenOver hash c rs ss → IsLast parent rs ss
    → MeetsUnbound hash (new_store (hash (new_alg c.definition)) c binding message) binding (question_of p (new_claim (hash (new_alg c.definition)) c binding) ∷ questions rs)

-- The judges approve each question of a store that they find valid.
abbrev pub ValidIsApproved : Type 0
ValidIsApproved = (hash : Alg → List ℕ → List ℕ) (said : Question → Verdict) (s : StoreReading) → IsValid hash said s
    → AllByRecursion (λ (q : Question). said q ≡ Approved) (questions s.readings)
