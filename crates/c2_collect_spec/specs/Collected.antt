-- A collected ingredient: a new store over the joined boxes of a media file's store, where it has one, and of another file's (C2PA
-- Technical Specification 2.x, "Ingredient"). The last manifest of the media's store is the parent, and the last of the other a component.
use Rattle.std.specs.Prelude.{◌≡◌, ◌⊎◌, ◌↔◌, ◌<◌, ◌≤◌, ◌+◌, ℕ, Bool, true, false, Contains, List, [], ◌∷◌, codes, find, length, slice_get}
use Rattle.std.specs.declared.option.Option.TheVariants.{Some, None}
use Rattle.std.specs.List.{AllByRecursion, AllZip}
use Rattle.c2_base.specs.declared.limits.TheConstants.{MAX_MANIFESTS, MAX_STORE_LEN}
use Rattle.c2_base.specs.declared.values.Question.{Question}
use Rattle.c2_spec.specs.C2pa.Manifest.{manifests_of}
use Rattle.c2_spec.specs.C2pa.Sign1.{SignParts, SpellsMessage, question_of}
use Rattle.c2_spec.specs.Jumbf.Boxes.{any_label, node}
use Rattle.c2_spec.specs.Jumbf.Tree.{Tree, Trees, tree_bytes}
use Rattle.c2_spec.specs.declared.assertion.Relationship.TheVariants.{ComponentOf, ParentOf}
use Rattle.c2_spec.specs.declared.digest.Alg.{Alg}
use Rattle.c2_spec.specs.declared.panel.Verdict.{Verdict}
use Rattle.c2_rules.specs.Chains.{is_reached}
use Rattle.c2_rules.specs.CheckList.{AreApproved, questions}
use Rattle.c2_rules.specs.Readings.{AreReadings, Reading}
use Rattle.c2_chain_spec.specs.Joined.{has_manifest, joined, joined_roots}
use Rattle.c2_chain_spec.specs.Rooted.{is_reached_from, last_roots}
use Rattle.c2_definition.specs.declared.types.Definition.{Definition}
use Rattle.c2_definition.specs.declared.types.NewAssertion.{NewAssertion}
use Rattle.c2_new_file_spec.specs.FreshBoxes.{contents_of}
use Rattle.c2_new_file_spec.specs.Manifests.{is_signature_box, supers_in, supers_of}
use Rattle.c2_new_file_spec.specs.Store.{Content, NamedManifest, NewIngredient, new_alg, new_claim, new_store}
use Rattle.c2_new_file_spec.specs.Unbound.{IsKnownBinding, MeetsUnbound}
use Rattle.c2_new_file_spec.specs.Written.{CanBeWritten}
use Rattle.c2_new_file_spec.specs.Redacting.{redacted_boxes}
use Rattle.c2_new_content_spec.specs.Taken.{questions_from}
use Rattle.c2_collect_spec.specs.Refusals.{redaction_refusal_by}
use Rattle.c2_collect_spec.specs.Sides.{DoNotClash, joined_boxes}
use Rattle.c2_collect_spec.specs.Stores.{IsRootedStore}

-- ---- the joined chain

-- the joined boxes: those of the media's store, and the manifests of the other that are reached in it, where these are its readings
abbrev pub collected_boxes : Trees → Trees → List Reading → Trees
collected_boxes old other other_rs = joined_boxes old (is_reached other_rs) other

-- what the joined boxes are read as, where the two stores are read as these
abbrev pub collected_readings : List Reading → List Reading → List Reading
collected_readings old_rs other_rs = joined old_rs (is_reached other_rs) other_rs

-- the roots of the joined chain: the last manifests of both stores
abbrev pub collected_roots : List Reading → List Reading → List ℕ
collected_roots old_rs other_rs = joined_roots (last_roots old_rs) other_rs (last_roots other_rs) (collected_readings old_rs other_rs)

-- ---- the ingredients

-- The manifest that an ingredient names: the one at this place, by its label, its contents, and those of its signature box.
pub record IsNamedAt (p : NamedManifest) (manifests : List Tree) (place : ℕ) : Type 0 where
  pub manifest : Tree
  pub is_manifest : slice_get manifests place ≡ Some manifest
  pub label : any_label (node manifest) ≡ Some p.label
  pub contents : contents_of manifest ≡ p.contents
  pub signature : Tree
  pub is_signature : find is_signature_box (supers_of manifest) ≡ Some signature
  pub signed : contents_of signature ≡ p.signed

-- The ingredients that name one manifest or two: a component, or a parent and then a component, whose label then ends `__1` ("Multiple
-- instances" of assertions). There are never more, as a joined chain has two roots at most.
abbrev pub collected_ingredients : List NamedManifest → List NewIngredient
collected_ingredients [] = []
collected_ingredients (q ∷ []) =
    record { label = codes "c2pa.ingredient.v3"; relationship = ComponentOf; of = q } ∷ []
collected_ingredients (p ∷ q ∷ more) =
    record { label = codes "c2pa.ingredient.v3"; relationship = ParentOf; of = p }
    ∷ record { label = codes "c2pa.ingredient.v3__1"; relationship = ComponentOf; of = q }
    ∷ []

-- What goes into the new store: the joined boxes less what the definition redacts, and ingredients that name the manifests at the roots,
-- as they stand there.
pub record CollectsFrom (d : Definition) (old other : Trees) (old_rs other_rs : List Reading) (c : Content) : Type 0 where
  pub definition : c.definition ≡ d
  pub carried : c.carried ≡ redacted_boxes d.redact (collected_boxes old other other_rs)
  pub named : List NamedManifest
  pub are : AllZip (λ (p : NamedManifest) root. IsNamedAt p (supers_in c.carried) root) named (collected_roots old_rs other_rs)
  pub ingredients : c.ingredients ≡ collected_ingredients named

-- ---- what may be collected

-- Two stores, the first of which may have no manifest, that may be joined: the rules but the verdicts hold of what is reached from the
-- last manifest of each, the second has a manifest, and they don't clash.
pub record CanJoin (hash : Alg → List ℕ → List ℕ) (old other : Trees) (old_rs other_rs : List Reading) : Type 0 where
  pub old_store : IsRootedStore hash old old_rs (last_roots old_rs)
  pub other_store : IsRootedStore hash other other_rs (last_roots other_rs)
  pub some : 0 < length other_rs
  pub apart : DoNotClash (supers_in old) (is_reached old_rs) (supers_in other) (is_reached other_rs)

-- What stands at place `i` of the joined chain was reached where it comes from: in the media's store, where it stands at the same place;
-- or in the other store.
pub data WasReached (old_rs other_rs : List Reading) (i : ℕ) : Type 0 where
  in_media : i < length old_rs → is_reached old_rs i ≡ true → WasReached old_rs other_rs i
  in_other : (place : ℕ) (r : Reading) → is_reached other_rs place ≡ true → slice_get other_rs place ≡ Some r
      → slice_get (collected_readings old_rs other_rs) i ≡ Some r → WasReached old_rs other_rs i

-- This is reached of the joined chain: each manifest that was reached in the media's store or in the other, and nothing else. Of the
-- media's manifests that is what was reached in its own store; the carried ones, which stand behind them, are all reached; and each
-- manifest that was reached in the other store stands somewhere in the chain.
pub record JoinedReaches (old_rs other_rs : List Reading) (is_in : ℕ → Bool) : Type 0 where
  pub each : (i : ℕ) → i < length (collected_readings old_rs other_rs) → (is_in i ≡ true) ↔ WasReached old_rs other_rs i
  pub media : (i : ℕ) → i < length old_rs → is_in i ≡ is_reached old_rs i
  pub carried : (i : ℕ) → length old_rs ≤ i → i < length (collected_readings old_rs other_rs) → is_in i ≡ true
  pub stands : (place : ℕ) (r : Reading) → is_reached other_rs place ≡ true → slice_get other_rs place ≡ Some r
      → (i : ℕ) × (slice_get (collected_readings old_rs other_rs) i ≡ Some r) × (is_in i ≡ true)

-- Where two stores may be joined, what is reached from the roots of the joined chain is what was reached in the one or in the other.
abbrev pub JoinedIsReached : Type 0
JoinedIsReached = (hash : Alg → List ℕ → List ℕ) (old other : Trees) (old_rs other_rs : List Reading)
    → CanJoin hash old other old_rs other_rs
    → JoinedReaches old_rs other_rs (is_reached_from (collected_readings old_rs other_rs) (collected_roots old_rs other_rs))

-- Two stores that may be collected under this definition, as far as the number of their manifests allows: they may be joined, none of
-- the joined manifests has the new label, and no redaction of what is reached from the roots is refused. That the second file is accepted
-- says more (`IsAcceptedFile`): its verdicts, and the tests of its binding.
pub record CanCollect (hash : Alg → List ℕ → List ℕ) (d : Definition) (old other : Trees) (old_rs other_rs : List Reading) : Type 0 where
  pub joins : CanJoin hash old other old_rs other_rs
  pub label : has_manifest (collected_readings old_rs other_rs) d.label ≡ false
  pub redactions : redaction_refusal_by (is_reached_from (collected_readings old_rs other_rs) (collected_roots old_rs other_rs)) d.label
      (collected_readings old_rs other_rs) d.redact ≡ None

-- Where two stores may be collected, something goes into the new store, whether there is room or not.
abbrev pub SomeContentCollects : Type 0
SomeContentCollects = (hash : Alg → List ℕ → List ℕ) (d : Definition) (old other : Trees) (old_rs other_rs : List Reading)
    → CanCollect hash d old other old_rs other_rs → (c : Content) × CollectsFrom d old other old_rs other_rs c

-- What goes into a new store over two stores is one.
abbrev pub CollectedContentIsOne : Type 0
CollectedContentIsOne = (d : Definition) (old other : Trees) (old_rs other_rs : List Reading) (b c : Content)
    → CollectsFrom d old other old_rs other_rs b → CollectsFrom d old other old_rs other_rs c → b ≡ c

-- ---- what the new store meets

-- This goes into a new store over two that may be collected: the definition can be written, and there is room for one more manifest
-- than the joined ones.
pub record IsCollected (hash : Alg → List ℕ → List ℕ) (d : Definition) (old other : Trees) (old_rs other_rs : List Reading) (c : Content) : Type 0 where
  pub can : CanCollect hash d old other old_rs other_rs
  pub few : length (collected_readings old_rs other_rs) < MAX_MANIFESTS
  pub written : CanBeWritten d
  pub content : CollectsFrom d old other old_rs other_rs c

-- A new store of what is collected, which isn't too large, with a binding of a kind that is known, and a message that spells its parts.
pub record IsStored (hash : Alg → List ℕ → List ℕ) (c : Content) (binding : NewAssertion) (message : List ℕ) (p : SignParts) : Type 0 where
  pub known : IsKnownBinding binding
  pub fits : length (tree_bytes (new_store (hash (new_alg c.definition)) c binding message)) ≤ MAX_STORE_LEN
  pub spells : SpellsMessage message p

-- A new store that collects from two stores meets each rule but the one on its binding and the verdict on its message. It asks the new
-- question, and then those of what is reached from the roots of the joined chain.
abbrev pub CollectedStoreMeets : Type 0
CollectedStoreMeets = (hash : Alg → List ℕ → List ℕ) (d : Definition) (old other : Trees) (old_rs other_rs : List Reading) (c : Content) (binding : NewAssertion) (message : List ℕ) (p : SignParts)
    → IsCollected hash d old other old_rs other_rs c → IsStored hash c binding message p
    → MeetsUnbound hash (new_store (hash (new_alg c.definition)) c binding message) binding
    (question_of p (new_claim (hash (new_alg c.definition)) c binding)
    ∷ questions_from (collected_readings old_rs other_rs) (collected_roots old_rs other_rs))

-- a question is one of the media's store or of the other
abbrev pub IsOfEither : List Reading → List Reading → Question → Type 0
IsOfEither old_rs other_rs q = Contains (questions old_rs) q ⊎ Contains (questions other_rs) q

-- Each question of what is reached from the roots of the joined chain is a question of the media's store or of the other.
abbrev pub QuestionsAreOfEither : Type 0
QuestionsAreOfEither = (hash : Alg → List ℕ → List ℕ) (old other : Trees) (old_rs other_rs : List Reading)
    → CanJoin hash old other old_rs other_rs
    → AllByRecursion (IsOfEither old_rs other_rs) (questions_from (collected_readings old_rs other_rs) (collected_roots old_rs other_rs))

-- Judges who approve each question of the media's store and of the other approve each question of the joined chain.
abbrev pub QuestionsAreApproved : Type 0
QuestionsAreApproved = (hash : Alg → List ℕ → List ℕ) (said : Question → Verdict) (old other : Trees) (old_rs other_rs : List Reading)
    → CanJoin hash old other old_rs other_rs → AreApproved said (questions old_rs) → AreApproved said (questions other_rs)
    → AreApproved said (questions_from (collected_readings old_rs other_rs) (collected_roots old_rs other_rs))

-- In these readings of the new store what is reached are the new manifest, which is the last, and of the joined chain before it what was
-- reached in the media's store or in the other.
pub record ReachesCollected (old_rs other_rs all : List Reading) : Type 0 where
  pub count : length all ≡ length (collected_readings old_rs other_rs) + 1
  pub new : is_reached all (length (collected_readings old_rs other_rs)) ≡ true
  pub older : JoinedReaches old_rs other_rs (is_reached all)

-- Whatever the manifests of a new store that collects from two stores are read as, what is reached in it are the new manifest and what was
-- reached in the media's store or in the other.
abbrev pub CollectedStoreReaches : Type 0
CollectedStoreReaches = (hash : Alg → List ℕ → List ℕ) (d : Definition) (old other : Trees) (old_rs other_rs : List Reading) (c : Content) (binding : NewAssertion) (message : List ℕ) (p : SignParts) (all : List Reading)
    → IsCollected hash d old other old_rs other_rs c → IsStored hash c binding message p
    → AreReadings (manifests_of (new_store (hash (new_alg c.definition)) c binding message)) all
    → ReachesCollected old_rs other_rs all
