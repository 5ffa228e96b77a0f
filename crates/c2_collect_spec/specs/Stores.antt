-- What is asked of a store that is joined with another, seen from the manifests that a later one names; that two such stores join to one;
-- and that a new store takes over what isn't redacted of it (C2PA Technical Specification 2.x, "Ingredient").
use Rattle.std.specs.Prelude.{◌≡◌, ◌<◌, ℕ, false, List, [], length, map}
use Rattle.std.specs.declared.option.Option.TheVariants.{None}
use Rattle.std.specs.List.{AllByRecursion}
use Rattle.c2_base.specs.declared.limits.TheConstants.{MAX_MANIFESTS}
use Rattle.c2_base.specs.declared.values.Question.{Question}
use Rattle.c2_spec.specs.C2pa.Manifest.{manifests_of, store_refusal}
use Rattle.c2_spec.specs.Jumbf.Tree.{AreDistinctLabels, AreLegalTrees, IsLegalTree, Tree, Trees, none, tree_labels}
use Rattle.c2_spec.specs.Located.{here}
use Rattle.c2_spec.specs.declared.digest.Alg.{Alg}
use Rattle.c2_spec.specs.declared.panel.Verdict.{Verdict}
use Rattle.c2_rules.specs.CheckList.{IsValid, StoreReading}
use Rattle.c2_rules.specs.Opened.{IsOpened}
use Rattle.c2_rules.specs.Readings.{AreReadings, Reading}
use Rattle.c2_rules.specs.Validated.{IsFileReading}
use Rattle.c2_chain_spec.specs.Joined.{has_manifest, joined, joined_roots}
use Rattle.c2_chain_spec.specs.Rooted.{IsRooted, is_reached_from, last_roots}
use Rattle.c2_definition.specs.declared.types.Definition.{Definition}
use Rattle.c2_new_file_spec.specs.Manifests.{manifest_of, supers_in}
use Rattle.c2_new_file_spec.specs.Written.{IsStoreBox}
use Rattle.c2_new_file_spec.specs.Redacting.{boxes_in, redacted_boxes}
use Rattle.c2_new_content_spec.specs.Taken.{IsTakenFrom}
use Rattle.c2_collect_spec.specs.Refusals.{redaction_refusal_by}
use Rattle.c2_collect_spec.specs.Sides.{DoNotClash, joined_boxes}

-- ---- a store that can be joined

-- A store as its boxes, which are read so and seen from these roots: its boxes are legal in a store and have different labels, each
-- superbox is a manifest, and the rules but the verdicts hold of what is reached from the roots.
pub record IsRootedStore (hash : Alg → List ℕ → List ℕ) (boxes : Trees) (rs : List Reading) (roots : List ℕ) : Type 0 where
  pub legal : AreLegalTrees 2 boxes
  pub distinct : AreDistinctLabels (tree_labels boxes)
  pub stores : AllByRecursion IsStoreBox (supers_in boxes)
  pub reads : AreReadings (map manifest_of (supers_in boxes)) rs
  pub rooted : IsRooted hash rs roots

-- A store that is valid where judges say this, as a box tree and as what it is read as.
pub record IsValidStore (hash : Alg → List ℕ → List ℕ) (said : Question → Verdict) (t : Tree) (s : StoreReading) : Type 0 where
  pub legal : IsLegalTree 1 t
  pub store : store_refusal t ≡ None
  pub reads : AreReadings (manifests_of t) s.readings
  pub valid : IsValid hash said s

-- A valid store can be joined with another, seen from its last manifest.
abbrev pub ValidStoreIsRooted : Type 0
ValidStoreIsRooted = (hash : Alg → List ℕ → List ℕ) (said : Question → Verdict) (t : Tree) (s : StoreReading)
    → IsValidStore hash said t s → IsRootedStore hash (boxes_in t) s.readings (last_roots s.readings)

-- A media file without a store joins as a store of no boxes, which has no last manifest.
abbrev pub NoStoreIsRooted : Type 0
NoStoreIsRooted = (hash : Alg → List ℕ → List ℕ) → IsRootedStore hash none [] (last_roots [])

-- ---- an accepted file

-- A file, JPEG or BMFF, that is accepted where judges say this: it is opened as this store in this range, and each rule of the check
-- list holds of what it is read as.
pub record IsAcceptedFile (hash : Alg → List ℕ → List ℕ) (said : Question → Verdict) (file : List ℕ) (start len : ℕ) (t : Tree) (s : StoreReading) : Type 0 where
  pub opened : IsOpened file (here start len t)
  pub reads : IsFileReading file t s
  pub valid : IsValid hash said s

-- The store of an accepted file can be joined with another, seen from its last manifest, and it has a manifest.
abbrev pub AcceptedFileIsRooted : Type 0
AcceptedFileIsRooted = (hash : Alg → List ℕ → List ℕ) (said : Question → Verdict) (file : List ℕ) (start len : ℕ) (t : Tree) (s : StoreReading)
    → IsAcceptedFile hash said file start len t s
    → IsRootedStore hash (boxes_in t) s.readings (last_roots s.readings) × (0 < length s.readings)

-- ---- two stores

-- Two stores that can be joined and don't clash join to one, seen from the roots of both.
abbrev pub RootedStoresJoin : Type 0
RootedStoresJoin = (hash : Alg → List ℕ → List ℕ) (old other : Trees) (old_rs other_rs : List Reading) (old_roots other_roots : List ℕ)
    → IsRootedStore hash old old_rs old_roots → IsRootedStore hash other other_rs other_roots
    → DoNotClash (supers_in old) (is_reached_from old_rs old_roots) (supers_in other) (is_reached_from other_rs other_roots)
    → IsRootedStore hash (joined_boxes old (is_reached_from other_rs other_roots) other)
    (joined old_rs (is_reached_from other_rs other_roots) other_rs)
    (joined_roots old_roots other_rs other_roots (joined old_rs (is_reached_from other_rs other_roots) other_rs))

-- ---- what is taken over

-- A store that can be joined is taken over by a new one whose label none of its manifests has, where there is room for one more manifest
-- and no redaction is refused.
abbrev pub RootedStoreIsTaken : Type 0
RootedStoreIsTaken = (hash : Alg → List ℕ → List ℕ) (d : Definition) (boxes : Trees) (rs : List Reading) (roots : List ℕ)
    → IsRootedStore hash boxes rs roots → has_manifest rs d.label ≡ false → length rs < MAX_MANIFESTS
    → redaction_refusal_by (is_reached_from rs roots) d.label rs d.redact ≡ None
    → (ss : List Reading) × IsTakenFrom hash d (redacted_boxes d.redact boxes) roots rs ss
