-- For private clauses: what the steps of a build whose new store collects from two files come to.
use Rattle.std.specs.Prelude.{◌≡◌, ◌+◌, ◌<◌, ℕ, ⊤, Bool, true, List, [], ◌∷◌, ◌++◌, length, map, option_map}
use Rattle.std.specs.declared.option.Option.{Option}
use Rattle.std.specs.declared.option.Option.TheVariants.{None, Some}
use Rattle.std.specs.declared.result.Result.{Result}
use Rattle.std.specs.declared.result.Result.TheVariants.{Ok, Err}
use Rattle.std.specs.List.{AllZip}
use Rattle.std.specs.Option.{option_to_list}
use Rattle.c2_base.specs.declared.values.Question.{Question}
use Rattle.c2_spec.specs.C2pa.Manifest.{IsStoreOf, manifests_of}
use Rattle.c2_spec.specs.Container.{IsLocated}
use Rattle.c2_spec.specs.Jumbf.Tree.{Tree, Trees, none, trees_bytes}
use Rattle.c2_spec.specs.Located.{absent, here, refused}
use Rattle.c2_spec.specs.declared.assertion.Relationship.{Relationship}
use Rattle.c2_spec.specs.declared.digest.Alg.{Alg}
use Rattle.c2_spec.specs.declared.panel.Verdict.{Verdict}
use Rattle.c2_rules.specs.Chains.{is_reached}
use Rattle.c2_rules.specs.Opened.{IsOpened}
use Rattle.c2_rules.specs.Readings.{AreReadings, Reading}
use Rattle.c2_rules.specs.Validated.{IsAnswer}
use Rattle.c2_rules.specs.declared.answer.Answer.{Answer}
use Rattle.c2_rules.specs.declared.answer.Answer.TheVariants as answers
use Rattle.c2_definition.specs.declared.types.Definition.{Definition}
use Rattle.c2_definition.specs.declared.types.NewAssertion.{NewAssertion}
use Rattle.c2_new_file_spec.specs.Manifests.{supers_in}
use Rattle.c2_new_file_spec.specs.Store.{NamedManifest, ingredient_assertion}
use Rattle.c2_new_file_spec.specs.Parents.{IsParentOf}
use Rattle.c2_new_file_spec.specs.declared.refused.RefusedRedaction.{RefusedRedaction}
use Rattle.c2_parent.specs.Both.{IsFirstRefusedOfBoth}
use Rattle.c2_new_file_spec.specs.Redacting.{boxes_in, redacted_boxes}
use Rattle.c2_chain_spec.specs.Rooted.{last_roots}
use Rattle.c2_layout.specs.Parts.{AreRefs}
use Rattle.c2_layout.specs.declared.carried.ManifestRefs.{ManifestRefs}
use Rattle.c2_without_store.specs.Clears.{cleared}
use Rattle.c2_collect.specs.Marked.{flag_at}
use Rattle.c2_collect_spec.specs.Collected.{collected_boxes, collected_ingredients, collected_readings}
use Rattle.c2_collect_spec.specs.Order.{CollectRefusal, MediaFile, OtherFile, label_refusals, other_refused, other_refusals, redaction_refused}
use Rattle.c2_collect_spec.specs.Refusals.{redaction_refusal_by}
use Rattle.c2_collect_spec.specs.Sides.{DoNotClash, IsClashLabel}
use Rattle.c2_collect_spec.specs.Stores.{IsRootedStore}
use Rattle.c2_container.specs.Contained.{IsContainerOf}
use Rattle.c2_container.specs.declared.types.Container.{Container}
use Rattle.c2_build_base.specs.declared.media.OlderStore.{OlderStore}
use Rattle.c2_opening.specs.declared.types.Media.{Media}
use Rattle.c2_build_refusals.specs.Kinds.{Effects, ErrorKind, IsReadKind, WithoutFault, no_effects, kind_of, no_memory, older_refusal, other_refusal, refusal}
use Rattle.c2_build_refusals.specs.declared.error.BuildError.{BuildError}
use Rattle.c2_build_refusals.specs.declared.error.BuildError.TheVariants.{LabelClash, OtherRefused}
use Rattle.c2_build_collect_base.specs.Errors.{error_of}
use Rattle.c2_build_collect_base.specs.declared.joining.JoinedBoxes.{JoinedBoxes}
use Rattle.c2_build_collect_base.specs.declared.stores.Ours.{Ours}
use Rattle.c2_build_collect_base.specs.declared.stores.ReadStore.{ReadStore}

-- ---- errors

-- what is done besides reading the other file: it is collected
abbrev pub other_effects : Effects
other_effects = record no_effects { takes_other = true }

-- the kind of an error of a step that neither reads nor asks, but may refuse the other file
abbrev pub IsInnerKind : ErrorKind → Type 0
IsInnerKind refusal = ⊤
IsInnerKind older_refusal = ⊤
IsInnerKind other_refusal = ⊤
IsInnerKind no_memory = ⊤
IsInnerKind k = ⊥

-- the error of such a step
abbrev pub IsInner : BuildError → Type 0
IsInner e = IsInnerKind (kind_of e)

-- the cause of an error of a step that reads the other file, and asks no judge
abbrev pub IsOtherCause : ℕ → ℕ → BuildError → Type 0
IsOtherCause before now e = IsReadKind other_effects before now (kind_of e)

-- of these refusals the first has this error
abbrev pub IsFirstError : List CollectRefusal → BuildError → Type 0
IsFirstError refusals e = (first : CollectRefusal) × (others : List CollectRefusal) × (refusals ≡ first ∷ others) × (e ≡ error_of first)

-- these refusals were tested: there is none, or the first of them is told
abbrev pub AreTested : {T : Type 0} → List CollectRefusal → Result T BuildError → Type 0
AreTested refusals (Ok x) = refusals ≡ []
AreTested refusals (Err e) = WithoutFault e (IsFirstError refusals e)

-- a file is opened as one that is refused, or that has no store, and so its check answers this
abbrev pub IsUnopened : List ℕ → Answer → Type 0
IsUnopened file (answers.Refused reason number) = IsOpened file (refused reason number)
IsUnopened file answers.NoStore = IsOpened file absent
IsUnopened file a = ⊥

-- a file is refused as one that can't be opened or has no store
abbrev pub IsOpeningError : List ℕ → BuildError → Type 0
IsOpeningError file e = (a : Answer) × IsUnopened file a × (e ≡ OtherRefused a)

-- the check of a file answers this, and not that the file is valid, and so it is refused
abbrev pub IsOtherError : (Alg → List ℕ → List ℕ) → (Question → Verdict) → List ℕ → BuildError → Type 0
IsOtherError hash said file e =
    (a : Answer) × IsAnswer hash said file a × (other_refusals a ≡ other_refused a ∷ []) × (e ≡ OtherRefused a)

-- ---- stores

-- What was found of another file is its container, and its store.
pub record IsFoundThere (file : List ℕ) (m : Media) : Type 0 where
  pub container : IsContainerOf file m.container
  pub located : IsLocated file (here m.found.start m.found.length m.found.store)

-- This was read of another file in this container: it is opened as this store in this range.
pub record IsReadThere (file : List ℕ) (c : Container) (o : OlderStore) : Type 0 where
  pub container : IsContainerOf file c
  pub opened : IsOpened file (here o.range.start o.range.length o.tree)

-- A store's boxes and its chain are those of its tree.
pub record IsReadStore (s : ReadStore) : Type 0 where
  pub boxes : IsStoreOf s.older.now.tree s.older.now.store
  pub reads : AreReadings (manifests_of s.older.now.tree) s.chain.now.readings

-- where there is a store, its boxes and its chain are those of its tree
abbrev pub IsReadOrNone : Option ReadStore → Type 0
IsReadOrNone None = ⊤
IsReadOrNone (Some s) = IsReadStore s

-- the boxes of a store
abbrev pub boxes_of : ReadStore → Trees
boxes_of s = boxes_in s.older.now.tree

-- what its manifests are read as
abbrev pub readings_of : ReadStore → List Reading
readings_of s = s.chain.now.readings

-- the boxes of a store, or none where there is no store
abbrev pub old_boxes : Option ReadStore → Trees
old_boxes None = none
old_boxes (Some s) = boxes_of s

-- what the manifests of a store are read as; nothing without a store
abbrev pub old_readings : Option ReadStore → List Reading
old_readings None = []
old_readings (Some s) = readings_of s

-- The flags of a chain: of each of its manifests whether it is reached.
pub record AreFlags (rs : List Reading) (flags : List Bool) : Type 0 where
  pub count : length flags ≡ length rs
  pub are : flag_at flags ≡ is_reached rs

-- The flags of its first manifests.
pub record AreFirstFlags (rs : List Reading) (n : ℕ) (flags : List Bool) : Type 0 where
  pub count : length flags ≡ n
  pub are : (i : ℕ) → i < n → flag_at flags i ≡ is_reached rs i

-- ---- what is joined

-- Of two stores, of which the first may have no boxes, these are the joined boxes, each less what is redacted of it, and how many manifests
-- they are with a new one. The stores don't clash.
pub record AreJoined (redacts : List (List ℕ)) (old : Trees) (old_rs : List Reading) (other : Trees) (other_rs : List Reading) (j : JoinedBoxes) : Type 0 where
  pub boxes : j.boxes ≡ trees_bytes (redacted_boxes redacts (collected_boxes old other other_rs))
  pub count : j.manifests ≡ length (collected_readings old_rs other_rs) + 1
  pub apart : DoNotClash (supers_in old) (is_reached old_rs) (supers_in other) (is_reached other_rs)

-- two stores clash, and this error tells where they do first
abbrev pub IsClashError : Trees → List Reading → Trees → List Reading → BuildError → Type 0
IsClashError old old_rs other other_rs e =
    (label : List ℕ) × IsClashLabel (supers_in old) (is_reached old_rs) (supers_in other) (is_reached other_rs) label
    × (e ≡ LabelClash label)

-- this is the redaction of a definition that is refused first of the joined manifests, or none is
abbrev pub IsFirstRefusedOf : Definition → List Reading → List Reading → Option RefusedRedaction → Type 0
IsFirstRefusedOf d old_rs other_rs found = IsFirstRefusedOfBoth d.label old_rs other_rs d.redact found

-- what is refused of joined manifests, where these are reached: the new label, and a redaction
abbrev pub joined_tests : Definition → List Reading → (ℕ → Bool) → List CollectRefusal
joined_tests d rs is_in =
    label_refusals d.label rs
    ++ option_to_list (option_map redaction_refused (redaction_refusal_by is_in d.label rs d.redact))

-- ---- ingredients

-- References to the last of these manifests, by digests: they are those of something; where an ingredient may name the manifest, it is that.
pub record AreLastRefs (hash : List ℕ → List ℕ) (manifests : List Tree) (refs : ManifestRefs) : Type 0 where
  pub parent : NamedManifest
  pub are : AreRefs hash parent refs
  pub only : (p : NamedManifest) → IsParentOf p manifests → p ≡ parent

-- The assertion of an ingredient with this label and relationship, which is the last of these manifests, where an ingredient may name that.
pub record IsLastIngredient (hash : List ℕ → List ℕ) (manifests : List Tree) (label : List ℕ) (relationship : Relationship) (a : NewAssertion) : Type 0 where
  pub parent : NamedManifest
  pub is : a ≡ ingredient_assertion hash (record { label = label; relationship = relationship; of = parent })
  pub only : (p : NamedManifest) → IsParentOf p manifests → p ≡ parent

-- the manifests of a store less what is redacted of them
abbrev pub left_in : List (List ℕ) → Trees → List Tree
left_in redacts boxes = supers_in (redacted_boxes redacts boxes)

-- the boxes of the stores whose last manifests are ingredients
abbrev pub ingredient_stores : Option ReadStore → ReadStore → List Trees
ingredient_stores None s = boxes_of s ∷ []
ingredient_stores (Some old) s = boxes_of old ∷ boxes_of s ∷ []

-- The assertions of ingredients that name the last manifests of these stores, less what is redacted of them.
pub record NameLast (hash : List ℕ → List ℕ) (redacts : List (List ℕ)) (stores : List Trees) (assertions : List NewAssertion) : Type 0 where
  pub named : List NamedManifest
  pub are : assertions ≡ map (ingredient_assertion hash) (collected_ingredients named)
  pub only : (ps : List NamedManifest) → AllZip (λ (p : NamedManifest) (boxes : Trees). IsParentOf p (left_in redacts boxes)) ps stores → ps ≡ named

-- ---- both files

-- What was read of a media file is this to the new store: its boxes and readings, and what is left of the file; and it can be joined.
pub record IsOurs (hash : Alg → List ℕ → List ℕ) (file : List ℕ) (ours : Ours) (m : MediaFile) : Type 0 where
  pub boxes : m.boxes ≡ old_boxes ours.store
  pub readings : m.readings ≡ old_readings ours.store
  pub base : m.base ≡ cleared ours.clearing file
  pub rooted : IsRootedStore hash m.boxes m.readings (last_roots m.readings)

-- What was read of another file's store is this to the new store: its boxes and readings; and it can be joined, and has a manifest.
pub record IsTheirs (hash : Alg → List ℕ → List ℕ) (s : ReadStore) (o : OtherFile) : Type 0 where
  pub boxes : o.boxes ≡ boxes_of s
  pub readings : o.readings ≡ readings_of s
  pub rooted : IsRootedStore hash o.boxes o.readings (last_roots o.readings)
  pub some : 0 < length o.readings
