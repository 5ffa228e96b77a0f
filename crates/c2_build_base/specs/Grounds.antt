-- What was read of a media file, and what a new file is built over.
use Rattle.std.specs.Prelude.{◌≡◌, ℕ, ◌+◌, ⊤, false, List, [], ◌∷◌, ◌++◌, length}
use Rattle.std.specs.declared.option.Option.{Option}
use Rattle.std.specs.declared.option.Option.TheVariants.{Some, None}
use Rattle.std.specs.declared.result.Result.TheVariants.{Ok}
use Rattle.c2_base.specs.declared.values.Question.{Question}
use Rattle.c2_spec.specs.C2pa.Manifest.{IsStoreOf}
use Rattle.c2_spec.specs.Jumbf.Tree.{Tree}
use Rattle.c2_spec.specs.declared.digest.Alg.{Alg}
use Rattle.c2_spec.specs.declared.panel.Verdict.{Verdict}
use Rattle.c2_rules.specs.Readings.{Reading}
use Rattle.c2_rules.specs.Validated.{IsAnswer}
use Rattle.c2_rules.specs.declared.answer.Answer.TheVariants as Answer
use Rattle.c2_rules.specs.declared.answer.Failing.{Failing}
use Rattle.c2_rules.specs.declared.answer.Summary.{Summary}
use Rattle.c2_container.specs.Contained.{IsSaid, IsWithin}
use Rattle.c2_container.specs.declared.types.Contained.{Contained}
use Rattle.c2_definition.specs.declared.types.Definition.{Definition}
use Rattle.c2_definition.specs.declared.types.NewAssertion.{NewAssertion}
use Rattle.c2_layout.specs.Parts.{IsContent}
use Rattle.c2_new_file_spec.specs.Store.{Content, NamedManifest, ingredient_assertion, parent_ingredient}
use Rattle.c2_layout.specs.declared.carried.Carried.{Carried}
use Rattle.c2_new_file_spec.specs.Parents.{IsContentOver, IsParentOf}
use Rattle.c2_new_file_spec.specs.Refusing.{has_manifest, redaction_refusal}
use Rattle.c2_without_store.specs.Clears.{cleared}
use Rattle.c2_without_store.specs.declared.clearing.Clearing.{Clearing}
use Rattle.c2_new_file_spec.specs.Bases.{IsLeft}
use Rattle.c2_build_place.specs.PointsLeft.{clearing_for}
use Rattle.c2_build_refusals.specs.Kinds.{WithoutFault}
use Rattle.c2_build_refusals.specs.Stages.{IsMediaStage, KindAsks, MediaKind, fresh, stored}
use Rattle.c2_build_refusals.specs.Refusals.{Ground, first_refusal, label_tests, redaction_tests}
use Rattle.c2_build_refusals.specs.declared.error.BuildError.{BuildError}
use Rattle.c2_build_refusals.specs.declared.error.BuildError.TheVariants.{ParentFails}
use Rattle.c2_build_refusals.specs.declared.types.BuildBase.{BuildBase}
use Rattle.c2_build_base.specs.declared.media.MediaRead.{MediaRead}
use Rattle.c2_build_base.specs.declared.media.OlderStore.{OlderStore}

-- ---- the media

-- what was found of a media file is so
abbrev pub IsFoundIn : List ℕ → Contained → Type 0
IsFoundIn file m = IsSaid file (Ok m)

-- a store that was read, or none, is that of this kind of media file
abbrev pub IsOlder : Option OlderStore → MediaKind → Type 0
IsOlder None kind = kind ≡ fresh
IsOlder (Some o) kind = kind ≡ stored o.range.start o.range.length o.tree

-- what is left of a media file of this kind, once it is cleared so, is what is built over
abbrev pub IsClearedTo : List ℕ → MediaKind → Clearing → Type 0
IsClearedTo file fresh c = cleared c file ≡ file
IsClearedTo file (stored start len t) c = IsLeft file start len (cleared c file)

-- What was read of a media file is this kind.
pub record IsKind (file : List ℕ) (m : MediaRead) (kind : MediaKind) : Type 0 where
  pub stage : IsMediaStage file (Ok kind)
  pub found : IsFoundIn file m.contained.now
  pub older : IsOlder m.older kind
  pub clears : IsClearedTo file kind m.clearing

-- the boxes of a store's manifests are those of its tree
abbrev pub HasBoxes : Option OlderStore → Type 0
HasBoxes None = ⊤
HasBoxes (Some o) = IsStoreOf o.tree o.store

-- What was read of a media file of this length, whatever is known of its bytes: what was found lies inside it, it is cleared of that, and the
-- boxes of its manifests are those of its tree.
pub record IsReadIn (len : ℕ) (m : MediaRead) : Type 0 where
  pub within : IsWithin len m.contained.now
  pub clears : m.clearing ≡ clearing_for m.contained.now
  pub boxes : HasBoxes m.older

-- Where a panel says this, these questions are asked over a media file of which this was read, where its bytes are known.
pub record KindHears (hash : Alg → List ℕ → List ℕ) (known : Option (List ℕ)) (m : MediaRead)
    (said : Question → Verdict) (qs : List Question) : Type 0 where
  pub bytes : List ℕ
  pub is_known : known ≡ Some bytes
  pub kind : MediaKind
  pub is : IsKind bytes m kind
  pub asks : KindAsks hash said bytes kind qs

-- ---- the ground

-- this is the ground of a new file, as it is kept
pub record IsGround (hash : List ℕ → List ℕ) (media : List ℕ) (d : Definition) (k : BuildBase) (g : Ground) : Type 0 where
  pub base : g.base ≡ cleared k.clearing media
  pub content : IsContent hash d k.carried g.content
  pub manifests : g.manifests ≡ k.manifests

-- a ground over a media file that is cleared so, whatever is known of its bytes
pub record IsSomeGround (hash : List ℕ → List ℕ) (d : Definition) (clearing : Clearing) (k : BuildBase) : Type 0 where
  pub content : Content
  pub is : IsContent hash d k.carried content
  pub clears : k.clearing ≡ clearing

-- a file passed its check
abbrev pub IsChecked : (Alg → List ℕ → List ℕ) → (Question → Verdict) → List ℕ → Type 0
IsChecked hash said file = (s : Summary) × IsAnswer hash said file (Answer.Valid s)

-- the check of a file refuses it with this error
abbrev pub IsCheckRefusal : (Alg → List ℕ → List ℕ) → (Question → Verdict) → List ℕ → BuildError → Type 0
IsCheckRefusal hash said file e = (f : Failing) × IsAnswer hash said file (Answer.Failing f) × (e ≡ ParentFails f.code f.uri)

-- These are the ingredients of a new manifest whose only one is a parent, some manifest; where these manifests have a parent, it is that.
pub record AreOwnIngredients (hash : List ℕ → List ℕ) (manifests : List Tree) (items : List NewAssertion) : Type 0 where
  pub parent : NamedManifest
  pub are : items ≡ ingredient_assertion hash (parent_ingredient parent) ∷ []
  pub only : (p : NamedManifest) → IsParentOf p manifests → p ≡ parent

-- This is carried of an older store for a definition: it stands for a content, which is the content over that store, where there is
-- one.
pub record IsCarriedOver (hash : List ℕ → List ℕ) (d : Definition) (old : Tree) (k : Carried) : Type 0 where
  pub content : Content
  pub is : IsContent hash d k content
  pub only : (c : Content) → IsContentOver d old c → c ≡ content

-- the ground over an older store whose manifests were read as `rs`, of a media file that is cleared so
pub record IsOver (hash : List ℕ → List ℕ) (d : Definition) (old : Tree) (clearing : Clearing) (rs : List Reading) (k : BuildBase) : Type 0 where
  pub label : has_manifest rs d.label ≡ false
  pub redactions : redaction_refusal d.label rs d.redact ≡ None
  pub carried : IsCarriedOver hash d old k.carried
  pub clears : k.clearing ≡ clearing
  pub manifests : k.manifests ≡ length rs + 1

-- a definition is refused so over an older store whose manifests were read as `rs`
abbrev pub IsOverRefusal : Definition → List Reading → BuildError → Type 0
IsOverRefusal d rs e = WithoutFault e (first_refusal (label_tests d rs ++ redaction_tests d rs) ≡ Some e)
