-- For private clauses: what the steps of a build come to.
use Rattle.std.specs.Prelude.{◌≡◌, ◌⊎◌, ℕ, IfOk, OnOk, List}
use Rattle.std.specs.declared.option.Option.{Option}
use Rattle.std.specs.declared.option.Option.TheVariants.{Some, None}
use Rattle.std.specs.declared.result.Result.{Result}
use Rattle.std.specs.declared.result.Result.TheVariants.{Ok, Err}
use Rattle.std.specs.Option.{ForSome}
use Rattle.c2_lemmas.specs.Stages.{Then}
use Rattle.c2_base.specs.declared.values.Question.{Question}
use Rattle.c2_spec.specs.Jumbf.Tree.{tree_bytes}
use Rattle.c2_spec.specs.declared.digest.Alg.{Alg}
use Rattle.c2_spec.specs.declared.panel.Verdict.{Verdict}
use Rattle.c2_definition.specs.declared.types.Definition.{Definition}
use Rattle.c2_new_file_spec.specs.Store.{new_alg}
use Rattle.c2_new_file_spec.specs.Places.{Place, place_store, put_bytes}
use Rattle.c2_build_refusals.specs.Kinds.{ComesAs, IsSourceCause, WithoutFault, kind_of}
use Rattle.c2_build_refusals.specs.Refusals.{Ground, first_refusal, ground_tests}
use Rattle.c2_build_refusals.specs.Stages.{HasTextsIn, IsDefinitionStage, IsDefinitionTold, IsGroundStage, IsMessageStage, IsMessageTold, IsPlaceStage, MediaKind}
use Rattle.c2_build_refusals.specs.declared.error.BuildError.{BuildError}
use Rattle.c2_build_refusals.specs.declared.types.Drafted.{Drafted}
use Rattle.c2_build_drafts.specs.Drafts.{FitsMedia, IsOver}
use Rattle.c2_build_drafts.specs.declared.ready.DraftedBuild.{DraftedBuild}
use Rattle.c2_build_plain.specs.Answers.{AsksEmbedded, prepare_effects}
use Rattle.c2_build_plain.specs.Building.{Built, IsEmbedded, IsEmbeddedOver, built_of}
use Rattle.c2_build_plain.specs.declared.ready.MessageDraft.{MessageDraft}
use Rattle.c2_build_in_place.specs.Writings.{CanWrite, ready_file}
use Rattle.c2_build_in_place.specs.declared.writing.Ready.{Ready}

-- ---- causes

-- the cause of an error of a step that reads one source, before a new file is written
abbrev pub IsReadyCause : ℕ → ℕ → BuildError → Type 0
IsReadyCause before now e = IsSourceCause prepare_effects ⊥ before now (kind_of e)

-- the cause of an error of all that is done before a new file is written, by one source, where this tells that another one failed
abbrev pub IsPrepareCause : Type 0 → ℕ → ℕ → BuildError → Type 0
IsPrepareCause Other before now e = IsSourceCause prepare_effects Other before now (kind_of e)

-- ---- the place

-- a ground with a place where no test fails that a message isn't needed for
pub record IsPassed (hash : Alg → List ℕ → List ℕ) (said : Question → Verdict) (media : List ℕ) (d : Definition) (kind : MediaKind) (g : Ground) (p : Place) : Type 0 where
  pub ground : IsGroundStage hash said media d kind (Ok g)
  pub stage : IsPlaceStage g.base (Ok p)
  pub numbers : first_refusal (ground_tests g p) ≡ None

-- this is the first of these tests that fails: of those before the place, or of those at it
abbrev pub IsRefusedPlace : (Alg → List ℕ → List ℕ) → (Question → Verdict) → List ℕ → Definition → MediaKind → BuildError → Type 0
IsRefusedPlace hash said media d kind e =
    IsGroundStage hash said media d kind (Err e)
    ⊎ ((g : Ground) × IsGroundStage hash said media d kind (Ok g)
    × ((p : Place) × IsPlaceStage g.base (Ok p) × (first_refusal (ground_tests g p) ≡ Some e)))

-- what was drafted over a media file of this kind
pub record IsDrafted (hash : Alg → List ℕ → List ℕ) (said : Question → Verdict) (media : List ℕ) (d : Definition) (kind : MediaKind) (w : Drafted) : Type 0 where
  pub ground : Ground
  pub place : Place
  pub passed : IsPassed hash said media d kind ground place
  pub over : IsOver (hash (new_alg d)) media d w ground place

-- ---- what is ready to be written

-- a file is ready to be written
pub record IsReady (media : List ℕ) (r : Ready) (b : Built) : Type 0 where
  pub file : b.file ≡ ready_file r media
  pub start : b.start ≡ r.draft.start
  pub len : b.len ≡ r.draft.length

-- what is put in of the new store of what was drafted so
abbrev pub IsPutOf : (Alg → List ℕ → List ℕ) → DraftedBuild → Ground → Place → List ℕ → Type 0
IsPutOf hash b g p bytes = put_bytes p (tree_bytes (place_store (hash (new_alg b.definition)) g.content b.message g.base p)) ≡ Some bytes

-- What was drafted over this media file makes a new file that these inputs come to, whatever is put in of its store.
pub record MakesFile (hash : Alg → List ℕ → List ℕ) (media : List ℕ) (Is : Result Built BuildError → Type 0) (b : DraftedBuild) : Type 0 where
  pub ground : Ground
  pub place : Place
  pub over : IsOver (hash (new_alg b.definition)) media b.definition b.drafted ground place
  pub made : (bytes : List ℕ) → IsPutOf hash b ground place bytes → Is (Ok (built_of ground place bytes))

-- over inputs that come to something a new file that they come to was drafted over this media file, or the error is what they come to
abbrev pub IsBuildFor : (Alg → List ℕ → List ℕ) → List ℕ → (Result Built BuildError → Type 0) → Result DraftedBuild BuildError → Type 0
IsBuildFor hash media Is (Ok b) = MakesFile hash media Is b
IsBuildFor hash media Is (Err e) = WithoutFault e (Is (Err e))

-- what is to be built of a definition, for which this was drafted, with a message
abbrev pub build_of : Definition → MessageDraft → DraftedBuild
build_of d m = record { definition = d; drafted = m.drafted; message = m.message }

-- over inputs that come to something a new file that they come to was drafted over this media file for a definition, or the error is what they
-- come to
abbrev pub IsDraftFor : (Alg → List ℕ → List ℕ) → List ℕ → Definition → (Result Built BuildError → Type 0) → Result MessageDraft BuildError → Type 0
IsDraftFor hash media d Is (Ok m) = MakesFile hash media Is (build_of d m)
IsDraftFor hash media d Is (Err e) = WithoutFault e (Is (Err e))

-- what `embed` comes to over a media file of this kind, with a definition that was read and this file of a signed message
abbrev pub IsEmbeddedSigned : (Alg → List ℕ → List ℕ) → (Question → Verdict) → List ℕ → MediaKind → Definition → List ℕ → Result Built BuildError → Type 0
IsEmbeddedSigned hash said media kind d message =
    Then (IsMessageStage d.protected message) (IsEmbeddedOver hash said media kind d)

-- `embed` asks these questions over the bytes that are known of the media and of the message, with a definition that was read: those that it
-- asks over each definition file that comes to this.
pub record AsksWith (hash : Alg → List ℕ → List ℕ) (media : Option (List ℕ)) (d : Definition) (message : Option (List ℕ))
    (said : Question → Verdict) (qs : List Question) : Type 0 where
  pub definition : Option (List ℕ)
  pub is : ForSome definition (λ bytes. IsDefinitionStage bytes (Ok d))
  pub asks : AsksEmbedded hash media definition message said qs

-- What was drafted over a media file of this length, of a definition file and of a message file: over known bytes a new file that they come to,
-- and that the texts of the definition are texts; and over all files what fits the media.
pub record IsBuildDrafted (hash : Alg → List ℕ → List ℕ) (said : Question → Verdict) (media definition message : Option (List ℕ)) (len : ℕ) (result : Result DraftedBuild BuildError) : Type 0 where
  pub build : ForSome media (λ file. (bytes : List ℕ) → IsDefinitionTold file definition bytes → (signed : List ℕ)
      → IsMessageTold file bytes message signed → IsBuildFor hash file (IsEmbedded hash said file bytes signed) result)
  pub texts : ForSome definition (λ bytes. OnOk result (HasTextsIn bytes))
  pub fits : IfOk result (FitsMedia hash len)

-- What was prepared of a media file of this length, of a definition file and of a message file: over known bytes what they come to, ready to
-- be written, and that the texts of the definition are texts; and of all files that the new file can be written.
pub record IsPrepared (hash : Alg → List ℕ → List ℕ) (said : Question → Verdict) (media definition message : Option (List ℕ)) (len : ℕ) (result : Result Ready BuildError) : Type 0 where
  pub ready : ForSome media (λ file. (bytes : List ℕ) → IsDefinitionTold file definition bytes → (signed : List ℕ)
      → IsMessageTold file bytes message signed → ComesAs (IsReady file) (IsEmbedded hash said file bytes signed) result)
  pub texts : ForSome definition (λ bytes. OnOk result (HasTextsIn bytes))
  pub can_write : IfOk result (CanWrite len)
