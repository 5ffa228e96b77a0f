-- For private clauses: what the steps of a build come to whose new store collects from two files.
use Rattle.std.specs.Prelude.{◌≡◌, ◌⊎◌, ℕ, ◌+◌, List, ◌∷◌, [], IfOk, OnOk, length}
use Rattle.std.specs.declared.option.Option.{Option}
use Rattle.std.specs.declared.result.Result.{Result}
use Rattle.std.specs.declared.result.Result.TheVariants.{Ok, Err}
use Rattle.std.specs.Option.{ForSome}
use Rattle.c2_base.specs.declared.values.Question.{Question}
use Rattle.c2_spec.specs.Jumbf.Tree.{Tree}
use Rattle.c2_spec.specs.Located.{Opening}
use Rattle.c2_spec.specs.declared.digest.Alg.{Alg}
use Rattle.c2_spec.specs.declared.panel.Verdict.{Verdict}
use Rattle.c2_definition.specs.DefinitionFile.{IsWellFormed}
use Rattle.c2_definition.specs.declared.types.Definition.{Definition}
use Rattle.c2_new_file_spec.specs.Store.{new_alg}
use Rattle.c2_collect_spec.specs.Order.{CollectRefusal, pair_readings}
use Rattle.c2_collect_spec.specs.Outcomes.{CollectGround, IsCollectMade, IsGroundStage, IsPairStage, IsPutIn, NewFile, ground_refusals, new_file}
use Rattle.c2_container.specs.Contained.{IsWithin}
use Rattle.c2_container.specs.declared.types.Contained.{Contained}
use Rattle.c2_build_refusals.specs.Kinds.{WithoutFault}
use Rattle.c2_build_refusals.specs.Refusals.{Ground}
use Rattle.c2_build_refusals.specs.Stages.{HasTextsIn, IsDefinitionStage, MediaKind}
use Rattle.c2_build_refusals.specs.declared.error.BuildError.{BuildError}
use Rattle.c2_build_refusals.specs.declared.types.Drafted.{Drafted}
use Rattle.c2_build_base.specs.Grounds.{IsFoundIn, IsKind, IsReadIn}
use Rattle.c2_build_base.specs.declared.media.MediaRead.{MediaRead}
use Rattle.c2_build_in_place.specs.Numbers.{IsOfFile}
use Rattle.c2_build_in_place.specs.Writings.{CanWrite, ready_file}
use Rattle.c2_build_in_place.specs.declared.writing.Ready.{Ready}
use Rattle.c2_build_drafts.specs.Drafts.{FitsMedia, IsOver}
use Rattle.c2_build_drafts.specs.declared.ready.DraftedBuild.{DraftedBuild}
use Rattle.c2_build_collect_base.specs.Errors.{IsRefusedWith, error_of}
use Rattle.c2_build_collect_base.specs.Grounds.{IsOtherTold, IsParentRefused, opening_of}
use Rattle.c2_build_collect.specs.Answers.{ForEmbedInputs}
use Rattle.c2_build_collect.specs.declared.filling.FilledDraft.{FilledDraft}

-- ---- errors

-- of these refusals the first has this error
abbrev pub IsFirstError : List CollectRefusal → BuildError → Type 0
IsFirstError refusals e = (refusal : CollectRefusal) × (others : List CollectRefusal) × (refusals ≡ refusal ∷ others) × (e ≡ error_of refusal)

-- ---- the media

-- This was found of a media file of this length, whose bytes may be known.
pub record IsFileFound (len : ℕ) (known : Option (List ℕ)) (m : Contained) : Type 0 where
  pub inside : IsWithin len m
  pub found : ForSome known (λ bytes. IsFoundIn bytes m)

-- what was read of a media file whose bytes may be known is of some kind
abbrev pub IsOfSomeKind : Option (List ℕ) → MediaRead → Type 0
IsOfSomeKind known m = ForSome known (λ bytes. (kind : MediaKind) × IsKind bytes m kind)

-- What was read of a media file of this length, and a definition that is well formed.
pub record IsBuildRead (len : ℕ) (m : MediaRead) (d : Definition) : Type 0 where
  pub read : IsReadIn len m
  pub formed : IsWellFormed d

-- This is what a definition file is whose bytes may be known, and so its texts are texts.
pub record IsDefinitionOf (known : Option (List ℕ)) (d : Definition) : Type 0 where
  pub stage : ForSome known (λ bytes. IsDefinitionStage bytes (Ok d))
  pub texts : ForSome known HasTextsIn

-- What holds over the bytes of a media file of which this was read, over what it is opened as, and over the bytes of the other file, where those are
-- known that are due.
abbrev pub ForFiles : (Alg → List ℕ → List ℕ) → (Question → Verdict) → Option (List ℕ) → Option (List ℕ) → MediaRead
    → (List ℕ → Opening Tree → List ℕ → Type 0) → Type 0
ForFiles hash said media other m Holds =
    ForSome media (λ bytes. (kind : MediaKind) → IsKind bytes m kind → (others : List ℕ)
    → IsOtherTold hash said bytes (opening_of kind) other others → Holds bytes (opening_of kind) others)

-- The other file is left as it was where a rule fails of the store of a media file of which this was read.
abbrev pub LeavesOther : {O : Type 0} → (Alg → List ℕ → List ℕ) → (Question → Verdict) → Option (List ℕ) → MediaRead → O → O → Type 0
LeavesOther hash said media m o o' =
    ForSome media (λ bytes. (kind : MediaKind) → IsKind bytes m kind → IsParentRefused hash said bytes (opening_of kind) → o' ≡ o)

-- ---- what is drafted

-- Nothing is refused of a new file over this, whose store collects from these two files, where the media is opened so.
pub record IsPassed (hash : Alg → List ℕ → List ℕ) (said : Question → Verdict) (media other : List ℕ) (what : Opening Tree) (d : Definition) (g : CollectGround) : Type 0 where
  pub pair : IsPairStage hash said media other what d (Ok g.pair)
  pub stage : IsGroundStage d g.pair (Ok g)
  pub unrefused : ground_refusals d g ≡ []

-- what a new file is built of, as what it is built over
abbrev pub ground_of : CollectGround → Ground
ground_of g = record { base = g.pair.media.base; content = g.content; manifests = length (pair_readings g.pair) + 1 }

-- What was drafted over two files, where the media is opened so: nothing is refused.
pub record IsDrafted (hash : Alg → List ℕ → List ℕ) (said : Question → Verdict) (media other : List ℕ) (what : Opening Tree) (d : Definition) (w : Drafted) : Type 0 where
  pub ground : CollectGround
  pub passed : IsPassed hash said media other what d ground
  pub over : IsOver (hash (new_alg d)) media d w (ground_of ground) ground.place

-- what is refused first of two files, or of a new file over them, has this error
abbrev pub IsRefusedDraft : (Alg → List ℕ → List ℕ) → (Question → Verdict) → List ℕ → List ℕ → Opening Tree → Definition → BuildError → Type 0
IsRefusedDraft hash said media other what d e =
    IsRefusedWith (IsPairStage hash said media other what d) e
    ⊎ ((g : CollectGround) × IsPairStage hash said media other what d (Ok g.pair) × IsGroundStage d g.pair (Ok g) × IsFirstError (ground_refusals d g) e)

-- what is drafted over two files, or what is refused, where a file is the definition
abbrev pub IsDraftOf : (Alg → List ℕ → List ℕ) → (Question → Verdict) → List ℕ → List ℕ → Opening Tree → Definition → Result Drafted BuildError → Type 0
IsDraftOf hash said media other what d (Ok w) = IsDrafted hash said media other what d w
IsDraftOf hash said media other what d (Err e) = IsOfFile d → WithoutFault e (IsRefusedDraft hash said media other what d e)

-- ---- what is drafted with a message

-- what is to be built of a definition with a message, or what is refused
abbrev pub build_of : Definition → Result FilledDraft BuildError → Result DraftedBuild BuildError
build_of d (Ok f) = Ok (record { definition = d; drafted = f.drafted; message = f.message })
build_of d (Err e) = Err e

-- What was drafted over this media file makes a new file that these inputs come to, whatever is put in of its store.
pub record MakesFile (hash : Alg → List ℕ → List ℕ) (media : List ℕ) (Is : Result NewFile CollectRefusal → Type 0) (b : DraftedBuild) : Type 0 where
  pub ground : CollectGround
  pub over : IsOver (hash (new_alg b.definition)) media b.definition b.drafted (ground_of ground) ground.place
  pub made : (bytes : List ℕ) → IsPutIn hash b.definition ground b.message bytes → Is (Ok (new_file ground (length b.message) bytes))

-- over inputs that come to something a new file that they come to was drafted over this media file, or the error is that of what is refused first
abbrev pub IsBuildFor : (Alg → List ℕ → List ℕ) → List ℕ → (Result NewFile CollectRefusal → Type 0) → Result DraftedBuild BuildError → Type 0
IsBuildFor hash media Is (Ok b) = MakesFile hash media Is b
IsBuildFor hash media Is (Err e) = WithoutFault e (IsRefusedWith Is e)

-- What was drafted over a media file of this length, of a definition file, of a message file and of another file: over known bytes a new file that they
-- come to, and that the texts of the definition are texts; and over all files what fits the media.
pub record IsBuildDrafted (hash : Alg → List ℕ → List ℕ) (said : Question → Verdict) (media definition message other : Option (List ℕ)) (len : ℕ) (result : Result DraftedBuild BuildError) : Type 0 where
  pub build : ForEmbedInputs hash said media definition message other (λ file bytes signed others. IsBuildFor hash file (IsCollectMade hash said file bytes signed others) result)
  pub texts : ForSome definition (λ bytes. OnOk result (HasTextsIn bytes))
  pub fits : IfOk result (FitsMedia hash len)

-- ---- what is ready to be written

-- A new file is ready to be written over this media file.
pub record IsReady (media : List ℕ) (r : Ready) (b : NewFile) : Type 0 where
  pub file : b.file ≡ ready_file r media
  pub start : b.start ≡ r.draft.start
  pub len : b.len ≡ r.draft.length

-- over inputs that come to something a new file is ready to be written over this media file, or the error is that of what is refused first
abbrev pub IsReadyFor : List ℕ → (Result NewFile CollectRefusal → Type 0) → Result Ready BuildError → Type 0
IsReadyFor media Is (Ok r) = (b : NewFile) × Is (Ok b) × IsReady media r b
IsReadyFor media Is (Err e) = WithoutFault e (IsRefusedWith Is e)

-- What was prepared of a media file of this length, of a definition file, of a message file and of another file: over known bytes what they come to,
-- ready to be written, and that the texts of the definition are texts; and of all files that the new file can be written.
pub record IsPrepared (hash : Alg → List ℕ → List ℕ) (said : Question → Verdict) (media definition message other : Option (List ℕ)) (len : ℕ) (result : Result Ready BuildError) : Type 0 where
  pub ready : ForEmbedInputs hash said media definition message other (λ file bytes signed others. IsReadyFor file (IsCollectMade hash said file bytes signed others) result)
  pub texts : ForSome definition (λ bytes. OnOk result (HasTextsIn bytes))
  pub can_write : IfOk result (CanWrite len)
