-- What `plan_collect` and `embed_collect` promise of their answers and of what they leave.
use Rattle.std.specs.Prelude.{◌≡◌, ◌⊎◌, ℕ, ⊤, Bool, true, List, []}
use Rattle.std.specs.declared.option.Option.{Option}
use Rattle.std.specs.declared.option.Option.TheVariants.{Some}
use Rattle.std.specs.declared.result.Result.{Result}
use Rattle.std.specs.declared.result.Result.TheVariants.{Ok, Err}
use Rattle.std.specs.Option.{ForSome}
use Rattle.c2_base.specs.Source.{IsKnownWhereDue}
use Rattle.c2_base.specs.declared.values.Question.{Question}
use Rattle.c2_copying.specs.Writing.{WritesFile}
use Rattle.c2_spec.specs.Located.{Opening}
use Rattle.c2_spec.specs.Jumbf.Tree.{Tree}
use Rattle.c2_spec.specs.declared.digest.Alg.{Alg}
use Rattle.c2_spec.specs.declared.panel.Verdict.{Verdict}
use Rattle.c2_rules.specs.Opened.{IsOpened}
use Rattle.c2_collect_spec.specs.Made.{CollectedMeets}
use Rattle.c2_collect_spec.specs.Order.{CollectRefusal}
use Rattle.c2_collect_spec.specs.Outcomes.{CollectAsks, CollectPlanAsks, IsCollectMade, NewFile}
use Rattle.c2_build_refusals.specs.Kinds.{Effects, IsSourceCause, WithoutFault, kind_of}
use Rattle.c2_build_refusals.specs.Stages.{IsDefinitionRefused, IsDefinitionTold, IsMediaRefused, IsMessageRefused, IsMessageTold, IsToldOf, IsToldRefused, LeavesUndue}
use Rattle.c2_build_refusals.specs.declared.error.BuildError.{BuildError}
use Rattle.c2_build_refusals.specs.declared.types.Embedded.{Embedded}
use Rattle.c2_build_endings.specs.Endings.{build_ending}
use Rattle.c2_build_endings.specs.Sources.{FaultsRose, IsRead, SourceUse}
use Rattle.c2_build_collect_base.specs.Errors.{IsRefusedWith}
use Rattle.c2_build_collect_base.specs.Grounds.{IsParentRefused, ground_effects}

-- ---- the inputs that are due

-- a media file isn't accepted, where judges say this: it is refused, or a rule fails of its store
abbrev pub IsNotAccepted : (Alg → List ℕ → List ℕ) → (Question → Verdict) → List ℕ → Type 0
IsNotAccepted hash said media = IsMediaRefused media ⊎ ((what : Opening Tree) × IsOpened media what × IsParentRefused hash said media what)

-- these are the bytes of the other file, which isn't due where the media isn't accepted, nor where this holds
abbrev pub IsOtherDue : (Alg → List ℕ → List ℕ) → (Question → Verdict) → List ℕ → Type 0 → Option (List ℕ) → List ℕ → Type 0
IsOtherDue hash said media NotDue known bytes = IsKnownWhereDue known (IsNotAccepted hash said media ⊎ NotDue) bytes

-- what holds over the bytes of the media file, of the definition file and of the other file, where those are known that are due
abbrev pub ForPlanInputs : (Alg → List ℕ → List ℕ) → (Question → Verdict) → Option (List ℕ) → Option (List ℕ) → Option (List ℕ)
    → (List ℕ → List ℕ → List ℕ → Type 0) → Type 0
ForPlanInputs hash said media definition other Holds =
    ForSome media (λ file. (bytes : List ℕ) → IsDefinitionTold file definition bytes
    → (others : List ℕ) → IsOtherDue hash said file (IsDefinitionRefused bytes) other others
    → Holds file bytes others)

-- what holds over these and the bytes of the message, before those of the other file
abbrev pub ForEmbedInputs : (Alg → List ℕ → List ℕ) → (Question → Verdict) → Option (List ℕ) → Option (List ℕ) → Option (List ℕ) → Option (List ℕ)
    → (List ℕ → List ℕ → List ℕ → List ℕ → Type 0) → Type 0
ForEmbedInputs hash said media definition message other Holds =
    ForSome media (λ file. (bytes : List ℕ) → IsDefinitionTold file definition bytes
    → (signed : List ℕ) → IsMessageTold file bytes message signed
    → (others : List ℕ) → IsOtherDue hash said file (IsDefinitionRefused bytes ⊎ IsMessageRefused bytes signed) other others
    → Holds file bytes signed others)

-- What isn't due of a plan is left as it was: the definition file where the media is refused, and the other file where the media isn't
-- accepted, or the definition is refused.
pub record LeavesPlanUndue {D O : Type 0} (hash : Alg → List ℕ → List ℕ) (said : Question → Verdict) (media definition : Option (List ℕ))
    (d d' : D) (o o' : O) : Type 0 where
  pub definition_unread : ForSome media (λ file. IsMediaRefused file → d' ≡ d)
  pub other_unread_first : ForSome media (λ file. IsNotAccepted hash said file → o' ≡ o)
  pub other_unread : ForSome definition (λ bytes. IsDefinitionRefused bytes → o' ≡ o)

-- What isn't due of a build is left as it was: of the definition file and of the message what `LeavesUndue` says; and the other file where the
-- media isn't accepted, or the definition or the message is refused.
pub record LeavesBuildUndue {D M O : Type 0} (hash : Alg → List ℕ → List ℕ) (said : Question → Verdict) (media definition message : Option (List ℕ))
    (d d' : D) (m m' : M) (o o' : O) : Type 0 where
  pub inputs : LeavesUndue media definition d d' m m'
  pub other_unread_first : ForSome media (λ file. IsNotAccepted hash said file → o' ≡ o)
  pub other_unread_then : ForSome definition (λ bytes. IsDefinitionRefused bytes → o' ≡ o)
  pub other_unread : IsToldRefused definition message → o' ≡ o

-- ---- causes

-- what is done before the new file is written: what `ground_effects` says, and a signed message is looked at
abbrev pub prepare_effects : Effects
prepare_effects = record ground_effects { reads_message = true }

-- what `embed_collect` does besides reading its sources
abbrev pub embed_effects : Effects
embed_effects = record prepare_effects { writes_file = true }

-- The cause of an error of what is done before the new file is written, by one source, where this tells that another one failed.
abbrev pub IsPrepareCause : Type 0 → ℕ → ℕ → BuildError → Type 0
IsPrepareCause Other before now e = IsSourceCause prepare_effects Other before now (kind_of e)

-- The cause of an error of `embed_collect`, by one source, where this tells that another one failed.
abbrev pub IsEmbedCause : Type 0 → ℕ → ℕ → BuildError → Type 0
IsEmbedCause Other before now e = IsSourceCause embed_effects Other before now (kind_of e)

-- ---- judges

-- `plan_collect` asks these questions over the bytes that are known of its sources, where they are due.
pub record AsksPlan (hash : Alg → List ℕ → List ℕ) (media definition other : Option (List ℕ))
    (said : Question → Verdict) (qs : List Question) : Type 0 where
  pub file : List ℕ
  pub is_file : media ≡ Some file
  pub bytes : List ℕ
  pub is_bytes : IsDefinitionTold file definition bytes
  pub others : List ℕ
  pub is_others : IsOtherDue hash said file (IsDefinitionRefused bytes) other others
  pub asks : CollectPlanAsks hash said file bytes others qs

-- the bytes of the media file or of the definition file tell that it is refused
abbrev pub IsEitherRefused : Option (List ℕ) → Option (List ℕ) → Type 0
IsEitherRefused media definition = IsToldOf media IsMediaRefused ⊎ IsToldOf definition IsDefinitionRefused

-- Where a panel says this, `plan_collect` asks these questions; and none where the bytes of one source alone tell that nothing is asked.
abbrev pub AsksPlanned : (Alg → List ℕ → List ℕ) → Option (List ℕ) → Option (List ℕ) → Option (List ℕ) → (Question → Verdict) → List Question → Type 0
AsksPlanned hash media definition other said qs =
    AsksPlan hash media definition other said qs ⊎ ((qs ≡ []) × IsEitherRefused media definition)

-- `embed_collect` asks these questions over the bytes that are known of its sources, where they are due.
pub record AsksEmbed (hash : Alg → List ℕ → List ℕ) (media definition message other : Option (List ℕ))
    (said : Question → Verdict) (qs : List Question) : Type 0 where
  pub file : List ℕ
  pub is_file : media ≡ Some file
  pub bytes : List ℕ
  pub is_bytes : IsDefinitionTold file definition bytes
  pub signed : List ℕ
  pub is_signed : IsMessageTold file bytes message signed
  pub others : List ℕ
  pub is_others : IsOtherDue hash said file (IsDefinitionRefused bytes ⊎ IsMessageRefused bytes signed) other others
  pub asks : CollectAsks hash said file bytes signed others qs

-- Where a panel says this, `embed_collect` asks these questions; and none where the bytes of one source alone, or those of the definition file
-- and of the message, tell that nothing is asked.
abbrev pub AsksEmbedded : (Alg → List ℕ → List ℕ) → Option (List ℕ) → Option (List ℕ) → Option (List ℕ) → Option (List ℕ) → (Question → Verdict) → List Question → Type 0
AsksEmbedded hash media definition message other said qs =
    AsksEmbed hash media definition message other said qs
    ⊎ ((qs ≡ []) × (IsEitherRefused media definition ⊎ IsToldRefused definition message))

-- ---- what is left of the sources

-- What `plan_collect` leaves of its sources. Each error has its cause by each of them: by its own count of faults, and by whether that of another one
-- rose.
pub record ReadsPlannedPair {A B D T E : Type 0} (IsCause : Type 0 → ℕ → ℕ → E → Type 0) (a : SourceUse A) (b : SourceUse B) (d : SourceUse D) (result : Result T E) : Type 0 where
  -- the media file
  pub media : IsRead (IsCause (FaultsRose b ⊎ FaultsRose d)) a result
  -- the definition file
  pub definition : IsRead (IsCause (FaultsRose a ⊎ FaultsRose d)) b result
  -- the other media file
  pub other : IsRead (IsCause (FaultsRose a ⊎ FaultsRose b)) d result

-- What `embed_collect` leaves of its sources. Each error has its cause by each of them: by its own count of faults, and by whether that of another one
-- rose.
pub record ReadsSignedPair {A B C D T E : Type 0} (IsCause : Type 0 → ℕ → ℕ → E → Type 0) (a : SourceUse A) (b : SourceUse B) (c : SourceUse C) (d : SourceUse D) (result : Result T E) : Type 0 where
  -- the media file
  pub media : IsRead (IsCause (FaultsRose b ⊎ (FaultsRose c ⊎ FaultsRose d))) a result
  -- the definition file
  pub definition : IsRead (IsCause (FaultsRose a ⊎ (FaultsRose c ⊎ FaultsRose d))) b result
  -- the signed message
  pub message : IsRead (IsCause (FaultsRose a ⊎ (FaultsRose b ⊎ FaultsRose d))) c result
  -- the other media file
  pub other : IsRead (IsCause (FaultsRose a ⊎ (FaultsRose b ⊎ FaultsRose c))) d result

-- ---- the new file

-- the range that is answered is that of a new file
pub record HasRange (b : NewFile) (e : Embedded) : Type 0 where
  pub start : e.start ≡ b.start
  pub length : e.length ≡ b.len

-- over inputs that come to something `embed_collect` answers that: the range of the new file, or the error of what is refused first
abbrev pub IsRangeOf : (Result NewFile CollectRefusal → Type 0) → Result Embedded BuildError → Type 0
IsRangeOf Is (Ok e) = (b : NewFile) × Is (Ok b) × HasRange b e
IsRangeOf Is (Err e) = WithoutFault e (IsRefusedWith Is e)

-- the bytes that are written where the inputs come to this: those of the new file, or none
abbrev pub file_of : Result NewFile CollectRefusal → List ℕ
file_of (Ok b) = b.file
file_of (Err refusal) = []

-- these bytes are written where the inputs come to something
abbrev pub Writes : (Result NewFile CollectRefusal → Type 0) → List ℕ → Type 0
Writes Is bytes = (r : Result NewFile CollectRefusal) × Is r × (bytes ≡ file_of r)

-- the new file that is answered meets what `CollectedMeets` says: its new store collects from both files, each rule but that on its message's
-- verdict holds of it, its first question is over the bytes that `plan_collect` gives, and each other one is one that the media file or the
-- other file asks, and the judges of the build approve
abbrev pub IsCollectMet : (Alg → List ℕ → List ℕ) → (Question → Verdict) → List ℕ → List ℕ → List ℕ → List ℕ → Result Embedded BuildError → Type 0
IsCollectMet hash said media definition message other (Ok e) =
    (b : NewFile) → IsCollectMade hash said media definition message other (Ok b) → CollectedMeets hash said media definition message other b
IsCollectMet hash said media definition message other (Err e) = ⊤

-- What `embed_collect` does over known inputs, of a sink before and after: it answers what they come to, the range of the new file or what is
-- refused first; it writes the new file, a prefix of it where a source or the sink fails, and nothing where they are refused; within a stated spare
-- that holds this the sink doesn't fail; and the new file meets every rule but that on its own message's verdict.
pub record EmbedsCollected {K : Type 0} (written : K → Option (List ℕ)) (spare : K → Option ℕ) (finished : K → Bool)
    (hash : Alg → List ℕ → List ℕ) (said : Question → Verdict) (media definition message other : List ℕ) (old new : K)
    (result : Result Embedded BuildError) : Type 0 where
  pub answered : IsRangeOf (IsCollectMade hash said media definition message other) result
  pub wrote : WritesFile written spare finished (Writes (IsCollectMade hash said media definition message other)) old new (build_ending result)
  pub meets : IsCollectMet hash said media definition message other result
