-- What `plan_front` and `embed_front` promise of their answers and of what they leave.
use Rattle.std.specs.Prelude.{◌≡◌, ℕ, ⊤, Bool, true, List, []}
use Rattle.std.specs.declared.option.Option.{Option}
use Rattle.std.specs.declared.result.Result.{Result}
use Rattle.std.specs.declared.result.Result.TheVariants.{Ok, Err}
use Rattle.c2_copying.specs.Writing.{WritesFile}
use Rattle.c2_spec.specs.declared.digest.Alg.{Alg}
use Rattle.c2_new_front_spec.specs.Made.{FrontMeets}
use Rattle.c2_new_front_spec.specs.Order.{FrontRefusal}
use Rattle.c2_new_front_spec.specs.Outcomes.{IsFrontMade, NewFile}
use Rattle.c2_build_refusals.specs.Kinds.{Effects, IsSourceCause, WithoutFault, kind_of, no_effects}
use Rattle.c2_build_refusals.specs.declared.error.BuildError.{BuildError}
use Rattle.c2_build_refusals.specs.declared.types.Embedded.{Embedded}
use Rattle.c2_build_endings.specs.Endings.{build_ending}
use Rattle.c2_build_front.specs.Errors.{IsRefusedWith, error_of}

-- ---- causes

-- what `plan_front` does besides reading the media and the definition
abbrev pub plan_effects : Effects
plan_effects = record no_effects { moves_tables = true }

-- what is done before the new file is written
abbrev pub prepare_effects : Effects
prepare_effects = record no_effects { reads_message = true; moves_tables = true }

-- what `embed_front` does
abbrev pub embed_effects : Effects
embed_effects = record no_effects { reads_message = true; writes_file = true; moves_tables = true }

-- The cause of an error of `plan_front`, by one source, where this tells that the other one failed.
abbrev pub IsPlanCause : Type 0 → ℕ → ℕ → BuildError → Type 0
IsPlanCause Other before now e = IsSourceCause plan_effects Other before now (kind_of e)

-- The cause of an error of what is done before the new file is written, by one source, where this tells that another one failed.
abbrev pub IsPrepareCause : Type 0 → ℕ → ℕ → BuildError → Type 0
IsPrepareCause Other before now e = IsSourceCause prepare_effects Other before now (kind_of e)

-- The cause of an error of `embed_front`, by one source, where this tells that another one failed.
abbrev pub IsEmbedCause : Type 0 → ℕ → ℕ → BuildError → Type 0
IsEmbedCause Other before now e = IsSourceCause embed_effects Other before now (kind_of e)

-- What comes as an error of a build in front of a BMFF file is the error of a refusal, unless it says nothing of the inputs: nothing comes that
-- needs an older store, a JPEG file or another file.
abbrev pub ErrorsAreOfRefusals : Type 0
ErrorsAreOfRefusals = (before now : ℕ) (e : BuildError) → IsEmbedCause ⊤ before now e → WithoutFault e ((refusal : FrontRefusal) × (e ≡ error_of refusal))

-- ---- the new file

-- the range that is answered is that of a new file
pub record HasRange (b : NewFile) (e : Embedded) : Type 0 where
  pub start : e.start ≡ b.start
  pub length : e.length ≡ b.len

-- over inputs that come to something `embed_front` answers that: the range of the new file, or the error of what is refused first
abbrev pub IsRangeOf : (Result NewFile FrontRefusal → Type 0) → Result Embedded BuildError → Type 0
IsRangeOf Is (Ok e) = (b : NewFile) × Is (Ok b) × HasRange b e
IsRangeOf Is (Err e) = WithoutFault e (IsRefusedWith Is e)

-- the bytes that are written where the inputs come to this: those of the new file, or none
abbrev pub file_of : Result NewFile FrontRefusal → List ℕ
file_of (Ok b) = b.file
file_of (Err refusal) = []

-- these bytes are written where the inputs come to something
abbrev pub Writes : (Result NewFile FrontRefusal → Type 0) → List ℕ → Type 0
Writes Is bytes = (r : Result NewFile FrontRefusal) × Is r × (bytes ≡ file_of r)

-- the new file that is answered meets this: it is the media with its chunk offsets moved and the new store right after its first root box, each
-- rule but that on the verdict holds of it, its one question is over the bytes that `plan_front` gives, and each chunk offset of the media from the
-- store's place on tells where the same byte is
abbrev pub IsFrontMet : (Alg → List ℕ → List ℕ) → List ℕ → List ℕ → List ℕ → Result Embedded BuildError → Type 0
IsFrontMet hash media definition message (Ok e) =
    (b : NewFile) → IsFrontMade hash media definition message (Ok b) → FrontMeets hash media definition message b
IsFrontMet hash media definition message (Err e) = ⊤

-- What `embed_front` does over known inputs, of a sink before and after: it answers what they come to; it writes the new file, a prefix of it where
-- a source or the sink fails, and nothing where they are refused; within a stated spare that holds this the sink doesn't fail; and the new file
-- meets every rule but that on its message's verdict.
pub record EmbedsFront {K : Type 0} (written : K → Option (List ℕ)) (spare : K → Option ℕ) (finished : K → Bool)
    (hash : Alg → List ℕ → List ℕ) (media definition message : List ℕ) (old new : K) (result : Result Embedded BuildError) : Type 0 where
  pub answered : IsRangeOf (IsFrontMade hash media definition message) result
  pub wrote : WritesFile written spare finished (Writes (IsFrontMade hash media definition message)) old new (build_ending result)
  pub meets : IsFrontMet hash media definition message result
