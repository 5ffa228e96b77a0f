-- What `plan` and `embed` promise of their answers and of what they leave.
use Rattle.std.specs.Prelude.{◌≡◌, ◌⊎◌, ℕ, Bool, true, List, []}
use Rattle.std.specs.declared.option.Option.{Option}
use Rattle.std.specs.declared.option.Option.TheVariants.{Some}
use Rattle.std.specs.declared.result.Result.{Result}
use Rattle.std.specs.declared.result.Result.TheVariants.{Ok, Err}
use Rattle.c2_base.specs.declared.values.Question.{Question}
use Rattle.c2_copying.specs.Writing.{WritesFile}
use Rattle.c2_spec.specs.declared.digest.Alg.{Alg}
use Rattle.c2_spec.specs.declared.panel.Verdict.{Verdict}
use Rattle.c2_build_refusals.specs.Kinds.{ComesAs, Effects, IsSourceCause, judge_effects, kind_of, no_effects}
use Rattle.c2_build_refusals.specs.Stages.{HasNothingToAsk, IsDefinitionRefused, IsDefinitionTold, IsMessageTold, IsToldOf, IsToldRefused}
use Rattle.c2_build_refusals.specs.declared.error.BuildError.{BuildError}
use Rattle.c2_build_refusals.specs.declared.types.Embedded.{Embedded}
use Rattle.c2_build_endings.specs.Endings.{build_ending}
use Rattle.c2_build_plain.specs.Building.{Built, EmbedAsks, IsEmbedded, PlanAsks}
use Rattle.c2_build_plain.specs.Meeting.{IsBuildMet}

-- ---- causes

-- what is done before the new file is written
abbrev pub prepare_effects : Effects
prepare_effects = record no_effects { reads_message = true; asks_judges = true; takes_older = true }

-- what `embed` does besides reading the media and the definition
abbrev pub embed_effects : Effects
embed_effects = record no_effects { reads_message = true; asks_judges = true; writes_file = true; takes_older = true }

-- The cause of an error of `plan`, by one source, where this tells that the other one failed: it looks at no message, and writes nothing.
abbrev pub IsPlanCause : Type 0 → ℕ → ℕ → BuildError → Type 0
IsPlanCause Other before now e = IsSourceCause judge_effects Other before now (kind_of e)

-- The cause of an error of `embed`, by one source, where this tells that another one failed.
abbrev pub IsEmbedCause : Type 0 → ℕ → ℕ → BuildError → Type 0
IsEmbedCause Other before now e = IsSourceCause embed_effects Other before now (kind_of e)

-- ---- judges

-- `plan` asks these questions over the bytes that are known of its sources, where they are due.
pub record AsksPlan (hash : Alg → List ℕ → List ℕ) (media definition : Option (List ℕ))
    (said : Question → Verdict) (qs : List Question) : Type 0 where
  pub file : List ℕ
  pub is_file : media ≡ Some file
  pub bytes : List ℕ
  pub is_bytes : IsDefinitionTold file definition bytes
  pub asks : PlanAsks hash said file bytes qs

-- Where a panel says this, `plan` asks these questions; and none where the bytes of one source alone tell that nothing is asked.
abbrev pub AsksPlanned : (Alg → List ℕ → List ℕ) → Option (List ℕ) → Option (List ℕ) → (Question → Verdict) → List Question → Type 0
AsksPlanned hash media definition said qs =
    AsksPlan hash media definition said qs
    ⊎ ((qs ≡ []) × (IsToldOf media HasNothingToAsk ⊎ IsToldOf definition IsDefinitionRefused))

-- `embed` asks these questions over the bytes that are known of its sources, where they are due.
pub record AsksEmbed (hash : Alg → List ℕ → List ℕ) (media definition message : Option (List ℕ))
    (said : Question → Verdict) (qs : List Question) : Type 0 where
  pub file : List ℕ
  pub is_file : media ≡ Some file
  pub bytes : List ℕ
  pub is_bytes : IsDefinitionTold file definition bytes
  pub signed : List ℕ
  pub is_signed : IsMessageTold file bytes message signed
  pub asks : EmbedAsks hash said file bytes signed qs

-- Where a panel says this, `embed` asks these questions; and none where the bytes of one source alone, or those of the definition file and
-- of the message, tell that nothing is asked.
abbrev pub AsksEmbedded : (Alg → List ℕ → List ℕ) → Option (List ℕ) → Option (List ℕ) → Option (List ℕ) → (Question → Verdict) → List Question → Type 0
AsksEmbedded hash media definition message said qs =
    AsksEmbed hash media definition message said qs
    ⊎ ((qs ≡ []) × (IsToldOf media HasNothingToAsk ⊎ (IsToldOf definition IsDefinitionRefused ⊎ IsToldRefused definition message)))

-- ---- the new file

-- the range that is answered is that of a new file
pub record HasRange (e : Embedded) (b : Built) : Type 0 where
  pub start : e.start ≡ b.start
  pub length : e.length ≡ b.len

-- the bytes that are written where the inputs come to this: those of the new file, or none
abbrev pub file_of : Result Built BuildError → List ℕ
file_of (Ok b) = b.file
file_of (Err e) = []

-- these bytes are written where the inputs come to something
abbrev pub Writes : (Result Built BuildError → Type 0) → List ℕ → Type 0
Writes Is bytes = (r : Result Built BuildError) × Is r × (bytes ≡ file_of r)

-- What `embed` does over known inputs, of a sink before and after: it answers what they come to, the range of the new file or what is refused
-- first; it writes the new file, a prefix of it where a source or the sink fails, and nothing where they are refused; within a stated spare that
-- holds this the sink doesn't fail; and the new file meets every rule but that on its own message's verdict.
pub record EmbedsFile {K : Type 0} (written : K → Option (List ℕ)) (spare : K → Option ℕ) (finished : K → Bool)
    (hash : Alg → List ℕ → List ℕ) (said : Question → Verdict) (media definition message : List ℕ) (old new : K)
    (result : Result Embedded BuildError) : Type 0 where
  pub answered : ComesAs HasRange (IsEmbedded hash said media definition message) result
  pub wrote : WritesFile written spare finished (Writes (IsEmbedded hash said media definition message)) old new (build_ending result)
  pub meets : IsBuildMet hash said media definition message result
