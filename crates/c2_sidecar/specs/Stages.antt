-- For private clauses: what was written of a store, and the answers for an error of the container.
use Rattle.std.specs.Prelude.{◌≡◌, ℕ, Bool, List, Some}
use Rattle.std.specs.declared.option.Option.{Option}
use Rattle.std.specs.declared.result.Result.{Result}
use Rattle.std.specs.declared.result.Result.TheVariants.{Ok, Err}
use Rattle.c2_base.specs.Causes.{Rose}
use Rattle.c2_base.specs.declared.media.MediaError.{MediaError}
use Rattle.c2_base.specs.declared.media.MediaError.TheVariants as media
use Rattle.c2_base.specs.declared.outside.Failed.{Failed}
use Rattle.c2_spec.specs.Located.{refusal, refused}
use Rattle.c2_copying.specs.Writing.{Breaks, Delivers, write_fault}
use Rattle.c2_rules.specs.declared.answer.Answer.TheVariants as answer
use Rattle.c2_opening.specs.declared.error.ValidateError.{ValidateError}
use Rattle.c2_opening.specs.declared.error.ValidateError.TheVariants as validate
use Rattle.c2_validate.specs.declared.external.External.{External}
use Rattle.c2_validate.specs.declared.external.External.TheVariants.{Of}
use Rattle.c2_sidecar.specs.declared.error.Extracted.{Extracted}
use Rattle.c2_sidecar.specs.declared.error.Extracted.TheVariants.{Refused}
use Rattle.c2_sidecar.specs.declared.error.ExtractError.{ExtractError}
use Rattle.c2_sidecar.specs.declared.error.ExtractError.TheVariants.{ReadFault, WriteFault, NoMemory}

-- the sink took all of these bytes and is finished; or it failed, and took a prefix of them
abbrev pub IsStored : {K T : Type 0} → (K → Option (List ℕ)) → (K → Option ℕ) → (K → Bool) → List ℕ → K → K
    → Result T Failed → Type 0
IsStored written spare finished bytes old new (Ok x) = Delivers written finished bytes old new
IsStored written spare finished bytes old new (Err e) =
    Breaks written spare finished bytes old new write_fault

-- a call that touches one object alone fails only where that object did
abbrev pub IsFailure : ℕ → ℕ → Failed → Type 0
IsFailure before now failed = Rose before now

-- what `extract` answers for an error of the container: a refusal, or a fault that says nothing of the file
abbrev pub IsRefusedBy : MediaError → Result Extracted ExtractError → Type 0
IsRefusedBy e (Ok (Refused reason number)) = refusal e ≡ Some (refused reason number)
IsRefusedBy e (Ok _) = ⊥
IsRefusedBy e (Err ReadFault) = e ≡ media.ReadFault
IsRefusedBy e (Err WriteFault) = ⊥
IsRefusedBy e (Err NoMemory) = e ≡ media.NoMemory

-- what `validate_external` answers for it
abbrev pub IsFileRefusedBy : MediaError → Result External ValidateError → Type 0
IsFileRefusedBy e (Ok (Of (answer.Refused reason number))) = refusal e ≡ Some (refused reason number)
IsFileRefusedBy e (Ok _) = ⊥
IsFileRefusedBy e (Err validate.ReadFault) = e ≡ media.ReadFault
IsFileRefusedBy e (Err validate.JudgeFault) = ⊥
IsFileRefusedBy e (Err validate.NoMemory) = e ≡ media.NoMemory
