-- What `validate_external` promises of its two sources: when the second isn't due, which questions are asked of both, and what its errors
-- come of.
use Rattle.std.specs.Prelude.{◌≡◌, ◌⊎◌, ℕ, ⊤, List, Some}
use Rattle.std.specs.declared.option.Option.{Option}
use Rattle.c2_base.specs.Causes.{Rose}
use Rattle.c2_base.specs.Source.{IsKnownWhereDue}
use Rattle.c2_base.specs.declared.values.Question.{Question}
use Rattle.c2_spec.specs.Container.{IsLocated}
use Rattle.c2_spec.specs.Located.{refused}
use Rattle.c2_spec.specs.declared.digest.Alg.{Alg}
use Rattle.c2_spec.specs.declared.panel.Verdict.{Verdict}
use Rattle.c2_spec.specs.declared.reason.Reason.{Reason}
use Rattle.c2_opening.specs.declared.error.ValidateError.{ValidateError}
use Rattle.c2_opening.specs.declared.error.ValidateError.TheVariants.{ReadFault, JudgeFault, NoMemory}
use Rattle.c2_validate.specs.External.{ExternalAsks}

-- The container of a file is refused. An external store isn't due then.
abbrev pub IsRefusedFile : List ℕ → Type 0
IsRefusedFile file = (reason : Reason) × (number : ℕ) × IsLocated file (refused reason number)

-- Where a panel says this, the check of a media file with an external store asks these questions: those of the bytes that are known of the
-- first source, and of the second's where it is due.
pub record AsksWhereDue (hash : Alg → List ℕ → List ℕ) (media external : Option (List ℕ))
    (said : Question → Verdict) (qs : List Question) : Type 0 where
  pub file : List ℕ
  pub is_file : media ≡ Some file
  pub store : List ℕ
  pub is_store : IsKnownWhereDue external (IsRefusedFile file) store
  pub asks : ExternalAsks hash store file said qs

-- What an error says of a source that is read beside another, whose count of faults is given first: `ReadFault` comes only where one of the
-- two failed.
abbrev pub IsSourceCause : ℕ → ℕ → ℕ → ℕ → ValidateError → Type 0
IsSourceCause other_before other_now before now ReadFault = Rose before now ⊎ Rose other_before other_now
IsSourceCause other_before other_now before now JudgeFault = ⊤
IsSourceCause other_before other_now before now NoMemory = ⊤
