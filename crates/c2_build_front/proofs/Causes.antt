-- The causes of errors, from one step to the next.
use Rattle.std.proofs.Common.{◌≡◌, ℕ, List, subst}
use Rattle.std.specs.Prelude.{IfErr, Result, Ok, Err}
use Rattle.c2_base.specs.Source.{ReadsSource}
use Rattle.std.specs.declared.option.Option.{Option}
use Rattle.c2_build_refusals.proofs.Doing.{DoesNoMore, more_read}
use Rattle.c2_build_refusals.proofs.Outside.{read_cause}
use Rattle.c2_build_refusals.specs.Kinds.{Effects, ErrorKind, IsQuietKind, IsReadKind, IsSourceCause, front_refusal, judge_fault, kind_of, message_refusal, no_memory, older_refusal, other_refusal, read_fault, refusal, write_fault}
use Rattle.c2_build_refusals.specs.declared.error.BuildError.{BuildError}
use Rattle.c2_build_front.specs.Answers.{embed_effects, plan_effects, prepare_effects}

-- a step that reads nothing is one that reads
pub quiet_step : (does : Effects) (m n : ℕ) (k : ErrorKind) → n ≡ m → IsQuietKind k → IsReadKind does m n k
quiet_step does m n refusal same h = same
quiet_step does m n message_refusal same h = absurd h
quiet_step does m n front_refusal same h = absurd h
quiet_step does m n older_refusal same h = absurd h
quiet_step does m n other_refusal same h = absurd h
quiet_step does m n read_fault same h = absurd h
quiet_step does m n judge_fault same h = absurd h
quiet_step does m n write_fault same h = absurd h
quiet_step does m n no_memory same h = tt

-- a step of a plan is one before a file is written
pub plan_prepares : (m n : ℕ) (k : ErrorKind) → IsReadKind plan_effects m n k → IsReadKind prepare_effects m n k
plan_prepares =
    more_read plan_effects prepare_effects
    (record { message = λ h. tt; judges = λ h. h; writes = λ h. h; tables = λ h. h; older = λ h. h; other = λ h. h })

-- what is done before a file is written is done by what writes it
pub prepares : DoesNoMore prepare_effects embed_effects
prepares =
    record { message = λ h. h; judges = λ h. h; writes = λ h. tt; tables = λ h. h; older = λ h. h; other = λ h. h }

-- an answer of a step that reads one source, where others are read
pub results_in : {T : Type 0} (Other : Type 0) (does : Effects) (m n : ℕ) (r : Result T BuildError)
    → IfErr r (λ e. IsReadKind does m n (kind_of e)) → IfErr r (λ e. IsSourceCause does Other m n (kind_of e))
results_in Other does m n (Ok x) h = tt
results_in Other does m n (Err e) h = read_cause Other does m n (kind_of e) h

-- what a step that reads one source leaves of it, where others are read
pub reads_in :
    {S T : Type 0} (Other : Type 0) (does : Effects) {len : S → ℕ} {known : S → Option (List ℕ)} {faults : S → ℕ}
    (old new : S) (r : Result T BuildError)
    → ReadsSource len known faults (λ m n e. IsReadKind does m n (kind_of e)) old new r
    → ReadsSource len known faults (λ m n e. IsSourceCause does Other m n (kind_of e)) old new r
reads_in Other does {len} {known} {faults} old new r h =
    record { stays = h.stays; quiet = h.quiet; cause = results_in Other does (faults old) (faults new) r h.cause }

-- the cause of an error by a count that stayed
pub prepares_of : (m n : ℕ) (k : ErrorKind) → n ≡ m → IsReadKind prepare_effects n n k
    → IsReadKind prepare_effects m n k
prepares_of m n k same h = subst (λ (i : ℕ). IsReadKind prepare_effects i n k) same h
