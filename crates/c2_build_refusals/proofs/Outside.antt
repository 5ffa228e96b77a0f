-- Answers that say nothing of the inputs, and the causes of errors, by the kind of an error.
use Rattle.std.proofs.Common.{◌≡◌, ◌⊎◌, inl, inr, ℕ, Bool, true, false, Option, refl, sym, subst, List}
use Rattle.std.specs.Prelude.{IfErr, OnOk, Result, Ok, Err, ⊤}
use Rattle.c2_base.specs.Causes.{Rose}
use Rattle.c2_base.specs.Source.{ReadsSource, StaysSource}
use Rattle.c2_calls_spec.proofs.SourceLemmas.{reads_next}
use Rattle.c2_opening.specs.declared.error.ValidateError.{ValidateError}
use Rattle.c2_opening.specs.declared.error.ValidateError.TheVariants as error
use Rattle.c2_build_refusals.specs.Kinds.{Effects, ErrorKind, IsOlderQuiet, IsOlderQuietKind, IsQuiet, IsQuietKind, IsReadKind, IsSourceCause, KindSays, MayCome, SaysNothing, WithoutFault}
use Rattle.c2_build_refusals.specs.Kinds.{fault_of, front_refusal, judge_fault, kind_of, message_refusal, no_effects, no_memory, older_refusal, other_refusal, read_fault, refusal, write_fault}
use Rattle.c2_build_refusals.specs.declared.error.BuildError.{BuildError}

-- ---- what an error says

-- what errors of a kind say follows from what they said before
kind_map : (k : ErrorKind) {P Q : Type 0} → (P → Q) → KindSays k P → KindSays k Q
kind_map refusal f h = f h
kind_map message_refusal f h = f h
kind_map front_refusal f h = f h
kind_map older_refusal f h = f h
kind_map other_refusal f h = f h
kind_map read_fault f h = h
kind_map judge_fault f h = h
kind_map write_fault f h = h
kind_map no_memory f h = h

-- what an answer says follows from what it said before
pub outside_map : (e : BuildError) {P Q : Type 0} → (P → Q) → WithoutFault e P → WithoutFault e Q
outside_map e {P} {Q} f h = kind_map (kind_of e) {P = P} {Q = Q} f h

-- what says nothing of the inputs says anything
pub nothing_said : (e : BuildError) (P : Type 0) → SaysNothing e → WithoutFault e P
nothing_said e P h = outside_map e (λ (x : ⊥). absurd x) h

-- what holds holds of each kind
kind_all : (k : ErrorKind) {P : Type 0} → P → KindSays k P
kind_all refusal h = h
kind_all message_refusal h = h
kind_all front_refusal h = h
kind_all older_refusal h = h
kind_all other_refusal h = h
kind_all read_fault h = tt
kind_all judge_fault h = tt
kind_all write_fault h = tt
kind_all no_memory h = tt

-- what holds holds beside each error
pub outside_all : (e : BuildError) {P : Type 0} → P → WithoutFault e P
outside_all e {P} h = kind_all (kind_of e) {P = P} h

-- what errors of a kind say of each thing
kind_each : (k : ErrorKind) {A : Type 0} (P : A → Type 0) → ((x : A) → KindSays k (P x)) → KindSays k ((x : A) → P x)
kind_each refusal P h = h
kind_each message_refusal P h = h
kind_each front_refusal P h = h
kind_each older_refusal P h = h
kind_each other_refusal P h = h
kind_each read_fault P h = tt
kind_each judge_fault P h = tt
kind_each write_fault P h = tt
kind_each no_memory P h = tt

-- what an error says of each thing
pub said_each : (e : BuildError) {A : Type 0} (P : A → Type 0) → ((x : A) → WithoutFault e (P x))
    → WithoutFault e ((x : A) → P x)
said_each e {A} P h = kind_each (kind_of e) {A = A} P h

-- a fault of the check says nothing of the inputs
pub fault_said : (P : Type 0) (e : ValidateError) → WithoutFault (fault_of e) P
fault_said P error.ReadFault = tt
fault_said P error.JudgeFault = tt
fault_said P error.NoMemory = tt

-- ---- causes

-- what comes where it may says what follows
pub may_come : (b : Bool) (P Q : Type 0) → (P → Q) → MayCome b P → MayCome b Q
may_come true P Q f h = f h
may_come false P Q f h = h

-- a step that reads is one that may ask judges
pub read_cause : (Other : Type 0) (does : Effects) (m n : ℕ) (k : ErrorKind) → IsReadKind does m n k
    → IsSourceCause does Other m n k
read_cause Other does m n refusal h = h
read_cause Other does m n message_refusal h = h
read_cause Other does m n front_refusal h = h
read_cause Other does m n older_refusal h = h
read_cause Other does m n other_refusal h = h
read_cause Other does m n read_fault h = inl h
read_cause Other does m n judge_fault h = absurd h
read_cause Other does m n write_fault h = absurd h
read_cause Other does m n no_memory h = tt

-- a step that neither reads nor asks is one that may ask judges
pub quiet_cause : (Other : Type 0) (does : Effects) (m n : ℕ) (k : ErrorKind) → n ≡ m → IsQuietKind k
    → IsSourceCause does Other m n k
quiet_cause Other does m n refusal same h = same
quiet_cause Other does m n message_refusal same h = absurd h
quiet_cause Other does m n front_refusal same h = absurd h
quiet_cause Other does m n older_refusal same h = absurd h
quiet_cause Other does m n other_refusal same h = absurd h
quiet_cause Other does m n read_fault same h = absurd h
quiet_cause Other does m n judge_fault same h = absurd h
quiet_cause Other does m n write_fault same h = absurd h
quiet_cause Other does m n no_memory same h = tt

-- the result of a step that neither reads nor asks is one of each call
pub quiet_results : {T : Type 0} (Other : Type 0) (does : Effects) (m n : ℕ) (r : Result T BuildError) → n ≡ m
    → IfErr r IsQuiet → IfErr r (λ e. IsSourceCause does Other m n (kind_of e))
quiet_results Other does m n (Ok x) same h = tt
quiet_results Other does m n (Err e) same h = quiet_cause Other does m n (kind_of e) same h

-- a step that neither reads nor asks is one over an older store
pub quiet_older : (k : ErrorKind) → IsQuietKind k → IsOlderQuietKind k
quiet_older refusal h = h
quiet_older message_refusal h = h
quiet_older front_refusal h = h
quiet_older older_refusal h = absurd h
quiet_older other_refusal h = h
quiet_older read_fault h = h
quiet_older judge_fault h = h
quiet_older write_fault h = h
quiet_older no_memory h = h

-- a step that neither reads nor asks, of a call that builds over an older store, is one that may ask judges
pub older_cause : (Other : Type 0) (does : Effects) (m n : ℕ) (k : ErrorKind) → MayCome does.takes_older ⊤ → n ≡ m
    → IsOlderQuietKind k → IsSourceCause does Other m n k
older_cause Other does m n refusal may same h = same
older_cause Other does m n message_refusal may same h = absurd h
older_cause Other does m n front_refusal may same h = absurd h
older_cause Other does m n older_refusal may same h = may_come does.takes_older ⊤ (n ≡ m) (λ x. same) may
older_cause Other does m n other_refusal may same h = absurd h
older_cause Other does m n read_fault may same h = absurd h
older_cause Other does m n judge_fault may same h = absurd h
older_cause Other does m n write_fault may same h = absurd h
older_cause Other does m n no_memory may same h = tt

-- the result of a step that neither reads nor asks, of a call that builds over an older store, is one of the call
pub older_results : {T : Type 0} (Other : Type 0) (does : Effects) (m n : ℕ) (r : Result T BuildError)
    → MayCome does.takes_older ⊤ → n ≡ m → IfErr r IsOlderQuiet
    → IfErr r (λ e. IsSourceCause does Other m n (kind_of e))
older_results Other does m n (Ok x) may same h = tt
older_results Other does m n (Err e) may same h = older_cause Other does m n (kind_of e) may same h

-- the result of a step that reads is one of a call that does what the step does
pub read_results : {T : Type 0} (Other : Type 0) (reads does : Effects) (m n : ℕ) (r : Result T BuildError)
    → ((k : ErrorKind) → IsReadKind reads m n k → IsReadKind does m n k)
    → IfErr r (λ e. IsReadKind reads m n (kind_of e))
    → IfErr r (λ e. IsSourceCause does Other m n (kind_of e))
read_results Other reads does m n (Ok x) f h = tt
read_results Other reads does m n (Err e) f h = read_cause Other does m n (kind_of e) (f (kind_of e) h)

-- a step that does no more than read is one of any call
pub plain_read : (does : Effects) (m n : ℕ) (k : ErrorKind) → IsReadKind no_effects m n k → IsReadKind does m n k
plain_read does m n refusal h = h
plain_read does m n message_refusal h = absurd h
plain_read does m n front_refusal h = absurd h
plain_read does m n older_refusal h = absurd h
plain_read does m n other_refusal h = absurd h
plain_read does m n read_fault h = h
plain_read does m n judge_fault h = h
plain_read does m n write_fault h = h
plain_read does m n no_memory h = h

-- the cause of an error of a step that does no more than read is one of any call
pub plain_cause : (Other : Type 0) (does : Effects) (m n : ℕ) (k : ErrorKind) → IsReadKind no_effects m n k
    → IsSourceCause does Other m n k
plain_cause Other does m n k h = read_cause Other does m n k (plain_read does m n k h)

-- where a source failed beside others
pub among_sources : (does : Effects) {Other Others : Type 0} (m n : ℕ) (k : ErrorKind) → (Other → Others)
    → IsSourceCause does Other m n k → IsSourceCause does Others m n k
among_sources does m n refusal f h = h
among_sources does m n message_refusal f h = h
among_sources does m n front_refusal f h = h
among_sources does m n older_refusal f h = h
among_sources does m n other_refusal f h = h
among_sources does m n read_fault f (inl h) = inl h
among_sources does m n read_fault f (inr h) = inr (f h)
among_sources does m n judge_fault f h = h
among_sources does m n write_fault f h = h
among_sources does m n no_memory f h = h

-- what that says of a source beside it that wasn't read
pub beside_source : (does : Effects) {Other Others : Type 0} (l m n : ℕ) (k : ErrorKind) → (Rose m n ⊎ Other → Others)
    → IsSourceCause does Other m n k → IsSourceCause does Others l l k
beside_source does l m n refusal f h = refl
beside_source does l m n message_refusal f h = may_come does.reads_message (n ≡ m) (l ≡ l) (λ x. refl) h
beside_source does l m n front_refusal f h = may_come does.moves_tables (n ≡ m) (l ≡ l) (λ x. refl) h
beside_source does l m n older_refusal f h = may_come does.takes_older (n ≡ m) (l ≡ l) (λ x. refl) h
beside_source does l m n other_refusal f h = may_come does.takes_other (n ≡ m) (l ≡ l) (λ x. refl) h
beside_source does l m n read_fault f h = inr (f h)
beside_source does l m n judge_fault f h = h
beside_source does l m n write_fault f h = h
beside_source does l m n no_memory f h = h

-- ---- sources

-- what holds of any answer holds of success
pub on_any : {A E P : Type 0} (r : Result A E) → P → OnOk r P
on_any (Ok a) h = h
on_any (Err e) h = tt

-- a step that does no more than read, behind one that succeeded
pub reads_behind : {S T U : Type 0} (does : Effects) {Other : Type 0} {len : S → ℕ} {known : S → Option (List ℕ)} {faults : S → ℕ} {Below : ℕ → ℕ → BuildError → Type 0} (old between new : S) (x : T) (r : Result U BuildError)
    → ReadsSource len known faults Below old between (Ok x) → StaysSource len known faults between new
    → OnOk r (faults new ≡ faults between)
    → IfErr r (λ e. IsReadKind no_effects (faults between) (faults new) (kind_of e))
    → ReadsSource len known faults (λ m n e. IsSourceCause does Other m n (kind_of e)) old new r
reads_behind does {Other} {len} {known} {faults} {Below} old between new x r h stays quiet cause =
    reads_next len known faults Below (λ m n e. IsSourceCause does Other m n (kind_of e)) old between new x r h
    (record { stays = stays; quiet = quiet; cause = read_results Other no_effects does (faults between) (faults new) r (plain_read does (faults between) (faults new)) cause })

-- an answer of a step that neither reads nor asks, behind two that succeeded, of a call that builds over an older store
pub reads_quietly : {S T U : Type 0} (does : Effects) {Other : Type 0} → MayCome does.takes_older ⊤
    → {len : S → ℕ} {known : S → Option (List ℕ)} {faults : S → ℕ} {Below : ℕ → ℕ → BuildError → Type 0} (old between new : S) (x : T) (r : Result U BuildError)
    → ReadsSource len known faults Below old between (Ok x) → StaysSource len known faults between new
    → faults new ≡ faults between → IfErr r IsOlderQuiet
    → ReadsSource len known faults (λ m n e. IsSourceCause does Other m n (kind_of e)) old new r
reads_quietly does {Other} may {len} {known} {faults} {Below} old between new x r h stays quiet cause =
    reads_next len known faults Below (λ m n e. IsSourceCause does Other m n (kind_of e)) old between new x r h
    (record { stays = stays; quiet = on_any r quiet; cause = older_results Other does (faults between) (faults new) r may quiet cause })

-- a source that was read before, or not at all, where another one is read
pub reads_earlier : {S T : Type 0} (does : Effects) {Other Others : Type 0} {len : S → ℕ} {known : S → Option (List ℕ)} {faults : S → ℕ} (old new : S) (m n : ℕ) (r : Result T BuildError)
    → StaysSource len known faults old new → faults new ≡ faults old → (Rose m n ⊎ Other → Others)
    → IfErr r (λ e. IsSourceCause does Other m n (kind_of e))
    → ReadsSource len known faults (λ i j e. IsSourceCause does Others i j (kind_of e)) old new r
reads_earlier does old new m n (Ok x) stays quiet f cause = record { stays = stays; quiet = quiet; cause = tt }
reads_earlier does {Other} {Others} {len} {known} {faults} old new m n (Err e) stays quiet f cause = record {
  stays = stays;
  quiet = tt;
  cause =
      subst (λ (j : ℕ). IsSourceCause does Others (faults old) j (kind_of e)) (sym quiet)
      (beside_source does (faults old) m n (kind_of e) f cause);
}

-- one that is read, where others are
pub reads_among :
    {S T : Type 0} (does : Effects) {Other Others : Type 0} {len : S → ℕ} {known : S → Option (List ℕ)} {faults : S → ℕ}
    (old new : S) (r : Result T BuildError)
    → (Other → Others)
    → ReadsSource len known faults (λ i j e. IsSourceCause does Other i j (kind_of e)) old new r
    → ReadsSource len known faults (λ i j e. IsSourceCause does Others i j (kind_of e)) old new r
reads_among does old new (Ok x) f h = record { stays = h.stays; quiet = h.quiet; cause = tt }
reads_among does {Other} {Others} {len} {known} {faults} old new (Err e) f h =
    record { stays = h.stays; quiet = tt; cause = among_sources does (faults old) (faults new) (kind_of e) f h.cause }

-- no other source failed
pub alone : {A B : Type 0} → (A → B) → A ⊎ ⊥ → B
alone f (inl a) = f a
alone f (inr b) = absurd b
