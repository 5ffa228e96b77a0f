-- What a command replies and leaves, by what the call below it came to and how that ended. The command says what the call came to as an
-- outcome or as a fault.
use Rattle.std.proofs.Common.{◌≡◌, ◌≢◌, refl, sym, ap, ◌∙◌, subst, inl, ℕ, ◌<◌, Bool, List, [], Option, None, unwrap_or, arith}
use Rattle.std.specs.Prelude.{⊤, IfErr, IfOk, IsSome, OnOk, Ok, Err}
use Rattle.std.specs.declared.result.Result.{Result}
use Rattle.c2_base.specs.Sink.{StaysSink, WritesSink}
use Rattle.c2_base.specs.Source.{ReadsSource, StaysSource}
use Rattle.c2_copying.specs.Writing.{Ending, EndsSink, HasWritten, complete, read_fault, write_fault, untouched}
use Rattle.c2_cmd_outcome.specs.Left.{state_of}
use Rattle.c2_cmd_outcome.specs.Outcome.{Outcome}
use Rattle.c2_cmd_outcome.specs.Reply.{EndsFile, IsFaultOf, IsOutputCause, IsReplyTo, MakesFile, StandsFor}
use Rattle.c2_cmd_outcome.specs.declared.reply.Fault.{Fault}
use Rattle.c2_cmd_outcome.specs.declared.reply.Fault.TheVariants.{Input, Output, Memory}
use Rattle.c2_cmd_outcome.specs.declared.reply.Reply.{Reply}
use Rattle.c2_cmd_outcome.specs.declared.types.Answer.TheVariants as answer
use Rattle.c2_cmd_outcome.proofs.Replying.{each_ok}
use Rattle.c2_cmd_written_spec.specs.Written.{with_file}
use Rattle.c2_cmd_written_spec.proofs.Taking.{FitsAnswer, FitsFile, IsEndOf, file_end, stands_with, takes_file, takes_none}
use Rattle.c2_lemmas.proofs.Results.{on_ok}

-- ---- what is left of a source and of a sink

-- what the call came to tells of a count of faults, before and after: an outcome leaves it, and a fault has this cause
abbrev pub CausedIn : (ℕ → ℕ → Fault → Type 0) → ℕ → ℕ → Result Outcome Fault → Type 0
CausedIn IsCause before now (Ok o) = now ≡ before
CausedIn IsCause before now (Err f) = IsCause before now f

-- a reply leaves the count as the outcome does
quiet_reply : (IsCause : ℕ → ℕ → Fault → Type 0) (before now : ℕ) (what : Result Outcome Fault) (r : Result Reply Fault)
    → CausedIn IsCause before now what → IfOk r (IsReplyTo what) → OnOk r (now ≡ before)
quiet_reply IsCause before now (Ok o) (Ok reply) caused reports = caused
quiet_reply IsCause before now (Ok o) (Err e) caused reports = tt
quiet_reply IsCause before now (Err f) (Ok reply) caused reports = absurd reports
quiet_reply IsCause before now (Err f) (Err e) caused reports = tt

-- where there is no reply, that has the cause of the fault, or memory ran out
cause_reply : (IsCause : ℕ → ℕ → Fault → Type 0) (before now : ℕ) (what : Result Outcome Fault) (r : Result Reply Fault)
    → IsCause before now Memory → CausedIn IsCause before now what → IfErr r (IsFaultOf what)
    → IfErr r (IsCause before now)
cause_reply IsCause before now what (Ok reply) free caused fails = tt
cause_reply IsCause before now (Ok o) (Err e) free caused fails = subst (IsCause before now) (sym fails) free
cause_reply IsCause before now (Err f) (Err e) free caused fails = subst (IsCause before now) (sym fails) caused

-- what is left of a source of the call
pub reads_reply : {S : Type 0} (len : S → ℕ) (known : S → Option (List ℕ)) (faults : S → ℕ) (IsCause : ℕ → ℕ → Fault → Type 0) (old new : S) (what : Result Outcome Fault) (r : Result Reply Fault)
    → IsCause (faults old) (faults new) Memory → StaysSource len known faults old new
    → CausedIn IsCause (faults old) (faults new) what
    → IfOk r (IsReplyTo what) → IfErr r (IsFaultOf what) → ReadsSource len known faults IsCause old new r
reads_reply len known faults IsCause old new what r free stays caused reports fails = record {
  stays = stays;
  quiet = quiet_reply IsCause (faults old) (faults new) what r caused reports;
  cause = cause_reply IsCause (faults old) (faults new) what r free caused fails;
}

-- what is left of a sink of the call
pub writes_reply : {K : Type 0} (written : K → Option (List ℕ)) (finished : K → Bool) (faults : K → ℕ) (IsCause : ℕ → ℕ → Fault → Type 0) (old new : K) (what : Result Outcome Fault) (r : Result Reply Fault)
    → IsCause (faults old) (faults new) Memory → StaysSink written finished faults old new
    → CausedIn IsCause (faults old) (faults new) what
    → IfOk r (IsReplyTo what) → IfErr r (IsFaultOf what) → WritesSink written finished faults IsCause old new r
writes_reply written finished faults IsCause old new what r free stays caused reports fails = record {
  stays = stays;
  quiet = quiet_reply IsCause (faults old) (faults new) what r caused reports;
  cause = cause_reply IsCause (faults old) (faults new) what r free caused fails;
}

-- ---- how the call ended

-- What a call came to that writes a new file fits how it ended: it is done where the file is whole, and not where the file is untouched; a
-- source or the sink failed where it says so; and what fails without a trace in the file isn't the sink.
abbrev pub FitsEnding : Ending → Result Outcome Fault → Type 0
FitsEnding complete (Ok o) = o.answer ≡ answer.Done
FitsEnding complete (Err f) = ⊥
FitsEnding read_fault (Ok o) = ⊥
FitsEnding read_fault (Err f) = f ≡ Input
FitsEnding write_fault (Ok o) = ⊥
FitsEnding write_fault (Err f) = f ≡ Output
FitsEnding untouched (Ok o) = o.answer ≢ answer.Done
FitsEnding untouched (Err f) = f ≢ Output

-- results that fail by the same fault are the same
err_same : (f g : Fault) → f ≡ g → ◌≡◌ {A = Result Reply Fault} (Err f) (Err g)
err_same f g is = subst (λ (x : Fault). ◌≡◌ {A = Result Reply Fault} (Err f) (Err x)) is refl

-- the reply ends as the call did
reply_end : (e : Ending) (what : Result Outcome Fault) (r : Result Reply Fault) → FitsEnding e what
    → IfOk r (IsReplyTo what)
    → IfErr r (IsFaultOf what) → IsEndOf e r
reply_end complete (Ok o) r fits reports fails = fails
reply_end complete (Err f) r fits reports fails = absurd fits
reply_end read_fault (Ok o) r fits reports fails = absurd fits
reply_end read_fault (Err f) (Ok reply) fits reports fails = absurd reports
reply_end read_fault (Err f) (Err e) fits reports fails = err_same e Input (fails ∙ fits)
reply_end write_fault (Ok o) r fits reports fails = absurd fits
reply_end write_fault (Err f) (Ok reply) fits reports fails = absurd reports
reply_end write_fault (Err f) (Err e) fits reports fails = err_same e Output (fails ∙ fits)
reply_end untouched what (Ok reply) fits reports fails = tt
reply_end untouched (Ok o) (Err e) fits reports fails = λ output. let both = sym fails ∙ output in cc (both)
reply_end untouched (Err f) (Err e) fits reports fails = λ output. fits (sym fails ∙ output)

-- the reply says that it is done where the file is whole, and not where it is untouched
reply_answer : (e : Ending) (what : Result Outcome Fault) (r : Result Reply Fault) → FitsEnding e what
    → IfOk r (IsReplyTo what) → FitsAnswer e r
reply_answer complete (Ok o) r fits reports =
    each_ok (IsReplyTo (Ok o)) (λ (reply : Reply). reply.answer ≡ answer.Done) r
    (λ reply same. ap (λ (x : Outcome). x.answer) same ∙ fits) reports
reply_answer complete (Err f) r fits reports = absurd fits
reply_answer read_fault what r fits reports = tt
reply_answer write_fault what r fits reports = tt
reply_answer untouched (Ok o) r fits reports =
    each_ok (IsReplyTo (Ok o)) (λ (reply : Reply). reply.answer ≢ answer.Done) r
    (λ reply same done. fits (sym (ap (λ (x : Outcome). x.answer) same) ∙ done)) reports
reply_answer untouched (Err f) (Ok reply) fits reports = absurd reports
reply_answer untouched (Err f) (Err e) fits reports = tt

-- a count of faults that rose leaves the sink unfinished
reply_open : {K : Type 0} (finished : K → Bool) (faults : K → ℕ) (old new : K) (e : Ending) (what : Result Outcome Fault)
    → FitsEnding e what → EndsSink finished old new e → CausedIn IsOutputCause (faults old) (faults new) what
    → faults old < faults new → finished new ≡ finished old
reply_open finished faults old new e (Ok o) fits ends caused rose = absurd (omega (arith, rose, caused))
reply_open finished faults old new complete (Err f) fits ends caused rose = absurd fits
reply_open finished faults old new read_fault (Err f) fits ends caused rose = ends.finish
reply_open finished faults old new write_fault (Err f) fits ends caused rose = ends.finish
reply_open finished faults old new untouched (Err f) fits ends caused rose = ends.finish

-- whether the new file is finished
pub ends_reply : {K : Type 0} (finished : K → Bool) (faults : K → ℕ) (old new : K) (e : Ending) (what : Result Outcome Fault) (r : Result Reply Fault)
    → FitsEnding e what → EndsSink finished old new e → CausedIn IsOutputCause (faults old) (faults new) what
    → IfOk r (IsReplyTo what) → IfErr r (IsFaultOf what) → EndsFile finished faults old new r
ends_reply finished faults old new e what r fits ends caused reports fails = record {
  ends =
      file_end finished old new e r ends (reply_end e what r fits reports fails) (reply_answer e what r fits reports);
  unfinished = reply_open finished faults old new e what fits ends caused;
}

-- ---- the new file

-- a file is there where the call wrote one, and none where it says so
abbrev pub FitsNew : Ending → Result Outcome Fault → Option (List ℕ) → Type 0
FitsNew complete what file = IsSome file
FitsNew untouched (Ok o) file = file ≡ None
FitsNew e what file = ⊤

-- An outcome of the command, by the call below it: it is what the call came to, where that is an outcome, with its own file, of which the
-- call writes just the bytes.
pub record IsOutcomeOf (Writes : List ℕ → Type 0) (e : Ending) (what : Result Outcome Fault) (expected : Outcome) : Type 0 where
  pub reports : IfOk what (λ o. expected ≡ with_file expected.file o)
  pub writes : Writes (unwrap_or expected.file [])
  pub only : (bytes : List ℕ) → Writes bytes → bytes ≡ unwrap_or expected.file []
  pub fits : FitsNew e what expected.file

-- an outcome that is this one with this file, of which the call writes just the bytes
pub outcome_of_call : (Writes : List ℕ → Type 0) (e : Ending) (what : Result Outcome Fault) (expected : Outcome) (file : Option (List ℕ)) (o : Outcome)
    → expected ≡ with_file file o → IfOk what (λ x. x ≡ o) → Writes (unwrap_or file [])
    → ((bytes : List ℕ) → Writes bytes → bytes ≡ unwrap_or file []) → FitsNew e what file
    → IsOutcomeOf Writes e what expected
outcome_of_call Writes e what expected file o is same writes only fits =
    let own : expected.file ≡ file = ap (λ (x : Outcome). x.file) is in record {
      reports = reported what same;
      writes = subst (λ (f : Option (List ℕ)). Writes (unwrap_or f [])) (sym own) writes;
      only = λ bytes w. only bytes w ∙ ap (λ (f : Option (List ℕ)). unwrap_or f []) (sym own);
      fits = subst (FitsNew e what) (sym own) fits;
    }
  where
    reported : (w : Result Outcome Fault) → IfOk w (λ x. x ≡ o) → IfOk w (λ x. expected ≡ with_file expected.file x)
    reported (Ok x) same =
        is ∙ ap (λ (f : Option (List ℕ)). with_file f o) (sym (ap (λ (y : Outcome). y.file) is))
        ∙ ap (with_file expected.file) (sym same)
    reported (Err f) same = tt

-- what the reply says of the file fits its end
reply_file : (e : Ending) (what : Result Outcome Fault) (file : Option (List ℕ)) (r : Result Reply Fault)
    → FitsEnding e what
    → FitsNew e what file → IfOk r (IsReplyTo what) → FitsFile e file r
reply_file complete what file r fits new reports = new
reply_file read_fault what file r fits new reports = tt
reply_file write_fault what file r fits new reports = tt
reply_file untouched (Ok o) file r fits new reports = on_ok (file ≡ None) r new
reply_file untouched (Err f) file (Ok reply) fits new reports = absurd reports
reply_file untouched (Err f) file (Err e) fits new reports = tt

-- the reply stands for the outcome
reply_stands : (what : Result Outcome Fault) (r : Result Reply Fault) (expected : Outcome)
    → IfOk what (λ o. expected ≡ with_file expected.file o) → IfOk r (IsReplyTo what) → IfOk r (StandsFor expected [])
reply_stands (Ok o) r expected is reports = stands_with o expected.file r expected is reports
reply_stands (Err f) (Ok reply) expected is reports = absurd reports
reply_stands (Err f) (Err e) expected is reports = tt

-- what is replied and written
pub makes_reply : {K : Type 0} (written : K → Option (List ℕ)) (finished : K → Bool) (Writes : List ℕ → Type 0) (IsExpected : Outcome → Type 0) (old new : K) (e : Ending) (what : Result Outcome Fault) (r : Result Reply Fault)
    → FitsEnding e what → HasWritten written finished Writes old new e → EndsSink finished old new e
    → ((expected : Outcome) → IsExpected expected → IsOutcomeOf Writes e what expected)
    → IfOk r (IsReplyTo what) → IfErr r (IsFaultOf what)
    → MakesFile IsExpected (state_of written finished old) (state_of written finished new) r
makes_reply written finished Writes IsExpected old new e what r fits wrote ends comes reports fails = record {
  stands = λ expected is. reply_stands what r expected (comes expected is).reports reports;
  takes = λ expected is. takes_file written finished Writes expected.file old new e r (comes expected is).writes (comes expected is).only
      wrote ends.leaves (reply_end e what r fits reports fails) (reply_file e what expected.file r fits (comes expected is).fits reports);
}

-- ---- words

-- a reply says that the words fit no command only where what the call came to does
pub words_reply : (what : Result Outcome Fault) (r : Result Reply Fault) → IfOk what (λ o. o.answer ≢ answer.Usage)
    → IfOk r (IsReplyTo what) → IfOk r (λ reply. reply.answer ≢ answer.Usage)
words_reply (Ok o) r fits reports =
    each_ok (IsReplyTo (Ok o)) (λ (reply : Reply). reply.answer ≢ answer.Usage) r
    (λ reply same usage. fits (sym (ap (λ (x : Outcome). x.answer) same) ∙ usage)) reports
words_reply (Err f) (Ok reply) fits reports = absurd reports
words_reply (Err f) (Err e) fits reports = tt

-- ---- where memory runs out before the call

-- nothing is written
pub made_none : {K : Type 0} (written : K → Option (List ℕ)) (finished : K → Bool) (IsExpected : Outcome → Type 0) (sink : K)
    → MakesFile IsExpected (state_of written finished sink) (state_of written finished sink) (Err Memory)
made_none written finished IsExpected sink =
    record
    { stands = λ expected is. tt; takes = λ expected is. takes_none written finished expected.file sink sink Memory refl (λ e. cc (e)) }

-- the sink isn't finished
pub ends_none : {K : Type 0} (finished : K → Bool) (faults : K → ℕ) (sink : K)
    → EndsFile finished faults sink sink (Err Memory)
ends_none finished faults sink = record { ends = inl refl; unfinished = λ rose. refl }
