-- What `strip` replies and writes, by the call below it.
use Rattle.c2_strip.proofs.TheLaws.{each_file_is_stripped_once}
use Rattle.std.proofs.Common.{◌≡◌, ◌≢◌, refl, sym, ap, ◌∙◌, subst, ℕ, List, [], unwrap_or}
use Rattle.std.specs.Prelude.{IfErr, IfOk, OnOk, Ok, Err}
use Rattle.std.specs.declared.result.Result.{Result}
use Rattle.c2_strip.specs.Answers as strips
use Rattle.c2_strip.specs.Answers.{IsStripped}
use Rattle.c2_strip.specs.Stripping.{left_of}
use Rattle.c2_strip.specs.declared.error.StripError.{StripError}
use Rattle.c2_strip.specs.declared.error.StripError.TheVariants as error
use Rattle.c2_strip.specs.declared.error.Stripped.{Stripped}
use Rattle.c2_strip.specs.declared.error.Stripped.TheVariants.{Done, NoStore, Refused, Middle}
use Rattle.c2_cmd_outcome.specs.Outcome.{Outcome}
use Rattle.c2_cmd_outcome.specs.Reply.{IsCopyingCause, IsOutputCause, IsReplyTo}
use Rattle.c2_cmd_outcome.specs.declared.reply.Fault.{Fault}
use Rattle.c2_cmd_outcome.specs.declared.reply.Reply.{Reply}
use Rattle.c2_cmd_outcome.specs.declared.types.Answer.TheVariants as answer
use Rattle.c2_cmd_written_spec.proofs.Calls.{CausedIn, FitsEnding, FitsNew, IsOutcomeOf, outcome_of_call}
use Rattle.c2_cmd_strip.specs.Outcomes.{IsStripOutcome, IsStripReply, strip_file, strip_report}
use Rattle.c2_cmd_strip.specs.Faults.{strip_says}

-- what the call came to fits how it ended
pub strip_fits : (r : Result Stripped StripError) → FitsEnding (strips.ending_of r) (strip_says r)
strip_fits (Ok (Done range)) = refl
strip_fits (Ok NoStore) = λ e. cc (e)
strip_fits (Ok (Refused e)) = λ e. cc (e)
strip_fits (Ok (Middle at)) = λ e. cc (e)
strip_fits (Err error.ReadFault) = refl
strip_fits (Err error.WriteFault) = refl
strip_fits (Err error.NoMemory) = λ e. cc (e)

-- the call never says that the words fit no command
pub strip_words : (r : Result Stripped StripError) → IfOk (strip_says r) (λ o. o.answer ≢ answer.Usage)
strip_words (Ok (Done range)) = λ e. cc (e)
strip_words (Ok NoStore) = λ e. cc (e)
strip_words (Ok (Refused e)) = λ e. cc (e)
strip_words (Ok (Middle at)) = λ e. cc (e)
strip_words (Err e) = tt

-- what the call tells of the source
pub strip_reads : (before now : ℕ) (r : Result Stripped StripError) → OnOk r (now ≡ before)
    → IfErr r (strips.IsStripReadCause before now)
    → CausedIn IsCopyingCause before now (strip_says r)
strip_reads before now (Ok a) quiet cause = quiet
strip_reads before now (Err error.ReadFault) quiet cause = cause
strip_reads before now (Err error.WriteFault) quiet cause = tt
strip_reads before now (Err error.NoMemory) quiet cause = tt

-- what the call tells of the sink
pub strip_writes : (before now : ℕ) (r : Result Stripped StripError) → OnOk r (now ≡ before)
    → IfErr r (strips.IsStripWriteCause before now)
    → CausedIn IsOutputCause before now (strip_says r)
strip_writes before now (Ok a) quiet cause = quiet
strip_writes before now (Err error.ReadFault) quiet cause = tt
strip_writes before now (Err error.WriteFault) quiet cause = cause
strip_writes before now (Err error.NoMemory) quiet cause = tt

-- a reply to it reports an answer that the file can have
pub strip_within : (len : ℕ) (r : Result Stripped StripError) (reply : Result Reply Fault)
    → IfOk r (strips.IsAnswerOf len)
    → IfOk reply (IsReplyTo (strip_says r)) → IfOk reply (IsStripReply len)
strip_within len (Ok a) (Ok reply) within reports = (a, within, reports)
strip_within len (Err e) (Ok reply) within reports = absurd reports
strip_within len r (Err f) within reports = tt

-- ---- where the bytes of the file are known

-- the bytes that are written are those of the new file
left_is : (file : List ℕ) (a : Stripped) → left_of file a ≡ unwrap_or (strip_file file a) []
left_is file (Done range) = refl
left_is file NoStore = refl
left_is file (Refused e) = refl
left_is file (Middle at) = refl

-- the call writes a file exactly where the outcome has one
strip_new : (file : List ℕ) (a : Stripped) → FitsNew (strips.ending_of (Ok a)) (strip_says (Ok a)) (strip_file file a)
strip_new file (Done range) = refl
strip_new file NoStore = refl
strip_new file (Refused e) = refl
strip_new file (Middle at) = refl

-- the outcome of `strip` is what the call came to
pub strip_outcome : (file : List ℕ) (r : Result Stripped StripError) → IfOk r (IsStripped file)
    → (expected : Outcome) → IsStripOutcome file expected
    → IsOutcomeOf (strips.Writes file) (strips.ending_of r) (strip_says r) expected
strip_outcome file r answered expected is =
    outcome_of_call (strips.Writes file) (strips.ending_of r) (strip_says r) expected (strip_file file is.0)
    (strip_report is.0) is.2 (said r answered)
    (is.0, is.1, sym (left_is file is.0))
    (λ bytes w. w.2 ∙ ap (left_of file) (each_file_is_stripped_once file w.0 is.0 w.1 is.1) ∙ left_is file is.0)
    (new r answered)
  where
    said : (r : Result Stripped StripError) → IfOk r (IsStripped file)
        → IfOk (strip_says r) (λ o. o ≡ strip_report is.0)
    said (Ok a) answered = ap strip_report (sym (answered.only is.0 is.1))
    said (Err e) answered = tt

    new : (r : Result Stripped StripError) → IfOk r (IsStripped file)
        → FitsNew (strips.ending_of r) (strip_says r) (strip_file file is.0)
    new (Ok a) answered =
        subst (λ (x : Stripped). FitsNew (strips.ending_of (Ok x)) (strip_says (Ok x)) (strip_file file is.0))
        (answered.only is.0 is.1) (strip_new file is.0)
    new (Err error.ReadFault) answered = tt
    new (Err error.WriteFault) answered = tt
    new (Err error.NoMemory) answered = tt
