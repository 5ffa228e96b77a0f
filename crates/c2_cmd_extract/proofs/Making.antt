-- What `extract` replies and writes, by the call below it.
use Rattle.std.proofs.Common.{◌≡◌, ◌≢◌, refl, sym, ap, subst, ℕ, List, [], unwrap_or}
use Rattle.std.specs.Prelude.{IfErr, IfOk, OnOk, Ok, Err}
use Rattle.std.specs.declared.result.Result.{Result}
use Rattle.c2_sidecar.specs.Extracting.{extracted_of, store_of}
use Rattle.c2_sidecar.specs.Extracts as extracts
use Rattle.c2_sidecar.specs.Extracts.{IsExtracted}
use Rattle.c2_sidecar.specs.declared.error.ExtractError.{ExtractError}
use Rattle.c2_sidecar.specs.declared.error.ExtractError.TheVariants as error
use Rattle.c2_sidecar.specs.declared.error.Extracted.{Extracted}
use Rattle.c2_sidecar.specs.declared.error.Extracted.TheVariants.{Done, NoStore, Refused}
use Rattle.c2_spec.specs.Located.{Located, refused, absent, here}
use Rattle.c2_cmd_outcome.specs.Outcome.{Outcome}
use Rattle.c2_cmd_outcome.specs.Reply.{IsCopyingCause, IsOutputCause, IsReplyTo}
use Rattle.c2_cmd_outcome.specs.declared.reply.Fault.{Fault}
use Rattle.c2_cmd_outcome.specs.declared.reply.Reply.{Reply}
use Rattle.c2_cmd_outcome.specs.declared.types.Answer.TheVariants as answer
use Rattle.c2_cmd_written_spec.proofs.Calls.{CausedIn, FitsEnding, FitsNew, IsOutcomeOf, outcome_of_call}
use Rattle.c2_cmd_extract.specs.Outcomes.{IsExtractOutcome, IsExtractReply, extract_file, extract_report}
use Rattle.c2_cmd_extract.specs.Faults.{extract_says}

-- of a file one list of bytes is written and no other
abbrev pub OneText : Type 0
OneText = (file bytes others : List ℕ) → extracts.Writes file bytes → extracts.Writes file others → bytes ≡ others

-- what the call came to fits how it ended
pub extract_fits : (r : Result Extracted ExtractError) → FitsEnding (extracts.ending_of r) (extract_says r)
extract_fits (Ok (Done count)) = refl
extract_fits (Ok NoStore) = λ e. cc (e)
extract_fits (Ok (Refused reason number)) = λ e. cc (e)
extract_fits (Err error.ReadFault) = λ e. cc (e)
extract_fits (Err error.WriteFault) = refl
extract_fits (Err error.NoMemory) = λ e. cc (e)

-- the call never says that the words fit no command
pub extract_words : (r : Result Extracted ExtractError) → IfOk (extract_says r) (λ o. o.answer ≢ answer.Usage)
extract_words (Ok (Done count)) = λ e. cc (e)
extract_words (Ok NoStore) = λ e. cc (e)
extract_words (Ok (Refused reason number)) = λ e. cc (e)
extract_words (Err e) = tt

-- what the call tells of the source
pub extract_reads : (before now : ℕ) (r : Result Extracted ExtractError) → OnOk r (now ≡ before)
    → IfErr r (extracts.IsExtractReadCause before now)
    → CausedIn IsCopyingCause before now (extract_says r)
extract_reads before now (Ok a) quiet cause = quiet
extract_reads before now (Err error.ReadFault) quiet cause = cause
extract_reads before now (Err error.WriteFault) quiet cause = tt
extract_reads before now (Err error.NoMemory) quiet cause = tt

-- what the call tells of the sink
pub extract_writes : (before now : ℕ) (r : Result Extracted ExtractError) → OnOk r (now ≡ before)
    → IfErr r (extracts.IsExtractWriteCause before now)
    → CausedIn IsOutputCause before now (extract_says r)
extract_writes before now (Ok a) quiet cause = quiet
extract_writes before now (Err error.ReadFault) quiet cause = tt
extract_writes before now (Err error.WriteFault) quiet cause = cause
extract_writes before now (Err error.NoMemory) quiet cause = tt

-- a reply to it reports an answer that the file can have
pub extract_within : (len : ℕ) (r : Result Extracted ExtractError) (reply : Result Reply Fault)
    → IfOk r (extracts.IsAnswerOf len)
    → IfOk reply (IsReplyTo (extract_says r)) → IfOk reply (IsExtractReply len)
extract_within len (Ok a) (Ok reply) within reports = (a, within, reports)
extract_within len (Err e) (Ok reply) within reports = absurd reports
extract_within len r (Err f) within reports = tt

-- ---- where the bytes of the file are known

-- the bytes that are written are those of the new file
store_is : (l : Located) → unwrap_or (extract_file l) [] ≡ store_of l
store_is (refused reason number) = refl
store_is absent = refl
store_is (here start len store) = refl

-- the call writes a file exactly where the outcome has one
extract_new : (l : Located)
    → FitsNew (extracts.ending_of (Ok (extracted_of l))) (extract_says (Ok (extracted_of l))) (extract_file l)
extract_new (refused reason number) = refl
extract_new absent = refl
extract_new (here start len store) = refl

-- the outcome of `extract` is what the call came to
pub extract_outcome : OneText → (file : List ℕ) (r : Result Extracted ExtractError) → IfOk r (IsExtracted file)
    → (expected : Outcome) → IsExtractOutcome file expected
    → IsOutcomeOf (extracts.Writes file) (extracts.ending_of r) (extract_says r) expected
extract_outcome one file r answered expected is =
    outcome_of_call (extracts.Writes file) (extracts.ending_of r) (extract_says r) expected (extract_file is.0)
    (extract_report (extracted_of is.0)) is.2 (said r answered)
    written
    (λ bytes w. one file bytes (unwrap_or (extract_file is.0) []) w written)
    (new r answered)
  where
    written : extracts.Writes file (unwrap_or (extract_file is.0) [])
    written = (is.0, is.1, store_is is.0)

    said : (r : Result Extracted ExtractError) → IfOk r (IsExtracted file)
        → IfOk (extract_says r) (λ o. o ≡ extract_report (extracted_of is.0))
    said (Ok a) answered = ap extract_report (sym (answered.only (extracted_of is.0) (is.0, is.1, refl)))
    said (Err e) answered = tt

    new : (r : Result Extracted ExtractError) → IfOk r (IsExtracted file)
        → FitsNew (extracts.ending_of r) (extract_says r) (extract_file is.0)
    new (Ok a) answered =
        subst (λ (x : Extracted). FitsNew (extracts.ending_of (Ok x)) (extract_says (Ok x)) (extract_file is.0))
        (answered.only (extracted_of is.0) (is.0, is.1, refl)) (extract_new is.0)
    new (Err error.ReadFault) answered = tt
    new (Err error.WriteFault) answered = tt
    new (Err error.NoMemory) answered = tt
