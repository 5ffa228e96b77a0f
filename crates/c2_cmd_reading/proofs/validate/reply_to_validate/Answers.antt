use Rattle.std.proofs.Common.{◌≡◌, map}
use Rattle.c2_spec.specs.Judges.Panel.{panel_says}
use Rattle.c2_calls_spec.proofs.PanelLemmas.{hears_error, hears_later}
use Rattle.c2_calls_spec.proofs.SourceLemmas.{reads_error, reads_then}
use Rattle.c2_calls_spec.specs.Asks.{AsksKnown}
use Rattle.c2_validate.specs.Validation.{FileAsks}
use Rattle.c2_validate.specs.Checked.{IsCheckReadCause, validate_heard}
use Rattle.c2_cmd_outcome.specs.Outcome.{answered}
use Rattle.c2_cmd_outcome.specs.Reply.{IsPanelCause, Replies, fault_heard, outcome_of}
use Rattle.c2_cmd_outcome.specs.declared.reply.Reply.{Reply}
use Rattle.c2_cmd_outcome.proofs.Replying.{each_ok}
use Rattle.c2_cmd_reading.specs.Outcomes.{IsValidated}
use Rattle.c2_cmd_reading.proofs.Faults.{check_cause, check_heard, memory_only, unbroken}
use Rattle.c2_cmd_reading.proofs.Replying.{answered_words}
use Rattle.c2_cmd_reading.proofs.validate.reply_to_validate.Goals as goal

-- ---- the check answers

pub returns-in-Ok-clause-reply : goal.returns-in-Ok-clause-reply
returns-in-Ok-clause-reply g c =
    let said = panel_says (map (λ j. (goal.Judge-dyn g (j.vtable, j.value)).says j.value) c.args.judges.now.items) in
    each_ok (λ (r : Reply). outcome_of r ≡ answered c.in-Ok.checked) (Replies (IsValidated g.H.Hashing.digest_of said) (g.S.Source.known c.args.media.now)) c.reply_to_answer.result (λ r out file known.
    (c.in-Ok.checked, (c.in-Ok.ensures.answer file known).is, out)) c.reply_to_answer.ensures.reply

pub returns-in-Ok-clause-words : goal.returns-in-Ok-clause-words
returns-in-Ok-clause-words g c = answered_words c.in-Ok.checked c.reply_to_answer.result c.reply_to_answer.ensures.reply

pub returns-in-Ok-clause-media : goal.returns-in-Ok-clause-media
returns-in-Ok-clause-media g c =
    reads_then g.S.Source.len g.S.Source.known g.S.Source.faults IsCheckReadCause IsPanelCause c.args.media.now c.validate.new.source c.in-Ok.checked c.reply_to_answer.result
    (memory_only (IsPanelCause (g.S.Source.faults c.args.media.now) (g.S.Source.faults c.validate.new.source)) c.reply_to_answer.result tt c.reply_to_answer.ensures.memory) c.in-Ok.ensures.reads

pub returns-in-Ok-clause-panel : goal.returns-in-Ok-clause-panel
returns-in-Ok-clause-panel g c =
    let Asks = AsksKnown (g.S.Source.known c.args.media.now) (FileAsks g.H.Hashing.digest_of) in
    hears_later _ _ _ validate_heard fault_heard Asks Asks c.args.judges.now c.validate.new.judges c.in-Ok.checked c.reply_to_answer.result (unbroken c.reply_to_answer.result c.reply_to_answer.ensures.memory) (λ qs asks. asks) c.in-Ok.ensures.panel

-- ---- it fails

pub returns-in-Err-clause-media : goal.returns-in-Err-clause-media
returns-in-Err-clause-media g c =
    reads_error g.S.Source.len g.S.Source.known g.S.Source.faults IsCheckReadCause IsPanelCause c.args.media.now c.validate.new.source c.in-Err.error c.from.result
    (check_cause (g.S.Source.faults c.args.media.now) (g.S.Source.faults c.validate.new.source) c.in-Err.error c.from.result c.from.ensures) c.in-Err.ensures.reads

pub returns-in-Err-clause-panel : goal.returns-in-Err-clause-panel
returns-in-Err-clause-panel g c =
    let Asks = AsksKnown (g.S.Source.known c.args.media.now) (FileAsks g.H.Hashing.digest_of) in
    hears_error _ _ _ validate_heard fault_heard Asks Asks c.args.judges.now c.validate.new.judges c.in-Err.error c.from.result (check_heard c.in-Err.error c.from.result c.from.ensures) (λ qs asks. asks) c.in-Err.ensures.panel
