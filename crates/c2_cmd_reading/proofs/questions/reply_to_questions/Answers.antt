use Rattle.c2_validate.proofs.TheLaws.{one_check_questions}
use Rattle.std.proofs.Common.{◌∙◌, ap, sym, Ok, [], map}
use Rattle.c2_calls_spec.specs.Asks.{AsksKnown, AsksThese}
use Rattle.c2_calls_spec.proofs.PanelLemmas.{hears_early, hears_nobody, hears_same}
use Rattle.c2_calls_spec.proofs.SourceLemmas.{reads_error, reads_then}
use Rattle.c2_spec.specs.Judges.Panel.{panel_says}
use Rattle.c2_rules.specs.Validated.{AreQuestions}
use Rattle.c2_cmd_outcome.specs.Reply.{IsMediaCause, IsPanelCause, Replies, fault_heard}
use Rattle.c2_cmd_outcome.proofs.Replying.{each_ok, no_usage}
use Rattle.c2_cmd_reading.specs.Outcomes.{IsMediaOutcome, IsQuestioned}
use Rattle.c2_cmd_reading.specs.Reading.{questions_in}
use Rattle.c2_cmd_reading.proofs.Faults.{asking_cause, media_cause, nobody_asked}
use Rattle.c2_cmd_reading.proofs.Preparing.{asked_media, prepared_ask, prepared_reply}
use Rattle.c2_cmd_reading.proofs.questions.reply_to_questions.Goals as goal

-- ---- the media can't be read

pub returns-in-Err-clause-media : goal.returns-in-Err-clause-media
returns-in-Err-clause-media g c =
    reads_error g.S.Source.len g.S.Source.known g.S.Source.faults IsMediaCause IsPanelCause c.args.media.now c.prepare.new.media c.in-Err.fault c.in-Err.fault
    (media_cause (g.S.Source.faults c.args.media.now) (g.S.Source.faults c.prepare.new.media) c.in-Err.fault) c.in-Err.ensures.media

pub returns-in-Err-clause-panel : goal.returns-in-Err-clause-panel
returns-in-Err-clause-panel g c =
    hears_early _ _ _ fault_heard (AsksKnown (g.S.Source.known c.args.media.now) (λ file said. AreQuestions file)) c.args.judges.now c.in-Err.fault (nobody_asked _ _ c.in-Err.fault c.in-Err.ensures.media.cause)

-- ---- the reply stands before anybody is asked

pub returns-in-Reply-clause-reply : goal.returns-in-Reply-clause-reply
returns-in-Reply-clause-reply g c file known =
    (prepared_reply file _ c.in-Reply.reply c.in-Reply.is (c.in-Ok.ensures.prepared file known)).1 _

pub returns-in-Reply-clause-media : goal.returns-in-Reply-clause-media
returns-in-Reply-clause-media g c =
    reads_then g.S.Source.len g.S.Source.known g.S.Source.faults IsMediaCause IsPanelCause c.args.media.now c.prepare.new.media c.in-Ok.prepared (Ok c.in-Reply.reply) tt c.in-Ok.ensures.media

pub returns-in-Reply-clause-panel : goal.returns-in-Reply-clause-panel
returns-in-Reply-clause-panel g c =
    hears_nobody _ _ _ fault_heard (AsksKnown (g.S.Source.known c.args.media.now) (λ file said. AreQuestions file)) c.args.judges.now c.in-Reply.reply
    (λ qs asks. one_check_questions asks.0 qs [] asks.2 (prepared_reply asks.0 _ c.in-Reply.reply c.in-Reply.is (c.in-Ok.ensures.prepared asks.0 asks.1)).0)

-- ---- manifests are asked of

pub returns-in-Ask-clause-reply : goal.returns-in-Ask-clause-reply
returns-in-Ask-clause-reply g c =
    let said = panel_says (map (λ j. (goal.Judge-dyn g (j.vtable, j.value)).says j.value) c.args.judges.now.items) in
    each_ok _ (Replies (IsMediaOutcome (IsQuestioned said)) (g.S.Source.known c.args.media.now)) c.ask_all.result (λ r out file known.
    asked_media file said _ c.in-Ask.asked.items r c.as_slice.ensures.value out (prepared_ask file _ c.in-Ask.asked c.in-Ask.is (c.in-Ok.ensures.prepared file known))) c.ask_all.ensures.reply

pub returns-in-Ask-clause-words : goal.returns-in-Ask-clause-words
returns-in-Ask-clause-words g c = each_ok _ _ c.ask_all.result (λ r out. no_usage r _ out) c.ask_all.ensures.reply

pub returns-in-Ask-clause-media : goal.returns-in-Ask-clause-media
returns-in-Ask-clause-media g c =
    reads_then g.S.Source.len g.S.Source.known g.S.Source.faults IsMediaCause IsPanelCause c.args.media.now c.prepare.new.media c.in-Ok.prepared c.ask_all.result (asking_cause _ _ c.ask_all.result c.ask_all.ensures.fault) c.in-Ok.ensures.media

pub returns-in-Ask-clause-panel : goal.returns-in-Ask-clause-panel
returns-in-Ask-clause-panel g c =
    hears_same _ _ _ fault_heard (AsksKnown (g.S.Source.known c.args.media.now) (λ file said. AreQuestions file))
    (AsksThese (questions_in c.as_slice.result.now)) c.args.judges.now c.ask_all.new.judges c.ask_all.result
    (λ qs asks. one_check_questions asks.0 qs (questions_in c.in-Ask.asked.items) asks.2 (prepared_ask asks.0 _ c.in-Ask.asked c.in-Ask.is (c.in-Ok.ensures.prepared asks.0 asks.1)).0 ∙ ap questions_in (sym c.as_slice.ensures.value)) c.ask_all.ensures.panel
