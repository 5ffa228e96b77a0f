use Rattle.std.proofs.Common.{◌∷◌, [], Err, Some, refl}
use Rattle.c2_calls_spec.specs.Asks.{AsksThese}
use Rattle.c2_calls_spec.proofs.PanelLemmas.{hears_failed, hears_later, hears_one}
use Rattle.c2_cmd_outcome.specs.Reply.{fault_heard}
use Rattle.c2_cmd_outcome.specs.declared.reply.Fault.TheVariants.{Judge, Memory}
use Rattle.c2_cmd_reading.proofs.questions.ask.Goals as goal

-- a judge failed
pub returns-in-Err-clause-panel : goal.returns-in-Err-clause-panel
returns-in-Err-clause-panel g c =
    hears_failed _ _ _ fault_heard c.args.judges.now c.ask_panel.new.judges (Some c.args.question.now) c.args.question.now _ Judge refl refl c.in-Err.ensures.asks c.in-Err.ensures.leaves c.in-Err.ensures.len

-- the panel was asked the question
pub returns-in-Ok-question_line-clause-panel : goal.returns-in-Ok-question_line-clause-panel
returns-in-Ok-question_line-clause-panel g c =
    hears_one _ _ _ fault_heard c.args.judges.now c.ask_panel.new.judges (Some c.args.question.now) c.args.question.now c.in-Ok.verdict c.in-Ok-question_line.line refl c.in-Ok.ensures.asks c.in-Ok.ensures.leaves c.in-Ok.ensures.len

-- and then there was no memory for the line
pub returns-in-Err-question_line-clause-panel : goal.returns-in-Err-question_line-clause-panel
returns-in-Err-question_line-clause-panel g c =
    let Asks = AsksThese (c.args.question.now ∷ []) in
    hears_later _ _ _ fault_heard fault_heard Asks Asks c.args.judges.now c.ask_panel.new.judges c.in-Ok.verdict (Err Memory) (λ same. cc (same)) (λ qs asks. asks)
    (hears_one _ _ _ fault_heard c.args.judges.now c.ask_panel.new.judges (Some c.args.question.now) c.args.question.now c.in-Ok.verdict c.in-Ok.verdict refl c.in-Ok.ensures.asks c.in-Ok.ensures.leaves c.in-Ok.ensures.len)
