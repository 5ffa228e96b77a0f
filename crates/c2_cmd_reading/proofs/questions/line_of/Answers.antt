use Rattle.std.proofs.Common.{◌∙◌, ap, sym}
use Rattle.std.specs.Option.{option_to_list}
use Rattle.c2_calls_spec.specs.Asks.{AsksThese}
use Rattle.c2_calls_spec.proofs.PanelLemmas.{hears_nobody}
use Rattle.c2_cmd_outcome.specs.Reply.{fault_heard}
use Rattle.c2_cmd_reading.proofs.Lines.{hears_some}
use Rattle.c2_cmd_reading.proofs.questions.line_of.Goals as goal

-- the manifest has a question
pub returns-in-Some-clause-panel : goal.returns-in-Some-clause-panel
returns-in-Some-clause-panel g c =
    hears_some _ _ _ c.args.one.now.question c.in-Some.question c.args.judges.now c.ask.new.judges c.ask.result (sym c.asked_question.ensures ∙ c.in-Some.is) c.ask.ensures.panel

-- it has none
pub returns-in-Ok-clause-panel : goal.returns-in-Ok-clause-panel
returns-in-Ok-clause-panel g c =
    hears_nobody _ _ _ fault_heard (AsksThese (option_to_list c.args.one.now.question)) c.args.judges.now c.in-Ok.line (λ qs asks. asks ∙ ap option_to_list (sym c.asked_question.ensures ∙ c.in-None.is))
