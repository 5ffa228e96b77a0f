use Rattle.std.proofs.Common.{Err, Ok, refl}
use Rattle.std.specs.Option.{option_to_list}
use Rattle.c2_calls_spec.specs.Asks.{AsksThese}
use Rattle.c2_calls_spec.proofs.PanelLemmas.{hears_error, hears_later}
use Rattle.c2_cmd_outcome.specs.Reply.{fault_heard}
use Rattle.c2_cmd_outcome.specs.declared.reply.Fault.TheVariants.{Memory}
use Rattle.c2_cmd_reading.proofs.questions.push_line.Goals as goal

-- there is no line
pub returns-in-Err-clause-panel : goal.returns-in-Err-clause-panel
returns-in-Err-clause-panel g c =
    let Asks = AsksThese (option_to_list c.args.one.now.question) in
    hears_error _ _ _ fault_heard fault_heard Asks Asks c.args.judges.now c.line_of.new.judges c.in-Err.fault c.in-Err.fault refl (λ qs asks. asks) c.in-Err.ensures.panel

-- the line is appended
pub returns-in-Ok-push_str-clause-panel : goal.returns-in-Ok-push_str-clause-panel
returns-in-Ok-push_str-clause-panel g c =
    let Asks = AsksThese (option_to_list c.args.one.now.question) in
    hears_later _ _ _ fault_heard fault_heard Asks Asks c.args.judges.now c.line_of.new.judges c.in-Ok.line (Ok tt) tt (λ qs asks. asks) c.in-Ok.ensures.panel

-- or there is no memory for it
pub returns-clause-panel : goal.returns-clause-panel
returns-clause-panel g c =
    let Asks = AsksThese (option_to_list c.args.one.now.question) in
    hears_later _ _ _ fault_heard fault_heard Asks Asks c.args.judges.now c.line_of.new.judges c.in-Ok.line (Err Memory) (λ same. cc (same)) (λ qs asks. asks) c.in-Ok.ensures.panel
