use Rattle.std.proofs.Common.{Some, ap, ◌∙◌}
use Rattle.c2_cmd_reading.proofs.Asked.{asked_here}
use Rattle.c2_cmd_reading.proofs.prepare.asked_of.Goals as goal

-- the label and the question that were read at place `i` are those by which its manifest is asked of
pub returns : goal.returns
returns c =
    asked_here c.args.tree.now c.args.store.now c.args.chain.now c.args.i
    (record { label = c.in_ok-label.label; question = c.in_ok-question.question }) c.requires.chain
    c.requires.inside (ap Some c.in_ok-label.ensures ∙ c.label.ensures) c.in_ok-question.ensures.value
