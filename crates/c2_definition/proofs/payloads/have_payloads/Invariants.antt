use Rattle.c2_definition.proofs.PayloadSteps.{AllFrom}
use Rattle.c2_definition.proofs.payloads.have_payloads.Given as goal

-- those so far are for their boxes
abbrev pub invariant-loop-assertion : goal.invariant-loop-assertion
invariant-loop-assertion l = AllFrom l.list l.assertion-index
