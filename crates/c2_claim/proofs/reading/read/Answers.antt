use Rattle.c2_claim.proofs.Telling.{answered_fault, no_fault}
use Rattle.c2_claim.proofs.reading.read.Goals as goal

pub returns-in-Err-clause-refused : goal.returns-in-Err-clause-refused
returns-in-Err-clause-refused c =
    λ e h. answered_fault c.args.bytes.now c.in-Err.fault e _ c.unread.ensures c.in-Err.ensures.refused c.in-Err.ensures.early h

pub returns-in_err-claim-clause-refused : goal.returns-in_err-claim-clause-refused
returns-in_err-claim-clause-refused c =
    λ e h. no_fault c.args.bytes.now e c.in-Ok.ensures.refused c.in-Ok.ensures.early h

pub returns-clause-refused : goal.returns-clause-refused
returns-clause-refused c = λ e h. no_fault c.args.bytes.now e c.in-Ok.ensures.refused c.in-Ok.ensures.early h
