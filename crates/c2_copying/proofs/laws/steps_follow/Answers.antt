use Rattle.c2_copying.proofs.Kept.{follow_stays}
use Rattle.c2_copying.proofs.Written.{follow}
use Rattle.c2_copying.proofs.laws.steps_follow.Goals as goal

-- what was written
pub returns-clause-steps : goal.returns-clause-steps
returns-clause-steps g c = follow g.K.Sink.written g.K.Sink.spare g.K.Sink.finished

-- what is left
pub returns-clause-stays : goal.returns-clause-stays
returns-clause-stays g c = follow_stays g.K.Sink.written g.K.Sink.finished g.K.Sink.faults
