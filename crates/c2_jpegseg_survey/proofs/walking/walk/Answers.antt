use Rattle.c2_jpegseg_survey.proofs.walking.walk.Goals as goal

pub returns-clause-walk : goal.returns-clause-walk
returns-clause-walk g c = record {
  count = c.walked.ensures.count;
  cause = c.walked.ensures.cause;
  within = c.walked.ensures.within;
  store = c.walked.ensures.store;
  error = c.walked.ensures.error;
  walked = c.walked.ensures.walked;
}
