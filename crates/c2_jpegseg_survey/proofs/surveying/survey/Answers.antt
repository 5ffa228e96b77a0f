use Rattle.c2_jpegseg_survey.specs.Surveys.{found_in}
use Rattle.c2_jpegseg_survey.proofs.Answers.{only_said, said_is}
use Rattle.c2_jpegseg_survey.proofs.surveying.survey.Goals as goal

pub returns-clause-found : goal.returns-clause-found
returns-clause-found g c file known = said_is file (found_in c.search.result) (c.search.ensures.found file known)

pub returns-clause-only : goal.returns-clause-only
returns-clause-only g c file known = only_said file (found_in c.search.result) (c.search.ensures.found file known)
