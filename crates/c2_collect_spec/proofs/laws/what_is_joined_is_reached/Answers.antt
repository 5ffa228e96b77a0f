use Rattle.c2_collect_spec.proofs.TheLaws.{what_is_joined_is_reached_approved, what_is_joined_is_reached_questions, what_is_joined_is_reached_reached}
use Rattle.c2_collect_spec.proofs.laws.what_is_joined_is_reached.Goals as goal

pub returns-clause-reached : goal.returns-clause-reached
returns-clause-reached c = what_is_joined_is_reached_reached

pub returns-clause-questions : goal.returns-clause-questions
returns-clause-questions c = what_is_joined_is_reached_questions

pub returns-clause-approved : goal.returns-clause-approved
returns-clause-approved c = what_is_joined_is_reached_approved
