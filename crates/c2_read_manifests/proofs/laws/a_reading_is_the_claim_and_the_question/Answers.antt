use Rattle.c2_read_manifests.proofs.TheLaws.{a_reading_is_the_claim_and_the_question_claim, a_reading_is_the_claim_and_the_question_question}
use Rattle.c2_read_manifests.proofs.laws.a_reading_is_the_claim_and_the_question.Goals as goal

pub returns-clause-claim : goal.returns-clause-claim
returns-clause-claim c = a_reading_is_the_claim_and_the_question_claim

pub returns-clause-question : goal.returns-clause-question
returns-clause-question c = a_reading_is_the_claim_and_the_question_question
