use Rattle.c2_read_manifests.proofs.TheLaws.{one_question}
use Rattle.c2_read_manifests.proofs.laws.one_question.Goals as goal

pub returns : goal.returns
returns c = one_question
