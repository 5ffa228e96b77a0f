use Rattle.std.proofs.Common.{[]}
use Rattle.c2_spec.specs.declared.digest.Alg.TheVariants.{Sha256}
use Rattle.c2_spec.specs.Judges.Question.{question_bytes}
use Rattle.c2_judge.proofs.question.question_id.Goals as goal

pub returns : goal.returns
returns c =
    c.finish.ensures Sha256 (question_bytes c.args.q.now) (c.update_question.ensures Sha256 [] c.start-state.ensures)
