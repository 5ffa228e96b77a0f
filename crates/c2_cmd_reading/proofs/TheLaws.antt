-- The laws of this crate, for the proofs of the crates above it.
use Rattle.c2_cmd_reading.proofs.EachOutcome.{each_compare_asks, each_outcome}
use Rattle.c2_cmd_reading.proofs.OneOutcome.{one_outcome}
use Rattle.c2_cmd_reading.specs.Laws.{EachReadingOutcome, EachReadingQuestions, OneReadingOutcome, OneReadingQuestions}
use Rattle.c2_compare_spec.proofs.TheLaws.{one_comparison_asks}
use Rattle.c2_opening.proofs.TheLaws.{one_opening_file}
use Rattle.c2_validate.proofs.TheLaws.{each_file_has_a_check_asks, each_file_has_a_check_questions, each_file_has_an_external_check_asks, one_check_asks, one_check_questions, one_external_check_asks}

-- each command that reads comes to one outcome at most, and asks one list of questions at most
pub one_reading_outcome_outcome : OneReadingOutcome
one_reading_outcome_outcome = one_outcome

-- each command that reads comes to one outcome at most, and asks one list of questions at most
pub one_reading_outcome_questions : OneReadingQuestions
one_reading_outcome_questions = record {
  questions = one_check_questions;
  validate = one_check_asks;
  compare =
      λ hash said first second. one_comparison_asks hash said first second (one_opening_file first) (one_opening_file second);
  external = λ hash said file store. one_external_check_asks hash store file said;
}

-- each command that reads comes to an outcome and asks a list of questions, where its files are bytes
pub each_reading_outcome_outcome : EachReadingOutcome
each_reading_outcome_outcome = each_outcome

-- each command that reads comes to an outcome and asks a list of questions, where its files are bytes
pub each_reading_outcome_questions : EachReadingQuestions
each_reading_outcome_questions = record {
  questions = each_file_has_a_check_questions;
  validate = each_file_has_a_check_asks;
  compare = each_compare_asks;
  external = λ hash said file store held other. each_file_has_an_external_check_asks hash store file said held other;
}
