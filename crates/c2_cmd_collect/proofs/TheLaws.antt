-- The laws of this crate, for the proofs of the crates above it.
use Rattle.c2_cmd_collect.proofs.Checks.{has_check}
use Rattle.c2_cmd_collect.specs.Laws.{EachCollectOutcome, EachCollectQuestions, OneCollectOutcome, OneCollectQuestions}
use Rattle.c2_cmd_collect.specs.Outcomes.{embed_outcome, plan_outcome}
use Rattle.c2_collect_spec.proofs.TheLaws.{a_collected_build_asks_one_list_made, a_collected_build_asks_one_list_plan, a_collected_build_comes_to_one_thing_made, a_collected_build_comes_to_one_thing_plan}
use Rattle.c2_collect_spec.proofs.TheLaws.{each_collected_build_asks_a_list_made, each_collected_build_asks_a_list_plan, each_collected_build_comes_to_something_made, each_collected_build_comes_to_something_plan}
use Rattle.c2_opening.proofs.TheLaws.{one_opening_file}
use Rattle.std.proofs.Common.{ap, refl, sym, ◌∙◌}

-- each of both commands comes to one outcome at most, and asks one list of questions at most
pub one_collect_outcome_outcome : OneCollectOutcome
one_collect_outcome_outcome = record {
  plan = λ hash said media definition other x y h k.
      h.2
      ∙ ap plan_outcome (a_collected_build_comes_to_one_thing_plan hash said media definition other h.0 k.0
      (one_opening_file media) (one_opening_file other) h.1 k.1)
      ∙ sym k.2;
  embed = λ hash said media definition message other x y h k.
      h.2
      ∙ ap embed_outcome (a_collected_build_comes_to_one_thing_made hash said media definition message other h.0 k.0
      (one_opening_file media) (one_opening_file other) h.1 k.1)
      ∙ sym k.2;
}

-- each of both commands comes to one outcome at most, and asks one list of questions at most
pub one_collect_outcome_questions : OneCollectQuestions
one_collect_outcome_questions = record {
  plan = λ hash said media definition other ps qs.
      a_collected_build_asks_one_list_plan hash said media definition other ps qs (one_opening_file media) (one_opening_file other);
  embed = λ hash said media definition message other ps qs.
      a_collected_build_asks_one_list_made hash said media definition message other ps qs (one_opening_file media)
      (one_opening_file other);
}

-- each of both commands comes to an outcome and asks a list of questions where its media files and its message are bytes
pub each_collect_outcome_outcome : EachCollectOutcome
each_collect_outcome_outcome = record {
  plan = λ hash said media definition other bytes others.
      let r =
      each_collected_build_comes_to_something_plan hash said media definition other (has_check hash said media bytes)
      (has_check hash said other others) in
      (plan_outcome r.0, (r.0, r.1, refl));
  embed = λ hash said media definition message other bytes more others.
      let r =
      each_collected_build_comes_to_something_made hash said media definition message other
      (has_check hash said media bytes) (has_check hash said other others) more in
      (embed_outcome r.0, (r.0, r.1, refl));
}

-- each of both commands comes to an outcome and asks a list of questions where its media files and its message are bytes
pub each_collect_outcome_questions : EachCollectQuestions
each_collect_outcome_questions = record {
  plan = λ hash said media definition other bytes others.
      each_collected_build_asks_a_list_plan hash said media definition other (has_check hash said media bytes)
      (has_check hash said other others);
  embed = λ hash said media definition message other bytes more others.
      each_collected_build_asks_a_list_made hash said media definition message other (has_check hash said media bytes)
      (has_check hash said other others) more;
}
