-- The laws of this crate, for the proofs of the crates above it.
use Rattle.c2_build_plain.proofs.RestoredLaws as restored
use Rattle.c2_build_plain.proofs.TheLaws.{a_build_asks_one_list_embedding, a_build_asks_one_list_plan, a_build_comes_to_one_thing_plan}
use Rattle.c2_build_plain.proofs.TheLaws.{each_build_asks_a_list_embedding, each_build_asks_a_list_plan}
use Rattle.c2_build_plain.proofs.TheLaws.{each_build_comes_to_something_embedding, each_build_comes_to_something_plan}
use Rattle.c2_build_plain.specs.Restored.{BuiltIsRestored}
use Rattle.c2_cmd_building.proofs.Making.{one_embedding}
use Rattle.c2_cmd_building.specs.Laws.{EachBuildingOutcome, EachBuildingQuestions, OneBuildingOutcome, OneBuildingQuestions}
use Rattle.c2_cmd_building.specs.Outcomes.{embed_outcome, plan_outcome, sample_outcome}
use Rattle.c2_sample.specs.declared.types.Sampled.{Sampled}
use Rattle.c2_sample.specs.declared.types.Sampled.TheVariants as sampled
use Rattle.c2_sample.proofs.TheLaws.{a_sample_comes_to_one_thing_asks, a_sample_comes_to_one_thing_sample}
use Rattle.c2_sample.proofs.TheLaws.{each_sample_comes_to_something_asks, each_sample_comes_to_something_sample}
use Rattle.std.proofs.Common.{◌≡◌, ℕ, None, ap, refl, sym, ◌∙◌}

-- each command that builds comes to one outcome at most, and asks one list of questions at most
pub one_building_outcome_outcome : OneBuildingOutcome
one_building_outcome_outcome = record {
  plan = λ hash said media definition x y h k. h.2 ∙ ap plan_outcome
      (a_build_comes_to_one_thing_plan hash said media definition h.0 k.0 h.1 k.1) ∙ sym k.2;
  embed = one_embedding;
  sample = λ hash said n x y h k. h.2 ∙ ap (sample_outcome n)
      (a_sample_comes_to_one_thing_sample hash said n h.0 k.0 h.1 k.1) ∙ sym k.2;
}

-- each command that builds comes to one outcome at most, and asks one list of questions at most
pub one_building_outcome_questions : OneBuildingQuestions
one_building_outcome_questions = record {
  plan = a_build_asks_one_list_plan;
  embed = a_build_asks_one_list_embedding;
  sample = a_sample_comes_to_one_thing_asks;
}

-- each command that builds comes to an outcome and asks a list of questions where its files are bytes
pub each_building_outcome_outcome : EachBuildingOutcome
each_building_outcome_outcome = record {
  plan = λ hash said media definition bytes.
      let r = each_build_comes_to_something_plan hash said media definition bytes in
      (plan_outcome r.0, (r.0, r.1, refl));
  embed = λ hash said media definition message bytes more.
      let r = each_build_comes_to_something_embedding hash said media definition message bytes more in
      (embed_outcome r.0, (r.0, r.1, refl));
  sample = λ hash said n gives.
      let s = each_sample_comes_to_something_sample hash said n gives in
      (sample_outcome n s.0, (s.0, s.1, refl));
}

-- each command that builds comes to an outcome and asks a list of questions where its files are bytes
pub each_building_outcome_questions : EachBuildingQuestions
each_building_outcome_questions = record {
  plan = each_build_asks_a_list_plan;
  embed = each_build_asks_a_list_embedding;
  sample = each_sample_comes_to_something_asks;
}

-- the file that is built over a media file without a store strips to it
pub a_built_file_is_restored : BuiltIsRestored
a_built_file_is_restored = restored.a_built_file_is_restored

-- what is reported of a sample has no file
pub a_sample_writes_no_file : (n : ℕ) (s : Sampled) → (sample_outcome n s).file ≡ None
a_sample_writes_no_file n (sampled.Checked lengths found) = refl
a_sample_writes_no_file n (sampled.Refused e) = refl
