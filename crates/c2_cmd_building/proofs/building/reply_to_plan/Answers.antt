use Rattle.std.proofs.Common.{map, refl}
use Rattle.c2_spec.specs.Judges.Panel.{panel_says}
use Rattle.c2_build_refusals.specs.Kinds.{judge_effects}
use Rattle.c2_build_plain.specs.Building.{IsPlanned}
use Rattle.c2_cmd_written_spec.specs.Builds.{build_says, tbs_outcome}
use Rattle.c2_cmd_written_spec.proofs.Builds.{build_replied, build_words}
use Rattle.c2_cmd_written_spec.proofs.Calls.{words_reply}
use Rattle.c2_cmd_written_spec.proofs.Left.{panel_left, source_left}
use Rattle.c2_cmd_building.proofs.building.reply_to_plan.Goals as goal

-- the reply reports what the files come to
pub returns-clause-reply : goal.returns-clause-reply
returns-clause-reply g c = λ a known b told.
    let said = panel_says (map (λ j. (goal.Judge-dyn g (j.vtable, j.value)).says j.value) c.args.judges.now.items) in
    build_replied tbs_outcome (IsPlanned g.H.Hashing.digest_of said a b) c.plan-planned.result c.planned_reply.result
    (c.plan-planned.ensures.planned a known b told) c.planned_reply.ensures.reply

pub returns-clause-words : goal.returns-clause-words
returns-clause-words g c =
    words_reply (build_says tbs_outcome c.plan-planned.result) c.planned_reply.result
    (build_words tbs_outcome c.plan-planned.result (λ x. refl)) c.planned_reply.ensures.reply

-- ---- what is left of each file and of the judges

pub returns-clause-sources : goal.returns-clause-sources
returns-clause-sources g c = record {
  media = source_left g.A.Source.len g.A.Source.known g.A.Source.faults tbs_outcome judge_effects _
      c.args.media.now c.plan-planned.new.media c.plan-planned.result c.planned_reply.result
      c.plan-planned.ensures.sources.media c.planned_reply.ensures.reply c.planned_reply.ensures.fault;
  definition = source_left g.B.Source.len g.B.Source.known g.B.Source.faults tbs_outcome judge_effects _
      c.args.definition.now c.plan-planned.new.definition c.plan-planned.result c.planned_reply.result
      c.plan-planned.ensures.sources.definition c.planned_reply.ensures.reply c.planned_reply.ensures.fault;
}

pub returns-clause-panel : goal.returns-clause-panel
returns-clause-panel g c =
    panel_left _ _ _ _ c.args.judges.now c.plan-planned.new.judges tbs_outcome c.plan-planned.result
    c.planned_reply.result
    c.plan-planned.ensures.panel c.planned_reply.ensures.reply c.planned_reply.ensures.fault
