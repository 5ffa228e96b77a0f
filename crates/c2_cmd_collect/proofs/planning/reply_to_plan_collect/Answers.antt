use Rattle.std.proofs.Common.{map}
use Rattle.c2_spec.specs.Judges.Panel.{panel_says}
use Rattle.c2_collect_spec.specs.Outcomes.{IsCollectPlanned}
use Rattle.c2_build_collect.specs.Grounds.{ground_effects}
use Rattle.c2_cmd_written_spec.specs.Builds.{tbs_outcome}
use Rattle.c2_cmd_written_spec.proofs.Builds.{build_within}
use Rattle.c2_cmd_written_spec.proofs.Left.{panel_left, source_left}
use Rattle.c2_cmd_collect.proofs.Answered.{plan_replied}
use Rattle.c2_cmd_collect.proofs.planning.reply_to_plan_collect.Goals as goal

-- what is replied is what the files come to
pub returns-clause-reply : goal.returns-clause-reply
returns-clause-reply g c = λ a known b told o others.
    let said = panel_says (map (λ j. (goal.Judge-dyn g (j.vtable, j.value)).says j.value) c.args.judges.now.items) in
    plan_replied (IsCollectPlanned g.H.Hashing.digest_of said a b o) c.plan_collect-planned.result
    c.planned_reply.result
    (c.plan_collect-planned.ensures.planned a known b told o others) c.planned_reply.ensures.reply

pub returns-clause-within : goal.returns-clause-within
returns-clause-within g c =
    build_within tbs_outcome ground_effects _
    (g.A.Source.faults c.args.media.now) (g.A.Source.faults c.plan_collect-planned.new.media)
    c.plan_collect-planned.result c.planned_reply.result c.plan_collect-planned.ensures.sources.media.cause
    c.planned_reply.ensures.reply

-- ---- what is left of each file and of the judges

pub returns-clause-sources : goal.returns-clause-sources
returns-clause-sources g c = record {
  media = source_left g.A.Source.len g.A.Source.known g.A.Source.faults tbs_outcome ground_effects _
      c.args.media.now c.plan_collect-planned.new.media c.plan_collect-planned.result c.planned_reply.result
      c.plan_collect-planned.ensures.sources.media c.planned_reply.ensures.reply c.planned_reply.ensures.fault;
  definition = source_left g.B.Source.len g.B.Source.known g.B.Source.faults tbs_outcome ground_effects _
      c.args.definition.now c.plan_collect-planned.new.definition c.plan_collect-planned.result c.planned_reply.result
      c.plan_collect-planned.ensures.sources.definition c.planned_reply.ensures.reply c.planned_reply.ensures.fault;
  other = source_left g.D.Source.len g.D.Source.known g.D.Source.faults tbs_outcome ground_effects _
      c.args.other.now c.plan_collect-planned.new.other c.plan_collect-planned.result c.planned_reply.result
      c.plan_collect-planned.ensures.sources.other c.planned_reply.ensures.reply c.planned_reply.ensures.fault;
}

pub returns-clause-panel : goal.returns-clause-panel
returns-clause-panel g c =
    panel_left _ _ _ _ c.args.judges.now c.plan_collect-planned.new.judges tbs_outcome c.plan_collect-planned.result
    c.planned_reply.result
    c.plan_collect-planned.ensures.panel c.planned_reply.ensures.reply c.planned_reply.ensures.fault
