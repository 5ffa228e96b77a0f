use Rattle.std.proofs.Common.{refl}
use Rattle.c2_new_front_spec.specs.Outcomes.{IsFrontPlanned}
use Rattle.c2_build_front.specs.Answers.{plan_effects}
use Rattle.c2_cmd_written_spec.specs.Builds.{build_says, tbs_outcome}
use Rattle.c2_cmd_written_spec.proofs.Builds.{build_within, build_words}
use Rattle.c2_cmd_written_spec.proofs.Calls.{words_reply}
use Rattle.c2_cmd_written_spec.proofs.Left.{source_left}
use Rattle.c2_cmd_front.proofs.Answered.{plan_replied}
use Rattle.c2_cmd_front.proofs.planning.reply_to_plan_front.Goals as goal

-- what is replied is what the files come to
pub returns-clause-reply : goal.returns-clause-reply
returns-clause-reply g c = λ a known b told.
    plan_replied (IsFrontPlanned g.H.Hashing.digest_of a b) c.plan_front-planned.result c.planned_reply.result
    (c.plan_front-planned.ensures.planned a known b told) c.planned_reply.ensures.reply

pub returns-clause-words : goal.returns-clause-words
returns-clause-words g c =
    words_reply (build_says tbs_outcome c.plan_front-planned.result) c.planned_reply.result
    (build_words tbs_outcome c.plan_front-planned.result (λ x. refl)) c.planned_reply.ensures.reply

pub returns-clause-within : goal.returns-clause-within
returns-clause-within g c =
    build_within tbs_outcome plan_effects _
    (g.A.Source.faults c.args.media.now) (g.A.Source.faults c.plan_front-planned.new.media)
    c.plan_front-planned.result c.planned_reply.result c.plan_front-planned.ensures.sources.media.cause
    c.planned_reply.ensures.reply

pub returns-clause-sources : goal.returns-clause-sources
returns-clause-sources g c = record {
  media = source_left g.A.Source.len g.A.Source.known g.A.Source.faults tbs_outcome plan_effects _
      c.args.media.now c.plan_front-planned.new.media c.plan_front-planned.result c.planned_reply.result
      c.plan_front-planned.ensures.sources.media c.planned_reply.ensures.reply c.planned_reply.ensures.fault;
  definition = source_left g.B.Source.len g.B.Source.known g.B.Source.faults tbs_outcome plan_effects _
      c.args.definition.now c.plan_front-planned.new.definition c.plan_front-planned.result c.planned_reply.result
      c.plan_front-planned.ensures.sources.definition c.planned_reply.ensures.reply c.planned_reply.ensures.fault;
}
