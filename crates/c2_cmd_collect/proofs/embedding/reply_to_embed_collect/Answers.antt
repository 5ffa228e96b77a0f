use Rattle.std.proofs.Common.{map, refl}
use Rattle.c2_spec.specs.Judges.Panel.{panel_says}
use Rattle.c2_build_collect.specs.Answers.{embed_effects}
use Rattle.c2_cmd_written_spec.specs.Builds.{embedded_outcome}
use Rattle.c2_cmd_written_spec.proofs.Builds.{build_within}
use Rattle.c2_cmd_written_spec.proofs.Left.{panel_left, sink_left, source_left}
use Rattle.c2_cmd_collect.proofs.Making.{collect_made}
use Rattle.c2_cmd_collect.proofs.embedding.reply_to_embed_collect.Goals as goal

-- what is replied and written is what the files come to
pub returns-clause-made : goal.returns-clause-made
returns-clause-made g c = λ a known b told m spoken o others.
    let said = panel_says (map (λ j. (goal.Judge-dyn g (j.vtable, j.value)).says j.value) c.args.judges.now.items) in
    collect_made g.K.Sink.written g.K.Sink.spare g.K.Sink.finished g.H.Hashing.digest_of said a b m o
    c.args.out.now c.embed_collect-embedded.new.out c.embed_collect-embedded.result c.embedded_reply.result
    (c.embed_collect-embedded.ensures.embedded a known b told m spoken o others)
    c.embed_collect-embedded.ensures.sink.ends
    c.embedded_reply.ensures.reply c.embedded_reply.ensures.fault

-- ---- what is left of each file, of the new one and of the judges

pub returns-clause-sources : goal.returns-clause-sources
returns-clause-sources g c = record {
  media = source_left g.A.Source.len g.A.Source.known g.A.Source.faults embedded_outcome embed_effects _
      c.args.media.now c.embed_collect-embedded.new.media c.embed_collect-embedded.result c.embedded_reply.result
      c.embed_collect-embedded.ensures.sources.media c.embedded_reply.ensures.reply c.embedded_reply.ensures.fault;
  definition = source_left g.B.Source.len g.B.Source.known g.B.Source.faults embedded_outcome embed_effects _
      c.args.definition.now c.embed_collect-embedded.new.definition c.embed_collect-embedded.result
      c.embedded_reply.result
      c.embed_collect-embedded.ensures.sources.definition c.embedded_reply.ensures.reply c.embedded_reply.ensures.fault;
  message = source_left g.C.Source.len g.C.Source.known g.C.Source.faults embedded_outcome embed_effects _
      c.args.message.now c.embed_collect-embedded.new.signature c.embed_collect-embedded.result c.embedded_reply.result
      c.embed_collect-embedded.ensures.sources.message c.embedded_reply.ensures.reply c.embedded_reply.ensures.fault;
  other = source_left g.D.Source.len g.D.Source.known g.D.Source.faults embedded_outcome embed_effects _
      c.args.other.now c.embed_collect-embedded.new.other c.embed_collect-embedded.result c.embedded_reply.result
      c.embed_collect-embedded.ensures.sources.other c.embedded_reply.ensures.reply c.embedded_reply.ensures.fault;
}

pub returns-clause-ends : goal.returns-clause-ends
returns-clause-ends g c = record {
  within = build_within embedded_outcome embed_effects _
      (g.A.Source.faults c.args.media.now) (g.A.Source.faults c.embed_collect-embedded.new.media)
      c.embed_collect-embedded.result c.embedded_reply.result c.embed_collect-embedded.ensures.sources.media.cause c.embedded_reply.ensures.reply;
  out = sink_left g.K.Sink.written g.K.Sink.finished g.K.Sink.faults embedded_outcome
      c.args.out.now c.embed_collect-embedded.new.out c.embed_collect-embedded.result c.embedded_reply.result
      (λ x. refl) c.embed_collect-embedded.ensures.sink.writes c.embed_collect-embedded.ensures.sink.ends
      c.embedded_reply.ensures.reply c.embedded_reply.ensures.fault;
}

pub returns-clause-panel : goal.returns-clause-panel
returns-clause-panel g c =
    panel_left _ _ _ _ c.args.judges.now c.embed_collect-embedded.new.judges embedded_outcome
    c.embed_collect-embedded.result c.embedded_reply.result
    c.embed_collect-embedded.ensures.panel c.embedded_reply.ensures.reply c.embedded_reply.ensures.fault
