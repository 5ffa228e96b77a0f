use Rattle.std.proofs.Common.{map, refl}
use Rattle.c2_spec.specs.Judges.Panel.{panel_says}
use Rattle.c2_build_plain.specs.Answers.{embed_effects}
use Rattle.c2_cmd_written_spec.specs.Builds.{build_says, embedded_outcome}
use Rattle.c2_cmd_written_spec.proofs.Builds.{build_words}
use Rattle.c2_cmd_written_spec.proofs.Calls.{words_reply}
use Rattle.c2_cmd_written_spec.proofs.Left.{panel_left, sink_left, source_left}
use Rattle.c2_cmd_building.proofs.Making.{file_made}
use Rattle.c2_cmd_building.proofs.building.reply_to_embed.Goals as goal

-- what is replied and written is what the files come to
pub returns-clause-made : goal.returns-clause-made
returns-clause-made g c = λ a known b told m spoken.
    let said = panel_says (map (λ j. (goal.Judge-dyn g (j.vtable, j.value)).says j.value) c.args.judges.now.items) in
    file_made g.K.Sink.written g.K.Sink.spare g.K.Sink.finished
    g.H.Hashing.digest_of said a b m
    c.args.out.now c.embed-embedded.new.out c.embed-embedded.result c.embedded_reply.result
    (c.embed-embedded.ensures.embedded a known b told m spoken) c.embed-embedded.ensures.sink.ends
    c.embedded_reply.ensures.reply c.embedded_reply.ensures.fault

pub returns-clause-words : goal.returns-clause-words
returns-clause-words g c =
    words_reply (build_says embedded_outcome c.embed-embedded.result) c.embedded_reply.result
    (build_words embedded_outcome c.embed-embedded.result (λ x. refl)) c.embedded_reply.ensures.reply

-- ---- what is left of each file and of the judges

pub returns-clause-sources : goal.returns-clause-sources
returns-clause-sources g c = record {
  media = source_left g.A.Source.len g.A.Source.known g.A.Source.faults embedded_outcome embed_effects _
      c.args.media.now c.embed-embedded.new.media c.embed-embedded.result c.embedded_reply.result
      c.embed-embedded.ensures.sources.media c.embedded_reply.ensures.reply c.embedded_reply.ensures.fault;
  definition = source_left g.B.Source.len g.B.Source.known g.B.Source.faults embedded_outcome embed_effects _
      c.args.definition.now c.embed-embedded.new.definition c.embed-embedded.result c.embedded_reply.result
      c.embed-embedded.ensures.sources.definition c.embedded_reply.ensures.reply c.embedded_reply.ensures.fault;
  message = source_left g.C.Source.len g.C.Source.known g.C.Source.faults embedded_outcome embed_effects _
      c.args.message.now c.embed-embedded.new.signature c.embed-embedded.result c.embedded_reply.result
      c.embed-embedded.ensures.sources.message c.embedded_reply.ensures.reply c.embedded_reply.ensures.fault;
}

pub returns-clause-out : goal.returns-clause-out
returns-clause-out g c =
    sink_left g.K.Sink.written g.K.Sink.finished g.K.Sink.faults embedded_outcome
    c.args.out.now c.embed-embedded.new.out c.embed-embedded.result c.embedded_reply.result
    (λ x. refl) c.embed-embedded.ensures.sink.writes c.embed-embedded.ensures.sink.ends
    c.embedded_reply.ensures.reply c.embedded_reply.ensures.fault

pub returns-clause-panel : goal.returns-clause-panel
returns-clause-panel g c =
    panel_left _ _ _ _ c.args.judges.now c.embed-embedded.new.judges embedded_outcome c.embed-embedded.result
    c.embedded_reply.result
    c.embed-embedded.ensures.panel c.embedded_reply.ensures.reply c.embedded_reply.ensures.fault
