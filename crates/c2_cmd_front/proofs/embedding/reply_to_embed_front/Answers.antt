use Rattle.c2_opening.proofs.TheLaws.{one_opening_file}
use Rattle.c2_new_front_spec.proofs.TheLaws.{a_front_comes_to_one_thing_made}
use Rattle.std.proofs.Common.{refl}
use Rattle.c2_build_front.specs.Answers.{embed_effects}
use Rattle.c2_cmd_written_spec.specs.Builds.{build_says, embedded_outcome}
use Rattle.c2_cmd_written_spec.proofs.Builds.{build_within, build_words}
use Rattle.c2_cmd_written_spec.proofs.Calls.{words_reply}
use Rattle.c2_cmd_written_spec.proofs.Left.{sink_left, source_left}
use Rattle.c2_cmd_front.proofs.Making.{front_made}
use Rattle.c2_cmd_front.proofs.embedding.reply_to_embed_front.Goals as goal

-- what is replied and written is what the files come to
pub returns-clause-made : goal.returns-clause-made
returns-clause-made g c = λ a known b told m spoken.
    front_made g.K.Sink.written g.K.Sink.spare g.K.Sink.finished g.H.Hashing.digest_of a b m
    c.args.out.now c.embed_front-embedded.new.out c.embed_front-embedded.result c.embedded_reply.result
    (λ x y. a_front_comes_to_one_thing_made g.H.Hashing.digest_of a b m x y (one_opening_file a))
    (c.embed_front-embedded.ensures.embedded a known b told m spoken) c.embed_front-embedded.ensures.sink.ends
    c.embedded_reply.ensures.reply c.embedded_reply.ensures.fault

pub returns-clause-words : goal.returns-clause-words
returns-clause-words g c =
    words_reply (build_says embedded_outcome c.embed_front-embedded.result) c.embedded_reply.result
    (build_words embedded_outcome c.embed_front-embedded.result (λ x. refl)) c.embedded_reply.ensures.reply

pub returns-clause-within : goal.returns-clause-within
returns-clause-within g c =
    build_within embedded_outcome embed_effects _
    (g.A.Source.faults c.args.media.now) (g.A.Source.faults c.embed_front-embedded.new.media)
    c.embed_front-embedded.result c.embedded_reply.result c.embed_front-embedded.ensures.sources.media.cause
    c.embedded_reply.ensures.reply

pub returns-clause-sources : goal.returns-clause-sources
returns-clause-sources g c = record {
  media = source_left g.A.Source.len g.A.Source.known g.A.Source.faults embedded_outcome embed_effects _
      c.args.media.now c.embed_front-embedded.new.media c.embed_front-embedded.result c.embedded_reply.result
      c.embed_front-embedded.ensures.sources.media c.embedded_reply.ensures.reply c.embedded_reply.ensures.fault;
  definition = source_left g.B.Source.len g.B.Source.known g.B.Source.faults embedded_outcome embed_effects _
      c.args.definition.now c.embed_front-embedded.new.definition c.embed_front-embedded.result c.embedded_reply.result
      c.embed_front-embedded.ensures.sources.definition c.embedded_reply.ensures.reply c.embedded_reply.ensures.fault;
  message = source_left g.C.Source.len g.C.Source.known g.C.Source.faults embedded_outcome embed_effects _
      c.args.message.now c.embed_front-embedded.new.signature c.embed_front-embedded.result c.embedded_reply.result
      c.embed_front-embedded.ensures.sources.message c.embedded_reply.ensures.reply c.embedded_reply.ensures.fault;
}

pub returns-clause-out : goal.returns-clause-out
returns-clause-out g c =
    sink_left g.K.Sink.written g.K.Sink.finished g.K.Sink.faults embedded_outcome
    c.args.out.now c.embed_front-embedded.new.out c.embed_front-embedded.result c.embedded_reply.result
    (λ x. refl) c.embed_front-embedded.ensures.sink.writes c.embed_front-embedded.ensures.sink.ends
    c.embedded_reply.ensures.reply c.embedded_reply.ensures.fault
