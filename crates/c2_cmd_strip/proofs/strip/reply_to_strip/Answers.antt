use Rattle.std.proofs.Common.{Err}
use Rattle.c2_calls_spec.proofs.SinkLemmas.{writes_nothing}
use Rattle.c2_calls_spec.proofs.SourceLemmas.{reads_nothing}
use Rattle.c2_base.specs.Sink.{unsaid}
use Rattle.c2_strip.specs.Answers as strips
use Rattle.c2_cmd_outcome.specs.Reply.{IsCopyingCause, IsOutputCause}
use Rattle.c2_cmd_outcome.specs.declared.reply.Fault.TheVariants.{Memory}
use Rattle.c2_cmd_written_spec.proofs.Calls.{ends_none, ends_reply, made_none, makes_reply, reads_reply, words_reply, writes_reply}
use Rattle.c2_cmd_strip.specs.Faults.{strip_says}
use Rattle.c2_cmd_strip.specs.Outcomes.{IsStripOutcome}
use Rattle.c2_cmd_strip.proofs.Making.{strip_fits, strip_outcome, strip_reads, strip_within, strip_words, strip_writes}
use Rattle.c2_cmd_strip.proofs.strip.reply_to_strip.Goals as goal

-- ---- there is no memory for the buffer

pub returns-in-Err-clause-made : goal.returns-in-Err-clause-made
returns-in-Err-clause-made g c =
    λ file known. made_none g.K.Sink.written g.K.Sink.finished (IsStripOutcome file) c.args.out.now

pub returns-in-Err-clause-media : goal.returns-in-Err-clause-media
returns-in-Err-clause-media g c =
    reads_nothing g.S.Source.len g.S.Source.known g.S.Source.faults IsCopyingCause c.args.media.now (Err Memory) tt

pub returns-in-Err-clause-writes : goal.returns-in-Err-clause-writes
returns-in-Err-clause-writes g c = writes_nothing c.args.out.now (Err Memory) tt

pub returns-in-Err-clause-ends : goal.returns-in-Err-clause-ends
returns-in-Err-clause-ends g c = ends_none g.K.Sink.finished g.K.Sink.faults c.args.out.now

-- ---- the reply to what the call came to

pub returns-clause-made : goal.returns-clause-made
returns-clause-made g c = λ file known.
    makes_reply g.K.Sink.written g.K.Sink.finished (strips.Writes file) (IsStripOutcome file) c.args.out.now
    c.strip-stripped.new.out (strips.ending_of c.strip-stripped.result) (strip_says c.strip-stripped.result)
    c.reply_to_call.result
    (strip_fits c.strip-stripped.result) (c.strip-stripped.ensures.written file known).wrote
    c.strip-stripped.ensures.ends
    (strip_outcome file c.strip-stripped.result (c.strip-stripped.ensures.answer file known))
    c.reply_to_call.ensures.reply c.reply_to_call.ensures.fault

pub returns-clause-words : goal.returns-clause-words
returns-clause-words g c =
    words_reply (strip_says c.strip-stripped.result) c.reply_to_call.result (strip_words c.strip-stripped.result)
    c.reply_to_call.ensures.reply

pub returns-clause-within : goal.returns-clause-within
returns-clause-within g c =
    strip_within (g.S.Source.len c.args.media.now) c.strip-stripped.result c.reply_to_call.result
    c.strip-stripped.ensures.within c.reply_to_call.ensures.reply

pub returns-clause-media : goal.returns-clause-media
returns-clause-media g c =
    reads_reply g.S.Source.len g.S.Source.known g.S.Source.faults IsCopyingCause c.args.media.now
    c.strip-stripped.new.source (strip_says c.strip-stripped.result) c.reply_to_call.result
    tt c.strip-stripped.ensures.reads.stays
    (strip_reads (g.S.Source.faults c.args.media.now) (g.S.Source.faults c.strip-stripped.new.source) c.strip-stripped.result c.strip-stripped.ensures.reads.quiet c.strip-stripped.ensures.reads.cause)
    c.reply_to_call.ensures.reply c.reply_to_call.ensures.fault

pub returns-clause-writes : goal.returns-clause-writes
returns-clause-writes g c =
    writes_reply g.K.Sink.written unsaid g.K.Sink.faults IsOutputCause c.args.out.now c.strip-stripped.new.out
    (strip_says c.strip-stripped.result) c.reply_to_call.result
    tt c.strip-stripped.ensures.writes.stays
    (strip_writes (g.K.Sink.faults c.args.out.now) (g.K.Sink.faults c.strip-stripped.new.out) c.strip-stripped.result c.strip-stripped.ensures.writes.quiet c.strip-stripped.ensures.writes.cause)
    c.reply_to_call.ensures.reply c.reply_to_call.ensures.fault

pub returns-clause-ends : goal.returns-clause-ends
returns-clause-ends g c =
    ends_reply g.K.Sink.finished g.K.Sink.faults c.args.out.now c.strip-stripped.new.out
    (strips.ending_of c.strip-stripped.result) (strip_says c.strip-stripped.result) c.reply_to_call.result
    (strip_fits c.strip-stripped.result) c.strip-stripped.ensures.ends
    (strip_writes (g.K.Sink.faults c.args.out.now) (g.K.Sink.faults c.strip-stripped.new.out) c.strip-stripped.result c.strip-stripped.ensures.writes.quiet c.strip-stripped.ensures.writes.cause)
    c.reply_to_call.ensures.reply c.reply_to_call.ensures.fault
