use Rattle.c2_base.specs.Sink.{unsaid}
use Rattle.c2_sidecar.specs.Extracts as extracts
use Rattle.c2_cmd_outcome.specs.Reply.{IsCopyingCause, IsOutputCause}
use Rattle.c2_cmd_written_spec.proofs.Calls.{ends_reply, makes_reply, reads_reply, words_reply, writes_reply}
use Rattle.c2_cmd_extract.specs.Faults.{extract_says}
use Rattle.c2_cmd_extract.specs.Outcomes.{IsExtractOutcome}
use Rattle.c2_cmd_extract.proofs.Making.{extract_fits, extract_outcome, extract_reads, extract_within, extract_words, extract_writes}
use Rattle.c2_cmd_extract.proofs.extract.reply_to_extract.Goals as goal

pub returns-clause-made : goal.returns-clause-made
returns-clause-made g c = λ file known.
    makes_reply g.K.Sink.written g.K.Sink.finished (extracts.Writes file) (IsExtractOutcome file) c.args.out.now
    c.extract-extracted.new.out (extracts.ending_of c.extract-extracted.result)
    (extract_says c.extract-extracted.result) c.reply_to_call.result
    (extract_fits c.extract-extracted.result) (c.extract-extracted.ensures.written file known).wrote
    c.extract-extracted.ensures.ends
    (extract_outcome c.each_file_is_extracted.ensures.text file c.extract-extracted.result (c.extract-extracted.ensures.answer file known))
    c.reply_to_call.ensures.reply c.reply_to_call.ensures.fault

pub returns-clause-words : goal.returns-clause-words
returns-clause-words g c =
    words_reply (extract_says c.extract-extracted.result) c.reply_to_call.result
    (extract_words c.extract-extracted.result) c.reply_to_call.ensures.reply

pub returns-clause-within : goal.returns-clause-within
returns-clause-within g c =
    extract_within (g.S.Source.len c.args.media.now) c.extract-extracted.result c.reply_to_call.result
    c.extract-extracted.ensures.within c.reply_to_call.ensures.reply

pub returns-clause-media : goal.returns-clause-media
returns-clause-media g c =
    reads_reply g.S.Source.len g.S.Source.known g.S.Source.faults IsCopyingCause c.args.media.now
    c.extract-extracted.new.source (extract_says c.extract-extracted.result) c.reply_to_call.result
    tt c.extract-extracted.ensures.reads.stays
    (extract_reads (g.S.Source.faults c.args.media.now) (g.S.Source.faults c.extract-extracted.new.source) c.extract-extracted.result c.extract-extracted.ensures.reads.quiet c.extract-extracted.ensures.reads.cause)
    c.reply_to_call.ensures.reply c.reply_to_call.ensures.fault

pub returns-clause-writes : goal.returns-clause-writes
returns-clause-writes g c =
    writes_reply g.K.Sink.written unsaid g.K.Sink.faults IsOutputCause c.args.out.now c.extract-extracted.new.out
    (extract_says c.extract-extracted.result) c.reply_to_call.result
    tt c.extract-extracted.ensures.writes.stays
    (extract_writes (g.K.Sink.faults c.args.out.now) (g.K.Sink.faults c.extract-extracted.new.out) c.extract-extracted.result c.extract-extracted.ensures.writes.quiet c.extract-extracted.ensures.writes.cause)
    c.reply_to_call.ensures.reply c.reply_to_call.ensures.fault

pub returns-clause-ends : goal.returns-clause-ends
returns-clause-ends g c =
    ends_reply g.K.Sink.finished g.K.Sink.faults c.args.out.now c.extract-extracted.new.out
    (extracts.ending_of c.extract-extracted.result) (extract_says c.extract-extracted.result) c.reply_to_call.result
    (extract_fits c.extract-extracted.result) c.extract-extracted.ensures.ends
    (extract_writes (g.K.Sink.faults c.args.out.now) (g.K.Sink.faults c.extract-extracted.new.out) c.extract-extracted.result c.extract-extracted.ensures.writes.quiet c.extract-extracted.ensures.writes.cause)
    c.reply_to_call.ensures.reply c.reply_to_call.ensures.fault
