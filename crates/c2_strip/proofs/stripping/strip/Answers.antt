use Rattle.std.proofs.Common.{Err, Ok, ◌+◌, ◌-◌, ◌≤◌, ◌∙◌, arith, refl, subst}
use Rattle.c2_copying.specs.Writing.{IsOverSpare, ending_of as of_copy}
use Rattle.c2_copying.specs.declared.copying.CopyError.{CopyError}
use Rattle.c2_strip.specs.Answers.{IsAnswerOf, IsStripped, ending_of}
use Rattle.c2_strip.specs.Stripping.{StripsTo}
use Rattle.c2_strip.proofs.Answering.{all_written, idle_ends, idle_file, idle_room, other_idle, part_read, part_written, stays_unsaid, unwritten_idle, unwritten_writes}
use Rattle.c2_strip.proofs.stripping.strip.Goals as goal

-- the container isn't read to its end
pub returns-in-Err-clause-written : goal.returns-in-Err-clause-written
returns-in-Err-clause-written g c = λ file known.
    idle_file g.K.Sink.written g.K.Sink.spare g.K.Sink.finished file c.args.out.now (ending_of (Err c.in-Err.error))
    (unwritten_idle c.in-Err.error c.in-Err.ensures.unwritten)

pub returns-in-Err-clause-spare : goal.returns-in-Err-clause-spare
returns-in-Err-clause-spare g c =
    idle_room (ending_of (Err c.in-Err.error)) _ _ (unwritten_idle c.in-Err.error c.in-Err.ensures.unwritten)

pub returns-in-Err-clause-ends : goal.returns-in-Err-clause-ends
returns-in-Err-clause-ends g c =
    idle_ends g.K.Sink.finished c.args.out.now (ending_of (Err c.in-Err.error))
    (unwritten_idle c.in-Err.error c.in-Err.ensures.unwritten)

pub returns-in-Err-clause-reads : goal.returns-in-Err-clause-reads
returns-in-Err-clause-reads g c = c.in-Err.ensures.reads

pub returns-in-Err-clause-writes : goal.returns-in-Err-clause-writes
returns-in-Err-clause-writes g c =
    unwritten_writes g.K.Sink.written g.K.Sink.faults c.args.out.now c.in-Err.error
    (stays_unsaid g.K.Sink.written g.K.Sink.finished g.K.Sink.faults c.args.out.now c.args.out.now (c.steps_follow.ensures.stays.still c.args.out.now))
    c.in-Err.ensures.unwritten

-- nothing is left out
pub returns-in_default-clause-answer : goal.returns-in_default-clause-answer
returns-in_default-clause-answer g c = c.in-Ok.ensures.answer

pub returns-in_default-clause-written : goal.returns-in_default-clause-written
returns-in_default-clause-written g c = λ file known.
    idle_file g.K.Sink.written g.K.Sink.spare g.K.Sink.finished file c.args.out.now (ending_of (Ok c.in-Ok.answer))
    (other_idle c.in-Ok.answer c.in_default.not-Done)

pub returns-in_default-clause-within : goal.returns-in_default-clause-within
returns-in_default-clause-within g c = c.in-Ok.ensures.within

pub returns-in_default-clause-spare : goal.returns-in_default-clause-spare
returns-in_default-clause-spare g c =
    idle_room (ending_of (Ok c.in-Ok.answer)) _ _ (other_idle c.in-Ok.answer c.in_default.not-Done)

pub returns-in_default-clause-ends : goal.returns-in_default-clause-ends
returns-in_default-clause-ends g c =
    idle_ends g.K.Sink.finished c.args.out.now (ending_of (Ok c.in-Ok.answer))
    (other_idle c.in-Ok.answer c.in_default.not-Done)

pub returns-in_default-clause-reads : goal.returns-in_default-clause-reads
returns-in_default-clause-reads g c = c.in-Ok.ensures.reads

pub returns-in_default-clause-writes : goal.returns-in_default-clause-writes
returns-in_default-clause-writes g c = record {
  stays =
      stays_unsaid g.K.Sink.written g.K.Sink.finished g.K.Sink.faults c.args.out.now c.args.out.now
      (c.steps_follow.ensures.stays.still c.args.out.now);
  quiet = refl;
  cause = tt;
}

-- the range is left out
pub write_outside-requires-clause-inside : goal.write_outside-requires-clause-inside
write_outside-requires-clause-inside g c =
    let range = c.in-Done.range in
    let inside : range.start + range.length ≤ g.S.Source.len c.args.source.now =
    subst (IsAnswerOf (g.S.Source.len c.args.source.now)) c.in-Done.is c.in-Ok.ensures.within in
    omega (arith, inside, c.in-Ok.ensures.reads.stays.same_len)

pub returns-in-Ok-write_outside-clause-answer : goal.returns-in-Ok-write_outside-clause-answer
returns-in-Ok-write_outside-clause-answer g c = λ file known.
    subst (IsStripped file) c.in-Done.is (c.in-Ok.ensures.answer file known)

pub returns-in-Ok-write_outside-clause-within : goal.returns-in-Ok-write_outside-clause-within
returns-in-Ok-write_outside-clause-within g c =
    subst (IsAnswerOf (g.S.Source.len c.args.source.now)) c.in-Done.is c.in-Ok.ensures.within

pub returns-in-Ok-write_outside-clause-written : goal.returns-in-Ok-write_outside-clause-written
returns-in-Ok-write_outside-clause-written g c = λ file known.
    all_written g.K.Sink.written g.K.Sink.spare g.K.Sink.finished file c.in-Done.range c.args.out.now
    c.write_outside.new.sink (subst (StripsTo file) c.in-Done.is (c.in-Ok.ensures.answer file known).is)
    (c.in-Ok-write_outside.ensures.whole file (c.in-Ok.ensures.reads.stays.same_bytes ∙ known))

-- the source fails
pub returns-in-Err-ReadFault-clause-written : goal.returns-in-Err-ReadFault-clause-written
returns-in-Err-ReadFault-clause-written g c = λ file known.
    part_read g.K.Sink.written g.K.Sink.spare g.K.Sink.finished file c.in-Done.range c.args.out.now c.write_outside.new.sink _ c.in-Err-ReadFault.field-0-is
    (subst (StripsTo file) c.in-Done.is (c.in-Ok.ensures.answer file known).is) (c.in-Err-ReadFault.ensures.whole file (c.in-Ok.ensures.reads.stays.same_bytes ∙ known))

-- the sink fails
pub returns-in-Err-WriteFault-clause-written : goal.returns-in-Err-WriteFault-clause-written
returns-in-Err-WriteFault-clause-written g c = λ file known.
    part_written g.K.Sink.written g.K.Sink.spare g.K.Sink.finished file c.in-Done.range c.args.out.now c.write_outside.new.sink _ c.in-Err-WriteFault.field-0-is
    (subst (StripsTo file) c.in-Done.is (c.in-Ok.ensures.answer file known).is) (c.in-Err-WriteFault.ensures.whole file (c.in-Ok.ensures.reads.stays.same_bytes ∙ known))

pub returns-in-Err-WriteFault-clause-spare : goal.returns-in-Err-WriteFault-clause-spare
returns-in-Err-WriteFault-clause-spare g c = λ s there.
    let over =
    subst
    (λ (e : CopyError). IsOverSpare (of_copy e) (g.K.Sink.spare c.args.out.now) (g.S.Source.len c.comes_to.new.source - c.in-Done.range.length))
    c.in-Err-WriteFault.field-0-is c.in-Err-WriteFault.ensures.spare in
    omega (arith, over s there, c.in-Ok.ensures.reads.stays.same_len)
