use Rattle.std.proofs.Common.{ap, List, Option, subst, sym, arith, ℕ, ◌∙◌}
use Rattle.std.proofs.lemmas.Bool.{false≢true}
use Rattle.c2_base.specs.Sink.{Appends, spare_less}
use Rattle.c2_calls_spec.proofs.SourceLemmas.{reads_then}
use Rattle.c2_build_writing.specs.Puts.{put_file, put_file_len}
use Rattle.c2_build_writing.proofs.Written.{writes_finish, writes_unsaid}
use Rattle.c2_build_writing.proofs.putting.write_whole.Goals as goal

-- a source or the sink failed
pub returns-in-Err-clause-written : goal.returns-in-Err-clause-written
returns-in-Err-clause-written g c =
    record { whole = λ file known. c.in-Err.ensures.step file known; over = c.in-Err.ensures.spare; finish = c.in-Err.ensures.writes.stays.unfinished }

pub returns-in-Err-clause-writes : goal.returns-in-Err-clause-writes
returns-in-Err-clause-writes g c =
    writes_unsaid g.K.Sink.written g.K.Sink.finished g.K.Sink.faults c.args.out.now c.write_over.new.out _
    c.in-Err.ensures.writes

-- all was written, and the sink is finished
pub returns-in-Ok-finish-clause-written : goal.returns-in-Ok-finish-clause-written
returns-in-Ok-finish-clause-written g c = record {
  whole = λ file known. record {
    whole =
        subst
        (λ (w : Option (List ℕ)). Appends (g.K.Sink.written c.args.out.now) w (put_file c.args.draft c.args.store.now file))
        (sym c.in-Ok-finish.ensures.written) (c.in-Ok.ensures.step file known).all;
    ends = c.in-Ok-finish.ensures.finished;
  };
  over = tt;
  finish = c.in-Ok-finish.ensures.finished;
}

pub returns-in-Ok-finish-clause-writes : goal.returns-in-Ok-finish-clause-writes
returns-in-Ok-finish-clause-writes g c =
    writes_finish g.K.Sink.written g.K.Sink.finished g.K.Sink.faults c.args.out.now c.write_over.new.out c.finish.new.self _ c.in-Ok.ensures.writes.stays c.in-Ok.ensures.writes.quiet c.in-Ok-finish.ensures.written c.in-Ok-finish.ensures.cause.later c.in-Ok-finish.ensures.cause.ok tt

-- or it can't be
pub returns-in-Err-finish-clause-written : goal.returns-in-Err-finish-clause-written
returns-in-Err-finish-clause-written g c = record {
  whole = λ file known.
      c.steps_follow.ensures.steps.open_end (put_file c.args.draft c.args.store.now file) c.args.out.now c.write_over.new.out c.finish.new.self (c.in-Ok.ensures.step file known) c.in-Err-finish.ensures.written c.in-Err-finish.ensures.unfinished
      (λ s is. false≢true (c.in-Err-finish.ensures.within s is (omega arith)));
  over = λ s there. absurd (false≢true (c.in-Err-finish.ensures.within _ (c.in-Ok.ensures.spare ∙ ap (λ (o : Option ℕ). spare_less o (put_file_len c.args.draft c.args.store.now)) there) (omega arith)));
  finish = c.in-Err-finish.ensures.unfinished ∙ c.in-Ok.ensures.writes.stays.unfinished;
}

pub returns-in-Err-finish-clause-reads : goal.returns-in-Err-finish-clause-reads
returns-in-Err-finish-clause-reads g c =
    reads_then _ _ _ _ _ c.args.base.now c.write_over.new.base c.in-Ok.field-0 _ c.in-Ok.ensures.reads.quiet
    c.in-Ok.ensures.reads

pub returns-in-Err-finish-clause-writes : goal.returns-in-Err-finish-clause-writes
returns-in-Err-finish-clause-writes g c =
    writes_finish g.K.Sink.written g.K.Sink.finished g.K.Sink.faults c.args.out.now c.write_over.new.out c.finish.new.self _ c.in-Ok.ensures.writes.stays c.in-Ok.ensures.writes.quiet c.in-Err-finish.ensures.written c.in-Err-finish.ensures.cause.later tt c.in-Err-finish.ensures.cause.failed
