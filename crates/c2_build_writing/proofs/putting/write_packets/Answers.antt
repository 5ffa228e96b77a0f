use Rattle.c2_jpegseg.proofs.TheLaws.{packets_hold_the_store}
use Rattle.std.proofs.Common.{[], refl}
use Rattle.std.proofs.lemmas.Bool.{false≢true}
use Rattle.c2_build_writing.proofs.Written.{spare_over, writes_taken}
use Rattle.c2_build_writing.proofs.putting.write_packets.Goals as goal

-- all was taken
pub returns-in-Ok-clause-step : goal.returns-in-Ok-clause-step
returns-in-Ok-clause-step g c =
    record { all = c.in-Ok.ensures.written; less = c.in-Ok.ensures.spare; same = c.in-Ok.ensures.unfinished }

pub returns-in-Ok-clause-writes : goal.returns-in-Ok-clause-writes
returns-in-Ok-clause-writes g c =
    writes_taken g.K.Sink.written g.K.Sink.spare g.K.Sink.finished g.K.Sink.faults _ c.args.out.now
    c.write_segments.new.sink _ c.in-Ok.ensures.prefix c.in-Ok.ensures.unfinished c.in-Ok.ensures.cause.later
    c.in-Ok.ensures.cause.ok tt

-- a prefix was taken
pub returns-in-Err-clause-step : goal.returns-in-Err-clause-step
returns-in-Err-clause-step g c =
    let holds =
    packets_hold_the_store c.args.store.now c.args.number [] [] c.requires c.ranges.number.fits tt tt refl in
    record {
      prefix = (c.in-Err.ensures.prefix.count, c.in-Err.ensures.prefix.prefix);
      same = c.in-Err.ensures.unfinished;
      over = λ s is. spare_over s _ _ holds.size (λ le. false≢true (c.in-Err.ensures.within s is le));
    }

pub returns-in-Err-clause-writes : goal.returns-in-Err-clause-writes
returns-in-Err-clause-writes g c =
    writes_taken g.K.Sink.written g.K.Sink.spare g.K.Sink.finished g.K.Sink.faults _ c.args.out.now
    c.write_segments.new.sink _ c.in-Err.ensures.prefix c.in-Err.ensures.unfinished c.in-Err.ensures.cause.later tt
    c.in-Err.ensures.cause.failed
