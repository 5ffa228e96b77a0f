use Rattle.std.proofs.Common.{◌≡◌, ℕ, ◌+◌, ◌-◌, take, length, refl, subst, ◌∙◌, arith}
use Rattle.std.proofs.lemmas.List.{length-take-le}
use Rattle.c2_base.specs.Sink.{Spends}
use Rattle.c2_copying.specs.Writing.{IsCopyReadCause, IsCopyWriteCause, Puts, ending_of, piece_of}
use Rattle.c2_copying.proofs.Kept.{reads_then, writes_then}
use Rattle.c2_base.proofs.Growing.{stays_still, stays_then}
use Rattle.c2_copying.proofs.Spares.{over_behind, spends_none, spends_two}
use Rattle.c2_copying.proofs.Written.{next_breaks, next_piece, puts_none}
use Rattle.c2_copying.proofs.copying.copy.Goals as goal
use Rattle.c2_base.proofs.Written.{source_stays}

-- nothing yet
pub pieces-init : goal.pieces-init
pieces-init g c = record {
  begun = omega arith;
  within = c.requires.ordered;
  read = record { same_len = refl; same_bytes = refl; later = omega arith };
  count = refl;
  wrote = stays_still g.K.Sink.written g.K.Sink.finished g.K.Sink.faults c.args.sink.now;
  out_count = refl;
  spent = spends_none (g.K.Sink.spare c.args.sink.now) (c.args.from - c.args.from) (omega arith);
  puts = λ file known. puts_none g.K.Sink.written g.K.Sink.spare g.K.Sink.finished file c.args.from c.args.sink.now;
}

-- a piece isn't written
pub returns-in-Err-clause-step : goal.returns-in-Err-clause-step
returns-in-Err-clause-step g c = λ file known.
    let before = c.pieces.invariant in
    let size : length (take c.min-len.result c.pieces.buf) ≡ c.min-len.result =
    length-take-le c.min-len.result c.pieces.buf (omega (arith, c.min-len.ensures)) in
    next_breaks g.K.Sink.written g.K.Sink.spare g.K.Sink.finished file c.args.from c.pieces.at c.args.to c.min-len.result (length (take c.min-len.result c.pieces.buf)) c.args.sink.now c.pieces.sink c.copy_piece.new.sink (ending_of c.in-Err.error)
    before.begun (omega (arith, c.min-len.ensures, before.within, c.pieces-test.true)) size (before.puts file known) (c.in-Err.ensures.step file (before.read.same_bytes ∙ known))

-- nor is then what a stated spare has room for
pub returns-in-Err-clause-spare : goal.returns-in-Err-clause-spare
returns-in-Err-clause-spare g c =
    let before = c.pieces.invariant in
    let size : length (take c.min-len.result c.pieces.buf) ≡ c.min-len.result =
    length-take-le c.min-len.result c.pieces.buf (omega (arith, c.min-len.ensures)) in
    over_behind (ending_of c.in-Err.error) (g.K.Sink.spare c.args.sink.now) (g.K.Sink.spare c.pieces.sink)
    (c.pieces.at - c.args.from) (length (take c.min-len.result c.pieces.buf)) (c.args.to - c.args.from)
    before.spent c.in-Err.ensures.spare (omega (arith, size, before.begun, c.min-len.ensures, before.within, c.pieces-test.true))

pub returns-in-Err-clause-reads : goal.returns-in-Err-clause-reads
returns-in-Err-clause-reads g c =
    reads_then g.S.Source.len g.S.Source.known g.S.Source.faults IsCopyReadCause c.args.source.now c.pieces.source c.copy_piece.new.source _ c.pieces.invariant.read c.pieces.invariant.count c.in-Err.ensures.reads

pub returns-in-Err-clause-writes : goal.returns-in-Err-clause-writes
returns-in-Err-clause-writes g c =
    writes_then g.K.Sink.written g.K.Sink.finished g.K.Sink.faults IsCopyWriteCause c.args.sink.now c.pieces.sink c.copy_piece.new.sink _ c.pieces.invariant.wrote c.pieces.invariant.out_count c.in-Err.ensures.writes

-- one piece more is written
pub pieces-preserved : goal.pieces-preserved
pieces-preserved g c =
    let before = c.pieces.invariant in
    let call = c.in-Ok.ensures in
    let size : length (take c.min-len.result c.pieces.buf) ≡ c.min-len.result =
    length-take-le c.min-len.result c.pieces.buf (omega (arith, c.min-len.ensures)) in
    record {
      begun = omega (arith, before.begun);
      within = omega (arith, c.min-len.ensures, before.within, c.pieces-test.true);
      read =
          source_stays g.S.Source.len g.S.Source.known g.S.Source.faults c.args.source.now c.pieces.source
          c.copy_piece.new.source before.read call.reads.stays;
      count = call.reads.quiet ∙ before.count;
      wrote =
          stays_then g.K.Sink.written g.K.Sink.finished g.K.Sink.faults c.args.sink.now c.pieces.sink
          c.copy_piece.new.sink before.wrote call.writes.stays;
      out_count = call.writes.quiet ∙ before.out_count;
      spent =
          spends_two (g.K.Sink.spare c.args.sink.now) (g.K.Sink.spare c.pieces.sink) (g.K.Sink.spare c.copy_piece.new.sink)
          (c.pieces.at - c.args.from) (length (take c.min-len.result c.pieces.buf)) (c.pieces.at + c.min-len.result - c.args.from)
          before.spent call.spare (omega (arith, size, before.begun));
      puts = λ file known.
          next_piece g.K.Sink.written g.K.Sink.spare g.K.Sink.finished file c.args.from c.pieces.at c.min-len.result
          (length (take c.min-len.result c.pieces.buf)) c.args.sink.now c.pieces.sink c.copy_piece.new.sink
          before.begun size (before.puts file known) (call.step file (before.read.same_bytes ∙ known));
    }

-- of a stated spare all of it is taken
pub returns-clause-spare : goal.returns-clause-spare
returns-clause-spare g c =
    let end : c.pieces.at ≡ c.args.to = omega (arith, c.pieces.invariant.within, c.pieces-test.false) in
    subst (λ (n : ℕ). Spends (g.K.Sink.spare c.args.sink.now) (g.K.Sink.spare c.pieces.sink) (n - c.args.from)) end
    c.pieces.invariant.spent

-- all pieces are
pub returns-clause-step : goal.returns-clause-step
returns-clause-step g c = λ file known.
    let end : c.pieces.at ≡ c.args.to = omega (arith, c.pieces.invariant.within, c.pieces-test.false) in
    subst
    (λ (n : ℕ). Puts g.K.Sink.written g.K.Sink.spare g.K.Sink.finished (piece_of file c.args.from n) c.args.sink.now c.pieces.sink)
    end (c.pieces.invariant.puts file known)
