use Rattle.std.proofs.Common.{◌≡◌, ◌≤◌, ◌-◌}
use Rattle.std.specs.Option.{ForSome}
use Rattle.c2_base.specs.Sink.{Spends, StaysSink}
use Rattle.c2_base.specs.Source.{StaysSource}
use Rattle.c2_copying.specs.Writing.{Puts, piece_of}
use Rattle.c2_copying.proofs.copying.copy.Given as goal

-- the bytes up to here were appended, and nothing failed
abbrev pub invariant-pieces : goal.invariant-pieces
invariant-pieces g l = record {
  begun : l.from ≤ l.at;
  within : l.at ≤ l.to;
  read : StaysSource g.S.Source.len g.S.Source.known g.S.Source.faults l.fn.source l.source;
  count : g.S.Source.faults l.source ≡ g.S.Source.faults l.fn.source;
  wrote : StaysSink g.K.Sink.written g.K.Sink.finished g.K.Sink.faults l.fn.sink l.sink;
  out_count : g.K.Sink.faults l.sink ≡ g.K.Sink.faults l.fn.sink;
  spent : Spends (g.K.Sink.spare l.fn.sink) (g.K.Sink.spare l.sink) (l.at - l.from);
  puts : ForSome (g.S.Source.known l.fn.source) (λ file. Puts g.K.Sink.written g.K.Sink.spare g.K.Sink.finished (piece_of file l.from l.at) l.fn.sink l.sink);
}

-- how many bytes are left
abbrev pub decreases-pieces : goal.decreases-pieces
decreases-pieces g l = l.to - l.at
