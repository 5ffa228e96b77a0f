use Rattle.std.proofs.Common.{length, take, drop, ◌-◌, ◌+◌, ◌≡◌, ◌≤◌}
use Rattle.std.specs.Option.{ForSome}
use Rattle.c2_base.specs.Source.{StaysSource}
use Rattle.c2_base.proofs.calls.fill_at.Given as goal

abbrev pub invariant-reads : goal.invariant-reads
invariant-reads g l = record {
  in_buf : l.done ≤ length l.buf;
  in_source : l.pos + length l.buf ≤ g.S.Source.len l.initial.source;
  stays : StaysSource g.S.Source.len g.S.Source.known g.S.Source.faults l.initial.source l.source;
  count : g.S.Source.faults l.source ≡ g.S.Source.faults l.initial.source;
  front : ForSome (g.S.Source.known l.initial.source) (λ bytes. take l.done l.buf ≡ take l.done (drop l.pos bytes));
}

abbrev pub decreases-reads : goal.decreases-reads
decreases-reads g l = length l.initial.buf - l.done
