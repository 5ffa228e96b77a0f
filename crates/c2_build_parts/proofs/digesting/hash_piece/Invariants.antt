use Rattle.std.proofs.Common.{◌≡◌, ◌≤◌, ◌-◌}
use Rattle.c2_base.specs.Source.{StaysSource}
use Rattle.c2_build_parts.specs.Bound.{HasTaken}
use Rattle.c2_build_parts.proofs.digesting.hash_piece.Given as goal

-- the state has taken the bytes that were read, and the source hasn't failed
abbrev pub invariant-pieces : goal.invariant-pieces
invariant-pieces g l = record {
  begun : l.from ≤ l.at;
  within : l.at ≤ l.to;
  stays : StaysSource g.S.Source.len g.S.Source.known g.S.Source.faults l.fn.source l.source;
  count : g.S.Source.faults l.source ≡ g.S.Source.faults l.fn.source;
  taken : HasTaken g.H.Hashing.holds (g.S.Source.known l.fn.source) l.from l.at l.fn.state l.state;
}

-- how many bytes are left
abbrev pub decreases-pieces : goal.decreases-pieces
decreases-pieces g l = l.to - l.at
