use Rattle.std.proofs.Common.{◌≡◌, ◌≤◌, ◌++◌}
use Rattle.c2_sample.specs.declared.media.TheConstants.{PIECE_BYTES}
use Rattle.c2_sample.proofs.Making.{begun}
use Rattle.c2_sample.proofs.media.push_piece.Given as goal

-- the piece has its first bytes so far
abbrev pub invariant-loop-j : goal.invariant-loop-j
invariant-loop-j l = record {
  within : l.j ≤ PIECE_BYTES;
  so_far : l.bytes.items ≡ l.fn.bytes.items ++ begun l.i l.j;
}
