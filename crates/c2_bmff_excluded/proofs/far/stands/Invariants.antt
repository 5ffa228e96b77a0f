use Rattle.std.proofs.Common.{◌≡◌, ◌+◌, ◌≤◌, length}
use Rattle.std.specs.Option.{ForSome}
use Rattle.c2_base.specs.Source.{StaysSource}
use Rattle.c2_bmff_excluded.specs.Marks.{stands_at}
use Rattle.c2_bmff_excluded.specs.Windows.{IsWindow}
use Rattle.c2_bmff_excluded.proofs.far.stands.Given as goal

-- the value stands at its place just when its rest stands here, which ends no later than the value; the window has bytes of the file
abbrev pub invariant-pieces : goal.invariant-pieces
invariant-pieces g l = record {
  inside : l.at + length l.rest ≤ l.pos + length l.value;
  stays : StaysSource g.S.Source.len g.S.Source.known g.S.Source.faults l.initial.source l.source;
  count : g.S.Source.faults l.source ≡ g.S.Source.faults l.initial.source;
  same : ForSome (g.S.Source.known l.initial.source) (λ file. stands_at file l.pos l.value ≡ stands_at file l.at l.rest);
  few : l.last.count ≤ 4096;
  window : ForSome (g.S.Source.known l.initial.source) (λ file. IsWindow file l.bytes l.last);
}

-- the bytes of the value that aren't compared yet, which get fewer with each piece
abbrev pub decreases-pieces : goal.decreases-pieces
decreases-pieces g l = length l.rest
