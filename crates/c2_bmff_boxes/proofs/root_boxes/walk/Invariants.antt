use Rattle.std.proofs.Common.{◌≡◌, ◌-◌, ◌≤◌, length}
use Rattle.std.specs.Option.{ForSome}
use Rattle.c2_base.specs.Source.{StaysSource}
use Rattle.c2_spec.specs.Bmff.Boxes.{most_roots}
use Rattle.c2_bmff_boxes.specs.Roots.{FillSource, Walks}
use Rattle.c2_bmff_boxes.proofs.root_boxes.walk.Given as goal

-- the rows fill the source up to here, are those of the boxes there, and aren't too many
abbrev pub invariant-boxes : goal.invariant-boxes
invariant-boxes g l = record {
  inside : l.at ≤ l.size;
  stays : StaysSource g.S.Source.len g.S.Source.known g.S.Source.faults l.initial.source l.source;
  count : g.S.Source.faults l.source ≡ g.S.Source.faults l.initial.source;
  fill : FillSource l.at 0 l.rows.items;
  few : length l.rows.items ≤ most_roots;
  walked : ForSome (g.S.Source.known l.initial.source) (λ file. Walks file l.at l.rows.items);
}

-- the bytes of the file after the root boxes walked so far, which get fewer with each box
abbrev pub decreases-boxes : goal.decreases-boxes
decreases-boxes g l = l.size - l.at
