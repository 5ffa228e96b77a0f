use Rattle.std.proofs.Common.{◌≡◌, ◌+◌, ◌-◌, ◌≤◌}
use Rattle.std.specs.Option.{ForSome}
use Rattle.c2_base.specs.Source.{StaysSource}
use Rattle.c2_bmff_boxes.specs.Children.{ListWalk}
use Rattle.c2_bmff_boxes.specs.Roots.{FillSource}
use Rattle.c2_bmff_boxes.proofs.child_boxes.list_between.Given as goal

-- the rows are those of the boxes in the first `done` bytes, which they fill
abbrev pub invariant-boxes : goal.invariant-boxes
invariant-boxes g l = record {
  inside : l.done ≤ l.len;
  stays : StaysSource g.S.Source.len g.S.Source.known g.S.Source.faults l.initial.source l.source;
  count : g.S.Source.faults l.source ≡ g.S.Source.faults l.initial.source;
  fill : FillSource (l.fn.start + l.done) l.fn.start l.rows.items;
  walked : ForSome (g.S.Source.known l.initial.source) (λ file. ListWalk file l.fn.start l.fn.end l.done l.rows.items);
}

-- the bytes after the boxes so far, which get fewer with each box
abbrev pub decreases-boxes : goal.decreases-boxes
decreases-boxes g l = l.len - l.done
