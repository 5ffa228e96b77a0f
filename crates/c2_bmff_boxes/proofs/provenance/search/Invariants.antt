use Rattle.std.proofs.Common.{◌≡◌}
use Rattle.std.specs.Prelude.{IfSome}
use Rattle.std.specs.Option.{ForSome}
use Rattle.c2_base.specs.Source.{StaysSource}
use Rattle.c2_bmff_boxes.specs.Search.{IsFoundWithin, SearchedTo}
use Rattle.c2_bmff_boxes.proofs.provenance.search.Given as goal

-- the root boxes so far pass, and the store found is theirs
abbrev pub invariant-loop-row : goal.invariant-loop-row
invariant-loop-row g l = record {
  stays : StaysSource g.S.Source.len g.S.Source.known g.S.Source.faults l.initial.source l.source;
  count : g.S.Source.faults l.source ≡ g.S.Source.faults l.initial.source;
  within : IfSome l.found (IsFoundWithin (g.S.Source.len l.initial.source));
  searched : ForSome (g.S.Source.known l.initial.source) (λ file. SearchedTo file l.rows l.row-index l.found);
}
