use Rattle.std.proofs.Common.{◌≡◌, ◌++◌, ℕ, length}
use Rattle.std.specs.List.{flat_map}
use Rattle.std.specs.Option.{ForSome}
use Rattle.c2_base.specs.Source.{StaysSource}
use Rattle.c2_bmff_boxes.specs.Roots.{FillSource}
use Rattle.c2_bmff_chunks.specs.Refusals.{sibling_refusals}
use Rattle.c2_bmff_chunks.specs.Tables.{StandApart, tables_among}
use Rattle.c2_shift.specs.Walking.{LieIn}
use Rattle.c2_shift.proofs.reading.add_tables.Given as goal

-- the rows that are left lie in the source, nothing is refused of those before, and their tables are added
abbrev pub invariant-rows : goal.invariant-rows
invariant-rows g l = record {
  lie : LieIn (g.S.Source.len l.initial.source) l.rest;
  stays : StaysSource g.S.Source.len g.S.Source.known g.S.Source.faults l.initial.source l.source;
  count : g.S.Source.faults l.source ≡ g.S.Source.faults l.initial.source;
  refusals : ForSome (g.S.Source.known l.initial.source) (λ file. flat_map (sibling_refusals file) l.fn.rows ≡ flat_map (sibling_refusals file) l.rest);
  tables : ForSome (g.S.Source.known l.initial.source) (λ file. l.tables.items ++ tables_among file l.rest ≡ l.initial.tables.items ++ tables_among file l.fn.rows);
  apart : (low high : ℕ) → FillSource high low l.fn.rows → StandApart 0 low l.initial.tables.items
      → (mid : ℕ) × FillSource high mid l.rest × StandApart 0 mid l.tables.items;
}

-- the rows that are left
abbrev pub decreases-rows : goal.decreases-rows
decreases-rows g l = length l.rest
