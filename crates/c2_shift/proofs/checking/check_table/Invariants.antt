use Rattle.std.proofs.Common.{◌≡◌, ◌+◌, ◌≤◌}
use Rattle.std.specs.Option.{ForSome}
use Rattle.c2_base.specs.Source.{StaysSource}
use Rattle.c2_bmff_chunks.specs.Fields.{fields_from, fields_of, places_of}
use Rattle.c2_bmff_chunks.specs.Tables.{fields_len}
use Rattle.c2_shift.proofs.checking.check_table.Given as goal

-- the fields that are left lie in the source, and those before them fit
abbrev pub invariant-pieces : goal.invariant-pieces
invariant-pieces g l = record {
  inside : l.at + fields_len l.fn.table.wide l.left ≤ g.S.Source.len l.initial.source;
  stays : StaysSource g.S.Source.len g.S.Source.known g.S.Source.faults l.initial.source l.source;
  count : g.S.Source.faults l.source ≡ g.S.Source.faults l.initial.source;
  places : ForSome (g.S.Source.known l.initial.source) (λ file. places_of l.shift.from l.shift.by file (fields_of l.fn.table) ≡ places_of l.shift.from l.shift.by file (fields_from l.fn.table.wide l.at l.left));
}

-- the fields that are left
abbrev pub decreases-pieces : goal.decreases-pieces
decreases-pieces g l = l.left
