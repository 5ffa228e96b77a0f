use Rattle.std.proofs.Common.{◌≡◌, ◌+◌}
use Rattle.std.specs.Option.{ForSome}
use Rattle.c2_base.specs.Source.{StaysSource}
use Rattle.c2_bmff_chunks.specs.Fields.{fields_from, fields_of}
use Rattle.c2_bmff_chunks.specs.Shifted.{part_with}
use Rattle.c2_bmff_chunks.specs.Tables.{fields_len, table_len}
use Rattle.c2_shift.specs.Parts.{IsAsRead}
use Rattle.c2_shift.proofs.shifting.put_table.Given as goal

-- the fields that are left are the last of the table, those before them are put, and from here on the bytes are as they were read
abbrev pub invariant-fields : goal.invariant-fields
invariant-fields g l = record {
  ends : l.at + fields_len l.fn.table.wide l.left ≡ l.fn.table.first + table_len l.fn.table;
  stays : StaysSource g.S.Source.len g.S.Source.known g.S.Source.faults l.initial.source l.source;
  count : g.S.Source.faults l.source ≡ g.S.Source.faults l.initial.source;
  raw : ForSome (g.S.Source.known l.initial.source) (λ file. IsAsRead file l.fn.pos l.at l.bytes);
  put : ForSome (g.S.Source.known l.initial.source) (λ file.
      part_with l.shift.from l.shift.by l.fn.pos file (fields_of l.fn.table) l.initial.bytes ≡ part_with l.shift.from l.shift.by l.fn.pos file (fields_from l.fn.table.wide l.at l.left) l.bytes);
}

-- the fields that are left
abbrev pub decreases-fields : goal.decreases-fields
decreases-fields g l = l.left
