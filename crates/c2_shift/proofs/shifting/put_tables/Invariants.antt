use Rattle.std.proofs.Common.{◌≡◌, ℕ, length}
use Rattle.std.specs.Option.{ForSome}
use Rattle.c2_base.specs.Source.{StaysSource}
use Rattle.c2_bmff_chunks.specs.Fields.{all_fields}
use Rattle.c2_bmff_chunks.specs.Shifted.{part_with}
use Rattle.c2_bmff_chunks.specs.Tables.{StandApart}
use Rattle.c2_shift.specs.Parts.{IsAsRead}
use Rattle.c2_shift.proofs.shifting.put_tables.Given as goal

-- the tables that are left stand apart from some place on, from which the bytes are as they were read, and those before them are put
abbrev pub invariant-tables : goal.invariant-tables
invariant-tables g l = record {
  left : (low : ℕ) × StandApart low (g.S.Source.len l.initial.source) l.rest × ForSome (g.S.Source.known l.initial.source) (λ file. IsAsRead file l.fn.pos low l.bytes);
  stays : StaysSource g.S.Source.len g.S.Source.known g.S.Source.faults l.initial.source l.source;
  count : g.S.Source.faults l.source ≡ g.S.Source.faults l.initial.source;
  put : ForSome (g.S.Source.known l.initial.source) (λ file.
      part_with l.shift.from l.shift.by l.fn.pos file (all_fields l.fn.tables) l.initial.bytes ≡ part_with l.shift.from l.shift.by l.fn.pos file (all_fields l.rest) l.bytes);
}

-- the tables that are left
abbrev pub decreases-tables : goal.decreases-tables
decreases-tables g l = length l.rest
