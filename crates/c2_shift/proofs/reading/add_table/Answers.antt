use Rattle.std.proofs.Common.{◌+◌, sym, subst, arith}
use Rattle.c2_bmff_chunks.specs.Tables.{StandApart}
use Rattle.c2_shift.specs.Walking.{FillsBox}
use Rattle.c2_shift.proofs.BoxLemmas.{stand_higher, stand_more}
use Rattle.c2_shift.proofs.reading.add_table.Goals as goal

-- a box of another type adds none
pub returns-then-not-is_table_kind-clause-apart : goal.returns-then-not-is_table_kind-clause-apart
returns-then-not-is_table_kind-clause-apart g c low h l =
    stand_higher 0 low (c.args.row.start + c.args.row.length) c.args.tables.now.items (omega (arith, l)) h

-- one more table
pub returns-in_ok-push-in-Ok-Some-clause-apart : goal.returns-in_ok-push-in-Ok-Some-clause-apart
returns-in_ok-push-in-Ok-Some-clause-apart g c low h l =
    let fills : FillsBox c.args.row c.in-Ok-Some.table = rw c.in-Ok-Some.field-0-is at c.in-Ok-Some.ensures.fills in
    subst (StandApart 0 (c.args.row.start + c.args.row.length)) (sym c.in_ok-push-in-Ok-Some.ensures.items) (stand_more low c.args.row c.in-Ok-Some.table c.args.tables.now.items h l fills)
