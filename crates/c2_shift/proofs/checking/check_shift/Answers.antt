use Rattle.std.proofs.Common.{◌∙◌, get_or, drop, arith}
use Rattle.c2_bmff_chunks.specs.Fields.{all_fields, fields_of, overflow_places, places_of}
use Rattle.c2_shift.specs.Causes.{IsCheckCause}
use Rattle.c2_shift.proofs.Calls.{reads_failed}
use Rattle.c2_shift.proofs.PartLemmas.{ends_in, no_table, places_step}
use Rattle.c2_shift.proofs.Overflows.{first_stays}
use Rattle.c2_shift.proofs.checking.check_shift.Goals as goal

-- the next table lies in the source
pub check_table-requires : goal.check_table-requires
check_table-requires g c =
    let before = c.tables.invariant in
    record
    { inside = omega (arith, ends_in before.apart.0 (g.S.Source.len c.args.source.now) 0 c.tables.rest.now no_table before.apart.1 (omega (arith, c.tables-test.true)), before.stays.same_len) }

-- the first field of this table that doesn't fit is the first of all
pub returns-in-Err-clause-overflow : goal.returns-in-Err-clause-overflow
returns-in-Err-clause-overflow g c file known =
    let before = c.tables.invariant in
    first_stays (places_of c.args.from c.args.by file (fields_of (get_or c.tables.rest.now 0 no_table))) (places_of c.args.from c.args.by file (all_fields (drop 1 c.tables.rest.now))) (overflow_places c.args.from c.args.by file c.args.tables.now) c.in-Err.error
    (before.places file known ∙ places_step c.args.from c.args.by file c.tables.rest.now (omega (arith, c.tables-test.true)))
    (c.in-Err.ensures.overflow file (before.stays.same_bytes ∙ known))

pub returns-in-Err-clause-reads : goal.returns-in-Err-clause-reads
returns-in-Err-clause-reads g c =
    reads_failed g.S.Source.len g.S.Source.known g.S.Source.faults IsCheckCause c.args.source.now c.tables.source c.check_table.new.source c.in-Err.error c.tables.invariant.stays c.tables.invariant.count c.in-Err.ensures.reads
