use Rattle.std.proofs.Common.{◌≡◌, ◌∙◌, ℕ, ◌+◌, ◌-◌, ◌<◌, List, length, get_or, take, drop, refl, sym, ap, subst, arith}
use Rattle.std.proofs.lemmas.List.{take_rest}
use Rattle.c2_bmff_chunks.specs.Fields.{all_fields}
use Rattle.c2_bmff_chunks.specs.Shifted.{part_with}
use Rattle.c2_bmff_chunks.specs.Tables.{StandApart, table_len}
use Rattle.c2_bmff_chunks.specs.declared.table.ChunkTable.{ChunkTable}
use Rattle.c2_shift.proofs.PartLemmas.{as_read_later, as_read_whole, begins_behind, ends_in, no_table, rest_behind, stand_drop, stand_step, tables_passed, tables_step}
use Rattle.c2_shift.proofs.shifting.put_tables.Goals as goal
use Rattle.c2_base.proofs.Written.{source_stays}

-- the tables that end before the bytes pass
pub tables-init : goal.tables-init
tables-init g c =
    let k = c.first_behind.result in
    let len = g.S.Source.len c.args.source.now in
    let rest : take (length c.args.tables.now - k) (drop k c.args.tables.now) ≡ drop k c.args.tables.now =
    take_rest c.args.tables.now k in
    let apart = stand_drop 0 len k c.args.tables.now c.requires.inside in
    record {
      left =
          (apart.0, subst (StandApart apart.0 len) (sym rest) apart.1, as_read_whole (g.S.Source.known c.args.source.now) c.args.pos apart.0 c.args.bytes.now c.requires.raw);
      stays = record { same_len = refl; same_bytes = refl; later = omega arith };
      count = refl;
      put = λ file known.
          tables_passed c.args.shift.now.from c.args.shift.now.by c.args.pos k file c.args.tables.now c.args.bytes.now
          c.first_behind.ensures.before
          ∙ ap (λ (ts : List ChunkTable). part_with c.args.shift.now.from c.args.shift.now.by c.args.pos file (all_fields ts) c.args.bytes.now) (sym rest);
    }

-- those that begin behind the bytes pass
pub returns-then-table-end-clause-put : goal.returns-then-table-end-clause-put
returns-then-table-end-clause-put g c file known =
    let before = c.tables.invariant in
    sym (before.put file known
    ∙ rest_behind c.args.shift.now.from c.args.shift.now.by c.args.pos before.left.0 (g.S.Source.len c.args.source.now) file c.tables.rest.now c.tables.bytes (omega (arith, c.tables-test.true)) before.left.1 (omega (arith, c.if-table-end.true, c.tables.auto.bytes)))

-- the next table lies in the source, and from it on the bytes are as they were read
pub put_table-requires : goal.put_table-requires
put_table-requires g c =
    let before = c.tables.invariant in
    let len = g.S.Source.len c.args.source.now in
    let some : 0 < length c.tables.rest.now = omega (arith, c.tables-test.true) in
    record {
      inside =
          omega
          (arith, ends_in before.left.0 len 0 c.tables.rest.now no_table before.left.1 some, before.stays.same_len);
      part = omega (arith, c.requires.part, c.tables.auto.bytes, before.stays.same_len);
      raw = λ file known.
          as_read_later file c.args.pos before.left.0 (get_or c.tables.rest.now 0 no_table).first c.tables.bytes (begins_behind before.left.0 len 0 c.tables.rest.now no_table before.left.1 some) (before.left.2 file (sym before.stays.same_bytes ∙ known));
    }

-- one more table is put
pub tables-preserved : goal.tables-preserved
tables-preserved g c =
    let before = c.tables.invariant in
    let call = c.in_ok-put_table.ensures in
    let len = g.S.Source.len c.args.source.now in
    let from : ℕ = c.args.shift.now.from in
    let by : ℕ = c.args.shift.now.by in
    let some : 0 < length c.tables.rest.now = omega (arith, c.tables-test.true) in
    let rest : take (length c.tables.rest.now - 1) (drop 1 c.tables.rest.now) ≡ drop 1 c.tables.rest.now =
    take_rest c.tables.rest.now 1 in
    let t : ChunkTable = get_or c.tables.rest.now 0 no_table in
    record {
      left = (
        t.first + table_len t,
        subst (StandApart (t.first + table_len t) len) (sym rest) (stand_step before.left.0 len c.tables.rest.now some before.left.1),
        λ file known. call.raw file (before.stays.same_bytes ∙ known),
      );
      stays =
          source_stays g.S.Source.len g.S.Source.known g.S.Source.faults c.args.source.now c.tables.source
          c.put_table.new.source before.stays call.stays;
      count = call.cause.ok ∙ before.count;
      put = λ file known.
          before.put file known ∙ tables_step from by c.args.pos file c.tables.rest.now c.tables.bytes some
          ∙ ap (part_with from by c.args.pos file (all_fields (drop 1 c.tables.rest.now)))
          (sym (call.put file (before.stays.same_bytes ∙ known)))
          ∙ ap (λ (ts : List ChunkTable). part_with from by c.args.pos file (all_fields ts) c.put_table.new.bytes) (sym rest);
    }
