use Rattle.std.proofs.Common.{◌≡◌, ◌∙◌, ◌+◌, ◌<◌, List, [], ◌∷◌, ◌++◌, length, get_or, drop, sym, ap, ap₂, subst, arith, append_assoc}
use Rattle.std.specs.List.{flat_map}
use Rattle.std.proofs.lemmas.List.{take_rest}
use Rattle.c2_bmff_rows.specs.Rows.{IsRowWithin}
use Rattle.c2_bmff_rows.specs.declared.row.RootBox.{RootBox}
use Rattle.c2_bmff_boxes.specs.Roots.{FillSource}
use Rattle.c2_bmff_chunks.specs.Refusals.{sibling_refusals}
use Rattle.c2_bmff_chunks.specs.Tables.{StandApart, tables_among}
use Rattle.c2_bmff_chunks.specs.declared.table.ChunkTable.{ChunkTable}
use Rattle.c2_bmff_chunks.specs.declared.table.ShiftError.{ShiftError}
use Rattle.c2_shift.specs.Causes.{IsTablesCause}
use Rattle.c2_shift.specs.Walking.{LieIn}
use Rattle.c2_shift.proofs.Calls.{reads_failed}
use Rattle.c2_shift.proofs.BoxLemmas.{among_step, fill_step, first_of_all, lie_step, no_row, outside_map, row_lies, siblings_step}
use Rattle.c2_shift.proofs.reading.add_tables.Goals as goal
use Rattle.c2_base.proofs.Written.{source_stays}

-- the next row lies in the source
pub add_table-requires : goal.add_table-requires
add_table-requires g c =
    let before = c.rows.invariant in
    record
    { inside = subst (λ n. IsRowWithin n (get_or c.rows.rest.now 0 no_row)) (sym before.stays.same_len) (row_lies (g.S.Source.len c.args.source.now) c.rows.rest.now (omega (arith, c.rows-test.true)) before.lie) }

-- what is refused of this row is refused first
pub returns-in-Err-clause-refused : goal.returns-in-Err-clause-refused
returns-in-Err-clause-refused g c file known =
    let before = c.rows.invariant in
    outside_map c.in-Err.error
    (first_of_all (sibling_refusals file (get_or c.rows.rest.now 0 no_row)) (flat_map (sibling_refusals file) (drop 1 c.rows.rest.now)) (flat_map (sibling_refusals file) c.args.rows.now) c.in-Err.error
    (before.refusals file known ∙ siblings_step file c.rows.rest.now (omega (arith, c.rows-test.true))))
    (c.in-Err.ensures.refused file (before.stays.same_bytes ∙ known))

pub returns-in-Err-clause-reads : goal.returns-in-Err-clause-reads
returns-in-Err-clause-reads g c =
    reads_failed g.S.Source.len g.S.Source.known g.S.Source.faults IsTablesCause c.args.source.now c.rows.source c.add_table.new.source c.in-Err.error c.rows.invariant.stays c.rows.invariant.count c.in-Err.ensures.reads

-- past one more row
pub rows-preserved : goal.rows-preserved
rows-preserved g c =
    let before = c.rows.invariant in
    let call = c.in-Ok.ensures in
    let rest : List RootBox = c.rows.rest.now in
    let r : RootBox = get_or rest 0 no_row in
    let some : 0 < length rest = omega (arith, c.rows-test.true) in
    let next = take_rest rest 1 in
    record {
      lie =
          subst (LieIn (g.S.Source.len c.args.source.now)) (sym next)
          (lie_step (g.S.Source.len c.args.source.now) rest some before.lie);
      stays =
          source_stays g.S.Source.len g.S.Source.known g.S.Source.faults c.args.source.now c.rows.source
          c.add_table.new.source before.stays call.reads.stays;
      count = call.reads.quiet ∙ before.count;
      refusals = λ file known.
          before.refusals file known ∙ siblings_step file rest some
          ∙ ap (λ (xs : List ShiftError). xs ++ flat_map (sibling_refusals file) (drop 1 rest))
          (call.passed file (before.stays.same_bytes ∙ known)).0
          ∙ ap (flat_map (sibling_refusals file)) (sym next);
      tables = λ file known.
          ap₂ (λ (xs : List ChunkTable) (rows : List RootBox). xs ++ tables_among file rows)
          (call.passed file (before.stays.same_bytes ∙ known)).1 next
          ∙ append_assoc c.rows.tables.items (tables_among file (r ∷ [])) (tables_among file (drop 1 rest))
          ∙ ap (λ (xs : List ChunkTable). c.rows.tables.items ++ xs) (sym (among_step file rest some)) ∙ before.tables file known;
      apart = λ low high fill stand.
          let mid = before.apart low high fill stand in
          let one = fill_step high mid.0 rest some mid.1 in
          let end : r.start + r.length ≡ mid.0 + r.length = omega (arith, one.0) in
          (mid.0 + r.length, subst (FillSource high (mid.0 + r.length)) (sym next) one.3, subst (λ n. StandApart 0 n c.add_table.new.tables.items) end (call.apart mid.0 mid.2 (omega (arith, one.0))));
    }
