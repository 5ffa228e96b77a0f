use Rattle.std.proofs.Common.{◌≡◌, ◌∙◌, ℕ, zero, suc, ◌+◌, ◌-◌, ◌<◌, ◌==◌, false, List, [], ◌∷◌, ◌++◌, length, get_or, take, drop, Some, append-nil, refl, sym, ap, subst, arith}
use Rattle.std.proofs.lemmas.List.{length-drop, take_rest}
use Rattle.c2_bmff_rows.specs.Rows.{IsRowWithin}
use Rattle.c2_bmff_rows.specs.declared.row.RootBox.{RootBox}
use Rattle.c2_bmff_boxes.specs.Roots.{FillSource}
use Rattle.c2_bmff_chunks.specs.Refusals.{refusals_below}
use Rattle.c2_bmff_chunks.specs.Tables.{StandApart, inner, tables_below}
use Rattle.c2_bmff_chunks.specs.declared.table.ChunkTable.{ChunkTable}
use Rattle.c2_shift.specs.Causes.{IsTablesCause}
use Rattle.c2_shift.specs.Walking.{LieIn, Skips}
use Rattle.c2_shift.proofs.Calls.{reads_failed}
use Rattle.c2_shift.proofs.PartLemmas.{first_of}
use Rattle.c2_shift.proofs.BoxLemmas.{fill_step, inner_refused, lie_step, no_row, outside_map, refusals_past, row_lies, skips_apart, skips_lie, skips_refusals, skips_tables, stand_higher, tables_past, tree_refused}
use Rattle.c2_shift.proofs.walking.+visit.Goals as goal
use Rattle.c2_base.proofs.Written.{source_stays}

-- a list that isn't empty has a first
some_of : (n : ℕ) → false ≡ (n == 0) → 0 < n
some_of zero e = absurd (cc (e))
some_of (suc n) e = omega arith

-- the types are the first and the others
kinds_are : (kinds : List (List ℕ)) → false ≡ (length kinds == 0)
    → kinds ≡ get_or kinds 0 [] ∷ take (length kinds - 1) (drop 1 kinds)
kinds_are kinds e =
    first_of kinds [] (some_of (length kinds) e)
    ∙ ap (λ (xs : List (List ℕ)). get_or kinds 0 [] ∷ xs) (sym (take_rest kinds 1))

-- a list of no length has no members
none_of : {A : Type 0} (xs : List A) → length xs ≡ 0 → xs ≡ []
none_of [] e = refl
none_of (x ∷ xs) e = absurd (omega (arith, e))

-- nothing is refused of no rows
refusals_none : (file : List ℕ) (kinds : List (List ℕ)) → refusals_below file kinds [] ≡ []
refusals_none file [] = refl
refusals_none file (kind ∷ kinds) = refl

-- and no tables are below them
tables_none : (file : List ℕ) (kinds : List (List ℕ)) → tables_below file kinds [] ≡ []
tables_none file [] = refl
tables_none file (kind ∷ kinds) = refl

-- the rows of other types at the front are passed
pub rows-init : goal.rows-init
rows-init g t c =
    let kinds = c.args.kinds.now in
    let same : kinds ≡ get_or kinds 0 [] ∷ take (length kinds - 1) (drop 1 kinds) =
    kinds_are kinds (c.if-is_empty.ensures {u = tt}) in
    let skips = c.skip_others-rest.ensures.skips in
    let rest = c.skip_others-rest.result.now in
    record {
      lie =
          skips_lie (get_or kinds 0 []) c.args.rows.now rest (g.S.Source.len c.args.source.now) skips c.requires.inside;
      first = c.skip_others-rest.ensures.first;
      stays = record { same_len = refl; same_bytes = refl; later = omega arith };
      count = refl;
      refusals =
          λ file known. skips_refusals file (get_or kinds 0 []) (take (length kinds - 1) (drop 1 kinds)) kinds c.args.rows.now rest same skips;
      tables =
          λ file known. ap (λ (xs : List ChunkTable). c.args.tables.now.items ++ xs) (sym (skips_tables file (get_or kinds 0 []) (take (length kinds - 1) (drop 1 kinds)) kinds c.args.rows.now rest same skips));
      apart =
          λ low high fill stand. skips_apart (get_or kinds 0 []) c.args.rows.now rest c.args.tables.now.items high low skips fill stand;
    }

-- the next row lies in the source
pub inner_boxes-requires : goal.inner_boxes-requires
inner_boxes-requires g t c =
    let before = c.rows.invariant in
    record
    { inside = subst (λ n. IsRowWithin n (get_or c.rows.rest.now 0 no_row)) (sym before.stays.same_len) (row_lies (g.S.Source.len c.args.source.now) c.rows.rest.now (omega (arith, c.rows-test.true)) before.lie) }

-- a box that no list fills is refused first
pub returns-in-Err-clause-refused : goal.returns-in-Err-clause-refused
returns-in-Err-clause-refused g t c file known =
    let before = c.rows.invariant in
    let kinds = c.args.kinds.now in
    let same : kinds ≡ get_or kinds 0 [] ∷ take (length kinds - 1) (drop 1 kinds) =
    kinds_are kinds (c.if-is_empty.ensures {u = tt}) in
    outside_map c.in-Err.error
    (tree_refused file (get_or kinds 0 []) (take (length kinds - 1) (drop 1 kinds)) kinds c.rows.rest.now c.args.rows.now c.in-Err.error same (omega (arith, c.rows-test.true)) before.first (before.refusals file known))
    ((c.in-Err.ensures {u = tt}).refused file (before.stays.same_bytes ∙ known))

pub returns-in-Err-clause-reads : goal.returns-in-Err-clause-reads
returns-in-Err-clause-reads g t c =
    reads_failed g.S.Source.len g.S.Source.known g.S.Source.faults IsTablesCause c.args.source.now c.rows.source c.inner_boxes.new.source c.in-Err.error c.rows.invariant.stays c.rows.invariant.count (c.in-Err.ensures {u = tt}).reads

-- the list inside it lies in the source
pub visit-requires : goal.visit-requires
visit-requires g t c =
    let before = c.rows.invariant in
    let len = g.S.Source.len c.args.source.now in
    let r : RootBox = get_or c.rows.rest.now 0 no_row in
    let row : IsRowWithin len r = row_lies len c.rows.rest.now (omega (arith, c.rows-test.true)) before.lie in
    let fill : FillSource (r.start + r.length) (r.start + r.header) c.as_slice.result.now =
    subst (FillSource (r.start + r.length) (r.start + r.header)) (sym c.as_slice.ensures.boxes)
    ((c.in-Ok.ensures {u = tt}).fill) in
    let size : g.S.Source.len c.inner_boxes.new.source ≡ len =
    c.inner_boxes.ensures.reads.stays.same_len ∙ before.stays.same_len in
    let lie : LieIn (g.S.Source.len c.inner_boxes.new.source) c.as_slice.result.now =
    record { low = r.start + r.header; high = r.start + r.length; fill = fill; inside = omega (arith, size, row.0) } in
    let some : 0 < length c.args.kinds.now = some_of (length c.args.kinds.now) (c.if-is_empty.ensures {u = tt}) in
    let is : length c.args.kinds.now ≡ t = c.decreases in
    let small : length (take (length c.args.kinds.now - 1) (drop 1 c.args.kinds.now)) < t =
    omega (arith, is, some, ap length (take_rest c.args.kinds.now 1), length-drop 1 c.args.kinds.now) in
    λ κs h. (small, (h, lie))

-- what is refused inside it is refused first
pub returns-in-Err-visit-clause-refused : goal.returns-in-Err-visit-clause-refused
returns-in-Err-visit-clause-refused g t c file known =
    let before = c.rows.invariant in
    let kinds = c.args.kinds.now in
    let others : List (List ℕ) = take (length kinds - 1) (drop 1 kinds) in
    let list : List RootBox = c.as_slice.result.now in
    let same : kinds ≡ get_or kinds 0 [] ∷ others = kinds_are kinds (c.if-is_empty.ensures {u = tt}) in
    let inside : inner file (get_or c.rows.rest.now 0 no_row) ≡ Some list =
    (c.in-Ok.ensures {u = tt}).found file (before.stays.same_bytes ∙ known)
    ∙ ap Some (sym c.as_slice.ensures.boxes) in
    outside_map c.in-Err-visit.error
    (inner_refused file (get_or kinds 0 []) others kinds c.rows.rest.now c.args.rows.now list c.in-Err-visit.error same (omega (arith, c.rows-test.true)) before.first (before.refusals file known) inside)
    ((c.in-Err-visit.ensures {u = tt}).refused file (c.inner_boxes.ensures.reads.stays.same_bytes ∙ before.stays.same_bytes ∙ known))

-- past one more row
pub rows-preserved : goal.rows-preserved
rows-preserved g t c =
    let before = c.rows.invariant in
    let kinds = c.args.kinds.now in
    let kind : List ℕ = get_or kinds 0 [] in
    let others : List (List ℕ) = take (length kinds - 1) (drop 1 kinds) in
    let len = g.S.Source.len c.args.source.now in
    let same : kinds ≡ kind ∷ others = kinds_are kinds (c.if-is_empty.ensures {u = tt}) in
    let rest : List RootBox = c.rows.rest.now in
    let r : RootBox = get_or rest 0 no_row in
    let some : 0 < length rest = omega (arith, c.rows-test.true) in
    let found = c.inner_boxes.ensures in
    let call = c.visit.ensures in
    let list : List RootBox = c.as_slice.result.now in
    let next : take (length rest - 1) (drop 1 rest) ≡ drop 1 rest = take_rest rest 1 in
    let left : List RootBox = c.skip_others-rest-in-rows.result.now in
    let skips : Skips kind (drop 1 rest) left =
    subst (λ (xs : List RootBox). Skips kind xs left) next c.skip_others-rest-in-rows.ensures.skips in
    let fill : FillSource (r.start + r.length) (r.start + r.header) list =
    subst (FillSource (r.start + r.length) (r.start + r.header)) (sym c.as_slice.ensures.boxes)
    ((c.in-Ok.ensures {u = tt}).fill) in
    record {
      lie = skips_lie kind (drop 1 rest) left len skips (lie_step len rest some before.lie);
      first = c.skip_others-rest-in-rows.ensures.first;
      stays =
          source_stays g.S.Source.len g.S.Source.known g.S.Source.faults c.args.source.now
          c.inner_boxes.new.source c.visit.new.source
          (source_stays g.S.Source.len g.S.Source.known g.S.Source.faults c.args.source.now c.rows.source
          c.inner_boxes.new.source before.stays found.reads.stays) call.reads.stays;
      count = (c.in-Ok-visit.ensures {u = tt}).reads.quiet ∙ (c.in-Ok.ensures {u = tt}).reads.quiet ∙ before.count;
      refusals = λ file known.
          let inside : inner file r ≡ Some list =
          (c.in-Ok.ensures {u = tt}).found file (before.stays.same_bytes ∙ known)
          ∙ ap Some (sym c.as_slice.ensures.boxes) in
          let passed =
          (c.in-Ok-visit.ensures {u = tt}).passed file
          (found.reads.stays.same_bytes ∙ before.stays.same_bytes ∙ known) in
          before.refusals file known ∙ refusals_past file kind others kinds rest list same some before.first inside passed.0 ∙ skips_refusals file kind others kinds (drop 1 rest) left same skips;
      tables = λ file known.
          let inside : inner file r ≡ Some list =
          (c.in-Ok.ensures {u = tt}).found file (before.stays.same_bytes ∙ known)
          ∙ ap Some (sym c.as_slice.ensures.boxes) in
          let passed =
          (c.in-Ok-visit.ensures {u = tt}).passed file
          (found.reads.stays.same_bytes ∙ before.stays.same_bytes ∙ known) in
          ap (λ (xs : List ChunkTable). c.visit.new.tables.items ++ xs)
          (sym (skips_tables file kind others kinds (drop 1 rest) left same skips))
          ∙ tables_past file kind others kinds rest list c.rows.tables.items c.visit.new.tables.items same some before.first inside passed.1 ∙ before.tables file known;
      apart = λ low high whole stand.
          let mid = before.apart low high whole stand in
          let one = fill_step high mid.0 rest some mid.1 in
          let inner' : StandApart 0 (r.start + r.length) c.visit.new.tables.items =
          (c.in-Ok-visit.ensures {u = tt}).apart (r.start + r.header) (r.start + r.length) fill
          (stand_higher 0 mid.0 (r.start + r.header) c.rows.tables.items (omega (arith, one.0)) mid.2) in
          let end : r.start + r.length ≡ mid.0 + r.length = omega (arith, one.0) in
          skips_apart kind (drop 1 rest) left c.visit.new.tables.items high (mid.0 + r.length) skips one.3 (subst (λ n. StandApart 0 n c.visit.new.tables.items) end inner');
    }

-- past the last row
pub returns-clause-passed : goal.returns-clause-passed
returns-clause-passed g t c file known =
    let before = c.rows.invariant in
    let kinds : List (List ℕ) = c.args.kinds.now in
    let tables : List ChunkTable = c.rows.tables.items in
    let none : c.rows.rest.now ≡ [] = none_of c.rows.rest.now (omega (arith, c.rows-test.false)) in (
      before.refusals file known ∙ ap (refusals_below file kinds) none ∙ refusals_none file kinds,
      sym (append-nil tables)
          ∙ ap (λ (xs : List ChunkTable). tables ++ xs) (sym (ap (tables_below file kinds) none ∙ tables_none file kinds))
          ∙ before.tables file known,
    )
