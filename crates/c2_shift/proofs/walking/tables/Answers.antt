use Rattle.std.proofs.Common.{◌≡◌, ◌∙◌, ℕ, List, [], ◌++◌, refl, sym, ap, ap₂, subst, arith}
use Rattle.std.specs.Prelude.{All}
use Rattle.c2_bmff_rows.specs.Rows.{IsBoxWithin}
use Rattle.c2_bmff_rows.specs.declared.row.RootBox.{RootBox}
use Rattle.c2_bmff_boxes.specs.Roots.{FillSource}
use Rattle.c2_bmff_chunks.specs.Refusals.{IsFirstRefusal, refusals_below, root_refusals, shift_refusals}
use Rattle.c2_bmff_chunks.specs.Tables.{StandApart, chunk_tables, table_path, tables_below}
use Rattle.c2_bmff_chunks.specs.declared.table.ChunkTable.{ChunkTable}
use Rattle.c2_bmff_chunks.specs.declared.table.ShiftError.{ShiftError}
use Rattle.c2_shift.specs.Walking.{LieIn}
use Rattle.c2_shift.proofs.BoxLemmas.{first_of_all, lie_of, lie_starts, outside_map, outside_of, root_cause, stand_higher, stand_none}
use Rattle.c2_shift.proofs.walking.tables.Goals as goal

-- what is refused of a root box is refused first
pub returns-in-Err-clause-refused : goal.returns-in-Err-clause-refused
unfolding shift_refusals
returns-in-Err-clause-refused g c file known =
    outside_of c.in-Err.error
    (first_of_all (root_refusals c.as_slice-rows.result.now) (refusals_below file table_path c.args.roots.now) (shift_refusals file c.args.roots.now) c.in-Err.error
    (ap (λ (rows : List RootBox). root_refusals rows ++ refusals_below file table_path c.args.roots.now) (sym c.as_slice-rows.ensures.boxes)) ((c.in-Err.ensures {u = tt}).refused))

-- the root boxes lie in the source
lies : (len : ℕ) (rows roots : List RootBox) (size low : ℕ) → rows ≡ roots → FillSource size low rows
    → All (IsBoxWithin len) roots → LieIn len rows
lies len rows roots size low same fill within =
    lie_of size low len rows fill (subst (All (IsBoxWithin len)) (sym same) within)

-- a root box that is refused does
pub returns-in-Err-clause-reads : goal.returns-in-Err-clause-reads
returns-in-Err-clause-reads g c =
    let f = c.as_slice-rows.ensures.fill in
    let len = g.S.Source.len c.args.source.now in
    let lie : LieIn len c.as_slice-rows.result.now =
    lies len c.as_slice-rows.result.now c.args.roots.now f.size f.low c.as_slice-rows.ensures.boxes f.fill
    c.requires.inside in
    record {
      stays = record { same_len = refl; same_bytes = refl; later = omega arith };
      quiet = tt;
      cause =
          root_cause len (g.S.Source.faults c.args.source.now) c.as_slice-rows.result.now c.in-Err.error
          (lie_starts len lie.high lie.low c.as_slice-rows.result.now lie.fill lie.inside)
          (c.in-Err.ensures {u = tt}).refused;
    }

-- so they can be visited
pub visit-requires : goal.visit-requires
visit-requires g c =
    let f = c.as_slice-rows.ensures.fill in
    record
    { inside = lies (g.S.Source.len c.args.source.now) c.as_slice-rows.result.now c.args.roots.now f.size f.low c.as_slice-rows.ensures.boxes f.fill c.requires.inside }

-- nothing is refused, and all tables are there
pub returns-in-Ok-visit-clause-found : goal.returns-in-Ok-visit-clause-found
unfolding shift_refusals chunk_tables
returns-in-Ok-visit-clause-found g c file known =
    let rows = c.as_slice-rows.result.now in
    let same : rows ≡ c.args.roots.now = c.as_slice-rows.ensures.boxes in
    let passed = (c.in-Ok-visit.ensures {u = tt}).passed file known in (
      ap₂ (λ (xs ys : List ShiftError). xs ++ ys) (ap root_refusals (sym same) ∙ (c.in-Ok.ensures {u = tt}).passed) (ap (refusals_below file table_path) (sym same) ∙ passed.0),
      passed.1 ∙ ap₂ (λ (xs ys : List ChunkTable). xs ++ ys) c.new-tables.ensures.items (ap (tables_below file table_path) same),
    )

-- they stand apart in the source
pub returns-in-Ok-visit-clause-inside : goal.returns-in-Ok-visit-clause-inside
returns-in-Ok-visit-clause-inside g c =
    let f = c.as_slice-rows.ensures.fill in
    let len = g.S.Source.len c.args.source.now in
    let lie : LieIn len c.as_slice-rows.result.now =
    lies len c.as_slice-rows.result.now c.args.roots.now f.size f.low c.as_slice-rows.ensures.boxes f.fill
    c.requires.inside in
    stand_higher 0 lie.high len c.visit.new.tables.items lie.inside
    ((c.in-Ok-visit.ensures {u = tt}).apart lie.low lie.high lie.fill (subst (StandApart 0 lie.low) (sym c.new-tables.ensures.items) (stand_none lie.low)))

-- what is refused below them comes next
pub returns-in-Err-visit-clause-refused : goal.returns-in-Err-visit-clause-refused
unfolding shift_refusals
returns-in-Err-visit-clause-refused g c file known =
    let rows = c.as_slice-rows.result.now in
    let same : rows ≡ c.args.roots.now = c.as_slice-rows.ensures.boxes in
    let none : root_refusals c.args.roots.now ≡ [] = ap root_refusals (sym same) ∙ (c.in-Ok.ensures {u = tt}).passed in
    outside_map c.in-Err-visit.error
    (λ (h : IsFirstRefusal (refusals_below file table_path rows) c.in-Err-visit.error). record {
      others = h.others;
      first =
          ap₂ (λ (xs ys : List ShiftError). xs ++ ys) none (ap (refusals_below file table_path) (sym same)) ∙ h.first;
    })
    ((c.in-Err-visit.ensures {u = tt}).refused file known)
