use Rattle.std.proofs.Common.{◌≡◌, ◌∙◌, ℕ, suc, false, [], ◌∷◌, drop, refl, subst, sym, arith}
use Rattle.std.specs.Prelude.{IfSome, slice_index_or}
use Rattle.std.proofs.Math.Seq.{drop-cons}
use Rattle.c2_bmff_boxes.specs.Causes.{IsStoreCause}
use Rattle.c2_bmff_boxes.specs.Search.{IsFoundWithin}
use Rattle.c2_bmff_rows.specs.declared.row.RootBox.{RootBox}
use Rattle.c2_bmff_boxes.proofs.WalkLemmas.{outside_map}
use Rattle.c2_bmff_boxes.proofs.RowLemmas.{row_fails, row_not, row_uuid, rows_end, rows_start}
use Rattle.c2_bmff_boxes.proofs.provenance.search.Goals as goal
use Rattle.c2_bmff_boxes.proofs.provenance.search.Goals.{then-eq+in-Ok, else-eq}

-- a row of nothing, for indices after the last root box
abbrev no_row : RootBox
no_row = record { start = 0; length = 0; header = 0; kind = []; to_end = false }

-- before the first root box nothing is found
pub loop-row-init : goal.loop-row-init
loop-row-init g c = record {
  stays = record { same_len = refl; same_bytes = refl; later = omega arith };
  count = refl;
  within = tt;
  searched = λ file known. rows_start file c.args.rows.now;
}

-- a `uuid` root box that isn't passed is the first C2PA box of the file that fails
pub returns-in-Err-clause-found : goal.returns-in-Err-clause-found
returns-in-Err-clause-found g c file known roots =
    let k = c.loop-row.row-index in
    let r : RootBox = slice_index_or c.args.rows.now k no_row in
    outside_map c.in-Err.error
    (row_fails file c.args.rows.now k r (drop (suc k) c.args.rows.now) c.loop-row.found c.in-Err.error (drop-cons c.args.rows.now k no_row c.loop-row-test.true) roots (c.loop-row.invariant.searched file known) (sym c.if-eq.ensures))
    (c.in-Err.ensures.fails file (c.loop-row.invariant.stays.same_bytes ∙ known))

-- with the next root box, what is found is the store among the root boxes so far, or none
pub loop-row-preserved : goal.loop-row-preserved
loop-row-preserved g c =
    let before = c.loop-row.invariant in
    let k = c.loop-row.row-index in
    let r : RootBox = slice_index_or c.args.rows.now k no_row in
    let first : drop k c.args.rows.now ≡ r ∷ drop (suc k) c.args.rows.now =
    drop-cons c.args.rows.now k no_row c.loop-row-test.true in
    elim c.if-eq.branch [
      | then-eq+in-Ok w ↦ rw w.source-is (rw w.found-is (record {
        stays =
            record
            { same_len = w.in-Ok.ensures.stays.same_len ∙ before.stays.same_len; same_bytes = w.in-Ok.ensures.stays.same_bytes ∙ before.stays.same_bytes; later = omega (arith, w.in-Ok.ensures.stays.later, before.stays.later) };
        count = w.in-Ok.ensures.count ∙ before.count;
        within =
            subst (λ (n : ℕ). IfSome w.step.new.found (IsFoundWithin n)) before.stays.same_len w.in-Ok.ensures.after;
        searched =
            λ file known. row_uuid file c.args.rows.now k r (drop (suc k) c.args.rows.now) c.loop-row.found w.step.new.found first (before.searched file known) (sym w.if-eq.ensures) (w.in-Ok.ensures.steps file (before.stays.same_bytes ∙ known));
      }))
      | else-eq w ↦ rw w.source-is (rw w.found-is (record {
        stays = before.stays;
        count = before.count;
        within = before.within;
        searched =
            λ file known. row_not file c.args.rows.now k r (drop (suc k) c.args.rows.now) c.loop-row.found first (before.searched file known) (sym w.if-eq.ensures);
      }))
    ]

-- after the last root box, what is found is the file's store, or none
pub returns-clause-found : goal.returns-clause-found
returns-clause-found g c file known roots =
    rows_end file c.args.rows.now c.loop-row.row-index c.loop-row.found c.loop-row-test.false roots
    (c.loop-row.invariant.searched file known)

-- a C2PA box is refused where it stands
pub returns-in-Err-clause-cause : goal.returns-in-Err-clause-cause
returns-in-Err-clause-cause g c =
    subst (λ n. IsStoreCause (g.S.Source.len c.args.source.now) n (g.S.Source.faults c.step.new.source) c.in-Err.error) c.loop-row.invariant.count
    (subst (λ n. IsStoreCause n (g.S.Source.faults c.loop-row.source) (g.S.Source.faults c.step.new.source) c.in-Err.error) c.loop-row.invariant.stays.same_len c.in-Err.ensures.cause)
