use Rattle.std.proofs.Common.{◌∙◌, ◌||◌, ◌-◌, ◌^◌, Bool, List, take, sym, ap, ap₂, subst, arith}
use Rattle.std.proofs.lemmas.List.{take_all}
use Rattle.c2_base.specs.declared.values.Range.{Range}
use Rattle.std.specs.List.{list_any}
use Rattle.c2_spec.specs.Cover.{is_excluded}
use Rattle.c2_bmff_excluded.specs.Marks.{GrowsWithin, in_row, in_row_part}
use Rattle.c2_bmff_rows.proofs.Lists.{any_more}
use Rattle.c2_bmff_excluded.proofs.MarkLemmas.{no_range}
use Rattle.c2_bmff_excluded.proofs.OrderLemmas.{rest_adds_nothing}
use Rattle.c2_bmff_excluded.proofs.RangeLemmas.{any_first, grows_some, on_err, parts_in_row}
use Rattle.c2_bmff_excluded.proofs.marking.add_parts.Goals as goal
use Rattle.c2_lemmas.proofs.Bools.{or_false}

-- with the next part, its positions are held too, and no range ends after the old ones and the box do
pub loop-part-preserved : goal.loop-part-preserved
loop-part-preserved c =
    let before = c.loop-part.invariant in
    let call = c.in_ok-add_new.ensures in
    let k = c.loop-part.part-index in
    record {
      same = λ i.
          call.same i ∙ ap₂ (λ (a b : Bool). a || b) (before.same i) (c.part_in.ensures.holds i)
          ∙ sym (any_more (in_row_part i c.args.row) c.args.parts.now k no_range (is_excluded c.args.ranges.now.items i) c.loop-part-test.true);
      within = λ n old fits. call.within n (before.within n old fits) (omega (arith, c.part_in.ensures.within, fits));
    }

-- where a part ends no earlier than the box, the parts after it add nothing
pub returns-then-ends_row-clause-same : goal.returns-then-ends_row-clause-same
returns-then-ends_row-clause-same c i =
    let before = c.loop-part.invariant in
    let k = c.loop-part.part-index in
    c.in_ok-add_new.ensures.same i ∙ ap₂ (λ (a b : Bool). a || b) (before.same i) (c.part_in.ensures.holds i)
    ∙ rest_adds_nothing i c.args.row c.args.parts.now k no_range (is_excluded c.args.ranges.now.items i)
    c.requires.rising c.loop-part-test.true (λ later from. c.ends_row.ensures c.if-ends_row.true i later from)

-- and no range ends after the old ones and the box do
pub returns-then-ends_row-clause-within : goal.returns-then-ends_row-clause-within
returns-then-ends_row-clause-within c =
    λ n old fits. c.in_ok-add_new.ensures.within n (c.loop-part.invariant.within n old fits) (omega (arith, c.part_in.ensures.within, fits))

-- without memory for a part, those before it were added, all inside the box
pub returns-in_err-add_new-clause-some : goal.returns-in_err-add_new-clause-some
returns-in_err-add_new-clause-some c =
    let k = c.loop-part.part-index in
    on_err c.from_residual.result
    (subst (GrowsWithin (λ i. in_row i c.args.row) c.args.ranges.now.items) (sym c.in_err-add_new.ensures.kept)
    (grows_some (λ i. in_row i c.args.row) (λ i. list_any (in_row_part i c.args.row) (take k c.args.parts.now)) c.args.ranges.now.items c.loop-part.ranges.items c.loop-part.invariant.same
    (λ i h. parts_in_row i c.args.row c.args.parts.now (any_first (in_row_part i c.args.row) k c.args.parts.now h))))

-- a part of the box ends no later than the box
pub add_new-requires-clause-fits : goal.add_new-requires-clause-fits
add_new-requires-clause-fits c = omega (arith, c.part_in.ensures.within, c.requires.fits)

pub add_new-requires-clause-fit : goal.add_new-requires-clause-fit
add_new-requires-clause-fit c =
    c.loop-part.invariant.within (2 ^ 64 - 1) c.requires.fit (omega (arith, c.requires.fits))

-- before the first part, the ranges are as they were
pub loop-part-init : goal.loop-part-init
loop-part-init c =
    record { same = λ i. sym (or_false (is_excluded c.args.ranges.now.items i)); within = λ n old fits. old }

-- after the last, all parts were added
pub returns-clause-same : goal.returns-clause-same
returns-clause-same c i =
    c.loop-part.invariant.same i
    ∙ ap (λ (ps : List Range). is_excluded c.args.ranges.now.items i || list_any (in_row_part i c.args.row) ps)
    (take_all c.loop-part.part-index c.args.parts.now c.loop-part-test.false)

pub returns-in_err-add_new-clause-within : goal.returns-in_err-add_new-clause-within
returns-in_err-add_new-clause-within c =
    λ n old fits. c.add_new.ensures.within n (c.loop-part.invariant.within n old fits) (omega (arith, c.part_in.ensures.within, fits))
