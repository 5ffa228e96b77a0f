use Rattle.std.proofs.Common.{◌≡◌, ap, arith, length, subst}
use Rattle.c2_build_refusals.specs.InsertPoints.{IsInsertPoint}
use Rattle.c2_build_in_place.proofs.InsertPointed.{boxes_pass, boxes_refused}
use Rattle.c2_build_in_place.proofs.numbers.check_boxes.Goals as goal

-- there are as many root boxes as there may be
pub returns-then-as_slice-ge-MAX_ROOT_BOXES-clause-refused : goal.returns-then-as_slice-ge-MAX_ROOT_BOXES-clause-refused
returns-then-as_slice-ge-MAX_ROOT_BOXES-clause-refused c = λ p point.
    let count : length c.as_slice.result.now ≡ length c.in-Boxes.roots = ap length c.as_slice.ensures.boxes in
    boxes_refused c.in-Boxes.roots p (subst (λ s. IsInsertPoint s p) c.in-Boxes.is point) (omega (arith, count, c.if-as_slice-ge-MAX_ROOT_BOXES.true))

-- there are fewer
pub returns-else-as_slice-ge-MAX_ROOT_BOXES-clause-passed : goal.returns-else-as_slice-ge-MAX_ROOT_BOXES-clause-passed
returns-else-as_slice-ge-MAX_ROOT_BOXES-clause-passed c = λ p point.
    let count : length c.as_slice.result.now ≡ length c.in-Boxes.roots = ap length c.as_slice.ensures.boxes in
    boxes_pass c.in-Boxes.roots p (subst (λ s. IsInsertPoint s p) c.in-Boxes.is point) (omega (arith, count, c.if-as_slice-ge-MAX_ROOT_BOXES.false))
