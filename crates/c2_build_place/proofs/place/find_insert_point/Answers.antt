use Rattle.std.proofs.Common.{◌≡◌, sym, subst}
use Rattle.std.proofs.lemmas.Result.{IfOk-weaker}
use Rattle.c2_container.specs.Contained.{FillsSource, IsContainerOf}
use Rattle.c2_container.specs.declared.types.Container.{Container}
use Rattle.c2_without_store.specs.Clears.{cleared, cleared_len}
use Rattle.c2_build_place.specs.PointsLeft.{HasInsertPoint, clearing_by}
use Rattle.c2_build_place.proofs.Points.{bmff_found}
use Rattle.c2_build_place.proofs.place.find_insert_point.Goals as goal

-- the root boxes fill the file
pub in_boxes-requires : goal.in_boxes-requires
in_boxes-requires c =
    (c.requires.0, c.requires.1.small, subst (FillsSource c.requires.0) c.in-Bmff.is c.requires.1.fill)

-- they are those of the file, in which its store was found
pub returns-in-Bmff-clause-point : goal.returns-in-Bmff-clause-point
returns-in-Bmff-clause-point c = IfOk-weaker c.in_boxes.result _ _ (λ p at bytes is.
    let found = c.args.file.now.found in
    let of = subst (IsContainerOf bytes) c.in-Bmff.is is.container in
    subst (λ (k : Container). HasInsertPoint (cleared (clearing_by k found) bytes) p.point) (sym c.in-Bmff.is) (at bytes of.0 of.1 (bmff_found bytes found of.0 is.located))) c.in_boxes.ensures.point

pub returns-in-Bmff-clause-size : goal.returns-in-Bmff-clause-size
returns-in-Bmff-clause-size c = IfOk-weaker c.in_boxes.result _ _ (λ p size len within.
    subst (λ (k : Container). p.size ≡ cleared_len (clearing_by k c.args.file.now.found) len) (sym c.in-Bmff.is) (size len (subst (FillsSource len) c.in-Bmff.is within.fill))) c.in_boxes.ensures.size
