use Rattle.std.proofs.Common.{None, ap, sym, ◌∙◌, subst}
use Rattle.std.specs.Prelude.{Err}
use Rattle.c2_base.specs.declared.media.MediaError.{MediaError}
use Rattle.c2_build_refusals.specs.InsertPoints.{IsInsertPoint}
use Rattle.c2_build_in_place.proofs.InsertPointed.{box_fitted, box_refused, refused_less}
use Rattle.c2_build_in_place.proofs.numbers.put_at.Goals as goal

-- a box is put in behind root boxes, the last of which isn't open
pub returns-in-Ok-clause-passed : goal.returns-in-Ok-clause-passed
returns-in-Ok-clause-passed c =
    λ base p at point. box_fitted _ c.in-Ok.start base p at (subst (λ s. IsInsertPoint s p) c.in-Boxes.is point) c.in-Ok.ensures.place

-- the last one is
pub returns-in-BadBox-clause-refused : goal.returns-in-BadBox-clause-refused
returns-in-BadBox-clause-refused c = λ base p at point. box_refused c.in-Boxes.roots c.in-BadBox.at base p at (subst (λ s. IsInsertPoint s p) c.in-Boxes.is point)
    (λ file r. ap (λ (e : MediaError). Err e) (sym c.in-BadBox.is) ∙ c.in-Err.ensures.place file r)

-- nothing else is refused
pub unreachable-requires : goal.unreachable-requires
unreachable-requires c = refused_less None c.in-Boxes.roots c.in-Err.error c.in-Err.ensures.rows c.in_default.not-BadBox
