use Rattle.std.proofs.Common.{subst, sym}
use Rattle.c2_cover.specs.Covers.{Covered}
use Rattle.c2_cover.specs.BoxOffsets.{AreBoxOffsets}
use Rattle.c2_cover.proofs.offsets.with_offsets.Goals as goal

-- the box offsets of root boxes rise, at positions that the cover's ranges leave
pub invariant_of-result : goal.invariant_of-result
invariant_of-result c =
    (c.cover.invariant.0, c.cover.invariant.1, subst (λ (v : Covered). AreBoxOffsets v.size v.ranges 0 c.in_ok-offsets.offsets.items) (sym c.cover.view_is) c.in_ok-offsets.ensures.rise)
