use Rattle.std.proofs.Common.{◌∙◌, List, subst}
use Rattle.c2_base.specs.declared.values.Range.{Range}
use Rattle.c2_cover.specs.Covers.{IsCoverOf}
use Rattle.c2_cover.proofs.bmff.told_cover.Goals as goal

-- the ranges are covered as they stand, in their copy
pub returns : goal.returns
returns c = record {
  bare = c.in_ok-cover.cover;
  cover =
      subst (λ (rs : List Range). IsCoverOf c.args.size rs c.in_ok-cover.cover)
      (c.as_mut_slice.ensures.value ∙ c.in_ok-sorted.ensures.items) c.in_ok-cover.ensures.cover;
  told = c.in_ok-told.ensures;
}
