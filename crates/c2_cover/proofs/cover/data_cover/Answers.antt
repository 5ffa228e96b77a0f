use Rattle.std.proofs.Common.{◌∙◌}
use Rattle.c2_cover.proofs.MergingSteps.{in_order, bad_all, cover_of}
use Rattle.c2_cover.proofs.cover.data_cover.Goals as goal

-- ranges of which none is bad rise and end in the file
pub merged-requires : goal.merged-requires
merged-requires c =
    in_order c.args.size 0 0 c.args.ranges.now (bad_all c.args.size c.args.ranges.now ∙ c.in-Ok.ensures.fit)

-- the merged ranges exclude what the given ones do, so they make the cover
pub returns-clause-cover : goal.returns-clause-cover
returns-clause-cover c =
    cover_of c.args.size c.args.ranges.now _ _ c.new-offsets.ensures.items c.in_ok-ranges.ensures.same
