use Rattle.std.proofs.Common.{option_map}
use Rattle.c2_compare_content.proofs.Placed.{known_at, target_known, target_missing}
use Rattle.c2_compare_content.proofs.targets.target_equality.Goals as goal

-- it was found out
pub returns-in-Some : goal.returns-in-Some
returns-in-Some c =
    target_known c.args.first.now c.args.second.now c.args.name.now c.in-Some.m _ c.in-Some.ensures.place
    (known_at c.args.first.now c.args.second.now c.args.known.now c.in-Some.m _ c.requires c.in-Some.ensures.inside)

-- the first store has none
pub returns-in-None : goal.returns-in-None
returns-in-None c =
    target_missing c.args.first.now c.args.second.now c.args.name.now c.compare_manifests.result (option_map (λ k. k.now) c.other.result) c.in-None.ensures.place c.compare_manifests.ensures c.other.ensures
