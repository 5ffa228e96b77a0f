-- The laws of this crate, for the proofs of the crates above it.
use Rattle.c2_build_collect.proofs.Questioned.{one_embed_asks, one_plan_asks}
use Rattle.c2_build_collect.specs.Asked.{OneCollectAsks, OneCollectPlanAsks}

-- the same inputs ask one list of questions at most
pub a_collected_build_asks_one_list_plan : OneCollectPlanAsks
a_collected_build_asks_one_list_plan = one_plan_asks

-- the same inputs ask one list of questions at most
pub a_collected_build_asks_one_list_embedding : OneCollectAsks
a_collected_build_asks_one_list_embedding = one_embed_asks
