use Rattle.c2_chain_spec.proofs.ChainLaws.{a_store_is_rooted_at_its_last_manifest}
use Rattle.c2_chain_spec.proofs.chain.a_store_is_rooted_at_its_last_manifest.Goals as goal

pub returns : goal.returns
returns c = a_store_is_rooted_at_its_last_manifest
