use Rattle.c2_chain_spec.proofs.ChainLaws.{chains_join}
use Rattle.c2_chain_spec.proofs.chain.chains_join.Goals as goal

pub returns : goal.returns
returns c = chains_join
