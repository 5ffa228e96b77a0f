use Rattle.c2_cmd_reading.proofs.Preparing.{prepares_asked}
use Rattle.c2_cmd_reading.proofs.prepare.prepare_store.Goals as goal

-- the reached manifests of a store, the last first, are those that `questions` asks of
pub returns-clause-prepared : goal.returns-clause-prepared
returns-clause-prepared c =
    prepares_asked c.args.tree.now c.in_ok-chain.chain.readings _ c.in_ok-chain.ensures.reads c.in_ok-asked.ensures
