use Rattle.std.proofs.Common.{◌≡◌, length, arith}
use Rattle.c2_cmd_reading.proofs.Asked.{chain_count}
use Rattle.c2_cmd_reading.proofs.prepare.push_asked.Goals as goal

-- there is a reading for the manifest at place `i`, so that it can be asked whether it is reached
pub reached-requires : goal.reached-requires
reached-requires c =
    let same : length c.args.chain.now.manifests ≡ length c.args.chain.now.readings =
    chain_count c.args.tree.now c.args.store.now c.args.chain.now c.requires.chain in
    omega arith
