use Rattle.std.proofs.Common.{arith}
use Rattle.c2_spec.proofs.BoxesOfManifests.{whole_inside}
use Rattle.c2_collect.proofs.Manifests.{seen_bytes, seen_count}
use Rattle.c2_collect.proofs.side.Side.manifest.Goals as goal

pub whole-requires : goal.whole-requires
whole-requires c =
    let s = c.self.inside in
    omega
    (arith, c.requires, seen_count s.tree.now s.store.now s.reached.now c.args.self.now c.self.invariant c.self.view_is)

pub bytes_of-requires : goal.bytes_of-requires
bytes_of-requires c =
    whole_inside c.self.inside.tree.now c.self.inside.store.now c.args.i c.whole.result c.self.invariant.same
    c.whole.ensures

-- the bytes of the manifest's tree
pub returns : goal.returns
returns c =
    let s = c.self.inside in
    seen_bytes s.tree.now s.store.now s.reached.now c.args.self.now c.args.i c.whole.result c.bytes_of.result.now
    c.self.invariant c.self.view_is c.requires c.whole.ensures c.bytes_of.ensures.bytes
