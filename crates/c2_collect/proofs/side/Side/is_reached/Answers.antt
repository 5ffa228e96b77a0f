use Rattle.std.proofs.Common.{arith}
use Rattle.c2_collect.proofs.Manifests.{seen_count}
use Rattle.c2_collect.proofs.side.Side.is_reached.Goals as goal

pub bounds-self-inside-i : goal.bounds-self-inside-i
bounds-self-inside-i c =
    let s = c.self.inside in
    omega
    (arith, c.requires, c.self.invariant.count, seen_count s.tree.now s.store.now s.reached.now c.args.self.now c.self.invariant c.self.view_is)
