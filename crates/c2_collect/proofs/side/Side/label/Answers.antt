use Rattle.std.proofs.Common.{arith}
use Rattle.c2_collect.proofs.Manifests.{seen_count, seen_label}
use Rattle.c2_collect.proofs.side.Side.label.Goals as goal

pub label-requires-clause-inside : goal.label-requires-clause-inside
label-requires-clause-inside c =
    let s = c.self.inside in
    omega
    (arith, c.requires, seen_count s.tree.now s.store.now s.reached.now c.args.self.now c.self.invariant c.self.view_is)

pub returns : goal.returns
returns c =
    let s = c.self.inside in
    seen_label s.tree.now s.store.now s.reached.now c.args.self.now c.args.i c.label.result.now c.self.invariant
    c.self.view_is c.requires c.label.ensures
