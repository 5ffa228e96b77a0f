use Rattle.std.proofs.Common.{◌∙◌}
use Rattle.c2_collect.proofs.Manifests.{seen_count}
use Rattle.c2_collect.proofs.side.Side.reached.Goals as goal

pub returns-clause-count : goal.returns-clause-count
returns-clause-count c =
    let s = c.self.inside in
    c.self.invariant.count
    ∙ seen_count s.tree.now s.store.now s.reached.now c.args.self.now c.self.invariant c.self.view_is
