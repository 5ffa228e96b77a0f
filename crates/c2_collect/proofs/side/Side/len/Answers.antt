use Rattle.std.proofs.Common.{◌∙◌}
use Rattle.c2_collect.proofs.Manifests.{seen_count, seen_distinct}
use Rattle.c2_collect.proofs.side.Side.len.Goals as goal

pub returns-clause-count : goal.returns-clause-count
returns-clause-count c =
    let s = c.self.inside in
    c.manifest_count.ensures
    ∙ seen_count s.tree.now s.store.now s.reached.now c.args.self.now c.self.invariant c.self.view_is

pub returns-clause-distinct : goal.returns-clause-distinct
returns-clause-distinct c =
    seen_distinct c.self.inside.tree.now c.self.inside.reached.now c.args.self.now c.self.view_is
    c.count-count.ensures.legal
