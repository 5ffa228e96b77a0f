use Rattle.std.proofs.Common.{arith}
use Rattle.c2_spec.proofs.BoxesOfManifests.{whole_inside}
use Rattle.c2_collect.proofs.Manifests.{seen_box, seen_count}
use Rattle.c2_collect.proofs.side.Side.append_less.Goals as goal
use Rattle.c2_lemmas.proofs.Results.{on_ok_then}

pub whole-requires : goal.whole-requires
whole-requires c =
    let s = c.self.inside in
    omega
    (arith, c.requires, seen_count s.tree.now s.store.now s.reached.now c.args.self.now c.self.invariant c.self.view_is)

pub append_less-requires : goal.append_less-requires
append_less-requires c =
    whole_inside c.self.inside.tree.now c.self.inside.store.now c.args.i c.whole.result c.self.invariant.same
    c.whole.ensures

-- the box with the index is the manifest
pub returns : goal.returns
returns c =
    let s = c.self.inside in
    on_ok_then c.append_less.result
    (λ h manifest is. h manifest (seen_box s.tree.now s.store.now s.reached.now c.args.self.now c.args.i c.whole.result manifest c.self.invariant c.self.view_is c.requires c.whole.ensures is))
    c.append_less.ensures
