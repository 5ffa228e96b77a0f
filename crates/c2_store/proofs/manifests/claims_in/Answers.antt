use Rattle.std.proofs.Common.{arith, codes}
use Rattle.c2_spec.specs.Jumbf.Boxes.{box_at}
use Rattle.c2_spec.specs.C2pa.Manifest.{has_type}
use Rattle.c2_store.proofs.Picking.{filter_step}
use Rattle.c2_store.proofs.manifests.claims_in.Goals as goal

pub loop-i-preserved : goal.loop-i-preserved
loop-i-preserved c =
    filter_step (λ i. has_type (codes "c2cl") (box_at c.args.tree.now i).box) c.args.boxes.now c.loop-i.found.items _
    c.loop-i.i-index 0 c.is_claim-wanted.result (omega arith) c.loop-i.invariant c.is_claim-wanted.ensures
    c.in_ok-push_if.ensures
