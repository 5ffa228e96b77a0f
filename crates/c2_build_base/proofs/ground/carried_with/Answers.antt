use Rattle.c2_new_file_spec.specs.Store.{new_alg}
use Rattle.c2_build_base.proofs.Grounds.{carried_over}
use Rattle.c2_build_base.proofs.ground.carried_with.Goals as goal

-- the boxes, and the parent as it stands among them
pub returns : goal.returns
returns g c =
    let d = c.args.definition.now in
    let own = c.in_ok-ingredients.ensures in
    carried_over (g.H.Hashing.digest_of (new_alg d)) d c.args.tree.now c.args.redactions.now _ own.parent
    (λ text. (g.met.H.Hashing.is_digest (new_alg d) text).sized) c.requires.redactions c.in_ok-boxes.ensures own.are
    own.only
