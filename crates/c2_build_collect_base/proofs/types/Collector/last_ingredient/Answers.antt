use Rattle.std.proofs.lemmas.Result.{IfOk-weaker}
use Rattle.c2_new_file_spec.specs.Store.{new_alg}
use Rattle.c2_build_collect_base.proofs.types.Collector.last_ingredient.Goals as goal

-- it is that of the references
pub returns : goal.returns
returns g c =
    let refs = c.in_ok-refs.ensures in
    IfOk-weaker c.ingredient.result _ _
    (λ a made. record { parent = refs.parent; is = made (g.H.Hashing.digest_of (new_alg c.args.self.now.definition.now)) refs.parent refs.are; only = refs.only })
    c.ingredient.ensures
