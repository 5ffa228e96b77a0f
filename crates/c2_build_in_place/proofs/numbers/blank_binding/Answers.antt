use Rattle.std.proofs.Common.{ap, ◌∙◌}
use Rattle.std.proofs.lemmas.Result.{IfOk-weaker}
use Rattle.c2_build_parts.specs.Bound.{point_binding}
use Rattle.c2_build_in_place.proofs.numbers.blank_binding.Goals as goal

-- the digest is of zero bytes
pub returns : goal.returns
returns c =
    IfOk-weaker c.binding_at.result _ _
    (λ a is. is ∙ ap (point_binding c.args.alg c.args.point.now 0 0) c.zeros-blank.ensures) c.binding_at.ensures
