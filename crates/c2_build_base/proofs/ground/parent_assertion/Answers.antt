use Rattle.std.proofs.Common.{◌∙◌}
use Rattle.std.proofs.lemmas.Result.{IfOk-weaker}
use Rattle.c2_build_base.proofs.ground.parent_assertion.Goals as goal

-- it is that of the parent's ingredient, by references of the same digests
pub returns : goal.returns
returns c =
    IfOk-weaker c.ingredient.result _ _
    (λ a made hash p are. made hash p (record { label = c.in_ok-copied.ensures ∙ are.label; contents = are.contents; signed = are.signed }))
    c.ingredient.ensures
