use Rattle.std.proofs.Common.{ap, min, ◌-◌, ◌^◌, ◌∙◌}
use Rattle.std.proofs.lemmas.Result.{IfOk-weaker}
use Rattle.c2_spec.proofs.Digests.{zero_len}
use Rattle.c2_definition.specs.declared.types.NewAssertion.{NewAssertion}
use Rattle.c2_new_file_spec.specs.Built.{bound_len, no_digest}
use Rattle.c2_new_file_spec.specs.Fresh.{fresh_content}
use Rattle.c2_new_file_spec.specs.Store.{new_alg}
use Rattle.c2_new_file_spec.specs.Films.{new_bmff_binding}
use Rattle.c2_build_front.proofs.Sized.{fresh_is}
use Rattle.c2_build_front.proofs.sizes.told_store_len.Goals as goal

-- the binding is that of no digest
pub returns : goal.returns
returns c =
    let d = c.args.definition.now in
    let binding =
    c.in_ok-binding.ensures ∙ ap (new_bmff_binding (new_alg d)) (c.as_slice.ensures ∙ c.zeros-blank.ensures) in
    let fresh =
    fresh_is (no_digest (new_alg d)) d c.nothing-nothing.result c.nothing-nothing.ensures.boxes
    c.nothing-nothing.ensures.ingredients (λ text. zero_len (new_alg d)) in
    IfOk-weaker c.bound_size.result _ _ (λ n said. said (no_digest (new_alg d)) (fresh_content d) fresh
    ∙ ap (λ (b : NewAssertion). min (bound_len (fresh_content d) b d.reserve) (2 ^ 64 - 1)) binding) c.bound_size.ensures.len
