use Rattle.std.proofs.Common.{◌-◌, ◌^◌, ℕ, ap, min, sym, ◌∙◌}
use Rattle.std.proofs.lemmas.Result.{IfOk-weaker}
use Rattle.c2_spec.specs.Digest.{zero_digest}
use Rattle.c2_definition.specs.declared.types.Definition.{Definition}
use Rattle.c2_definition.specs.declared.types.NewAssertion.{NewAssertion}
use Rattle.c2_new_file_spec.specs.Built.{bound_len}
use Rattle.c2_new_file_spec.specs.Store.{new_alg}
use Rattle.c2_build_parts.specs.Bound.{point_binding}
use Rattle.c2_build_in_place.proofs.Stored.{blank_len}
use Rattle.c2_build_drafts.proofs.numbers.store_len.Goals as goal

-- the binding is that of no range and no digest
pub returns-clause-len : goal.returns-clause-len
returns-clause-len c =
    let s = c.args.point.now in
    IfOk-weaker c.bound_size.result _ _ (λ n said hash content is. said hash content is
    ∙ ap (λ (b : NewAssertion). min (bound_len content b c.args.definition.now.reserve) (2 ^ 64 - 1))
    c.in_ok-binding.ensures
    ∙ ap
    (λ (d : Definition). min (bound_len content (point_binding (new_alg d) s 0 0 (zero_digest (new_alg d))) d.reserve) (2 ^ 64 - 1))
    (sym is.definition)
    ∙ ap (λ (m : ℕ). min m (2 ^ 64 - 1)) (blank_len s content)) c.bound_size.ensures.len
