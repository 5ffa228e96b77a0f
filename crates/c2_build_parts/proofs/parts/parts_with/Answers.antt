use Rattle.std.proofs.Common.{◌≤◌, ap, subst, sym, ◌∙◌}
use Rattle.c2_base.specs.declared.limits.TheConstants.{MAX_STORE_LEN}
use Rattle.c2_definition.specs.declared.types.Definition.{Definition}
use Rattle.c2_definition.specs.declared.types.NewAssertion.{NewAssertion}
use Rattle.std.specs.Prelude.{IfOk}
use Rattle.std.proofs.lemmas.Result.{IfOk-weaker}
use Rattle.c2_new_file_spec.specs.Built.{bound_len}
use Rattle.c2_layout.specs.Parts.{AreParts, CanBeBound, IsContent}
use Rattle.c2_new_file_spec.specs.Store.{Content, new_alg}
use Rattle.c2_new_file_spec.specs.Unbound.{IsKnownBinding}
use Rattle.c2_build_parts.proofs.NewParts.{point_bound, point_known, point_size, point_size_is}
use Rattle.c2_build_parts.proofs.parts.parts_with.Goals as goal

pub bound_parts-requires-clause-known : goal.bound_parts-requires-clause-known
bound_parts-requires-clause-known g c =
    let w = c.args.drafted.now in
    subst IsKnownBinding (sym c.in_ok-binding.ensures)
    (point_known (new_alg c.args.definition.now) w.point w.draft.start w.draft.length c.args.digest.now)

-- there is room for the new store
pub bound_parts-requires-clause-small : goal.bound_parts-requires-clause-small
bound_parts-requires-clause-small g c =
    let w = c.args.drafted.now in
    let s = c.requires.small.1 in
    let size =
    point_bound s.content c.args.definition.now s.is.definition w.point w.draft.start w.draft.length
    c.args.digest.now c.args.definition.now.reserve c.requires.digest
    ∙ ap (λ (d : Definition). point_size w.point s.content d.reserve) (sym s.is.definition) ∙ point_size_is w.point s.content in
    subst (CanBeBound (g.H.Hashing.digest_of (new_alg c.args.definition.now)) c.args.definition.now w.ground.carried)
    (sym c.in_ok-binding.ensures)
    (record { content = s.content; is = s.is; small = subst (λ n. n ≤ MAX_STORE_LEN) (sym size) s.small })

-- the parts are made with this digest
pub returns-clause-parts : goal.returns-clause-parts
returns-clause-parts g c =
    subst
    (λ (b : NewAssertion). IfOk c.bound_parts.result (λ p. (content : Content) → IsContent (g.H.Hashing.digest_of (new_alg c.args.definition.now)) c.args.definition.now c.args.drafted.now.ground.carried content → AreParts (g.H.Hashing.digest_of (new_alg c.args.definition.now)) content b p))
    c.in_ok-binding.ensures c.bound_parts.ensures.parts

-- and are as long as was reckoned
pub returns-clause-size : goal.returns-clause-size
returns-clause-size g c =
    let w = c.args.drafted.now in
    IfOk-weaker c.bound_parts.result _ _ (λ p said content is. said content is ∙ ap (λ (b : NewAssertion). bound_len content b c.args.definition.now.reserve) c.in_ok-binding.ensures
    ∙ point_bound content c.args.definition.now is.definition w.point w.draft.start w.draft.length
    c.args.digest.now c.args.definition.now.reserve c.requires.digest
    ∙ ap (λ (d : Definition). point_size w.point content d.reserve) (sym is.definition) ∙ point_size_is w.point content) c.bound_parts.ensures.size
