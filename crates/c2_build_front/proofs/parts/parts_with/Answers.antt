use Rattle.std.proofs.Common.{ap, length, subst, sym, ◌≡◌, ◌≤◌, ◌∙◌}
use Rattle.std.proofs.lemmas.Result.{IfOk-weaker}
use Rattle.c2_base.specs.declared.limits.TheConstants.{MAX_STORE_LEN}
use Rattle.c2_definition.specs.declared.types.NewAssertion.{NewAssertion}
use Rattle.c2_new_file_spec.specs.Built.{bound_len}
use Rattle.c2_new_file_spec.specs.Fresh.{fresh_content}
use Rattle.c2_new_file_spec.specs.Store.{new_alg}
use Rattle.c2_new_file_spec.specs.Unbound.{IsKnownBinding}
use Rattle.c2_new_file_spec.specs.Films.{new_bmff_binding}
use Rattle.c2_layout.specs.Parts.{AreParts}
use Rattle.c2_build_front.proofs.Sized.{bound_is, fresh_is, known_binding, sized_is}
use Rattle.c2_build_front.proofs.parts.parts_with.Goals as goal

-- the binding is of a kind that is known
pub bound_parts-requires-clause-known : goal.bound_parts-requires-clause-known
bound_parts-requires-clause-known g c =
    subst IsKnownBinding
    (sym (c.in_ok-binding.ensures ∙ ap (new_bmff_binding (new_alg c.args.definition.now)) c.as_slice.ensures))
    (known_binding (new_alg c.args.definition.now) c.args.digest.now)

-- there is room for the new store
pub bound_parts-requires-clause-small : goal.bound_parts-requires-clause-small
bound_parts-requires-clause-small g c =
    let d = c.args.definition.now in
    let binding = c.in_ok-binding.ensures ∙ ap (new_bmff_binding (new_alg d)) c.as_slice.ensures in
    record {
      content = fresh_content d;
      is =
          fresh_is _ d _ c.nothing-nothing.ensures.boxes c.nothing-nothing.ensures.ingredients
          (λ text. (g.met.H.Hashing.is_digest (new_alg d) text).sized);
      small =
          subst (λ (b : NewAssertion). bound_len (fresh_content d) b d.reserve ≤ MAX_STORE_LEN) (sym binding)
          (subst (λ n. n ≤ MAX_STORE_LEN) (sym (bound_is d c.args.digest.now c.requires.digest)) c.requires.small);
    }

-- the parts are made with this digest
pub returns-clause-parts : goal.returns-clause-parts
returns-clause-parts g c =
    let d = c.args.definition.now in
    let binding = c.in_ok-binding.ensures ∙ ap (new_bmff_binding (new_alg d)) c.as_slice.ensures in
    let fresh =
    fresh_is (g.H.Hashing.digest_of (new_alg d)) d c.nothing-nothing.result c.nothing-nothing.ensures.boxes
    c.nothing-nothing.ensures.ingredients (λ text. (g.met.H.Hashing.is_digest (new_alg d) text).sized) in
    IfOk-weaker c.bound_parts.result _ _
    (λ p said. subst (λ (b : NewAssertion). AreParts (g.H.Hashing.digest_of (new_alg d)) (fresh_content d) b p) binding (said (fresh_content d) fresh))
    c.bound_parts.ensures.parts

-- and are as long as was reckoned
pub returns-clause-size : goal.returns-clause-size
returns-clause-size g c =
    let d = c.args.definition.now in
    let fresh =
    fresh_is (g.H.Hashing.digest_of (new_alg d)) d c.nothing-nothing.result c.nothing-nothing.ensures.boxes
    c.nothing-nothing.ensures.ingredients (λ text. (g.met.H.Hashing.is_digest (new_alg d) text).sized) in
    IfOk-weaker c.bound_parts.result _ _ (λ p said.
    let all = said (fresh_content d) fresh in
    let none : length c.nothing-nothing.result.boxes ≡ 0 = ap length c.nothing-nothing.ensures.boxes in
    let bound =
    ap (λ (b : NewAssertion). bound_len (fresh_content d) b d.reserve)
    (c.in_ok-binding.ensures ∙ ap (new_bmff_binding (new_alg d)) c.as_slice.ensures) in
    let fixed = bound_is d c.args.digest.now c.requires.digest in
    sized_is _ _ _ none (all ∙ bound ∙ fixed)) c.bound_parts.ensures.size
