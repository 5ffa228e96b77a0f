use Rattle.std.proofs.Common.{◌+◌, ◌-◌, ◌^◌, min, List, ℕ, [], ◌∷◌, ◌++◌, length, sym, ap, ◌∙◌}
use Rattle.c2_spec.specs.Jumbf.Tree.{trees_bytes}
use Rattle.c2_definition.specs.declared.types.NewAssertion.{NewAssertion}
use Rattle.c2_new_file_spec.specs.Built.{no_digest}
use Rattle.c2_new_file_spec.specs.Store.{assertion_boxes, new_alg}
use Rattle.c2_layout.proofs.Contents.{all_claim, reckoned_size}
use Rattle.c2_layout.proofs.Sizes.{saturated}
use Rattle.c2_layout.proofs.size.bound_size.Goals as goal

-- the parts are added up to the greatest number
pub returns-clause-len : goal.returns-clause-len
returns-clause-len c = λ hash content is.
    let d = c.args.definition.now in
    let more = c.args.carried.now.ingredients.items in
    let b = c.args.binding.now in
    let most = 2 ^ 64 - 1 in
    let defined =
    c.boxes_len-boxes.ensures
    ∙ ap (λ (all : List NewAssertion). min (length (trees_bytes (assertion_boxes all))) most) c.as_slice.ensures in
    let label = c.saturating_add.ensures ∙ ap (λ (l : List ℕ). min (length l + 232) most) c.as_str.ensures.value in
    let own =
    c.own_len.ensures
    ∙ ap (λ (all : List NewAssertion). min (length (trees_bytes (assertion_boxes (all ++ b ∷ [])))) most)
    c.as_slice-ingredients.ensures.value in
    let claim =
    c.in_ok-claim.ensures
    ∙ ap (λ (all : List NewAssertion). length (all_claim (no_digest (new_alg d)) d all b))
    c.as_slice-ingredients.ensures.value in
    let carried = c.as_slice-2.ensures.value ∙ is.boxes in
    saturated most (length d.label) (length (trees_bytes (assertion_boxes d.assertions)))
    (length (trees_bytes (assertion_boxes (more ++ b ∷ [])))) (length (all_claim (no_digest (new_alg d)) d more b))
    d.reserve (length (trees_bytes content.carried)) _ _ _ _ _ _ _ _
    label defined c.saturating_add-framed.ensures own c.saturating_add-bound.ensures
    (c.saturating_add-claimed.ensures ∙ ap (λ n. min (c.saturating_add-bound.result + n) most) claim)
    c.saturating_add-filled.ensures
    (c.saturating_add-2.ensures ∙ ap (λ (x : List ℕ). min (c.saturating_add-filled.result + length x) most) carried)
    ∙ ap (λ n. min n most)
    (sym (reckoned_size hash d c.args.carried.now content b d.reserve is))
