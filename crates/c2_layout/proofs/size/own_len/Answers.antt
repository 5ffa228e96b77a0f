use Rattle.std.proofs.Common.{◌-◌, ◌^◌, min, [], ◌∷◌, List, length, ap, sym, ◌∙◌}
use Rattle.c2_spec.specs.Jumbf.Tree.{trees_bytes}
use Rattle.c2_definition.specs.declared.types.NewAssertion.{NewAssertion}
use Rattle.c2_new_file_spec.specs.Store.{assertion_boxes}
use Rattle.c2_layout.proofs.Sizes.{added, both_boxes}
use Rattle.c2_layout.proofs.size.own_len.Goals as goal

-- both are added up to the greatest number
pub returns : goal.returns
returns c =
    let ingredients = c.args.ingredients.now in
    let b = c.args.binding.now in
    let most = 2 ^ 64 - 1 in
    added most (length (trees_bytes (assertion_boxes ingredients))) (length (trees_bytes (assertion_boxes (b ∷ [])))) _
    _ _ c.boxes_len.ensures
    (c.boxes_len-2.ensures ∙ ap (λ (as_ : List NewAssertion). min (length (trees_bytes (assertion_boxes as_))) most) c.from_ref.ensures.value)
    c.saturating_add.ensures
    ∙ ap (λ n. min n most) (sym (both_boxes ingredients (b ∷ [])))
