use Rattle.std.proofs.Common.{[], ◌∷◌, ◌++◌, List, ap, ◌∙◌}
use Rattle.c2_definition.specs.declared.types.NewAssertion.{NewAssertion}
use Rattle.c2_build_base.proofs.ground.parent_ingredients.Goals as goal

-- the parent as it stands among the boxes
pub returns : goal.returns
returns g c =
    let h = c.in-Ok.ensures in
    record {
      parent = h.parent;
      are =
          c.in_ok-push.ensures.items ∙ ap (λ (all : List NewAssertion). all ++ c.in_ok-own.own ∷ []) c.new-ingredients.ensures.items
          ∙ ap (λ (a : NewAssertion). a ∷ []) (c.in_ok-own.ensures _ h.parent h.digests);
      only = h.only;
    }
