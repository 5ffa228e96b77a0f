-- The assertions of one ingredient or two.
use Rattle.std.proofs.Common.{◌≡◌, ℕ, List, [], ◌∷◌, ap, ap₂, codes}
use Rattle.std.specs.List.{AllZip}
use Rattle.c2_spec.specs.Jumbf.Tree.{Trees}
use Rattle.c2_spec.specs.declared.assertion.Relationship.TheVariants.{ComponentOf, ParentOf}
use Rattle.c2_definition.specs.declared.types.NewAssertion.{NewAssertion}
use Rattle.c2_new_file_spec.specs.Store.{NamedManifest}
use Rattle.c2_new_file_spec.specs.Parents.{IsParentOf}
use Rattle.c2_build_collect_base.specs.Steps.{IsLastIngredient, NameLast, left_in}

-- the last manifests of stores, less what is redacted of them
abbrev Lasts : List (List ℕ) → List NamedManifest → List Trees → Type 0
Lasts redacts ps stores = AllZip (λ (p : NamedManifest) (boxes : Trees). IsParentOf p (left_in redacts boxes)) ps stores

-- a component
pub one_named : (hash : List ℕ → List ℕ) (redacts : List (List ℕ)) (other : Trees) (a : NewAssertion)
    → IsLastIngredient hash (left_in redacts other) (codes "c2pa.ingredient.v3") ComponentOf a
    → NameLast hash redacts (other ∷ []) (a ∷ [])
one_named hash redacts other a h = record { named = h.parent ∷ []; are = ap (λ x. x ∷ []) h.is; only = only }
  where
    only : (ps : List NamedManifest) → Lasts redacts ps (other ∷ []) → ps ≡ h.parent ∷ []
    only [] z = absurd z
    only (p ∷ []) z = ap (λ x. x ∷ []) (h.only p z.0)
    only (p ∷ q ∷ ps) z = absurd z.1

-- a parent, and then a component
pub two_named : (hash : List ℕ → List ℕ) (redacts : List (List ℕ)) (old other : Trees) (a b : NewAssertion)
    → IsLastIngredient hash (left_in redacts old) (codes "c2pa.ingredient.v3") ParentOf a
    → IsLastIngredient hash (left_in redacts other) (codes "c2pa.ingredient.v3__1") ComponentOf b
    → NameLast hash redacts (old ∷ other ∷ []) (a ∷ b ∷ [])
two_named hash redacts old other a b h k = record { named = h.parent ∷ k.parent ∷ []; are = ap₂ (λ x y. x ∷ y ∷ []) h.is k.is; only = only }
  where
    only : (ps : List NamedManifest) → Lasts redacts ps (old ∷ other ∷ []) → ps ≡ h.parent ∷ k.parent ∷ []
    only [] z = absurd z
    only (p ∷ []) z = absurd z.1
    only (p ∷ q ∷ []) z = ap₂ (λ x y. x ∷ y ∷ []) (h.only p z.0) (k.only q z.1.0)
    only (p ∷ q ∷ x ∷ ps) z = absurd z.1.1
