-- The labels of ingredients: they can stand in boxes and in URIs, and are of the kind of an ingredient. And that a manifest may have no
-- ingredient, or the parent alone.
use Rattle.std.specs.Prelude.{unwrap_or}
use Rattle.std.proofs.Common.{◌≡◌, inl, inr, ℕ, List, [], ◌∷◌, refl, sym, subst, arith, codes, lit<, lit≤}
use Rattle.std.specs.List.{AllByRecursion}
use Rattle.c2_spec.specs.C2pa.Assertion.{ingredient_version, kind_of}
use Rattle.c2_spec.specs.Jumbf.Tree.{IsLabel}
use Rattle.c2_spec.specs.declared.assertion.IngredientVersion.TheVariants.{V3}
use Rattle.c2_spec.specs.declared.assertion.Kind.TheVariants as kinds
use Rattle.c2_new_file_spec.specs.Store.{NamedManifest, NewIngredient, parent_ingredient}
use Rattle.c2_new_file_spec.specs.Written.{AreIngredients, IsIngredientLabel, IsText}
use Rattle.c2_new_file_spec.proofs.BoxLemmas.{plain_label}
use Rattle.c2_new_file_spec.proofs.Labels.{IsLabelText}
use Rattle.c2_new_file_spec.proofs.Texts.{plain_text}

-- ---- labels

-- what the label of an ingredient is
pub record IsGoodLabel (l : List ℕ) : Type 0 where
  pub label : IsLabel l
  pub kind : kind_of l ≡ kinds.Ingredient
  pub named : IsLabelText l
  pub text : IsText l
  pub version : unwrap_or (ingredient_version l) V3 ≡ V3

-- a label of letters
first_named : IsLabelText (codes "c2pa.ingredient.v3")
first_named = record { some = lit< tt; named = grind arith }

-- the label of a second ingredient is one of letters
second_named : IsLabelText (codes "c2pa.ingredient.v3__1")
second_named = record { some = lit< tt; named = grind arith }

-- both labels of ingredients are labels of letters
pub good_label : (l : List ℕ) → IsIngredientLabel l → IsGoodLabel l
good_label l (inl e) = subst IsGoodLabel (sym e) (record {
  label = plain_label (codes "c2pa.ingredient.v3") refl;
  kind = refl;
  named = first_named;
  text = record { utf8 = plain_text (codes "c2pa.ingredient.v3") refl; short = lit< tt };
  version = refl;
})
good_label l (inr e) = subst IsGoodLabel (sym e) (record {
  label = plain_label (codes "c2pa.ingredient.v3__1") refl;
  kind = refl;
  named = second_named;
  text = record { utf8 = plain_text (codes "c2pa.ingredient.v3__1") refl; short = lit< tt };
  version = refl;
})

-- labels of ingredients
abbrev pub AreLabelled : List NewIngredient → Type 0
AreLabelled gs = AllByRecursion (λ (g : NewIngredient). IsIngredientLabel g.label) gs

-- ---- no ingredient, or one

-- a manifest may have no ingredient
pub no_ingredients : AreIngredients []
no_ingredients = record { labels = tt; apart = tt; parents = lit≤ tt }

-- a manifest may have the parent as its only ingredient
pub parent_alone : (p : NamedManifest) → AreIngredients (parent_ingredient p ∷ [])
parent_alone p = record { labels = (inl refl, tt); apart = (tt, tt); parents = lit≤ tt }
