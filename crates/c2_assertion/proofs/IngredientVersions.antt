-- A label has a version of ingredients exactly where it is one of an ingredient.
use Rattle.std.proofs.Common.{◌≡◌, ◌≢◌, ℕ, Bool, true, false, cond, List, Option, Some, None, codes, bytes_eq, eqb, is_some, refl, sym, ap, ◌∙◌, subst}
use Rattle.std.specs.Prelude.{◌↔◌}
use Rattle.std.specs.List.{starts_with}
use Rattle.std.proofs.lemmas.Slice.Eq.{bytes_eq-Decides}
use Rattle.c2_spec.specs.C2pa.Assertion.{ingredient_version_of_base, ingredient_version, kind_of_base, kind_of}
use Rattle.c2_spec.specs.C2pa.Uri.{base_of}
use Rattle.c2_spec.specs.declared.assertion.Kind.{Kind}
use Rattle.c2_spec.specs.declared.assertion.Kind.TheVariants as kinds
use Rattle.c2_spec.specs.declared.assertion.IngredientVersion.{IngredientVersion}
use Rattle.c2_spec.specs.declared.assertion.IngredientVersion.TheVariants.{V1, V2, V3}

-- the three labels
abbrev labels : IngredientVersion → List ℕ
labels V1 = codes "c2pa.ingredient"
labels V2 = codes "c2pa.ingredient.v2"
labels V3 = codes "c2pa.ingredient.v3"

-- a label with a version is one of the three
label_is : (base : List ℕ) (version : IngredientVersion) → ingredient_version_of_base base ≡ Some version
    → base ≡ labels version
label_is base version e = first (bytes_eq base (codes "c2pa.ingredient")) refl e
  where
    third : (is : Bool) → bytes_eq base (codes "c2pa.ingredient.v3") ≡ is → cond is (Some V3) None ≡ Some version
        → base ≡ labels version
    third true t e =
        subst (λ w. base ≡ labels w) (let same : V3 ≡ version = cc (e) in same) ((bytes_eq-Decides base (codes "c2pa.ingredient.v3")).0 t)
    third false t e = absurd (cc (e))

    second : (is : Bool) → bytes_eq base (codes "c2pa.ingredient.v2") ≡ is
        → cond is (Some V2) (cond (bytes_eq base (codes "c2pa.ingredient.v3")) (Some V3) None) ≡ Some version
        → base ≡ labels version
    second true t e =
        subst (λ w. base ≡ labels w) (let same : V2 ≡ version = cc (e) in same) ((bytes_eq-Decides base (codes "c2pa.ingredient.v2")).0 t)
    second false t e = third (bytes_eq base (codes "c2pa.ingredient.v3")) refl e

    first : (is : Bool) → bytes_eq base (codes "c2pa.ingredient") ≡ is
        → cond is (Some V1) (cond (bytes_eq base (codes "c2pa.ingredient.v2")) (Some V2) (cond (bytes_eq base (codes "c2pa.ingredient.v3")) (Some V3) None)) ≡ Some version
        → base ≡ labels version
    first true t e =
        subst (λ w. base ≡ labels w) (let same : V1 ≡ version = cc (e) in same) ((bytes_eq-Decides base (codes "c2pa.ingredient")).0 t)
    first false t e = second (bytes_eq base (codes "c2pa.ingredient.v2")) refl e

-- each of the three has its kind
kind_is : (version : IngredientVersion) → kind_of_base (labels version) ≡ kinds.Ingredient
kind_is V1 = refl
kind_is V2 = refl
kind_is V3 = refl

-- the kind of a label that passes these tests
abbrev kind_by : Bool → Bool → Bool → Bool → Bool → Bool → Bool → Bool → Kind
kind_by of_data bmff hash version other old_actions actions cloud =
    cond of_data kinds.DataHash (cond bmff kinds.BmffHash (cond hash kinds.OtherHash (cond version kinds.Ingredient
    (cond other kinds.IngredientOther (cond old_actions kinds.Actions (cond actions kinds.Actions (cond cloud kinds.Cloud kinds.Ordinary)))))))

-- without a version it is none of an ingredient
by_tests : (of_data bmff hash other old_actions actions cloud : Bool)
    → kind_by of_data bmff hash false other old_actions actions cloud ≢ kinds.Ingredient
by_tests true bmff hash other old_actions actions cloud e = cc (e)
by_tests false true hash other old_actions actions cloud e = cc (e)
by_tests false false true other old_actions actions cloud e = cc (e)
by_tests false false false true old_actions actions cloud e = cc (e)
by_tests false false false false true actions cloud e = cc (e)
by_tests false false false false false true cloud e = cc (e)
by_tests false false false false false false true e = cc (e)
by_tests false false false false false false false e = cc (e)

-- the kind of a label, by its tests
abbrev kind_with : List ℕ → Bool → Kind
kind_with base version =
    kind_by (bytes_eq base (codes "c2pa.hash.data")) (bytes_eq base (codes "c2pa.hash.bmff.v2"))
    (starts_with eqb base (codes "c2pa.hash.")) version
    (starts_with eqb base (codes "c2pa.ingredient")) (bytes_eq base (codes "c2pa.actions"))
    (bytes_eq base (codes "c2pa.actions.v2"))
    (bytes_eq base (codes "c2pa.cloud-data"))

-- the kind of a label without a version is none of an ingredient
other_kind : (base : List ℕ) → ingredient_version_of_base base ≡ None → kind_of_base base ≢ kinds.Ingredient
other_kind base none e =
    by_tests (bytes_eq base (codes "c2pa.hash.data")) (bytes_eq base (codes "c2pa.hash.bmff.v2"))
    (starts_with eqb base (codes "c2pa.hash."))
    (starts_with eqb base (codes "c2pa.ingredient")) (bytes_eq base (codes "c2pa.actions"))
    (bytes_eq base (codes "c2pa.actions.v2"))
    (bytes_eq base (codes "c2pa.cloud-data"))
    (let is : is_some (ingredient_version_of_base base) ≡ false = ap is_some none in sym (ap (kind_with base) is) ∙ e)

-- a label without a version is none of an ingredient, and the other way round
pub version_or_kind : (label : List ℕ) → (ingredient_version label ≡ None) ↔ (kind_of label ≢ kinds.Ingredient)
version_or_kind label = (other_kind (base_of label), λ other. without (ingredient_version label) refl other)
  where
    without : (o : Option IngredientVersion) → ingredient_version label ≡ o → kind_of label ≢ kinds.Ingredient
        → o ≡ None
    without None e other = refl
    without (Some version) e other =
        absurd (other (ap kind_of_base (label_is (base_of label) version e) ∙ kind_is version))
