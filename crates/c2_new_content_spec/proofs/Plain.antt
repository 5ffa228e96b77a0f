-- Assertions of a definition, of which no rule asks anything.
use Rattle.std.specs.Prelude.{IfSome}
use Rattle.std.proofs.Common.{◌≡◌, ℕ, ◌+◌, true, false, cond, List, [], ◌∷◌, ◌++◌, Option, Some, None, refl, ap, ◌∙◌}
use Rattle.std.specs.Prelude.{filter, filter_map}
use Rattle.std.specs.List.{AllByRecursion}
use Rattle.std.specs.Str.{IsUtf8}
use Rattle.std.proofs.lemmas.Bool.{false≢true}
use Rattle.c2_spec.specs.C2pa.Assertion.{kind_of}
use Rattle.c2_spec.specs.declared.assertion.Ingredient.{Ingredient}
use Rattle.c2_spec.specs.declared.assertion.Kind.{Kind}
use Rattle.c2_spec.specs.declared.assertion.Kind.TheVariants as kinds
use Rattle.c2_spec.specs.declared.digest.Alg.{Alg}
use Rattle.c2_rules.specs.Chains.{child_of, label_in}
use Rattle.c2_rules.specs.Ingredients.{assertion_uri, is_ingredient_kind}
use Rattle.c2_rules.specs.Readings.{ReadBox, Reading}
use Rattle.c2_rules.specs.Rules.{form_tests, ingredient_tests, is_binding, is_cloud, is_other_hash, kind_tests, reads_parent}
use Rattle.c2_rules.specs.Rules as rule
use Rattle.c2_rules.specs.Seen.{Seen}
use Rattle.c2_rules.specs.Tests.{each}
use Rattle.c2_rules.specs.declared.parsed.Parsed.{Parsed}
use Rattle.c2_rules.specs.declared.parsed.Parsed.TheVariants.{NoItem}
use Rattle.c2_definition.specs.DefinitionFile as file
use Rattle.c2_definition.specs.declared.types.NewAssertion.{NewAssertion}
use Rattle.c2_new_file_spec.specs.Written.{IsText}
use Rattle.c2_rules.proofs.Conditions.{Holds}
use Rattle.c2_new_file_spec.proofs.Labels.{new_label}
use Rattle.c2_new_file_spec.proofs.WrittenStore.{IsNew}
use Rattle.c2_new_content_spec.proofs.Claims.{IsGoodRef}
use Rattle.c2_new_content_spec.proofs.NewRules.{IsListed, bindings_of, entries_of, new_box, new_boxes}
use Rattle.c2_new_content_spec.proofs.Uris.{assertion_utf8}
use Rattle.c2_lemmas.proofs.Each.{each_append}

-- what holds of Actions and Ordinary
by_kind : (P : Kind → Type 0) → P kinds.Actions → P kinds.Ordinary → (k : Kind) → file.is_new_kind k ≡ true → P k
by_kind P a o kinds.Actions e = a
by_kind P a o kinds.Ordinary e = o
by_kind P a o kinds.DataHash e = absurd (false≢true e)
by_kind P a o kinds.BmffHash e = absurd (false≢true e)
by_kind P a o kinds.OtherHash e = absurd (false≢true e)
by_kind P a o kinds.Ingredient e = absurd (false≢true e)
by_kind P a o kinds.IngredientOther e = absurd (false≢true e)
by_kind P a o kinds.Cloud e = absurd (false≢true e)

-- none is a binding, an ingredient, cloud data or another hash
no_binding : (k : Kind) → file.is_new_kind k ≡ true → is_binding k ≡ false
no_binding = by_kind (λ k. is_binding k ≡ false) refl refl

-- no new kind of assertion is an ingredient
pub no_ingredient : (k : Kind) → file.is_new_kind k ≡ true → is_ingredient_kind k ≡ false
no_ingredient = by_kind (λ k. is_ingredient_kind k ≡ false) refl refl

-- each can be listed
pub listed_each : (as_ : List NewAssertion) → AllByRecursion IsNew as_ → AllByRecursion IsListed as_
listed_each [] h = tt
listed_each (a ∷ others) h =
    let new = new_label a.label h.0 in
    (record { text = new.text; no_cloud = by_kind (λ k. is_cloud k ≡ false) refl refl (kind_of a.label) new.kind; no_other = by_kind (λ k. is_other_hash k ≡ false) refl refl (kind_of a.label) new.kind }, listed_each others h.1)

-- none is read
abbrev pub none_read : NewAssertion → Parsed Ingredient
none_read a = NoItem

-- none names a child
pub no_children : (hash : Alg → List ℕ → List ℕ) (s : Seen) (k : ℕ) (as_ : List NewAssertion)
    → AllByRecursion Holds (each (λ k b. ingredient_tests hash s b) k (new_boxes none_read as_))
no_children hash s k [] = tt
no_children hash s k (a ∷ others) = no_children hash s (k + 1) others

-- no new assertion has a form to keep
pub no_forms : (s : Seen) (k : ℕ) (as_ : List NewAssertion) → AllByRecursion IsNew as_
    → AllByRecursion Holds (each (λ k b. form_tests s b) k (new_boxes none_read as_))
unfolding rule.label_kind
no_forms s k [] h = tt
no_forms s k (a ∷ others) h =
    each_append Holds (form_tests s (new_box none_read a))
    (each (λ k b. form_tests s b) (k + 1) (new_boxes none_read others))
    (by_kind (λ x. AllByRecursion Holds (kind_tests s.standing (assertion_uri (label_in s.own) a.label) NoItem x)) tt tt (kind_of a.label) (new_label a.label h.0).kind)
    (no_forms s (k + 1) others h.1)

-- ---- texts

-- a title
pub title_utf8 : (o : Option (List ℕ)) → IfSome o IsText → IfSome o IsUtf8
title_utf8 None h = tt
title_utf8 (Some t) h = h.utf8

-- texts that a program holds are UTF-8
pub texts_utf8 : (ts : List (List ℕ)) → AllByRecursion IsText ts → AllByRecursion IsUtf8 ts
texts_utf8 [] h = tt
texts_utf8 (t ∷ ts) h = (h.0.utf8, texts_utf8 ts h.1)

-- ---- references

-- the references to assertions can be written
pub refs_good : (hash : List ℕ → List ℕ) (as_ : List NewAssertion)
    → AllByRecursion (λ (a : NewAssertion). IsText a.label) as_ → AllByRecursion IsGoodRef (entries_of hash as_)
refs_good hash [] h = tt
refs_good hash (a ∷ others) h =
    (record { url = assertion_utf8 a.label h.0.utf8; alg = refl }, refs_good hash others h.1)

-- ---- boxes

-- boxes of assertions in a row
pub boxes_append : (f : NewAssertion → Parsed Ingredient) (xs ys : List NewAssertion)
    → new_boxes f (xs ++ ys) ≡ new_boxes f xs ++ new_boxes f ys
boxes_append f [] ys = refl
boxes_append f (x ∷ xs) ys = ap (λ (bs : List ReadBox). new_box f x ∷ bs) (boxes_append f xs ys)

-- a definition's assertions are no bindings
pub no_bindings : (ds tail : List NewAssertion) → AllByRecursion IsNew ds → bindings_of (ds ++ tail) ≡ bindings_of tail
no_bindings [] tail h = refl
no_bindings (a ∷ ds) tail h =
    ap (λ x. cond x (a.label ∷ bindings_of (ds ++ tail)) (bindings_of (ds ++ tail)))
    (no_binding (kind_of a.label) (new_label a.label h.0).kind)
    ∙ no_bindings ds tail h.1

-- a definition's assertions name no child
pub none_child : (qs : List Reading) (n : ℕ) (ds : List NewAssertion) (tail : List ReadBox)
    → filter_map (child_of qs n) (new_boxes none_read ds ++ tail) ≡ filter_map (child_of qs n) tail
none_child qs n [] tail = refl
none_child qs n (a ∷ ds) tail = none_child qs n ds tail

-- new assertions are no parents
pub none_parent : (ds : List NewAssertion) (tail : List ReadBox)
    → filter reads_parent (new_boxes none_read ds ++ tail) ≡ filter reads_parent tail
none_parent [] tail = refl
none_parent (a ∷ ds) tail = none_parent ds tail
