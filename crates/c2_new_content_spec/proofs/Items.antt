-- Ingredients as they are written, and that they are read so.
use Rattle.c2_uri.proofs.TheLaws.{written_uris_are_read}
use Rattle.c2_assertion.proofs.TheLaws.{a_written_ingredient_is_read, written_items_are_in_order_ingredient}
use Rattle.std.proofs.Common.{◌≡◌, ℕ, ◌^◌, ◌<◌, ◌≤◌, true, false, not, List, [], ◌∷◌, ◌++◌, length, Some, Ok, refl, ap, ◌∙◌, subst, arith, codes, lit≤, length-append}
use Rattle.std.specs.Prelude.{◌==◌, option_and_then}
use Rattle.std.specs.List.{AllByRecursion, list_any}
use Rattle.std.specs.Str.{IsUtf8}
use Rattle.std.proofs.lemmas.Bool.{and_parts, eqb-false, not-true, or_parts}
use Rattle.std.proofs.lemmas.Str.{IsUtf8-append}
use Rattle.c2_spec.specs.C2pa.Assertion.{ingredient_of, is_same, kind_of, manifest_named, manifest_signed, references_agree, signer_of, whole_of}
use Rattle.c2_spec.specs.C2pa.Manifest.{is_manifest_label}
use Rattle.c2_spec.specs.C2pa.Uri.{PlainUri, scheme, signature, store_path, uri_of, uri_text, whole}
use Rattle.c2_spec.specs.Cbor.Deterministic.{deterministic, shortest_head}
use Rattle.c2_spec.specs.Cbor.Fields.{HasItem}
use Rattle.c2_spec.specs.Cbor.Item.{Item, text}
use Rattle.c2_spec.specs.Cbor.Writing.{field, ref_item}
use Rattle.c2_spec.specs.Jumbf.Tree.{IsLabel, IsLabelByte, tree_bytes, trees_bytes}
use Rattle.c2_spec.specs.declared.assertion.Ingredient.{Ingredient}
use Rattle.c2_spec.specs.declared.assertion.IngredientVersion.TheVariants.{V3}
use Rattle.c2_spec.specs.declared.assertion.Relationship.{Relationship}
use Rattle.c2_spec.specs.declared.assertion.Relationship.TheVariants.{ParentOf, ComponentOf, InputTo}
use Rattle.c2_uri.specs.Writing.{IsLabel as IsUriLabel}
use Rattle.c2_rules.specs.Chains.{named_by}
use Rattle.c2_rules.specs.Ingredients.{is_ingredient_kind}
use Rattle.c2_assertion.specs.Written.{ingredient_item, relationship_word}
use Rattle.c2_definition.specs.declared.types.NewAssertion.{NewAssertion}
use Rattle.c2_new_file_spec.specs.Store.{NewIngredient, assertion_box, assertion_boxes, target_ref, written_ingredient}
use Rattle.c2_new_file_spec.specs.Unbound.{IsKnownLabel}
use Rattle.c2_new_file_spec.proofs.GoodItems.{Good, good_map, good_read, good_text, more_deep, named_field}
use Rattle.c2_new_file_spec.proofs.Labels.{IsLabelText, IsNamed}
use Rattle.c2_new_file_spec.proofs.Texts.{plain_text}
use Rattle.c2_new_content_spec.proofs.Bindings.{by_label}
use Rattle.c2_new_content_spec.proofs.Claims.{bare_good}
use Rattle.c2_new_content_spec.proofs.Uris.{named_label, signature_read, signature_utf8}
use Rattle.c2_lemmas.proofs.Lists.{same_bytes}

-- ---- labels

-- a binding is no ingredient
pub no_binding_reads : (l : List ℕ) → IsKnownLabel l → is_ingredient_kind (kind_of l) ≡ false
no_binding_reads = by_label (λ (l : List ℕ). is_ingredient_kind (kind_of l) ≡ false) refl refl

-- a label of a box that can be named is a text for URIs
pub label_text : (l : List ℕ) → IsLabel l → is_manifest_label (Some l) ≡ true → IsLabelText l
label_text l h k =
    let both = and_parts (not (length l == 0)) (not (list_any (λ b. b == 0x2F) l)) k in
    record
    { some = positive (length l) (eqb-false (length l) 0 (not-true (length l == 0) both.0)); named = named l h.1 (not-true (list_any (λ b. b == 0x2F) l) both.1) }
  where
    positive : (n : ℕ) → (n ≡ 0 → ⊥) → 0 < n
    positive n e = omega (arith, e)

    named : (t : List ℕ) → AllByRecursion IsLabelByte t → list_any (λ b. b == 0x2F) t ≡ false → IsNamed t
    named [] h e = tt
    named (b ∷ bs) h e =
        let parts = or_parts (b == 0x2F)
        (list_any (λ b. b == 0x2F) bs) e in (record { low = h.0.0; no_delete = h.0.1; no_slash = eqb-false b 0x2F parts.0 }, named bs h.1 parts.1)

-- ---- references

-- the URI of a manifest is read as that
whole_read : (label : List ℕ) → IsLabelText label
    → uri_of (uri_text (record { manifest = Some label; target = whole })) ≡ Some (record { manifest = Some label; target = whole })
whole_read label h =
    written_uris_are_read (record { manifest = Some label; target = whole })
    (record { manifest = λ x e. (let same : label ≡ x = cc (e) in subst IsUriLabel same (named_label label h)); target = refl })

-- the URI of a manifest names the manifest
pub whole_named : (label : List ℕ) → IsLabelText label
    → manifest_named (uri_text (record { manifest = Some label; target = whole })) ≡ Some label
whole_named label u =
    ap (option_and_then (λ (x : PlainUri). whole_of x.manifest x.target)) (whole_read label u)

-- the URI of a manifest's signature names the manifest
signed : (label : List ℕ) → IsLabelText label
    → manifest_signed (uri_text (record { manifest = Some label; target = signature })) ≡ Some label
signed label u =
    ap (option_and_then (λ (x : PlainUri). signer_of x.manifest x.target)) (signature_read label u)

-- the ingredient names its manifest
pub ingredient_named : (hash : List ℕ → List ℕ) (g : NewIngredient) → IsLabelText g.of.label
    → named_by (Some (written_ingredient hash g)) ≡ Some g.of.label
ingredient_named hash g u = whole_named g.of.label u

-- both references of an ingredient that was written agree
agree : (hash : List ℕ → List ℕ) (g : NewIngredient) → IsLabelText g.of.label
    → references_agree (written_ingredient hash g).manifest (written_ingredient hash g).signature ≡ true
agree hash g u =
    ap (λ o. is_same o (manifest_signed (uri_text (record { manifest = Some g.of.label; target = signature }))))
    (whole_named g.of.label u)
    ∙ ap (is_same (Some g.of.label)) (signed g.of.label u) ∙ same_bytes g.of.label

-- ---- the item

-- the URI of a manifest is UTF-8
whole_utf8 : (label : List ℕ) → IsUtf8 label → IsUtf8 (uri_text (record { manifest = Some label; target = whole }))
whole_utf8 label h =
    IsUtf8-append scheme ((store_path ++ label) ++ []) (plain_text scheme refl)
    (IsUtf8-append (store_path ++ label) [] (IsUtf8-append store_path label (plain_text store_path refl) h) (plain_text [] refl))

-- the word of a relationship
word_utf8 : (r : Relationship) → IsUtf8 (relationship_word r)
word_utf8 ParentOf = plain_text (codes "parentOf") refl
word_utf8 ComponentOf = plain_text (codes "componentOf") refl
word_utf8 InputTo = plain_text (codes "inputTo") refl

-- the ingredient can be written
good : (hash : List ℕ → List ℕ) (g : NewIngredient) → IsUtf8 g.of.label
    → Good 3 (ingredient_item (written_ingredient hash g))
unfolding shortest_head
good hash g u =
    good_map 2
    (field (codes "relationship") (text (relationship_word g.relationship)) ∷ field (codes "activeManifest") (ref_item (target_ref hash g.of.label whole g.of.contents)) ∷ field (codes "claimSignature") (ref_item (target_ref hash g.of.label signature g.of.signed)) ∷ []) (
      named_field 2 (codes "relationship") _ refl (lit≤ tt)
          (good_text 2 (relationship_word g.relationship) (lit≤ tt) (word_utf8 g.relationship)),
      (
        named_field 2 (codes "activeManifest") _ refl (lit≤ tt)
            (bare_good _ (hash g.of.contents) (whole_utf8 g.of.label u)),
        (named_field 2 (codes "claimSignature") _ refl (lit≤ tt) (bare_good _ (hash g.of.signed) (signature_utf8 g.of.label u)), tt),
      ),
    ) refl

-- an item that is read as this ingredient
pub record IsIngredient (payload : List ℕ) (g : Ingredient) : Type 0 where
  pub item : Item
  pub has : HasItem payload item
  pub is : ingredient_of V3 item ≡ Ok g

-- the ingredient is read as it was written
pub ingredient_read : (hash : List ℕ → List ℕ) (g : NewIngredient) → IsLabelText g.of.label → IsUtf8 g.of.label
    → length (deterministic (ingredient_item (written_ingredient hash g))) < 2 ^ 64
    → IsIngredient (deterministic (ingredient_item (written_ingredient hash g))) (written_ingredient hash g)
ingredient_read hash g label u short =
    let i : Ingredient = written_ingredient hash g in
    record {
      item = ingredient_item i;
      has = subst (HasItem (deterministic (ingredient_item i))) (written_items_are_in_order_ingredient i)
          (good_read (ingredient_item i) (more_deep 3 64 (ingredient_item i) (good hash g u) (lit≤ tt)) short);
      is = (a_written_ingredient_is_read i).1 (agree hash g label);
    }

-- ---- sizes

-- a box among others is no longer than all of them
pub box_within : (xs : List NewAssertion) (a : NewAssertion) (ys : List NewAssertion)
    → length (tree_bytes (assertion_box a)) ≤ length (trees_bytes (assertion_boxes (xs ++ a ∷ ys)))
box_within [] a ys = omega (arith, length-append (tree_bytes (assertion_box a)) (trees_bytes (assertion_boxes ys)))
box_within (x ∷ xs) a ys =
    omega
    (arith, box_within xs a ys, length-append (tree_bytes (assertion_box x)) (trees_bytes (assertion_boxes (xs ++ a ∷ ys))))
