-- A definition that a file is keeps what is asked of its fields.
use Rattle.std.proofs.Common.{◌≡◌, ℕ, Bool, true, false, cond, List, [], ◌∷◌, length, codes, Option, Some, None, option_and_then, Result, Ok, Err, nat_le, nat_lt, ◌&&◌, refl, sym, ap, subst, ◌∙◌, if◌then◌else◌}
use Rattle.std.specs.List.{AllByRecursion}
use Rattle.std.proofs.lemmas.Bool.{and_parts, leb-true}
use Rattle.serde_json.specs.Data.{Data, Items, no_items, item}
use Rattle.serde_json.specs.Find.{get, as_array}
use Rattle.c2_base.specs.declared.limits.TheConstants.{MAX_INPUT_LEN}
use Rattle.c2_spec.specs.Cbor.Fields.{require, joined}
use Rattle.c2_definition.specs.declared.types.Definition.{Definition}
use Rattle.c2_definition.specs.declared.types.DefinitionField.{DefinitionField}
use Rattle.c2_definition.specs.declared.types.DefinitionField.TheVariants as field
use Rattle.c2_definition.specs.declared.types.NewAssertion.{NewAssertion}
use Rattle.c2_definition.specs.declared.types.Payload.{Payload}
use Rattle.c2_definition.specs.Json.{kept, object_of, has_keys, text_at, number_at, optional_text_at, optional_list_at, list_or_missing, each_of}
use Rattle.c2_definition.specs.DefinitionFile.{least_reserve, most_protected, most_reserve, is_field, is_filled, is_manifest_label, is_new_label, is_assertion_field, payload_of, label_in, filled_at, hex_at}
use Rattle.c2_definition.specs.DefinitionFile.{protected_in, reserve_in, redactions_in, alg_in, assertion_from, assertion_of, labels_differ, assertions_in, HavePayloads, fields_of, definition_of, IsDefinition, IsWellFormed}
use Rattle.c2_spec.proofs.CborShared.{required}
use Rattle.c2_lemmas.proofs.Results.{past_test}

-- ---- what is there

-- a value that was kept passes the test
passes : {A : Type 0} (test : A → Bool) (o : Option A) (x : A) → kept test o ≡ Some x → (o ≡ Some x) × (test x ≡ true)
passes test None x h = absurd (cc (h))
passes test (Some y) x h = by_test (test y) refl h
  where
    by_test : (b : Bool) → test y ≡ b → cond b (Some y) None ≡ Some x → (Some y ≡ Some x) × (test x ≡ true)
    by_test true e same = let is : y ≡ x = cc (same) in (same, sym (ap test is) ∙ e)
    by_test false e same = absurd (cc (same))

-- ---- the assertions

-- an assertion of three members has the first as its label
label_from : (o : Option (List ℕ)) (k : Option Payload) (h : Option (List ℕ)) (a : NewAssertion)
    → assertion_from o k h ≡ Some a → o ≡ Some a.label
label_from None k h a e = absurd (cc (e))
label_from (Some l) None h a e = absurd (cc (e))
label_from (Some l) (Some k) None a e = absurd (cc (e))
label_from (Some l) (Some k) (Some h) a e = let is : record { label = l; kind = k; bytes = h } ≡ a = cc (e) in ap (λ (b : NewAssertion). Some b.label) is

-- a new assertion has such a label
new_label : (v : Data) (a : NewAssertion) → assertion_of v ≡ Some a → is_new_label a.label ≡ true
new_label v a e = by_keys (has_keys is_assertion_field v) e
  where
    from_members : Option NewAssertion
    from_members =
        assertion_from (kept is_new_label (text_at (codes "label") v))
        (option_and_then payload_of (text_at (codes "kind") v)) (hex_at (codes "hex") v)

    by_keys : (b : Bool) → (if b then from_members else None) ≡ Some a → is_new_label a.label ≡ true
    by_keys true h =
        (passes is_new_label (text_at (codes "label") v) a.label (label_from (kept is_new_label (text_at (codes "label") v)) (option_and_then payload_of (text_at (codes "kind") v)) (hex_at (codes "hex") v) a h)).1
    by_keys false h = absurd (cc (h))

-- all that were read have such labels
new_labels : (vs : Items) (list : List NewAssertion) → each_of assertion_of vs ≡ Some list
    → AllByRecursion (λ a. is_new_label a.label ≡ true) list
new_labels no_items list e = let is : [] ≡ list = cc (e) in subst (AllByRecursion (λ (a : NewAssertion). is_new_label a.label ≡ true)) is tt
new_labels (item v vs) list e = by_first (new_labels vs) (assertion_of v) refl (each_of assertion_of vs) refl e
  where
    by_first : ((more : List NewAssertion) → each_of assertion_of vs ≡ Some more → AllByRecursion (λ a. is_new_label a.label ≡ true) more)
        → (o : Option NewAssertion) → assertion_of v ≡ o → (rest : Option (List NewAssertion))
        → each_of assertion_of vs ≡ rest → joined o rest ≡ Some list
        → AllByRecursion (λ a. is_new_label a.label ≡ true) list
    by_first later None is rest at h = absurd (cc (h))
    by_first later (Some a) is None at h = absurd (cc (h))
    by_first later (Some a) is (Some more) at h =
        let same : a ∷ more ≡ list = cc (h) in
        subst (AllByRecursion (λ (b : NewAssertion). is_new_label b.label ≡ true)) same
        (new_label v a is, later more at)

-- all new assertions of an object have such labels
listed_labels : (v : Option Data) (list : List NewAssertion) → list_or_missing assertion_of v ≡ Some list
    → AllByRecursion (λ a. is_new_label a.label ≡ true) list
listed_labels None list e = let is : [] ≡ list = cc (e) in subst (AllByRecursion (λ (a : NewAssertion). is_new_label a.label ≡ true)) is tt
listed_labels (Some v) list e = by_list (as_array v) e
  where
    by_list : (o : Option Items) → option_and_then (each_of assertion_of) o ≡ Some list
        → AllByRecursion (λ a. is_new_label a.label ≡ true) list
    by_list None h = absurd (cc (h))
    by_list (Some vs) h = new_labels vs list h

-- assertions that were told to have their payloads
told_list : (v : Data) (payloads : Bool) (list : List NewAssertion)
    → (if payloads then assertions_in v else None) ≡ Some list → (payloads ≡ true) × (assertions_in v ≡ Some list)
told_list v true list e = (refl, e)
told_list v false list e = absurd (cc (e))

-- ---- the definition

-- a definition that an object is, is well formed
of_object : (v : Data) (payloads : Bool) (d : Definition) → (payloads ≡ true → HavePayloads v)
    → definition_of payloads v ≡ Ok d → IsWellFormed d
of_object v payloads d told h =
    let label = required field.Label (label_in v) _ d
    (past_test (has_keys is_field v) field.Other (fields_of payloads v) d h) in
    let instance = required field.InstanceId (filled_at (codes "instance_id") v) _ d label.2 in
    let generator = required field.Generator (filled_at (codes "generator") v) _ d instance.2 in
    let title = required field.Title (optional_text_at (codes "title") v) _ d generator.2 in
    let protected = required field.Protected (protected_in v) _ d title.2 in
    let reserve = required field.Reserve (reserve_in v) _ d protected.2 in
    let assertions = required field.Assertions (if payloads then assertions_in v else None) _ d reserve.2 in
    let redact = required field.Redact (redactions_in v) _ d assertions.2 in
    let alg = required field.Alg (alg_in v) _ d redact.2 in
    let listed = told_list v payloads assertions.0 assertions.1 in
    let differing = passes labels_differ (optional_list_at assertion_of (codes "assertions") v) assertions.0 listed.1 in
    let in_range =
    and_parts (nat_le least_reserve reserve.0) (nat_le reserve.0 most_reserve)
    (passes (λ n. nat_le least_reserve n && nat_le n most_reserve) (number_at (codes "reserve") v) reserve.0 reserve.1).1 in
    subst IsWellFormed (same_ok alg.2) (record {
      label = (passes is_manifest_label (text_at (codes "label") v) label.0 label.1).1;
      instance = (passes is_filled (text_at (codes "instance_id") v) instance.0 instance.1).1;
      generator = (passes is_filled (text_at (codes "generator") v) generator.0 generator.1).1;
      protected =
          leb-true (length protected.0) most_protected
          (passes (λ bytes. nat_le (length bytes) most_protected) (hex_at (codes "protected") v) protected.0 protected.1).1;
      least = leb-true least_reserve reserve.0 in_range.0;
      most = leb-true reserve.0 most_reserve in_range.1;
      labels = listed_labels (get (codes "assertions") v) assertions.0 differing.0;
      differ = differing.1;
      payloads = told listed.0 assertions.0 listed.1;
    })
  where
    same_ok : {x y : Definition} → ◌≡◌ {A = Result Definition DefinitionField} (Ok x) (Ok y) → x ≡ y
    same_ok e = cc (e)

-- a file that isn't too long is its object
by_length : (long : Bool) (r : Result Definition DefinitionField) (d : Definition)
    → (if long then Err field.Size else r) ≡ Ok d → r ≡ Ok d
by_length true r d h = absurd (cc (h))
by_length false r d h = h

-- a definition that a file is, is well formed
pub well_formed : (file : List ℕ) (d : Definition) → IsDefinition file (Ok d) → IsWellFormed d
well_formed file d h =
    let there =
    required field.Json (object_of file) (definition_of h.payloads) d
    (by_length (nat_lt MAX_INPUT_LEN (length file)) (require field.Json (object_of file) (definition_of h.payloads)) d (sym h.is)) in
    of_object there.0 h.payloads d (λ e. h.told.0 e there.0 there.1) there.2
