-- A definition that a file is, is short: its texts and its lists hold no more than the file has bytes, or thrice that.
use Rattle.c2_definition.proofs.TheLaws.{definitions_are_well_formed}
use Rattle.std.proofs.Common.{◌≡◌, ℕ, ◌+◌, ◌*◌, ◌≤◌, Bool, true, false, cond, List, [], ◌∷◌, length, codes, Option}
use Rattle.std.proofs.Common.{Some, None, option_and_then, option_map, Result, Ok, Err, nat_lt, refl, sym, ap, ◌∙◌}
use Rattle.std.proofs.Common.{subst, arith, if◌then◌else◌}
use Rattle.std.specs.Prelude.{IfSome}
use Rattle.std.specs.Result.{result_ok}
use Rattle.std.specs.Str.{is_utf8}
use Rattle.std.proofs.lemmas.Bool.{ltb-false}
use Rattle.hex.specs.Hex.{decode_of}
use Rattle.hex.specs.declared.error.FromHexError.{FromHexError}
use Rattle.hex.proofs.HexLemmas.{decode_of-ok}
use Rattle.serde_json.specs.Data.{Data, Items, no_items, item}
use Rattle.serde_json.specs.Find.{as_array, as_str, get}
use Rattle.serde_json.specs.Read.{read}
use Rattle.c2_base.specs.declared.limits.TheConstants.{MAX_INPUT_LEN}
use Rattle.c2_spec.specs.Cbor.Fields.{joined, require}
use Rattle.c2_definition.specs.DefinitionFile.{IsDefinition, alg_in, assertion_from, assertion_of}
use Rattle.c2_definition.specs.DefinitionFile.{assertions_in, definition_of, fields_of, filled_at, hex_at, label_in}
use Rattle.c2_definition.specs.DefinitionFile.{labels_differ}
use Rattle.c2_definition.specs.DefinitionFile.{is_assertion_field, is_field, is_filled, is_manifest_label, is_new_label}
use Rattle.c2_definition.specs.DefinitionFile.{most_reserve, payload_of, protected_in, redactions_in, reserve_in}
use Rattle.c2_definition.specs.Json.{each_of, has_keys, is_object, json_of, kept, list_or_missing, object_of}
use Rattle.c2_definition.specs.Json.{optional_list_at, optional_text_at, text_at, text_or_missing}
use Rattle.c2_definition.specs.declared.types.Definition.{Definition}
use Rattle.c2_definition.specs.declared.types.DefinitionField.{DefinitionField}
use Rattle.c2_definition.specs.declared.types.DefinitionField.TheVariants as field
use Rattle.c2_definition.specs.declared.types.NewAssertion.{NewAssertion}
use Rattle.c2_definition.specs.declared.types.Payload.{Payload}
use Rattle.c2_new_lengths_spec.specs.Lengths.{IsShort, assertions_len, texts_len}
use Rattle.c2_new_lengths_spec.proofs.JsonLengths.{array_size, data_size, got_size, items_size, read_size, some_size, str_size}
use Rattle.c2_new_lengths_spec.proofs.JsonLengths.{text_under}
use Rattle.c2_spec.proofs.CborShared.{required}
use Rattle.c2_lemmas.proofs.Results.{past_test}

-- ---- what is there

-- a value that was kept was there
was_there : {A : Type 0} (test : A → Bool) (o : Option A) (x : A) → kept test o ≡ Some x → o ≡ Some x
was_there test None x h = absurd (cc (h))
was_there test (Some y) x h = by (test y) h
  where
    by : (b : Bool) → cond b (Some y) None ≡ Some x → Some y ≡ Some x
    by true same = same
    by false same = absurd (cc (same))

-- ---- texts

-- a text that isn't empty is no longer than the object
filled_under : (key : List ℕ) (v : Data) (t : List ℕ) → filled_at key v ≡ Some t → length t ≤ data_size v
filled_under key v t h = text_under key v t (was_there is_filled (text_at key v) t h)

-- a text that may be missing is no longer than the object
maybe_under : (key : List ℕ) (v : Data) (o : Option (List ℕ)) → optional_text_at key v ≡ Some o
    → IfSome o (λ t. length t ≤ data_size v)
maybe_under key v o h = by (get key v) refl h
  where
    is_text : (found : Data) → data_size found ≤ data_size v → (s : Option (List ℕ)) → as_str found ≡ s
        → option_map Some s ≡ Some o → IfSome o (λ t. length t ≤ data_size v)
    is_text found le None is same = absurd (cc (same))
    is_text found le (Some t) is same =
        let there : Some t ≡ o = cc (same) in
        subst (λ (x : Option (List ℕ)). IfSome x (λ s. length s ≤ data_size v)) there
        (omega (arith, le, str_size found t is))

    by : (found : Option Data) → get key v ≡ found → text_or_missing found ≡ Some o
        → IfSome o (λ t. length t ≤ data_size v)
    by None is same =
        let there : None ≡ o = cc (same) in
        subst (λ (x : Option (List ℕ)). IfSome x (λ s. length s ≤ data_size v)) there tt
    by (Some found) is same = is_text found (got_size key v found is) (as_str found) refl same

-- bytes that a text of hex digits stands for are no more than the object holds
hex_under : (key : List ℕ) (v : Data) (bytes : List ℕ) → hex_at key v ≡ Some bytes → length bytes ≤ data_size v
hex_under key v bytes h = by (text_at key v) refl h
  where
    decoded : (t : List ℕ) → length t ≤ data_size v → (r : Result (List ℕ) FromHexError) → decode_of t ≡ r
        → result_ok r ≡ Some bytes → length bytes ≤ data_size v
    decoded t le (Ok b) is same =
        let own : b ≡ bytes = cc (same) in omega (arith, le, (decode_of-ok t b is).2, ap length own)
    decoded t le (Err e) is same = absurd (cc (same))

    by : (o : Option (List ℕ)) → text_at key v ≡ o → option_and_then (λ t. result_ok (decode_of t)) o ≡ Some bytes
        → length bytes ≤ data_size v
    by None is same = absurd (cc (same))
    by (Some t) is same = decoded t (text_under key v t is) (decode_of t) refl same

-- ---- assertions

-- an assertion of three members has them
from_members : (o : Option (List ℕ)) (k : Option Payload) (h : Option (List ℕ)) (a : NewAssertion)
    → assertion_from o k h ≡ Some a → (o ≡ Some a.label) × (h ≡ Some a.bytes)
from_members None k h a e = absurd (cc (e))
from_members (Some l) None h a e = absurd (cc (e))
from_members (Some l) (Some k) None a e = absurd (cc (e))
from_members (Some l) (Some k) (Some b) a e =
    let is : record { label = l; kind = k; bytes = b } ≡ a = cc (e) in
    (ap (λ (x : NewAssertion). Some x.label) is, ap (λ (x : NewAssertion). Some x.bytes) is)

-- the label and the bytes of an assertion are no longer than its object is, each
assertion_size : (v : Data) (a : NewAssertion) → assertion_of v ≡ Some a
    → 1 + length a.label + length a.bytes ≤ 3 * data_size v
assertion_size v a e = by (has_keys is_assertion_field v) e
  where
    label_of : Option (List ℕ)
    label_of = kept is_new_label (text_at (codes "label") v)

    kind_of : Option Payload
    kind_of = option_and_then payload_of (text_at (codes "kind") v)

    by : (b : Bool)
        → (if b then assertion_from label_of kind_of (hex_at (codes "hex") v) else None) ≡ Some a
        → 1 + length a.label + length a.bytes ≤ 3 * data_size v
    by false h = absurd (cc (h))
    by true h =
        let both = from_members label_of kind_of (hex_at (codes "hex") v) a h in
        let given = was_there is_new_label (text_at (codes "label") v) a.label both.0 in
        let label : length a.label ≤ data_size v = text_under (codes "label") v a.label given in
        let bytes : length a.bytes ≤ data_size v = hex_under (codes "hex") v a.bytes both.1 in
        omega (arith, label, bytes, some_size v)

-- assertions hold thrice what their items do, at most
assertions_size : (vs : Items) (list : List NewAssertion) → each_of assertion_of vs ≡ Some list
    → assertions_len list ≤ 3 * items_size vs
assertions_size no_items list e = let is : [] ≡ list = cc (e) in omega (arith, ap assertions_len is)
assertions_size (item v vs) list e = by (assertions_size vs) (assertion_of v) refl (each_of assertion_of vs) refl e
  where
    by : ((more : List NewAssertion) → each_of assertion_of vs ≡ Some more → assertions_len more ≤ 3 * items_size vs)
        → (o : Option NewAssertion) → assertion_of v ≡ o
        → (rest : Option (List NewAssertion)) → each_of assertion_of vs ≡ rest → joined o rest ≡ Some list
        → assertions_len list ≤ 3 * (data_size v + items_size vs)
    by later None is rest at h = absurd (cc (h))
    by later (Some a) is None at h = absurd (cc (h))
    by later (Some a) is (Some more) at h =
        let same : a ∷ more ≡ list = cc (h) in
        omega (arith, ap assertions_len same, assertion_size v a is, later more at)

-- texts hold no more than their items
texts_size : (vs : Items) (list : List (List ℕ)) → each_of as_str vs ≡ Some list → texts_len list ≤ items_size vs
texts_size no_items list e = let is : [] ≡ list = cc (e) in omega (arith, ap texts_len is)
texts_size (item v vs) list e = by (texts_size vs) (as_str v) refl (each_of as_str vs) refl e
  where
    by : ((more : List (List ℕ)) → each_of as_str vs ≡ Some more → texts_len more ≤ items_size vs)
        → (o : Option (List ℕ)) → as_str v ≡ o → (rest : Option (List (List ℕ))) → each_of as_str vs ≡ rest
        → joined o rest ≡ Some list → texts_len list ≤ data_size v + items_size vs
    by later None is rest at h = absurd (cc (h))
    by later (Some t) is None at h = absurd (cc (h))
    by later (Some t) is (Some more) at h =
        let same : t ∷ more ≡ list = cc (h) in
        omega (arith, ap texts_len same, str_size v t is, later more at)

-- A list under a key holds no more than so many times what the object does, where each list of items holds no more than
-- so many times what they do.
listed : {A : Type 0} (read_one : Data → Option A) (len : List A → ℕ) (times : ℕ) (key : List ℕ) (v : Data)
    (list : List A) → len [] ≡ 0
    → ((vs : Items) (xs : List A) → each_of read_one vs ≡ Some xs → (most : ℕ) → items_size vs ≤ most
    → len xs ≤ times * most)
    → optional_list_at read_one key v ≡ Some list → len list ≤ times * data_size v
listed read_one len times key v list empty each h = by (get key v) refl h
  where
    is_list : (found : Data) → data_size found ≤ data_size v → (o : Option Items) → as_array found ≡ o
        → option_and_then (each_of read_one) o ≡ Some list → len list ≤ times * data_size v
    is_list found le None is same = absurd (cc (same))
    is_list found le (Some vs) is same = each vs list same (data_size v) (omega (arith, le, array_size found vs is))

    by : (found : Option Data) → get key v ≡ found → list_or_missing read_one found ≡ Some list
        → len list ≤ times * data_size v
    by None is same = let there : [] ≡ list = cc (same) in omega (arith, sym (ap len there) ∙ empty)
    by (Some found) is same = is_list found (got_size key v found is) (as_array found) refl same

-- ---- the definition

-- assertions that were told to have their payloads
told_list : (v : Data) (payloads : Bool) (list : List NewAssertion)
    → (if payloads then assertions_in v else None) ≡ Some list → assertions_in v ≡ Some list
told_list v true list e = e
told_list v false list e = absurd (cc (e))

-- the lists of an object
assertions_under : (v : Data) (list : List NewAssertion) → assertions_in v ≡ Some list
    → assertions_len list ≤ 3 * data_size v
assertions_under v list h =
    listed assertion_of assertions_len 3 (codes "assertions") v list refl
    (λ vs xs is most le. omega (arith, assertions_size vs xs is, le))
    (was_there labels_differ (optional_list_at assertion_of (codes "assertions") v) list h)

-- the redactions of an object together are no longer than it
redactions_under : (v : Data) (list : List (List ℕ)) → redactions_in v ≡ Some list → texts_len list ≤ 1 * data_size v
redactions_under v list h =
    listed as_str texts_len 1 (codes "redact") v list refl
    (λ vs xs is most le. omega (arith, texts_size vs xs is, le)) h

-- a title is no longer where the object isn't
title_within : (n m : ℕ) (o : Option (List ℕ)) → n ≤ m → IfSome o (λ t. length t ≤ n) → IfSome o (λ t. length t ≤ m)
title_within n m None le h = tt
title_within n m (Some t) le h = omega (arith, le, h)

-- a definition that an object is, is short where the object isn't too large, if it reserves no more than one may
of_object : (v : Data) (payloads : Bool) (d : Definition) → data_size v ≤ MAX_INPUT_LEN
    → definition_of payloads v ≡ Ok d → d.reserve ≤ most_reserve → IsShort d
of_object v payloads d le h most =
    let label = required field.Label (label_in v) _ d
    (past_test (has_keys is_field v) field.Other (fields_of payloads v) d h) in
    let instance = required field.InstanceId (filled_at (codes "instance_id") v) _ d label.2 in
    let generator = required field.Generator (filled_at (codes "generator") v) _ d instance.2 in
    let title = required field.Title (optional_text_at (codes "title") v) _ d generator.2 in
    let protected = required field.Protected (protected_in v) _ d title.2 in
    let reserve = required field.Reserve (reserve_in v) _ d protected.2 in
    let assertions = required field.Assertions (if payloads then assertions_in v else None) _ d reserve.2 in
    let redact = required field.Redact (redactions_in v) _ d assertions.2 in
    let alg = required field.Alg (alg_in v) _ d redact.2 in
    let given = was_there is_manifest_label (text_at (codes "label") v) label.0 label.1 in
    let in_label : length label.0 ≤ data_size v = text_under (codes "label") v label.0 given in
    let in_instance : length instance.0 ≤ data_size v = filled_under (codes "instance_id") v instance.0 instance.1 in
    let in_generator : length generator.0 ≤ data_size v = filled_under (codes "generator") v generator.0 generator.1 in
    let told = told_list v payloads assertions.0 assertions.1 in
    let in_list : assertions_len assertions.0 ≤ 3 * data_size v = assertions_under v assertions.0 told in
    let in_redact : texts_len redact.0 ≤ 1 * data_size v = redactions_under v redact.0 redact.1 in
    let own = same_ok alg.2 in
    subst IsShort own (record {
      label = omega (arith, in_label, le);
      instance = omega (arith, in_instance, le);
      generator = omega (arith, in_generator, le);
      title = title_within (data_size v) MAX_INPUT_LEN title.0 le (maybe_under (codes "title") v title.0 title.1);
      reserve = subst (λ (x : Definition). x.reserve ≤ most_reserve) (sym own) most;
      assertions = omega (arith, in_list, le);
      redact = omega (arith, in_redact, le);
    })
  where
    same_ok : {x y : Definition} → ◌≡◌ {A = Result Definition DefinitionField} (Ok x) (Ok y) → x ≡ y
    same_ok e = cc (e)

-- a file that isn't too long is its object
by_length : (file : List ℕ) (long : Bool) → nat_lt MAX_INPUT_LEN (length file) ≡ long
    → (r : Result Definition DefinitionField) (d : Definition) → (if long then Err field.Size else r) ≡ Ok d
    → (r ≡ Ok d) × (length file ≤ MAX_INPUT_LEN)
by_length file true is r d h = absurd (cc (h))
by_length file false is r d h = (h, ltb-false MAX_INPUT_LEN (length file) is)

-- the object that bytes are is what they are read as
object_read : (file : List ℕ) (v : Data) → object_of file ≡ Some v → read file ≡ Some v
object_read file v h = by (is_utf8 file) (was_there is_object (json_of file) v h)
  where
    by : (b : Bool) → (if b then read file else None) ≡ Some v → read file ≡ Some v
    by true e = e
    by false e = absurd (cc (e))

-- a definition that a file is, is short
pub definition_is_short : (file : List ℕ) (d : Definition) → IsDefinition file (Ok d) → IsShort d
definition_is_short file d h =
    let read_as : Result Definition DefinitionField = require field.Json (object_of file) (definition_of h.payloads) in
    let long = by_length file (nat_lt MAX_INPUT_LEN (length file)) refl read_as d (sym h.is) in
    let there = required field.Json (object_of file) (definition_of h.payloads) d long.0 in
    let size : data_size there.0 ≤ length file = read_size file there.0 (object_read file there.0 there.1) in
    of_object there.0 h.payloads d (omega (arith, size, long.1)) there.2 (definitions_are_well_formed file d h).most
