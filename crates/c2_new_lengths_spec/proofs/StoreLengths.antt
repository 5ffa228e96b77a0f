-- How long a new store of short parts is at most.
use Rattle.c2_new_file_spec.proofs.BmffLaws.{a_new_bmff_store_has_one_length_binding}
use Rattle.c2_new_lengths_spec.proofs.DefinitionLengths.{definition_is_short}
use Rattle.c2_assertion.proofs.TheLaws.{a_written_data_hash_has_one_length_known}
use Rattle.std.proofs.Common.{◌≡◌, ◌≢◌, ◌⊎◌, inl, inr, ℕ, ◌+◌, ◌*◌, ◌-◌, ◌^◌, ◌<◌, ◌≤◌, List, [], ◌∷◌, ◌++◌, length, map, replicate, codes}
use Rattle.std.proofs.Common.{Option, Some, None, refl, sym, ◌∙◌, subst, arith, length-append, lit≤}
use Rattle.std.specs.Prelude.{IfSome}
use Rattle.std.specs.List.{AllByRecursion}
use Rattle.std.proofs.lemmas.List.{length-replicate}
use Rattle.c2_base.specs.declared.limits.TheConstants.{MAX_INPUT_LEN, MAX_STORE_LEN}
use Rattle.c2_spec.specs.C2pa.Uri.{assertion, signature, uri_text, whole}
use Rattle.c2_spec.specs.Cbor.Deterministic.{deterministic}
use Rattle.c2_spec.specs.Cbor.Item.{Item, Items, list, text}
use Rattle.c2_spec.specs.Cbor.View.{items_of, pairs_of}
use Rattle.c2_spec.specs.Cbor.Writing.{field, field_if, ref_item}
use Rattle.c2_spec.specs.Digest.{alg_name, digest_len, zero_digest}
use Rattle.c2_spec.specs.Jumbf.Tree.{tree_bytes, trees_bytes}
use Rattle.c2_spec.specs.declared.assertion.Relationship.{Relationship}
use Rattle.c2_spec.specs.declared.assertion.Relationship.TheVariants.{ComponentOf, InputTo, ParentOf}
use Rattle.c2_spec.specs.declared.cbor.Ref.{Ref}
use Rattle.c2_spec.specs.declared.digest.Alg.{Alg}
use Rattle.c2_spec.proofs.Digests.{len_bounds, name_len, zero_len}
use Rattle.c2_assertion.specs.Written.{ingredient_item, relationship_word}
use Rattle.c2_claim.specs.Written.{claim_item, generator_item, redactions_field, signature_uri}
use Rattle.c2_definition.specs.declared.types.Definition.{Definition}
use Rattle.c2_definition.specs.declared.types.NewAssertion.{NewAssertion}
use Rattle.c2_new_file_spec.specs.Built.{bound_len, no_digest, store_size}
use Rattle.c2_new_file_spec.specs.Store.{Content, NewIngredient, assertion_box, assertion_boxes, claim_with, data_binding, entry_of}
use Rattle.c2_new_file_spec.specs.Store.{ingredient_assertion, new_alg, new_assertions, new_claim, new_manifest, range_at}
use Rattle.c2_new_file_spec.specs.Store.{target_ref, written_ingredient}
use Rattle.c2_new_file_spec.specs.Written.{AreIngredients, IsIngredientLabel}
use Rattle.c2_new_file_spec.proofs.StoreSize.{assertion_len, manifest_len, store_len}
use Rattle.c2_new_file_spec.specs.Films.{new_bmff_binding, bmff_store_size}
use Rattle.c2_new_lengths_spec.specs.Lengths.{BmffStoresAreShort, Fits, IsShort, IsShortBinding, IsShortOver}
use Rattle.c2_new_lengths_spec.specs.Lengths.{JpegStoresAreShort, StoresAreShort, StoresFit, assertions_len, texts_len}
use Rattle.c2_new_lengths_spec.proofs.ItemLengths.{both_rooms, deterministic_room, items_room, pairs_room, room, texts_room}

-- ---- references

-- the text of a URI that names an assertion of its own manifest
own_uri_len : (label : List ℕ)
    → length (uri_text (record { manifest = None; target = assertion label })) ≤ 32 + length label
own_uri_len label =
    omega (
      arith,
      length-append (codes "self#jumbf=") (codes "c2pa.assertions/" ++ label),
      length-append (codes "c2pa.assertions/") label,
    )

-- one that names a manifest
manifest_uri_len : (label : List ℕ)
    → length (uri_text (record { manifest = Some label; target = whole })) ≤ 32 + length label
manifest_uri_len label =
    omega (
      arith,
      length-append (codes "self#jumbf=") (codes "/c2pa/" ++ label ++ []),
      length-append (codes "/c2pa/") (label ++ []),
      length-append label [],
    )

-- one that names the signature of a manifest
signature_uri_len : (label : List ℕ)
    → length (uri_text (record { manifest = Some label; target = signature })) ≤ 64 + length label
signature_uri_len label =
    omega (
      arith,
      length-append (codes "self#jumbf=") (codes "/c2pa/" ++ label ++ 0x2F ∷ codes "c2pa.signature"),
      length-append (codes "/c2pa/") (label ++ 0x2F ∷ codes "c2pa.signature"),
      length-append label (0x2F ∷ codes "c2pa.signature"),
    )

-- a digest of zeros
zeros_most : (alg : Alg) → length (zero_digest alg) ≤ 64
zeros_most alg = omega (arith, zero_len alg, (len_bounds alg).1)

-- a reference without an algorithm of its own
ref_room : (r : Ref) → r.alg ≡ None → room (ref_item r) ≤ 64 + length r.url + length r.hash
ref_room r none =
    subst
    (λ (a : Option (List ℕ)). room (ref_item (record { url = r.url; hash = r.hash; alg = a }))
    ≤ 64 + length r.url + length r.hash) (sym none) (omega arith)

-- a reference to an assertion
entry_room : (alg : Alg) (a : NewAssertion) → room (ref_item (entry_of (no_digest alg) a)) ≤ 160 + length a.label
entry_room alg a = omega (arith, ref_room (entry_of (no_digest alg) a) refl, own_uri_len a.label, zeros_most alg)

-- references to assertions
entries_room : (alg : Alg) (all : List NewAssertion)
    → items_room (items_of (map ref_item (map (entry_of (no_digest alg)) all))) ≤ 160 * assertions_len all
entries_room alg [] = omega arith
entries_room alg (a ∷ others) = omega (arith, entry_room alg a, entries_room alg others)

-- ---- assertions

-- the assertions of two lists together have the bytes of both
both_lens : (xs ys : List NewAssertion) → assertions_len (xs ++ ys) ≡ assertions_len xs + assertions_len ys
both_lens [] ys = omega arith
both_lens (x ∷ xs) ys = omega (arith, both_lens xs ys)

-- the boxes of assertions are no longer than 42 times the assertions
boxes_most : (all : List NewAssertion) → length (trees_bytes (assertion_boxes all)) ≤ 42 * assertions_len all
boxes_most [] = omega arith
boxes_most (a ∷ others) =
    omega (
      arith,
      length-append (tree_bytes (assertion_box a)) (trees_bytes (assertion_boxes others)),
      assertion_len a,
      boxes_most others,
    )

-- the word for a relationship
word_most : (r : Relationship) → length (relationship_word r) ≤ 64
word_most ParentOf = lit≤ tt
word_most ComponentOf = lit≤ tt
word_most InputTo = lit≤ tt

-- what is no more than one that is no more than another
at_most : (a b c : ℕ) → a ≤ b → b ≤ c → a ≤ c
at_most a b c h k = omega arith

-- ---- ingredients

-- the item of an ingredient without digests
ingredient_room : (alg : Alg) (g : NewIngredient)
    → room (ingredient_item (written_ingredient (no_digest alg) g)) ≤ 1024 + 2 * length g.of.label
ingredient_room alg g =
    omega (
      arith,
      ref_room (target_ref (no_digest alg) g.of.label whole g.of.contents) refl,
      ref_room (target_ref (no_digest alg) g.of.label signature g.of.signed) refl,
      manifest_uri_len g.of.label,
      signature_uri_len g.of.label,
      zeros_most alg,
      word_most g.relationship,
    )

-- the bytes of its assertion
ingredient_most : (alg : Alg) (g : NewIngredient) (n : ℕ) → length g.of.label ≤ n
    → length (deterministic (ingredient_item (written_ingredient (no_digest alg) g))) ≤ 1024 + 2 * n
ingredient_most alg g n label =
    let v : Item = ingredient_item (written_ingredient (no_digest alg) g) in
    at_most (length (deterministic v)) (room v) (1024 + 2 * n) (deterministic_room v)
    (at_most (room v) (1024 + 2 * length g.of.label) (1024 + 2 * n) (ingredient_room alg g) (omega (arith, label)))

-- the label of an ingredient is short
label_most : (label : List ℕ) → IsIngredientLabel label → length label ≤ 64
label_most label (inl e) = subst (λ (l : List ℕ). length l ≤ 64) (sym e) (lit≤ tt)
label_most label (inr e) = subst (λ (l : List ℕ). length l ≤ 64) (sym e) (lit≤ tt)

-- what an ingredient's assertion holds at most
abbrev most_ingredient : ℕ
most_ingredient = 2048 + 4 * MAX_STORE_LEN

-- an ingredient's assertion holds no more than this most
one_most : (alg : Alg) (g : NewIngredient) → IsIngredientLabel g.label
    → length g.of.label ≤ 2 * MAX_STORE_LEN
    → 1 + length g.label + length (ingredient_assertion (no_digest alg) g).bytes ≤ most_ingredient
one_most alg g is label =
    let bytes = ingredient_most alg g (2 * MAX_STORE_LEN) label in
    omega (arith, bytes, label_most g.label is)

-- of three labels of two kinds two are the same
two_same : (a b x y z : List ℕ) → (x ≡ a) ⊎ (x ≡ b) → (y ≡ a) ⊎ (y ≡ b) → (z ≡ a) ⊎ (z ≡ b)
    → y ≢ x → z ≢ x → z ≢ y → ⊥
two_same a b x y z (inl p) (inl q) r yx zx zy = yx (q ∙ sym p)
two_same a b x y z (inr p) (inr q) r yx zx zy = yx (q ∙ sym p)
two_same a b x y z (inl p) (inr q) (inl r) yx zx zy = zx (r ∙ sym p)
two_same a b x y z (inl p) (inr q) (inr r) yx zx zy = zy (r ∙ sym q)
two_same a b x y z (inr p) (inl q) (inl r) yx zx zy = zy (r ∙ sym q)
two_same a b x y z (inr p) (inl q) (inr r) yx zx zy = zx (r ∙ sym p)

-- there are two ingredients at most, which hold no more than this
ingredients_most : (alg : Alg) (gs : List NewIngredient) → AreIngredients gs
    → AllByRecursion (λ (g : NewIngredient). length g.of.label ≤ 2 * MAX_STORE_LEN) gs
    → assertions_len (map (ingredient_assertion (no_digest alg)) gs) ≤ 2 * most_ingredient
ingredients_most alg gs are labels = by gs are labels
  where
    IsNamedShort : NewIngredient → Type 0
    IsNamedShort g = length g.of.label ≤ 2 * MAX_STORE_LEN

    size : NewIngredient → ℕ
    size g = 1 + length g.label + length (ingredient_assertion (no_digest alg) g).bytes

    one : (g : NewIngredient) → IsIngredientLabel g.label → IsNamedShort g → size g ≤ most_ingredient
    one = one_most alg

    both : (m n : ℕ) → m ≤ most_ingredient → n ≤ most_ingredient → m + (n + 0) ≤ 2 * most_ingredient
    both m n h k = omega (arith, h, k)

    by : (xs : List NewIngredient) → AreIngredients xs → AllByRecursion IsNamedShort xs
        → assertions_len (map (ingredient_assertion (no_digest alg)) xs) ≤ 2 * most_ingredient
    by [] are labels = lit≤ tt
    by (g ∷ []) are labels = both (size g) 0 (one g are.labels.0 labels.0) (lit≤ tt)
    by (g ∷ k ∷ []) are labels =
        both (size g) (size k) (one g are.labels.0 labels.0) (one k are.labels.1.0 labels.1.0)
    by (g ∷ k ∷ l ∷ xs) are labels =
        absurd (two_same _ _ g.label k.label l.label are.labels.0 are.labels.1.0 are.labels.1.1.0
        are.apart.0.0 are.apart.0.1.0 are.apart.1.0.0)

-- ---- all assertions

-- how much new assertions hold at most
abbrev most_assertions : ℕ
most_assertions = 1 + 3 * MAX_INPUT_LEN + 2 * most_ingredient + MAX_STORE_LEN

-- all of a new manifest
all_most : (alg : Alg) (c : Content) (b : NewAssertion) → IsShort c.definition → IsShortOver c
    → IsShortBinding b
    → assertions_len (new_assertions (no_digest alg) c b) ≤ most_assertions
all_most alg c b short over binding =
    let own : List NewAssertion = map (ingredient_assertion (no_digest alg)) c.ingredients in
    omega (
      arith,
      both_lens c.definition.assertions (own ++ b ∷ []),
      both_lens own (b ∷ []),
      ingredients_most alg c.ingredients over.ingredients over.labels,
      short.assertions,
      binding,
    )

-- ---- the claim

-- the title of a claim is short
title_room : (o : Option (List ℕ)) → IfSome o (λ t. length t ≤ MAX_INPUT_LEN)
    → pairs_room (pairs_of (field_if (codes "dc:title") text o)) ≤ 64 + MAX_INPUT_LEN
title_room None h = omega arith
title_room (Some t) h = omega (arith, h)

-- the redactions of a claim are short
redactions_room : (ts : List (List ℕ)) → texts_len ts ≤ MAX_INPUT_LEN
    → pairs_room (pairs_of (redactions_field ts)) ≤ 64 + 9 * MAX_INPUT_LEN
redactions_room [] h = omega arith
redactions_room (t ∷ ts) h = omega (arith, h, texts_room (t ∷ ts))

-- a name and its value
abbrev field_room : Item × Item → ℕ
field_room p = room p.0 + room p.1

-- fields in the order of a claim's
fields_room : (t r : List (Item × Item)) (alg sig inst all gen : Item × Item)
    → pairs_room (pairs_of (alg ∷ ((t ++ sig ∷ inst ∷ all ∷ r) ++ gen ∷ [])))
    ≡ field_room alg + pairs_room (pairs_of t) + field_room sig + field_room inst + field_room all
    + pairs_room (pairs_of r) + field_room gen
fields_room t r alg sig inst all gen =
    omega (arith, both_rooms (t ++ sig ∷ inst ∷ all ∷ r) (gen ∷ []), both_rooms t (sig ∷ inst ∷ all ∷ r))

-- a text under a name
text_room : (key t : List ℕ) (n : ℕ) → length key ≤ 32 → length t ≤ n → field_room (field key (text t)) ≤ 64 + n
text_room key t n name le = omega (arith, name, le)

-- a list under a name
list_room : (key : List ℕ) (vs : Items) → length key ≤ 32 → field_room (field key (list vs)) ≤ 64 + items_room vs
list_room key vs name = omega (arith, name)

-- the program that makes it
generator_room : (name : List ℕ) → length name ≤ MAX_INPUT_LEN
    → field_room (field (codes "claim_generator_info") (generator_item name)) ≤ 128 + MAX_INPUT_LEN
generator_room name le = omega (arith, le)

-- all fields together
claim_sum : (a t s i c r g n : ℕ) → a ≤ 128 → t ≤ 64 + MAX_INPUT_LEN → s ≤ 128 + MAX_INPUT_LEN
    → i ≤ 64 + MAX_INPUT_LEN → c ≤ 64 + n → r ≤ 64 + 9 * MAX_INPUT_LEN → g ≤ 128 + MAX_INPUT_LEN
    → 9 + (a + t + s + i + c + r + g) ≤ 1024 + 13 * MAX_INPUT_LEN + n
claim_sum a t s i c r g n ha ht hs hi hc hr hg = omega (arith, ha, ht, hs, hi, hc, hr, hg)

-- the URI of the signature
uri_short : (d : Definition) → length d.label ≤ MAX_INPUT_LEN → length (signature_uri d.label) ≤ 64 + MAX_INPUT_LEN
uri_short d le =
    at_most (length (signature_uri d.label)) (64 + length d.label) (64 + MAX_INPUT_LEN) (signature_uri_len d.label)
    (omega (arith, le))

-- the item of a claim is short but for its entries
claim_room : (d : Definition) (entries : List Ref) → IsShort d
    → room (claim_item (claim_with d entries))
    ≤ 1024 + 13 * MAX_INPUT_LEN + items_room (items_of (map ref_item entries))
claim_room d entries short =
    let name : List ℕ = alg_name (new_alg d) in
    let uri : List ℕ = signature_uri d.label in
    let refs : Items = items_of (map ref_item entries) in
    let title : List (Item × Item) = field_if (codes "dc:title") text d.title in
    let redacted : List (Item × Item) = redactions_field d.redact in
    let alg : Item × Item = field (codes "alg") (text name) in
    let sig : Item × Item = field (codes "signature") (text uri) in
    let inst : Item × Item = field (codes "instanceID") (text d.instance_id) in
    let all : Item × Item = field (codes "created_assertions") (list refs) in
    let gen : Item × Item = field (codes "claim_generator_info") (generator_item d.generator) in
    let six : length name ≤ 64 = omega (arith, name_len (new_alg d)) in
    let short_uri : length uri ≤ 64 + MAX_INPUT_LEN = uri_short d short.label in
    subst (λ (n : ℕ). 9 + n ≤ 1024 + 13 * MAX_INPUT_LEN + items_room refs)
    (sym (fields_room title redacted alg sig inst all gen))
    (claim_sum (field_room alg) (pairs_room (pairs_of title)) (field_room sig) (field_room inst) (field_room all)
    (pairs_room (pairs_of redacted)) (field_room gen) (items_room refs)
    (text_room (codes "alg") name 64 (lit≤ tt) six)
    (title_room d.title short.title)
    (text_room (codes "signature") uri (64 + MAX_INPUT_LEN) (lit≤ tt) short_uri)
    (text_room (codes "instanceID") d.instance_id MAX_INPUT_LEN (lit≤ tt) short.instance)
    (list_room (codes "created_assertions") refs (lit≤ tt))
    (redactions_room d.redact short.redact)
    (generator_room d.generator short.generator))

-- the new claim
claim_most : (alg : Alg) (c : Content) (b : NewAssertion) → IsShort c.definition
    → length (new_claim (no_digest alg) c b)
    ≤ 1024 + 13 * MAX_INPUT_LEN + 160 * assertions_len (new_assertions (no_digest alg) c b)
claim_most alg c b short =
    let all : List NewAssertion = new_assertions (no_digest alg) c b in
    let entries : List Ref = map (entry_of (no_digest alg)) all in
    let v : Item = claim_item (claim_with c.definition entries) in
    at_most (length (deterministic v)) (room v) (1024 + 13 * MAX_INPUT_LEN + 160 * assertions_len all)
    (deterministic_room v)
    (omega (arith, claim_room c.definition entries short, entries_room alg all))

-- ---- the store

-- a new store with a short binding
pub store_most : StoresAreShort
store_most c b short over binding =
    let alg = new_alg c.definition in
    let hash = no_digest alg in
    let message = replicate {A = ℕ} c.definition.reserve 0 in
    let all = all_most alg c b short over binding in
    let claim = claim_most alg c b short in
    let store = store_len c.carried (new_manifest hash c b message) in
    let manifest = manifest_len c.definition.label (new_assertions hash c b) (new_claim hash c b) message in
    omega (
      arith,
      store,
      manifest,
      over.boxes,
      short.label,
      short.reserve,
      all,
      boxes_most (new_assertions hash c b),
      claim,
      length-replicate {A = ℕ} c.definition.reserve 0,
    )

-- a binding of a known length is short
binding_short : (b : NewAssertion) (n : ℕ) → length b.label ≤ 64 → length b.bytes ≡ n → n ≤ 1024 → IsShortBinding b
binding_short b n label size le = omega (arith, label, size, le)

-- the binding of a JPEG file is short
data_short : (alg : Alg) (start len : ℕ) (digest : List ℕ) → length digest ≡ digest_len alg
    → IsShortBinding (data_binding alg start len digest)
data_short alg start len digest is =
    binding_short (data_binding alg start len digest) (68 + digest_len alg) (lit≤ tt)
    (a_written_data_hash_has_one_length_known alg digest (range_at start len) is) (omega (arith, (len_bounds alg).1))

-- a new store of a JPEG file
pub jpeg_most : JpegStoresAreShort
jpeg_most c short over =
    let alg = new_alg c.definition in
    store_most c (data_binding alg 0 0 (zero_digest alg)) short over
    (data_short alg 0 0 (zero_digest alg) (zero_len alg))

-- the binding of a BMFF file is short
bmff_short : (alg : Alg) (digest : List ℕ) → length digest ≡ digest_len alg
    → IsShortBinding (new_bmff_binding alg digest)
bmff_short alg digest is =
    binding_short (new_bmff_binding alg digest) (108 + digest_len alg) (lit≤ tt)
    (a_new_bmff_store_has_one_length_binding alg digest is) (omega (arith, (len_bounds alg).1))

-- a new store of a BMFF file
pub bmff_most : BmffStoresAreShort
bmff_most c short over =
    let alg = new_alg c.definition in
    store_most c (new_bmff_binding alg (zero_digest alg)) short over
    (bmff_short alg (zero_digest alg) (zero_len alg))

-- a number below 2^40 is below the greatest one that 64 bits hold
fits : (n : ℕ) → n < 2 ^ 40 → n < 2 ^ 64 - 1
fits n h = omega (arith, h)

-- 64 bits hold the length of a new store of what is short
short_fits : (c : Content) → IsShort c.definition → IsShortOver c → Fits c
short_fits c own over = record {
  any = λ b binding. fits (bound_len c b c.definition.reserve) (store_most c b own over binding);
  jpeg = fits (store_size c c.definition.reserve) (jpeg_most c own over);
  film = fits (bmff_store_size c c.definition.reserve) (bmff_most c own over);
}

-- 64 bits hold the length of a new store of a definition that a file is
pub store_fits : StoresFit
store_fits file c is over = short_fits c (definition_is_short file c.definition is) over
