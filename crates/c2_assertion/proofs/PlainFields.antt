-- No map of the items that are written has two keys with the same bytes.
use Rattle.std.proofs.Common.{◌≡◌, ℕ, Bool, true, ◌&&◌, not, List, [], ◌∷◌, map, replicate, Option, Some, None, refl, ap}
use Rattle.std.specs.List.{AllByRecursion}
use Rattle.std.specs.Prelude.{codes}
use Rattle.std.specs.Str.{bytes_eq}
use Rattle.std.proofs.lemmas.Bool.{and_parts}
use Rattle.std.proofs.lemmas.Slice.Eq.{bytes_eq-Decides}
use Rattle.c2_base.specs.declared.values.Range.{Range}
use Rattle.c2_spec.specs.Bmff.Hash.{BmffHash, ByteTest, Exclusion}
use Rattle.c2_spec.specs.Bmff.Paths.{PathStep, steps_text}
use Rattle.c2_spec.specs.Cbor.Deterministic.{deterministic, shortest_head}
use Rattle.c2_spec.specs.Cbor.Item.{Item, bytes, dict, list, text, uint, Pairs, no_pairs, pair}
use Rattle.c2_spec.specs.Cbor.Plain.{DiffersFrom, HasPlainKeys, ItemsHavePlainKeys}
use Rattle.c2_spec.specs.Cbor.View.{items_of, pairs_of}
use Rattle.c2_spec.specs.declared.assertion.DataHash.{DataHash}
use Rattle.c2_spec.specs.declared.assertion.Ingredient.{Ingredient}
use Rattle.c2_spec.specs.declared.assertion.Relationship.{Relationship}
use Rattle.c2_spec.specs.declared.cbor.Ref.{Ref}
use Rattle.c2_spec.specs.Cbor.Writing.{field, ref_item}
use Rattle.c2_assertion.specs.Written.{bmff_hash_item, data_hash_item, exclusion_item, ingredient_item, pad_len, part_item, range_item, relationship_word, test_item}

-- a key and its value as a field
abbrev named : List ℕ × Item → Item × Item
named f = field f.0 f.1

-- the bytes of the key aren't those of any key of these pairs
abbrev differs : List ℕ → Pairs → Bool
differs key no_pairs = true
differs key (pair k v ps) = not (bytes_eq (deterministic (text key)) (deterministic k)) && differs key ps

-- a test decides it
differs_from : (key : List ℕ) (ps : Pairs) → differs key ps ≡ true → DiffersFrom (text key) ps
differs_from key no_pairs h = tt
differs_from key (pair k v ps) h =
    let both = and_parts (not (bytes_eq (deterministic (text key)) (deterministic k))) (differs key ps) h in
    (λ e. let same = (bytes_eq-Decides (deterministic (text key)) (deterministic k)).1 e in absurd (cc (both.0, ap not same)), differs_from key ps both.1)

-- the keys of these fields differ
abbrev keys_differ : List (List ℕ × Item) → Bool
keys_differ [] = true
keys_differ (f ∷ fs) = differs f.0 (pairs_of (map named fs)) && keys_differ fs

-- a map of fields whose keys differ, where the values have it
fields_plain : (fs : List (List ℕ × Item)) → keys_differ fs ≡ true
    → AllByRecursion (λ (f : List ℕ × Item). HasPlainKeys f.1) fs → HasPlainKeys (dict (pairs_of (map named fs)))
fields_plain [] d h = tt
fields_plain (f ∷ fs) d h =
    let both = and_parts (differs f.0 (pairs_of (map named fs))) (keys_differ fs) d in
    (tt, h.0, differs_from f.0 (pairs_of (map named fs)) both.0, fields_plain fs both.1 h.1)

-- items that each have it
each_plain : {A : Type 0} (write : A → Item) → ((x : A) → HasPlainKeys (write x)) → (xs : List A)
    → ItemsHavePlainKeys (items_of (map write xs))
each_plain write one [] = tt
each_plain write one (x ∷ xs) = (one x, each_plain write one xs)

-- a range
range_plain : (r : Range) → HasPlainKeys (range_item r)
unfolding shortest_head
range_plain r = fields_plain ((codes "start", uint r.start) ∷ (codes "length", uint r.length) ∷ []) refl (tt, (tt, tt))

-- the fields of a data hash
data_fields : (rs : List Range) (alg : Option (List ℕ)) (hash : List ℕ)
    → HasPlainKeys (data_hash_item (record { exclusions = rs; alg = alg; hash = hash }))
unfolding shortest_head
data_fields rs None hash = fields_plain ((codes "pad", bytes (replicate (pad_len rs) 0)) ∷ (codes "hash", bytes hash) ∷ (codes "exclusions", list (items_of (map range_item rs))) ∷ []) refl (tt, (tt, (each_plain range_item range_plain rs, tt)))
data_fields rs (Some alg) hash = fields_plain ((codes "alg", text alg) ∷ (codes "pad", bytes (replicate (pad_len rs) 0)) ∷ (codes "hash", bytes hash) ∷ (codes "exclusions", list (items_of (map range_item rs))) ∷ []) refl (tt, (tt, (tt, (each_plain range_item range_plain rs, tt))))

-- a data hash
pub data_plain : (h : DataHash) → HasPlainKeys (data_hash_item h)
data_plain h = data_fields h.exclusions h.alg h.hash

-- a byte test
test_plain : (t : ByteTest) → HasPlainKeys (test_item t)
unfolding shortest_head
test_plain t = fields_plain ((codes "value", bytes t.value) ∷ (codes "offset", uint t.offset) ∷ []) refl (tt, (tt, tt))

-- a part
part_plain : (r : Range) → HasPlainKeys (part_item r)
unfolding shortest_head
part_plain r = fields_plain ((codes "length", uint r.length) ∷ (codes "offset", uint r.start) ∷ []) refl (tt, (tt, tt))

-- the fields of an exclusion
exclusion_fields_plain : (path : List PathStep) (len : Option ℕ) (tests : List ByteTest) (subset : Option (List Range))
    → HasPlainKeys (exclusion_item (record { path = path; length = len; tests = tests; subset = subset }))
unfolding shortest_head
exclusion_fields_plain path None [] None = fields_plain ((codes "xpath", text (steps_text path)) ∷ []) refl (tt, tt)
exclusion_fields_plain path None [] (Some s) =
    fields_plain ((codes "xpath", text (steps_text path)) ∷ (codes "subset", list (items_of (map part_item s))) ∷ [])
    refl (tt, (each_plain part_item part_plain s, tt))
exclusion_fields_plain path (Some n) [] None =
    fields_plain ((codes "xpath", text (steps_text path)) ∷ (codes "length", uint n) ∷ []) refl (tt, (tt, tt))
exclusion_fields_plain path (Some n) [] (Some s) =
    fields_plain
    ((codes "xpath", text (steps_text path)) ∷ (codes "length", uint n) ∷ (codes "subset", list (items_of (map part_item s))) ∷ [])
    refl (tt, (tt, (each_plain part_item part_plain s, tt)))
exclusion_fields_plain path None (t ∷ ts) None =
    fields_plain
    ((codes "data", list (items_of (map test_item (t ∷ ts)))) ∷ (codes "xpath", text (steps_text path)) ∷ []) refl
    (each_plain test_item test_plain (t ∷ ts), (tt, tt))
exclusion_fields_plain path None (t ∷ ts) (Some s) = fields_plain
    ((codes "data", list (items_of (map test_item (t ∷ ts)))) ∷ (codes "xpath", text (steps_text path))
    ∷ (codes "subset", list (items_of (map part_item s))) ∷ []) refl
    (each_plain test_item test_plain (t ∷ ts), (tt, (each_plain part_item part_plain s, tt)))
exclusion_fields_plain path (Some n) (t ∷ ts) None =
    fields_plain
    ((codes "data", list (items_of (map test_item (t ∷ ts)))) ∷ (codes "xpath", text (steps_text path)) ∷ (codes "length", uint n) ∷ [])
    refl (each_plain test_item test_plain (t ∷ ts), (tt, (tt, tt)))
exclusion_fields_plain path (Some n) (t ∷ ts) (Some s) =
    fields_plain ((codes "data", list (items_of (map test_item (t ∷ ts)))) ∷ (codes "xpath", text (steps_text path))
    ∷ (codes "length", uint n) ∷ (codes "subset", list (items_of (map part_item s))) ∷ []) refl
    (each_plain test_item test_plain (t ∷ ts), (tt, (tt, (each_plain part_item part_plain s, tt))))

-- an exclusion
exclusion_plain : (e : Exclusion) → HasPlainKeys (exclusion_item e)
exclusion_plain e = exclusion_fields_plain e.path e.length e.tests e.subset

-- the fields of a BMFF hash
bmff_fields : (es : List Exclusion) (alg : Option (List ℕ)) (hash : List ℕ)
    → HasPlainKeys (bmff_hash_item (record { exclusions = es; alg = alg; hash = hash }))
unfolding shortest_head
bmff_fields es None hash =
    fields_plain ((codes "hash", bytes hash) ∷ (codes "exclusions", list (items_of (map exclusion_item es))) ∷ []) refl
    (tt, (each_plain exclusion_item exclusion_plain es, tt))
bmff_fields es (Some alg) hash =
    fields_plain
    ((codes "alg", text alg) ∷ (codes "hash", bytes hash) ∷ (codes "exclusions", list (items_of (map exclusion_item es))) ∷ [])
    refl (tt, (tt, (each_plain exclusion_item exclusion_plain es, tt)))

-- a BMFF hash
pub bmff_plain : (h : BmffHash) → HasPlainKeys (bmff_hash_item h)
bmff_plain h = bmff_fields h.exclusions h.alg h.hash

-- the fields of a reference
ref_fields : (url hash : List ℕ) (alg : Option (List ℕ))
    → HasPlainKeys (ref_item (record { url = url; hash = hash; alg = alg }))
unfolding shortest_head
ref_fields url hash None = fields_plain ((codes "url", text url) ∷ (codes "hash", bytes hash) ∷ []) refl (tt, (tt, tt))
ref_fields url hash (Some alg) =
    fields_plain ((codes "alg", text alg) ∷ (codes "url", text url) ∷ (codes "hash", bytes hash) ∷ []) refl
    (tt, (tt, (tt, tt)))

-- a reference
ref_plain : (r : Ref) → HasPlainKeys (ref_item r)
ref_plain r = ref_fields r.url r.hash r.alg

-- the fields of an ingredient
ingredient_fields_plain : (r : Relationship) (m s : Option Ref)
    → HasPlainKeys (ingredient_item (record { relationship = r; manifest = m; signature = s }))
unfolding shortest_head
ingredient_fields_plain r None None =
    fields_plain ((codes "relationship", text (relationship_word r)) ∷ []) refl (tt, tt)
ingredient_fields_plain r None (Some s) =
    fields_plain ((codes "relationship", text (relationship_word r)) ∷ (codes "claimSignature", ref_item s) ∷ []) refl
    (tt, (ref_plain s, tt))
ingredient_fields_plain r (Some m) None =
    fields_plain ((codes "relationship", text (relationship_word r)) ∷ (codes "activeManifest", ref_item m) ∷ []) refl
    (tt, (ref_plain m, tt))
ingredient_fields_plain r (Some m) (Some s) =
    fields_plain
    ((codes "relationship", text (relationship_word r)) ∷ (codes "activeManifest", ref_item m) ∷ (codes "claimSignature", ref_item s) ∷ [])
    refl (tt, (ref_plain m, (ref_plain s, tt)))

-- an ingredient
pub ingredient_plain : (i : Ingredient) → HasPlainKeys (ingredient_item i)
ingredient_plain i = ingredient_fields_plain i.relationship i.manifest i.signature
