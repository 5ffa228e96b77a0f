-- The fields of the items that are written stand in deterministic order.
use Rattle.std.proofs.Common.{◌≡◌, ℕ, List, [], ◌∷◌, ◌++◌, map, replicate, codes, Option, Some, None, refl, ap, ap₂}
use Rattle.c2_base.specs.declared.values.Range.{Range}
use Rattle.c2_spec.specs.Bmff.Hash.{BmffHash, ByteTest, Exclusion}
use Rattle.c2_spec.specs.Bmff.Paths.{PathStep, steps_text}
use Rattle.c2_spec.specs.Cbor.Deterministic.{shortest_head, sorted, sorted_items}
use Rattle.c2_spec.specs.Cbor.Item.{Item, Items, bytes, dict, item, list, text, uint}
use Rattle.c2_spec.specs.Cbor.View.{items_of, pairs_of}
use Rattle.c2_spec.specs.declared.assertion.DataHash.{DataHash}
use Rattle.c2_spec.specs.declared.assertion.Ingredient.{Ingredient}
use Rattle.c2_spec.specs.declared.assertion.Relationship.{Relationship}
use Rattle.c2_spec.specs.declared.cbor.Ref.{Ref}
use Rattle.c2_spec.specs.Cbor.Writing.{field, field_if, ref_item}
use Rattle.c2_assertion.specs.Written.{bmff_hash_item, data_hash_item, exclusion_item, ingredient_item, pad_len, part_item, range_item, relationship_word, test_item}

-- items that are each in order
each_in_order : {A : Type 0} (write : A → Item) → ((x : A) → sorted (write x) ≡ write x) → (xs : List A)
    → sorted_items (items_of (map write xs)) ≡ items_of (map write xs)
each_in_order write one [] = refl
each_in_order write one (x ∷ xs) = ap₂ item (one x) (each_in_order write one xs)

-- ---- the data hash

-- a range
range_in_order : (r : Range) → sorted (range_item r) ≡ range_item r
unfolding shortest_head
range_in_order r = refl

-- the fields, with these exclusions
abbrev in_data : Option (List ℕ) → ℕ → List ℕ → Items → Item
in_data alg n hash vs =
    dict
    (pairs_of (field_if (codes "alg") text alg ++ field (codes "pad") (bytes (replicate n 0)) ∷ field (codes "hash") (bytes hash) ∷ field (codes "exclusions") (list vs) ∷ []))

-- in order, whatever the padding
data_fields : (rs : List Range) (alg : Option (List ℕ)) (hash : List ℕ)
    → sorted (data_hash_item (record { exclusions = rs; alg = alg; hash = hash })) ≡ data_hash_item (record { exclusions = rs; alg = alg; hash = hash })
unfolding shortest_head
data_fields rs None hash = ap (λ vs. in_data None (pad_len rs) hash vs) (each_in_order range_item range_in_order rs)
data_fields rs (Some alg) hash = ap (λ vs. in_data (Some alg) (pad_len rs) hash vs) (each_in_order range_item range_in_order rs)

-- a data hash
pub data_in_order : (h : DataHash) → sorted (data_hash_item h) ≡ data_hash_item h
data_in_order h = data_fields h.exclusions h.alg h.hash

-- ---- the BMFF hash

-- a byte test
test_in_order : (t : ByteTest) → sorted (test_item t) ≡ test_item t
unfolding shortest_head
test_in_order t = refl

-- a part
part_in_order : (r : Range) → sorted (part_item r) ≡ part_item r
unfolding shortest_head
part_in_order r = refl

-- the fields of an exclusion
exclusion_fields_in_order : (path : List PathStep) (len : Option ℕ) (tests : List ByteTest) (subset : Option (List Range))
    → sorted (exclusion_item (record { path = path; length = len; tests = tests; subset = subset })) ≡ exclusion_item (record { path = path; length = len; tests = tests; subset = subset })
unfolding shortest_head
exclusion_fields_in_order path None [] None = refl
exclusion_fields_in_order path (Some n) [] None = refl
exclusion_fields_in_order path None [] (Some s) =
    ap (λ v. dict (pairs_of (field (codes "xpath") (text (steps_text path)) ∷ field (codes "subset") (list v) ∷ [])))
    (each_in_order part_item part_in_order s)
exclusion_fields_in_order path (Some n) [] (Some s) =
    ap
    (λ v. dict (pairs_of (field (codes "xpath") (text (steps_text path)) ∷ field (codes "length") (uint n) ∷ field (codes "subset") (list v) ∷ [])))
    (each_in_order part_item part_in_order s)
exclusion_fields_in_order path None (t ∷ ts) None =
    ap (λ d. dict (pairs_of (field (codes "data") (list d) ∷ field (codes "xpath") (text (steps_text path)) ∷ [])))
    (each_in_order test_item test_in_order (t ∷ ts))
exclusion_fields_in_order path (Some n) (t ∷ ts) None =
    ap
    (λ d. dict (pairs_of (field (codes "data") (list d) ∷ field (codes "xpath") (text (steps_text path)) ∷ field (codes "length") (uint n) ∷ [])))
    (each_in_order test_item test_in_order (t ∷ ts))
exclusion_fields_in_order path None (t ∷ ts) (Some s) =
    ap₂
    (λ d v. dict (pairs_of (field (codes "data") (list d) ∷ field (codes "xpath") (text (steps_text path)) ∷ field (codes "subset") (list v) ∷ [])))
    (each_in_order test_item test_in_order (t ∷ ts)) (each_in_order part_item part_in_order s)
exclusion_fields_in_order path (Some n) (t ∷ ts) (Some s) =
    ap₂ (λ d v. dict (pairs_of (field (codes "data") (list d) ∷ field (codes "xpath") (text (steps_text path))
    ∷ field (codes "length") (uint n) ∷ field (codes "subset") (list v) ∷ [])))
    (each_in_order test_item test_in_order (t ∷ ts)) (each_in_order part_item part_in_order s)

-- an exclusion
exclusion_in_order : (e : Exclusion) → sorted (exclusion_item e) ≡ exclusion_item e
exclusion_in_order e = exclusion_fields_in_order e.path e.length e.tests e.subset

-- the fields, with these exclusions
abbrev in_bmff : Option (List ℕ) → List ℕ → Items → Item
in_bmff alg hash vs =
    dict
    (pairs_of (field_if (codes "alg") text alg ++ field (codes "hash") (bytes hash) ∷ field (codes "exclusions") (list vs) ∷ []))

-- in order
bmff_fields : (es : List Exclusion) (alg : Option (List ℕ)) (hash : List ℕ)
    → sorted (bmff_hash_item (record { exclusions = es; alg = alg; hash = hash })) ≡ bmff_hash_item (record { exclusions = es; alg = alg; hash = hash })
unfolding shortest_head
bmff_fields es None hash = ap (λ vs. in_bmff None hash vs) (each_in_order exclusion_item exclusion_in_order es)
bmff_fields es (Some alg) hash =
    ap (λ vs. in_bmff (Some alg) hash vs) (each_in_order exclusion_item exclusion_in_order es)

-- a BMFF hash
pub bmff_in_order : (h : BmffHash) → sorted (bmff_hash_item h) ≡ bmff_hash_item h
bmff_in_order h = bmff_fields h.exclusions h.alg h.hash

-- ---- ingredients

-- the fields of a reference
ref_fields : (url hash : List ℕ) (alg : Option (List ℕ))
    → sorted (ref_item (record { url = url; hash = hash; alg = alg })) ≡ ref_item (record { url = url; hash = hash; alg = alg })
unfolding shortest_head
ref_fields url hash None = refl
ref_fields url hash (Some alg) = refl

-- a reference
ref_in_order : (r : Ref) → sorted (ref_item r) ≡ ref_item r
ref_in_order r = ref_fields r.url r.hash r.alg

-- the fields
ingredient_fields_in_order : (r : Relationship) (m s : Option Ref)
    → sorted (ingredient_item (record { relationship = r; manifest = m; signature = s })) ≡ ingredient_item (record { relationship = r; manifest = m; signature = s })
unfolding shortest_head
ingredient_fields_in_order r None None = refl
ingredient_fields_in_order r (Some m) None =
    ap
    (λ v. dict (pairs_of (field (codes "relationship") (text (relationship_word r)) ∷ field (codes "activeManifest") v ∷ [])))
    (ref_in_order m)
ingredient_fields_in_order r None (Some s) =
    ap
    (λ v. dict (pairs_of (field (codes "relationship") (text (relationship_word r)) ∷ field (codes "claimSignature") v ∷ [])))
    (ref_in_order s)
ingredient_fields_in_order r (Some m) (Some s) =
    ap₂
    (λ v w. dict (pairs_of (field (codes "relationship") (text (relationship_word r)) ∷ field (codes "activeManifest") v ∷ field (codes "claimSignature") w ∷ [])))
    (ref_in_order m) (ref_in_order s)

-- an ingredient
pub ingredient_in_order : (i : Ingredient) → sorted (ingredient_item i) ≡ ingredient_item i
ingredient_in_order i = ingredient_fields_in_order i.relationship i.manifest i.signature
