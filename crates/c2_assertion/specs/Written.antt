-- The items that assertions are written as (C2PA Technical Specification 2.x, "Standard assertions"). A field that is absent is left
-- out, and so is an empty list of byte tests. The fields of each map stand in deterministic order.
use Rattle.std.specs.Prelude.{ℕ, ◌+◌, ◌-◌, List, [], ◌∷◌, ◌++◌, length, replicate, sum_by, map, codes}
use Rattle.std.specs.declared.option.Option.{Option}
use Rattle.c2_base.specs.declared.values.Range.{Range}
use Rattle.c2_spec.specs.Bmff.Hash.{BmffHash, ByteTest, Exclusion}
use Rattle.c2_spec.specs.Bmff.Paths.{steps_text}
use Rattle.c2_spec.specs.Cbor.Deterministic.{preferred}
use Rattle.c2_spec.specs.Cbor.Item.{Item, bytes, dict, list, text, uint}
use Rattle.c2_spec.specs.Cbor.Writing.{field, field_if, ref_item}
use Rattle.c2_spec.specs.Cbor.View.{items_of, pairs_of}
use Rattle.c2_spec.specs.declared.assertion.DataHash.{DataHash}
use Rattle.c2_spec.specs.declared.assertion.Ingredient.{Ingredient}
use Rattle.c2_spec.specs.declared.assertion.Relationship.{Relationship}
use Rattle.c2_spec.specs.declared.assertion.Relationship.TheVariants.{ParentOf, ComponentOf, InputTo}

-- ---- the BMFF hash

-- a byte test
abbrev pub test_item : ByteTest → Item
test_item t = dict (pairs_of (field (codes "value") (bytes t.value) ∷ field (codes "offset") (uint t.offset) ∷ []))

-- the byte tests of an exclusion, where it has some
abbrev pub tests_field : List ByteTest → List (Item × Item)
tests_field [] = []
tests_field (t ∷ ts) = field (codes "data") (list (items_of (map test_item (t ∷ ts)))) ∷ []

-- a part of a box
abbrev pub part_item : Range → Item
part_item r = dict (pairs_of (field (codes "length") (uint r.length) ∷ field (codes "offset") (uint r.start) ∷ []))

-- the parts of a box
abbrev pub parts_item : List Range → Item
parts_item parts = list (items_of (map part_item parts))

-- the fields of an exclusion
abbrev pub exclusion_fields : Exclusion → List (Item × Item)
exclusion_fields e =
    tests_field e.tests ++ field (codes "xpath") (text (steps_text e.path))
    ∷ field_if (codes "length") uint e.length ++ field_if (codes "subset") parts_item e.subset

-- an exclusion
abbrev pub exclusion_item : Exclusion → Item
exclusion_item e = dict (pairs_of (exclusion_fields e))

-- the exclusions
abbrev pub exclusions_item : List Exclusion → Item
exclusions_item es = list (items_of (map exclusion_item es))

-- the fields of a BMFF hash
abbrev pub bmff_hash_fields : BmffHash → List (Item × Item)
bmff_hash_fields h =
    field_if (codes "alg") text h.alg ++ field (codes "hash") (bytes h.hash)
    ∷ field (codes "exclusions") (exclusions_item h.exclusions) ∷ []

-- a BMFF hash
abbrev pub bmff_hash_item : BmffHash → Item
bmff_hash_item h = dict (pairs_of (bmff_hash_fields h))

-- ---- the data hash

-- a range
abbrev pub range_item : Range → Item
range_item r = dict (pairs_of (field (codes "start") (uint r.start) ∷ field (codes "length") (uint r.length) ∷ []))

-- the exclusions
abbrev pub ranges_item : List Range → Item
ranges_item rs = list (items_of (map range_item rs))

-- how many bytes the two numbers of a range are written in, 1, 2, 3, 5 or 9 each
abbrev pub range_width : Range → ℕ
range_width r = length (preferred (uint r.start)) + length (preferred (uint r.length))

-- how many zero bytes `pad` has: what the numbers of the ranges leave of the 18 bytes that those of one range take at most. So the
-- item of a hash with one range is as long whichever numbers the range has.
abbrev pub pad_len : List Range → ℕ
pad_len rs = 18 - sum_by range_width rs

-- the fields of a data hash
abbrev pub data_hash_fields : DataHash → List (Item × Item)
data_hash_fields h =
    field_if (codes "alg") text h.alg ++ field (codes "pad") (bytes (replicate (pad_len h.exclusions) 0))
    ∷ field (codes "hash") (bytes h.hash) ∷ field (codes "exclusions") (ranges_item h.exclusions) ∷ []

-- a data hash
abbrev pub data_hash_item : DataHash → Item
data_hash_item h = dict (pairs_of (data_hash_fields h))

-- a data hash with one exclusion
abbrev pub one_exclusion : Option (List ℕ) → List ℕ → Range → DataHash
one_exclusion alg hash r = record { exclusions = r ∷ []; alg = alg; hash = hash }

-- ---- ingredients

-- the word for a relationship
abbrev pub relationship_word : Relationship → List ℕ
relationship_word ParentOf = codes "parentOf"
relationship_word ComponentOf = codes "componentOf"
relationship_word InputTo = codes "inputTo"

-- the fields of an ingredient
abbrev pub ingredient_fields : Ingredient → List (Item × Item)
ingredient_fields i =
    field (codes "relationship") (text (relationship_word i.relationship))
    ∷ field_if (codes "activeManifest") ref_item i.manifest ++ field_if (codes "claimSignature") ref_item i.signature

-- an ingredient
abbrev pub ingredient_item : Ingredient → Item
ingredient_item i = dict (pairs_of (ingredient_fields i))
