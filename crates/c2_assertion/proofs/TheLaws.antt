-- The laws of this crate, for the proofs of the crates above it.
use Rattle.c2_assertion.proofs.BmffBack.{bmff_back}
use Rattle.c2_assertion.proofs.DataBack.{data_back}
use Rattle.c2_assertion.proofs.DataLength.{known_length, one_length}
use Rattle.c2_assertion.proofs.InOrder.{bmff_in_order, data_in_order, ingredient_in_order}
use Rattle.c2_assertion.proofs.IngredientBack.{ingredient_back}
use Rattle.c2_assertion.proofs.PlainFields.{bmff_plain, data_plain, ingredient_plain}
use Rattle.c2_assertion.specs.ReadBack.{IsReadable}
use Rattle.c2_assertion.specs.Written.{bmff_hash_item, data_hash_item, ingredient_item, one_exclusion}
use Rattle.c2_base.specs.declared.values.Range.{Range}
use Rattle.c2_spec.specs.Bmff.Hash.{BmffHash, bmff_hash_of}
use Rattle.c2_spec.specs.C2pa.Assertion.{data_hash_of, ingredient_of, most_exclusions, references_agree}
use Rattle.c2_spec.specs.Cbor.Deterministic.{deterministic, sorted}
use Rattle.c2_spec.specs.Cbor.Plain.{HasPlainKeys}
use Rattle.c2_spec.specs.Digest.{alg_name, digest_len}
use Rattle.c2_spec.specs.declared.assertion.DataHash.{DataHash}
use Rattle.c2_spec.specs.declared.assertion.Ingredient.{Ingredient}
use Rattle.c2_spec.specs.declared.assertion.IngredientVersion.TheVariants.{V3}
use Rattle.c2_spec.specs.declared.digest.Alg.{Alg}
use Rattle.std.specs.Prelude.{All, List, Ok, Option, Some, length, true, ℕ, ◌+◌, ◌↔◌, ◌≡◌, ◌≤◌}

-- the item of a data hash is read as that hash exactly where it has at most 1,024 exclusions
pub a_written_data_hash_is_read : (h : DataHash)
    → (data_hash_of (data_hash_item h) ≡ Ok h) ↔ (length h.exclusions ≤ most_exclusions)
a_written_data_hash_is_read = data_back

-- the item of an ingredient is read as that ingredient of version 3 exactly where its references agree
pub a_written_ingredient_is_read : (i : Ingredient)
    → (ingredient_of V3 (ingredient_item i) ≡ Ok i) ↔ (references_agree i.manifest i.signature ≡ true)
a_written_ingredient_is_read = ingredient_back

-- the item of a BMFF hash is read as that hash exactly where it has at most 1,024 exclusions, each of them readable
pub a_written_bmff_hash_is_read : (h : BmffHash)
    → (bmff_hash_of (bmff_hash_item h) ≡ Ok h) ↔ ((length h.exclusions ≤ most_exclusions) × All IsReadable h.exclusions)
a_written_bmff_hash_is_read = bmff_back

-- the deterministic bytes of the item of a data hash with one exclusion have one length for all numbers of the exclusion and all digests of a length
pub a_written_data_hash_has_one_length_any : (alg : Option (List ℕ)) (g h : List ℕ) (r q : Range) → length g ≡ length h
    → length (deterministic (data_hash_item (one_exclusion alg g r))) ≡ length (deterministic (data_hash_item (one_exclusion alg h q)))
a_written_data_hash_has_one_length_any = one_length

-- the deterministic bytes of the item of a data hash with one exclusion have one length for all numbers of the exclusion and all digests of a length
pub a_written_data_hash_has_one_length_known : (alg : Alg) (hash : List ℕ) (r : Range) → length hash ≡ digest_len alg
    → length (deterministic (data_hash_item (one_exclusion (Some (alg_name alg)) hash r))) ≡ 68 + digest_len alg
a_written_data_hash_has_one_length_known = known_length

-- no map of the items has two keys with the same bytes
pub written_items_have_plain_keys_data : (h : DataHash) → HasPlainKeys (data_hash_item h)
written_items_have_plain_keys_data = data_plain

-- no map of the items has two keys with the same bytes
pub written_items_have_plain_keys_bmff : (h : BmffHash) → HasPlainKeys (bmff_hash_item h)
written_items_have_plain_keys_bmff = bmff_plain

-- no map of the items has two keys with the same bytes
pub written_items_have_plain_keys_ingredient : (i : Ingredient) → HasPlainKeys (ingredient_item i)
written_items_have_plain_keys_ingredient = ingredient_plain

-- the fields of the items stand in deterministic order, so what is read of an item's deterministic bytes is the item itself
pub written_items_are_in_order_data : (h : DataHash) → sorted (data_hash_item h) ≡ data_hash_item h
written_items_are_in_order_data = data_in_order

-- the fields of the items stand in deterministic order, so what is read of an item's deterministic bytes is the item itself
pub written_items_are_in_order_bmff : (h : BmffHash) → sorted (bmff_hash_item h) ≡ bmff_hash_item h
written_items_are_in_order_bmff = bmff_in_order

-- the fields of the items stand in deterministic order, so what is read of an item's deterministic bytes is the item itself
pub written_items_are_in_order_ingredient : (i : Ingredient) → sorted (ingredient_item i) ≡ ingredient_item i
written_items_are_in_order_ingredient = ingredient_in_order
