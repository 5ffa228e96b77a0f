-- A written data hash is read as that hash.
use Rattle.std.proofs.Common.{◌≡◌, ℕ, ◌^◌, ◌<◌, List, [], ◌∷◌, length, map, replicate, Some, Ok, refl, subst, codes, lit≤}
use Rattle.std.specs.Str.{IsUtf8}
use Rattle.c2_base.specs.declared.values.Range.{Range}
use Rattle.c2_spec.specs.C2pa.Assertion.{data_hash_of}
use Rattle.c2_spec.specs.Cbor.Deterministic.{deterministic, shortest_head}
use Rattle.c2_spec.specs.Cbor.Fields.{HasItem}
use Rattle.c2_spec.specs.Cbor.Item.{Item, uint, bytes, text, list}
use Rattle.c2_spec.specs.Cbor.View.{items_of}
use Rattle.c2_spec.specs.Cbor.Writing.{field}
use Rattle.c2_spec.specs.declared.assertion.DataHash.{DataHash}
use Rattle.c2_assertion.proofs.TheLaws.{a_written_data_hash_is_read, written_items_are_in_order_data}
use Rattle.c2_assertion.specs.Written.{data_hash_item, range_item, one_exclusion, pad_len}
use Rattle.c2_new_file_spec.proofs.GoodItems.{Good, good_text, good_bytes, good_uint, good_list, good_map, good_read, more_deep, named_field}

-- ---- the data hash

-- the item of a range is good, where its numbers are below 2^64
range_good : (r : Range) → r.start < 2 ^ 64 → r.length < 2 ^ 64 → Good 2 (range_item r)
unfolding shortest_head
range_good r s l =
    good_map 1 (field (codes "start") (uint r.start) ∷ field (codes "length") (uint r.length) ∷ [])
    (named_field 1 (codes "start") (uint r.start) refl (lit≤ tt) (good_uint 1 r.start (lit≤ tt) s), (named_field 1 (codes "length") (uint r.length) refl (lit≤ tt) (good_uint 1 r.length (lit≤ tt) l), tt))
    refl

-- the item of a data hash with one range is good, where the name of its algorithm is UTF-8
data_good : (alg hash : List ℕ) (r : Range) → IsUtf8 alg → r.start < 2 ^ 64 → r.length < 2 ^ 64
    → Good 4 (data_hash_item (one_exclusion (Some alg) hash r))
unfolding shortest_head
data_good alg hash r u s l =
    good_map 3 (field (codes "alg") (text alg) ∷ field (codes "pad") (bytes (replicate (pad_len (r ∷ [])) 0)) ∷ field (codes "hash") (bytes hash) ∷ field (codes "exclusions") (list (items_of (map range_item (r ∷ [])))) ∷ []) (
      named_field 3 (codes "alg") _ refl (lit≤ tt) (good_text 3 alg (lit≤ tt) u),
      (
        named_field 3 (codes "pad") _ refl (lit≤ tt) (good_bytes 3 _ (lit≤ tt)),
        (
          named_field 3 (codes "hash") _ refl (lit≤ tt) (good_bytes 3 hash (lit≤ tt)),
          (named_field 3 (codes "exclusions") _ refl (lit≤ tt) (good_list 2 (range_item r ∷ []) (range_good r s l, tt)), tt),
        ),
      ),
    ) refl

-- an item that is read as this data hash
pub record IsDataHash (bytes : List ℕ) (h : DataHash) : Type 0 where
  pub item : Item
  pub has : HasItem bytes item
  pub is : data_hash_of item ≡ Ok h

-- a written data hash with one such range is read as that data hash
pub data_read : (alg hash : List ℕ) (r : Range) → IsUtf8 alg
    → r.start < 2 ^ 64 → r.length < 2 ^ 64
    → length (deterministic (data_hash_item (one_exclusion (Some alg) hash r))) < 2 ^ 64
    → IsDataHash (deterministic (data_hash_item (one_exclusion (Some alg) hash r))) (one_exclusion (Some alg) hash r)
data_read alg hash r u s l short = record {
  item = data_hash_item (one_exclusion (Some alg) hash r);
  has = subst (HasItem (deterministic (data_hash_item (one_exclusion (Some alg) hash r))))
      (written_items_are_in_order_data (one_exclusion (Some alg) hash r))
      (good_read (data_hash_item (one_exclusion (Some alg) hash r)) (more_deep 4 64 (data_hash_item (one_exclusion (Some alg) hash r)) (data_good alg hash r u s l) (lit≤ tt)) short);
  is = (a_written_data_hash_is_read (one_exclusion (Some alg) hash r)).1 (lit≤ tt);
}
