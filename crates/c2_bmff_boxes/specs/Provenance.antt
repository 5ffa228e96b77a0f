-- For private clauses: what a root `uuid` box is to the store.
use Rattle.std.specs.Prelude.{ℕ, ◌-◌, Bool, not, ◌&&◌, ◌||◌, List, [], ◌∷◌, ◌++◌, take, drop, nat_le, nat_lt, ◌==◌, codes, if◌then◌else◌, Option, Some, None}
use Rattle.std.specs.Int.{w32, w64, from_be_bytes}
use Rattle.std.specs.Str.{bytes_eq}
use Rattle.c2_spec.specs.Bmff.Store.{c2pa_user_type, is_version_zero, is_for_manifest, has_store_box, store_len, most_store_bytes}
use Rattle.c2_bmff_boxes.specs.declared.provenance.Part.{Part}
use Rattle.c2_bmff_boxes.specs.declared.provenance.Part.TheVariants as part

-- what a `uuid` box with this payload is, where a store was found before or not
unfoldable pub payload_part : Bool → List ℕ → Part
payload_part found payload =
    if not (bytes_eq (take 16 payload) c2pa_user_type) then part.Other
    else if not (is_version_zero (drop 16 payload)) then part.Bad
    else if not (is_for_manifest (drop 16 payload)) then part.Other
    else if found then part.Second
    else if not (has_store_box (drop 16 payload)) then part.Bad
    else if nat_lt most_store_bytes (store_len (drop 16 payload))
    then part.TooLarge (store_len (drop 16 payload))
    else part.Holds (store_len (drop 16 payload))

-- the size in the header of the store's box, which begins at place 37
abbrev pub store_size : List ℕ → ℕ
store_size bytes = from_be_bytes w32 (take 4 (drop 37 bytes))

-- the length of that box
abbrev pub store_total : List ℕ → ℕ
store_total bytes =
    if store_size bytes == 1 then from_be_bytes w64 (take 8 (drop 45 bytes)) else store_size bytes

-- the box has a header and ends in the payload, where `left` bytes of it are left from the box's start
abbrev pub has_store : ℕ → List ℕ → Bool
has_store left bytes =
    nat_le 8 left && (nat_le 8 (store_total bytes) || (store_size bytes == 1))
    && (not (store_size bytes == 1) || (nat_le 16 left && nat_le 16 (store_total bytes)))
    && nat_le (store_total bytes) left

-- the length of the store's box, where it is there
unfoldable pub store_by : ℕ → List ℕ → Option ℕ
store_by left bytes = if has_store left bytes then Some (store_total bytes) else None

-- what is told of the length of a store
abbrev pub sized_part : Option ℕ → Part
sized_part None = part.Bad
sized_part (Some n) = if nat_lt most_store_bytes n then part.TooLarge n else part.Holds n

-- what a `uuid` box with a payload of `len` bytes is by the first 53 of them, where a store was found before or not
unfoldable pub first_part : Bool → ℕ → List ℕ → Part
first_part found len bytes =
    if not (bytes_eq (take 16 bytes) c2pa_user_type) then part.Other
    else if not (bytes_eq (take 4 (drop 16 bytes)) (0 ∷ 0 ∷ 0 ∷ 0 ∷ [])) then part.Bad
    else if not (bytes_eq (take 9 (drop 20 bytes)) (codes "manifest" ++ 0 ∷ [])) then part.Other
    else if found then part.Second
    else if nat_lt len 37 then part.Bad
    else sized_part (store_by (len - 37) bytes)
