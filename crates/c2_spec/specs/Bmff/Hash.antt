-- The BMFF hash (C2PA Technical Specification 2.x, "BMFF-based hash", version 2): its fields, and the positions of a file that it
-- excludes. Other fields pass unread; Merkle trees, and tests on versions and flags, are refused.
use Rattle.std.specs.Prelude.{◌≡◌, ℕ, ◌+◌, ◌-◌, ◌<◌, ◌≤◌, nat_le, nat_lt, Bool, true, false, not, ◌&&◌, ◌||◌, ◌==◌, is_some, List, [], ◌∷◌, length, take, drop, codes, Contains, Some, None, IfSome, Ok, Err, option_and_then, option_map, if◌then◌else◌}
use Rattle.std.specs.declared.option.Option.{Option}
use Rattle.std.specs.declared.result.Result.{Result}
use Rattle.std.specs.List.{AllByRecursion, list_any}
use Rattle.c2_base.specs.declared.values.Range.{Range}
use Rattle.c2_spec.specs.C2pa.Assertion.{most_exclusions, range_from}
use Rattle.c2_spec.specs.Bmff.Boxes.{Box, box_bytes, box_len}
use Rattle.c2_spec.specs.Bmff.Paths.{PathStep, PlacedBox, OnPath, path_of, enters_other, placed_from}
use Rattle.c2_spec.specs.Cbor.Item.{Item, list, Items, no_items, item}
use Rattle.c2_spec.specs.Cbor.Lookup.{field_of}
use Rattle.c2_spec.specs.Cbor.Fields.{require, is_map, text_of, bytes_of, number_of, optional_text, list_of, optional_list}
use Rattle.c2_spec.specs.declared.assertion.FieldError.{FieldError}
use Rattle.c2_spec.specs.declared.assertion.FieldError.TheVariants.{Merkle, Form, TooMany, Test, Path}

-- bytes that must stand in a box at an offset from its start
pub record ByteTest : Type 0 where
  pub offset : ℕ
  pub value : List ℕ

-- One exclusion: of the boxes on a path, those of a length where one is stated, that meet the tests, as a whole or in parts that
-- are counted from the box's start.
pub record Exclusion : Type 0 where
  pub path : List PathStep
  pub length : Option ℕ
  pub tests : List ByteTest
  pub subset : Option (List Range)

-- the fields of a BMFF hash that are read
pub record BmffHash : Type 0 where
  pub exclusions : List Exclusion
  pub alg : Option (List ℕ)
  pub hash : List ℕ

-- ---- the fields

-- a number, or absent
abbrev pub optional_number : Option Item → Option (Option ℕ)
optional_number None = Some None
optional_number (Some v) = option_map Some (number_of (Some v))

-- `offset` and `value`
abbrev pub test_from : Option ℕ → Option (List ℕ) → Option ByteTest
test_from (Some offset) (Some value) = Some (record { offset = offset; value = value })
test_from _ _ = None

-- a byte test, or none where the item hasn't the form
abbrev pub test_of : Item → Option ByteTest
test_of v =
    test_from (number_of (field_of (codes "offset") v)) (bytes_of (field_of (codes "value") v))

-- `offset` and `length`
abbrev pub part_of : Item → Option Range
part_of v =
    range_from (number_of (field_of (codes "offset") v)) (number_of (field_of (codes "length") v))

-- a list that isn't empty
abbrev pub some_parts : List Range → Option (Option (List Range))
some_parts [] = None
some_parts (r ∷ rs) = Some (Some (r ∷ rs))

-- one or more parts, or absent
abbrev pub subset_of : Option Item → Option (Option (List Range))
subset_of None = Some None
subset_of (Some v) = option_and_then some_parts (list_of part_of (Some v))

-- an exclusion of its four fields, where each has its form
abbrev pub exclusion_from : Option (List PathStep) → Option (Option ℕ) → Option (List ByteTest)
    → Option (Option (List Range)) → Option Exclusion
exclusion_from (Some path) (Some len) (Some tests) (Some subset) =
    Some (record { path = path; length = len; tests = tests; subset = subset })
exclusion_from _ _ _ _ = None

-- an exclusion, or none where the item hasn't the form
abbrev pub exclusion_of : Item → Option Exclusion
exclusion_of v =
    exclusion_from (option_and_then path_of (text_of (field_of (codes "xpath")
    v))) (optional_number (field_of (codes "length") v)) (optional_list test_of (field_of (codes
    "data") v)) (subset_of (field_of (codes "subset") v))

-- an exclusion with a test that isn't known
abbrev pub has_other_test : Item → Bool
has_other_test v =
    is_some (field_of (codes "version") v) || is_some (field_of (codes "flags") v)
    || is_some (field_of (codes "exact") v)

-- some item of the list passes
abbrev pub any_item : (Item → Bool) → Items → Bool
any_item passes no_items = false
any_item passes (item v vs) = passes v || any_item passes vs

-- the item is there and is a list of which some item passes
abbrev pub any_of : (Item → Bool) → Option Item → Bool
any_of passes (Some (list vs)) = any_item passes vs
any_of passes _ = false

-- A Merkle tree is refused first; then the form; then the number of exclusions, their tests, and their paths.
abbrev pub bmff_hash_of : Item → Result BmffHash FieldError
bmff_hash_of v =
    if is_some (field_of (codes "merkle") v) then Err Merkle
    else if not (is_map v) then Err Form
    else require Form (list_of exclusion_of (field_of (codes "exclusions") v)) (λ exclusions.
    require Form (optional_text (field_of (codes "alg") v)) (λ alg.
    require Form (bytes_of (field_of (codes "hash") v)) (λ hash.
    if nat_lt most_exclusions (length exclusions) then Err (TooMany (length exclusions))
    else if any_of has_other_test (field_of (codes "exclusions") v) then Err Test
    else if list_any (λ (e : Exclusion). enters_other e.path) exclusions then Err Path
    else Ok (record { exclusions = exclusions; alg = alg; hash = hash }))))

-- ---- the positions

-- the bytes stand there, wholly inside the box
pub record MeetsTest (b : Box) (test : ByteTest) : Type 0 where
  pub inside : test.offset + length test.value ≤ box_len b
  pub same : take (length test.value) (drop test.offset (box_bytes b)) ≡ test.value

-- a position counted from the box's start lies in a part; length 0 is the rest of the box
abbrev pub in_part : ℕ → Range → Bool
in_part i part = nat_le part.start i && ((part.length == 0) || nat_lt i (part.start + part.length))

-- a position counted from the box's start lies in one of these parts; without parts, anywhere in the box
abbrev pub in_subset : ℕ → Option (List Range) → Bool
in_subset i None = true
in_subset i (Some parts) = list_any (in_part i) parts

-- An exclusion excludes a position of a file with these root boxes: a box on its path that it matches holds the position, in one
-- of the parts where there are parts.
pub record IsExcludedBy (roots : List Box) (e : Exclusion) (i : ℕ) : Type 0 where
  pub at : PlacedBox
  pub on_path : OnPath (placed_from 0 roots) e.path at
  pub sized : IfSome e.length (λ n. box_len at.box ≡ n)
  pub tests : AllByRecursion (MeetsTest at.box) e.tests
  pub from : at.at ≤ i
  pub to : i < at.at + box_len at.box
  pub part : in_subset (i - at.at) e.subset ≡ true

-- some exclusion does
pub record IsExcluded (roots : List Box) (exclusions : List Exclusion) (i : ℕ) : Type 0 where
  pub exclusion : Exclusion
  pub is_one : Contains exclusions exclusion
  pub excludes : IsExcludedBy roots exclusion i
