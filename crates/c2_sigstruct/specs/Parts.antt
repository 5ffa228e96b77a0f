-- The parts of a message, step by step, for private clauses; and what it means that bytes spell no message.
use Rattle.std.specs.Prelude.{ℕ, Bool, true, false, ◌&&◌, ◌==◌, List, Some, None, if◌then◌else◌}
use Rattle.std.specs.declared.option.Option.{Option}
use Rattle.c2_spec.specs.Cbor.Item.{Item, bytes, list, dict, tag, simple, Items, no_items, item}
use Rattle.c2_spec.specs.C2pa.Sign1.{SignParts, SpellsMessage}
use Rattle.c2_spec.specs.declared.cbor.CborError.{CborError}
use Rattle.c2_spec.specs.declared.cbor.CborError.TheVariants as faults
use Rattle.c2_spec.specs.declared.sign1.SignError.{SignError}
use Rattle.c2_spec.specs.declared.sign1.SignError.TheVariants.{Form, NoMemory}

-- the byte string that an item is
abbrev pub bytes_in : Item → Option (List ℕ)
bytes_in (bytes b) = Some b
bytes_in v = None

-- the item is null
abbrev pub is_null_item : Item → Bool
is_null_item (simple a) = a == 22
is_null_item v = false

-- the item is a map
abbrev pub is_dict : Item → Bool
is_dict (dict ps) = true
is_dict v = false

-- what the tag 18 encloses, where an item has it, and else the item
abbrev pub untagged : Item → Item
untagged (tag n v) = if n == 18 then v else tag n v
untagged v = v

-- a message of these two strings and this header, which the test lets through
abbrev pub parts_if : Bool → Option (List ℕ) → Item → Option (List ℕ) → Option SignParts
parts_if true (Some p) u (Some s) = Some (record { protected = p; unprotected = u; signature = s })
parts_if test p u s = None

-- the parts of a message of these four members
abbrev pub parts_in_four : Item → Item → Item → Item → Option SignParts
parts_in_four a b c d = parts_if (is_dict b && is_null_item c) (bytes_in a) b (bytes_in d)

-- the parts of a message of these two members, its headers, and of this signature
abbrev pub parts_in_two : Items → List ℕ → Option SignParts
parts_in_two (item a (item b no_items)) s = parts_if (is_dict b) (bytes_in a) b (Some s)
parts_in_two vs s = None

-- the parts of a message of these members
abbrev pub parts_in_items : Items → Option SignParts
parts_in_items (item a (item b (item c (item d no_items)))) = parts_in_four a b c d
parts_in_items vs = None

-- the parts of the message that an item without its tag is
abbrev pub parts_in_list : Item → Option SignParts
parts_in_list (list vs) = parts_in_items vs
parts_in_list v = None

-- these bytes spell no message
abbrev pub SpellsNone : List ℕ → Type 0
SpellsNone written = (parts : SignParts) → SpellsMessage written parts → ⊥

-- what an error of reading CBOR says of a message
abbrev pub sign_error : CborError → SignError
sign_error faults.NoMemory = NoMemory
sign_error fault = Form
