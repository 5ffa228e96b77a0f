-- JSON (RFC 8259) as the crate `serde_json` reads it, and the members of an object, each in the form that it must have. A null is
-- a value: it is no text, no list and no missing member.
use Rattle.std.specs.Prelude.{ℕ, ◌&&◌, Bool, true, false, is_some, List, [], Some, None, option_map, option_and_then, if◌then◌else◌}
use Rattle.std.specs.declared.option.Option.{Option}
use Rattle.std.specs.Option.{option_map_or}
use Rattle.std.specs.Str.{is_utf8}
use Rattle.serde_json.specs.Data.{Data, Items, no_items, item, Members, no_members, member}
use Rattle.serde_json.specs.Find.{get, as_str, as_array, as_object, as_number, as_u64}
use Rattle.serde_json.specs.Read.{read}
use Rattle.c2_spec.specs.Cbor.Fields.{joined}

-- a value that passes a test
abbrev pub kept : {A : Type 0} → (A → Bool) → Option A → Option A
kept test None = None
kept test (Some x) = if test x then Some x else None

-- the value that UTF-8 bytes are: lists and objects are at most 127 deep inside one another, a number is in the range of a
-- float, and of the members with one key the last holds
abbrev pub json_of : List ℕ → Option Data
json_of bytes = if is_utf8 bytes then read bytes else None

-- the value is an object
abbrev pub is_object : Data → Bool
is_object v = is_some (as_object v)

-- the object that bytes are
abbrev pub object_of : List ℕ → Option Data
object_of bytes = kept is_object (json_of bytes)

-- each key passes a test
abbrev pub keys_pass : (List ℕ → Bool) → Members → Bool
keys_pass test no_members = true
keys_pass test (member k v ms) = test k && keys_pass test ms

-- an object in which each key passes a test
abbrev pub has_keys : (List ℕ → Bool) → Data → Bool
has_keys test v = option_map_or (keys_pass test) (as_object v) false

-- ---- the member under a key

-- a text
abbrev pub text_at : List ℕ → Data → Option (List ℕ)
text_at key v = option_and_then as_str (get key v)

-- a number that is written without a sign, a fraction and an exponent, and is below 2^64
abbrev pub number_at : List ℕ → Data → Option ℕ
number_at key v = option_and_then as_u64 (option_and_then as_number (get key v))

-- a text, where something is there
abbrev pub text_or_missing : Option Data → Option (Option (List ℕ))
text_or_missing None = Some None
text_or_missing (Some v) = option_map Some (as_str v)

-- a text or no member
abbrev pub optional_text_at : List ℕ → Data → Option (Option (List ℕ))
optional_text_at key v = text_or_missing (get key v)

-- what each item is, where all are
abbrev pub each_of : {A : Type 0} → (Data → Option A) → Items → Option (List A)
each_of read no_items = Some []
each_of read (item v vs) = joined (read v) (each_of read vs)

-- a list of such items, where something is there, and else of none
abbrev pub list_or_missing : {A : Type 0} → (Data → Option A) → Option Data → Option (List A)
list_or_missing read None = Some []
list_or_missing read (Some v) = option_and_then (each_of read) (as_array v)

-- a list of such items; a missing one is empty
abbrev pub optional_list_at : {A : Type 0} → (Data → Option A) → List ℕ → Data → Option (List A)
optional_list_at read key v = list_or_missing read (get key v)
