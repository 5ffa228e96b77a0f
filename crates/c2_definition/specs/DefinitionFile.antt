-- The definition file: one JSON object that says what a new manifest holds. The format is this project's own.
use Rattle.std.specs.Prelude.{◌≡◌, ◌↔◌, ℕ, ◌==◌, ◌&&◌, ◌||◌, ◌<◌, ◌≤◌, ◌^◌, nat_lt, nat_le, Bool, true, false, not, All, List, [], ◌∷◌, length, codes, bytes_eq, Some, None, Ok, Err, option_and_then, ⊤, if◌then◌else◌}
use Rattle.std.specs.declared.option.Option.{Option}
use Rattle.std.specs.declared.result.Result.{Result}
use Rattle.std.specs.List.{list_any, AllByRecursion}
use Rattle.std.specs.Option.{option_map_or}
use Rattle.std.specs.Result.{result_ok}
use Rattle.hex.specs.Hex.{decode_of}
use Rattle.uuid.specs.Text.{parsed, hyphenated_text, lower}
use Rattle.serde_json.specs.Data.{Data}
use Rattle.serde_json.specs.Find.{as_str}
use Rattle.c2_base.specs.declared.limits.TheConstants.{MAX_INPUT_LEN}
use Rattle.c2_spec.specs.C2pa.Assertion.{kind_of}
use Rattle.c2_spec.specs.C2pa.Uri.{after_piece}
use Rattle.c2_spec.specs.Cbor.Item.{Item}
use Rattle.c2_spec.specs.Cbor.Fields.{HasItem, require}
use Rattle.c2_spec.specs.Digest.{alg_named}
use Rattle.c2_spec.specs.declared.assertion.Kind.{Kind}
use Rattle.c2_spec.specs.declared.assertion.Kind.TheVariants as kinds
use Rattle.c2_spec.specs.declared.digest.Alg.{Alg}
use Rattle.c2_spec.specs.declared.digest.Alg.TheVariants.{Sha256}
use Rattle.c2_definition.specs.Json.{kept, object_of, has_keys, text_at, number_at, optional_text_at, optional_list_at}
use Rattle.c2_definition.specs.declared.types.Definition.{Definition}
use Rattle.c2_definition.specs.declared.types.DefinitionField.{DefinitionField}
use Rattle.c2_definition.specs.declared.types.DefinitionField.TheVariants as field
use Rattle.c2_definition.specs.declared.types.NewAssertion.{NewAssertion}
use Rattle.c2_definition.specs.declared.types.Payload.{Payload}
use Rattle.c2_definition.specs.declared.types.Payload.TheVariants as payload
use Rattle.c2_definition.specs.declared.error.DefinitionError.{DefinitionError}
use Rattle.c2_definition.specs.declared.error.DefinitionError.TheVariants.{BadDefinition, NoMemory}

-- ---- the fields but the assertions

-- a key of a definition
abbrev pub is_field : List ℕ → Bool
is_field k =
    bytes_eq k (codes "label") || bytes_eq k (codes "instance_id") || bytes_eq k (codes "generator") || bytes_eq k (codes "title")
    || bytes_eq k (codes "protected") || bytes_eq k (codes "reserve") || bytes_eq k (codes "assertions") || bytes_eq k (codes "redact")
    || bytes_eq k (codes "alg")

-- a UUID in five groups with hyphens and lower case digits (RFC 9562, section 4): it is written back as it was read
abbrev pub is_uuid : List ℕ → Bool
is_uuid t = option_map_or (λ u. bytes_eq t (hyphenated_text lower u)) (parsed t) false

-- a manifest's label: `urn:c2pa:` and a UUID (C2PA Technical Specification 2.x, on unique identifiers)
abbrev pub is_manifest_label : List ℕ → Bool
is_manifest_label t = option_map_or is_uuid (after_piece (codes "urn:c2pa:") t) false

-- the label of the manifest
abbrev pub label_in : Data → Option (List ℕ)
label_in v = kept is_manifest_label (text_at (codes "label") v)

-- a text that isn't empty
abbrev pub is_filled : List ℕ → Bool
is_filled t = not (length t == 0)

-- under a key, a text that isn't empty
abbrev pub filled_at : List ℕ → Data → Option (List ℕ)
filled_at key v = kept is_filled (text_at key v)

-- under a key, the bytes that a text of hex digits in either case stands for
abbrev pub hex_at : List ℕ → Data → Option (List ℕ)
hex_at key v = option_and_then (λ t. result_ok (decode_of t)) (text_at key v)

-- the most bytes of a protected header
abbrev pub most_protected : ℕ
most_protected = 65536

-- the fewest and the most bytes that are reserved for a signed message
abbrev pub least_reserve : ℕ
least_reserve = 64

abbrev pub most_reserve : ℕ
most_reserve = 1048576

-- the protected header of the signed message, which may be empty
abbrev pub protected_in : Data → Option (List ℕ)
protected_in v = kept (λ bytes. nat_le (length bytes) most_protected) (hex_at (codes "protected") v)

-- how many bytes are reserved for the signed message
abbrev pub reserve_in : Data → Option ℕ
reserve_in v = kept (λ n. nat_le least_reserve n && nat_le n most_reserve) (number_at (codes "reserve") v)

-- the URIs that are redacted, each a text
abbrev pub redactions_in : Data → Option (List (List ℕ))
redactions_in v = optional_list_at as_str (codes "redact") v

-- the algorithm of this name; without a name it is SHA-256
abbrev pub alg_or_sha256 : Option (List ℕ) → Option Alg
alg_or_sha256 None = Some Sha256
alg_or_sha256 (Some name) = alg_named name

-- the algorithm of each digest in the new manifest
abbrev pub alg_in : Data → Option Alg
alg_in v = option_and_then alg_or_sha256 (optional_text_at (codes "alg") v)

-- ---- the assertions

-- a key of a new assertion
abbrev pub is_assertion_field : List ℕ → Bool
is_assertion_field k = bytes_eq k (codes "label") || bytes_eq k (codes "kind") || bytes_eq k (codes "hex")

-- a byte that no new label has: `/` and control bytes
abbrev pub is_barred : ℕ → Bool
is_barred b = (b == 0x2F) || nat_lt b 0x20 || (b == 0x7F)

-- a kind that is written as it is given: bindings and ingredients are made by the build itself, and cloud data isn't supported
abbrev pub is_new_kind : Kind → Bool
is_new_kind kinds.Actions = true
is_new_kind kinds.Ordinary = true
is_new_kind _ = false

-- the label of a new assertion
abbrev pub is_new_label : List ℕ → Bool
is_new_label t = is_filled t && not (list_any is_barred t) && is_new_kind (kind_of t)

-- the content box that a word names
abbrev pub payload_of : List ℕ → Option Payload
payload_of word =
    if bytes_eq word (codes "cbor") then Some payload.Cbor
    else if bytes_eq word (codes "json") then Some payload.Json
    else None

-- a new assertion of three members, where all are there
abbrev pub assertion_from : Option (List ℕ) → Option Payload → Option (List ℕ) → Option NewAssertion
assertion_from (Some label) (Some kind) (Some bytes) = Some (record { label = label; kind = kind; bytes = bytes })
assertion_from _ _ _ = None

-- the new assertion that an object is which has these three keys alone, apart from what its bytes are
abbrev pub assertion_of : Data → Option NewAssertion
assertion_of v =
    if has_keys is_assertion_field v
    then assertion_from (kept is_new_label (text_at (codes "label") v)) (option_and_then payload_of (text_at (codes "kind") v)) (hex_at (codes "hex") v)
    else None

-- the new assertion has this label
abbrev pub has_label : List ℕ → NewAssertion → Bool
has_label label a = bytes_eq a.label label

-- no two of these new assertions have one label
abbrev pub labels_differ : List NewAssertion → Bool
labels_differ [] = true
labels_differ (a ∷ more) = not (list_any (has_label a.label) more) && labels_differ more

-- the new assertions, apart from what their bytes are
abbrev pub assertions_in : Data → Option (List NewAssertion)
assertions_in v = kept labels_differ (optional_list_at assertion_of (codes "assertions") v)

-- The bytes are one whole legal item of CBOR. That a program can hold them is asked, since of such lists alone it is decided
-- what they spell; a file of the greatest length has no bytes that a program couldn't hold.
pub record IsWholeItem (bytes : List ℕ) : Type 0 where
  pub are_bytes : All (λ b. b < 2 ^ 8) bytes
  pub short : length bytes < 2 ^ 64
  pub item : Item
  pub has : HasItem bytes item

-- bytes for a content box: for `cbor` one whole item, for `json` any
abbrev pub IsPayload : Payload → List ℕ → Type 0
IsPayload payload.Cbor bytes = IsWholeItem bytes
IsPayload payload.Json bytes = ⊤

-- the bytes of a new assertion are for its content box
abbrev pub HasPayload : NewAssertion → Type 0
HasPayload a = IsPayload a.kind a.bytes

-- the bytes of all new assertions of an object are for their content boxes, if these assertions are in their form
abbrev pub HavePayloads : Data → Type 0
HavePayloads v = (list : List NewAssertion) → assertions_in v ≡ Some list → AllByRecursion HasPayload list

-- ---- the file

-- the definition that these fields of an object are, or the first that is refused, in this order; whether its new assertions
-- have their payloads is told
abbrev pub fields_of : Bool → Data → Result Definition DefinitionField
fields_of payloads v =
    require field.Label (label_in v) (λ label.
    require field.InstanceId (filled_at (codes "instance_id") v) (λ instance.
    require field.Generator (filled_at (codes "generator") v) (λ generator.
    require field.Title (optional_text_at (codes "title") v) (λ title.
    require field.Protected (protected_in v) (λ protected.
    require field.Reserve (reserve_in v) (λ reserve.
    require field.Assertions (if payloads then assertions_in v else None) (λ assertions.
    require field.Redact (redactions_in v) (λ redact.
    require field.Alg (alg_in v) (λ alg.
    Ok (record {
      label = label;
      instance_id = instance;
      generator = generator;
      title = title;
      protected = protected;
      reserve = reserve;
      assertions = assertions;
      redact = redact;
      alg = alg;
    }))))))))))

-- the definition that an object is, or what of it is refused first: another key, a field
abbrev pub definition_of : Bool → Data → Result Definition DefinitionField
definition_of payloads v = if not (has_keys is_field v) then Err field.Other else fields_of payloads v

-- the definition that a file is, or what of it is refused first: its length, its bytes as an object, what that object is
abbrev pub definition_in : Bool → List ℕ → Result Definition DefinitionField
definition_in payloads file =
    if nat_lt MAX_INPUT_LEN (length file) then Err field.Size
    else require field.Json (object_of file) (definition_of payloads)

-- the flag says whether the new assertions of a file have their payloads
abbrev pub TellsPayloads : Bool → List ℕ → Type 0
TellsPayloads payloads file = (payloads ≡ true) ↔ ((v : Data) → object_of file ≡ Some v → HavePayloads v)

-- a file is this definition, or this is refused first
pub record IsDefinition (file : List ℕ) (r : Result Definition DefinitionField) : Type 0 where
  pub payloads : Bool
  pub told : TellsPayloads payloads file
  pub is : r ≡ definition_in payloads file

-- an answer for a file that comes to this: this, or out of memory
abbrev pub Agrees : Result Definition DefinitionField → Result Definition DefinitionError → Type 0
Agrees expected (Ok d) = expected ≡ Ok d
Agrees expected (Err (BadDefinition f)) = expected ≡ Err f
Agrees expected (Err NoMemory) = ⊤

-- what is asked of the fields of a definition
pub record IsWellFormed (d : Definition) : Type 0 where
  pub label : is_manifest_label d.label ≡ true
  pub instance : is_filled d.instance_id ≡ true
  pub generator : is_filled d.generator ≡ true
  pub protected : length d.protected ≤ most_protected
  pub least : least_reserve ≤ d.reserve
  pub most : d.reserve ≤ most_reserve
  pub labels : AllByRecursion (λ a. is_new_label a.label ≡ true) d.assertions
  pub differ : labels_differ d.assertions ≡ true
  pub payloads : AllByRecursion HasPayload d.assertions
