-- A file, and the object that it is.
use Rattle.std.proofs.Common.{◌≡◌, ◌↔◌, ℕ, ◌<◌, ◌≤◌, Bool, true, false, cond, List, length, Option, Some, None, Result, Err, refl, sym, ap, subst, ◌∙◌}
use Rattle.std.specs.Str.{IsUtf8, is_utf8}
use Rattle.std.proofs.lemmas.Bool.{lt-ltb, le-ltb}
use Rattle.std.proofs.lemmas.Str.{IsUtf8-from_is_utf8, is_utf8-from_IsUtf8}
use Rattle.serde_json.specs.Data.{Data}
use Rattle.serde_json.specs.Read.{read}
use Rattle.c2_base.specs.declared.limits.TheConstants.{MAX_INPUT_LEN}
use Rattle.c2_spec.specs.Cbor.Fields.{require}
use Rattle.c2_definition.specs.declared.types.Definition.{Definition}
use Rattle.c2_definition.specs.declared.types.DefinitionField.{DefinitionField}
use Rattle.c2_definition.specs.declared.types.DefinitionField.TheVariants as field
use Rattle.c2_definition.specs.declared.error.DefinitionError.{DefinitionError}
use Rattle.c2_definition.specs.Json.{json_of, object_of, kept, is_object}
use Rattle.c2_definition.specs.DefinitionFile.{HavePayloads, definition_of, TellsPayloads, IsDefinition, Agrees}

-- ---- bytes as a value

-- bytes that are read are this value
json_is : (bytes : List ℕ) (v : Data) → IsUtf8 bytes → read bytes ≡ Some v → json_of bytes ≡ Some v
json_is bytes v utf8 is = ap (λ b. cond b (read bytes) None) (is_utf8-from_IsUtf8 bytes utf8) ∙ is

-- bytes that aren't read are none
json_none : (bytes : List ℕ) → (IsUtf8 bytes → read bytes ≡ None) → json_of bytes ≡ None
json_none bytes none = by_test (is_utf8 bytes) refl
  where
    by_test : (b : Bool) → is_utf8 bytes ≡ b → cond b (read bytes) None ≡ None
    by_test true e = none (IsUtf8-from_is_utf8 bytes e)
    by_test false e = refl

-- a value that was read and is an object
pub object_is : (bytes : List ℕ) (v : Data) (t : Bool) → IsUtf8 bytes × (read bytes ≡ Some v) → t ≡ is_object v
    → t ≡ true → Some v ≡ object_of bytes
object_is bytes v t was told is =
    sym (ap (kept is_object) (json_is bytes v was.0 was.1) ∙ ap (λ b. cond b (Some v) None) (sym told ∙ is))

-- no value was read
pub no_value : (bytes : List ℕ) → (IsUtf8 bytes → read bytes ≡ None) → ◌≡◌ {A = Option Data} None (object_of bytes)
no_value bytes none = sym (ap (kept is_object) (json_none bytes none))

-- ---- what a file comes to

-- a file that is too long
pub too_long : (file : List ℕ) (r : Result Definition DefinitionField) → IsDefinition file r
    → MAX_INPUT_LEN < length file → r ≡ Err field.Size
too_long file r h long =
    h.is
    ∙ ap (λ b. cond b (Err field.Size) (require field.Json (object_of file) (definition_of h.payloads)))
    (lt-ltb MAX_INPUT_LEN (length file) long)

-- a file that isn't comes to what its object does
of_object : (file : List ℕ) (r : Result Definition DefinitionField) (h : IsDefinition file r)
    → length file ≤ MAX_INPUT_LEN → r ≡ require field.Json (object_of file) (definition_of h.payloads)
of_object file r h short =
    h.is
    ∙ ap (λ b. cond b (Err field.Size) (require field.Json (object_of file) (definition_of h.payloads)))
    (le-ltb MAX_INPUT_LEN (length file) short)

-- what is told of a file is told of its object
told_here : (file : List ℕ) (v : Data) (payloads : Bool) → TellsPayloads payloads file → object_of file ≡ Some v
    → (payloads ≡ true) ↔ HavePayloads v
told_here file v payloads told is = (
  λ e. told.0 e v is,
  λ have. told.1 (λ w at. let same : v ≡ w = same_some (sym is ∙ at) in subst HavePayloads same have),
)
  where
    same_some : {x y : Data} → Some x ≡ Some y → x ≡ y
    same_some e = cc (e)

-- an answer for the object is one for the file
pub agrees_file :
    (file : List ℕ) (v : Data) (r : Result Definition DefinitionField) (answer : Result Definition DefinitionError)
    → IsDefinition file r → length file ≤ MAX_INPUT_LEN → Some v ≡ object_of file
    → ((payloads : Bool) → (payloads ≡ true) ↔ HavePayloads v → Agrees (definition_of payloads v) answer)
    → Agrees r answer
agrees_file file v r answer h short is agrees =
    let comes : r ≡ definition_of h.payloads v =
    of_object file r h short ∙ ap (λ o. require field.Json o (definition_of h.payloads)) (sym is) in
    subst (λ q. Agrees q answer) (sym comes) (agrees h.payloads (told_here file v h.payloads h.told (sym is)))
