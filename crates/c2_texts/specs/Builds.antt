-- The lines of reports on what is built into a media file. The names and the order of what stands behind them are this project's
-- own choice.
use Rattle.std.specs.Prelude.{ℕ, List, [], ◌++◌, codes, decimal}
use Rattle.hex.specs.Hex.{encode_lower}
use Rattle.c2_spec.specs.declared.reason.Reason.{Reason}
use Rattle.c2_spec.specs.Reason.{reason_name}
use Rattle.c2_rules.specs.Codes.{code_name}
use Rattle.c2_rules.specs.declared.answer.Answer.{Answer}
use Rattle.c2_rules.specs.declared.code.Code.{Code}
use Rattle.c2_compare_spec.specs.EvidenceText.{printed, text_line}
use Rattle.c2_definition.specs.declared.types.DefinitionField.{DefinitionField}
use Rattle.c2_definition.specs.declared.types.DefinitionField.TheVariants as field
use Rattle.c2_new_signature.specs.declared.error.SignaturePart.{SignaturePart}
use Rattle.c2_new_signature.specs.declared.error.SignaturePart.TheVariants as part
use Rattle.c2_texts.specs.Texts.{told_line}

-- ---- what is built

-- what is to be signed, in hex
abbrev pub tbs_line : List ℕ → List ℕ
tbs_line bytes = text_line (codes "tbs " ++ encode_lower bytes)

-- where the store stands in the new file, and how many bytes it takes there
abbrev pub embedded_line : ℕ → ℕ → List ℕ
embedded_line start length = text_line (codes "embedded " ++ decimal start ++ codes " " ++ decimal length)

-- ---- what is refused

-- a value behind a space
abbrev pub spaced : List ℕ → List ℕ
spaced value = codes " " ++ value

-- nothing is built: the name of the refusal, and what stands behind it
abbrev pub build_line : List ℕ → List ℕ → List ℕ
build_line name rest = text_line (codes "build " ++ name ++ rest)

-- the name of what is refused of a definition file
abbrev pub field_name : DefinitionField → List ℕ
field_name field.Size = codes "size"
field_name field.Json = codes "json"
field_name field.Other = codes "other"
field_name field.Label = codes "label"
field_name field.InstanceId = codes "instance_id"
field_name field.Generator = codes "generator"
field_name field.Title = codes "title"
field_name field.Protected = codes "protected"
field_name field.Reserve = codes "reserve"
field_name field.Assertions = codes "assertions"
field_name field.Redact = codes "redact"
field_name field.Alg = codes "alg"

-- the name of what is refused of a signed message
abbrev pub part_name : SignaturePart → List ℕ
part_name part.Size = codes "size"
part_name part.Form = codes "form"
part_name part.Plain = codes "plain"
part_name part.Protected = codes "protected"
part_name part.Entries = codes "entries"
part_name part.Pad = codes "pad"

-- the media file, for a reason with its number
abbrev pub media_refused_line : Reason → ℕ → List ℕ
media_refused_line reason number = build_line (codes "MediaRefused") (spaced (reason_name reason) ++ spaced (decimal number))

-- the definition file
abbrev pub bad_definition_line : DefinitionField → List ℕ
bad_definition_line f = build_line (codes "BadDefinition") (spaced (field_name f))

-- the signed message
abbrev pub bad_signature_line : SignaturePart → List ℕ
bad_signature_line p = build_line (codes "BadSignature") (spaced (part_name p))

-- the older store, for a rule by its code and the URI of what it fails at
abbrev pub parent_fails_line : Code → List ℕ → List ℕ
parent_fails_line code uri = build_line (codes "ParentFails") (spaced (code_name code) ++ spaced (printed uri))

-- a label that a manifest of it has
abbrev pub label_taken_line : List ℕ → List ℕ
label_taken_line label = build_line (codes "LabelTaken") (spaced (printed label))

-- a redaction by its text, for a reason by its code
abbrev pub redaction_refused_line : List ℕ → Code → List ℕ
redaction_refused_line text code = build_line (codes "RedactionRefused") (spaced (printed text) ++ spaced (code_name code))

-- the last root box, which begins there, is open
abbrev pub open_box_line : ℕ → List ℕ
open_box_line place = build_line (codes "OpenBox") (spaced (decimal place))

-- no box instance number is free
abbrev pub no_instance_line : List ℕ
no_instance_line = build_line (codes "NoInstance") []

-- a store of so many manifests
abbrev pub too_many_manifests_line : ℕ → List ℕ
too_many_manifests_line count = build_line (codes "TooManyManifests") (spaced (decimal count))

-- a store of so many bytes
abbrev pub store_too_large_line : ℕ → List ℕ
store_too_large_line len = build_line (codes "StoreTooLarge") (spaced (decimal len))

-- a reserve for a message that needs so many bytes
abbrev pub reserve_too_small_line : ℕ → List ℕ
reserve_too_small_line needed = build_line (codes "ReserveTooSmall") (spaced (decimal needed))

-- ---- what is refused of a store right after the file type box

-- media of another container than BMFF
abbrev pub not_bmff_line : List ℕ
not_bmff_line = build_line (codes "NotBmff") []

-- media that have a store
abbrev pub has_store_line : List ℕ
has_store_line = build_line (codes "HasStore") []

-- a box there that keeps places of the file which aren't known here
abbrev pub offset_table_line : ℕ → List ℕ
offset_table_line place = build_line (codes "OffsetTable") (spaced (decimal place))

-- a box there on the path to the chunk tables whose payload is no list of boxes
abbrev pub bad_tree_line : ℕ → List ℕ
bad_tree_line place = build_line (codes "BadTree") (spaced (decimal place))

-- a chunk table there that hasn't its form
abbrev pub bad_table_line : ℕ → List ℕ
bad_table_line place = build_line (codes "BadTable") (spaced (decimal place))

-- a field of a chunk table there that can't hold the moved place
abbrev pub overflow_line : ℕ → List ℕ
overflow_line place = build_line (codes "Overflow") (spaced (decimal place))

-- ---- what is refused of another media file whose store is taken in

-- the other file, for what its check answers
abbrev pub other_refused_line : Answer → List ℕ
other_refused_line a = codes "build OtherRefused " ++ told_line a

-- a label that different manifests of the two files have
abbrev pub label_clash_line : List ℕ → List ℕ
label_clash_line label = build_line (codes "LabelClash") (spaced (printed label))
