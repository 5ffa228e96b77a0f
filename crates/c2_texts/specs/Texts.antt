-- The lines of reports.
use Rattle.std.specs.Prelude.{ℕ, List, [], ◌∷◌, ◌++◌, length, codes, decimal, Option, Some, None}
use Rattle.std.specs.Int.{w32, to_be_bytes}
use Rattle.std.specs.List.{flat_map}
use Rattle.hex.specs.Hex.{encode_lower}
use Rattle.c2_spec.specs.declared.reason.Reason.{Reason}
use Rattle.c2_spec.specs.Reason.{reason_name}
use Rattle.c2_spec.specs.Jumbf.Tree.{Tree}
use Rattle.c2_spec.specs.Judges.Panel.{verdict_name}
use Rattle.c2_spec.specs.declared.panel.Verdict.{Verdict}
use Rattle.c2_rules.specs.Codes.{code_name}
use Rattle.c2_compare_spec.specs.EvidenceText.{printed, text_line}
use Rattle.c2_compare_spec.specs.declared.compared.Side.{Side}
use Rattle.c2_compare_spec.specs.declared.compared.Side.TheVariants.{First, Second}
use Rattle.c2_usage.specs.CommandLine.{usage_text}
use Rattle.c2_rules.specs.declared.answer.Answer.{Answer}
use Rattle.c2_rules.specs.declared.answer.Answer.TheVariants as answer
use Rattle.c2_rules.specs.declared.answer.Failing.{Failing}
use Rattle.c2_rules.specs.declared.answer.Summary.{Summary}
use Rattle.c2_spec.specs.Jumbf.Boxes.{IndexedBox, boxes_of, any_bytes, any_kind, any_label}

-- where the words don't fit
abbrev pub usage_line : List ℕ
usage_line = text_line usage_text

-- a refusal, with its number
abbrev pub refused_line : Reason → ℕ → List ℕ
refused_line reason number = text_line (codes "refused " ++ reason_name reason ++ codes " " ++ decimal number)

-- a file without a store
abbrev pub none_line : List ℕ
none_line = text_line (codes "none")

-- an embedded range, and the digest of what stands outside it
abbrev pub digest_line : ℕ → ℕ → List ℕ → List ℕ
digest_line start length digest = text_line (decimal start ++ codes " " ++ decimal length ++ codes " " ++ encode_lower digest)

-- a rule that fails: its code, and the URI of the box
abbrev pub failing_line : Failing → List ℕ
failing_line f = text_line (codes "failing " ++ code_name f.code ++ codes " " ++ printed f.uri)

-- a file whose rules all hold, by what is counted of it
abbrev pub valid_line : Summary → List ℕ
valid_line s =
    text_line
    (codes "valid manifests=" ++ decimal s.manifests
    ++ codes " assertions=" ++ decimal s.assertions
    ++ codes " covered=" ++ decimal s.covered
    ++ codes " outside=" ++ decimal s.outside)

-- what the check of a file answers, as a line
abbrev pub told_line : Answer → List ℕ
told_line (answer.Valid summary) = valid_line summary
told_line (answer.Failing failing) = failing_line failing
told_line (answer.Refused reason number) = refused_line reason number
told_line answer.NoStore = none_line

-- two files that one active claim binds, by what is counted of the first
abbrev pub same_line : Summary → List ℕ
same_line s =
    text_line
    (codes "same manifests=" ++ decimal s.manifests
    ++ codes " assertions=" ++ decimal s.assertions
    ++ codes " covered=" ++ decimal s.covered)

-- two files whose active claims differ
abbrev pub different_line : List ℕ
different_line = text_line (codes "different claims")

-- which of two files
abbrev pub side_name : Side → List ℕ
side_name First = codes "first"
side_name Second = codes "second"

-- one of two files isn't accepted: which, and what its check answers
abbrev pub not_accepted_line : Side → Answer → List ℕ
not_accepted_line side a = codes "not accepted " ++ side_name side ++ codes " " ++ told_line a

-- what the panel says of the question of the manifest with this label: the question's id, the label and the verdict
abbrev pub question_line : List ℕ → List ℕ → Verdict → List ℕ
question_line id label verdict = text_line (encode_lower id ++ codes " " ++ printed label ++ codes " " ++ verdict_name verdict)

-- the manifest with this label has no question
abbrev pub no_question_line : List ℕ → List ℕ
no_question_line label = text_line (codes "- " ++ printed label ++ codes " none")

-- a label, and a dash where it is missing or empty
abbrev pub label_column : Option (List ℕ) → List ℕ
label_column None = codes "-"
label_column (Some []) = codes "-"
label_column (Some (first ∷ rest)) = printed (first ∷ rest)

-- the depth, the place and the length of a box
abbrev pub box_numbers : ℕ → ℕ → ℕ → List ℕ
box_numbers depth place total = decimal depth ++ codes " " ++ decimal place ++ codes " " ++ decimal total

-- a line of these numbers, the type in hex, and the label
abbrev pub box_row : List ℕ → List ℕ → List ℕ → List ℕ
box_row numbers kind label = numbers ++ codes " " ++ encode_lower kind ++ codes " " ++ label ++ codes "\n"

-- a box as a line: its depth, place and length, its type, and its label
abbrev pub box_line : IndexedBox → List ℕ
box_line b = box_row (box_numbers b.depth b.place (length (any_bytes b.box))) (to_be_bytes w32 (any_kind b.box)) (label_column (any_label b.box))

-- the boxes of a tree in preorder, a line each
abbrev pub listing : Tree → List ℕ
listing t = flat_map box_line (boxes_of t)
