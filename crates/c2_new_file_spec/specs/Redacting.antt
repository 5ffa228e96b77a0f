-- Which boxes of an older store a new one carries (C2PA Technical Specification 2.x, "Redaction of assertions"): all of them, as they
-- stand, less the boxes of assertions that are redacted. A box is a tree, and its bytes are those that spell it: so a box that loses
-- nothing keeps its bytes, and one that loses something has the length of what is left, in a header of the same form.
use Rattle.std.specs.Prelude.{ℕ, Bool, List, [], unwrap_or, if◌then◌else◌}
use Rattle.std.specs.List.{list_any}
use Rattle.c2_spec.specs.C2pa.Uri.{uri_of}
use Rattle.c2_spec.specs.Jumbf.Boxes.{node, any_label}
use Rattle.c2_spec.specs.Jumbf.Tree.{Tree, Trees, leaf, super, none, more}
use Rattle.c2_rules.specs.Chains.{names_assertion, passes_some}
use Rattle.c2_new_file_spec.specs.Manifests.{is_assertion_store}

-- one of these redactions names the assertion with this label in the manifest with that one
abbrev pub takes_out : List (List ℕ) → List ℕ → List ℕ → Bool
takes_out redacts manifest label =
    list_any (λ (text : List ℕ). names_assertion manifest label (uri_of text)) redacts

-- boxes, less those whose labels are taken out
abbrev pub without : (List ℕ → Bool) → Trees → Trees
without out none = none
without out (more t ts) =
    if passes_some out (any_label (node t)) then without out ts else more t (without out ts)

-- an assertion store less those
abbrev pub thin_store : (List ℕ → Bool) → Tree → Tree
thin_store out (leaf b) = leaf b
thin_store out (super wide d boxes) = super wide d (without out boxes)

-- the boxes of a manifest, with its assertion store less those
abbrev pub thin_boxes : (List ℕ → Bool) → Trees → Trees
thin_boxes out none = none
thin_boxes out (more t ts) =
    if is_assertion_store t then more (thin_store out t) ts else more t (thin_boxes out ts)

-- a manifest less the boxes of the assertions that these redactions name
abbrev pub redacted_box : List (List ℕ) → Tree → Tree
redacted_box redacts (leaf b) = leaf b
redacted_box redacts (super wide d boxes) =
    super wide d (thin_boxes (takes_out redacts (unwrap_or d.label [])) boxes)

-- the boxes of a store, each manifest less those
abbrev pub redacted_boxes : List (List ℕ) → Trees → Trees
redacted_boxes redacts none = none
redacted_boxes redacts (more t ts) = more (redacted_box redacts t) (redacted_boxes redacts ts)

-- the boxes of a superbox behind its description
abbrev pub boxes_in : Tree → Trees
boxes_in (leaf b) = none
boxes_in (super wide d boxes) = boxes
