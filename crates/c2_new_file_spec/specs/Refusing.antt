-- Which label a new manifest can't have, that of an older one (`has_manifest`), and which redactions of an older store are refused
-- (C2PA Technical Specification 2.x, "Redaction of assertions"), over what the manifests of that store are read as; without an older
-- store there are none. The order of the tests, and that an ingredient must name the signature of what loses a box, are this
-- project's own choice.
use Rattle.std.specs.Prelude.{◌≡◌, ℕ, ◌<◌, Bool, false, not, ◌&&◌, List, [], ◌∷◌, ◌++◌, length, take, filter, find, slice_get, is_some, codes, option_map}
use Rattle.std.specs.declared.option.Option.{Option}
use Rattle.std.specs.declared.option.Option.TheVariants.{Some, None}
use Rattle.std.specs.List.{list_any}
use Rattle.std.specs.Option.{option_or}
use Rattle.c2_spec.specs.C2pa.Manifest.{is_given}
use Rattle.c2_spec.specs.C2pa.Uri.{PlainUri, other, uri_of}
use Rattle.c2_rules.specs.Chains.{any_below, assertion_label, is_reached, label_in, named_in, passes_some}
use Rattle.c2_rules.specs.Readings.{ReadBox, Reading, entries_in}
use Rattle.c2_rules.specs.Rules.{box_uri, is_labelled, lists_label, redaction_tests}
use Rattle.c2_rules.specs.Tests.{Test, first_failing, test}
use Rattle.c2_rules.specs.declared.answer.Failing.{Failing}
use Rattle.c2_rules.specs.declared.code.Code.TheVariants.{ProfileRedactionTarget, ProfileIngredientSignature}
use Rattle.c2_chain_spec.specs.Older.{has_signature, is_kept}
pub use Rattle.c2_chain_spec.specs.Joined.{has_manifest}
use Rattle.c2_new_file_spec.specs.Redacting.{takes_out}
use Rattle.c2_new_file_spec.specs.declared.refused.RefusedRedaction.{RefusedRedaction}

-- ---- labels

-- the URI of the claim of a new manifest with this label
abbrev pub new_claim_uri : List ℕ → List ℕ
new_claim_uri own = box_uri own (other (codes "c2pa.claim.v2"))

-- ---- what a redaction names

-- a reached manifest of these passes a test
abbrev pub any_reached : (Reading → Bool) → List Reading → Bool
any_reached passes rs = any_below (λ i. is_reached rs i && passes_some passes (slice_get rs i)) (length rs)

-- the assertion boxes of a manifest that are there once these redactions took theirs out
abbrev pub kept_boxes : List (List ℕ) → Reading → List ReadBox
kept_boxes redacts r = filter (is_kept (takes_out redacts (label_in r))) r.boxes

-- the claim of a manifest lists this label, and the box is there once these redactions took theirs out
abbrev pub has_assertion : List (List ℕ) → Reading → List ℕ → Bool
has_assertion before r label =
    lists_label r.manifest (entries_in r) label
    && is_some (find (is_labelled label) (kept_boxes before r))

-- a URI names such an assertion in this manifest
abbrev pub is_target : List (List ℕ) → Option PlainUri → Reading → Bool
is_target before None r = false
is_target before (Some u) r =
    is_given u.manifest (label_in r) && passes_some (has_assertion before r) (assertion_label u.target)

-- a URI names one in a reached manifest
abbrev pub has_target : List Reading → List (List ℕ) → List ℕ → Bool
has_target rs before text = any_reached (is_target before (uri_of text)) rs

-- an assertion box is read as an ingredient that names the manifest of a URI, without the manifest's signature
abbrev pub names_unsigned : Option PlainUri → ReadBox → Bool
names_unsigned None b = false
names_unsigned (Some u) b = passes_some (is_given u.manifest) (named_in b) && not (has_signature b)

-- a box of a reached manifest is
abbrev pub has_unsigned : List Reading → List ℕ → Bool
has_unsigned rs text =
    any_reached (λ (r : Reading). list_any (names_unsigned (uri_of text)) r.boxes) rs

-- ---- what is refused

-- The tests of a redaction in a new manifest with this label, after these redactions: the rules on redactions; what it names is
-- there; and each ingredient that names the manifest names its signature.
abbrev pub entry_tests : List ℕ → List Reading → List (List ℕ) → List ℕ → List Test
entry_tests own rs before text =
    redaction_tests own (new_claim_uri own) text
    ++ (test (not (has_target rs before text)) ProfileRedactionTarget text
    ∷ test (has_unsigned rs text) ProfileIngredientSignature text
    ∷ [])

-- a redaction that is refused by a test
abbrev pub refused_by : List ℕ → Failing → RefusedRedaction
refused_by text failing = record { text = text; code = failing.code }

-- the first redaction that is refused, and why, where others stand before: these count as made
abbrev pub refusal_after : List ℕ → List Reading → List (List ℕ) → List (List ℕ) → Option RefusedRedaction
refusal_after own rs before [] = None
refusal_after own rs before (text ∷ others) =
    option_or (option_map (refused_by text) (first_failing (entry_tests own rs before text)))
    (refusal_after own rs (before ++ text ∷ []) others)

-- the first of these redactions that is refused, and why
abbrev pub redaction_refusal : List ℕ → List Reading → List (List ℕ) → Option RefusedRedaction
redaction_refusal own rs redacts = refusal_after own rs [] redacts

-- ---- which one is the first

-- This redaction is refused so, of those at places in a list, where others stand before the list: by the first of its tests that
-- fails, while those before it count as made; and of these none is refused.
pub record IsRefusedAt (own : List ℕ) (rs : List Reading) (before redacts : List (List ℕ)) (place : ℕ) (r : RefusedRedaction) : Type 0 where
  pub there : slice_get redacts place ≡ Some r.text
  pub failing : Failing
  pub first : first_failing (entry_tests own rs (before ++ take place redacts) r.text) ≡ Some failing
  pub code : r.code ≡ failing.code
  pub earlier : (i : ℕ) (text : List ℕ) → i < place → slice_get redacts i ≡ Some text
      → first_failing (entry_tests own rs (before ++ take i redacts) text) ≡ None

-- the first redaction of a list that is refused, in its order; nothing where none is
abbrev pub IsFirstRefused : List ℕ → List Reading → List (List ℕ) → List (List ℕ) → Option RefusedRedaction → Type 0
IsFirstRefused own rs before redacts None =
    (i : ℕ) (text : List ℕ) → slice_get redacts i ≡ Some text
    → first_failing (entry_tests own rs (before ++ take i redacts) text) ≡ None
IsFirstRefused own rs before redacts (Some r) = (place : ℕ) × IsRefusedAt own rs before redacts place r

-- What is answered is the first that is refused.
abbrev pub FirstRedactionIsLeast : Type 0
FirstRedactionIsLeast = (own : List ℕ) (rs : List Reading) (before redacts : List (List ℕ))
    → IsFirstRefused own rs before redacts (refusal_after own rs before redacts)
