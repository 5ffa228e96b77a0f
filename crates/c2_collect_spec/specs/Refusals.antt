-- Which redactions of a chain are refused, where these manifests of it are reached (C2PA Technical Specification 2.x, "Redaction of
-- assertions"): what a redaction names must be there in a reached manifest, and each ingredient of a reached manifest that names that
-- one must name its signature. Seen from the last manifest of one store, a redaction is refused here exactly where `c2_new_file_spec` refuses it
-- of that store.
use Rattle.std.specs.Prelude.{◌≡◌, ◌<◌, ℕ, Bool, not, ◌&&◌, List, [], ◌∷◌, ◌++◌, length, take, slice_get, option_map}
use Rattle.std.specs.declared.option.Option.{Option}
use Rattle.std.specs.declared.option.Option.TheVariants.{Some, None}
use Rattle.std.specs.List.{list_any}
use Rattle.std.specs.Option.{option_or}
use Rattle.c2_spec.specs.C2pa.Uri.{uri_of}
use Rattle.c2_rules.specs.Chains.{LabelsDiffer, any_below, is_reached, passes_some}
use Rattle.c2_rules.specs.Readings.{Reading}
use Rattle.c2_rules.specs.Rules.{redaction_tests}
use Rattle.c2_rules.specs.Tests.{Test, first_failing, test}
use Rattle.c2_rules.specs.declared.answer.Failing.{Failing}
use Rattle.c2_rules.specs.declared.code.Code.TheVariants.{ProfileRedactionTarget, ProfileIngredientSignature}
use Rattle.c2_new_file_spec.specs.Carrying.{RedactionsPass}
use Rattle.c2_new_file_spec.specs.Less.{CanRedactBy}
use Rattle.c2_new_file_spec.specs.Refusing.{is_target, names_unsigned, new_claim_uri, redaction_refusal, refused_by}
use Rattle.c2_new_file_spec.specs.declared.refused.RefusedRedaction.{RefusedRedaction}

-- a reached manifest of these passes a test
abbrev pub any_reached_by : (ℕ → Bool) → (Reading → Bool) → List Reading → Bool
any_reached_by reached passes rs =
    any_below (λ i. reached i && passes_some passes (slice_get rs i)) (length rs)

-- a text names, after these redactions, an assertion that is there in a reached manifest
abbrev pub has_target_by : (ℕ → Bool) → List Reading → List (List ℕ) → List ℕ → Bool
has_target_by reached rs before text = any_reached_by reached (is_target before (uri_of text)) rs

-- a box of a reached manifest is read as an ingredient that names the manifest of a text, without the manifest's signature
abbrev pub has_unsigned_by : (ℕ → Bool) → List Reading → List ℕ → Bool
has_unsigned_by reached rs text =
    any_reached_by reached (λ (r : Reading). list_any (names_unsigned (uri_of text)) r.boxes) rs

-- the tests of a redaction in a new manifest with this label, after these redactions
abbrev pub entry_tests_by : (ℕ → Bool) → List ℕ → List Reading → List (List ℕ) → List ℕ → List Test
entry_tests_by reached own rs before text =
    redaction_tests own (new_claim_uri own) text
    ++ (test (not (has_target_by reached rs before text)) ProfileRedactionTarget text
    ∷ test (has_unsigned_by reached rs text) ProfileIngredientSignature text
    ∷ [])

-- the first redaction that is refused, and why, behind others that count as made
abbrev pub refusal_after_by : (ℕ → Bool) → List ℕ → List Reading → List (List ℕ) → List (List ℕ) → Option RefusedRedaction
refusal_after_by reached own rs before [] = None
refusal_after_by reached own rs before (text ∷ others) =
    option_or (option_map (refused_by text) (first_failing (entry_tests_by reached own rs before text)))
    (refusal_after_by reached own rs (before ++ text ∷ []) others)

-- the first of these redactions that is refused, and why
abbrev pub redaction_refusal_by : (ℕ → Bool) → List ℕ → List Reading → List (List ℕ) → Option RefusedRedaction
redaction_refusal_by reached own rs redacts = refusal_after_by reached own rs [] redacts

-- ---- which one is the first

-- This redaction is refused so, of those at places in a list, where others stand before the list: by the first of its tests that
-- fails, while those before it count as made; and of these none is refused.
pub record IsRefusedAtBy (reached : ℕ → Bool) (own : List ℕ) (rs : List Reading) (before redacts : List (List ℕ)) (place : ℕ) (r : RefusedRedaction) : Type 0 where
  pub there : slice_get redacts place ≡ Some r.text
  pub failing : Failing
  pub first : first_failing (entry_tests_by reached own rs (before ++ take place redacts) r.text) ≡ Some failing
  pub code : r.code ≡ failing.code
  pub earlier : (i : ℕ) (text : List ℕ) → i < place → slice_get redacts i ≡ Some text
      → first_failing (entry_tests_by reached own rs (before ++ take i redacts) text) ≡ None

-- the first redaction of a list that is refused, in its order; nothing where none is
abbrev pub IsFirstRefusedBy : (ℕ → Bool) → List ℕ → List Reading → List (List ℕ) → List (List ℕ) → Option RefusedRedaction → Type 0
IsFirstRefusedBy reached own rs before redacts None =
    (i : ℕ) (text : List ℕ) → slice_get redacts i ≡ Some text
    → first_failing (entry_tests_by reached own rs (before ++ take i redacts) text) ≡ None
IsFirstRefusedBy reached own rs before redacts (Some r) =
    (place : ℕ) × IsRefusedAtBy reached own rs before redacts place r

-- What is answered of a list of redactions is the first that is refused.
abbrev pub FirstRedactionIsLeastBy : Type 0
FirstRedactionIsLeastBy = (reached : ℕ → Bool) (own : List ℕ) (rs : List Reading) (before redacts : List (List ℕ))
    → IsFirstRefusedBy reached own rs before redacts (refusal_after_by reached own rs before redacts)

-- ---- what follows

-- Redactions of which none is refused may be made, and their rules hold.
pub record AreAcceptedBy (reached : ℕ → Bool) (own : List ℕ) (rs : List Reading) (redacts : List (List ℕ)) : Type 0 where
  pub can : CanRedactBy reached redacts rs
  pub rules : RedactionsPass own redacts

-- In a chain whose manifests have different labels, redactions of which none is refused may be made, and their rules hold.
abbrev pub RedactionsAreAcceptedBy : Type 0
RedactionsAreAcceptedBy = (reached : ℕ → Bool) (own : List ℕ) (rs : List Reading) (redacts : List (List ℕ))
    → LabelsDiffer rs → redaction_refusal_by reached own rs redacts ≡ None → AreAcceptedBy reached own rs redacts

-- In one store the same redactions are refused as where what is reached is told.
abbrev pub RefusalsAreStanding : Type 0
RefusalsAreStanding = (own : List ℕ) (rs : List Reading) (redacts : List (List ℕ))
    → redaction_refusal_by (is_reached rs) own rs redacts ≡ redaction_refusal own rs redacts
