-- For private clauses: what is looked up of a store when redactions are tested.
use Rattle.std.specs.Prelude.{◌≡◌, ℕ, Bool, not, ◌&&◌, List, [], ◌∷◌, ◌++◌, Option, None, Some, length, take, drop, slice_get, bytes_eq, option_map, if◌then◌else◌}
use Rattle.std.specs.List.{list_any}
use Rattle.c2_label_index.specs.Labels.{is_among}
use Rattle.c2_label_index.specs.declared.labels.Labels.{Labels}
use Rattle.c2_spec.specs.C2pa.Uri.{PlainUri, assertion}
use Rattle.c2_rules.specs.Chains.{LabelsDiffer, any_below, is_reached, label_in, named_in, passes_some}
use Rattle.c2_rules.specs.Readings.{ReadBox, Reading}
use Rattle.c2_rules.specs.Rules.{uri_tests}
use Rattle.c2_rules.specs.Tests.{Test, first_failing, test}
use Rattle.c2_rules.specs.declared.answer.Failing.{Failing}
use Rattle.c2_rules.specs.declared.code.Code.{Code}
use Rattle.c2_rules.specs.declared.code.Code.TheVariants.{ProfileRedactionTarget, ProfileIngredientSignature}
use Rattle.c2_chain_spec.specs.Older.{has_signature}
use Rattle.c2_new_file_spec.specs.Refusing.{any_reached, has_assertion, is_target, names_unsigned, new_claim_uri, redaction_refusal, refusal_after}
use Rattle.c2_parent.specs.Named.{AreNamed}
use Rattle.c2_parent.specs.declared.named.Named.{Named}

-- the label of the manifest that a box names without its signature
abbrev pub unsigned_in : ReadBox → Option (List ℕ)
unsigned_in b = if has_signature b then None else named_in b

-- a box of a manifest names the manifest with this label so
abbrev pub names_so : List ℕ → Reading → Bool
names_so label r = list_any (λ (b : ReadBox). passes_some (bytes_eq label) (unsigned_in b)) r.boxes

-- a box of one of the first `n` manifests does, if it is reached
abbrev pub any_so : List Reading → List ℕ → ℕ → Bool
any_so rs label n = any_below (λ i. is_reached rs i && passes_some (names_so label) (slice_get rs i)) n

-- The labels that boxes of the first `n` manifests name so, of those that are reached.
pub record AreUnsigned (rs : List Reading) (n : ℕ) (labels : Labels) : Type 0 where
  pub says : (label : List ℕ) → is_among labels label ≡ any_so rs label n

-- the code of the first test that fails
abbrev pub code_of : List Test → Option Code
code_of tests = option_map (λ (f : Failing). f.code) (first_failing tests)

-- the manifest with this label is reached, and has this assertion still
abbrev pub still_there : List Reading → List (List ℕ) → List ℕ → List ℕ → Bool
still_there rs before manifest label =
    any_reached (λ (r : Reading). bytes_eq manifest (label_in r) && has_assertion before r label) rs

-- the tests of a redaction by its URI, after these redactions
abbrev pub uri_entry_tests : List ℕ → List Reading → List (List ℕ) → List ℕ → Option PlainUri → List Test
uri_entry_tests own rs before text u =
    uri_tests own (new_claim_uri own) u
    ++ (test (not (any_reached (is_target before u) rs)) ProfileRedactionTarget text
    ∷ test (any_reached (λ (r : Reading). list_any (names_unsigned u) r.boxes) rs) ProfileIngredientSignature text
    ∷ [])

-- the URI of an assertion in the manifest with this label
abbrev pub assertion_of : List ℕ → List ℕ → PlainUri
assertion_of manifest label = record { manifest = Some manifest; target = assertion label }

-- why an assertion can't be redacted after these, where the rules on redactions hold of it
abbrev pub later_code : List Reading → List (List ℕ) → List ℕ → List ℕ → Option Code
later_code rs before manifest label =
    if not (still_there rs before manifest label) then Some ProfileRedactionTarget
    else if any_so rs manifest (length rs) then Some ProfileIngredientSignature else None

-- What is known of a store whose manifests were read as `rs`.
pub record IsKnown (rs targets : List Reading) (unsigned : Labels) : Type 0 where
  pub differ : LabelsDiffer rs
  pub same : targets ≡ rs
  pub labels : AreUnsigned rs (length rs) unsigned

-- Of these redactions the first `k` aren't refused; `before` are what they name.
pub record PassSoFar (own : List ℕ) (rs : List Reading) (redacts : List (List ℕ)) (k : ℕ) (before : Named) : Type 0 where
  pub named : AreNamed (take k redacts) before
  pub rest : redaction_refusal own rs redacts ≡ refusal_after own rs (take k redacts) (drop k redacts)
