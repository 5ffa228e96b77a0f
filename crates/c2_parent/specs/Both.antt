-- Which redaction is refused first of a new manifest whose older manifests are those of two stores joined.
use Rattle.std.specs.Prelude.{◌≡◌, ℕ, Bool, not, ◌||◌, List, Option, None, Some, drop, length, take, if◌then◌else◌}
use Rattle.c2_spec.specs.C2pa.Uri.{uri_of}
use Rattle.c2_rules.specs.Readings.{Reading}
use Rattle.c2_rules.specs.Rules.{redaction_tests}
use Rattle.c2_rules.specs.declared.code.Code.{Code}
use Rattle.c2_rules.specs.declared.code.Code.TheVariants.{ProfileRedactionTarget, ProfileIngredientSignature}
use Rattle.c2_new_file_spec.specs.Refusing.{new_claim_uri}
use Rattle.c2_new_file_spec.specs.declared.refused.RefusedRedaction.{RefusedRedaction}
use Rattle.c2_collect_spec.specs.Collected.{JoinedReaches, collected_readings}
use Rattle.c2_collect_spec.specs.Refusals.{entry_tests_by, redaction_refusal_by, refusal_after_by}
use Rattle.c2_parent.specs.Named.{AreNamed}
use Rattle.c2_parent.specs.Refused.{any_so, assertion_of, code_of, still_there}
use Rattle.c2_parent.specs.declared.both.Assertion.{Assertion}
use Rattle.c2_parent.specs.declared.named.Named.{Named}

-- Of these redactions this is the one that is refused first, or none is, of a new manifest with this label whose older manifests are those
-- of two stores joined. What is reached of the joined ones is what was reached in the one store or in the other.
abbrev pub IsFirstRefusedOfBoth : List ℕ → List Reading → List Reading → List (List ℕ) → Option RefusedRedaction → Type 0
IsFirstRefusedOfBoth own olds others redacts found =
    (is_in : ℕ → Bool) → JoinedReaches olds others is_in
    → found ≡ redaction_refusal_by is_in own (collected_readings olds others) redacts

-- ---- for private clauses

-- For private clauses: a text names an assertion, and no rule on redactions refuses to redact it in a new manifest with this label.
pub record IsRedactable (own text : List ℕ) (a : Assertion) : Type 0 where
  pub names : uri_of text ≡ Some (assertion_of a.manifest.now a.label.now)
  pub passes : code_of (redaction_tests own (new_claim_uri own) text) ≡ None

-- For private clauses: why an assertion can't be redacted after these, where the rules on redactions hold of it: it is there in neither store
-- any more, or an ingredient of either names its manifest without the signature.
abbrev pub later_in_both : List Reading → List Reading → List (List ℕ) → List ℕ → List ℕ → Option Code
later_in_both olds others before manifest label =
    if not (still_there olds before manifest label || still_there others before manifest label) then Some ProfileRedactionTarget
    else if any_so olds manifest (length olds) || any_so others manifest (length others) then Some ProfileIngredientSignature else None

-- For private clauses: this is why a redaction is refused after these, over two stores joined.
abbrev pub IsCodeOfBoth : List ℕ → List Reading → List Reading → List (List ℕ) → List ℕ → Option Code → Type 0
IsCodeOfBoth own olds others before text code =
    (is_in : ℕ → Bool) → JoinedReaches olds others is_in
    → code ≡ code_of (entry_tests_by is_in own (collected_readings olds others) before text)

-- For private clauses: of these redactions the first `k` aren't refused over two stores joined; `before` are what they name.
pub record PassBothSoFar (own : List ℕ) (olds others : List Reading) (redacts : List (List ℕ)) (k : ℕ) (before : Named) : Type 0 where
  pub named : AreNamed (take k redacts) before
  pub rest : (is_in : ℕ → Bool) → JoinedReaches olds others is_in
      → redaction_refusal_by is_in own (collected_readings olds others) redacts
      ≡ refusal_after_by is_in own (collected_readings olds others) (take k redacts) (drop k redacts)
