-- For private clauses: what two accepted files come to, and what is written.
use Rattle.std.specs.Prelude.{◌≡◌, ◌≢◌, ◌⊎◌, ℕ, List, Option, Some, Ok, Err}
use Rattle.std.specs.declared.result.Result.{Result}
use Rattle.c2_base.specs.Sink.{Appends, HasWrittenPrefix}
use Rattle.c2_rules.specs.CheckList.{StoreReading}
use Rattle.c2_rules.specs.declared.answer.Summary.{Summary}
use Rattle.c2_compare_spec.specs.Accepted.{AreSame}
use Rattle.c2_compare_spec.specs.ChainContent.{active_claim}
use Rattle.c2_compare_spec.specs.Comparison.{evidence_kind}
use Rattle.c2_compare_spec.specs.Differences.{first_difference}
use Rattle.c2_compare_spec.specs.Evidence.{ListPair}
use Rattle.c2_compare_spec.specs.EvidenceText.{evidence_text}
use Rattle.c2_compare_spec.specs.declared.compared.Compared.{Compared}
use Rattle.c2_compare_spec.specs.declared.compared.Compared.TheVariants as compared
use Rattle.c2_compare_spec.specs.declared.compared.EvidenceKind.{EvidenceKind}
use Rattle.c2_compare_spec.specs.declared.compared.EvidenceKind.TheVariants.{Digest, Signature}
use Rattle.c2_compare_evidence.specs.Shown.{ShownBy, by_name, by_box}
use Rattle.c2_compare_evidence.specs.declared.error.CompareError.{CompareError}
use Rattle.c2_compare_opened.specs.declared.settling.Settled.{Settled}
use Rattle.c2_compare_opened.specs.declared.settling.Settled.TheVariants.{DifferentClaims, Evidence, Same}

-- the kind of evidence, by what is printed of what binds the lists
abbrev pub shown_kind : ShownBy → EvidenceKind
shown_kind (by_name name) = Digest
shown_kind (by_box contents) = Signature

-- what two accepted files come to, where the first has this summary
abbrev pub compared_of : Settled → Summary → Compared
compared_of DifferentClaims summary = compared.DifferentClaims
compared_of (Evidence kind) summary = compared.Evidence kind
compared_of Same summary = compared.Same summary

-- the active claims are equal, the rest isn't, and this is the first difference
pub record HaveFirst (s t : StoreReading) (pair : ListPair) : Type 0 where
  pub claims : active_claim s.readings ≡ active_claim t.readings
  pub differ : AreSame s t → ⊥
  pub is_first : first_difference s t ≡ Some pair

-- what two stores come to, by what was written before and after: the text of evidence, or after a failure a prefix of it
abbrev pub IsSettled : StoreReading → StoreReading → Option (List ℕ) → Option (List ℕ)
    → Result Settled CompareError → Type 0
IsSettled s t old new (Ok DifferentClaims) =
    (active_claim s.readings ≢ active_claim t.readings) × (new ≡ old)
IsSettled s t old new (Ok Same) =
    (active_claim s.readings ≡ active_claim t.readings) × AreSame s t × (new ≡ old)
IsSettled s t old new (Ok (Evidence kind)) =
    (pair : ListPair) × HaveFirst s t pair × (kind ≡ evidence_kind pair.bound_by)
    × Appends old new (evidence_text pair)
IsSettled s t old new (Err e) =
    (new ≡ old)
    ⊎ ((pair : ListPair) × HaveFirst s t pair × HasWrittenPrefix old new (evidence_text pair))
