-- What two media files come to when they are compared, and what judges are asked then (this project's
-- own choice).
use Rattle.std.specs.Prelude.{◌≡◌, ◌≢◌, ℕ, Bool, true, false, List, [], ◌++◌, Some}
use Rattle.c2_base.specs.declared.values.Question.{Question}
use Rattle.c2_spec.specs.declared.digest.Alg.{Alg}
use Rattle.c2_spec.specs.declared.panel.Verdict.{Verdict}
use Rattle.c2_rules.specs.CheckList.{StoreReading}
use Rattle.c2_rules.specs.Validated.{IsAnswer, CheckAsks}
use Rattle.c2_rules.specs.declared.answer.Answer.{Answer}
use Rattle.c2_rules.specs.declared.answer.Answer.TheVariants as answer
use Rattle.c2_rules.specs.declared.answer.Summary.{Summary}
use Rattle.c2_compare_spec.specs.Accepted.{IsAccepted, HaveOneClaim, AreSame, summary_in}
use Rattle.c2_compare_spec.specs.ChainContent.{active_claim}
use Rattle.c2_compare_spec.specs.Differences.{first_difference}
use Rattle.c2_compare_spec.specs.Evidence.{BoundBy, by_digest, by_signature, ListPair, IsReal}
use Rattle.c2_compare_spec.specs.EvidenceText.{evidence_text}
use Rattle.c2_compare_spec.specs.declared.compared.Compared.{Compared}
use Rattle.c2_compare_spec.specs.declared.compared.Compared.TheVariants.{NotAccepted, DifferentClaims, Evidence, Same}
use Rattle.c2_compare_spec.specs.declared.compared.EvidenceKind.{EvidenceKind}
use Rattle.c2_compare_spec.specs.declared.compared.EvidenceKind.TheVariants.{Digest, Signature}
use Rattle.c2_compare_spec.specs.declared.compared.Side.TheVariants.{First, Second}

-- the check of a file answers that every rule holds
abbrev pub is_valid : Answer → Bool
is_valid (answer.Valid summary) = true
is_valid a = false

-- the kind of evidence, by what binds the lists
abbrev pub evidence_kind : BoundBy → EvidenceKind
evidence_kind (by_digest name) = Digest
evidence_kind (by_signature box) = Signature

-- ---- what two files come to

-- The check of the first file answers this, and it isn't accepted.
pub record IsRefusedFirst (hash : Alg → List ℕ → List ℕ) (said : Question → Verdict)
    (first : List ℕ) (a : Answer) : Type 0 where
  pub is_answer : IsAnswer hash said first a
  pub invalid : is_valid a ≡ false

-- The first file is accepted; the check of the second answers this, and it isn't accepted.
pub record IsRefusedSecond (hash : Alg → List ℕ → List ℕ) (said : Question → Verdict)
    (first second : List ℕ) (a : Answer) : Type 0 where
  pub store : StoreReading
  pub accepted : IsAccepted hash said first store
  pub is_answer : IsAnswer hash said second a
  pub invalid : is_valid a ≡ false

-- Both files are accepted, and their active claims differ.
pub record HaveDifferentClaims (hash : Alg → List ℕ → List ℕ) (said : Question → Verdict)
    (first second : List ℕ) : Type 0 where
  pub store : StoreReading
  pub other : StoreReading
  pub first_accepted : IsAccepted hash said first store
  pub second_accepted : IsAccepted hash said second other
  pub differ : active_claim store.readings ≢ active_claim other.readings

-- Both files are accepted with one active claim, and chain contents or covered texts differ: the first difference is real evidence, of this
-- kind and with this text.
pub record HaveEvidence (hash : Alg → List ℕ → List ℕ) (said : Question → Verdict)
    (first second : List ℕ) (kind : EvidenceKind) (text : List ℕ) : Type 0 where
  pub store : StoreReading
  pub other : StoreReading
  pub one_claim : HaveOneClaim hash said first second store other
  pub differ : AreSame store other → ⊥
  pub pair : ListPair
  pub is_first : first_difference store other ≡ Some pair
  pub is_real : IsReal hash said pair
  pub is_kind : kind ≡ evidence_kind pair.bound_by
  pub is_text : text ≡ evidence_text pair

-- Both files are accepted with one active claim, and chain contents and covered texts are equal; the first file has this summary. Pairs
-- that lead to ingredients may differ all the same: signature boxes, and contents of whole manifests, are no part of the chain content, so
-- two of them under one digest aren't told.
pub record IsSame (hash : Alg → List ℕ → List ℕ) (said : Question → Verdict)
    (first second : List ℕ) (summary : Summary) : Type 0 where
  pub store : StoreReading
  pub other : StoreReading
  pub one_claim : HaveOneClaim hash said first second store other
  pub same : AreSame store other
  pub is_summary : summary ≡ summary_in first store one_claim.first_accepted.opened

-- two files come to this answer and this text, under a hash and what the panel says of questions; there is
-- a text with evidence alone
abbrev pub IsComparison : (Alg → List ℕ → List ℕ) → (Question → Verdict) → List ℕ → List ℕ
    → Compared → List ℕ → Type 0
IsComparison hash said first second (NotAccepted First a) text =
    IsRefusedFirst hash said first a × (text ≡ [])
IsComparison hash said first second (NotAccepted Second a) text =
    IsRefusedSecond hash said first second a × (text ≡ [])
IsComparison hash said first second DifferentClaims text =
    HaveDifferentClaims hash said first second × (text ≡ [])
IsComparison hash said first second (Evidence kind) text =
    HaveEvidence hash said first second kind text
IsComparison hash said first second (Same summary) text =
    IsSame hash said first second summary × (text ≡ [])

-- ---- what is asked

-- the check of the second file asks these questions where the check of the first answers so: none where
-- the first isn't accepted
abbrev pub SecondAsks : (Alg → List ℕ → List ℕ) → (Question → Verdict) → List ℕ → Answer
    → List Question → Type 0
SecondAsks hash said second (answer.Valid summary) qs = CheckAsks hash said second qs
SecondAsks hash said second a qs = qs ≡ []

-- A comparison asks these questions, in this order: what the two checks ask, and no more.
pub record CompareAsks (hash : Alg → List ℕ → List ℕ) (said : Question → Verdict)
    (first second : List ℕ) (qs : List Question) : Type 0 where
  pub answer : Answer
  pub is_answer : IsAnswer hash said first answer
  pub of_first : List Question
  pub first_asks : CheckAsks hash said first of_first
  pub of_second : List Question
  pub second_asks : SecondAsks hash said second answer of_second
  pub are : qs ≡ of_first ++ of_second
