-- Two files, each opened as one thing at most, come to one answer and one text.
use Rattle.std.proofs.Common.{◌≡◌, ◌≢◌, ℕ, false, List, length, refl, sym, ap, ◌∙◌, subst, ap₂, ◌++◌}
use Rattle.c2_base.specs.declared.values.Question.{Question}
use Rattle.c2_spec.specs.declared.digest.Alg.{Alg}
use Rattle.c2_spec.specs.declared.panel.Verdict.{Verdict}
use Rattle.c2_rules.specs.CheckList.{StoreReading, summary_of}
use Rattle.c2_rules.specs.Validated.{IsAnswer}
use Rattle.c2_rules.specs.declared.answer.Answer.{Answer}
use Rattle.c2_rules.specs.declared.answer.Answer.TheVariants as answer
use Rattle.c2_rules.specs.declared.answer.Summary.{Summary}
use Rattle.c2_rules.specs.Opened.{IsOpenedOnce}
use Rattle.c2_compare_spec.specs.Accepted.{IsOpenedAs, IsAccepted, AreSame, summary_in}
use Rattle.c2_compare_spec.specs.ChainContent.{active_claim}
use Rattle.c2_compare_spec.specs.Comparison.{is_valid, evidence_kind, HaveDifferentClaims, HaveEvidence, IsSame, IsComparison, SecondAsks, CompareAsks}
use Rattle.c2_compare_spec.specs.Differences.{first_difference}
use Rattle.c2_compare_spec.specs.Evidence.{ListPair}
use Rattle.c2_compare_spec.specs.EvidenceText.{evidence_text}
use Rattle.c2_compare_spec.specs.declared.compared.Compared.{Compared}
use Rattle.c2_compare_spec.specs.declared.compared.Compared.TheVariants.{NotAccepted, DifferentClaims, Evidence, Same}
use Rattle.c2_compare_spec.specs.declared.compared.EvidenceKind.{EvidenceKind}
use Rattle.c2_compare_spec.specs.declared.compared.Side.TheVariants.{First, Second}
use Rattle.c2_compare_spec.proofs.Answers.{accepted_valid}
use Rattle.c2_compare_spec.proofs.OneStore.{one_opened_as, one_answer, one_asks}
use Rattle.c2_lemmas.proofs.Options.{one_value}

module _ (hash : Alg → List ℕ → List ℕ) (said : Question → Verdict) where
  -- an accepted file is read in one way
  one_accepted : (file : List ℕ) → IsOpenedOnce file → (s t : StoreReading) → IsAccepted hash said file s
      → IsAccepted hash said file t → s ≡ t
  one_accepted file once s t h k = (one_opened_as file once s t h.opened k.opened).store

  -- an accepted file has one summary
  one_summary : (file : List ℕ) → IsOpenedOnce file
      → (s t : StoreReading) (o : IsOpenedAs file s) (p : IsOpenedAs file t)
      → summary_in file s o ≡ summary_in file t p
  one_summary file once s t o p =
      let r = one_opened_as file once s t o p in
      ap (λ x. summary_of (length file) x o.len s) r.start
      ∙ ap (λ x. summary_of (length file) p.start x s) r.len
      ∙ ap (summary_of (length file) p.start p.len) r.store

  -- an accepted file isn't refused
  never_both : {P : Type 0} (file : List ℕ) → IsOpenedOnce file → (s : StoreReading) (a : Answer)
      → IsAccepted hash said file s → IsAnswer hash said file a
      → is_valid a ≡ false → P
  never_both file once s a h k refused =
      let one : a ≡ answer.Valid (summary_in file s h.opened) =
      one_answer hash said file once a (answer.Valid (summary_in file s h.opened)) k
      (accepted_valid hash said file s h) in
      absurd (let bad = sym refused ∙ ap is_valid one in cc (bad))

module _ (hash : Alg → List ℕ → List ℕ) (said : Question → Verdict) (first second : List ℕ)
    (once : IsOpenedOnce first) (twice : IsOpenedOnce second) where
  -- the readings of both files are one
  first_one : (s t : StoreReading) → IsAccepted hash said first s → IsAccepted hash said first t → s ≡ t
  first_one s t h k = one_accepted hash said first once s t h k

  -- the readings of the second file are one
  second_one : (s t : StoreReading) → IsAccepted hash said second s → IsAccepted hash said second t → s ≡ t
  second_one s t h k = one_accepted hash said second twice s t h k

  -- claims that differ aren't equal
  claims_apart : {P : Type 0} (s t s' t' : StoreReading) → s ≡ s' → t ≡ t'
      → active_claim s.readings ≢ active_claim t.readings
      → active_claim s'.readings ≡ active_claim t'.readings → P
  claims_apart s t s' t' p q differ same =
      absurd (differ (ap (λ (x : StoreReading). active_claim x.readings) p ∙ same
      ∙ sym (ap (λ (x : StoreReading). active_claim x.readings) q)))

  -- stores that differ aren't the same
  stores_apart : {P : Type 0} (s t s' t' : StoreReading) → s ≡ s' → t ≡ t' → (AreSame s t → ⊥) → AreSame s' t'
      → P
  stores_apart s t s' t' p q differ same =
      absurd (differ (subst (λ x. AreSame x t) (sym p) (subst (λ x. AreSame s' x) (sym q) same)))

  -- evidence is of one kind and has one text
  one_evidence : (k l : EvidenceKind) (t u : List ℕ) → HaveEvidence hash said first second k t
      → HaveEvidence hash said first second l u → (k ≡ l) × (t ≡ u)
  one_evidence k l t u a b =
      let p = first_one a.store b.store a.one_claim.first_accepted b.one_claim.first_accepted in
      let q = second_one a.other b.other a.one_claim.second_accepted b.one_claim.second_accepted in
      let firsts : first_difference a.store a.other ≡ first_difference b.store b.other =
      ap (λ x. first_difference x a.other) p ∙ ap (first_difference b.store) q in
      let pairs : a.pair ≡ b.pair =
      one_value (first_difference a.store a.other) a.pair b.pair a.is_first (firsts ∙ b.is_first) in (
        a.is_kind ∙ ap (λ (x : ListPair). evidence_kind x.bound_by) pairs ∙ sym b.is_kind,
        a.is_text
            ∙ ap evidence_text pairs ∙ sym b.is_text,
      )

  -- different claims and evidence don't go together
  claims_or_evidence : {P : Type 0} (k : EvidenceKind) (t : List ℕ) → HaveDifferentClaims hash said first second
      → HaveEvidence hash said first second k t → P
  claims_or_evidence k t a b =
      claims_apart a.store a.other b.store b.other
      (first_one a.store b.store a.first_accepted b.one_claim.first_accepted)
      (second_one a.other b.other a.second_accepted b.one_claim.second_accepted) a.differ b.one_claim.claims

  -- different claims and sameness don't go together
  claims_or_same : {P : Type 0} (x : Summary) → HaveDifferentClaims hash said first second
      → IsSame hash said first second x → P
  claims_or_same x a b =
      claims_apart a.store a.other b.store b.other
      (first_one a.store b.store a.first_accepted b.one_claim.first_accepted)
      (second_one a.other b.other a.second_accepted b.one_claim.second_accepted) a.differ b.one_claim.claims

  -- evidence and sameness don't go together
  evidence_or_same : {P : Type 0} (k : EvidenceKind) (t : List ℕ) (x : Summary)
      → HaveEvidence hash said first second k t → IsSame hash said first second x → P
  evidence_or_same k t x a b =
      stores_apart a.store a.other b.store b.other
      (first_one a.store b.store a.one_claim.first_accepted b.one_claim.first_accepted)
      (second_one a.other b.other a.one_claim.second_accepted b.one_claim.second_accepted) a.differ b.same

  -- the summary is one
  same_summary : (x y : Summary) → IsSame hash said first second x → IsSame hash said first second y → x ≡ y
  same_summary x y a b =
      a.is_summary ∙ one_summary hash said first once a.store b.store a.one_claim.first_accepted.opened
      b.one_claim.first_accepted.opened ∙ sym b.is_summary

  -- two files come to one answer and one text
  pub one_comparison : (x y : Compared) (t u : List ℕ) → IsComparison hash said first second x t
      → IsComparison hash said first second y u → (x ≡ y) × (t ≡ u)
  one_comparison (NotAccepted First a) (NotAccepted First b) t u p q = (
    ap (NotAccepted First) (one_answer hash said first once a b p.0.is_answer q.0.is_answer),
    p.1
        ∙ sym q.1,
  )
  one_comparison (NotAccepted First a) (NotAccepted Second b) t u p q =
      never_both hash said first once q.0.store a q.0.accepted p.0.is_answer p.0.invalid
  one_comparison (NotAccepted First a) DifferentClaims t u p q =
      never_both hash said first once q.0.store a q.0.first_accepted p.0.is_answer p.0.invalid
  one_comparison (NotAccepted First a) (Evidence k) t u p q =
      never_both hash said first once q.store a q.one_claim.first_accepted p.0.is_answer p.0.invalid
  one_comparison (NotAccepted First a) (Same x) t u p q =
      never_both hash said first once q.0.store a q.0.one_claim.first_accepted p.0.is_answer p.0.invalid
  one_comparison (NotAccepted Second a) (NotAccepted First b) t u p q =
      never_both hash said first once p.0.store b p.0.accepted q.0.is_answer q.0.invalid
  one_comparison (NotAccepted Second a) (NotAccepted Second b) t u p q = (
    ap (NotAccepted Second) (one_answer hash said second twice a b p.0.is_answer q.0.is_answer),
    p.1
        ∙ sym q.1,
  )
  one_comparison (NotAccepted Second a) DifferentClaims t u p q =
      never_both hash said second twice q.0.other a q.0.second_accepted p.0.is_answer p.0.invalid
  one_comparison (NotAccepted Second a) (Evidence k) t u p q =
      never_both hash said second twice q.other a q.one_claim.second_accepted p.0.is_answer p.0.invalid
  one_comparison (NotAccepted Second a) (Same x) t u p q =
      never_both hash said second twice q.0.other a q.0.one_claim.second_accepted p.0.is_answer
      p.0.invalid
  one_comparison DifferentClaims (NotAccepted First b) t u p q =
      never_both hash said first once p.0.store b p.0.first_accepted q.0.is_answer q.0.invalid
  one_comparison DifferentClaims (NotAccepted Second b) t u p q =
      never_both hash said second twice p.0.other b p.0.second_accepted q.0.is_answer q.0.invalid
  one_comparison DifferentClaims DifferentClaims t u p q = (refl, p.1 ∙ sym q.1)
  one_comparison DifferentClaims (Evidence k) t u p q = claims_or_evidence k u p.0 q
  one_comparison DifferentClaims (Same x) t u p q = claims_or_same x p.0 q.0
  one_comparison (Evidence k) (NotAccepted First b) t u p q =
      never_both hash said first once p.store b p.one_claim.first_accepted q.0.is_answer q.0.invalid
  one_comparison (Evidence k) (NotAccepted Second b) t u p q =
      never_both hash said second twice p.other b p.one_claim.second_accepted q.0.is_answer q.0.invalid
  one_comparison (Evidence k) DifferentClaims t u p q = claims_or_evidence k t q.0 p
  one_comparison (Evidence k) (Evidence l) t u p q = let e =
      one_evidence k l t u p q in (ap Evidence e.0, e.1)
  one_comparison (Evidence k) (Same x) t u p q = evidence_or_same k t x p q.0
  one_comparison (Same x) (NotAccepted First b) t u p q =
      never_both hash said first once p.0.store b p.0.one_claim.first_accepted q.0.is_answer q.0.invalid
  one_comparison (Same x) (NotAccepted Second b) t u p q =
      never_both hash said second twice p.0.other b p.0.one_claim.second_accepted q.0.is_answer
      q.0.invalid
  one_comparison (Same x) DifferentClaims t u p q = claims_or_same x q.0 p.0
  one_comparison (Same x) (Evidence k) t u p q = evidence_or_same k u x q p.0
  one_comparison (Same x) (Same y) t u p q = (ap Same (same_summary x y p.0 q.0), p.1 ∙ sym q.1)

  -- ---- questions

  -- where the first file has one answer, the check of the second asks one list
  one_second : (a b : Answer) (ps qs : List Question) → a ≡ b → SecondAsks hash said second a ps
      → SecondAsks hash said second b qs → ps ≡ qs
  one_second a b ps qs e p q = by a p (subst (λ x. SecondAsks hash said second x qs) (sym e) q)
    where
      by : (x : Answer) → SecondAsks hash said second x ps → SecondAsks hash said second x qs → ps ≡ qs
      by (answer.Valid summary) h k = one_asks hash said second twice ps qs h k
      by (answer.Failing failing) h k = h ∙ sym k
      by (answer.Refused reason number) h k = h ∙ sym k
      by answer.NoStore h k = h ∙ sym k

  -- a comparison asks one list of questions
  pub one_asked : (ps qs : List Question) → CompareAsks hash said first second ps
      → CompareAsks hash said first second qs → ps ≡ qs
  one_asked ps qs p q =
      let same : p.answer ≡ q.answer =
      one_answer hash said first once p.answer q.answer p.is_answer q.is_answer in
      let own : p.of_first ≡ q.of_first =
      one_asks hash said first once p.of_first q.of_first p.first_asks q.first_asks in
      let other : p.of_second ≡ q.of_second =
      one_second p.answer q.answer p.of_second q.of_second same p.second_asks q.second_asks in
      p.are ∙ ap₂ (λ (x y : List Question). x ++ y) own other ∙ sym q.are
