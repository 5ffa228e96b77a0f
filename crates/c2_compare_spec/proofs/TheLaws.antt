-- The laws of this crate, for the proofs of the crates above it.
use Rattle.c2_base.specs.declared.values.Question.{Question}
use Rattle.c2_compare_spec.proofs.Answers.{accepted_valid, valid_accepted}
use Rattle.c2_compare_spec.proofs.Decided.{test_decides}
use Rattle.c2_compare_spec.proofs.EachComparison.{each_asked, each_comparison}
use Rattle.c2_compare_spec.proofs.Files.{accepted_claims, back_of, difference_is_found, difference_is_real, facts, forth_of, ingredients_real_of, lists_are_theirs, no_difference, redacted_of, root_of, same_or_evidence, step_back_of, step_of}
use Rattle.c2_compare_spec.proofs.OneComparison.{one_asked, one_comparison}
use Rattle.c2_compare_spec.specs.Accepted.{AreSame, HaveOneClaim, IsAccepted, summary_in}
use Rattle.c2_compare_spec.specs.ChainContent.{SameContent, claim_bytes_of}
use Rattle.c2_compare_spec.specs.Comparison.{CompareAsks, IsComparison}
use Rattle.c2_compare_spec.specs.Correspondence.{Correspond, HaveSameClaim}
use Rattle.c2_compare_spec.specs.Deciding.{has_same_content}
use Rattle.c2_compare_spec.specs.Differences.{all_ingredients, first_difference, ingredients_at}
use Rattle.c2_compare_spec.specs.Evidence.{IsReal, ListPair, do_differ}
use Rattle.c2_compare_spec.specs.Lists.{IsListOf, IsReachedAt}
use Rattle.c2_compare_spec.specs.declared.compared.Compared.{Compared as AnyCompared}
use Rattle.c2_rules.specs.Chains.{IsChild, Reached, is_redacted}
use Rattle.c2_rules.specs.CheckList.{StoreReading}
use Rattle.c2_rules.specs.Opened.{IsOpenedOnce}
use Rattle.c2_rules.specs.Readings.{Reading as AnyReading}
use Rattle.c2_rules.specs.Validated.{CheckAsks, IsAnswer}
use Rattle.c2_rules.specs.declared.answer.Answer.{Answer as AnyAnswer}
use Rattle.c2_rules.specs.declared.answer.Summary.{Summary as Counted}
use Rattle.c2_spec.specs.declared.digest.Alg.{Alg}
use Rattle.c2_spec.specs.declared.panel.Verdict.{Verdict}
use Rattle.std.specs.Prelude.{List, None, Some, find, length, true, ℕ, ◌-◌, ◌↔◌, ◌≡◌, ◌⊎◌}
use Rattle.c2_rules.specs.declared.answer.Answer.TheVariants as answer

-- equal claim bytes of reached manifests of accepted files are one claim, under one version
pub equal_claim_bytes_are_one_claim :
    (hash : Alg → List ℕ → List ℕ) (said : Question → Verdict) (first second : List ℕ) (s t : StoreReading)
    → IsAccepted hash said first s → IsAccepted hash said second t → (n m : ℕ) (r q : AnyReading)
    → IsReachedAt s.readings n r → IsReachedAt t.readings m q → claim_bytes_of r ≡ claim_bytes_of q → HaveSameClaim r q
equal_claim_bytes_are_one_claim = accepted_claims

-- the step
pub a_step_keeps_equal_claims_forth :
    (hash : Alg → List ℕ → List ℕ) (said : Question → Verdict) (first second : List ℕ) (s t : StoreReading)
    → HaveOneClaim hash said first second s t → (n m : ℕ) → Correspond s.readings t.readings n m
    → find do_differ (ingredients_at s.readings t.readings n) ≡ None → (j : ℕ) → IsChild s.readings n j
    → (i : ℕ) × Correspond s.readings t.readings j i × IsChild t.readings m i
a_step_keeps_equal_claims_forth = step_of

-- the step
pub a_step_keeps_equal_claims_back :
    (hash : Alg → List ℕ → List ℕ) (said : Question → Verdict) (first second : List ℕ) (s t : StoreReading)
    → HaveOneClaim hash said first second s t → (n m : ℕ) → Correspond s.readings t.readings n m
    → find do_differ (ingredients_at s.readings t.readings n) ≡ None → (i : ℕ) → IsChild t.readings m i
    → (j : ℕ) × Correspond s.readings t.readings j i × IsChild s.readings n j
a_step_keeps_equal_claims_back = step_back_of

-- the step
pub a_step_keeps_equal_claims_real :
    (hash : Alg → List ℕ → List ℕ) (said : Question → Verdict) (first second : List ℕ) (s t : StoreReading)
    → HaveOneClaim hash said first second s t → (n m : ℕ) → Correspond s.readings t.readings n m → (p : ListPair)
    → find do_differ (ingredients_at s.readings t.readings n) ≡ Some p → IsReal hash said p
a_step_keeps_equal_claims_real = ingredients_real_of

-- the induction
pub each_reached_manifest_corresponds_active :
    (hash : Alg → List ℕ → List ℕ) (said : Question → Verdict) (first second : List ℕ) (s t : StoreReading)
    → HaveOneClaim hash said first second s t
    → Correspond s.readings t.readings (length s.readings - 1) (length t.readings - 1)
each_reached_manifest_corresponds_active = root_of

-- the induction
pub each_reached_manifest_corresponds_forth :
    (hash : Alg → List ℕ → List ℕ) (said : Question → Verdict) (first second : List ℕ) (s t : StoreReading)
    → HaveOneClaim hash said first second s t → find do_differ (all_ingredients s.readings t.readings) ≡ None → (n : ℕ)
    → Reached s.readings n → (m : ℕ) × Correspond s.readings t.readings n m
each_reached_manifest_corresponds_forth = forth_of

-- the induction
pub each_reached_manifest_corresponds_back :
    (hash : Alg → List ℕ → List ℕ) (said : Question → Verdict) (first second : List ℕ) (s t : StoreReading)
    → HaveOneClaim hash said first second s t → find do_differ (all_ingredients s.readings t.readings) ≡ None → (m : ℕ)
    → Reached t.readings m → (n : ℕ) × Correspond s.readings t.readings n m
each_reached_manifest_corresponds_back = back_of

-- the induction
pub each_reached_manifest_corresponds_redacted :
    (hash : Alg → List ℕ → List ℕ) (said : Question → Verdict) (first second : List ℕ) (s t : StoreReading)
    → HaveOneClaim hash said first second s t → find do_differ (all_ingredients s.readings t.readings) ≡ None
    → (n m : ℕ) → Correspond s.readings t.readings n m → (label : List ℕ)
    → is_redacted s.readings n label ≡ is_redacted t.readings m label
each_reached_manifest_corresponds_redacted = redacted_of

-- the first difference of two accepted files with one active claim is real
pub a_first_difference_is_real_real :
    (hash : Alg → List ℕ → List ℕ) (said : Question → Verdict) (first second : List ℕ) (s t : StoreReading)
    → HaveOneClaim hash said first second s t → (p : ListPair) → first_difference s t ≡ Some p → IsReal hash said p
a_first_difference_is_real_real = difference_is_real

-- the first difference of two accepted files with one active claim is real
pub a_first_difference_is_real_theirs :
    (hash : Alg → List ℕ → List ℕ) (said : Question → Verdict) (first second : List ℕ) (s t : StoreReading)
    → HaveOneClaim hash said first second s t → (p : ListPair) → first_difference s t ≡ Some p
    → IsListOf s p.left × IsListOf t p.right
a_first_difference_is_real_theirs = lists_are_theirs

-- there is a first difference wherever chain contents or covered texts differ
pub a_difference_is_found_none :
    (hash : Alg → List ℕ → List ℕ) (said : Question → Verdict) (first second : List ℕ) (s t : StoreReading)
    → HaveOneClaim hash said first second s t → first_difference s t ≡ None → AreSame s t
a_difference_is_found_none = no_difference

-- there is a first difference wherever chain contents or covered texts differ
pub a_difference_is_found_some :
    (hash : Alg → List ℕ → List ℕ) (said : Question → Verdict) (first second : List ℕ) (s t : StoreReading)
    → HaveOneClaim hash said first second s t → (AreSame s t → ⊥)
    → (p : ListPair) × (first_difference s t ≡ Some p) × IsReal hash said p
a_difference_is_found_some = difference_is_found

-- two accepted files with one active claim have equal chain contents and equal covered texts, or there is a first difference and it is real
pub one_claim_binds_or_there_is_evidence :
    (hash : Alg → List ℕ → List ℕ) (said : Question → Verdict) (first second : List ℕ) (s t : StoreReading)
    → HaveOneClaim hash said first second s t
    → AreSame s t ⊎ ((p : ListPair) × (first_difference s t ≡ Some p) × IsReal hash said p)
one_claim_binds_or_there_is_evidence = same_or_evidence

-- a file is accepted exactly where its check answers that every rule holds, with the summary that is counted of it
pub accepted_is_valid_valid :
    (hash : Alg → List ℕ → List ℕ) (said : Question → Verdict) (file : List ℕ) (summary : Counted)
    → IsAnswer hash said file (answer.Valid summary)
    → (s : StoreReading) × (h : IsAccepted hash said file s) × (summary ≡ summary_in file s h.opened)
accepted_is_valid_valid = valid_accepted

-- a file is accepted exactly where its check answers that every rule holds, with the summary that is counted of it
pub accepted_is_valid_accepted :
    (hash : Alg → List ℕ → List ℕ) (said : Question → Verdict) (file : List ℕ) (s : StoreReading)
    → (h : IsAccepted hash said file s) → IsAnswer hash said file (answer.Valid (summary_in file s h.opened))
accepted_is_valid_accepted = accepted_valid

-- for the stores of accepted files a test decides whether their chain contents are equal
pub a_test_decides_content :
    (hash : Alg → List ℕ → List ℕ) (said : Question → Verdict) (first second : List ℕ) (s t : StoreReading)
    → IsAccepted hash said first s → IsAccepted hash said second t
    → (has_same_content s.readings t.readings ≡ true) ↔ SameContent s.readings t.readings
a_test_decides_content =
    λ hash said first second s t h k. test_decides hash said s.readings t.readings
    (facts hash said first s h).store (facts hash said second t k).store

-- two files whose checks answer come to an answer and a text, and to a list of questions
pub each_comparison_answer :
    (hash : Alg → List ℕ → List ℕ) (said : Question → Verdict) (first second : List ℕ) (a b : AnyAnswer)
    → IsAnswer hash said first a → IsAnswer hash said second b
    → (what : AnyCompared) × (text : List ℕ) × IsComparison hash said first second what text
each_comparison_answer = each_comparison

-- two files whose checks answer come to an answer and a text, and to a list of questions
pub each_comparison_asks :
    (hash : Alg → List ℕ → List ℕ) (said : Question → Verdict) (first second : List ℕ) (a : AnyAnswer)
    (ps qs : List Question)
    → IsAnswer hash said first a → CheckAsks hash said first ps → CheckAsks hash said second qs
    → (all : List Question) × CompareAsks hash said first second all
each_comparison_asks = each_asked

-- two files that are opened as one thing at most come to one answer and one text, and to one list of questions
pub one_comparison_answer : (hash : Alg → List ℕ → List ℕ) (said : Question → Verdict) (first second : List ℕ)
    → IsOpenedOnce first → IsOpenedOnce second → (a b : AnyCompared) (t u : List ℕ)
    → IsComparison hash said first second a t → IsComparison hash said first second b u → (a ≡ b) × (t ≡ u)
one_comparison_answer = one_comparison

-- two files that are opened as one thing at most come to one answer and one text, and to one list of questions
pub one_comparison_asks : (hash : Alg → List ℕ → List ℕ) (said : Question → Verdict) (first second : List ℕ)
    → IsOpenedOnce first → IsOpenedOnce second → (ps qs : List Question) → CompareAsks hash said first second ps
    → CompareAsks hash said first second qs → ps ≡ qs
one_comparison_asks = one_asked
