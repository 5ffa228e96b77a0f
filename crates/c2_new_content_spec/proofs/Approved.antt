-- The judges who find a store valid approve its questions.
use Rattle.std.proofs.Common.{◌≡◌, ℕ, zero, suc, Bool, true, false, cond, List, [], ◌++◌, length, Option, Some, None, refl}
use Rattle.std.specs.Prelude.{option_map, slice_get}
use Rattle.std.specs.List.{AllByRecursion}
use Rattle.std.specs.Option.{option_to_list}
use Rattle.std.proofs.lemmas.Bool.{true≢false}
use Rattle.c2_base.specs.declared.values.Question.{Question}
use Rattle.c2_spec.specs.declared.digest.Alg.{Alg}
use Rattle.c2_spec.specs.declared.panel.Verdict.{Verdict}
use Rattle.c2_spec.specs.declared.panel.Verdict.TheVariants.{Approved}
use Rattle.c2_spec.specs.declared.panel.Verdict.TheVariants as verdict
use Rattle.c2_rules.specs.Chains.{is_reached}
use Rattle.c2_rules.specs.CheckList.{active_in, active_tests, chain_tests, check_list, judged_tests, last_tests, place_tests, question_at, questions_of, tests_of}
use Rattle.c2_rules.specs.Readings.{Reading, question_in}
use Rattle.c2_rules.specs.Rules.{claim_tests, rest_tests, verdict_tests}
use Rattle.c2_rules.specs.Seen.{seen_at}
use Rattle.c2_rules.specs.Tests.{downward}
use Rattle.c2_rules.proofs.Conditions.{Holds, all_each}
use Rattle.c2_new_content_spec.specs.Over.{ValidIsApproved}
use Rattle.c2_lemmas.proofs.Each.{each_append, each_back, each_front}

-- a verdict that no rule refuses is an approval
said_of : (said : Question → Verdict) (r : Reading) (o : Option Question)
    → AllByRecursion Holds (verdict_tests r (option_map said o))
    → AllByRecursion (λ (q : Question). said q ≡ Approved) (option_to_list o)
said_of said r None h = tt
said_of said r (Some q) h = (by_verdict (said q) h, tt)
  where
    by_verdict : (v : Verdict) → AllByRecursion Holds (verdict_tests r (Some v)) → v ≡ Approved
    by_verdict verdict.Approved h = refl
    by_verdict verdict.Mismatch h = absurd (true≢false h.0)
    by_verdict verdict.Untrusted h = absurd (true≢false h.0)
    by_verdict verdict.Invalid h = absurd (true≢false h.0)
    by_verdict verdict.Silent h = absurd (true≢false h.0)

-- the questions of the manifest at a place are approved where its rules hold
place_said : (hash : Alg → List ℕ → List ℕ) (said : Question → Verdict) (rs : List Reading) (i : ℕ)
    → AllByRecursion Holds (place_tests (judged_tests hash said) rs i)
    → AllByRecursion (λ (q : Question). said q ≡ Approved) (question_at rs i)
place_said hash said rs i h = go (is_reached rs i) (slice_get rs i) h
  where
    go : (b : Bool) (o : Option Reading) → AllByRecursion Holds (cond b (tests_of (judged_tests hash said) rs i o) [])
        → AllByRecursion (λ (q : Question). said q ≡ Approved) (cond b (questions_of o) [])
    go false o k = tt
    go true None k = tt
    go true (Some r) k =
        let s = seen_at rs i r in
        let v = option_map said (question_in r) in
        said_of said r (question_in r)
        (each_front Holds (verdict_tests r v) (rest_tests hash s) (each_back Holds (claim_tests r) (verdict_tests r v ++ rest_tests hash s) k))

-- the questions of all places are approved where all rules hold
all_said : (hash : Alg → List ℕ → List ℕ) (said : Question → Verdict) (rs : List Reading) (n : ℕ)
    → AllByRecursion Holds (downward (place_tests (judged_tests hash said) rs) n)
    → AllByRecursion (λ (q : Question). said q ≡ Approved) (downward (question_at rs) n)
all_said hash said rs zero h = tt
all_said hash said rs (suc n) h =
    each_append (λ (q : Question). said q ≡ Approved) (question_at rs n) (downward (question_at rs) n)
    (place_said hash said rs n (each_front Holds (place_tests (judged_tests hash said) rs n) (downward (place_tests (judged_tests hash said) rs) n) h))
    (all_said hash said rs n (each_back Holds (place_tests (judged_tests hash said) rs n) (downward (place_tests (judged_tests hash said) rs) n) h))

-- the questions of a valid store are approved
pub valid_approved : ValidIsApproved
valid_approved hash said s h =
    let rs : List Reading = s.readings in
    all_said hash said rs (length rs)
    (each_front Holds (chain_tests (judged_tests hash said) rs) (last_tests hash s.binding (active_in rs)) (each_back Holds (active_tests (active_in rs)) _ (all_each (check_list hash said s) h)))
