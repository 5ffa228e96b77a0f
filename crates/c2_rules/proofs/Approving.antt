-- A store whose rules hold apart from verdicts is valid where judges approve its questions.
use Rattle.std.proofs.Common.{◌≡◌, ℕ, zero, suc, Bool, true, false, cond, List, [], ◌∷◌, ◌++◌, length, Option, Some, None, slice_get, option_map, is_some, refl, sym, ap, ◌∙◌, subst}
use Rattle.std.specs.List.{AllZip}
use Rattle.std.specs.Option.{option_or, option_to_list}
use Rattle.c2_base.specs.declared.values.Question.{Question}
use Rattle.c2_spec.specs.C2pa.Manifest.{Manifest}
use Rattle.c2_spec.specs.declared.digest.Alg.{Alg}
use Rattle.c2_spec.specs.declared.panel.Verdict.{Verdict}
use Rattle.c2_spec.specs.declared.panel.Verdict.TheVariants.{Approved}
use Rattle.c2_rules.specs.CheckList.{AreApproved, IsValid, StoreReading, active_in, active_tests, chain_tests, check_list, judged_tests, last_tests, place_tests, question_at, questions, questions_of, tests_of, unjudged_list}
use Rattle.c2_rules.specs.Chains.{is_reached}
use Rattle.c2_rules.specs.Readings.{AreReadings, IsReading, Reading, question_in}
use Rattle.c2_rules.specs.Rules.{claim_tests, rest_tests, unjudged_tests, verdict_tests}
use Rattle.c2_rules.specs.Seen.{Seen, seen_at}
use Rattle.c2_rules.specs.Tests.{AllHold, Test, downward, first_failing}
use Rattle.c2_rules.specs.declared.answer.Failing.{Failing}
use Rattle.c2_rules.proofs.ClaimLemmas.{claim_rules_ask}
use Rattle.c2_rules.proofs.FirstLemmas.{all_hold, none_fails}
use Rattle.c2_rules.proofs.TestLemmas.{first_failing_append}

-- ---- lists

-- neither of two failed where the first of both didn't
pub neither : (a b : Option Failing) → option_or a b ≡ None → (a ≡ None) × (b ≡ None)
neither None b e = (refl, e)
neither (Some f) b e = absurd (cc (e))

-- no condition of two lists fails where none of either does
pub none_joined : (xs ys : List Test) → first_failing xs ≡ None → first_failing ys ≡ None
    → first_failing (xs ++ ys) ≡ None
none_joined xs ys h k = first_failing_append xs ys ∙ ap (λ (o : Option Failing). option_or o (first_failing ys)) h ∙ k

-- and of neither where none of both does
pub none_split : (xs ys : List Test) → first_failing (xs ++ ys) ≡ None
    → (first_failing xs ≡ None) × (first_failing ys ≡ None)
none_split xs ys h = neither (first_failing xs) (first_failing ys) (sym (first_failing_append xs ys) ∙ h)

-- the questions of both lists are approved, so those of each
pub approved_parts : (said : Question → Verdict) (xs ys : List Question) → AreApproved said (xs ++ ys)
    → AreApproved said xs × AreApproved said ys
approved_parts said [] ys h = (tt, h)
approved_parts said (q ∷ qs) ys h = let rest = approved_parts said qs ys h.1 in ((h.0, rest.0), rest.1)

-- a member of a list that was read is one of the manifests as it was read
pub read_at : (ms : List Manifest) (rs : List Reading) (i : ℕ) (r : Reading) → AllZip IsReading ms rs
    → slice_get rs i ≡ Some r → (m : Manifest) × IsReading m r
read_at [] [] i r h at = absurd (cc (at))
read_at [] (s ∷ rs) i r h at = absurd h
read_at (m ∷ ms) [] i r h at = absurd h
read_at (m ∷ ms) (s ∷ rs) zero r h at = (m, subst (IsReading m) (same s r at) h.0)
  where
    same : (s r : Reading) → Some s ≡ Some r → s ≡ r
    same s r e = cc (e)
read_at (m ∷ ms) (s ∷ rs) (suc i) r h at = read_at ms rs i r h.1 at

-- ---- one manifest

-- no condition on a verdict fails that is an approval
pub approved_passes : (said : Question → Verdict) (r : Reading) (o : Option Question) → is_some o ≡ true
    → AreApproved said (option_to_list o) → first_failing (verdict_tests r (option_map said o)) ≡ None
approved_passes said r None some h = absurd (cc (some))
approved_passes said r (Some q) some h = by (said q) h.0
  where
    by : (v : Verdict) → v ≡ Approved → first_failing (verdict_tests r (Some v)) ≡ None
    by v e = ap (λ (w : Verdict). first_failing (verdict_tests r (Some w))) e

-- the rules of a manifest hold with its verdict
judged_pass : (hash : Alg → List ℕ → List ℕ) (said : Question → Verdict)
    (m : Manifest) (s : Seen) → IsReading m s.own → first_failing (unjudged_tests hash s) ≡ None
    → AreApproved said (option_to_list (question_in s.own))
    → first_failing (judged_tests hash said s) ≡ None
judged_pass hash said m s reads h approved =
    let both = none_split (claim_tests s.own) (rest_tests hash s) h in
    let verdict = approved_passes said s.own (question_in s.own) (claim_rules_ask m s.own reads both.0) approved in
    none_joined (claim_tests s.own) (verdict_tests s.own (option_map said (question_in s.own)) ++ rest_tests hash s)
    both.0
    (none_joined (verdict_tests s.own (option_map said (question_in s.own))) (rest_tests hash s) verdict both.1)

-- of the manifest at a place, where it is reached
place_pass : (hash : Alg → List ℕ → List ℕ) (said : Question → Verdict)
    (ms : List Manifest) (rs : List Reading) (i : ℕ) → AreReadings ms rs
    → first_failing (place_tests (unjudged_tests hash) rs i) ≡ None → AreApproved said (question_at rs i)
    → first_failing (place_tests (judged_tests hash said) rs i) ≡ None
place_pass hash said ms rs i reads h approved =
    by (is_reached rs i) (slice_get rs i) (λ r. read_at ms rs i r reads) h approved
  where
    by : (b : Bool) (o : Option Reading) → ((r : Reading) → o ≡ Some r → (m : Manifest) × IsReading m r)
        → first_failing (cond b (tests_of (unjudged_tests hash) rs i o) []) ≡ None
        → AreApproved said (cond b (questions_of o) [])
        → first_failing (cond b (tests_of (judged_tests hash said) rs i o) []) ≡ None
    by false o is k a = refl
    by true None is k a = refl
    by true (Some r) is k a = let m = is r refl in judged_pass hash said m.0 (seen_at rs i r) m.1 k a

-- of all manifests
chain_pass : (hash : Alg → List ℕ → List ℕ) (said : Question → Verdict)
    (ms : List Manifest) (rs : List Reading) (n : ℕ) → AreReadings ms rs
    → first_failing (downward (place_tests (unjudged_tests hash) rs) n) ≡ None
    → AreApproved said (downward (question_at rs) n)
    → first_failing (downward (place_tests (judged_tests hash said) rs) n) ≡ None
chain_pass hash said ms rs zero reads h approved = refl
chain_pass hash said ms rs (suc n) reads h approved =
    let both = none_split (place_tests (unjudged_tests hash) rs n) (downward (place_tests (unjudged_tests hash) rs) n)
    h in
    let asked = approved_parts said (question_at rs n) (downward (question_at rs) n) approved in
    none_joined (place_tests (judged_tests hash said) rs n) (downward (place_tests (judged_tests hash said) rs) n)
    (place_pass hash said ms rs n reads both.0 asked.0) (chain_pass hash said ms rs n reads both.1 asked.1)

-- ---- the store

-- an approved store is valid
pub approved_is_valid :
    (hash : Alg → List ℕ → List ℕ) (said : Question → Verdict) (ms : List Manifest) (s : StoreReading)
    → AreReadings ms s.readings → AllHold (unjudged_list hash s) → AreApproved said (questions s.readings)
    → IsValid hash said s
approved_is_valid hash said ms s reads h approved =
    let active : List Test = active_tests (active_in s.readings) in
    let last : List Test = last_tests hash s.binding (active_in s.readings) in
    let chain : List Test = chain_tests (unjudged_tests hash) s.readings in
    let first = none_split active (chain ++ last) (none_fails (active ++ (chain ++ last)) h) in
    let second = none_split chain last first.1 in
    all_hold (check_list hash said s)
    (none_joined active (chain_tests (judged_tests hash said) s.readings ++ last) first.0
    (none_joined (chain_tests (judged_tests hash said) s.readings) last
    (chain_pass hash said ms s.readings (length s.readings) reads second.0 approved) second.1))
