-- The chain of one store is rooted at its last manifest: what is reached from there is what is reached, and all but the active one's
-- part in the rules stays.
use Rattle.std.proofs.Common.{◌≡◌, ⊎_elim, ℕ, zero, suc, ◌+◌, ◌-◌, ◌<◌, Bool, false, ◌||◌, cond, List, [], ◌∷◌, length, Option, Some, None, slice_get, refl, sym, ap, ◌∙◌, subst, arith}
use Rattle.std.specs.Prelude.{◌==◌, nat_eq, nat_lt}
use Rattle.std.specs.List.{AllByRecursion}
use Rattle.std.proofs.Math.Path.{fun_ext}
use Rattle.std.proofs.lemmas.Bool.{cases_eq, eq-eqb, ne_eqb}
use Rattle.std.proofs.lemmas.Option.{slice_get_within}
use Rattle.c2_spec.specs.declared.digest.Alg.{Alg}
use Rattle.c2_rules.specs.Chains.{is_reached, is_redacted, lists_redacted, place_of, reaches}
use Rattle.c2_rules.specs.CheckList.{chain_tests, place_tests, tests_of}
use Rattle.c2_rules.specs.Readings.{Reading}
use Rattle.c2_rules.specs.Rules.{unjudged_tests}
use Rattle.c2_rules.specs.Seen.{Standing, earlier_standing, later, place_standing, seen_at, standing_of}
use Rattle.c2_rules.specs.Tests.{AllHold, Test, downward}
use Rattle.c2_rules.proofs.Conditions.{Holds, all_each, all_hold}
use Rattle.c2_chain_spec.specs.Rooted.{HoldBy, StoreIsRooted, is_reached_from, last_roots, lists_passing, place_standing_by, standing_by}
use Rattle.c2_chain_spec.proofs.Seeing.{back, front}
use Rattle.c2_chain_spec.proofs.OlderRules.{when_inactive}
use Rattle.c2_lemmas.proofs.Bools.{or_false}

-- ---- what is reached

-- the last manifest is there
pub last_within : (rs : List Reading) → AllByRecursion (λ c. c < length rs) (last_roots rs)
last_within [] = tt
last_within (r ∷ rs) = (omega arith, tt)

-- one more than a place, and the place itself
same_test : (i n : ℕ) → (i + 1 == suc n) ≡ nat_eq n i
same_test i n =
    ⊎_elim (λ same. eq-eqb (i + 1) (suc n) (omega (arith, same)) ∙ sym (eq-eqb n i same))
    (λ other. ne_eqb (i + 1) (suc n) (λ e. other (omega (arith, e))) ∙ sym (ne_eqb n i other)) (cases_eq n i)

-- what is reached is what is reached from the last manifest
pub last_active : (rs : List Reading) (i : ℕ) → is_reached rs i ≡ is_reached_from rs (last_roots rs) i
last_active [] i = ap (λ b. b || reaches [] (0 - 1) i) (ne_eqb (i + 1) 0 (λ e. omega (arith, e)))
last_active (r ∷ rs) i =
    let last : suc (length rs) - 1 ≡ length rs = omega arith in
    ap (λ b. b || reaches (r ∷ rs) (suc (length rs) - 1) i) (same_test i (length rs))
    ∙ ap (λ m. nat_eq (length rs) i || reaches (r ∷ rs) m i) last
    ∙ sym (or_false (nat_eq (length rs) i || reaches (r ∷ rs) (length rs) i))

-- ---- what the rules see

-- touched is touched
touched_same : (rs : List Reading) (m : ℕ) (o : Option Reading)
    → lists_redacted rs m o ≡ lists_passing (is_redacted rs m) o
touched_same rs m None = refl
touched_same rs m (Some r) = refl

-- a manifest stands the same to another
stands_same : (rs : List Reading) (i : ℕ) (o : Option ℕ)
    → place_standing rs i o ≡ place_standing_by (is_reached rs) rs i o
stands_same rs i None = refl
stands_same rs i (Some m) =
    ap (λ b. cond (nat_lt m i) (earlier_standing b (slice_get rs m)) later) (touched_same rs m (slice_get rs m))

-- what holds of all places holds of each
pub downward_each : (f : ℕ → List Test) (n i : ℕ) → AllByRecursion Holds (downward f n) → i < n
    → AllByRecursion Holds (f i)
downward_each f zero i h lt = absurd (omega arith)
downward_each f (suc n) i h lt =
    ⊎_elim (λ e. subst (λ k. AllByRecursion Holds (f k)) (sym e) (front (f n) (downward f n) h))
    (λ other. downward_each f n i (back (f n) (downward f n) h) (omega (arith, other))) (cases_eq i n)

-- the rules of each reached manifest hold of it as no longer the active one
pub place_hold : (hash : Alg → List ℕ → List ℕ) (rs : List Reading)
    → AllHold (chain_tests (unjudged_tests hash) rs) → HoldBy hash (is_reached rs) rs
place_hold hash rs h i r reached is =
    let place : AllByRecursion Holds (place_tests (unjudged_tests hash) rs i) =
    downward_each (place_tests (unjudged_tests hash) rs) (length rs) i
    (all_each (chain_tests (unjudged_tests hash) rs) h) (slice_get_within rs i r is) in
    let at : AllByRecursion Holds (unjudged_tests hash (seen_at rs i r)) =
    subst (λ o. AllByRecursion Holds (tests_of (unjudged_tests hash) rs i o)) is
    (subst (λ b. AllByRecursion Holds (cond b (tests_of (unjudged_tests hash) rs i (slice_get rs i)) [])) reached place) in
    let standing : standing_of rs i ≡ standing_by (is_reached rs) rs i =
    fun_ext (λ label. stands_same rs i (place_of rs label)) in
    subst
    (λ (f : List ℕ → Standing). AllHold (unjudged_tests hash (record { own = r; is_active = false; is_redacted = is_redacted rs i; standing = f })))
    standing
    (when_inactive hash (seen_at rs i r) (all_hold (unjudged_tests hash (seen_at rs i r)) at))

-- the chain of a store is rooted at its last manifest
pub store_rooted : StoreIsRooted
store_rooted hash rs differ kinds h = record {
  differ = differ;
  kinds = kinds;
  within = last_within rs;
  holds = subst (λ (f : ℕ → Bool). HoldBy hash f rs) (fun_ext (λ i. last_active rs i)) (place_hold hash rs h);
}
