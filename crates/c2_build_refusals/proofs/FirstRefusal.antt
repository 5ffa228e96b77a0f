-- What tests answer is the refusal of the first of them that fails.
use Rattle.std.proofs.Common.{◌≡◌, ℕ, zero, suc, ◌<◌, Bool, true, false, List, [], ◌∷◌, Option, Some, None, slice_get, refl, sym, ap, ◌∙◌, cond, arith}
use Rattle.std.proofs.lemmas.Option.{same_Some}
use Rattle.c2_build_refusals.specs.Refusals.{AllPass, BuildTest, FirstRefusalIsLeast, IsRefusalOf, first_refusal}
use Rattle.c2_build_refusals.specs.declared.error.BuildError.{BuildError}

-- each test before a place passes, also with one more that passes in front
passed_before : (u : BuildTest) (ts : List BuildTest) (k : ℕ) → u.fails ≡ false
    → ((i : ℕ) (t : BuildTest) → i < k → slice_get ts i ≡ Some t → t.fails ≡ false)
    → (i : ℕ) (t : BuildTest) → i < suc k → slice_get (u ∷ ts) i ≡ Some t → t.fails ≡ false
passed_before u ts k passes rest zero t lt at = sym (ap (λ (v : BuildTest). v.fails) (same_Some u t at)) ∙ passes
passed_before u ts k passes rest (suc i) t lt at = rest i t (omega arith) at

-- every test passes, also with one more that passes in front
all_pass : (u : BuildTest) (ts : List BuildTest) → u.fails ≡ false → AllPass ts → AllPass (u ∷ ts)
all_pass u ts passes rest zero t at = sym (ap (λ (v : BuildTest). v.fails) (same_Some u t at)) ∙ passes
all_pass u ts passes rest (suc i) t at = rest i t at

-- a test that passes in front leaves the answer
behind : (u : BuildTest) (ts : List BuildTest) (o : Option BuildError) → u.fails ≡ false → IsRefusalOf ts o
    → IsRefusalOf (u ∷ ts) o
behind u ts None passes h = all_pass u ts passes h
behind u ts (Some e) passes h =
    let first = h.1 in
    (suc h.0, record { fault = first.fault; at_place = first.at_place; fails = first.fails; says = first.says; earlier = passed_before u ts h.0 passes first.earlier })

-- a list answers by its first test, or by the others
by_front : (u : BuildTest) (ts : List BuildTest) (b : Bool) → u.fails ≡ b → IsRefusalOf ts (first_refusal ts)
    → IsRefusalOf (u ∷ ts) (cond b (Some u.refusal) (first_refusal ts))
by_front u ts true fails rest =
    (0, record { fault = u; at_place = refl; fails = fails; says = refl; earlier = λ i t lt at. absurd (omega arith) })
by_front u ts false passes rest = behind u ts (first_refusal ts) passes rest

-- what tests answer is that of the first that fails
pub refusal_is_least : FirstRefusalIsLeast
refusal_is_least [] = λ i t at. absurd (cc (at))
refusal_is_least (u ∷ ts) = by_front u ts u.fails refl (refusal_is_least ts)
