-- What is found out of manifests, one by one.
use Rattle.std.proofs.Common.{◌≡◌, ◌⊎◌, inl, inr, ℕ, zero, suc, ◌+◌, ◌<◌, Bool, List, [], ◌∷◌, ◌++◌, length, get_or, Option, Some, None, IfSome, slice_get, option_and_then, refl, sym, ap, ◌∙◌, subst, arith}
use Rattle.std.proofs.lemmas.Option.{slice_get-get_or, same_Some}
use Rattle.c2_spec.specs.declared.digest.Alg.{Alg}
use Rattle.c2_rules.specs.Chains.{is_touched}
use Rattle.c2_rules.specs.Readings.{Reading}
use Rattle.c2_check_facts.specs.Facts.{ChildFact, IsFactOf, IsFactAt, AreFacts}

-- what stands in a list with one element more stood there before, or is that element in the last place
pushed : (xs : List (Option ChildFact)) (x : Option ChildFact) (m : ℕ) (y : Option ChildFact)
    → slice_get (xs ++ x ∷ []) m ≡ Some y → (slice_get xs m ≡ Some y) ⊎ ((m ≡ length xs) × (x ≡ y))
pushed [] x zero y at = inr (refl, same_Some x y at)
pushed [] x (suc m) y at = absurd cc
pushed (z ∷ xs) x zero y at = inl at
pushed (z ∷ xs) x (suc m) y at = later (pushed xs x m y at)
  where
    later : (slice_get xs m ≡ Some y) ⊎ ((m ≡ length xs) × (x ≡ y))
        → (slice_get (z ∷ xs) (suc m) ≡ Some y) ⊎ ((suc m ≡ suc (length xs)) × (x ≡ y))
    later (inl e) = inl e
    later (inr e) = inr (ap suc e.0, e.1)

-- each fact that is kept is true of the manifest at its place
pub record AreRight (hash : Alg → List ℕ → List ℕ) (rs : List Reading) (facts : List (Option ChildFact)) : Type 0 where
  pub each : (m : ℕ) (fact : ChildFact) → slice_get facts m ≡ Some (Some fact) → IsFactAt hash rs m fact

-- in an empty list there is no fact
no_fact : (hash : Alg → List ℕ → List ℕ) (rs : List Reading) (m : ℕ) (fact : ChildFact)
    → slice_get [] m ≡ Some (Some fact) → IsFactAt hash rs m fact
no_fact hash rs m fact at = absurd cc

-- where no facts are kept, none is wrong
pub no_facts : (hash : Alg → List ℕ → List ℕ) (rs : List Reading) (facts : List (Option ChildFact)) → facts ≡ []
    → AreRight hash rs facts
no_facts hash rs facts none =
    subst (λ (xs : List (Option ChildFact)). AreRight hash rs xs) (sym none) (record { each = no_fact hash rs })

-- a fact that is known once the next manifest was looked at was known before, or is that of this manifest
fact_more :
    (hash : Alg → List ℕ → List ℕ) (rs : List Reading) (n : ℕ) (old new : List (Option ChildFact))
    (o : Option ChildFact)
    → AreRight hash rs old → length old ≡ n → IfSome o (λ fact. IsFactAt hash rs n fact) → new ≡ old ++ o ∷ []
    → (m : ℕ) (fact : ChildFact) → slice_get new m ≡ Some (Some fact) → IsFactAt hash rs m fact
fact_more hash rs n old new o h count one is m fact at = by (pushed old o m (Some fact) (sym (ap (λ (xs : List (Option ChildFact)). slice_get xs m) is) ∙ at))
  where
    by : (slice_get old m ≡ Some (Some fact)) ⊎ ((m ≡ length old) × (o ≡ Some fact)) → IsFactAt hash rs m fact
    by (inl before) = h.each m fact before
    by (inr last) =
        subst (λ (k : ℕ). IsFactAt hash rs k fact) (sym (last.0 ∙ count))
        (subst (λ (x : Option ChildFact). IfSome x (λ f. IsFactAt hash rs n f)) last.1 one)

-- where what is known is right, and what is found of the next manifest is too, so is all that is known then
pub facts_more :
    (hash : Alg → List ℕ → List ℕ) (rs : List Reading) (n : ℕ) (old new : List (Option ChildFact))
    (o : Option ChildFact)
    → AreRight hash rs old → length old ≡ n → IfSome o (λ fact. IsFactAt hash rs n fact) → new ≡ old ++ o ∷ []
    → AreRight hash rs new
facts_more hash rs n old new o h count one is = record { each = fact_more hash rs n old new o h count one is }

-- as many facts as manifests, none of which is wrong, are facts about these
pub are_facts : (hash : Alg → List ℕ → List ℕ) (rs : List Reading) (facts : List (Option ChildFact))
    → length facts ≡ length rs → AreRight hash rs facts → AreFacts hash rs facts
are_facts hash rs facts count right = record { count = count; right = right.each }

-- with one manifest more looked at, there is one place more in what is known
pub count_more : (old new : List (Option ChildFact)) (o : Option ChildFact) (n : ℕ) → length old ≡ n
    → new ≡ old ++ o ∷ [] → length new ≡ n + 1
count_more old new o n count is = ap length is ∙ one (old) ∙ ap (λ (k : ℕ). k + 1) count
  where
    one : (xs : List (Option ChildFact)) → length (xs ++ o ∷ []) ≡ length xs + 1
    one [] = refl
    one (x ∷ xs) = let e : suc (length xs + 1) ≡ suc (length xs) + 1 = omega arith in ap suc (one xs) ∙ e

-- what is true of the manifest that was fetched from a place is true of the one at that place
pub fact_at_place :
    (hash : Alg → List ℕ → List ℕ) (rs all : List Reading) (m : ℕ) (own : Reading) (touched : Bool) (fact : ChildFact)
    → m < length rs → all ≡ rs → own ≡ get_or all m own → touched ≡ is_touched rs m → IsFactOf hash touched own fact
    → IsFactAt hash rs m fact
fact_at_place hash rs all m own touched fact lt same at is found =
    let there : slice_get rs m ≡ Some own =
    slice_get-get_or rs m own lt ∙ ap (λ (xs : List Reading). Some (get_or xs m own)) (sym same)
    ∙ ap Some (sym at) in
    subst (λ (o : Option Reading). IfSome o (λ x. IsFactOf hash (is_touched rs m) x fact)) (sym there)
    (subst (λ (b : Bool). IsFactOf hash b own fact) is found)

-- a fact that is known of a place is kept at that place
some_inner : (o : Option (Option ChildFact)) (fact : ChildFact)
    → Some fact ≡ option_and_then (λ (x : Option ChildFact). x) o → o ≡ Some (Some fact)
some_inner None fact e = absurd cc
some_inner (Some None) fact e = absurd cc
some_inner (Some (Some f)) fact e = ap (λ (x : ChildFact). Some (Some x)) (sym (same_Some fact f e))

-- what was found out before of the manifest at a place is true of it
pub fact_known :
    (hash : Alg → List ℕ → List ℕ) (rs : List Reading) (facts : List (Option ChildFact)) (m : ℕ) (fact : ChildFact)
    → AreFacts hash rs facts → Some fact ≡ option_and_then (λ (x : Option ChildFact). x) (slice_get facts m)
    → IsFactAt hash rs m fact
fact_known hash rs facts m fact h e = h.right m fact (some_inner (slice_get facts m) fact e)
