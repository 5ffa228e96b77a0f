-- Tests one after the other, and what a build answers behind its stages.
use Rattle.std.proofs.Common.{◌≡◌, Bool, true, false, cond, List, [], ◌∷◌, ◌++◌, Option, Some, None, refl, ◌∙◌, ap}
use Rattle.std.specs.Prelude.{Result, Ok, Err}
use Rattle.c2_lemmas.specs.Stages.{Then}
use Rattle.c2_lemmas.proofs.Stages.{then_first, then_next}
use Rattle.c2_build_refusals.specs.Refusals.{BuildTest, first_refusal}
use Rattle.c2_build_refusals.specs.declared.error.BuildError.{BuildError}
use Rattle.c2_build_refusals.specs.Kinds.{ComesAs, HasOutcome, WithoutFault}
use Rattle.c2_build_refusals.proofs.Outside.{outside_map}
use Rattle.std.specs.Option.{option_or}

-- ---- tests that pass

-- where no test of two lists fails, none of either does
pub none_of_both : (xs ys : List BuildTest) → first_refusal (xs ++ ys) ≡ None
    → (first_refusal xs ≡ None) × (first_refusal ys ≡ None)
none_of_both [] ys h = (refl, h)
none_of_both (t ∷ ts) ys h = by t.fails (none_of_both ts ys) h
  where
    by : (b : Bool) → (first_refusal (ts ++ ys) ≡ None → (first_refusal ts ≡ None) × (first_refusal ys ≡ None))
        → cond b (Some t.refusal) (first_refusal (ts ++ ys)) ≡ None
        → (cond b (Some t.refusal) (first_refusal ts) ≡ None) × (first_refusal ys ≡ None)
    by true rest e = absurd (cc (e))
    by false rest e = rest e

-- a test that fails doesn't pass
pub none_fails : (b : Bool) (e : BuildError) (rest : Option BuildError) → cond b (Some e) rest ≡ None
    → (b ≡ false) × (rest ≡ None)
none_fails true e rest h = absurd (cc (h))
none_fails false e rest h = (refl, h)

-- ---- what comes of stages

-- an error of the first stage
pub comes_first :
    {A B : Type 0} (First : Result A BuildError → Type 0) (Next : A → Result B BuildError → Type 0) (e : BuildError)
    → WithoutFault e (First (Err e)) → WithoutFault e (Then First Next (Err e))
comes_first First Next e h = outside_map e (then_first First Next e) h

-- an answer of the second
pub comes_next :
    {A B : Type 0} (First : Result A BuildError → Type 0) (Next : A → Result B BuildError → Type 0) (a : A)
    (r : Result B BuildError)
    → First (Ok a) → HasOutcome (Next a) r → HasOutcome (Then First Next) r
comes_next First Next a (Ok b) h k = then_next First Next a (Ok b) h k
comes_next First Next a (Err e) h k = outside_map e (then_next First Next a (Err e) h) k

-- what comes behind a stage that passed is the outcome, seen so
pub as_next :
    {A B C : Type 0} (Fits : C → B → Type 0) (First : Result A BuildError → Type 0)
    (Next : A → Result B BuildError → Type 0) (a : A) (r : Result C BuildError)
    → First (Ok a) → ComesAs Fits (Next a) r → ComesAs Fits (Then First Next) r
as_next Fits First Next a (Ok c) h k = (k.0, then_next First Next a (Ok k.0) h k.1, k.2)
as_next Fits First Next a (Err e) h k = outside_map e (then_next First Next a (Err e) h) k

-- ---- tests of two lists

-- of two lists of tests the first refusal is that of the first list, else that of the second
pub first_of_both : (xs ys : List BuildTest)
    → first_refusal (xs ++ ys) ≡ option_or (first_refusal xs) (first_refusal ys)
first_of_both [] ys = refl
first_of_both (t ∷ ts) ys = by t.fails (first_of_both ts ys)
  where
    by : (b : Bool) → first_refusal (ts ++ ys) ≡ option_or (first_refusal ts) (first_refusal ys)
        → cond b (Some t.refusal) (first_refusal (ts ++ ys)) ≡ option_or (cond b (Some t.refusal) (first_refusal ts)) (first_refusal ys)
    by true h = refl
    by false h = h

-- a test of the first list fails
pub first_fails : (xs ys : List BuildTest) (e : BuildError) → first_refusal xs ≡ Some e
    → first_refusal (xs ++ ys) ≡ Some e
first_fails xs ys e h = first_of_both xs ys ∙ ap (λ (o : Option BuildError). option_or o (first_refusal ys)) h

-- none of the first list does
pub first_passes : (xs ys : List BuildTest) (o : Option BuildError) → first_refusal xs ≡ None → first_refusal ys ≡ o
    → first_refusal (xs ++ ys) ≡ o
first_passes xs ys o h k = first_of_both xs ys ∙ ap (λ (p : Option BuildError). option_or p (first_refusal ys)) h ∙ k
