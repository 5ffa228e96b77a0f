-- Numbers and their comparison.
use Rattle.std.proofs.Common.{List, [], ap, arith, false, is_lt, ltb, refl, subst, suc, true, zero, ℕ, ◌++◌, ◌+◌, ◌<◌, ◌∙◌, ◌∷◌, ◌≡◌, ◌≤◌}
use Rattle.std.proofs.lemmas.Bool.{eqb-true}
use Rattle.std.proofs.lemmas.Bool.Decides.{nat_tests}
use Rattle.std.specs.List.{range_with_len}
use Rattle.std.specs.Ordering.{MatchOrdering, ordering_reverse, ordering_then}
use Rattle.std.specs.Prelude.{◌==◌}
use Rattle.std.specs.declared.cmp.Ordering.{Ordering}
use Rattle.std.specs.declared.cmp.Ordering.TheVariants.{Equal, Greater, Less}

-- an order that isn't less
pub lifted : (o : Ordering) (m n : ℕ) → MatchOrdering o (m < n) (m ≡ n) (n < m) → is_lt o ≡ false → n ≤ m
lifted Less m n h e = absurd cc
lifted Equal m n h e = omega arith
lifted Greater m n h e = omega arith

-- an order of a lesser number
pub lowered : (o : Ordering) (m n : ℕ) → MatchOrdering o (m < n) (m ≡ n) (n < m) → m < n → is_lt o ≡ true
lowered Less m n h l = refl
lowered Equal m n h l = let never : ⊥ = omega arith in absurd never
lowered Greater m n h l = let never : ⊥ = omega arith in absurd never

-- a place that is below another is found to be
pub ltb_less : (i n : ℕ) → i < n → ltb i n ≡ true
ltb_less i n lt = grind (arith, nat_tests)

-- a place that isn't below another isn't found to be
pub ltb_not_less : (i n : ℕ) → n ≤ i → ltb i n ≡ false
ltb_not_less i n le = grind (arith, nat_tests)

-- two numbers that differ aren't equal by the test
pub not_equal : (a b : ℕ) → (a ≡ b → ⊥) → (a == b) ≡ false
not_equal a b ne =
    elim (a == b) as (λ t. (a == b) ≡ t → t ≡ false) [ true ↦ λ e. absurd (ne (eqb-true a b e)) | false ↦ λ e. refl ]
    refl

-- where the first value is one, and so is each that follows from it, the second is one
pub one_after : {A B : Type 0} (First : A → Type 0) (Next : A → B → Type 0) → ((a b : A) → First a → First b → a ≡ b)
    → ((a : A) (x y : B) → Next a x → Next a y → x ≡ y) → (x y : B) → (a : A) × First a × Next a x
    → (b : A) × First b × Next b y → x ≡ y
one_after {A} {B} First Next first next x y h k =
    next h.0 x y h.2 (subst (λ (a : A). Next a y) (first k.0 h.0 k.1 h.1) k.2)

-- one more number
pub range_push : (a n : ℕ) → range_with_len a (suc n) ≡ range_with_len a n ++ (a + n) ∷ []
range_push a zero = let e : a ≡ a + 0 = omega arith in ap (λ k. k ∷ []) e
range_push a (suc n) =
    let e : a + 1 + n ≡ a + suc n = omega arith in
    ap (λ (x : List ℕ). a ∷ x) (range_push (a + 1) n ∙ ap (λ k. range_with_len (a + 1) n ++ k ∷ []) e)

-- what isn't less on either side is tied
pub squeezed : (o p s t : Ordering) → is_lt (ordering_then (ordering_then o p) s) ≡ false
    → is_lt (ordering_then (ordering_then (ordering_reverse o) (ordering_reverse p)) t) ≡ false
    → (o ≡ Equal) × (p ≡ Equal) × (is_lt s ≡ false) × (is_lt t ≡ false)
squeezed Less p s t e f = absurd cc
squeezed Greater p s t e f = absurd cc
squeezed Equal Less s t e f = absurd cc
squeezed Equal Greater s t e f = absurd cc
squeezed Equal Equal s t e f = (refl, refl, e, f)

-- two ties leave the third order
pub tied_first : (o p q : Ordering) → o ≡ Equal → p ≡ Equal → is_lt (ordering_then (ordering_then o p) q) ≡ is_lt q
tied_first o p q e f = ap (λ x. is_lt (ordering_then (ordering_then x p) q)) e ∙ ap (λ x. is_lt (ordering_then x q)) f
