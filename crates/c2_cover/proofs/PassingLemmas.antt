-- Laws of how many positions pass a test.
use Rattle.std.proofs.Common.{◌≡◌, ℕ, zero, suc, ◌+◌, ◌-◌, ◌<◌, ◌≤◌, Bool, true, false, cond, not, ◌&&◌, List, [], ◌∷◌, length, refl, sym, ap, ◌∙◌, arith}
use Rattle.std.specs.Prelude.{filter}
use Rattle.std.specs.List.{range_with_len}
use Rattle.std.proofs.lemmas.List.Filters.{length-filter_both}
use Rattle.std.proofs.lemmas.List.FromFn.{length-range_with_len}
use Rattle.c2_cover.specs.Covers.{kept_count}
use Rattle.c2_cover.specs.Counted.{passing}

-- the next position, where it passes, and then the others
pub passing_next : (p : ℕ → Bool) (at n : ℕ)
    → passing p at (suc n) ≡ cond (p at) (suc (passing p (at + 1) n)) (passing p (at + 1) n)
passing_next p at n = go (p at)
  where
    go : (b : Bool)
        → length (cond b (at ∷ filter p (range_with_len (at + 1) n)) (filter p (range_with_len (at + 1) n))) ≡ cond b (suc (passing p (at + 1) n)) (passing p (at + 1) n)
    go true = refl
    go false = refl

-- all pass
pub passing_all : (p : ℕ → Bool) (at n : ℕ) → ((i : ℕ) → at ≤ i → i < at + n → p i ≡ true) → passing p at n ≡ n
passing_all p at zero h = refl
passing_all p at (suc n) h =
    passing_next p at n
    ∙ ap (λ b. cond b (suc (passing p (at + 1) n)) (passing p (at + 1) n)) (h at (omega arith) (omega arith))
    ∙ ap suc (passing_all p (at + 1) n (λ i l m. h i (omega arith) (omega arith)))

-- none passes
pub passing_none : (p : ℕ → Bool) (at n : ℕ) → ((i : ℕ) → at ≤ i → i < at + n → p i ≡ false) → passing p at n ≡ 0
passing_none p at zero h = refl
passing_none p at (suc n) h =
    passing_next p at n
    ∙ ap (λ b. cond b (suc (passing p (at + 1) n)) (passing p (at + 1) n)) (h at (omega arith) (omega arith))
    ∙ passing_none p (at + 1) n (λ i l m. h i (omega arith) (omega arith))

-- tests that agree
pub passing_same : (p q : ℕ → Bool) (at n : ℕ) → ((i : ℕ) → at ≤ i → i < at + n → p i ≡ q i)
    → passing p at n ≡ passing q at n
passing_same p q at zero h = refl
passing_same p q at (suc n) h =
    passing_next p at n
    ∙ ap (λ b. cond b (suc (passing p (at + 1) n)) (passing p (at + 1) n)) (h at (omega arith) (omega arith))
    ∙ ap (λ k. cond (q at) (suc k) k) (passing_same p q (at + 1) n (λ i l m. h i (omega arith) (omega arith)))
    ∙ sym (passing_next q at n)

-- positions in two parts
pub passing_add : (p : ℕ → Bool) (at m n : ℕ) → passing p at (m + n) ≡ passing p at m + passing p (at + m) n
passing_add p at zero n = let e : at ≡ at + 0 = omega arith in let z : 0 + n ≡ n = omega arith in let y : passing p (at + 0) n ≡ 0 + passing p (at + 0) n = omega arith in ap (passing p at) z ∙ ap (λ k. passing p k n) e ∙ y
passing_add p at (suc m) n =
    let e : at + 1 + m ≡ at + suc m = omega arith in
    let s : suc m + n ≡ suc (m + n) = omega arith in
    ap (passing p at) s ∙ passing_next p at (m + n)
    ∙ ap (λ k. cond (p at) (suc k) k)
    (passing_add p (at + 1) m n ∙ ap (λ k. passing p (at + 1) m + passing p k n) e)
    ∙ go (p at) (passing p (at + 1) m) (passing p (at + suc m) n)
    ∙ ap (λ k. k + passing p (at + suc m) n) (sym (passing_next p at m))
  where
    go : (b : Bool) (x y : ℕ) → cond b (suc (x + y)) (x + y) ≡ cond b (suc x) x + y
    go true x y = omega arith
    go false x y = refl

-- the positions up to `mid` and those from it on
pub passing_split : (p : ℕ → Bool) (at mid end : ℕ) → at ≤ mid → mid ≤ end
    → passing p at (end - at) ≡ passing p at (mid - at) + passing p mid (end - mid)
passing_split p at mid end l m =
    let a : end - at ≡ (mid - at) + (end - mid) = omega arith in
    let b : at + (mid - at) ≡ mid = omega arith in
    ap (passing p at) a ∙ passing_add p at (mid - at) (end - mid)
    ∙ ap (λ k. passing p at (mid - at) + passing p k (end - mid)) b

-- no more pass than there are
pub passing_le : (p : ℕ → Bool) (at n : ℕ) → passing p at n ≤ n
passing_le p at zero = omega arith
passing_le p at (suc n) = rw (passing_next p at n) (go (p at) (passing_le p (at + 1) n))
  where
    go : (b : Bool) → passing p (at + 1) n ≤ n → cond b (suc (passing p (at + 1) n)) (passing p (at + 1) n) ≤ suc n
    go true l = omega (arith, l)
    go false l = omega (arith, l)

-- the positions that aren't excluded, by those that are
pub kept_others : (excludes : ℕ → Bool) (size : ℕ)
    → kept_count excludes 0 size ≡ size - length (filter excludes (range_with_len 0 size))
kept_others excludes size =
    let both : length (filter excludes (range_with_len 0 size)) + kept_count excludes 0 size ≡ length (range_with_len 0 size) =
    length-filter_both excludes (λ i. not (excludes i)) (λ i. refl) (range_with_len 0 size) in
    let all : length (range_with_len 0 size) ≡ size = length-range_with_len 0 size in
    omega (arith, both, all)

-- two tests, one after the other
pub filter_twice : (p q : ℕ → Bool) (xs : List ℕ) → filter q (filter p xs) ≡ filter (λ i. p i && q i) xs
filter_twice p q [] = refl
filter_twice p q (x ∷ xs) = go (p x) ∙ ap (λ (ys : List ℕ). cond (p x && q x) (x ∷ ys) ys) (filter_twice p q xs)
  where
    go : (a : Bool)
        → filter q (cond a (x ∷ filter p xs) (filter p xs)) ≡ cond (a && q x) (x ∷ filter q (filter p xs)) (filter q (filter p xs))
    go true = refl
    go false = refl
