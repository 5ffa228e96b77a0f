-- Each row of the table costs what is needed, and has two entries only where one isn't enough.
use Rattle.std.proofs.Common.{◌≡◌, ◌≢◌, ◌⊎◌, inl, inr, ℕ, ◌+◌, ◌-◌, ◌<◌, ◌≤◌, Option, Some, None, refl, sym, ap, ◌∙◌, arith}
use Rattle.std.specs.Option.{MatchOption}
use Rattle.std.proofs.lemmas.Bool.Decides.{nat_tests}
use Rattle.c2_pad.specs.declared.types.Fill.{Fill}
use Rattle.c2_pad.specs.Fill.{fill_cost, HasNoFill, IsFill, FillsAreExact, TwoOnlyWhereNeeded}
use Rattle.c2_pad.proofs.Costs.{one_cost, two_cost}
use Rattle.c2_pad.proofs.Rows.{by_rows}
use Rattle.c2_spec.proofs.CborHeadLengths.{head_len, head_short}

-- a head of two bytes
head_2 : (n : ℕ) → 24 ≤ n → n < 256 → head_len n ≡ 2
head_2 n ge lt = grind (arith, nat_tests, ge, lt)

-- a head of three bytes
head_3 : (n : ℕ) → 256 ≤ n → n < 65536 → head_len n ≡ 3
head_3 n ge lt = grind (arith, nat_tests, ge, lt)

-- a head of five bytes
head_5 : (n : ℕ) → 65536 ≤ n → n < 4294967296 → head_len n ≡ 5
head_5 n ge lt = grind (arith, nat_tests, ge, lt)

-- a need that has a fill
has_fill : (need : ℕ) → (need ≡ 0) ⊎ (5 ≤ need) → need ≤ 1048576 → HasNoFill need → ⊥
has_fill need some most (inl few) = elim some [ inl e ↦ omega (arith, few.0, e) | inr ge ↦ omega (arith, few.1, ge) ]
has_fill need some most (inr many) = omega (arith, most, many)

-- what is said of each row
abbrev Costs : ℕ → Option Fill → Type 0
Costs need f = MatchOption f (HasNoFill need) (IsFill need)

-- a first entry alone, whose head has so many bytes
alone : (need n head : ℕ) → head_len n ≡ head → need ≡ 4 + (head + n) → 5 ≤ need → need ≤ 1048576
    → Costs need (Some (record { pad = Some n; pad2 = None }))
alone need n head is at ge most =
    record { cost = omega (arith, one_cost n, is, at); some = has_fill need (inr ge) most }

-- a first entry whose head has so many bytes, and an empty one
with_second : (need n head : ℕ) → head_len n ≡ head → need ≡ 10 + (head + n) → need ≤ 1048576
    → Costs need (Some (record { pad = Some n; pad2 = Some 0 }))
with_second need n head is at most =
    record
    { cost = omega (arith, two_cost n 0, is, at, head_short 0 (omega arith)); some = has_fill need (inr (omega (arith, at))) most }

-- the rows cost what is needed
pub exact : FillsAreExact
exact = by_rows Costs (record {
  nothing = record { cost = refl; some = has_fill 0 (inl refl) (omega arith) };
  too_few = λ need ge le. inl (ge, le);
  heads_of_1 = λ need ge le. let n = need - 5 in alone need n 1 (head_short n (omega arith)) (omega arith) ge (omega arith);
  at_29 = with_second 29 18 1 (head_short 18 (omega arith)) (omega arith) (omega arith);
  heads_of_2 = λ need ge le. let n = need - 6 in alone need n 2 (head_2 n (omega arith) (omega arith)) (omega arith) (omega arith) (omega arith);
  at_262 = with_second 262 250 2 (head_2 250 (omega arith) (omega arith)) (omega arith) (omega arith);
  heads_of_3 = λ need ge le. let n = need - 7 in alone need n 3 (head_3 n (omega arith) (omega arith)) (omega arith) (omega arith) (omega arith);
  at_65543 = with_second 65543 65530 3 (head_3 65530 (omega arith) (omega arith)) (omega arith) (omega arith);
  at_65544 = with_second 65544 65531 3 (head_3 65531 (omega arith) (omega arith)) (omega arith) (omega arith);
  heads_of_5 = λ need ge le. let n = need - 9 in alone need n 5 (head_5 n (omega arith) (omega arith)) (omega arith) (omega arith) (omega arith);
  too_many = λ need more. inr more;
})

-- ---- where one entry isn't enough

-- what is said of each row: if the fill has a second entry, no first entry alone costs so much
abbrev NeedsTwo : ℕ → Option Fill → Type 0
NeedsTwo need o =
    (f : Fill) (second : ℕ) → o ≡ Some f → f.pad2 ≡ Some second → (zeros : ℕ) → fill_cost
    (record { pad = Some zeros; pad2 = None }) ≢ need

-- a row without a second entry
without : (need : ℕ) (g : Fill) → g.pad2 ≡ None → NeedsTwo need (Some g)
without need g none f second is has n e =
    let same : g ≡ f = cc (is) in
    let bad : None ≡ Some second = sym none ∙ ap (λ (h : Fill). h.pad2) same ∙ has in
    absurd (cc (bad))

-- a row without a fill
of_none : (need : ℕ) → NeedsTwo need None
of_none need f second is = absurd (cc (is))

-- a row whose need no head fits
between : (need : ℕ) (o : Option Fill) → ((n : ℕ) → 4 + (head_len n + n) ≢ need) → NeedsTwo need o
between need o never f second is has n e = never n (sym (one_cost n) ∙ e)

-- the rows have two entries only where one isn't enough
pub two_where_needed : TwoOnlyWhereNeeded
two_where_needed = by_rows NeedsTwo (record {
  nothing = without 0 _ refl;
  too_few = λ need ge le. of_none need;
  heads_of_1 = λ need ge le. without need _ refl;
  at_29 = between 29 _ (λ n e. grind (arith, nat_tests, e));
  heads_of_2 = λ need ge le. without need _ refl;
  at_262 = between 262 _ (λ n e. grind (arith, nat_tests, e));
  heads_of_3 = λ need ge le. without need _ refl;
  at_65543 = between 65543 _ (λ n e. grind (arith, nat_tests, e));
  at_65544 = between 65544 _ (λ n e. grind (arith, nat_tests, e));
  heads_of_5 = λ need ge le. without need _ refl;
  too_many = λ need more. of_none need;
})
