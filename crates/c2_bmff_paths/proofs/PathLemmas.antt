-- Texts of paths, a byte or a step at a time.
use Rattle.std.proofs.Common.{◌≡◌, ℕ, zero, suc, ◌+◌, ◌-◌, ◌*◌, ◌<◌, ◌≤◌, Bool, true, false, not, cond, ◌&&◌, ◌==◌, leb, List, [], ◌∷◌, ◌++◌, length, get_or, take, drop, option_map, Option, Some, None, refl, sym, ap, ◌∙◌, arith, append_assoc, append-nil}
use Rattle.std.specs.Char.{is_ascii_digit, digit_value}
use Rattle.std.specs.Str.{bytes_eq}
use Rattle.std.proofs.Math.Seq.{drop-length}
use Rattle.c2_spec.proofs.CborEach.{after}
use Rattle.c2_spec.specs.Cbor.Fields.{joined}
use Rattle.std.specs.List.{list_all}
use Rattle.std.specs.Str.Parse.{digits_value}
use Rattle.std.proofs.lemmas.Bool.{and_from, and_parts, ne_eqb, le-leb, lt-leb}
use Rattle.std.proofs.lemmas.Bool.Decides.{nat_tests}
use Rattle.std.proofs.lemmas.Int.Digits.{digits_value_more}
use Rattle.std.proofs.lemmas.List.{drop_more, drop_all, take_all}
use Rattle.std.proofs.lemmas.List.Folds.{list_all_more}
use Rattle.std.proofs.lemmas.Str.Parse.{digits_value-take-le}
use Rattle.c2_spec.specs.Bmff.Paths.{PathStep, each_step, enters_other, is_entered, max_child_index, nth_number, nth_of_text, step_of}
use Rattle.c2_bmff_paths.specs.PathTexts.{number_of_digits}

-- the value of a digit
worth : (b : ℕ) → is_ascii_digit b ≡ true → digit_value b ≡ b - 48
worth b h = grind (arith, nat_tests)

-- one more digit
pub next_value : (ds : List ℕ) (i value : ℕ) → i < length ds → is_ascii_digit (get_or ds i 0) ≡ true
    → value ≡ digits_value 10 (take i ds) → value * 10 + (get_or ds i 0 - 48) ≡ digits_value 10 (take (i + 1) ds)
next_value ds i value inside digit so_far =
    sym
    (digits_value_more 10 ds i inside ∙ ap (λ v. v * 10 + digit_value (get_or ds i 0)) (sym so_far) ∙ ap (λ v. value * 10 + v) (worth (get_or ds i 0) digit))

-- one more is a digit
pub next_digit : (ds : List ℕ) (i : ℕ) → i < length ds → is_ascii_digit (get_or ds i 0) ≡ true
    → list_all is_ascii_digit (take i ds) ≡ true → list_all is_ascii_digit (take (i + 1) ds) ≡ true
next_digit ds i inside digit so_far = list_all_more is_ascii_digit ds i 0 inside ∙ and_from _ _ so_far digit

-- the number where four tests pass
abbrev number_if : Bool → Bool → Bool → Bool → ℕ → Option ℕ
number_if a b c d n = cond (a && b && c && d) (Some n) None

-- the second fails, and the last
second_fails : (a c d : Bool) (n : ℕ) → number_if a false c d n ≡ None
second_fails true c d n = refl
second_fails false c d n = refl

-- where the last of the four tests fails, there is no number
last_fails : (a b c : Bool) (n : ℕ) → number_if a b c false n ≡ None
last_fails true true true n = refl
last_fails true true false n = refl
last_fails true false c n = refl
last_fails false b c n = refl

-- by these tests
by_tests : (ds : List ℕ)
    → number_of_digits ds ≡ number_if (list_all is_ascii_digit ds) (not (get_or ds 0 0x30 == 0x30)) (leb 1 (digits_value 10 ds)) (leb (digits_value 10 ds) max_child_index) (digits_value 10 ds)
by_tests ds = refl

-- a leading zero, or no digit
pub leading_zero : (ds : List ℕ) → get_or ds 0 0x30 ≡ 0x30 → number_of_digits ds ≡ None
leading_zero ds e =
    by_tests ds
    ∙ ap
    (λ (b : ℕ). number_if (list_all is_ascii_digit ds) (not (b == 0x30)) (leb 1 (digits_value 10 ds)) (leb (digits_value 10 ds) max_child_index) (digits_value 10 ds))
    e
    ∙ second_fails (list_all is_ascii_digit ds) _ _ _

-- a number that is too great after some digits
pub too_great : (ds : List ℕ) (i value : ℕ) → value ≡ digits_value 10 (take i ds) → max_child_index < value
    → number_of_digits ds ≡ None
too_great ds i value e great =
    let more : digits_value 10 (take i ds) ≤ digits_value 10 ds = digits_value-take-le 10 ds i (omega arith) in
    by_tests ds
    ∙ ap
    (λ t. number_if (list_all is_ascii_digit ds) (not (get_or ds 0 0x30 == 0x30)) (leb 1 (digits_value 10 ds)) t (digits_value 10 ds))
    (lt-leb (digits_value 10 ds) max_child_index (omega (arith, more, e, great)))
    ∙ last_fails (list_all is_ascii_digit ds) _ _ _

-- a digit but zero is one or more
least_digit : (b : ℕ) → is_ascii_digit b ≡ true → (b == 48) ≡ false → 1 ≤ digit_value b
least_digit b h n = grind (arith, nat_tests)

-- all are digits, and the first isn't zero
pub all_digits : (ds : List ℕ) (i value : ℕ) → length ds ≤ i → (length ds == 0) ≡ false → (get_or ds 0 0 ≡ 48 → ⊥)
    → list_all is_ascii_digit (take i ds) ≡ true → value ≡ digits_value 10 (take i ds) → value ≤ max_child_index
    → Some value ≡ number_of_digits ds
all_digits [] i value end some first all e small = absurd (cc (some))
all_digits (x ∷ xs) i value end some first all e small =
    let other : (x == 48) ≡ false = ne_eqb x 48 first in
    let whole : take i (x ∷ xs) ≡ x ∷ xs = take_all i (x ∷ xs) end in
    let digits : list_all is_ascii_digit (x ∷ xs) ≡ true = ap (list_all is_ascii_digit) (sym whole) ∙ all in
    let is : value ≡ digits_value 10 (x ∷ xs) = e ∙ ap (digits_value 10) whole in
    let least : digits_value 10 (take 1 (x ∷ xs)) ≤ digits_value 10 (x ∷ xs) =
    digits_value-take-le 10 (x ∷ xs) 1 (omega arith) in
    let here : 1 ≤ digit_value x =
    least_digit x (and_parts (is_ascii_digit x) (list_all is_ascii_digit xs) digits).0 other in
    let one : 1 ≤ digits_value 10 (x ∷ xs) = omega (arith, least, here) in
    sym (by_tests (x ∷ xs) ∙ ap (λ t. number_if t (not (x == 0x30)) (leb 1 (digits_value 10 (x ∷ xs))) (leb (digits_value 10 (x ∷ xs)) max_child_index) (digits_value 10 (x ∷ xs))) digits
    ∙ ap
    (λ t. number_if true (not t) (leb 1 (digits_value 10 (x ∷ xs))) (leb (digits_value 10 (x ∷ xs)) max_child_index) (digits_value 10 (x ∷ xs)))
    other
    ∙ ap (λ t. number_if true true t (leb (digits_value 10 (x ∷ xs)) max_child_index) (digits_value 10 (x ∷ xs)))
    (le-leb 1 (digits_value 10 (x ∷ xs)) one)
    ∙ ap (λ t. number_if true true true t (digits_value 10 (x ∷ xs)))
    (le-leb (digits_value 10 (x ∷ xs)) max_child_index (omega (arith, is, small)))
    ∙ ap Some (sym is))

-- ---- what stands after a type

-- the last byte, by itself
last_is : (bs : List ℕ) → 0 < length bs
    → bytes_eq (drop (length bs - 1) bs) (0x5D ∷ []) ≡ (get_or bs (length bs - 1) 0 == 0x5D)
last_is bs some =
    let end : length bs - 1 + 1 ≡ length bs = omega (arith, some) in
    ap (λ (xs : List ℕ). bytes_eq xs (0x5D ∷ []))
    (drop_more bs (length bs - 1) 0 (omega arith) ∙ ap (λ (ys : List ℕ). get_or bs (length bs - 1) 0 ∷ ys) (ap (λ n. drop n bs) end ∙ drop-length bs))
    ∙ and_true (get_or bs (length bs - 1) 0 == 0x5D)
  where
    and_true : (b : Bool) → (b && true) ≡ b
    and_true true = refl
    and_true false = refl

-- a number that is neither 0 nor 1
pub two_or_more : (n : ℕ) → (n == 0) ≡ false → (n ≡ 1 → ⊥) → 2 ≤ n
two_or_more zero z o = absurd (cc (z))
two_or_more (suc zero) z o = absurd (o refl)
two_or_more (suc (suc n)) z o = omega arith

-- the number between brackets
pub nth_between : (text : List ℕ) (last : ℕ) → 2 ≤ length text → last ≡ length text - 1 → get_or text 0 0 ≡ 0x5B
    → get_or text last 0 ≡ 0x5D → nth_of_text text ≡ option_map Some (number_of_digits (take (last - 1) (drop 1 text)))
nth_between [] last two e first close = absurd (omega arith)
nth_between (b ∷ bs) last two e first close =
    let at : last ≡ suc (length bs - 1) = omega (arith, e, two) in
    let n : last - 1 ≡ length bs - 1 = omega (arith, at) in
    let yes : (get_or bs (length bs - 1) 0 == 0x5D) ≡ true =
    ap (λ (x : ℕ). x == 0x5D) (ap (λ n. get_or (b ∷ bs) n 0) (sym at) ∙ close) in
    ap
    (λ t. cond ((b == 0x5B) && t) (nth_number (digits_value 10 (take (length bs - 1) bs)) (take (length bs - 1) bs)) None)
    (last_is bs (omega (arith, two)) ∙ yes)
    ∙ ap
    (λ (x : ℕ). cond ((x == 0x5B) && true) (nth_number (digits_value 10 (take (length bs - 1) bs)) (take (length bs - 1) bs)) None)
    first
    ∙ within (digits_value 10 (take (length bs - 1) bs)) (take (length bs - 1) bs) refl
    ∙ ap (λ n. option_map Some (number_of_digits (take n bs))) (sym n)
  where
    mapped : (t : Bool) (n : ℕ) → cond t (Some (Some n)) None ≡ option_map Some (cond t (Some n) None)
    mapped true n = refl
    mapped false n = refl

    within : (k : ℕ) (ds : List ℕ) → k ≡ digits_value 10 ds → nth_number k ds ≡ option_map Some (number_of_digits ds)
    within k ds e =
        ap (λ n. nth_number n ds) e
        ∙ mapped
        (list_all is_ascii_digit ds && not (get_or ds 0 0x30 == 0x30) && leb 1 (digits_value 10 ds) && leb (digits_value 10 ds) max_child_index)
        (digits_value 10 ds)

-- ---- steps

-- one more step after those that were read
onto : (found : List PathStep) (x : PathStep) (rest : Option (List PathStep))
    → after found (joined (Some x) rest) ≡ after (found ++ x ∷ []) rest
onto found x None = refl
onto found x (Some more) = ap Some (sym (append_assoc found (x ∷ []) more))

-- a part and those after it
step_here : (parts : List (List ℕ)) (i : ℕ) (part : List ℕ) → (i < length parts) × (part ≡ get_or parts i part)
    → each_step (drop i parts) ≡ joined (step_of part) (each_step (drop (i + 1) parts))
step_here parts i part h =
    ap each_step (drop_more parts i part h.0) ∙ ap (λ p. joined (step_of p) (each_step (drop (i + 1) parts))) (sym h.1)

-- a turn of the loop that reads a step
pub step_next : (parts : List (List ℕ)) (i : ℕ) (part : List ℕ) (x : PathStep) (found : List PathStep)
    → (i < length parts) × (part ≡ get_or parts i part) → each_step parts ≡ after found (each_step (drop i parts))
    → Some x ≡ step_of part → each_step parts ≡ after (found ++ x ∷ []) (each_step (drop (i + 1) parts))
step_next parts i part x found h so_far here =
    so_far
    ∙ ap (after found) (step_here parts i part h ∙ ap (λ s. joined s (each_step (drop (i + 1) parts))) (sym here))
    ∙ onto found x (each_step (drop (i + 1) parts))

-- a turn that reads none
pub step_none : (parts : List (List ℕ)) (i : ℕ) (part : List ℕ) (found : List PathStep)
    → (i < length parts) × (part ≡ get_or parts i part) → each_step parts ≡ after found (each_step (drop i parts))
    → None ≡ step_of part → None ≡ each_step parts
step_none parts i part found h so_far here =
    sym
    (so_far ∙ ap (after found) (step_here parts i part h ∙ ap (λ s. joined s (each_step (drop (i + 1) parts))) (sym here)))

-- the end of the loop
pub steps_all : (parts : List (List ℕ)) (i : ℕ) (found : List PathStep) → length parts ≤ i
    → each_step parts ≡ after found (each_step (drop i parts)) → Some found ≡ each_step parts
steps_all parts i found end so_far =
    sym
    (so_far ∙ ap (λ (ps : List (List ℕ)). after found (each_step ps)) (drop_all i parts end) ∙ ap Some (append-nil found))

-- ---- paths that enter other boxes

-- the first of two or more steps
pub enters_next : (rest : List PathStep) (step : PathStep) → 2 ≤ length rest → step ≡ get_or rest 0 step
    → enters_other rest ≡ cond (is_entered step.kind) (enters_other (drop 1 rest)) true
enters_next [] step two e = absurd (omega arith)
enters_next (s ∷ []) step two e = absurd (omega arith)
enters_next (s ∷ n ∷ ss) step two e =
    ap (λ (p : PathStep). cond (is_entered p.kind) (enters_other (n ∷ ss)) true) (sym e)

-- one step or none
pub enters_end : (rest : List PathStep) → length rest < 2 → enters_other rest ≡ false
enters_end [] few = refl
enters_end (s ∷ []) few = refl
enters_end (s ∷ n ∷ ss) few = absurd (omega arith)
