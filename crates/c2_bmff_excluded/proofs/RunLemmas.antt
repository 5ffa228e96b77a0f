-- Byte tests joined into runs: joined ones hold of a box exactly where all tests do.
use Rattle.std.proofs.Common.{◌≡◌, ℕ, ◌+◌, ◌-◌, ◌≤◌, ◌<◌, ◌⊎◌, inl, inr, ⊎_elim, max, min, Bool, true, false, not, ◌&&◌, ◌||◌, List, [], ◌∷◌, ◌++◌, length, take, drop, get_or, map, refl, sym, ap, ap₂, subst, ◌∙◌, arith}
use Rattle.std.specs.Prelude.{All, nat_le, nat_eq, bytes_eq}
use Rattle.std.specs.List.{list_all, list_any, AllByRecursion}
use Rattle.std.specs.List.Sorted.{IsPermutation}
use Rattle.std.proofs.lemmas.Bool.{le-leb, lt-leb, cases_lt}
use Rattle.std.proofs.lemmas.List.{append-nil, drop-append-le, drop-drop, drop_all, drop_more, drop_at, length-append, length-drop, length-take-le, map-append, take-append-drop, take-append-le, take_all, take_more, take-take}
use Rattle.std.proofs.lemmas.List.Elements.{All-push, All-weaker, recursion_from_All}
use Rattle.std.proofs.lemmas.List.Folds.{list_all-append, list_all-map, list_all_more}
use Rattle.std.proofs.lemmas.List.Sorted.{list_any-IsPermutation}
use Rattle.std.proofs.lemmas.Slice.Eq.{bytes_eq-Decides}
use Rattle.c2_spec.specs.Bmff.Hash.{ByteTest}
use Rattle.c2_bmff_paths.specs.Exclusions.{byte_test}
use Rattle.c2_bmff_excluded.specs.Marks.{holds_test, stands_at}
use Rattle.c2_bmff_excluded.specs.Runs.{Differ, IsKeyWithin, IsLastWithin, IsRunWithin, Join, holds_last, key_test, last_test, least_test, no_box, run_test}
use Rattle.c2_bmff_rows.specs.declared.row.RootBox.{RootBox}
use Rattle.c2_bmff_excluded.specs.declared.runs.Key.{Key}
use Rattle.c2_bmff_excluded.specs.declared.runs.Last.{Last}
use Rattle.c2_bmff_excluded.specs.declared.runs.Run.{Run}
use Rattle.c2_bmff_rows.proofs.Lists.{piece_of}
use Rattle.c2_lemmas.proofs.Bools.{and_false}

-- ---- tests of which all must hold

-- `true` on the right
pub and_true : (b : Bool) → (b && true) ≡ b
and_true true = refl
and_true false = refl

-- three tests may be joined either way
pub and_join3 : (a b c : Bool) → ((a && b) && c) ≡ (a && (b && c))
and_join3 true b c = refl
and_join3 false b c = refl

-- a longer length with two fronts, and each front with its length
and_lengths : (p q a b : Bool) → p ≡ (q && p) → (p && (a && b)) ≡ ((q && a) && (p && b))
and_lengths false q a b h = sym (and_false (q && a))
and_lengths true true a b h = refl
and_lengths true false a b h = absurd (cc (h))

-- a test twice
and_again : (a c f : Bool) → (a && (c && f)) ≡ ((a && (c && f)) && c)
and_again false c f = refl
and_again true false f = refl
and_again true true f = sym (and_true f)

-- a test twice, before another
and_twice : (a c e : Bool) → ((a && c) && e) ≡ ((a && c) && (c && e))
and_twice false c e = refl
and_twice true false e = refl
and_twice true true e = refl

-- two of these never hold together
and_never : (a b f c e : Bool) → (b && c) ≡ false → ((a && (b && f)) && (c && e)) ≡ false
and_never false b f c e h = refl
and_never true false f c e h = refl
and_never true true f false e h = and_false f
and_never true true f true e h = absurd (cc (h))

-- ---- values that stand in a box

-- a list begins with the bytes of two lists
begins_append : (all xs ys : List ℕ)
    → bytes_eq (take (length (xs ++ ys)) all) (xs ++ ys) ≡ (bytes_eq (take (length xs) all) xs && bytes_eq (take (length ys) (drop (length xs) all)) ys)
begins_append all [] ys = refl
begins_append [] (x ∷ xs) ys = refl
begins_append (a ∷ all) (x ∷ xs) ys =
    ap (λ b. nat_eq a x && b) (begins_append all xs ys)
    ∙ sym
    (and_join3 (nat_eq a x) (bytes_eq (take (length xs) all) xs) (bytes_eq (take (length ys) (drop (length xs) all)) ys))

-- a length with a shorter one
le_with : (n m most : ℕ) → n ≤ m → nat_le m most ≡ (nat_le n most && nat_le m most)
le_with n m most le =
    ⊎_elim
    (λ l. lt-leb m most l ∙ sym (and_false (nat_le n most)) ∙ ap (λ b. nat_le n most && b) (sym (lt-leb m most l)))
    (λ k. ap (λ b. b && nat_le m most) (sym (le-leb n most (omega (arith, le, k))))) (cases_lt most m)

-- a byte test of its offset and its value
abbrev pub test_at : ℕ → List ℕ → ByteTest
test_at offset value = record { offset = offset; value = value }

-- a byte test of this offset and this value holds of a box
abbrev pub holds_at : List ℕ → RootBox → ℕ → List ℕ → Bool
holds_at file r offset value = holds_test file r (record { offset = offset; value = value })

-- a value in two pieces
pub holds_append : (file : List ℕ) (r : RootBox) (offset : ℕ) (xs ys : List ℕ)
    → holds_at file r offset (xs ++ ys) ≡ (holds_at file r offset xs && holds_at file r (offset + length xs) ys)
holds_append file r offset xs ys =
    let size : offset + length (xs ++ ys) ≡ offset + length xs + length ys = omega (arith, length-append xs ys) in
    let place : r.start + offset + length xs ≡ r.start + (offset + length xs) = omega arith in
    let next : drop (length xs) (drop (r.start + offset) file) ≡ drop (r.start + (offset + length xs)) file =
    drop-drop (length xs) (r.start + offset) file ∙ ap (λ n. drop n file) place in
    ap₂ (λ (a b : Bool). a && b) (ap (λ n. nat_le n r.length) size)
    (begins_append (drop (r.start + offset) file) xs ys ∙ ap (λ (zs : List ℕ). bytes_eq (take (length xs) (drop (r.start + offset) file)) xs && bytes_eq (take (length ys) zs) ys) next)
    ∙ and_lengths (nat_le (offset + length xs + length ys) r.length) (nat_le (offset + length xs) r.length)
    (stands_at file (r.start + offset) xs) (stands_at file (r.start + (offset + length xs)) ys)
    (le_with (offset + length xs) (offset + length xs + length ys) r.length (omega arith))

-- different values of one length never stand at one place
never_both : (file : List ℕ) (r : RootBox) (offset : ℕ) (xs ys : List ℕ) → length xs ≡ length ys
    → bytes_eq xs ys ≡ false → (holds_at file r offset xs && holds_at file r offset ys) ≡ false
never_both file r offset xs ys size differ = go (nat_le (offset + length xs) r.length) (bytes_eq (take (length xs) all) xs) (nat_le (offset + length ys) r.length) (bytes_eq (take (length ys) all) ys) refl refl
  where
    all : List ℕ
    all = drop (r.start + offset) file

    go : (m a n b : Bool) → bytes_eq (take (length xs) all) xs ≡ a → bytes_eq (take (length ys) all) ys ≡ b
        → ((m && a) && (n && b)) ≡ false
    go false a n b e f = refl
    go true false n b e f = refl
    go true true false b e f = refl
    go true true true false e f = refl
    go true true true true e f = absurd (
        let first : take (length xs) all ≡ xs = (bytes_eq-Decides (take (length xs) all) xs).0 e in
        let second : take (length ys) all ≡ ys = (bytes_eq-Decides (take (length ys) all) ys).0 f in
        let same : xs ≡ ys = sym first ∙ ap (λ n. take n all) size ∙ second in
        let yes : bytes_eq xs ys ≡ true = (bytes_eq-Decides xs ys).1 same in
        let wrong = sym yes ∙ differ in
        cc (wrong))

-- a value in three pieces
holds_three : (file : List ℕ) (r : RootBox) (offset : ℕ) (xs : List ℕ) (from count : ℕ) → from ≤ length xs
    → holds_at file r offset xs
    ≡ (holds_at file r offset (take from xs)
    && (holds_at file r (offset + from) (take count (drop from xs))
    && holds_at file r (offset + from + length (take count (drop from xs))) (drop count (drop from xs))))
holds_three file r offset xs from count inside =
    let size : length (take from xs) ≡ from = length-take-le from xs inside in
    ap (holds_at file r offset) (sym (take-append-drop from xs))
    ∙ holds_append file r offset (take from xs) (drop from xs)
    ∙ ap (λ n. holds_at file r offset (take from xs) && holds_at file r (offset + n) (drop from xs)) size
    ∙ ap (λ b. holds_at file r offset (take from xs) && b)
    (ap (holds_at file r (offset + from)) (sym (take-append-drop count (drop from xs))) ∙ holds_append file r (offset + from) (take count (drop from xs)) (drop count (drop from xs)))

-- a value in two pieces
holds_two : (file : List ℕ) (r : RootBox) (offset : ℕ) (xs : List ℕ) (from : ℕ) → from ≤ length xs
    → holds_at file r offset xs ≡ (holds_at file r offset (take from xs) && holds_at file r (offset + from) (drop from xs))
holds_two file r offset xs from inside =
    ap (holds_at file r offset) (sym (take-append-drop from xs))
    ∙ holds_append file r offset (take from xs) (drop from xs)
    ∙ ap (λ n. holds_at file r offset (take from xs) && holds_at file r (offset + n) (drop from xs))
    (length-take-le from xs inside)

-- a value that stands in a run, or reaches past it, where both ask for the same bytes
pub join_same : (file : List ℕ) (r : RootBox) (offset : ℕ) (run value : List ℕ) (from count : ℕ)
    → from ≤ length run → count ≤ length value → count ≤ length run - from
    → (count ≡ length value) ⊎ (count ≡ length run - from) → take count (drop from run) ≡ take count value
    → holds_at file r offset (run ++ drop count value)
    ≡ (holds_at file r offset run && holds_at file r (offset + from) value)
join_same file r offset run value from count inside few fits ends same = ⊎_elim within past ends
  where
    h : ℕ → List ℕ → Bool
    h = holds_at file r

    within : count ≡ length value → h offset (run ++ drop count value) ≡ (h offset run && h (offset + from) value)
    within all =
        let none : drop count value ≡ [] = drop_all count value (omega (arith, all)) in
        let whole : take count value ≡ value =
        sym (append-nil (take count value)) ∙ ap (λ (ys : List ℕ). take count value ++ ys) (sym none)
        ∙ take-append-drop count value in
        let parts = holds_three file r offset run from count inside in
        let value_is : take count (drop from run) ≡ value = same ∙ whole in
        ap (λ (ys : List ℕ). h offset (run ++ ys)) none ∙ ap (h offset) (append-nil run) ∙ parts
        ∙ and_again (h offset (take from run)) (h (offset + from) (take count (drop from run)))
        (h (offset + from + length (take count (drop from run))) (drop count (drop from run)))
        ∙ ap₂ (λ (a b : Bool). a && b) (sym parts) (ap (h (offset + from)) value_is)

    past : count ≡ length run - from → h offset (run ++ drop count value) ≡ (h offset run && h (offset + from) value)
    past all =
        let none : drop count (drop from run) ≡ [] =
        drop_all count (drop from run) (omega (arith, length-drop from run, all)) in
        let whole : take count (drop from run) ≡ drop from run =
        sym (append-nil (take count (drop from run)))
        ∙ ap (λ (ys : List ℕ). take count (drop from run) ++ ys) (sym none)
        ∙ take-append-drop count (drop from run) in
        let front : drop from run ≡ take count value = sym whole ∙ same in
        let place : offset + length run ≡ offset + from + count = omega (arith, all, inside) in
        let two =
        holds_two file r offset run from inside
        ∙ ap (λ (ys : List ℕ). h offset (take from run) && h (offset + from) ys) front in
        let split : h (offset + from) value ≡ (h (offset + from) (take count value) && h (offset + from + count) (drop count value)) =
        holds_two file r (offset + from) value count few in
        holds_append file r offset run (drop count value) ∙ ap (λ n. h offset run && h n (drop count value)) place
        ∙ ap (λ b. b && h (offset + from + count) (drop count value)) two
        ∙ and_twice (h offset (take from run)) (h (offset + from) (take count value))
        (h (offset + from + count) (drop count value))
        ∙ ap₂ (λ (a b : Bool). a && b) (sym two) (sym split)

-- no box meets both where they ask for different bytes
pub join_differ : (file : List ℕ) (r : RootBox) (offset : ℕ) (run value : List ℕ) (from count : ℕ)
    → from ≤ length run → count ≤ length value → count ≤ length run - from
    → bytes_eq (take count (drop from run)) (take count value) ≡ false
    → (holds_at file r offset run && holds_at file r (offset + from) value) ≡ false
join_differ file r offset run value from count inside few fits differ =
    let h : ℕ → List ℕ → Bool = holds_at file r in
    let at : ℕ = offset + from in
    let rest : List ℕ = drop from run in
    let asked : List ℕ = take count value in
    let first : length (take count rest) ≡ count =
    length-take-le count rest (omega (arith, length-drop from run, fits)) in
    let second : length asked ≡ count = length-take-le count value few in
    ap₂ (λ (a b : Bool). a && b) (holds_three file r offset run from count inside) (holds_two file r at value count few)
    ∙ and_never (h offset (take from run)) (h at (take count rest))
    (h (at + length (take count rest)) (drop count rest))
    (h at asked) (h (at + count) (drop count value))
    (never_both file r at (take count rest) asked (first ∙ sym second) differ)

-- the bytes that are added to those of all runs, where the run from `start` on and the value ask for the same bytes
pub joins : (old front value : List ℕ) (start from n : ℕ) (b : Bool) → front ≡ old → start + from ≤ length old
    → n ≡ min (length value) (length old - (start + from))
    → b ≡ bytes_eq (take n (take (length front - (start + from)) (drop (start + from) front))) (take n value)
    → (b ≡ true → Join start from value old (old ++ drop n value)) × (b ≡ false → Differ start from value old)
joins old front value start from n b is inside count test = (
  λ yes file r offset. ap (holds_at file r offset) (drop-append-le start old (drop n value) (omega (arith, inside))) ∙ join_same file r offset (drop start old) value from n reach few fits ends ((bytes_eq-Decides (take n (drop from (drop start old))) (take n value)).0 (sym by ∙ yes)),
  λ no file r offset. join_differ file r offset (drop start old) value from n reach few fits (sym by ∙ no),
)
  where
    reach : from ≤ length (drop start old)
    reach = omega (arith, inside, length-drop start old)

    few : n ≤ length value
    few = omega (arith, count)

    fits : n ≤ length (drop start old) - from
    fits = omega (arith, count, length-drop start old)

    ends : (n ≡ length value) ⊎ (n ≡ length (drop start old) - from)
    ends =
        ⊎_elim (λ l. inl (omega (arith, count, l))) (λ k. inr (omega (arith, count, k, length-drop start old)))
        (cases_lt (length value) (length old - (start + from)))

    piece : take n (take (length front - (start + from)) (drop (start + from) front)) ≡ take n
        (drop from (drop start old))
    piece =
        ap (λ (xs : List ℕ). take n (take (length xs - (start + from)) (drop (start + from) xs))) is
        ∙ take-take n (length old - (start + from)) (drop (start + from) old) (omega (arith, count))
        ∙ ap (take n) (sym (drop-drop from start old))

    by : b ≡ bytes_eq (take n (drop from (drop start old))) (take n value)
    by = test ∙ ap (λ (xs : List ℕ). bytes_eq xs (take n value)) piece

-- ---- lists of tests

-- the two tests of which no box meets both
pub no_box_false : (file : List ℕ) (r : RootBox) → list_all (holds_test file r) no_box ≡ false
no_box_false file r =
    let never : (holds_at file r 0 (0 ∷ []) && holds_at file r 0 (1 ∷ [])) ≡ false =
    never_both file r 0 (0 ∷ []) (1 ∷ []) refl refl in
    ap (λ b. holds_at file r 0 (0 ∷ []) && b) (and_true (holds_at file r 0 (1 ∷ []))) ∙ never

-- all hold where none fails
all_none : {A : Type 0} (p : A → Bool) (xs : List A) → list_all p xs ≡ not (list_any (λ x. not (p x)) xs)
all_none p [] = refl
all_none p (x ∷ xs) = ap (λ b. p x && b) (all_none p xs) ∙ both (p x) (list_any (λ y. not (p y)) xs)
  where
    both : (a b : Bool) → (a && not b) ≡ not (not a || b)
    both true b = refl
    both false b = refl

-- in any order
pub all_permuted : {A : Type 0} (p : A → Bool) (xs ys : List A) → IsPermutation xs ys → list_all p xs ≡ list_all p ys
all_permuted p xs ys h = all_none p xs ∙ ap not (list_any-IsPermutation (λ x. not (p x)) xs ys h) ∙ sym (all_none p ys)

-- the members that a function makes all pass in any order
pub all_map_permuted : {A B : Type 0} (p : B → Bool) (f : A → B) (xs ys : List A) → IsPermutation xs ys
    → list_all p (map f ys) ≡ list_all p (map f xs)
all_map_permuted p f xs ys h =
    list_all-map p f ys ∙ sym (all_permuted (λ x. p (f x)) xs ys h) ∙ sym (list_all-map p f xs)

-- where the first fail, all do
pub all_taken : {A : Type 0} (p : A → Bool) (k : ℕ) (xs : List A) → list_all p (take k xs) ≡ false
    → list_all p xs ≡ false
all_taken p k xs h =
    ap (list_all p) (sym (take-append-drop k xs)) ∙ list_all-append p (take k xs) (drop k xs)
    ∙ ap (λ b. b && list_all p (drop k xs)) h

-- ---- keys

-- the key of one more byte test
pub keys_more : (tests : List (ℕ × List ℕ)) (keys more : List Key) (k offset : ℕ)
    → more ≡ keys ++ (record { offset = offset; index = k }) ∷ [] → k < length tests
    → offset ≡ (get_or tests k (0, [])).0 → map (key_test tests) keys ≡ map byte_test (take k tests)
    → map (key_test tests) more ≡ map byte_test (take (k + 1) tests)
keys_more tests keys more k offset is inside same before =
    ap (map (key_test tests)) is ∙ map-append (key_test tests) keys ((record { offset = offset; index = k }) ∷ [])
    ∙ ap₂ (λ (ts us : List ByteTest). ts ++ us) before (ap (λ (n : ℕ). test_at n (get_or tests k (0, [])).1 ∷ []) same)
    ∙ sym
    (ap (map byte_test) (take_more tests k (0, []) inside) ∙ map-append byte_test (take k tests) (get_or tests k (0, []) ∷ []))

-- the key of one more byte test is of a test that is there
pub keys_within : (n : ℕ) (keys more : List Key) (k offset : ℕ)
    → more ≡ keys ++ (record { offset = offset; index = k }) ∷ [] → k < n → All (IsKeyWithin n) keys
    → All (IsKeyWithin n) more
keys_within n keys more k offset is inside before =
    subst (All (IsKeyWithin n)) (sym is)
    (All-push (IsKeyWithin n) keys (record { offset = offset; index = k }) before (omega (arith, inside)))

-- a key of nothing
abbrev pub no_key : Key
no_key = record { offset = 0; index = 0 }

-- ---- runs

-- more bytes leave the runs before them as they are
runs_kept : (old new : List ℕ) (runs : List Run) → take (length old) new ≡ old
    → AllByRecursion (IsRunWithin (length old)) runs → map (run_test new) runs ≡ map (run_test old) runs
runs_kept old new [] front within = refl
runs_kept old new (x ∷ xs) front within =
    ap₂ (λ (v : List ℕ) (ts : List ByteTest). test_at x.offset v ∷ ts)
    (sym (piece_of (length old) x.start (x.end - x.start) new (omega (arith, within.0.0, within.0.1))) ∙ ap (λ (ys : List ℕ). take (x.end - x.start) (drop x.start ys)) front)
    (runs_kept old new xs front within.1)

-- more bytes leave the tests of all runs before them as they are
kept : (file : List ℕ) (r : RootBox) (old new : List ℕ) (runs : List Run) → take (length old) new ≡ old
    → All (IsRunWithin (length old)) runs
    → list_all (holds_test file r) (map (run_test new) runs) ≡ list_all (holds_test file r) (map (run_test old) runs)
kept file r old new runs front within =
    ap (list_all (holds_test file r))
    (runs_kept old new runs front (recursion_from_All (IsRunWithin (length old)) runs within))

-- the last run, ended
abbrev pub ended : List ℕ → Last → Run
ended bytes last = record { offset = last.offset; start = last.start; end = length bytes }

-- the last run, ended, asks for the same bytes
ended_test : (old value : List ℕ) (last : Last) → IsLastWithin (length old) last
    → run_test (old ++ value) (ended old last) ≡ last_test old last
ended_test old value last inside =
    ap (test_at last.offset)
    (ap (take (length old - last.start)) (drop-append-le last.start old value inside)
    ∙ take-append-le (length old - last.start) (drop last.start old) value (omega (arith, length-drop last.start old))
    ∙ take_all (length old - last.start) (drop last.start old) (omega (arith, length-drop last.start old)))

-- runs with one more
runs_more : (file : List ℕ) (r : RootBox) (bytes : List ℕ) (runs : List Run) (run : Run)
    → list_all (holds_test file r) (map (run_test bytes) (runs ++ run ∷ [])) ≡ (list_all (holds_test file r) (map (run_test bytes) runs) && holds_test file r (run_test bytes run))
runs_more file r bytes runs run =
    ap (list_all (holds_test file r)) (map-append (run_test bytes) runs (run ∷ []))
    ∙ list_all-append (holds_test file r) (map (run_test bytes) runs) (run_test bytes run ∷ [])
    ∙ ap (λ b. list_all (holds_test file r) (map (run_test bytes) runs) && b)
    (and_true (holds_test file r (run_test bytes run)))

-- the order of three tests
and_turn : (t rs l : Bool) → (t && (rs && l)) ≡ ((l && rs) && t)
and_turn t false false = and_false t
and_turn t false true = and_false t
and_turn t true false = and_false t
and_turn t true true = and_true t

-- three tests in another order
and_swap : (l v rs : Bool) → ((l && v) && rs) ≡ ((l && rs) && v)
and_swap false v rs = refl
and_swap true false false = refl
and_swap true false true = refl
and_swap true true false = refl
and_swap true true true = refl

-- a value that begins another run
pub begin_run : (file : List ℕ) (r : RootBox) (bytes : List ℕ) (runs : List Run) (last : Last) (offset : ℕ)
    (value : List ℕ) → IsLastWithin (length bytes) last → All (IsRunWithin (length bytes)) runs
    → holds_last file r (bytes ++ value) (runs ++ ended bytes last ∷ [])
    (record { offset = offset; start = length bytes })
    ≡ (holds_last file r bytes runs last && holds_at file r offset value)
begin_run file r bytes runs last offset value inside within =
    let front : take (length bytes) (bytes ++ value) ≡ bytes =
    take-append-le (length bytes) bytes value (omega arith) ∙ take_all (length bytes) bytes (omega arith) in
    ap₂ (λ (a b : Bool). a && b) (ap (holds_at file r offset) (drop_at bytes value (length bytes) refl))
    (runs_more file r (bytes ++ value) runs (ended bytes last) ∙ ap₂ (λ (a b : Bool). a && b) (kept file r bytes (bytes ++ value) runs front within) (ap (holds_test file r) (ended_test bytes value last inside)))
    ∙ and_turn (holds_at file r offset value) (list_all (holds_test file r) (map (run_test bytes) runs))
    (holds_test file r (last_test bytes last))

-- a value that begins another run, by the bytes and runs that are made
pub begin_run_by : (file : List ℕ) (r : RootBox) (bytes new : List ℕ) (runs more : List Run) (last : Last)
    (offset : ℕ) (value : List ℕ) (end : ℕ) → new ≡ bytes ++ value
    → more ≡ runs ++ (record { offset = last.offset; start = last.start; end = end }) ∷ [] → end ≡ length bytes
    → IsLastWithin (length bytes) last → All (IsRunWithin (length bytes)) runs
    → holds_last file r new more (record { offset = offset; start = end })
    ≡ (holds_last file r bytes runs last && holds_at file r offset value)
begin_run_by file r bytes new runs more last offset value end bytes_are runs_are end_is inside within =
    ap₂ (λ (bs : List ℕ) (rs : List Run). holds_last file r bs rs (record { offset = offset; start = end })) bytes_are
    runs_are
    ∙ ap
    (λ (n : ℕ). holds_last file r (bytes ++ value) (runs ++ (record { offset = last.offset; start = last.start; end = n }) ∷ []) (record { offset = offset; start = n }))
    end_is
    ∙ begin_run file r bytes runs last offset value inside within

-- a value that joins the last run
pub join_run : (file : List ℕ) (r : RootBox) (old new : List ℕ) (runs : List Run) (last : Last)
    (from offset : ℕ) (value : List ℕ) → All (IsRunWithin (length old)) runs → take (length old) new ≡ old
    → last.offset + from ≡ offset → Join last.start from value old new
    → holds_last file r new runs last ≡ (holds_last file r old runs last && holds_at file r offset value)
join_run file r old new runs last from offset value within front place join =
    ap₂ (λ (a b : Bool). a && b) (join file r last.offset) (kept file r old new runs front within)
    ∙ and_swap (holds_test file r (last_test old last)) (holds_at file r (last.offset + from) value)
    (list_all (holds_test file r) (map (run_test old) runs))
    ∙ ap (λ n. holds_last file r old runs last && holds_at file r n value) place

-- two tests that don't both hold, with another between them
and_between : (a b c : Bool) → (a && c) ≡ false → ((a && b) && c) ≡ false
and_between true b c h = ap (λ (t : Bool). b && t) h ∙ and_false b
and_between false b c h = refl

-- a value that asks for other bytes than the last run
pub differ_run : (file : List ℕ) (r : RootBox) (old : List ℕ) (runs : List Run) (last : Last) (from offset : ℕ)
    (value : List ℕ) → last.offset + from ≡ offset → Differ last.start from value old
    → (holds_last file r old runs last && holds_at file r offset value) ≡ false
differ_run file r old runs last from offset value place differ =
    and_between (holds_test file r (last_test old last)) (list_all (holds_test file r) (map (run_test old) runs))
    (holds_at file r offset value)
    (ap (λ n. holds_test file r (last_test old last) && holds_at file r n value) (sym place) ∙ differ file r last.offset)

-- runs among so many bytes are among more
pub within_more : (few more : ℕ) (runs : List Run) → few ≤ more → All (IsRunWithin few) runs
    → All (IsRunWithin more) runs
within_more few more runs le all =
    All-weaker (IsRunWithin few) (IsRunWithin more) (λ run h. (h.0, omega (arith, h.1, le))) runs all

-- a value of no bytes only asks for a length
pub holds_nothing : (file : List ℕ) (r : RootBox) (offset : ℕ) (value : List ℕ) → length value ≡ 0
    → nat_le (offset + length value) r.length ≡ true → holds_at file r offset value ≡ true
holds_nothing file r offset [] none fits = and_true (nat_le (offset + 0) r.length) ∙ fits
holds_nothing file r offset (x ∷ xs) none fits = absurd (omega (arith, none))

-- ---- one more byte test

-- two tests in the other order
and_turned : (a b : Bool) → (a && b) ≡ (b && a)
and_turned true true = refl
and_turned true false = refl
and_turned false true = refl
and_turned false false = refl

-- the least length with another
least_more : (least n most : ℕ) → nat_le (max least n) most ≡ (nat_le least most && nat_le n most)
least_more least n most = ⊎_elim less more (cases_lt least n)
  where
    less : least < n → nat_le (max least n) most ≡ (nat_le least most && nat_le n most)
    less l = let is : max least n ≡ n = omega (arith, l) in ap (λ m. nat_le m most) is ∙ le_with least n most (omega (arith, l))

    more : n ≤ least → nat_le (max least n) most ≡ (nat_le least most && nat_le n most)
    more k = let is : max least n ≡ least = omega (arith, k) in ap (λ m. nat_le m most) is ∙ le_with n least most k ∙ and_turned (nat_le n most) (nat_le least most)

-- with one more byte test, a box meets all where it is long enough and meets the runs
pub one_more_test : (least n most : ℕ) (before after test all : Bool) → (nat_le least most && before) ≡ all
    → (nat_le n most ≡ true → after ≡ (before && test)) → (nat_le n most ≡ false → test ≡ false)
    → (nat_le (max least n) most && after) ≡ (all && test)
one_more_test least n most before after test all so_far long short = ap (λ b. b && after) (least_more least n most) ∙ go (nat_le n most) refl
  where
    go : (fits : Bool) → nat_le n most ≡ fits → ((nat_le least most && nat_le n most) && after) ≡ (all && test)
    go true e =
        ap (λ b. b && after) (ap (λ b. nat_le least most && b) e ∙ and_true (nat_le least most))
        ∙ ap (λ b. nat_le least most && b) (long e) ∙ sym (and_join3 (nat_le least most) before test)
        ∙ ap (λ b. b && test) so_far
    go false e =
        ap (λ b. b && after) (ap (λ b. nat_le least most && b) e ∙ and_false (nat_le least most))
        ∙ sym (ap (λ b. all && b) (short e) ∙ and_false all)

-- a value past the box's end doesn't stand in it
pub holds_short : (file : List ℕ) (r : RootBox) (offset : ℕ) (value : List ℕ)
    → nat_le (offset + length value) r.length ≡ false → holds_at file r offset value ≡ false
holds_short file r offset value short = ap (λ b. b && stands_at file (r.start + offset) value) short

-- no run
abbrev pub no_run : Run
no_run = record { offset = 0; start = 0; end = 0 }

-- the runs from one on: that one, and the others
pub runs_from : (file : List ℕ) (r : RootBox) (bytes : List ℕ) (runs : List Run) (k : ℕ) → k < length runs
    → list_all (holds_test file r) (map (run_test bytes) (drop k runs))
    ≡ (holds_test file r (run_test bytes (get_or runs k no_run))
    && list_all (holds_test file r) (map (run_test bytes) (drop (k + 1) runs)))
runs_from file r bytes runs k lt =
    ap (λ (rs : List Run). list_all (holds_test file r) (map (run_test bytes) rs)) (drop_more runs k no_run lt)

-- the tests of one key more
pub all_more : (file : List ℕ) (r : RootBox) (tests : List (ℕ × List ℕ)) (keys : List Key) (k : ℕ)
    → k < length keys
    → list_all (holds_test file r) (map (key_test tests) (take (k + 1) keys))
    ≡ (list_all (holds_test file r) (map (key_test tests) (take k keys))
    && holds_test file r (key_test tests (get_or keys k no_key)))
all_more file r tests keys k inside =
    let p : Key → Bool = λ key. holds_test file r (key_test tests key) in
    list_all-map (holds_test file r) (key_test tests) (take (k + 1) keys) ∙ list_all_more p keys k no_key inside
    ∙ ap (λ b. b && p (get_or keys k no_key)) (sym (list_all-map (holds_test file r) (key_test tests) (take k keys)))

-- where the tests of the first keys aren't all met, those of all aren't
pub all_first : (file : List ℕ) (r : RootBox) (tests : List (ℕ × List ℕ)) (keys : List Key) (k : ℕ)
    → list_all (holds_test file r) (map (key_test tests) (take k keys)) ≡ false
    → list_all (holds_test file r) (map (key_test tests) keys) ≡ false
all_first file r tests keys k h =
    let p : Key → Bool = λ key. holds_test file r (key_test tests key) in
    list_all-map (holds_test file r) (key_test tests) keys
    ∙ all_taken p k keys (sym (list_all-map (holds_test file r) (key_test tests) (take k keys)) ∙ h)

-- what is asked, by the last run
pub asked_is : (file : List ℕ) (r : RootBox) (bytes : List ℕ) (runs : List Run) (last : Last) (least : ℕ)
    → IsLastWithin (length bytes) last
    → list_all (holds_test file r) (least_test least ∷ map (run_test bytes) (runs ++ ended bytes last ∷ []))
    ≡ (nat_le least r.length && holds_last file r bytes runs last)
asked_is file r bytes runs last least inside =
    let zero_more : least + 0 ≡ least = omega arith in
    let same : run_test bytes (ended bytes last) ≡ last_test bytes last =
    ap (test_at last.offset)
    (take_all (length bytes - last.start) (drop last.start bytes) (omega (arith, length-drop last.start bytes))) in
    ap₂ (λ (a b : Bool). a && b) (and_true (nat_le (least + 0) r.length) ∙ ap (λ n. nat_le n r.length) zero_more)
    (runs_more file r bytes runs (ended bytes last) ∙ ap (λ (t : ByteTest). list_all (holds_test file r) (map (run_test bytes) runs) && holds_test file r t) same ∙ and_turned (list_all (holds_test file r) (map (run_test bytes) runs)) (holds_test file r (last_test bytes last)))

-- a box that is too short meets nothing of what is asked
pub least_short : (file : List ℕ) (r : RootBox) (least : ℕ) (tests : List ByteTest) → r.length < least
    → list_all (holds_test file r) (least_test least ∷ tests) ≡ false
least_short file r least tests short =
    ap (λ b. b && list_all (holds_test file r) tests)
    (holds_short file r least [] (lt-leb (least + 0) r.length (omega (arith, short))))

-- of a box that is long enough the tests behind the first are asked
pub least_long : (file : List ℕ) (r : RootBox) (least : ℕ) (tests : List ByteTest) → least ≤ r.length
    → list_all (holds_test file r) (least_test least ∷ tests) ≡ list_all (holds_test file r) tests
least_long file r least tests long =
    ap (λ b. b && list_all (holds_test file r) tests)
    (holds_nothing file r least [] refl (le-leb (least + 0) r.length (omega (arith, long))))
