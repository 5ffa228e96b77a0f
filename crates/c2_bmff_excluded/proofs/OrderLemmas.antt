-- Parts in the order of their starts, and exclusions whose parts are put in order.
use Rattle.std.proofs.Common.{◌≡◌, ℕ, ◌+◌, ◌-◌, ◌<◌, ◌≤◌, Bool, true, false, ◌&&◌, ◌||◌, List, [], ◌∷◌, ◌++◌, length, get_or, take, drop, refl, sym, ap, ap₂, subst, ◌∙◌, arith}
use Rattle.std.specs.declared.option.Option.{Option}
use Rattle.std.specs.List.{list_all, list_any, AllByRecursion}
use Rattle.std.proofs.lemmas.List.{drop_more, get_or-append-add, get_or-drop, get_or_append_left, get_or_default, length-append, length-drop, take-append-drop, take-append-le, take_all}
use Rattle.std.specs.Prelude.{All}
use Rattle.std.proofs.lemmas.List.Elements.{All-push, All-weaker, recursion_from_All}
use Rattle.std.proofs.lemmas.List.Folds.{list_any-append}
use Rattle.std.proofs.lemmas.List.Sorted.{IsNonDecreasingBy-push, IsNonDecreasingBy-take}
use Rattle.c2_base.specs.declared.values.Range.{Range}
use Rattle.c2_spec.specs.Bmff.Hash.{ByteTest, Exclusion, in_subset}
use Rattle.c2_spec.specs.Bmff.Paths.{PathStep}
use Rattle.c2_bmff_rows.specs.Paths.{on_rows}
use Rattle.c2_bmff_excluded.specs.Marks.{excludes_any, excludes_row, has_length, holds_test, in_row, in_row_part, in_row_subset, marks, takes}
use Rattle.c2_bmff_excluded.specs.Parts.{AreRising, AskSame, MarkSame, StartsBy}
use Rattle.c2_bmff_excluded.specs.Runs.{MeetAlike}
use Rattle.c2_bmff_rows.specs.declared.row.RootBox.{RootBox}
use Rattle.c2_bmff_rows.proofs.Lists.{any_append}
use Rattle.c2_lemmas.proofs.Bools.{or_false, or_join}

-- ---- parts in order

-- one more part at the end, which begins no earlier than the others
pub rising_push : (parts : List Range) (part : Range) → AreRising parts → All (StartsBy part.start) parts
    → AreRising (parts ++ part ∷ [])
rising_push parts part rising all =
    IsNonDecreasingBy-push (λ (p : Range). p.start) parts part rising
    (λ d some. all (length parts - 1) d (omega (arith, some)))

-- with it, they begin no later than what begins no earlier than it
pub begin_by : (n : ℕ) (parts : List Range) (part : Range) → All (StartsBy part.start) parts → part.start ≤ n
    → All (StartsBy n) (parts ++ part ∷ [])
begin_by n parts part all from =
    All-push (StartsBy n) parts part (All-weaker (StartsBy part.start) (StartsBy n) (λ x le. omega (arith, le, from)) parts all)
    from

-- parts of which the last is replaced by one that begins where it did
pub again_rising : (xs : List Range) (x y : Range) → y.start ≡ x.start → AreRising (xs ++ x ∷ [])
    → AreRising (xs ++ y ∷ [])
again_rising xs x y same h = IsNonDecreasingBy-push (λ (p : Range). p.start) xs y before (λ d some. last d some)
  where
    before : AreRising xs
    before =
        subst AreRising (take-append-le (length xs) xs (x ∷ []) (omega arith) ∙ take_all (length xs) xs (omega arith))
        (IsNonDecreasingBy-take (λ (p : Range). p.start) (length xs) (xs ++ x ∷ []) h)

    last : (d : Range) → 0 < length xs → (get_or xs (length xs - 1) d).start ≤ y.start
    last d some =
        let size : length (xs ++ x ∷ []) ≡ length xs + 1 = length-append xs (x ∷ []) in
        let step : (get_or (xs ++ x ∷ []) (length xs - 1) d).start ≤ (get_or (xs ++ x ∷ []) (length xs + 0) d).start =
        h (length xs - 1) (length xs + 0) d (omega (arith, some)) (omega (arith, size)) in
        let left : (get_or (xs ++ x ∷ []) (length xs - 1) d).start ≡ (get_or xs (length xs - 1) d).start =
        ap (λ (p : Range). p.start) (get_or_append_left xs (x ∷ []) d (length xs - 1) (omega (arith, some))) in
        let right : (get_or (xs ++ x ∷ []) (length xs + 0) d).start ≡ x.start =
        ap (λ (p : Range). p.start) (get_or-append-add xs (x ∷ []) 0 d) in
        omega (arith, step, left, right, same)

-- where parts that begin no earlier than this one hold a position of a box only where it does, so do those of a list
later_hold : (i : ℕ) (r : RootBox) (x : Range)
    → ((later : Range) → x.start ≤ later.start → in_row_part i r later ≡ true → in_row_part i r x ≡ true)
    → (ys : List Range) → AllByRecursion (λ (y : Range). x.start ≤ y.start) ys → list_any (in_row_part i r) ys ≡ true
    → in_row_part i r x ≡ true
later_hold i r x ends [] all h = absurd (cc (h))
later_hold i r x ends (y ∷ ys) all h = go (in_row_part i r y) refl h (λ n. later_hold i r x ends ys all.1 n)
  where
    go : (b : Bool) → in_row_part i r y ≡ b → (b || list_any (in_row_part i r) ys) ≡ true
        → (list_any (in_row_part i r) ys ≡ true → in_row_part i r x ≡ true) → in_row_part i r x ≡ true
    go true e n others = ends y all.0 e
    go false e n others = others n

-- of parts that rise, those after one that ends a box add nothing to it
pub rest_adds_nothing : (i : ℕ) (r : RootBox) (parts : List Range) (k : ℕ) (d : Range) (old : Bool)
    → AreRising parts → k < length parts
    → ((later : Range) → (get_or parts k d).start ≤ later.start → in_row_part i r later ≡ true
    → in_row_part i r (get_or parts k d) ≡ true)
    → ((old || list_any (in_row_part i r) (take k parts)) || in_row_part i r (get_or parts k d))
    ≡ (old || list_any (in_row_part i r) parts)
rest_adds_nothing i r parts k d old rising inside ends =
    or_join old (list_any p (take k parts)) (p x)
    ∙ ap (λ (b : Bool). old || b) (ap (λ (b : Bool). list_any p (take k parts) || b) (sym (by (list_any p (drop (k + 1) parts)) refl))
    ∙ ap (λ (ys : List Range). list_any p (take k parts) || list_any p ys) (sym (drop_more parts k d inside))
    ∙ sym (list_any-append p (take k parts) (drop k parts)) ∙ ap (list_any p) (take-append-drop k parts))
  where
    p : Range → Bool
    p = in_row_part i r

    x : Range
    x = get_or parts k d

    later : AllByRecursion (λ (y : Range). x.start ≤ y.start) (drop (k + 1) parts)
    later = recursion_from_All (λ (y : Range). x.start ≤ y.start) (drop (k + 1) parts) (λ j e lt. below j e lt)
      where
        below : (j : ℕ) (e : Range) → j < length (drop (k + 1) parts)
            → x.start ≤ (get_or (drop (k + 1) parts) j e).start
        below j e lt =
            let step : (get_or parts k e).start ≤ (get_or parts (k + 1 + j) e).start =
            rising k (k + 1 + j) e (omega arith) (omega (arith, length-drop (k + 1) parts, lt)) in
            let first : (get_or parts k e).start ≡ x.start =
            ap (λ (y : Range). y.start) (get_or_default parts k e d inside) in
            let second : (get_or (drop (k + 1) parts) j e).start ≡ (get_or parts (k + 1 + j) e).start =
            ap (λ (y : Range). y.start) (get_or-drop (k + 1) parts j e) in
            omega (arith, step, first, second)

    by : (b : Bool) → list_any p (drop (k + 1) parts) ≡ b → (p x || b) ≡ p x
    by false e = or_false (p x)
    by true e = let yes : p x ≡ true = later_hold i r x ends (drop (k + 1) parts) later e in ap (λ (b : Bool). b || true) yes ∙ sym yes

-- ---- exclusions

-- tests that are equal of each member
pub any_same : {A : Type 0} (p q : A → Bool) (xs : List A) → ((x : A) → p x ≡ q x) → list_any p xs ≡ list_any q xs
any_same p q [] h = refl
any_same p q (x ∷ xs) h = ap₂ (λ (a b : Bool). a || b) (h x) (any_same p q xs h)

-- an exclusion whose subset is replaced by one that holds the same positions, and its byte tests by those that the same boxes meet
pub same_subset : (e : Exclusion) (path : List PathStep) (tests : List ByteTest) (subset : Option (List Range))
    → MeetAlike tests e.tests → ((i : ℕ) → in_subset i subset ≡ in_subset i e.subset)
    → MarkSame (record { path = path; length = e.length; tests = tests; subset = subset }) e
same_subset e path tests subset same h file i r =
    ap₂ (λ (a b : Bool). (has_length e.length r && a) && (in_row i r && b)) (same file r) (h (i - r.start))

-- three tests of which the first two must hold may have the third shared
and_or : (t w a b : Bool) → (t && (w && (a || b))) ≡ ((t && (w && a)) || (t && (w && b)))
and_or true true a b = refl
and_or true false a b = refl
and_or false w a b = refl

-- some member passes one test or the other
any_or : {A : Type 0} (p q : A → Bool) (xs : List A) → list_any (λ x. p x || q x) xs ≡ (list_any p xs || list_any q xs)
any_or p q [] = refl
any_or p q (x ∷ xs) = ap (λ (b : Bool). (p x || q x) || b) (any_or p q xs) ∙ turn (p x) (q x) (list_any p xs) (list_any q xs)
  where
    turn : (a b c d : Bool) → ((a || b) || (c || d)) ≡ ((a || c) || (b || d))
    turn true b c d = refl
    turn false true true d = refl
    turn false true false d = refl
    turn false false c d = refl

-- exclusions that ask the same, as one with the positions of both
pub united_same : (e d : Exclusion) (subset : Option (List Range)) → AskSame e d
    → ((i : ℕ) → in_subset i subset ≡ (in_subset i e.subset || in_subset i d.subset))
    → (file : List ℕ) (rows : List RootBox) (i : ℕ)
    → excludes_row file rows i (record { path = e.path; length = e.length; tests = e.tests; subset = subset })
    ≡ (excludes_row file rows i e || excludes_row file rows i d)
united_same e d subset ask h file rows i =
    let both : Exclusion = record { path = e.path; length = e.length; tests = e.tests; subset = subset } in
    any_same (marks file both i) (λ r. marks file e i r || marks file d i r) (on_rows file rows e.path)
    (λ r. ap (λ (b : Bool). takes file e r && (in_row i r && b)) (h (i - r.start)) ∙ and_or (takes file e r) (in_row i r) (in_subset (i - r.start) e.subset) (in_subset (i - r.start) d.subset)
    ∙ ap (λ (t : Bool). marks file e i r || (t && in_row_subset i r d.subset)) (ap₂ (λ (n : Option ℕ) (ts : List ByteTest). has_length n r && list_all (holds_test file r) ts) ask.1 ask.2))
    ∙ any_or (marks file e i) (marks file d i) (on_rows file rows e.path)
    ∙ ap
    (λ (p : List PathStep). list_any (marks file e i) (on_rows file rows e.path) || list_any (marks file d i) (on_rows file rows p))
    ask.0

-- exclusions of one path with another of that path
pub joins_path : (path : List PathStep) (xs : List Exclusion) (x e : Exclusion) → path ≡ e.path → MarkSame x e
    → (file : List ℕ) (rows : List RootBox) (i : ℕ)
    → excludes_any file rows i (record { path = path; exclusions = xs ++ x ∷ [] })
    ≡ (excludes_any file rows i (record { path = path; exclusions = xs }) || excludes_row file rows i e)
joins_path path xs x e is same file rows i =
    any_same (λ r. list_any (λ (y : Exclusion). marks file y i r) (xs ++ x ∷ []))
    (λ r. list_any (λ (y : Exclusion). marks file y i r) xs || marks file e i r) (on_rows file rows path)
    (λ r. any_append (λ (y : Exclusion). marks file y i r) xs x ∙ ap (λ (b : Bool). list_any (λ (y : Exclusion). marks file y i r) xs || b) (same file i r))
    ∙ any_or (λ r. list_any (λ (y : Exclusion). marks file y i r) xs) (marks file e i) (on_rows file rows path)
    ∙ ap
    (λ (p : List PathStep). list_any (λ r. list_any (λ (y : Exclusion). marks file y i r) xs) (on_rows file rows path) || list_any (marks file e i) (on_rows file rows p))
    is

-- one exclusion of a path
pub begins_path : (x e : Exclusion) → MarkSame x e → (file : List ℕ) (rows : List RootBox) (i : ℕ)
    → excludes_any file rows i (record { path = e.path; exclusions = x ∷ [] }) ≡ excludes_row file rows i e
begins_path x e same file rows i =
    any_same (λ r. marks file x i r || false) (marks file e i) (on_rows file rows e.path)
    (λ r. or_false (marks file x i r) ∙ same file i r)
