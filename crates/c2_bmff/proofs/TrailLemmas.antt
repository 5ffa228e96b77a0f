-- What exclusions exclude through siblings, a box at a time.
use Rattle.std.proofs.Common.{◌≡◌, ⊎_elim, ℕ, ◌+◌, ◌-◌, ◌<◌, ◌≤◌, Bool, true, false, cond, ◌||◌, ltb, List, [], ◌∷◌, ◌++◌, length, get_or, take, drop, Option, Some, None, refl, sym, ap, ap₂, ◌∙◌, arith, append-nil}
use Rattle.std.specs.Prelude.{bytes_eq}
use Rattle.std.specs.List.{flat_map, list_any, slice_get}
use Rattle.std.proofs.lemmas.Bool.{and_parts, cases_lt, le-ltb, lt-ltb}
use Rattle.std.proofs.lemmas.Grind.{flat_map-append}
use Rattle.std.proofs.lemmas.List.{drop_all, drop_more, length-drop, take-append-drop}
use Rattle.std.proofs.lemmas.List.Folds.{list_any-append}
use Rattle.std.proofs.lemmas.Option.{slice_get_within, slice_get-get_or, get_or_from_slice_get}
use Rattle.c2_spec.specs.Bmff.Hash.{Exclusion, in_subset}
use Rattle.c2_spec.specs.Bmff.Paths.{PathStep, is_entered, nth_of}
use Rattle.c2_bmff_rows.specs.Children.{kids}
use Rattle.c2_bmff_rows.specs.Paths.{go_on, on_rows}
use Rattle.c2_bmff_excluded.specs.Marks.{SharedPath, excludes_any, in_row, in_row_subset, marks, marks_any, takes}
use Rattle.c2_bmff.specs.Trails.{ahead, arrives, from_step, has_step, no_exclusion, of_entry, of_kind, of_option, picks, rows_ahead, through}
use Rattle.c2_bmff_rows.specs.declared.row.RootBox.{RootBox}
use Rattle.c2_bmff.specs.declared.walking.Coming.{Coming}
use Rattle.c2_bmff.specs.declared.walking.Coming.TheVariants as coming
use Rattle.c2_bmff.specs.declared.walking.Trail.{Trail}
use Rattle.c2_bmff_rows.proofs.PathRows.{path_start, path_stops, steps_from}
use Rattle.c2_lemmas.proofs.Bools.{or_false, or_join}

-- ---- tests joined

-- the order of two tests doesn't matter
pub or_swap : (a b c : Bool) → ((a || b) || c) ≡ ((a || c) || b)
or_swap true b c = refl
or_swap false true true = refl
or_swap false true false = refl
or_swap false false true = refl
or_swap false false false = refl

-- a test joined to the second of two
pub or_in : (a b c : Bool) → (a || (b || c)) ≡ ((a || c) || b)
or_in a b c = sym (or_join a b c) ∙ or_swap a b c

-- ---- tests of an exclusion

-- tests that are equal at the exclusion of an index are equal
pub of_same : (es : List SharedPath) (k : ℕ) (f g : SharedPath → Bool)
    → ((e : SharedPath) → slice_get es k ≡ Some e → f e ≡ g e) → of_entry es k f ≡ of_entry es k g
of_same es k f g h = go (slice_get es k) (λ e s. h e s)
  where
    go : (o : Option SharedPath) → ((e : SharedPath) → o ≡ Some e → f e ≡ g e) → of_option o f ≡ of_option o g
    go None h = refl
    go (Some e) h = h e refl

-- a test that is made of two
of_or : (es : List SharedPath) (k : ℕ) (f g : SharedPath → Bool)
    → of_entry es k (λ (e : SharedPath). f e || g e) ≡ (of_entry es k f || of_entry es k g)
of_or es k f g = go (slice_get es k)
  where
    go : (o : Option SharedPath) → of_option o (λ (e : SharedPath). f e || g e) ≡ (of_option o f || of_option o g)
    go None = refl
    go (Some e) = refl

-- a test that fails of each exclusion fails
of_none : (es : List SharedPath) (k : ℕ) → of_entry es k (λ (e : SharedPath). false) ≡ false
of_none es k = go (slice_get es k)
  where
    go : (o : Option SharedPath) → of_option o (λ (e : SharedPath). false) ≡ false
    go None = refl
    go (Some e) = refl

-- the test of an exclusion that is there
pub of_there : (es : List SharedPath) (k : ℕ) (e : SharedPath) (f : SharedPath → Bool) → slice_get es k ≡ Some e
    → of_entry es k f ≡ f e
of_there es k e f s = ap (λ (o : Option SharedPath). of_option o f) s

-- ---- a step further

-- rows matched in two parts go on in two parts
go_on_append : (file : List ℕ) (s : PathStep) (steps : List PathStep) (xs ys : List RootBox)
    → go_on file s steps (xs ++ ys) ≡ go_on file s steps xs ++ go_on file s steps ys
go_on_append file s [] xs ys = refl
go_on_append file s (n ∷ ns) xs ys = by (is_entered s.kind)
  where
    by : (t : Bool)
        → cond t (flat_map (λ (p : RootBox). on_rows file (kids file p) (n ∷ ns)) (xs ++ ys)) [] ≡ cond t (flat_map (λ (p : RootBox). on_rows file (kids file p) (n ∷ ns)) xs) [] ++ cond t (flat_map (λ (p : RootBox). on_rows file (kids file p) (n ∷ ns)) ys) []
    by true = flat_map-append (λ (p : RootBox). on_rows file (kids file p) (n ∷ ns)) xs ys
    by false = refl

-- no rows go on as none
go_on_none : (file : List ℕ) (s : PathStep) (steps : List PathStep) → go_on file s steps [] ≡ []
go_on_none file s [] = refl
go_on_none file s (n ∷ ns) = by (is_entered s.kind)
  where
    by : (t : Bool) → cond {A = List RootBox} t [] [] ≡ []
    by true = refl
    by false = refl

-- one row that a step before the last enters goes on among its children
go_on_one : (file : List ℕ) (s : PathStep) (steps : List PathStep) (r : RootBox) → 0 < length steps
    → is_entered s.kind ≡ true → go_on file s steps (r ∷ []) ≡ on_rows file (kids file r) steps
go_on_one file s [] r some enters = absurd (omega arith)
go_on_one file s (n ∷ ns) r some enters =
    ap (λ (t : Bool). cond t (on_rows file (kids file r) (n ∷ ns) ++ []) []) enters
    ∙ append-nil (on_rows file (kids file r) (n ∷ ns))

-- ---- a box that is passed

-- the trail after a sibling of its step's type
abbrev pub after : Trail → Coming → Trail
after t c = record { entry = t.entry; taken = t.taken; step = t.step; coming = c }

-- a sibling of the type that is meant, and one that isn't
pub pass_own : (file : List ℕ) (es : List SharedPath) (i : ℕ) (r : RootBox) (rows : List RootBox) (t : Trail)
    (m : Bool) (c : Coming) → bytes_eq r.kind t.step.kind ≡ true
    → ((x : RootBox) (xs : List RootBox) → picks t.coming (x ∷ xs) ≡ cond m (x ∷ []) [] ++ picks c xs)
    → ahead file es i (r ∷ rows) t ≡ (cond m (arrives file es i r t) false || ahead file es i rows (after t c))
pass_own file es i r rows t m c own next =
    ap
    (λ (b : Bool). of_entry es t.entry (λ (e : SharedPath). list_any (marks_any file e i) (go_on file t.step (drop t.taken e.path) (picks t.coming (cond b (r ∷ of_kind t.step.kind rows) (of_kind t.step.kind rows))))))
    own
    ∙ of_same es t.entry
    (λ (e : SharedPath). list_any (marks_any file e i) (go_on file t.step (drop t.taken e.path) (picks t.coming (r ∷ of_kind t.step.kind rows))))
    (λ (e : SharedPath). list_any (marks_any file e i) (go_on file t.step (drop t.taken e.path) (cond m (r ∷ []) [])) || list_any (marks_any file e i) (rows_ahead file rows (after t c) e))
    (λ e s. ap (λ (xs : List RootBox). list_any (marks_any file e i) (go_on file t.step (drop t.taken e.path) xs)) (next r (of_kind t.step.kind rows))
    ∙ ap (list_any (marks_any file e i))
    (go_on_append file t.step (drop t.taken e.path) (cond m (r ∷ []) []) (picks c (of_kind t.step.kind rows)))
    ∙ list_any-append (marks_any file e i) (go_on file t.step (drop t.taken e.path) (cond m (r ∷ []) [])) (rows_ahead file rows (after t c) e))
    ∙ of_or es t.entry
    (λ (e : SharedPath). list_any (marks_any file e i) (go_on file t.step (drop t.taken e.path) (cond m (r ∷ []) [])))
    (λ (e : SharedPath). list_any (marks_any file e i) (rows_ahead file rows (after t c) e))
    ∙ ap (λ (b : Bool). b || ahead file es i rows (after t c)) (by m)
  where
    by : (m : Bool)
        → of_entry es t.entry (λ (e : SharedPath). list_any (marks_any file e i) (go_on file t.step (drop t.taken e.path) (cond m (r ∷ []) []))) ≡ cond m (arrives file es i r t) false
    by true = refl
    by false =
        of_same es t.entry
        (λ (e : SharedPath). list_any (marks_any file e i) (go_on file t.step (drop t.taken e.path) []))
        (λ (e : SharedPath). false)
        (λ e s. ap (list_any (marks_any file e i)) (go_on_none file t.step (drop t.taken e.path)))
        ∙ of_none es t.entry

-- ---- a box that is meant

-- whether an exclusion that is there has a further step
step_there : (es : List SharedPath) (k taken : ℕ) (e : SharedPath) (b : Bool) → slice_get es k ≡ Some e
    → has_step es k taken ≡ b → ltb taken (length e.path) ≡ b
step_there es k taken e b s h = sym (of_there es k e (λ (x : SharedPath). ltb taken (length x.path)) s) ∙ h

-- one number isn't below another
not_below : (n m : ℕ) → ltb n m ≡ false → m ≤ n
not_below n m h = ⊎_elim (λ l. absurd (cc (h, lt-ltb n m l))) (λ g. g) (cases_lt n m)

-- one number is below another
is_below : (n m : ℕ) → ltb n m ≡ true → n < m
is_below n m h = ⊎_elim (λ l. l) (λ g. absurd (cc (h, le-ltb n m g))) (cases_lt n m)

-- where a trail goes on into the box, its next step is taken among the children
pub arrive_on : (file : List ℕ) (es : List SharedPath) (i : ℕ) (r : RootBox) (t : Trail)
    → has_step es t.entry t.taken ≡ true → is_entered t.step.kind ≡ true
    → arrives file es i r t ≡ from_step file es i (kids file r) t.entry t.taken
arrive_on file es i r t more enters =
    of_same es t.entry
    (λ (e : SharedPath). list_any (marks_any file e i) (go_on file t.step (drop t.taken e.path) (r ∷ [])))
    (λ (e : SharedPath). list_any (marks_any file e i) (on_rows file (kids file r) (drop t.taken e.path)))
    (λ e s. ap (list_any (marks_any file e i)) (go_on_one file t.step (drop t.taken e.path) r (omega (arith, length-drop t.taken e.path, is_below t.taken (length e.path) (step_there es t.entry t.taken e true s more))) enters))

-- where the box isn't entered, nothing is below it
pub arrive_stops : (file : List ℕ) (es : List SharedPath) (i : ℕ) (r : RootBox) (t : Trail)
    → has_step es t.entry t.taken ≡ true → is_entered t.step.kind ≡ false → arrives file es i r t ≡ false
arrive_stops file es i r t more other =
    of_same es t.entry
    (λ (e : SharedPath). list_any (marks_any file e i) (go_on file t.step (drop t.taken e.path) (r ∷ [])))
    (λ (e : SharedPath). false)
    (λ e s. ap (list_any (marks_any file e i)) (path_stops file t.step (drop t.taken e.path) (r ∷ []) (omega (arith, length-drop t.taken e.path, is_below t.taken (length e.path) (step_there es t.entry t.taken e true s more))) other))
    ∙ of_none es t.entry

-- ---- a step that begins

-- a trail before its first sibling has what the path has from its step on
pub trail_is : (file : List ℕ) (es : List SharedPath) (i : ℕ) (rows : List RootBox) (k taken : ℕ)
    (e : SharedPath) (s : PathStep) (c : Coming) → slice_get es k ≡ Some e → slice_get e.path taken ≡ Some s
    → ((xs : List RootBox) → picks c xs ≡ nth_of s.nth xs)
    → ahead file es i rows (record { entry = k; taken = taken + 1; step = s; coming = c })
    ≡ from_step file es i rows k taken
trail_is file es i rows k taken e s c there at meant =
    of_there es k e
    (λ (x : SharedPath). list_any (marks_any file x i) (go_on file s (drop (taken + 1) x.path) (picks c (of_kind s.kind rows))))
    there
    ∙ ap (λ (xs : List RootBox). list_any (marks_any file e i) (go_on file s (drop (taken + 1) e.path) xs))
    (meant (of_kind s.kind rows))
    ∙ ap (list_any (marks_any file e i))
    (sym (path_start file rows s (drop (taken + 1) e.path)) ∙ ap (on_rows file rows) (sym (steps_from e.path taken s (slice_get_within e.path taken s at) (sym (get_or_from_slice_get e.path taken s s at)))))
    ∙ sym
    (of_there es k e (λ (x : SharedPath). list_any (marks_any file x i) (on_rows file rows (drop taken x.path))) there)

-- from the first step on, an exclusion has what it has
pub first_step : (file : List ℕ) (es : List SharedPath) (i : ℕ) (rows : List RootBox) (k : ℕ) → k < length es
    → from_step file es i rows k 0 ≡ excludes_any file rows i (get_or es k no_exclusion)
first_step file es i rows k inside =
    of_there es k (get_or es k no_exclusion)
    (λ (x : SharedPath). list_any (marks_any file x i) (on_rows file rows (drop 0 x.path)))
    (slice_get-get_or es k no_exclusion inside)

-- an exclusion whose path has no step excludes nothing
pub no_step : (file : List ℕ) (es : List SharedPath) (i : ℕ) (rows : List RootBox) (k : ℕ) → k < length es
    → has_step es k 0 ≡ false → excludes_any file rows i (get_or es k no_exclusion) ≡ false
no_step file es i rows k inside none =
    let e : SharedPath = get_or es k no_exclusion in
    ap (λ (steps : List PathStep). list_any (marks_any file e i) (on_rows file rows steps))
    (drop_all 0 e.path (not_below 0 (length e.path) (step_there es k 0 e false (slice_get-get_or es k no_exclusion inside) none)))

-- ---- lists of siblings

-- what is found in a box, and what its siblings and the other lists have, joined as they are left
pub turn_joins : (now old l x below y : Bool) → ((now || below) || x) ≡ (old || y)
    → (now || ((l || x) || below)) ≡ (old || (l || y))
turn_joins now old true x below y e = all now ∙ sym (all old)
  where
    all : (b : Bool) → (b || true) ≡ true
    all true = refl
    all false = refl
turn_joins now old false x below y e = or_in now x below ∙ e

-- where no siblings are to come, a trail has nothing ahead
ahead_none : (file : List ℕ) (es : List SharedPath) (i : ℕ) (t : Trail) → ahead file es i [] t ≡ false
ahead_none file es i t =
    of_same es t.entry (λ (e : SharedPath). list_any (marks_any file e i) (rows_ahead file [] t e))
    (λ (e : SharedPath). false)
    (λ e s. ap (λ (xs : List RootBox). list_any (marks_any file e i) (go_on file t.step (drop t.taken e.path) xs)) (none t.coming) ∙ ap (list_any (marks_any file e i)) (go_on_none file t.step (drop t.taken e.path)))
    ∙ of_none es t.entry
  where
    none : (c : Coming) → picks c [] ≡ []
    none coming.Each = refl
    none (coming.After n) = ap (take 1) (drop_all n [] (omega arith))
    none coming.Done = refl

-- where no siblings are to come, no trail has anything ahead
pub level_none : (file : List ℕ) (es : List SharedPath) (i : ℕ) (rows : List RootBox) (ts : List Trail) → rows ≡ []
    → list_any (ahead file es i rows) ts ≡ false
level_none file es i rows ts e = ap (λ (xs : List RootBox). list_any (ahead file es i xs) ts) e ∙ go ts
  where
    go : (ts : List Trail) → list_any (ahead file es i []) ts ≡ false
    go [] = refl
    go (t ∷ ts) = ap₂ (λ (a b : Bool). a || b) (ahead_none file es i t) (go ts)

-- one trail that is past a box, where the others are joined
pub pass_joins : (f f' t x x' f0 y0 : Bool) → (f' || x') ≡ (f || x) → (f || t) ≡ (f0 || y0)
    → (f' || (t || x')) ≡ (f0 || (y0 || x))
pass_joins f f' t x x' f0 y0 e h =
    or_in f' t x' ∙ ap (λ (b : Bool). b || t) e ∙ or_swap f x t ∙ ap (λ (b : Bool). b || x) h ∙ or_join f0 y0 x

-- where the rests of two lists are one, so are their first members and the rests after those
pub rest_same : (k : ℕ) (xs ys : List Trail) (d : Trail) → k < length xs → k < length ys → drop k xs ≡ drop k ys
    → (get_or xs k d ≡ get_or ys k d) × (drop (k + 1) xs ≡ drop (k + 1) ys)
rest_same k xs ys d a b h =
    let e : get_or xs k d ∷ drop (k + 1) xs ≡ get_or ys k d ∷ drop (k + 1) ys =
    sym (drop_more xs k d a) ∙ h ∙ drop_more ys k d b in
    (ap (λ (zs : List Trail). get_or zs 0 d) e, ap (drop 1) e)

-- what an exclusion excludes through a box lies in the box
mark_inside : (file : List ℕ) (i : ℕ) (r : RootBox) (e : Exclusion) → marks file e i r ≡ true → in_row i r ≡ true
mark_inside file i r e n = let both = and_parts (takes file e r) (in_row_subset i r e.subset) n in (and_parts (in_row i r) (in_subset (i - r.start) e.subset) both.1).0

-- where members pass only where something holds, it holds where some of them pass
any_only : {A : Type 0} (p : A → Bool) (b : Bool) → ((x : A) → p x ≡ true → b ≡ true) → (xs : List A)
    → list_any p xs ≡ true → b ≡ true
any_only p b h [] n = absurd (cc (n))
any_only p b h (x ∷ xs) n = go (p x) refl n (λ m. any_only p b h xs m)
  where
    go : (a : Bool) → p x ≡ a → (a || list_any p xs) ≡ true → (list_any p xs ≡ true → b ≡ true) → b ≡ true
    go true e m others = h x e
    go false e m others = others m

-- what exclusions of one path exclude through a box lies in the box
through_inside : (file : List ℕ) (es : List SharedPath) (i : ℕ) (r : RootBox) (k : ℕ) → through file es i r k ≡ true
    → in_row i r ≡ true
through_inside file es i r k h = go (slice_get es k) h
  where
    go : (o : Option SharedPath) → of_option o (λ (e : SharedPath). marks_any file e i r) ≡ true → in_row i r ≡ true
    go None n = absurd (cc (n))
    go (Some e) n =
        any_only (λ (x : Exclusion). marks file x i r) (in_row i r) (λ x m. mark_inside file i r x m) e.exclusions n

-- where the first members give what all can give, the others change nothing
whole_any : {A : Type 0} (p : A → Bool) (b : Bool) → ((x : A) → p x ≡ true → b ≡ true)
    → (xs : List A) (n : ℕ) (now old : Bool) → (b ≡ true → now ≡ true) → now ≡ (old || list_any p (take n xs))
    → now ≡ (old || list_any p xs)
whole_any p b h xs n now old whole so_far =
    so_far ∙ by (list_any p (drop n xs)) refl (old || list_any p (take n xs)) (sym so_far)
    ∙ or_join old (list_any p (take n xs)) (list_any p (drop n xs))
    ∙ ap (λ (c : Bool). old || c)
    (sym (list_any-append p (take n xs) (drop n xs)) ∙ ap (list_any p) (take-append-drop n xs))
  where
    by : (rest : Bool) → list_any p (drop n xs) ≡ rest → (c : Bool) → c ≡ now → c ≡ (c || rest)
    by false e c same = sym (or_false c)
    by true e c same = let yes : c ≡ true = same ∙ whole (any_only p b h (drop n xs) e) in yes ∙ sym (ap (λ (x : Bool). x || true) yes)

-- where a box is excluded whole after some exclusions, the others change nothing
pub whole_same : (file : List ℕ) (es : List SharedPath) (i : ℕ) (r : RootBox) (ks : List ℕ) (n : ℕ) (now old : Bool)
    → (in_row i r ≡ true → now ≡ true) → now ≡ (old || list_any (through file es i r) (take n ks))
    → now ≡ (old || list_any (through file es i r) ks)
whole_same file es i r ks n now old whole so_far =
    whole_any (through file es i r) (in_row i r) (λ k h. through_inside file es i r k h) ks n now old whole so_far

-- where a box is excluded whole after some exclusions of one path, the others change nothing
pub whole_asks : (file : List ℕ) (i : ℕ) (r : RootBox) (es : List Exclusion) (n : ℕ) (now old : Bool)
    → (in_row i r ≡ true → now ≡ true) → now ≡ (old || list_any (λ (e : Exclusion). marks file e i r) (take n es))
    → now ≡ (old || list_any (λ (e : Exclusion). marks file e i r) es)
whole_asks file i r es n now old whole so_far =
    whole_any (λ (e : Exclusion). marks file e i r) (in_row i r) (λ e h. mark_inside file i r e h) es n now old whole
    so_far
