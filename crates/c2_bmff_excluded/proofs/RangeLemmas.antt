-- Ranges that are added to others: what they exclude, and whether they stay apart.
use Rattle.std.proofs.Common.{◌≡◌, ℕ, ◌+◌, ◌-◌, ◌<◌, ◌≤◌, max, Bool, true, false, ◌||◌, List, [], ◌∷◌, ◌++◌, take, drop, sym, ap, refl, ◌∙◌, arith}
use Rattle.std.specs.Prelude.{OnErr, Ok, Err}
use Rattle.std.specs.List.{AllByRecursion, list_any}
use Rattle.std.specs.declared.result.Result.{Result}
use Rattle.std.proofs.lemmas.Bool.Decides.{nat_tests}
use Rattle.std.proofs.lemmas.List.{take-append-drop}
use Rattle.std.proofs.lemmas.List.Folds.{list_any-append}
use Rattle.c2_base.specs.declared.values.Range.{Range}
use Rattle.c2_bmff_rows.specs.declared.row.RootBox.{RootBox}
use Rattle.c2_spec.specs.Cover.{holds, is_excluded}
use Rattle.c2_bmff_excluded.specs.Marks.{AreApart, GrowsWithin, in_row, in_row_part}
use Rattle.c2_bmff_excluded.proofs.MarkLemmas.{parts_are}
use Rattle.c2_lemmas.proofs.Bools.{first_true}

-- ---- what they exclude

-- ranges that stay as they were exclude what they did
pub grows_same : (more : ℕ → Bool) (old new : List Range) → new ≡ old → GrowsWithin more old new
grows_same more old new same i = (λ h. e ∙ h, λ h. ap (λ (a : Bool). a || more i) (sym e ∙ h))
  where
    e : is_excluded new i ≡ is_excluded old i
    e = ap (λ (rs : List Range). is_excluded rs i) same

-- ranges that exclude some of what is to be added
pub grows_some : (more some : ℕ → Bool) (old new : List Range)
    → ((i : ℕ) → is_excluded new i ≡ (is_excluded old i || some i)) → ((i : ℕ) → some i ≡ true → more i ≡ true)
    → GrowsWithin more old new
grows_some more some old new is less i = (λ h. is i ∙ ap (λ (a : Bool). a || some i) h, λ h. by (is_excluded old i) (some i) (less i) (sym (is i) ∙ h))
  where
    by : (a s : Bool) → (s ≡ true → more i ≡ true) → (a || s) ≡ true → (a || more i) ≡ true
    by true s l h = refl
    by false s l h = l h

-- some of the first members is some of all
pub any_first : {A : Type 0} (p : A → Bool) (k : ℕ) (xs : List A) → list_any p (take k xs) ≡ true → list_any p xs ≡ true
any_first p k xs h =
    ap (list_any p) (sym (take-append-drop k xs)) ∙ list_any-append p (take k xs) (drop k xs)
    ∙ ap (λ (a : Bool). a || list_any p (drop k xs)) h

-- a position of some part of a box is one of the box
pub parts_in_row : (i : ℕ) (r : RootBox) (parts : List Range) → list_any (in_row_part i r) parts ≡ true
    → in_row i r ≡ true
parts_in_row i r parts h = first_true (in_row i r) _ (sym (parts_are i r parts) ∙ h)

-- a range that is made longer by one that begins in it or at its end
pub holds_both : (i : ℕ) (last range : Range) (n : ℕ) → last.start ≤ range.start
    → range.start - last.start ≤ last.length → n ≡ max last.length (range.start - last.start + range.length)
    → holds i (record { start = last.start; length = n }) ≡ (holds i last || holds i range)
holds_both i last range n from touches is = grind (arith, nat_tests)

-- ---- whether they stay apart

-- a range behind all others
pub apart_push : (low : ℕ) (xs : List Range) (r : Range) → AreApart low xs
    → AllByRecursion (λ (x : Range). x.start + x.length < r.start) xs → low ≤ r.start → 0 < r.length
    → AreApart low (xs ++ r ∷ [])
apart_push low [] r h all from some = (from, some, tt)
apart_push low (x ∷ xs) r h all from some =
    (h.0, h.1, apart_push (x.start + x.length + 1) xs r h.2 all.1 (omega (arith, all.0)) some)

-- what ranges that are apart have with a last one
pub record HasLast (low : ℕ) (xs : List Range) (r : Range) : Type 0 where
  pub front : AreApart low xs
  pub before : AllByRecursion (λ (x : Range). x.start + x.length < r.start) xs
  pub from : low ≤ r.start
  pub some : 0 < r.length

-- ranges that are apart, with a last one, have what such ranges have
pub apart_last : (low : ℕ) (xs : List Range) (r : Range) → AreApart low (xs ++ r ∷ []) → HasLast low xs r
apart_last low [] r h = record { front = tt; before = tt; from = h.0; some = h.1 }
apart_last low (x ∷ xs) r h =
    let rest : HasLast (x.start + x.length + 1) xs r = apart_last (x.start + x.length + 1) xs r h.2 in
    record
    { front = (h.0, h.1, rest.front); before = (omega (arith, rest.from), rest.before); from = omega (arith, h.0, rest.from); some = rest.some }

-- ranges that end before one do so before a later one, and with it as well
ends_more : (xs : List Range) (r s : Range) → AllByRecursion (λ (x : Range). x.start + x.length < r.start) xs
    → r.start + r.length < s.start → AllByRecursion (λ (x : Range). x.start + x.length < s.start) (xs ++ r ∷ [])
ends_more [] r s all later = (later, tt)
ends_more (x ∷ xs) r s all later = (omega (arith, all.0, later), ends_more xs r s all.1 later)

-- a last range that is made longer
pub apart_longer : (xs : List Range) (r s : Range) → AreApart 0 (xs ++ r ∷ []) → s.start ≡ r.start → 0 < s.length
    → AreApart 0 (xs ++ s ∷ [])
apart_longer xs r s h same some =
    let last = apart_last 0 xs r h in
    apart_push 0 xs s last.front (as_far xs last.before) (omega arith) some
  where
    as_far : (ys : List Range) → AllByRecursion (λ (x : Range). x.start + x.length < r.start) ys
        → AllByRecursion (λ (x : Range). x.start + x.length < s.start) ys
    as_far [] all = tt
    as_far (y ∷ ys) all = (omega (arith, all.0, same), as_far ys all.1)

-- one more range behind the last
pub apart_more : (xs : List Range) (r s : Range) → AreApart 0 (xs ++ r ∷ []) → r.start + r.length < s.start
    → 0 < s.length → AreApart 0 ((xs ++ r ∷ []) ++ s ∷ [])
apart_more xs r s h later some =
    let last = apart_last 0 xs r h in
    apart_push 0 (xs ++ r ∷ []) s h (ends_more xs r s last.before later) (omega arith) some

-- ---- answers

-- what is so is so of an error
pub on_err : {T E : Type 0} (r : Result T E) {P : Type 0} → P → OnErr r P
on_err (Ok x) p = tt
on_err (Err e) p = p

-- positions that are told in another way
pub grows_as : (more other : ℕ → Bool) (old new : List Range) → ((i : ℕ) → more i ≡ other i) → GrowsWithin more old new
    → GrowsWithin other old new
grows_as more other old new same h i =
    ((h i).0, λ e. ap (λ (b : Bool). is_excluded old i || b) (sym (same i)) ∙ (h i).1 e)
