-- The box offsets of root boxes: each at the first position of its box that is left.
use Rattle.std.proofs.Common.{◌≡◌, ℕ, zero, suc, ◌+◌, ◌-◌, ◌<◌, ◌≤◌, ◌⊎◌, inl, inr, ⊎_elim, Bool, true, false, cond, List, [], ◌∷◌, ◌++◌, length, get_or, take, drop, refl, sym, ap, subst, ◌∙◌, arith}
use Rattle.std.specs.Prelude.{filter, not}
use Rattle.std.specs.List.{range_with_len}
use Rattle.std.proofs.Math.Seq.{drop-cons}
use Rattle.std.proofs.lemmas.Bool.{cases_lt, false≢true, le-leb, lt-leb}
use Rattle.std.proofs.lemmas.Grind.{flat_map-append}
use Rattle.std.proofs.lemmas.List.{append-nil}
use Rattle.c2_base.specs.declared.values.Range.{Range}
use Rattle.c2_bmff_rows.specs.declared.row.RootBox.{RootBox}
use Rattle.c2_spec.specs.Cover.{is_excluded}
use Rattle.c2_cover.specs.Covers.{AreMerged}
use Rattle.c2_cover.specs.Telling.{Follow, StandBy, TellsAll, TellsTo, ending_after, skipped}
use Rattle.c2_cover.specs.BoxOffsets.{AreBoxOffsets, at_first, word_of, offsets_of}
use Rattle.c2_cover.specs.declared.offsets.BoxOffset.{BoxOffset}
use Rattle.c2_cover.proofs.MergedLemmas.{excluded_none, excluded_first, excluded_after, merged_lower}
use Rattle.c2_cover.proofs.ToldLemmas.{Rise, rise_lower}

-- the positions of `n` from `s` on that aren't excluded
abbrev pub left_in : (ℕ → Bool) → ℕ → ℕ → List ℕ
left_in ex s n = filter (λ i. not (ex i)) (range_with_len s n)

-- None of `n` positions from `s` on is left.
pub record NoneLeft (ex : ℕ → Bool) (s n : ℕ) : Type 0 where
  pub all : (i : ℕ) → s ≤ i → i < s + n → ex i ≡ true
  pub is : left_in ex s n ≡ []

-- The first of them that is left is `k`.
pub record FirstLeft (ex : ℕ → Bool) (s n k : ℕ) : Type 0 where
  pub from : s ≤ k
  pub to : k < s + n
  pub before : (i : ℕ) → s ≤ i → i < k → ex i ≡ true
  pub here : ex k ≡ false
  pub others : List ℕ
  pub is : left_in ex s n ≡ k ∷ others

-- one of the two holds
pub first_left : (ex : ℕ → Bool) (s n : ℕ) → NoneLeft ex s n ⊎ ((k : ℕ) × FirstLeft ex s n k)
first_left ex s zero = inl (record { all = λ i l m. absurd (omega (arith, l, m)); is = refl })
first_left ex s (suc n) = go (ex s) refl (first_left ex (s + 1) n)
  where
    more : ex s ≡ true → left_in ex s (suc n) ≡ left_in ex (s + 1) n
    more e = ap (λ b. cond (not b) (s ∷ left_in ex (s + 1) n) (left_in ex (s + 1) n)) e

    first : (i : ℕ) → ex s ≡ true → s ≤ i → i < s + 1 → ex i ≡ true
    first i e l m = let same : i ≡ s = omega (arith, l, m) in ap ex same ∙ e

    go : (b : Bool) → ex s ≡ b → NoneLeft ex (s + 1) n ⊎ ((k : ℕ) × FirstLeft ex (s + 1) n k)
        → NoneLeft ex s (suc n) ⊎ ((k : ℕ) × FirstLeft ex s (suc n) k)
    go false e _ = inr (
      s,
      record {
        from = omega arith;
        to = omega arith;
        before = λ i l m. absurd (omega (arith, l, m));
        here = e;
        others = left_in ex (s + 1) n;
        is = ap (λ b. cond (not b) (s ∷ left_in ex (s + 1) n) (left_in ex (s + 1) n)) e;
      },
    )
    go true e (inl none) = inl (record {
      all =
          λ i l m. ⊎_elim (λ here. first i e l here) (λ later. none.all i later (omega (arith, m))) (cases_lt i (s + 1));
      is = more e ∙ none.is;
    })
    go true e (inr (k, f)) = inr (
      k,
      record {
        from = omega (arith, f.from);
        to = omega (arith, f.to);
        before = λ i l m. ⊎_elim (λ here. first i e l here) (λ later. f.before i later m) (cases_lt i (s + 1));
        here = f.here;
        others = f.others;
        is = more e ∙ f.is;
      },
    )

-- a box of which nothing is left has no box offset
pub word_none : (ex : ℕ → Bool) (row : RootBox) → NoneLeft ex row.start row.length → word_of ex row ≡ []
word_none ex row none = ap (at_first row.start) none.is

-- another has its start at the first position that is left
pub word_some : (ex : ℕ → Bool) (row : RootBox) (k : ℕ) → FirstLeft ex row.start row.length k
    → word_of ex row ≡ record { at = k; start = row.start } ∷ []
word_some ex row k f = ap (at_first row.start) f.is

-- ---- the box offsets of all boxes

-- of boxes that follow each other the box offsets rise
pub follow_rise : (ex : ℕ → Bool) (low : ℕ) (rows : List RootBox) → Follow low rows → Rise low (offsets_of ex rows)
follow_rise ex low [] f = tt
follow_rise ex low (row ∷ rows) f = go (follow_rise ex (low + row.length) rows f.1) (first_left ex row.start row.length)
  where
    more : List BoxOffset
    more = offsets_of ex rows

    go : Rise (low + row.length) more
        → NoneLeft ex row.start row.length ⊎ ((k : ℕ) × FirstLeft ex row.start row.length k)
        → Rise low (word_of ex row ++ more)
    go r (inl none) =
        subst (λ (xs : List BoxOffset). Rise low (xs ++ more)) (sym (word_none ex row none))
        (rise_lower (low + row.length) low more (omega arith) r)
    go r (inr (k, x)) =
        subst (λ (xs : List BoxOffset). Rise low (xs ++ more)) (sym (word_some ex row k x))
        (omega (arith, x.from, f.0), rise_lower (low + row.length) k more (omega (arith, x.to, f.0)) r)

-- one box offset more, after all others
words_snoc : (size low : ℕ) (rs : List Range) (ws : List BoxOffset) (w : BoxOffset) → AreBoxOffsets size rs low ws
    → StandBy w.at ws → low ≤ w.at → w.at < size → is_excluded rs w.at ≡ false
    → AreBoxOffsets size rs low (ws ++ w ∷ [])
words_snoc size low rs [] w a s l i e = (l, i, e, tt)
words_snoc size low rs (v ∷ vs) w a s l i e = (a.0, a.1, a.2, words_snoc size v.at rs vs w a.3 s.1 s.0 i e)

-- no box offset stands after a later position
stand_later : (low low' : ℕ) (ws : List BoxOffset) → low ≤ low' → StandBy low ws → StandBy low' ws
stand_later low low' [] l s = tt
stand_later low low' (w ∷ ws) l s = (omega (arith, s.0), stand_later low low' ws l s.1)

-- and none after the last box offset
stand_snoc : (ws : List BoxOffset) (w : BoxOffset) → StandBy w.at ws → StandBy w.at (ws ++ w ∷ [])
stand_snoc [] w s = (omega arith, tt)
stand_snoc (v ∷ vs) w s = (s.0, stand_snoc vs w s.1)

-- ---- as the code finds them

-- what a place behind all boxes reads as
abbrev pub no_row : RootBox
no_row = record { start = 0; length = 0; header = 0; kind = []; to_end = false }

-- the first of the ranges ends after this position
abbrev pub EndsAfter : ℕ → List Range → Type 0
EndsAfter at [] = Unit {0}
EndsAfter at (r ∷ rs) = at < r.start + r.length

-- The ranges that end after a position exclude the same from it on.
pub record Ends (size low at : ℕ) (rs ds : List Range) : Type 0 where
  pub merged : AreMerged size low ds
  pub same : (i : ℕ) → at ≤ i → is_excluded ds i ≡ is_excluded rs i
  pub first : EndsAfter at ds

-- past those that end before it, they are these
pub ends_after : (size low at : ℕ) (rs : List Range) → AreMerged size low rs → Ends size low at rs (ending_after at rs)
ends_after size low at [] m = record { merged = tt; same = λ i l. refl; first = tt }
ends_after size low at (r ∷ rs) m = go (ends_after size (r.start + r.length + 1) at rs m.3) (cases_lt at (r.start + r.length))
  where
    go : Ends size (r.start + r.length + 1) at rs (ending_after at rs)
        → (at < r.start + r.length) ⊎ (r.start + r.length ≤ at) → Ends size low at (r ∷ rs) (ending_after at (r ∷ rs))
    go e (inl l) =
        subst (Ends size low at (r ∷ rs))
        (sym (ap (λ b. cond b (ending_after at rs) (r ∷ rs)) (lt-leb (r.start + r.length) at l)))
        (record { merged = m; same = λ i k. refl; first = l })
    go e (inr l) = subst (Ends size low at (r ∷ rs)) (sym (ap (λ b. cond b (ending_after at rs) (r ∷ rs)) (le-leb (r.start + r.length) at l)))
        (record { merged = merged_lower size (r.start + r.length + 1) low (ending_after at rs) (omega (arith, m.0)) e.merged; same = λ i k. e.same i k ∙ sym (excluded_after r rs i (omega (arith, l, k))); first = e.first })

-- The first `k` positions from `at` on are excluded, and the next isn't.
pub record Skips (ds : List Range) (at k : ℕ) : Type 0 where
  pub before : (i : ℕ) → at ≤ i → i < at + k → is_excluded ds i ≡ true
  pub here : is_excluded ds (at + k) ≡ false

-- the first range says how many
pub skips : (size low at : ℕ) (ds : List Range) → AreMerged size low ds → EndsAfter at ds → Skips ds at (skipped at ds)
skips size low at [] m e = record { before = λ i l k. absurd (omega (arith, l, k)); here = refl }
skips size low at (r ∷ rs) m e = go (cases_lt at r.start)
  where
    go : (at < r.start) ⊎ (r.start ≤ at) → Skips (r ∷ rs) at (skipped at (r ∷ rs))
    go (inl l) =
        let none : at + 0 < r.start = omega (arith, l) in
        subst (Skips (r ∷ rs) at) (sym (ap (λ b. cond b (r.length - (at - r.start)) 0) (lt-leb r.start at l)))
        (record { before = λ i a b. absurd (omega (arith, a, b)); here = excluded_none size r.start (r ∷ rs) (omega arith, m.1, m.2, m.3) (at + 0) none })
    go (inr l) =
        let past : at + (r.length - (at - r.start)) ≡ r.start + r.length = omega (arith, l, e) in
        subst (Skips (r ∷ rs) at) (sym (ap (λ b. cond b (r.length - (at - r.start)) 0) (le-leb r.start at l)))
        (record {
          before = λ i a b. excluded_first r rs i (omega (arith, a, l)) (omega (arith, b, past));
          here =
              ap (is_excluded (r ∷ rs)) past ∙ excluded_after r rs (r.start + r.length) (omega arith)
              ∙ excluded_none size (r.start + r.length + 1) rs m.3 (r.start + r.length) (omega arith);
        })

-- the box offset of a box of which more is left than is skipped
word_skips : (ex : ℕ → Bool) (row : RootBox) (k : ℕ) → ((i : ℕ) → row.start ≤ i → i < row.start + k → ex i ≡ true)
    → ex (row.start + k) ≡ false → k < row.length
    → word_of ex row ≡ record { at = row.start + k; start = row.start } ∷ []
word_skips ex row k before here l = go (first_left ex row.start row.length)
  where
    go : NoneLeft ex row.start row.length ⊎ ((j : ℕ) × FirstLeft ex row.start row.length j)
        → word_of ex row ≡ record { at = row.start + k; start = row.start } ∷ []
    go (inl none) = absurd (false≢true (sym here ∙ none.all (row.start + k) (omega arith) (omega (arith, l))))
    go (inr (j, f)) =
        let least : row.start + k ≤ j =
        ⊎_elim (λ less. absurd (false≢true (sym f.here ∙ before j f.from less))) (λ m. m)
        (cases_lt j (row.start + k)) in
        let most : j ≤ row.start + k =
        ⊎_elim (λ less. absurd (false≢true (sym here ∙ f.before (row.start + k) (omega arith) less))) (λ m. m)
        (cases_lt (row.start + k) j) in
        let same : j ≡ row.start + k = omega (arith, least, most) in
        word_some ex row j f ∙ ap (λ (i : ℕ). record { at = i; start = row.start } ∷ []) same

-- none where the whole box is
word_skipped : (ex : ℕ → Bool) (row : RootBox) (k : ℕ) → ((i : ℕ) → row.start ≤ i → i < row.start + k → ex i ≡ true)
    → row.length ≤ k → word_of ex row ≡ []
word_skipped ex row k before l = go (first_left ex row.start row.length)
  where
    go : NoneLeft ex row.start row.length ⊎ ((j : ℕ) × FirstLeft ex row.start row.length j) → word_of ex row ≡ []
    go (inl none) = word_none ex row none
    go (inr (j, f)) = absurd (false≢true (sym f.here ∙ before j f.from (omega (arith, l, f.to))))

-- the box offsets of one box more
words_more : (ex : ℕ → Bool) (rows : List RootBox) (n : ℕ) (row : RootBox) (offsets more : List BoxOffset)
    → take (n + 1) rows ≡ take n rows ++ row ∷ [] → offsets ≡ offsets_of ex (take n rows) → word_of ex row ≡ more
    → offsets ++ more ≡ offsets_of ex (take (n + 1) rows)
words_more ex rows n row offsets more t e w =
    ap (λ (xs : List BoxOffset). xs ++ more) e
    ∙ ap (λ (xs : List BoxOffset). offsets_of ex (take n rows) ++ xs) (sym w ∙ sym (append-nil (word_of ex row)))
    ∙ sym (flat_map-append (word_of ex) (take n rows) (row ∷ [])) ∙ sym (ap (offsets_of ex) t)

-- What the code finds at a box: the ranges that end after its start, and how many of its positions the first of them excludes.
pub record Finds (ranges_left : List Range) (row : RootBox) (ds : List Range) (k : ℕ) : Type 0 where
  pub ends : ds ≡ ending_after row.start ranges_left
  pub skips : k ≡ skipped row.start ds

-- The first `k` positions of the box are excluded, and the next isn't; and the ranges that are found go on from there.
record Passed (size : ℕ) (ranges ranges_left : List Range) (row : RootBox) (ds : List Range) (k : ℕ) : Type 0 where
  pub ends : Ends size 0 row.start ranges_left ds
  pub before : (i : ℕ) → row.start ≤ i → i < row.start + k → is_excluded ranges i ≡ true
  pub here : is_excluded ranges (row.start + k) ≡ false

-- where the ranges ahead are passed up to this box
passed :
    (size : ℕ) (ranges : List Range) (rows : List RootBox) (n : ℕ) (ranges_left : List Range) (low : ℕ)
    (offsets : List BoxOffset) (row : RootBox) (ds : List Range) (k : ℕ)
    → TellsTo size ranges rows n ranges_left low offsets → low ≤ row.start → Finds ranges_left row ds k
    → Passed size ranges ranges_left row ds k
passed size ranges rows n ranges_left low offsets row ds k t l found =
    let e : Ends size 0 row.start ranges_left ds =
    subst (Ends size 0 row.start ranges_left) (sym found.ends) (ends_after size 0 row.start ranges_left t.merged) in
    let s : Skips ds row.start k =
    subst (Skips ds row.start) (sym found.skips) (skips size 0 row.start ds e.merged e.first) in
    record {
      ends = e;
      before = λ i a b. sym (e.same i a ∙ t.same i (omega (arith, a, l))) ∙ s.before i a b;
      here = sym (e.same (row.start + k) (omega arith) ∙ t.same (row.start + k) (omega (arith, l))) ∙ s.here;
    }

-- the box offsets of one box more, where the boxes follow each other
all_more : (ex : ℕ → Bool) (rows : List RootBox) (n low low' : ℕ) (offsets more : List BoxOffset) (row : RootBox)
    → TellsAll ex rows n low offsets → drop n rows ≡ row ∷ drop (n + 1) rows
    → take (n + 1) rows ≡ take n rows ++ row ∷ [] → word_of ex row ≡ more → low' ≤ row.start + row.length
    → TellsAll ex rows (n + 1) low' (offsets ++ more)
all_more ex rows n low low' offsets more row t d l w later =
    let follow : Follow t.from (row ∷ drop (n + 1) rows) = subst (λ (xs : List RootBox). Follow t.from xs) d t.follow in
    record {
      from = t.from + row.length;
      follow = follow.1;
      later = omega (arith, later, follow.0);
      are = words_more ex rows n row offsets more l t.are w;
    }

-- a box with its box offset
pub tells_word : (size : ℕ) (ranges : List Range) (rows : List RootBox) (n : ℕ) (ranges_left : List Range) (low : ℕ)
    (offsets : List BoxOffset) (row : RootBox) (ds : List Range) (k : ℕ) → TellsTo size ranges rows n ranges_left low
    offsets
    → drop n rows ≡ row ∷ drop (n + 1) rows → take (n + 1) rows ≡ take n rows ++ row ∷ []
    → low ≤ row.start → Finds ranges_left row ds k → k < row.length → row.start + row.length ≤ size
    → TellsTo size ranges rows (n + 1) ds (row.start + k) (offsets ++ record { at = row.start + k; start = row.start } ∷ [])
tells_word size ranges rows n ranges_left low offsets row ds k t d l from found less inside =
    let p : Passed size ranges ranges_left row ds k =
    passed size ranges rows n ranges_left low offsets row ds k t from found in
    let offset : BoxOffset = record { at = row.start + k; start = row.start } in
    let by : StandBy (row.start + k) offsets = stand_later low (row.start + k) offsets (omega (arith, from)) t.by in
    record {
      merged = p.ends.merged;
      same = λ i a. p.ends.same i (omega (arith, a)) ∙ t.same i (omega (arith, a, from));
      rise = words_snoc size 0 ranges offsets offset t.rise by (omega arith) (omega (arith, less, inside)) p.here;
      by = stand_snoc offsets offset by;
      all =
          λ f. all_more (is_excluded ranges) rows n low (row.start + k) offsets (offset ∷ []) row (t.all f) d l (word_skips (is_excluded ranges) row k p.before p.here less) (omega (arith, less));
    }

-- a box that has none
pub tells_none : (size : ℕ) (ranges : List Range) (rows : List RootBox) (n : ℕ) (ranges_left : List Range) (low : ℕ)
    (offsets : List BoxOffset) (row : RootBox) (ds : List Range) (k : ℕ) → TellsTo size ranges rows n ranges_left low
    offsets
    → drop n rows ≡ row ∷ drop (n + 1) rows → take (n + 1) rows ≡ take n rows ++ row ∷ []
    → low ≤ row.start → Finds ranges_left row ds k → row.length ≤ k
    → TellsTo size ranges rows (n + 1) ds row.start offsets
tells_none size ranges rows n ranges_left low offsets row ds k t d l from found most =
    let p : Passed size ranges ranges_left row ds k =
    passed size ranges rows n ranges_left low offsets row ds k t from found in
    record {
      merged = p.ends.merged;
      same = λ i a. p.ends.same i a ∙ t.same i (omega (arith, a, from));
      rise = t.rise;
      by = stand_later low row.start offsets from t.by;
      all = λ f. subst (TellsAll (is_excluded ranges) rows (n + 1) row.start) (append-nil offsets)
          (all_more (is_excluded ranges) rows n low row.start offsets [] row (t.all f) d l (word_skipped (is_excluded ranges) row k p.before most) (omega arith));
    }

-- a box that begins before the last box offset, which none of boxes does that follow each other
pub tells_over :
    (size : ℕ) (ranges : List Range) (rows : List RootBox) (n : ℕ) (ranges_left : List Range) (low : ℕ)
    (offsets : List BoxOffset) (row : RootBox)
    → TellsTo size ranges rows n ranges_left low offsets → drop n rows ≡ row ∷ drop (n + 1) rows → row.start < low
    → TellsTo size ranges rows (n + 1) ranges_left low offsets
tells_over size ranges rows n ranges_left low offsets row t d less = record {
  merged = t.merged;
  same = t.same;
  rise = t.rise;
  by = t.by;
  all = λ f. absurd (no_follow f);
}
  where
    no_follow : Follow 0 rows → ⊥
    no_follow f =
        let a : TellsAll (is_excluded ranges) rows n low offsets = t.all f in
        let follow : Follow a.from (row ∷ drop (n + 1) rows) =
        subst (λ (xs : List RootBox). Follow a.from xs) d a.follow in
        omega (arith, follow.0, a.later, less)

-- the next of the boxes, and the others
pub next_row : (rows : List RootBox) (n : ℕ) → n < length rows → drop n rows ≡ get_or rows n no_row ∷ drop (n + 1) rows
next_row rows n l = let one : suc n ≡ n + 1 = omega arith in drop-cons rows n no_row l ∙ ap (λ m. get_or rows n no_row ∷ drop m rows) one
