-- Places among root boxes, by their rows.
use Rattle.std.proofs.Common.{◌≡◌, ℕ, zero, suc, ◌+◌, ◌-◌, ◌^◌, ◌<◌, ◌≤◌, Bool, true, false, not, cond, ◌&&◌, List, [], ◌∷◌, ◌++◌, length, get_or, take, drop, map, Option, Some, None, Ok, Err, refl, sym, ap, ap₂, subst, ◌∙◌, arith, append-nil, length-append}
use Rattle.std.proofs.lemmas.List.{drop_all, length-map, length-drop, length-take, take-map}
use Rattle.std.specs.Prelude.{IfOk}
use Rattle.std.specs.List.{sum_by, AllByRecursion}
use Rattle.std.specs.Str.{bytes_eq}
use Rattle.std.specs.declared.result.Result.{Result}
use Rattle.c2_base.specs.declared.media.MediaError.{MediaError}
use Rattle.c2_base.specs.declared.media.MediaError.TheVariants.{BadBox}
use Rattle.c2_spec.specs.Bmff.Boxes.{Box, IsBox, box_len, boxes_len, is_to_end}
use Rattle.c2_spec.specs.Bmff.Paths.{PlacedBox, placed_from}
use Rattle.c2_bmff_boxes.specs.Places.{HasRoom, place_at, place_behind, place_less}
use Rattle.c2_bmff_boxes.specs.Roots.{FillSource, skipped_len}
use Rattle.c2_bmff_rows.specs.Rows.{IsBoxWithin, row_of, rows_of}
use Rattle.c2_spec.specs.Bmff.Writing.{before_mfra, insert_place, is_mfra, less, mfra_kind, open_end, place_or, place_without}
use Rattle.c2_bmff_rows.specs.declared.row.RootBox.{RootBox}
use Rattle.c2_bmff_boxes.proofs.Filling.{fill_end, fill_within_by}
use Rattle.c2_bmff_rows.proofs.Lists.{length-placed}
use Rattle.c2_lemmas.proofs.Parts.{each_take}
use Rattle.c2_spec.proofs.BmffShared.{boxes_length_more}

-- ---- the last row

-- the place at the last of rows
pub behind_last : (out : ℕ) (rows : List RootBox) (d : RootBox) → 0 < length rows
    → place_behind out rows ≡ place_at (get_or rows (length rows - 1) d) out
behind_last out [] d some = absurd (omega arith)
behind_last out (r ∷ []) d some = let e : length (r ∷ []) - 1 ≡ 0 = omega arith in ap (λ (n : ℕ). place_at (get_or (r ∷ []) n d) out) (sym e)
behind_last out (r ∷ s ∷ rs) d some =
    let e : length (r ∷ s ∷ rs) - 1 ≡ suc (length (s ∷ rs) - 1) = omega arith in
    behind_last out (s ∷ rs) d (omega arith) ∙ ap (λ (n : ℕ). place_at (get_or (r ∷ s ∷ rs) n d) out) (sym e)

-- the room before the last of rows
pub room_last : (out : ℕ) (rows : List RootBox) (d : RootBox) → 0 < length rows → HasRoom out rows
    → (out ≤ (get_or rows (length rows - 1) d).start) × ((get_or rows (length rows - 1) d).start + (get_or rows (length rows - 1) d).length < 2 ^ 64)
room_last out [] d some h = absurd (omega arith)
room_last out (r ∷ []) d some h = let e : length (r ∷ []) - 1 ≡ 0 = omega arith in subst (λ (n : ℕ). (out ≤ (get_or (r ∷ []) n d).start) × ((get_or (r ∷ []) n d).start + (get_or (r ∷ []) n d).length < 2 ^ 64)) (sym e) h
room_last out (r ∷ s ∷ rs) d some h =
    let e : length (r ∷ s ∷ rs) - 1 ≡ suc (length (s ∷ rs) - 1) = omega arith in
    subst
    (λ (n : ℕ). (out ≤ (get_or (r ∷ s ∷ rs) n d).start) × ((get_or (r ∷ s ∷ rs) n d).start + (get_or (r ∷ s ∷ rs) n d).length < 2 ^ 64))
    (sym e) (room_last out (s ∷ rs) d (omega arith) h)

-- rows after the first count alone
behind_more : (out : ℕ) (r : RootBox) (rs : List RootBox) → 0 < length rs
    → place_behind out (r ∷ rs) ≡ place_behind out rs
behind_more out r [] some = absurd (omega arith)
behind_more out r (s ∷ rs) some = refl

-- rows have room behind one more row, where there are some
room_more : (out : ℕ) (r : RootBox) (rs : List RootBox) → 0 < length rs → HasRoom out rs → HasRoom out (r ∷ rs)
room_more out r [] some h = absurd (omega arith)
room_more out r (s ∷ rs) some h = h

-- rows that fill a file from a place on have so much room
room_from : (size low out : ℕ) (rows : List RootBox) → FillSource size low rows → size < 2 ^ 64 → 0 < length rows
    → out ≤ low → HasRoom out rows
room_from size low out [] f small some h = absurd (omega arith)
room_from size low out (r ∷ []) f small some h = (omega (arith, f.0, h), omega (arith, f.0, f.3, small))
room_from size low out (r ∷ s ∷ rs) f small some h =
    room_from size (low + r.length) out (s ∷ rs) f.3 small (omega arith) (omega (arith, h))

-- where one before the last is left out, there is room for it
pub room_skip : (size low i : ℕ) (rows : List RootBox) → FillSource size low rows → size < 2 ^ 64 → i + 1 < length rows
    → HasRoom (skipped_len (Some i) rows) rows
room_skip size low i [] f small more = absurd (omega (arith, more))
room_skip size low zero (r ∷ rs) f small more =
    room_more (0 + r.length) r rs (omega (arith, more))
    (room_from size (low + r.length) (0 + r.length) rs f.3 small (omega (arith, more)) (omega arith))
room_skip size low (suc i) (r ∷ rs) f small more =
    room_more (skipped_len (Some i) rs) r rs (omega (arith, more))
    (room_skip size (low + r.length) i rs f.3 small (omega (arith, more)))

-- where nothing before the last is left out, the rows must end in a file
room_ends : (size : ℕ) (rows : List RootBox) → AllByRecursion (IsBoxWithin size) rows → size < 2 ^ 64 → HasRoom 0 rows
room_ends size [] h small = refl
room_ends size (r ∷ []) h small = (omega arith, omega (arith, h.0, small))
room_ends size (r ∷ s ∷ rs) h small = room_ends size (s ∷ rs) h.1 small

-- all rows of a file
pub room_whole : (size low : ℕ) (rows : List RootBox) → FillSource size low rows → size < 2 ^ 64 → HasRoom 0 rows
room_whole size low rows f small = room_ends size rows (fill_within_by size low rows f) small

-- the first rows of a file
pub room_front : (size low i : ℕ) (rows : List RootBox) → FillSource size low rows → size < 2 ^ 64
    → HasRoom 0 (take i rows)
room_front size low i rows f small =
    room_ends size (take i rows) (each_take (IsBoxWithin size) i rows (fill_within_by size low rows f)) small

-- ---- the place lies in the file

-- at a last row
at_in : (out : ℕ) (r : RootBox) → out ≤ r.start → IfOk (place_at r out) (λ at. at + out ≤ r.start + r.length)
at_in out r h = go (bytes_eq r.kind mfra_kind) r.to_end
  where
    go : (m t : Bool)
        → IfOk (cond m (Ok (r.start - out)) (cond t (Err (BadBox r.start)) (Ok (r.start + r.length - out)))) (λ at. at + out ≤ r.start + r.length)
    go true t = omega (arith, h)
    go false true = tt
    go false false = omega (arith, h)

-- at the last of rows that fill a file
pub behind_in : (size low out : ℕ) (rows : List RootBox) → FillSource size low rows → HasRoom out rows
    → IfOk (place_behind out rows) (λ at. at + out ≤ size)
behind_in size low out [] f h = omega (arith, h)
behind_in size low out (r ∷ []) f h = at_size (place_at r out) (omega (arith, f.0, f.3)) (at_in out r h.0)
  where
    at_size : (p : Result ℕ MediaError) → r.start + r.length ≡ size → IfOk p (λ at. at + out ≤ r.start + r.length)
        → IfOk p (λ at. at + out ≤ size)
    at_size (Ok at) e k = omega (arith, e, k)
    at_size (Err x) e k = tt
behind_in size low out (r ∷ s ∷ rs) f h = behind_in size (low + r.length) out (s ∷ rs) f.3 h

-- where the last is left out
pub front_in : (size low i : ℕ) (rows : List RootBox) → FillSource size low rows → i + 1 ≡ length rows
    → IfOk (place_behind 0 (take i rows)) (λ at. at + skipped_len (Some i) rows ≤ size)
front_in size low i [] f e = absurd (omega (arith, e))
front_in size low zero (r ∷ rs) f e = omega (arith, fill_end size (low + r.length) rs f.3)
front_in size low (suc zero) (r ∷ []) f e = absurd (omega (arith, e))
front_in size low (suc zero) (r ∷ s ∷ rs) f e = at_size (place_at r 0) (omega (arith, f.0, f.3.0, fill_end size (low + r.length + s.length) rs f.3.3)) (at_in 0 r (omega arith))
  where
    at_size : (p : Result ℕ MediaError) → r.start + r.length + (0 + s.length) ≤ size
        → IfOk p (λ at. at + 0 ≤ r.start + r.length) → IfOk p (λ at. at + (0 + s.length) ≤ size)
    at_size (Ok at) e k = omega (arith, e, k)
    at_size (Err x) e k = tt
front_in size low (suc (suc i)) (r ∷ []) f e = absurd (omega (arith, e))
front_in size low (suc (suc i)) (r ∷ s ∷ rs) f e =
    front_in size (low + r.length) (suc i) (s ∷ rs) f.3 (omega (arith, e))

-- the place and what is left out lie in each file that these rows fill
abbrev Inside : Result ℕ MediaError → Option ℕ → List RootBox → Type 0
Inside r skip rows = IfOk r (λ at. (size : ℕ) → FillSource size 0 rows → at + skipped_len skip rows ≤ size)

-- a file at a time
ok_sizes : (r : Result ℕ MediaError) (rows : List RootBox) (n : ℕ)
    → ((size : ℕ) → FillSource size 0 rows → IfOk r (λ at. at + n ≤ size))
    → IfOk r (λ at. (size : ℕ) → FillSource size 0 rows → at + n ≤ size)
ok_sizes (Ok at) rows n h = h
ok_sizes (Err e) rows n h = tt

-- a place that is told with its reasons lies inside, where an equal one does
inside_by : (r q : Result ℕ MediaError) (rows : List RootBox) (skip given : Option ℕ) → r ≡ q → skip ≡ given
    → Inside q given rows → Inside r skip rows
inside_by r q rows skip given e s h =
    subst (λ (x : Result ℕ MediaError). Inside x skip rows) (sym e)
    (subst (λ (o : Option ℕ). Inside q o rows) (sym s) h)

-- in a whole file
pub inside_whole : (r : Result ℕ MediaError) (rows : List RootBox) (skip : Option ℕ) → r ≡ place_behind 0 rows
    → skip ≡ None → HasRoom 0 rows → Inside r skip rows
inside_whole r rows skip e s room =
    inside_by r (place_behind 0 rows) rows skip None e s
    (ok_sizes (place_behind 0 rows) rows 0 (λ size f. behind_in size 0 0 rows f room))

-- without the last
pub inside_front : (r : Result ℕ MediaError) (rows : List RootBox) (skip : Option ℕ) (i : ℕ)
    → r ≡ place_behind 0 (take i rows) → skip ≡ Some i → i + 1 ≡ length rows → Inside r skip rows
inside_front r rows skip i e s last =
    inside_by r (place_behind 0 (take i rows)) rows skip (Some i) e s
    (ok_sizes (place_behind 0 (take i rows)) rows (skipped_len (Some i) rows) (λ size f. front_in size 0 i rows f last))

-- without one before the last
pub inside_middle : (r : Result ℕ MediaError) (rows : List RootBox) (skip : Option ℕ) (i : ℕ)
    → r ≡ place_behind (skipped_len (Some i) rows) rows → skip ≡ Some i → HasRoom (skipped_len (Some i) rows) rows
    → Inside r skip rows
inside_middle r rows skip i e s room =
    inside_by r (place_behind (skipped_len (Some i) rows) rows) rows skip (Some i) e s
    (ok_sizes (place_behind (skipped_len (Some i) rows) rows) rows (skipped_len (Some i) rows) (λ size f. behind_in size 0 (skipped_len (Some i) rows) rows f room))

-- ---- the place is that of the definition

-- a place that is there
abbrev placed : ℕ → Result ℕ MediaError
placed k = Ok k

-- the place at the last of boxes in their places
behind_is : (p out : ℕ) (bs : List Box) → AllByRecursion IsBox bs → 0 < length bs → out ≤ p
    → place_behind out (map row_of (placed_from p bs)) ≡ place_or (open_end (placed_from p bs)) (p - out + boxes_len (before_mfra bs))
behind_is p out [] f some low = absurd (omega arith)
behind_is p out (b ∷ []) f some low = go (is_mfra b) (is_to_end b.form) (boxes_length_more b [] f.0)
  where
    go : (m t : Bool) → boxes_len (b ∷ []) ≡ box_len b + boxes_len []
        → cond m (Ok (p - out)) (cond t (Err (BadBox p)) (Ok (p + box_len b - out))) ≡ place_or (cond (t && not m) (Some p) None) (p - out + boxes_len (cond m [] (b ∷ [])))
    go true true e = let n : p - out ≡ p - out + 0 = omega arith in ap (λ (k : ℕ). placed k) n
    go true false e = let n : p - out ≡ p - out + 0 = omega arith in ap (λ (k : ℕ). placed k) n
    go false true e = refl
    go false false e = let n : p + box_len b - out ≡ p - out + boxes_len (b ∷ []) = omega (arith, e, low) in ap (λ (k : ℕ). placed k) n
behind_is p out (b ∷ c ∷ cs) f some low =
    let more : boxes_len (b ∷ before_mfra (c ∷ cs)) ≡ box_len b + boxes_len (before_mfra (c ∷ cs)) =
    boxes_length_more b (before_mfra (c ∷ cs)) f.0 in
    let n : p + box_len b - out + boxes_len (before_mfra (c ∷ cs)) ≡ p - out + boxes_len (b ∷ before_mfra (c ∷ cs)) =
    omega (arith, low, more) in
    behind_is (p + box_len b) out (c ∷ cs) f.1 (omega arith) (omega (arith, low))
    ∙ ap (place_or (open_end (placed_from (p + box_len b) (c ∷ cs)))) n

-- the place in a whole file
pub whole_is : (bs : List Box) → AllByRecursion IsBox bs → place_behind 0 (rows_of bs) ≡ place_without None bs
whole_is [] f = refl
whole_is (b ∷ bs) f =
    let n : 0 - 0 + boxes_len (before_mfra (b ∷ bs)) ≡ boxes_len (before_mfra (b ∷ bs)) = omega arith in
    behind_is 0 0 (b ∷ bs) f (omega arith) (omega arith) ∙ ap (place_or (open_end (placed_from 0 (b ∷ bs)))) n

-- the first boxes stand where they stood
placed_take : (p i : ℕ) (bs : List Box) → take i (placed_from p bs) ≡ placed_from p (take i bs)
placed_take p zero bs = refl
placed_take p (suc i) [] = refl
placed_take p (suc i) (b ∷ bs) =
    ap (λ (xs : List PlacedBox). record { at = p; box = b } ∷ xs) (placed_take (p + box_len b) i bs)

-- a list less its last
less_last : {A : Type 0} (i : ℕ) (xs : List A) → i + 1 ≡ length xs → less (Some i) xs ≡ take i xs
less_last i xs e = ap (λ ys. take i xs ++ ys) (drop_all (suc i) xs (omega (arith, e))) ∙ append-nil (take i xs)

-- the place without the last box
pub front_is : (i : ℕ) (bs : List Box) → AllByRecursion IsBox bs → i + 1 ≡ length bs
    → place_behind 0 (take i (rows_of bs)) ≡ place_without (Some i) bs
front_is i bs f e =
    ap (place_behind 0) (take-map row_of i (placed_from 0 bs) ∙ ap (map row_of) (placed_take 0 i bs))
    ∙ whole_is (take i bs) (each_take IsBox i bs f)
    ∙ ap₂ (λ (ps : List PlacedBox) (xs : List Box). place_or (open_end ps) (insert_place xs))
    (sym (less_last i (placed_from 0 bs) (omega (arith, e, length-placed 0 bs)) ∙ placed_take 0 i bs))
    (sym (less_last i bs e))

-- a list less one before its last isn't empty
less_some : {A : Type 0} (i : ℕ) (xs : List A) → i + 1 < length xs → 0 < length (less (Some i) xs)
less_some i xs more = omega (arith, length-append (take i xs) (drop (suc i) xs), length-drop (suc i) xs, more)

-- the end after one more box before
open_more : (x : PlacedBox) (xs : List PlacedBox) → 0 < length xs → open_end (x ∷ xs) ≡ open_end xs
open_more x [] some = absurd (omega arith)
open_more x (y ∷ ys) some = refl

-- the boxes before a last `mfra`, after one more box before
before_more : (b : Box) (bs : List Box) → 0 < length bs → before_mfra (b ∷ bs) ≡ b ∷ before_mfra bs
before_more b [] some = absurd (omega arith)
before_more b (c ∷ cs) some = refl

-- the place without a box before the last
skip_is : (p i : ℕ) (bs : List Box) → AllByRecursion IsBox bs → i + 1 < length bs
    → place_behind (skipped_len (Some i) (map row_of (placed_from p bs))) (map row_of (placed_from p bs)) ≡ place_or (open_end (less (Some i) (placed_from p bs))) (p + boxes_len (before_mfra (less (Some i) bs)))
skip_is p i [] f more = absurd (omega (arith, more))
skip_is p zero (b ∷ bs) f more =
    let rows : List RootBox = map row_of (placed_from (p + box_len b) bs) in
    let count : length rows ≡ length bs =
    length-map (placed_from (p + box_len b) bs) row_of ∙ length-placed (p + box_len b) bs in
    let n : p + box_len b - (0 + box_len b) + boxes_len (before_mfra bs) ≡ p + boxes_len (before_mfra bs) = omega arith in
    behind_more (0 + box_len b) (row_of (record { at = p; box = b })) rows (omega (arith, count, more))
    ∙ behind_is (p + box_len b) (0 + box_len b) bs f.1 (omega (arith, more)) (omega arith)
    ∙ ap (place_or (open_end (placed_from (p + box_len b) bs))) n
skip_is p (suc i) (b ∷ bs) f more =
    let ps : List PlacedBox = placed_from (p + box_len b) bs in
    let rows : List RootBox = map row_of ps in
    let places : length ps ≡ length bs = length-placed (p + box_len b) bs in
    let count : length rows ≡ length bs = length-map ps row_of ∙ places in
    let front : before_mfra (b ∷ less (Some i) bs) ≡ b ∷ before_mfra (less (Some i) bs) =
    before_more b (less (Some i) bs) (less_some i bs (omega (arith, more))) in
    let n : p + box_len b + boxes_len (before_mfra (less (Some i) bs)) ≡ p + boxes_len (before_mfra (b ∷ less (Some i) bs)) =
    omega (arith, ap boxes_len front, boxes_length_more b (before_mfra (less (Some i) bs)) f.0) in
    behind_more (skipped_len (Some i) rows) (row_of (record { at = p; box = b })) rows (omega (arith, count, more))
    ∙ skip_is (p + box_len b) i bs f.1 (omega (arith, more))
    ∙ ap₂ place_or
    (sym (open_more (record { at = p; box = b }) (less (Some i) ps) (less_some i ps (omega (arith, places, more)))))
    n

-- from the start of a file
pub middle_is : (i : ℕ) (bs : List Box) → AllByRecursion IsBox bs → i + 1 < length bs
    → place_behind (skipped_len (Some i) (rows_of bs)) (rows_of bs) ≡ place_without (Some i) bs
middle_is i bs f more =
    let n : 0 + boxes_len (before_mfra (less (Some i) bs)) ≡ boxes_len (before_mfra (less (Some i) bs)) = omega arith in
    skip_is 0 i bs f more ∙ ap (place_or (open_end (less (Some i) (placed_from 0 bs)))) n

-- ---- the place by the rows alone

-- no row is left out
pub none_less : (rows : List RootBox) → place_behind 0 rows ≡ place_less None rows
none_less rows = refl

-- the last row is left out, and no bytes before those that stay
pub last_less : (i : ℕ) (rows : List RootBox) → i + 1 ≡ length rows
    → place_behind 0 (take i rows) ≡ place_less (Some i) rows
last_less i rows last =
    let front : drop i (take (length rows - 1) rows) ≡ [] =
    drop_all i (take (length rows - 1) rows) (omega (arith, length-take (length rows - 1) rows, last)) in
    let out : skipped_len (Some i) (take (length rows - 1) rows) ≡ 0 =
    ap (λ (xs : List RootBox). sum_by (λ (r : RootBox). r.length) (take 1 xs)) front in
    ap₂ place_behind (sym out) (sym (less_last i rows last))

-- a row before the last that is left out is among the rows before the last
skipped_front : (i : ℕ) (rows : List RootBox) → i + 1 < length rows
    → skipped_len (Some i) (take (length rows - 1) rows) ≡ skipped_len (Some i) rows
skipped_front i [] more = absurd (omega (arith, more))
skipped_front i (r ∷ []) more = absurd (omega (arith, more))
skipped_front zero (r ∷ s ∷ rs) more = let e : length (r ∷ s ∷ rs) - 1 ≡ suc (length rs) = omega arith in ap (λ (n : ℕ). skipped_len (Some 0) (take n (r ∷ s ∷ rs))) e
skipped_front (suc i) (r ∷ s ∷ rs) more =
    let e : length (r ∷ s ∷ rs) - 1 ≡ suc (length rs) = omega arith in
    let f : length rs ≡ length (s ∷ rs) - 1 = omega arith in
    ap (λ (n : ℕ). skipped_len (Some (suc i)) (take n (r ∷ s ∷ rs))) e
    ∙ ap (λ (n : ℕ). skipped_len (Some i) (take n (s ∷ rs))) f ∙ skipped_front i (s ∷ rs) (omega (arith, more))

-- without it the last row stays the last
behind_less : (out i : ℕ) (rows : List RootBox) → i + 1 < length rows
    → place_behind out (less (Some i) rows) ≡ place_behind out rows
behind_less out i [] more = absurd (omega (arith, more))
behind_less out zero (r ∷ rs) more = sym (behind_more out r rs (omega (arith, more)))
behind_less out (suc i) (r ∷ rs) more =
    behind_more out r (less (Some i) rs) (less_some i rs (omega (arith, more)))
    ∙ behind_less out i rs (omega (arith, more)) ∙ sym (behind_more out r rs (omega (arith, more)))

-- a row before the last is left out
pub middle_less : (i : ℕ) (rows : List RootBox) → i + 1 < length rows
    → place_behind (skipped_len (Some i) rows) rows ≡ place_less (Some i) rows
middle_less i rows more =
    sym (behind_less (skipped_len (Some i) rows) i rows more)
    ∙ ap (λ (n : ℕ). place_behind n (less (Some i) rows)) (sym (skipped_front i rows more))

-- the length that is skipped is that of the row of the index
pub skipped_at : (i : ℕ) (rows : List RootBox) (d : RootBox) → i < length rows
    → skipped_len (Some i) rows ≡ (get_or rows i d).length
skipped_at i [] d more = absurd (omega (arith, more))
skipped_at zero (r ∷ rs) d more = omega arith
skipped_at (suc i) (r ∷ rs) d more = skipped_at i rs d (omega (arith, more))
