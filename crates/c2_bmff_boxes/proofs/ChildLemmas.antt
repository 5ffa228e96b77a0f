-- The boxes inside another, one at a time; and the siblings that a step matches.
use Rattle.std.proofs.Common.{◌≡◌, ℕ, ◌+◌, ◌-◌, ◌^◌, ◌<◌, ◌≤◌, Bool, true, false, not, cond, ◌&&◌, ◌==◌, List, [], ◌∷◌, ◌++◌, length, take, drop, map, is_some, Option, Some, None, option_map, refl, sym, ap, ap₂, ◌∙◌, subst, arith, append_assoc, append-nil}
use Rattle.std.proofs.lemmas.List.{length-drop, length-take, length-take-le, drop-take, drop-drop, drop_all}
use Rattle.c2_spec.specs.Bmff.Boxes.{box_fault, stated_size, stated_len, stated_kind, stated_header_len}
use Rattle.c2_spec.specs.Bmff.Paths.{placed_from}
use Rattle.c2_spec.specs.Cbor.Fields.{joined}
use Rattle.c2_bmff_boxes.specs.Children.{IsListOf, ListWalk, part_between, rows_between}
use Rattle.c2_bmff_rows.specs.Children.{child_row, child_rows, is_child, kids, or_none}
use Rattle.c2_bmff_boxes.specs.Heads.{IsHead}
use Rattle.c2_bmff_boxes.specs.Headers.{IsHeader, header_fault}
use Rattle.c2_bmff_rows.specs.Rows.{payload_at, row_of}
use Rattle.c2_bmff_boxes.specs.Roots.{row_at}
use Rattle.c2_bmff_boxes.specs.declared.header.BoxHead.{BoxHead}
use Rattle.c2_bmff_boxes.specs.declared.header.HeadError.{HeadError}
use Rattle.c2_bmff_rows.specs.declared.row.RootBox.{RootBox}
use Rattle.c2_lemmas.proofs.Bytes.{AreBytes, bytes-drop, bytes-take}
use Rattle.c2_bmff_rows.proofs.StandLemmas.{Fills, child_end, child_here, payload_size, rows_told, told_filled}
use Rattle.c2_bmff_boxes.proofs.HeaderLemmas.{head_of, fault_of}

-- a header that runs to the end is no child's
pub open_head : (rest bytes : List ℕ) (left : ℕ) (h : BoxHead) → bytes ≡ take 16 rest → left ≡ length rest
    → IsHeader left bytes h → h.to_end ≡ true → is_child rest ≡ false
open_head rest bytes left h e l is end =
    let head : IsHead 0 rest h = head_of 0 rest bytes left h e l is in
    ap (λ t. not (is_some (box_fault 0 rest)) && not t) (sym head.to_end ∙ end) ∙ go (not (is_some (box_fault 0 rest)))
  where
    go : (t : Bool) → (t && false) ≡ false
    go true = refl
    go false = refl

-- a header that fails is no child's
pub bad_head : (rest bytes : List ℕ) (left : ℕ) (e : HeadError) → bytes ≡ take 16 rest → left ≡ length rest
    → header_fault left bytes ≡ Some e → is_child rest ≡ false
bad_head rest bytes left e b l fails =
    ap (λ f. not (is_some f) && not (stated_size rest == 0)) (fault_of 0 rest bytes left e b l fails)

-- ---- the walk

-- one more row before the others
onto : (rows : List RootBox) (r : RootBox) (more : Option (List RootBox))
    → option_map (λ (xs : List RootBox). rows ++ xs) (joined (Some r) more) ≡ option_map (λ (xs : List RootBox). (rows ++ r ∷ []) ++ xs) more
onto rows r None = refl
onto rows r (Some xs) = ap Some (sym (append_assoc rows (r ∷ []) xs))

-- what is left of a payload
pub rest_is : (file : List ℕ) (base len done : ℕ) → done ≤ len
    → drop done (take len (drop base file)) ≡ take (len - done) (drop (base + done) file)
rest_is file base len done inside =
    let e : len ≡ done + (len - done) = omega (arith, inside) in
    ap (λ n. drop done (take n (drop base file))) e ∙ drop-take done (len - done) (drop base file)
    ∙ ap (take (len - done)) (drop-drop done base file)

-- the row of a child's header
child_row_is : (at : ℕ) (rest : List ℕ) (h : BoxHead) → IsHead 0 rest h → h.to_end ≡ false
    → row_at at h ≡ child_row at rest
child_row_is at rest h is end =
    ap (λ (n : ℕ). row n h.header h.kind h.to_end) is.length
    ∙ ap (λ (n : ℕ). row (stated_len rest) n h.kind h.to_end) is.header
    ∙ ap (λ (k : List ℕ). row (stated_len rest) (stated_header_len rest) k h.to_end) is.kind
    ∙ ap (λ (t : Bool). row (stated_len rest) (stated_header_len rest) (stated_kind rest) t) end
  where
    row : ℕ → ℕ → List ℕ → Bool → RootBox
    row n m k e = record { start = at; length = n; header = m; kind = k; to_end = e }

-- a header that is a child's
child_is : (rest : List ℕ) (h : BoxHead) → IsHead 0 rest h → h.to_end ≡ false → is_child rest ≡ true
child_is rest h is end = ap (λ f. not (is_some f) && not (stated_size rest == 0)) is.good ∙ ap not (sym is.to_end ∙ end)

-- a list that isn't there stays away
pub walk_none : (file : List ℕ) (start end done : ℕ) (rows : List RootBox) (rest : List ℕ)
    → ListWalk file start end done rows → drop done (part_between file start end) ≡ rest → 0 < length rest
    → is_child rest ≡ false
    → rows_between file start end ≡ None
walk_none file start end done rows rest w same some bad =
    let here =
    child_here w.most (start + done) rest some (subst (λ (xs : List ℕ). length xs ≤ w.most) same w.enough)
    ∙ ap
    (λ t. cond t (joined (Some (child_row (start + done) rest)) (child_rows (w.most - 1) (start + done + stated_len rest) (drop (stated_len rest) rest))) None)
    bad in
    w.are
    ∙ ap (λ (xs : List ℕ). option_map (λ (more : List RootBox). rows ++ more) (child_rows w.most (start + done) xs))
    same
    ∙ ap (λ (m : Option (List RootBox)). option_map (λ (more : List RootBox). rows ++ more) m) here

-- past one more box
pub walk_more : (file : List ℕ) (start end done : ℕ) (rows : List RootBox) (rest : List ℕ) (h : BoxHead)
    → ListWalk file start end done rows → drop done (part_between file start end) ≡ rest → 0 < length rest
    → IsHead 0 rest h → h.to_end ≡ false → 1 ≤ h.length
    → ListWalk file start end (done + h.length) (rows ++ row_at (start + done) h ∷ [])
walk_more file start end done rows rest h w same some is closed least =
    let few : length rest ≤ w.most = subst (λ (xs : List ℕ). length xs ≤ w.most) same w.enough in
    let at : ℕ = start + done in
    let next : drop (stated_len rest) rest ≡ drop (done + h.length) (part_between file start end) =
    ap (λ n. drop n rest) (sym is.length) ∙ ap (drop h.length) (sym same)
    ∙ drop-drop h.length done (part_between file start end) in
    let place : at + stated_len rest ≡ start + (done + h.length) = let e : at + h.length ≡ start + (done + h.length) = omega arith in ap (λ n. at + n) (sym is.length) ∙ e in
    let here : child_rows w.most at rest ≡ joined (Some (row_at at h)) (child_rows (w.most - 1) (start + (done + h.length)) (drop (done + h.length) (part_between file start end))) =
    child_here w.most at rest some few
    ∙ ap
    (λ t. cond t (joined (Some (child_row at rest)) (child_rows (w.most - 1) (at + stated_len rest) (drop (stated_len rest) rest))) None)
    (child_is rest h is closed)
    ∙ ap
    (λ (r : RootBox). joined (Some r) (child_rows (w.most - 1) (at + stated_len rest) (drop (stated_len rest) rest)))
    (sym (child_row_is at rest h is closed))
    ∙ ap₂ (λ (n : ℕ) (xs : List ℕ). joined (Some (row_at at h)) (child_rows (w.most - 1) n xs)) place next in
    record {
      most = w.most - 1;
      enough = let l : length (drop (stated_len rest) rest) ≡ length rest - h.length = length-drop (stated_len rest) rest ∙ ap (λ n. length rest - n) (sym is.length) in omega (arith, ap length (sym next), l, few, some, least);
      are =
          w.are
          ∙ ap (λ (xs : List ℕ). option_map (λ (more : List RootBox). rows ++ more) (child_rows w.most at xs)) same
          ∙ ap (λ (m : Option (List RootBox)). option_map (λ (more : List RootBox). rows ++ more) m) here
          ∙ onto rows (row_at at h) (child_rows (w.most - 1) (start + (done + h.length)) (drop (done + h.length) (part_between file start end)));
    }

-- after the last
pub walk_end : (file : List ℕ) (start end done : ℕ) (rows : List RootBox) → ListWalk file start end done rows
    → length (part_between file start end) ≤ done → Some rows ≡ rows_between file start end
walk_end file start end done rows w ends =
    sym (w.are ∙ ap (λ (xs : List ℕ). option_map (λ (more : List RootBox). rows ++ more) (child_rows w.most (start + done) xs)) (drop_all done (part_between file start end) ends)
    ∙ ap (λ (m : Option (List RootBox)). option_map (λ (more : List RootBox). rows ++ more) m) (child_end w.most (start + done)) ∙ ap Some (append-nil rows))

-- before the first
pub walk_start : (file : List ℕ) (start end : ℕ) → ListWalk file start end 0 []
walk_start file start end = record {
  most = end - start;
  enough = omega (arith, length-take (end - start) (drop start file));
  are =
      let zero' : start ≡ start + 0 = omega arith in
      ap (λ n. child_rows (end - start) n (part_between file start end)) zero' ∙ sym (none_before (child_rows (end - start) (start + 0) (part_between file start end)));
}
  where
    none_before : (m : Option (List RootBox)) → option_map (λ (more : List RootBox). [] ++ more) m ≡ m
    none_before None = refl
    none_before (Some rows) = refl

-- ---- what the rows are

-- a part has its length
pub part_len : (file : List ℕ) (start end : ℕ) → start ≤ end → end ≤ length file
    → length (part_between file start end) ≡ end - start
part_len file start end ordered inside =
    length-take-le (end - start) (drop start file) (omega (arith, length-drop start file, ordered, inside))

-- the rows between two places are those of the list of boxes there
pub list_is : (file : List ℕ) (start end : ℕ) (l : Option (List RootBox)) → AreBytes file → length file < 2 ^ 64
    → start ≤ end → end ≤ length file → l ≡ rows_between file start end → IsListOf (part_between file start end) start l
list_is file start end l bytes fits ordered inside e = subst (IsListOf (part_between file start end) start) (sym e) (go (rows_between file start end) refl)
  where
    part : List ℕ
    part = part_between file start end

    size : length part ≡ end - start
    size = part_len file start end ordered inside

    are : AreBytes part
    are = bytes-take (end - start) (drop start file) (bytes-drop start file bytes)

    small : length part < 2 ^ 64
    small = omega (arith, size, inside, fits)

    go : (m : Option (List RootBox)) → child_rows (end - start) start part ≡ m → IsListOf part start m
    go None is = λ boxes f. let wrong = sym is ∙ rows_told boxes (end - start) start part f.forms are small f.bytes (omega (arith, size)) in cc (wrong)
    go (Some rows) is =
        let f : Fills part = told_filled (end - start) start part rows are small is in
        let told =
        sym is ∙ rows_told f.boxes (end - start) start part f.sized are small f.bytes (omega (arith, size)) in
        (f.boxes, record { bytes = f.bytes; forms = f.sized }, (let s : rows ≡ map row_of (placed_from start f.boxes) = cc (told) in s))

-- the rows of the children of a box are those between its header and its end
pub kids_between : (file : List ℕ) (r : RootBox) → r.start + r.length ≤ length file → r.header ≤ r.length
    → or_none (rows_between file (r.start + r.header) (r.start + r.length)) ≡ kids file r
kids_between file r inside ordered =
    let n : (r.start + r.length) - (r.start + r.header) ≡ r.length - r.header = omega (arith, ordered) in
    ap (λ k. or_none (child_rows k (r.start + r.header) (take k (drop (r.start + r.header) file)))) n
    ∙ ap (λ k. or_none (child_rows k (r.start + r.header) (payload_at file r)))
    (sym (payload_size file r inside ordered))
