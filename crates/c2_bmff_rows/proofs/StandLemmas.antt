-- Boxes that stand in a file, and the rows of their children.
use Rattle.std.proofs.Common.{◌≡◌, ℕ, zero, suc, ◌+◌, ◌-◌, ◌^◌, ◌<◌, ◌≤◌, Bool, true, false, not, cond, ◌&&◌, ◌==◌, List, [], ◌∷◌, ◌++◌, length, take, drop, map, is_some, Option, Some, None, refl, sym, ap, ap₂, ◌∙◌, subst, arith, length-append, append_assoc}
use Rattle.std.specs.List.{flat_map, AllByRecursion}
use Rattle.std.proofs.lemmas.List.{length-drop, drop-drop, drop_all, take_at, drop_at, length-take, length-take-le}
use Rattle.c2_spec.specs.Bmff.Boxes.{AreBoxForms, SizeForm, short, long, to_end, Box, IsBox, IsSizedBox, box_bytes, box_fault, box_len, header_bytes, header_len, is_to_end, stated_size, stated_len, stated_kind, stated_header_len}
use Rattle.c2_spec.specs.Bmff.Paths.{HasChildren, filled, unfilled, PlacedBox, placed_from}
use Rattle.c2_spec.specs.Cbor.Fields.{joined}
use Rattle.c2_spec.proofs.BmffOneList.{box_once, first_box, other_boxes}
use Rattle.c2_spec.proofs.BmffPassing.{box_passes}
use Rattle.c2_bmff_rows.specs.Children.{child_row, child_rows, is_child, kids, or_none}
use Rattle.c2_bmff_rows.specs.Rows.{payload_at, BeginsWith, row_of, Stands}
use Rattle.c2_bmff_rows.specs.declared.row.RootBox.{RootBox}
use Rattle.c2_base.specs.declared.media.MediaError.{MediaError}
use Rattle.c2_bmff_rows.proofs.BoxThere.{box_there}
use Rattle.c2_lemmas.proofs.Bytes.{AreBytes, bytes-drop, bytes-take}
use Rattle.c2_spec.proofs.BmffSizes.{bytes_size, header_size}

-- boxes in their forms are boxes
pub form_boxes : (bs : List Box) → AreBoxForms bs → AllByRecursion IsBox bs
form_boxes [] f = tt
form_boxes (b ∷ bs) f = (first_box b bs f, form_boxes bs (other_boxes b bs f))

-- boxes that stand one after the other in a file
pub all_stand : (file : List ℕ) (at : ℕ) (boxes : List Box) (tail : List ℕ) → AllByRecursion IsBox boxes
    → at ≤ length file → drop at file ≡ flat_map box_bytes boxes ++ tail
    → AllByRecursion (Stands file) (placed_from at boxes)
all_stand file at [] tail h inside e = tt
all_stand file at (b ∷ bs) tail h inside e =
    let size : length (box_bytes b) ≡ box_len b = bytes_size b h.0 in
    let here : drop at file ≡ box_bytes b ++ (flat_map box_bytes bs ++ tail) =
    e ∙ append_assoc (box_bytes b) (flat_map box_bytes bs) tail in
    let total : length file - at ≡ box_len b + length (flat_map box_bytes bs ++ tail) =
    sym (length-drop at file) ∙ ap length here ∙ length-append (box_bytes b) (flat_map box_bytes bs ++ tail)
    ∙ ap (λ n. n + length (flat_map box_bytes bs ++ tail)) size in
    let next : drop (at + box_len b) file ≡ flat_map box_bytes bs ++ tail = sym (drop-drop (box_len b) at file) ∙ ap (drop (box_len b)) here ∙ drop_at (box_bytes b) (flat_map box_bytes bs ++ tail) (box_len b) size in (
      record { is_box = h.0; tail = flat_map box_bytes bs ++ tail; bytes = here; inside = omega (arith, total, inside) },
      all_stand file (at + box_len b) bs tail h.1 (omega (arith, total, inside)) next,
    )

-- ---- the rows of boxes inside another

-- one box and those after it
pub child_here : (n at : ℕ) (rest : List ℕ) → 0 < length rest → length rest ≤ n
    → child_rows n at rest ≡ cond (is_child rest) (joined (Some (child_row at rest)) (child_rows (n - 1) (at + stated_len rest) (drop (stated_len rest) rest))) None
child_here n at [] some few = absurd (omega arith)
child_here zero at (x ∷ xs) some few = absurd (omega arith)
child_here (suc n) at (x ∷ xs) some few = let e : n ≡ suc n - 1 = omega arith in ap (λ (m : ℕ). cond (is_child (x ∷ xs)) (joined (Some (child_row at (x ∷ xs))) (child_rows m (at + stated_len (x ∷ xs)) (drop (stated_len (x ∷ xs)) (x ∷ xs)))) None) e

-- no more boxes
pub child_end : (n at : ℕ) → child_rows n at [] ≡ Some []
child_end zero at = refl
child_end (suc n) at = refl

-- ---- the boxes at the front of bytes

-- a box that says its size is told at the front of its bytes
record Told (b : Box) (rest : List ℕ) (tail : List ℕ) : Type 0 where
  pub child : is_child rest ≡ true
  pub len : stated_len rest ≡ box_len b
  pub header : stated_header_len rest ≡ header_len b.form
  pub kind : stated_kind rest ≡ b.kind
  pub others : drop (stated_len rest) rest ≡ tail

-- at the front of its bytes, a box that says its size is told with its length, its header and its type
told : (b : Box) (rest tail : List ℕ) → IsSizedBox b → AreBytes rest → length rest < 2 ^ 64 → rest ≡ box_bytes b ++ tail
    → Told b rest tail
told b rest tail s bytes fits e =
    let none : box_fault 0 rest ≡ None =
    ap (box_fault 0) e
    ∙ box_passes b.form b.kind b.payload tail s.is_box (λ t. absurd (let wrong = sym t ∙ s.sized in cc (wrong))) 0 in
    let c : BeginsWith rest (stated_header_len rest) (stated_len rest) (stated_kind rest) (stated_size rest == 0) =
    box_there 0 rest bytes fits none in
    let once =
    box_once b c.box tail (drop (stated_len rest) rest) s.is_box c.is_box (λ t. absurd (let wrong = sym t ∙ s.sized in cc (wrong))) (λ t. drop_all (stated_len rest) rest (let l = c.ends (sym c.end_is ∙ t) in omega (arith, l))) (sym e ∙ c.bytes) in
    let sized : (stated_size rest == 0) ≡ false =
    sym c.end_is ∙ ap (λ (x : Box). is_to_end x.form) (sym once.0) ∙ s.sized in
    record {
      child = ap (λ f. not (is_some f) && not (stated_size rest == 0)) none ∙ ap not sized;
      len = sym c.length_is ∙ ap box_len (sym once.0);
      header = sym c.header_is ∙ ap (λ (x : Box). header_len x.form) (sym once.0);
      kind = sym c.kind_is ∙ ap (λ (x : Box). x.kind) (sym once.0);
      others = sym once.1;
    }

-- the rows of boxes that fill these bytes
pub rows_told : (boxes : List Box) (n at : ℕ) (rest : List ℕ) → AllByRecursion IsSizedBox boxes → AreBytes rest
    → length rest < 2 ^ 64 → rest ≡ flat_map box_bytes boxes → length rest ≤ n
    → child_rows n at rest ≡ Some (map row_of (placed_from at boxes))
rows_told [] n at rest s bytes fits e few = ap (child_rows n at) e ∙ child_end n at
rows_told (b ∷ bs) n at rest s bytes fits e few =
    let t : Told b rest (flat_map box_bytes bs) = told b rest (flat_map box_bytes bs) s.0 bytes fits e in
    let size : length rest ≡ box_len b + length (flat_map box_bytes bs) =
    ap length e ∙ length-append (box_bytes b) (flat_map box_bytes bs)
    ∙ ap (λ k. k + length (flat_map box_bytes bs)) (bytes_size b s.0.is_box) in
    let least : 8 ≤ box_len b = least_len b in
    let left : length (drop (stated_len rest) rest) ≡ length rest - box_len b =
    length-drop (stated_len rest) rest ∙ ap (λ k. length rest - k) t.len in
    child_here n at rest (omega (arith, size, least)) few
    ∙ ap
    (λ x. cond x (joined (Some (child_row at rest)) (child_rows (n - 1) (at + stated_len rest) (drop (stated_len rest) rest))) None)
    t.child
    ∙ ap (λ (m : Option (List RootBox)). joined (Some (child_row at rest)) m)
    (rows_told bs (n - 1) (at + stated_len rest) (drop (stated_len rest) rest) s.1 (bytes-drop (stated_len rest) rest bytes) (omega (arith, left, fits)) t.others (omega (arith, left, size, least, few)))
    ∙ ap (λ k. Some (child_row at rest ∷ map row_of (placed_from (at + k) bs))) t.len
    ∙ ap (λ (r : RootBox). Some (r ∷ map row_of (placed_from (at + box_len b) bs))) row_is
  where
    least_len : (b : Box) → 8 ≤ box_len b
    least_len b = go b.form
      where
        go : (f : SizeForm) → 8 ≤ header_len f + length b.payload
        go short = omega arith
        go long = omega arith
        go to_end = omega arith

    row : ℕ → ℕ → List ℕ → Bool → RootBox
    row n m k e = record { start = at; length = n; header = m; kind = k; to_end = e }

    row_is : child_row at rest ≡ row_of (record { at = at; box = b })
    row_is =
        let t : Told b rest (flat_map box_bytes bs) = told b rest (flat_map box_bytes bs) s.0 bytes fits e in
        ap (λ k. row k (stated_header_len rest) (stated_kind rest) false) t.len
        ∙ ap (λ k. row (box_len b) k (stated_kind rest) false) t.header
        ∙ ap (λ (k : List ℕ). row (box_len b) (header_len b.form) k false) t.kind
        ∙ ap (λ (x : Bool). row (box_len b) (header_len b.form) b.kind x) (sym s.0.sized)

-- boxes that fill these bytes
pub record Fills (rest : List ℕ) : Type 0 where
  pub boxes : List Box
  pub sized : AllByRecursion IsSizedBox boxes
  pub bytes : rest ≡ flat_map box_bytes boxes

-- one more before others that are there
joined_some : (r : RootBox) (m : Option (List RootBox)) (rows : List RootBox) → joined (Some r) m ≡ Some rows
    → (more : List RootBox) × (m ≡ Some more)
joined_some r None rows e = absurd (cc (e))
joined_some r (Some more) rows e = (more, refl)

-- where there are rows there are boxes
pub told_filled : (n at : ℕ) (rest : List ℕ) (rows : List RootBox) → AreBytes rest → length rest < 2 ^ 64
    → child_rows n at rest ≡ Some rows → Fills rest
told_filled n at [] rows bytes fits e = record { boxes = []; sized = tt; bytes = refl }
told_filled zero at (x ∷ xs) rows bytes fits e = absurd (cc (e))
told_filled (suc n) at (x ∷ xs) rows bytes fits e =
    by (box_fault 0 (x ∷ xs)) (stated_size (x ∷ xs) == 0) refl refl
    (λ more h. told_filled n (at + len) left more (bytes-drop len (x ∷ xs) bytes)
    (omega (arith, length-drop len (x ∷ xs), fits)) h)
  where
    len : ℕ
    len = stated_len (x ∷ xs)

    left : List ℕ
    left = drop len (x ∷ xs)

    tests : Option MediaError → Bool → Option (List RootBox)
    tests fault zero' =
        cond (not (is_some fault) && not zero')
        (joined (Some (child_row at (x ∷ xs))) (child_rows n (at + len) left)) None

    by : (fault : Option MediaError) (zero' : Bool) → box_fault 0 (x ∷ xs) ≡ fault → (stated_size (x ∷ xs) == 0) ≡ zero'
        → ((more : List RootBox) → child_rows n (at + len) left ≡ Some more → Fills left) → Fills (x ∷ xs)
    by (Some f) z fa za go = absurd (let wrong = sym (ap₂ tests fa za) ∙ e in cc (wrong))
    by None true fa za go = absurd (let wrong = sym (ap₂ tests fa za) ∙ e in cc (wrong))
    by None false fa za go =
        let c : BeginsWith (x ∷ xs) (stated_header_len (x ∷ xs)) len (stated_kind (x ∷ xs)) (stated_size (x ∷ xs) == 0) =
        box_there 0 (x ∷ xs) bytes fits fa in
        let more =
        joined_some (child_row at (x ∷ xs)) (child_rows n (at + len) left) rows (sym (ap₂ tests fa za) ∙ e) in
        let others : Fills left = go more.0 more.1 in
        record {
          boxes = c.box ∷ others.boxes;
          sized = (record { is_box = c.is_box; sized = c.end_is ∙ za }, others.sized);
          bytes = c.bytes ∙ ap (λ (ys : List ℕ). box_bytes c.box ++ ys) others.bytes;
        }

-- ---- children

-- the payload of a box that stands in a file, and what follows
record Inner (file : List ℕ) (p : PlacedBox) : Type 0 where
  pub payload : payload_at file (row_of p) ≡ p.box.payload
  pub tail : List ℕ
  pub bytes : drop (p.at + header_len p.box.form) file ≡ p.box.payload ++ tail
  pub inside : p.at + header_len p.box.form ≤ length file

-- the payload of a box that stands in a file is that of its row, and stands after its header
inner : (file : List ℕ) (p : PlacedBox) → Stands file p → Inner file p
inner file p s =
    let hl : ℕ = header_len p.box.form in
    let head : List ℕ = header_bytes p.box.form (box_len p.box) p.box.kind in
    let from : drop (p.at + hl) file ≡ p.box.payload ++ s.tail =
    sym (drop-drop hl p.at file) ∙ ap (drop hl) (s.bytes ∙ append_assoc head p.box.payload s.tail) ∙ drop_at head (p.box.payload ++ s.tail) hl (header_size p.box.form (box_len p.box) p.box.kind s.is_box.kind) in
    let len : box_len p.box - hl ≡ length p.box.payload = omega arith in
    record {
      payload = ap (take (box_len p.box - hl)) from ∙ take_at p.box.payload s.tail (box_len p.box - hl) (sym len);
      tail = s.tail;
      bytes = from;
      inside = omega (arith, s.inside);
    }

-- sized boxes are boxes
pub sized_boxes : (bs : List Box) → AllByRecursion IsSizedBox bs → AllByRecursion IsBox bs
sized_boxes [] s = tt
sized_boxes (b ∷ bs) s = (s.0.is_box, sized_boxes bs s.1)

-- The children of a box, as rows, and they stand in the file.
pub record KidsAre (file : List ℕ) (p : PlacedBox) (children : List PlacedBox) : Type 0 where
  pub rows : kids file (row_of p) ≡ map row_of children
  pub stand : AllByRecursion (Stands file) children

-- what a file has in the payload of a box has bytes
payload_bytes : (file : List ℕ) (p : PlacedBox) → AreBytes file → AreBytes (payload_at file (row_of p))
payload_bytes file p bytes =
    let start : ℕ = p.at + header_len p.box.form in
    bytes-take (box_len p.box - header_len p.box.form) (drop start file) (bytes-drop start file bytes)

-- and isn't too long
payload_small : (file : List ℕ) (p : PlacedBox) → length file < 2 ^ 62 → length (payload_at file (row_of p)) < 2 ^ 64
payload_small file p fits =
    let start : ℕ = p.at + header_len p.box.form in
    omega (arith, length-take (box_len p.box - header_len p.box.form) (drop start file), length-drop start file, fits)

-- the rows of the children of a box are those of its row's children, and they stand in the file
pub kids_are : (file : List ℕ) (p : PlacedBox) (children : List PlacedBox) → AreBytes file → length file < 2 ^ 62
    → Stands file p → HasChildren p children → KidsAre file p children
kids_are file p children bytes fits s (filled boxes f) =
    let i : Inner file p = inner file p s in
    let payload : List ℕ = payload_at file (row_of p) in
    let start : ℕ = p.at + header_len p.box.form in
    record {
      rows =
          ap or_none
          (rows_told boxes (length payload) start payload f.forms (payload_bytes file p bytes) (payload_small file p fits)
          (i.payload ∙ f.bytes) (omega arith));
      stand =
          all_stand file start boxes i.tail (sized_boxes boxes f.forms) i.inside
          (i.bytes ∙ ap (λ (ys : List ℕ). ys ++ i.tail) f.bytes);
    }
kids_are file p children bytes fits s (unfilled never) = record {
  rows = go (child_rows (length payload) start payload) refl;
  stand = tt;
}
  where
    payload : List ℕ
    payload = payload_at file (row_of p)

    start : ℕ
    start = p.at + header_len p.box.form

    go : (m : Option (List RootBox)) → child_rows (length payload) start payload ≡ m
        → or_none (child_rows (length payload) start payload) ≡ []
    go None e = ap or_none e
    go (Some rows) e =
        let i : Inner file p = inner file p s in
        let fills : Fills payload =
        told_filled (length payload) start payload rows (payload_bytes file p bytes) (payload_small file p fits) e in
        absurd (never fills.boxes (record { bytes = sym i.payload ∙ fills.bytes; forms = fills.sized }))

-- each box has children, maybe none
pub some_children : (file : List ℕ) (p : PlacedBox) → AreBytes file → length file < 2 ^ 62 → Stands file p
    → (children : List PlacedBox) × HasChildren p children
some_children file p bytes fits s = go (child_rows (length p.box.payload) 0 p.box.payload) refl
  where
    i : Inner file p
    i = inner file p s

    size : length p.box.payload ≤ length file
    size = omega (arith, s.inside)

    are : AreBytes p.box.payload
    are =
        subst AreBytes i.payload
        (bytes-take (box_len p.box - header_len p.box.form) (drop (p.at + header_len p.box.form) file) (bytes-drop (p.at + header_len p.box.form) file bytes))

    go : (m : Option (List RootBox)) → child_rows (length p.box.payload) 0 p.box.payload ≡ m
        → (children : List PlacedBox) × HasChildren p children
    go (Some rows) e = let fills : Fills p.box.payload = told_filled (length p.box.payload) 0 p.box.payload rows are (omega (arith, size, fits)) e in (placed_from (p.at + header_len p.box.form) fills.boxes, filled fills.boxes (record { bytes = fills.bytes; forms = fills.sized }))
    go None e = ([], unfilled (λ boxes f. let wrong = sym e ∙ rows_told boxes (length p.box.payload) 0 p.box.payload f.forms are (omega (arith, size, fits)) f.bytes (omega arith) in cc (wrong)))

-- a payload has its length
pub payload_size : (file : List ℕ) (r : RootBox) → r.start + r.length ≤ length file → r.header ≤ r.length
    → length (payload_at file r) ≡ r.length - r.header
payload_size file r inside ordered =
    length-take-le (r.length - r.header) (drop (r.start + r.header) file)
    (omega (arith, length-drop (r.start + r.header) file, inside, ordered))
