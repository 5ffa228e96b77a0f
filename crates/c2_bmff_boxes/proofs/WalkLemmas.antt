-- A walk over root boxes: one box more, its end, and a fault.
use Rattle.std.proofs.Common.{◌≡◌, ℕ, ◌+◌, ◌-◌, ◌^◌, ◌<◌, ◌≤◌, Bool, ◌==◌, true, false, cond, List, [], ◌∷◌, ◌++◌, length, take, drop, map, Some, refl, sym, ap, ap₂, ◌∙◌, subst, arith, length-append}
use Rattle.std.proofs.lemmas.Bool.{le-ltb}
use Rattle.std.proofs.lemmas.Bool.Decides.{Decides-ltb}
use Rattle.std.proofs.lemmas.Grind.{flat_map-append}
use Rattle.std.proofs.lemmas.List.{append-nil, append_assoc, map-append, drop_all, drop-drop, length-drop, length-take}
use Rattle.std.proofs.lemmas.Slice.Eq.{bytes_eq-Decides}
use Rattle.std.specs.List.{flat_map, AllByRecursion}
use Rattle.c2_base.specs.declared.media.MediaError.{MediaError}
use Rattle.c2_base.specs.declared.media.MediaError.TheVariants.{NotMedia, FileTooLarge, Truncated, BadMarker, BadSegment, BadPacket, TwoStores, BadBox, BadProvenanceBox, StoreTooLarge, TooManyBoxes, ReadFault, NoMemory}
use Rattle.c2_spec.specs.Bmff.Boxes.{Box, IsBox, IsSizedBox, AreBoxForms, RootFault, box_bytes, box_len, boxes_len, box_fault, root_fault, header_len, is_to_end, begins_bmff, ftyp_kind, most_roots, stated_size, stated_len, stated_kind, stated_header_len}
use Rattle.c2_spec.specs.Bmff.Paths.{PlacedBox, placed_from}
use Rattle.c2_spec.proofs.BmffSizes.{bytes_size}
use Rattle.c2_base.specs.Causes.{Rose}
use Rattle.c2_bmff_boxes.specs.Causes.{IsBmffCaused, IsStoreCause, OrBmffFault}
use Rattle.c2_bmff_boxes.specs.Heads.{IsHead}
use Rattle.c2_bmff_boxes.specs.Roots.{AreRootsOf, Walks, row_at}
use Rattle.c2_bmff_rows.specs.Rows.{BeginsWith, row_of, rows_of}
use Rattle.c2_bmff_boxes.specs.declared.header.BoxHead.{BoxHead}
use Rattle.c2_bmff_rows.specs.declared.row.RootBox.{RootBox}
use Rattle.c2_bmff_rows.proofs.BoxThere.{box_there}
use Rattle.c2_lemmas.proofs.Bytes.{AreBytes, bytes-drop}
use Rattle.c2_bmff_rows.proofs.Lists.{length-rows}

-- one more box that is one of them
pub all_more : (bs : List Box) (b : Box) → AllByRecursion IsSizedBox bs → IsSizedBox b
    → AllByRecursion IsSizedBox (bs ++ b ∷ [])
all_more [] b s t = (t, tt)
all_more (c ∷ cs) b s t = (s.0, all_more cs b s.1 t)

-- after boxes that say their sizes, one that needn't
pub forms_more : (bs : List Box) (b : Box) → AllByRecursion IsSizedBox bs → IsBox b → AreBoxForms (bs ++ b ∷ [])
forms_more [] b s t = t
forms_more (c ∷ []) b s t = (s.0, t)
forms_more (c ∷ d ∷ ds) b s t = (s.0, forms_more (d ∷ ds) b s.1 t)

-- one box more stands where the others end
placed_more : (p : ℕ) (bs : List Box) (b : Box) → AllByRecursion IsSizedBox bs
    → placed_from p (bs ++ b ∷ []) ≡ placed_from p bs ++ record { at = p + boxes_len bs; box = b } ∷ []
placed_more p [] b s = let e : p ≡ p + 0 = omega arith in ap (λ (n : ℕ). record { at = n; box = b } ∷ []) e
placed_more p (c ∷ cs) b s =
    let size : boxes_len (c ∷ cs) ≡ box_len c + boxes_len cs =
    length-append (box_bytes c) (flat_map box_bytes cs) ∙ ap (λ n. n + boxes_len cs) (bytes_size c s.0.is_box) in
    let e : p + box_len c + boxes_len cs ≡ p + boxes_len (c ∷ cs) = omega (arith, size) in
    ap (λ (ys : List PlacedBox). record { at = p; box = c } ∷ ys)
    (placed_more (p + box_len c) cs b s.1 ∙ ap (λ (n : ℕ). placed_from (p + box_len c) cs ++ record { at = n; box = b } ∷ []) e)

-- the row of a header is the row of its box
row_same : (at : ℕ) (h : BoxHead) (b : Box) → box_len b ≡ h.length → header_len b.form ≡ h.header → b.kind ≡ h.kind
    → is_to_end b.form ≡ h.to_end → row_at at h ≡ row_of (record { at = at; box = b })
row_same at h b l m k e = sym (
    ap (λ (n : ℕ). row at n (header_len b.form) b.kind (is_to_end b.form)) l
    ∙ ap (λ (n : ℕ). row at h.length n b.kind (is_to_end b.form)) m
    ∙ ap (λ (x : List ℕ). row at h.length h.header x (is_to_end b.form)) k
    ∙ ap (λ (t : Bool). row at h.length h.header h.kind t) e)
  where
    row : ℕ → ℕ → ℕ → List ℕ → Bool → RootBox
    row at n m k e = record { start = at; length = n; header = m; kind = k; to_end = e }

-- the rows of one box more
rows_more : (bs : List Box) (b : Box) (at : ℕ) → AllByRecursion IsSizedBox bs → boxes_len bs ≡ at
    → rows_of (bs ++ b ∷ []) ≡ rows_of bs ++ row_of (record { at = at; box = b }) ∷ []
rows_more bs b at s e =
    let place : 0 + boxes_len bs ≡ at = omega (arith, e) in
    ap (map row_of) (placed_more 0 bs b s)
    ∙ map-append row_of (placed_from 0 bs) (record { at = 0 + boxes_len bs; box = b } ∷ [])
    ∙ ap (λ (n : ℕ). rows_of bs ++ row_of (record { at = n; box = b }) ∷ []) place

-- Where the header at the rest passes, the walk goes on past its box.
pub walks_more : (file : List ℕ) (at : ℕ) (rows : List RootBox) (h : BoxHead) → Walks file at rows → AreBytes file
    → length file < 2 ^ 62 → at < length file → IsHead at (drop at file) h
    → Walks file (at + h.length) (rows ++ row_at at h ∷ [])
walks_more file at rows h w bytes fits more head =
    let rest : List ℕ = drop at file in
    let left : length rest ≡ length file - at = length-drop at file in
    let b : BeginsWith rest (stated_header_len rest) (stated_len rest) (stated_kind rest) (stated_size rest == 0) =
    box_there at rest (bytes-drop at file bytes) (omega (arith, left, fits)) head.good in
    let len : box_len b.box ≡ h.length = b.length_is ∙ sym head.length in
    let before : AllByRecursion IsSizedBox w.boxes = w.sized more in
    let tail : drop (stated_len rest) rest ≡ drop (at + h.length) file =
    drop-drop (stated_len rest) at file ∙ ap (λ n. drop (at + n) file) (sym head.length) in
    let one : flat_map box_bytes (b.box ∷ []) ≡ box_bytes b.box = append-nil (box_bytes b.box) in
    let all : flat_map box_bytes (w.boxes ++ b.box ∷ []) ≡ flat_map box_bytes w.boxes ++ box_bytes b.box =
    flat_map-append box_bytes w.boxes (b.box ∷ []) ∙ ap (λ (ys : List ℕ). flat_map box_bytes w.boxes ++ ys) one in
    let place : boxes_len (w.boxes ++ b.box ∷ []) ≡ at + h.length =
    ap length all ∙ length-append (flat_map box_bytes w.boxes) (box_bytes b.box)
    ∙ ap₂ (λ (n m : ℕ). n + m) w.place (bytes_size b.box b.is_box ∙ len) in
    record {
      boxes = w.boxes ++ b.box ∷ [];
      bytes =
          w.bytes
          ∙ ap (λ (ys : List ℕ). flat_map box_bytes w.boxes ++ ys)
          (b.bytes ∙ ap (λ (ys : List ℕ). box_bytes b.box ++ ys) tail)
          ∙ sym (append_assoc (flat_map box_bytes w.boxes) (box_bytes b.box) (drop (at + h.length) file)) ∙ ap (λ (xs : List ℕ). xs ++ drop (at + h.length) file) (sym all);
      place = place;
      sized =
          λ later. all_more w.boxes b.box before (record { is_box = b.is_box; sized = open_end (stated_size rest == 0) b.end_is (λ e. omega (arith, later, left, b.ends e, head.length)) });
      forms = forms_more w.boxes b.box before b.is_box;
      are =
          ap (λ (xs : List RootBox). xs ++ row_at at h ∷ []) w.are
          ∙ ap (λ (x : RootBox). rows_of w.boxes ++ x ∷ [])
          (row_same at h b.box len (b.header_is ∙ sym head.header) (b.kind_is ∙ sym head.kind) (b.end_is ∙ sym head.to_end))
          ∙ sym (rows_more w.boxes b.box at before w.place);
    }
  where
    open_end : {b : Bool} (t : Bool) → b ≡ t → (t ≡ true → ⊥) → b ≡ false
    open_end true e f = absurd (f refl)
    open_end false e f = e

-- at the end of the file the walk has its root boxes
pub walks_end : (file : List ℕ) (at : ℕ) (rows : List RootBox) → Walks file at rows → length file ≤ at
    → length file < 2 ^ 62 → begins_bmff file ≡ true → length rows ≤ most_roots → AreRootsOf file rows
walks_end file at rows w done fits begins few =
    let counted : length rows ≡ length w.boxes = ap length w.are ∙ length-rows w.boxes in
    record {
      boxes = w.boxes;
      has_roots = record {
        fits = fits;
        begins = begins;
        bytes =
            w.bytes ∙ ap (λ (ys : List ℕ). flat_map box_bytes w.boxes ++ ys) (drop_all at file done)
            ∙ append-nil (flat_map box_bytes w.boxes);
        forms = w.forms;
        few = omega (arith, counted, few);
      };
      are = w.are;
    }

-- a test that fails at the rest is a fault of the file
pub walks_fault : (file : List ℕ) (at : ℕ) (rows : List RootBox) (e : MediaError) → Walks file at rows
    → at < length file → length rows ≤ most_roots → root_fault (length rows) at (drop at file) ≡ Some e
    → RootFault file e
walks_fault file at rows e w more few fails =
    let counted : length rows ≡ length w.boxes = ap length w.are ∙ length-rows w.boxes in
    record {
      before = w.boxes;
      rest = drop at file;
      bytes = w.bytes;
      sized = w.sized more;
      few = omega (arith, counted, few);
      more = omega (arith, length-drop at file, more);
      fails = ap₂ (λ (n p : ℕ). root_fault n p (drop at file)) (sym counted) w.place ∙ fails;
    }

-- a fault of the box, where there is room for it
pub room_fault : (count p : ℕ) (rest : List ℕ) (e : MediaError) → count < most_roots → box_fault p rest ≡ Some e
    → root_fault count p rest ≡ Some e
room_fault count p rest e few fails =
    ap (λ b. cond b (box_fault p rest) (Some TooManyBoxes)) ((Decides-ltb count most_roots).1 few) ∙ fails

-- no room
pub many_fault : (count p : ℕ) (rest : List ℕ) → most_roots ≤ count → root_fault count p rest ≡ Some TooManyBoxes
many_fault count p rest many = ap (λ b. cond b (box_fault p rest) (Some TooManyBoxes)) (le-ltb count most_roots many)

-- the start of a walk
pub walks_start : (file : List ℕ) → Walks file 0 []
walks_start file = record { boxes = []; bytes = refl; place = refl; sized = λ more. tt; forms = tt; are = refl }

-- bytes that can't be read refuse nothing
pub unread_cause : (len before mid now : ℕ) (e : MediaError) → mid ≡ before → OrBmffFault e ⊥ → IsBmffCaused mid now e
    → IsStoreCause len before now e
unread_cause len before mid now NotMedia count none h = absurd none
unread_cause len before mid now (FileTooLarge n) count none h = absurd none
unread_cause len before mid now (Truncated n) count none h = absurd none
unread_cause len before mid now (BadMarker n) count none h = absurd none
unread_cause len before mid now (BadSegment n) count none h = absurd none
unread_cause len before mid now (BadPacket n) count none h = absurd none
unread_cause len before mid now (TwoStores n) count none h = absurd none
unread_cause len before mid now (BadBox n) count none h = absurd none
unread_cause len before mid now (BadProvenanceBox n) count none h = absurd none
unread_cause len before mid now (StoreTooLarge n) count none h = absurd none
unread_cause len before mid now TooManyBoxes count none h = absurd none
unread_cause len before mid now ReadFault count none h = subst (λ (n : ℕ). Rose n now) count h
unread_cause len before mid now NoMemory count none h = tt

-- what follows from a claim follows where the source didn't fail
pub outside_map : (e : MediaError) {A B : Type 0} → (A → B) → OrBmffFault e A → OrBmffFault e B
outside_map NotMedia f a = f a
outside_map (FileTooLarge n) f a = f a
outside_map (Truncated n) f a = f a
outside_map (BadMarker n) f a = f a
outside_map (BadSegment n) f a = f a
outside_map (BadPacket n) f a = f a
outside_map (TwoStores n) f a = f a
outside_map (BadBox n) f a = f a
outside_map (BadProvenanceBox n) f a = f a
outside_map (StoreTooLarge n) f a = f a
outside_map TooManyBoxes f a = f a
outside_map ReadFault f a = tt
outside_map NoMemory f a = tt

-- fewer than eight bytes begin no BMFF file
pub short_begins : (file : List ℕ) → length file < 8 → begins_bmff file ≡ false
short_begins file few = go (begins_bmff file) refl
  where
    go : (t : Bool) → begins_bmff file ≡ t → begins_bmff file ≡ false
    go true e = absurd (
        let same : take 4 (drop 4 file) ≡ ftyp_kind = (bytes_eq-Decides (take 4 (drop 4 file)) ftyp_kind).0 e in
        let four : length (take 4 (drop 4 file)) ≡ 4 = ap length same in
        omega (arith, four, few, length-take 4 (drop 4 file), length-drop 4 file))
    go false e = e
