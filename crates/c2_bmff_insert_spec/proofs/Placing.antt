-- A box put in among root boxes.
use Rattle.std.proofs.Common.{◌≡◌, ℕ, suc, ◌+◌, Bool, true, false, cond, List, [], ◌∷◌, ◌++◌, length, take, drop, None, refl, sym, ap, ap₂, ◌∙◌, arith, length-append}
use Rattle.std.proofs.lemmas.Grind.{flat_map-append}
use Rattle.std.proofs.lemmas.List.{take_at, drop_at, drop-drop}
use Rattle.std.proofs.lemmas.Slice.Eq.{bytes_eq-Decides}
use Rattle.std.specs.List.{flat_map, AllByRecursion}
use Rattle.std.specs.Str.{bytes_eq}
use Rattle.c2_spec.specs.Bmff.Boxes.{AreBoxForms, Box, HasRoots, IsBox, IsSizedBox, begins_bmff, box_bytes, box_len, boxes_len, ftyp_kind, is_to_end}
use Rattle.c2_spec.specs.Bmff.Paths.{placed_from}
use Rattle.c2_spec.specs.Bmff.Writing.{before_mfra, is_file_end, is_mfra, last_mfra, mfra_kind, open_end}
use Rattle.c2_spec.specs.PutIn.{put_in, taken_out}
use Rattle.c2_spec.proofs.BmffOneList.{first_box, tells}
use Rattle.c2_lemmas.proofs.Options.{is_closed}

-- ---- lists

-- ---- the two parts of root boxes

-- the boxes before a last `mfra`, and that one, are all
pub parts_are : (bs : List Box) → before_mfra bs ++ last_mfra bs ≡ bs
parts_are [] = refl
parts_are (b ∷ []) = go (is_mfra b)
  where
    go : (t : Bool) → cond t [] (b ∷ []) ++ cond t (b ∷ []) [] ≡ b ∷ []
    go true = refl
    go false = refl
parts_are (b ∷ c ∷ cs) = ap (λ (xs : List Box). b ∷ xs) (parts_are (c ∷ cs))

-- the second is an end of a file
pub last_is_end : (bs : List Box) → is_file_end (last_mfra bs) ≡ true
last_is_end [] = refl
last_is_end (b ∷ []) = go (is_mfra b) refl
  where
    go : (t : Bool) → is_mfra b ≡ t → is_file_end (cond t (b ∷ []) []) ≡ true
    go true e = e
    go false e = refl
last_is_end (b ∷ c ∷ cs) = last_is_end (c ∷ cs)

-- where the last box isn't open, all before a last `mfra` say their sizes
pub before_sized : (p : ℕ) (bs : List Box) → AreBoxForms bs → open_end (placed_from p bs) ≡ None
    → AllByRecursion IsSizedBox (before_mfra bs)
before_sized p [] f h = tt
before_sized p (b ∷ []) f h = go (is_mfra b) refl
  where
    go : (t : Bool) → is_mfra b ≡ t → AllByRecursion IsSizedBox (cond t [] (b ∷ []))
    go true e = tt
    go false e = (record { is_box = f; sized = is_closed p (is_to_end b.form) (is_mfra b) e h }, tt)
before_sized p (b ∷ c ∷ cs) f h = (f.0, before_sized (p + box_len b) (c ∷ cs) f.1 h)

-- the last `mfra` is a box
pub last_forms : (bs : List Box) → AreBoxForms bs → AreBoxForms (last_mfra bs)
last_forms [] f = tt
last_forms (b ∷ []) f = go (is_mfra b)
  where
    go : (t : Bool) → AreBoxForms (cond t (b ∷ []) [])
    go true = f
    go false = tt
last_forms (b ∷ c ∷ cs) f = last_forms (c ∷ cs) f.1

-- boxes that say their sizes, and then boxes in their forms
pub forms_append : (xs ys : List Box) → AllByRecursion IsSizedBox xs → AreBoxForms ys → AreBoxForms (xs ++ ys)
forms_append [] ys s f = f
forms_append (x ∷ []) [] s f = s.0.is_box
forms_append (x ∷ []) (y ∷ ys) s f = (s.0, f)
forms_append (x ∷ z ∷ zs) ys s f = (s.0, forms_append (z ∷ zs) ys s.1 f)

-- boxes before another one say their sizes
pub forms_front : (xs : List Box) (y : Box) (ys : List Box) → AreBoxForms (xs ++ y ∷ ys) → AllByRecursion IsSizedBox xs
forms_front [] y ys f = tt
forms_front (x ∷ []) y ys f = (f.0, tt)
forms_front (x ∷ z ∷ zs) y ys f = (f.0, forms_front (z ∷ zs) y ys f.1)

-- boxes after others are in their forms
pub forms_back : (xs : List Box) (y : Box) (ys : List Box) → AreBoxForms (xs ++ y ∷ ys) → AreBoxForms (y ∷ ys)
forms_back [] y ys f = f
forms_back (x ∷ []) y ys f = f.1
forms_back (x ∷ z ∷ zs) y ys f = forms_back (z ∷ zs) y ys f.1

-- ---- the first root box

-- a file that begins with a box has its type in bytes 4 to 7
pub begins_with : (b : Box) (rest : List ℕ) → IsBox b → begins_bmff (box_bytes b ++ rest) ≡ bytes_eq b.kind ftyp_kind
begins_with b rest h = ap (λ k. bytes_eq k ftyp_kind) (tells b.form b.kind b.payload rest h.kind h).kind_is

-- the first root box is of type `ftyp`
pub first_is : (file : List ℕ) (b : Box) (bs : List Box) → HasRoots file (b ∷ bs) → b.kind ≡ ftyp_kind
first_is file b bs h =
    let e : begins_bmff file ≡ bytes_eq b.kind ftyp_kind =
    ap begins_bmff h.bytes ∙ begins_with b (flat_map box_bytes bs) (first_box b bs h.forms) in
    (bytes_eq-Decides b.kind ftyp_kind).0 (sym e ∙ h.begins)

-- boxes of which the first is of type `ftyp` begin a BMFF file
pub begins_list : (bs : List Box) (b : Box) (cs : List Box) → bs ≡ b ∷ cs → IsBox b → b.kind ≡ ftyp_kind
    → begins_bmff (flat_map box_bytes bs) ≡ true
begins_list bs b cs e h k =
    ap (λ (xs : List Box). begins_bmff (flat_map box_bytes xs)) e ∙ begins_with b (flat_map box_bytes cs) h
    ∙ ap (λ (x : List ℕ). bytes_eq x ftyp_kind) k

-- the first of the boxes before a last `mfra` is the first of all, where that is none
before_first : (b : Box) (bs : List Box) → is_mfra b ≡ false → (cs : List Box) × (before_mfra (b ∷ bs) ≡ b ∷ cs)
before_first b [] e = ([], ap (λ (t : Bool). cond t [] (b ∷ [])) e)
before_first b (c ∷ cs) e = (before_mfra (c ∷ cs), refl)

-- the boxes before a last `mfra`, and whatever comes then, begin a BMFF file
pub begins_before : (file : List ℕ) (bs ys : List Box) → HasRoots file bs
    → begins_bmff (flat_map box_bytes (before_mfra bs ++ ys)) ≡ true
begins_before file [] ys h = absurd (let bad = sym h.begins ∙ ap begins_bmff h.bytes in cc (bad))
begins_before file (b ∷ bs) ys h =
    let k : b.kind ≡ ftyp_kind = first_is file b bs h in
    let one = before_first b bs (ap (λ (x : List ℕ). bytes_eq x mfra_kind) k) in
    begins_list (before_mfra (b ∷ bs) ++ ys) b (one.0 ++ ys) (ap (λ (xs : List Box). xs ++ ys) one.1)
    (first_box b bs h.forms) k

-- ---- bytes

-- a box put in where the first boxes end stands between both parts
pub put_is : (xs ys : List Box) (b : Box)
    → put_in (boxes_len xs) (box_bytes b) (flat_map box_bytes (xs ++ ys)) ≡ flat_map box_bytes (xs ++ b ∷ ys)
put_is xs ys b =
    let all : flat_map box_bytes (xs ++ ys) ≡ flat_map box_bytes xs ++ flat_map box_bytes ys =
    flat_map-append box_bytes xs ys in
    ap₂ (λ (f r : List ℕ). f ++ (box_bytes b ++ r))
    (ap (take (boxes_len xs)) all ∙ take_at (flat_map box_bytes xs) (flat_map box_bytes ys) (boxes_len xs) refl)
    (ap (drop (boxes_len xs)) all ∙ drop_at (flat_map box_bytes xs) (flat_map box_bytes ys) (boxes_len xs) refl)
    ∙ sym (flat_map-append box_bytes xs (b ∷ ys))

-- taken out again, it leaves both parts
pub left_is : (xs ys : List Box) (b : Box) (n : ℕ) → length (box_bytes b) ≡ n
    → taken_out (boxes_len xs) n (flat_map box_bytes (xs ++ b ∷ ys)) ≡ flat_map box_bytes (xs ++ ys)
left_is xs ys b n e =
    let front : List ℕ = flat_map box_bytes xs in
    let back : List ℕ = flat_map box_bytes ys in
    let whole : List ℕ = flat_map box_bytes (xs ++ b ∷ ys) in
    let all : whole ≡ front ++ (box_bytes b ++ back) = flat_map-append box_bytes xs (b ∷ ys) in
    ap₂ (λ (f r : List ℕ). f ++ r)
    (ap (take (boxes_len xs)) all ∙ take_at front (box_bytes b ++ back) (boxes_len xs) refl)
    (sym (drop-drop n (boxes_len xs) whole) ∙ ap (λ (r : List ℕ). drop n (drop (boxes_len xs) r)) all ∙ ap (drop n) (drop_at front (box_bytes b ++ back) (boxes_len xs) refl) ∙ drop_at (box_bytes b) back n e)
    ∙ sym (flat_map-append box_bytes xs ys)

-- one box more
pub one_more : (xs ys : List Box) (b : Box) → length (xs ++ b ∷ ys) ≡ suc (length (xs ++ ys))
one_more xs ys b = omega (arith, length-append xs (b ∷ ys), length-append xs ys)

-- one box more between others has its bytes more
pub bytes_more : (xs ys : List Box) (b : Box) → boxes_len (xs ++ b ∷ ys) ≡ boxes_len (xs ++ ys) + length (box_bytes b)
bytes_more xs ys b =
    let front : ℕ = boxes_len xs in
    let back : ℕ = boxes_len ys in
    let own : ℕ = length (box_bytes b) in
    let with_b : boxes_len (xs ++ b ∷ ys) ≡ front + (own + back) =
    ap length (flat_map-append box_bytes xs (b ∷ ys))
    ∙ length-append (flat_map box_bytes xs) (box_bytes b ++ flat_map box_bytes ys)
    ∙ ap (λ n. front + n) (length-append (box_bytes b) (flat_map box_bytes ys)) in
    let without : boxes_len (xs ++ ys) ≡ front + back =
    ap length (flat_map-append box_bytes xs ys) ∙ length-append (flat_map box_bytes xs) (flat_map box_bytes ys) in
    omega (arith, with_b, without)
