-- What the exclusions of a new BMFF hash leave of root boxes.
use Rattle.std.proofs.Common.{◌≡◌, inl, inr, ℕ, ◌+◌, Bool, true, false, cond, ◌&&◌, ◌||◌, List, [], ◌∷◌, ◌++◌, length, take, drop, None, refl, sym, ap, ap₂, subst, ◌∙◌, arith}
use Rattle.std.proofs.lemmas.Bool.{and_from, and_parts, le-leb, leb-true, lt-ltb, ltb-true}
use Rattle.std.proofs.lemmas.List.{length-take, length-drop}
use Rattle.std.proofs.lemmas.Slice.Eq.{bytes_eq-Decides}
use Rattle.std.specs.Prelude.{Contains, filter, nat_le, nat_lt, ◌↔◌}
use Rattle.std.specs.Int.{w64, to_be_bytes}
use Rattle.std.specs.List.{flat_map, AllByRecursion, list_any, range_with_len}
use Rattle.std.specs.Str.{bytes_eq}
use Rattle.c2_spec.specs.Bmff.Boxes.{AreBoxForms, Box, HasRoots, IsBox, SizeForm, short, long, to_end, box_bytes, box_len, ftyp_kind, uuid_kind}
use Rattle.c2_spec.specs.Bmff.Cover.{IsBmffCover, after_offset, bmff_text, root_text}
use Rattle.c2_spec.specs.Bmff.Hash.{ByteTest, Exclusion, IsExcluded, IsExcludedBy, MeetsTest}
use Rattle.c2_spec.specs.Bmff.Paths.{last, PathStep, PlacedBox, matched, placed_from}
use Rattle.c2_spec.specs.Bmff.Store.{c2pa_user_type}
use Rattle.c2_spec.specs.Bmff.Writing.{all_of, before_mfra, built_exclusions, built_part, built_text, c2pa_box, is_left_out, is_mfra, last_mfra, mfra_kind, with_store}
use Rattle.c2_bmff_insert_spec.specs.Laws.{HasBuiltCover}
use Rattle.c2_spec.proofs.BmffOneList.{first_box, other_boxes}
use Rattle.c2_spec.proofs.BmffSizes.{bytes_size}
use Rattle.c2_spec.proofs.Kept.{kept_none, kept_whole}
use Rattle.c2_bmff_rows.proofs.HeldLemmas.{Holds, held_once}
use Rattle.c2_bmff_rows.proofs.PathRows.{Member, any_member, from_member, member_any, to_member}
use Rattle.c2_bmff_insert_spec.proofs.Frames.{frame_out}
use Rattle.c2_bmff_insert_spec.proofs.Placing.{parts_are}
use Rattle.c2_spec.proofs.BmffShared.{alone}

-- ---- members

-- a member that passes a filter
filter_member : {A : Type 0} (p : A → Bool) (xs : List A) (x : A) → Member x xs → p x ≡ true → Member x (filter p xs)
filter_member p [] x m e = absurd m
filter_member p (y ∷ ys) x (inl f) e = here (p y) (ap p (sym f) ∙ e)
  where
    here : (t : Bool) → t ≡ true → Member x (cond t (y ∷ filter p ys) (filter p ys))
    here true s = inl f
    here false s = absurd (cc (s))
filter_member p (y ∷ ys) x (inr m) e = there (p y) (filter_member p ys x m e)
  where
    there : (t : Bool) → Member x (filter p ys) → Member x (cond t (y ∷ filter p ys) (filter p ys))
    there true n = inr n
    there false n = n

-- what passes a filter is a member, and passes
member_filter : {A : Type 0} (p : A → Bool) (xs : List A) (x : A) → Member x (filter p xs) → Member x xs × (p x ≡ true)
member_filter p [] x m = absurd m
member_filter p (y ∷ ys) x m = go (p y) refl m (member_filter p ys x)
  where
    go : (t : Bool) → p y ≡ t → Member x (cond t (y ∷ filter p ys) (filter p ys))
        → (Member x (filter p ys) → Member x ys × (p x ≡ true)) → Member x (y ∷ ys) × (p x ≡ true)
    go true s (inl f) more = (inl f, ap p f ∙ s)
    go true s (inr n) more = let r = more n in (inr r.0, r.1)
    go false s n more = let r = more n in (inr r.0, r.1)

-- ---- what is excluded

-- what one of the exclusions excludes lies in a root box of its type that meets its tests
abbrev Excludes : List Box → List ℕ → List ByteTest → ℕ → Type 0
Excludes roots kind tests i =
    (b : PlacedBox) × Member b (placed_from 0 roots) × (bytes_eq b.box.kind kind ≡ true) × AllByRecursion
    (MeetsTest b.box) tests × Holds b i

-- from the definition
excluded_box : (roots : List Box) (kind : List ℕ) (tests : List ByteTest) (i : ℕ)
    → IsExcludedBy roots (all_of kind tests) i → Excludes roots kind tests i
excluded_box roots kind tests i h =
    let step : PathStep = record { kind = kind; nth = None } in
    let on : Contains (matched step (placed_from 0 roots)) h.at =
    alone (placed_from 0 roots) (step ∷ []) h.at h.on_path step refl in
    let m =
    member_filter (λ (b : PlacedBox). bytes_eq b.box.kind kind) (placed_from 0 roots) h.at
    (to_member (matched step (placed_from 0 roots)) h.at on) in
    (h.at, m.0, m.1, h.tests, (h.from, h.to))

-- to the definition
box_excluded : (roots : List Box) (kind : List ℕ) (tests : List ByteTest) (i : ℕ) → Excludes roots kind tests i
    → IsExcludedBy roots (all_of kind tests) i
box_excluded roots kind tests i e =
    let step : PathStep = record { kind = kind; nth = None } in
    let m = filter_member (λ (b : PlacedBox). bytes_eq b.box.kind kind) (placed_from 0 roots) e.0 e.1 e.2 in
    record {
      at = e.0;
      on_path = last (placed_from 0 roots) step e.0 (from_member (matched step (placed_from 0 roots)) e.0 m);
      sized = tt;
      tests = e.3;
      from = e.4.0;
      to = e.4.1;
      part = refl;
    }

-- the test on the user type
abbrev user_test : ByteTest
user_test = record { offset = 8; value = c2pa_user_type }

-- a box that meets it has the user type there
test_user : (b : Box) → MeetsTest b user_test → bytes_eq (take 16 (drop 8 (box_bytes b))) c2pa_user_type ≡ true
test_user b h = (bytes_eq-Decides (take 16 (drop 8 (box_bytes b))) c2pa_user_type).1 h.same

-- a box that has it there meets it
user_tested : (b : Box) → IsBox b → bytes_eq (take 16 (drop 8 (box_bytes b))) c2pa_user_type ≡ true
    → MeetsTest b user_test
user_tested b is h =
    let e : take 16 (drop 8 (box_bytes b)) ≡ c2pa_user_type =
    (bytes_eq-Decides (take 16 (drop 8 (box_bytes b))) c2pa_user_type).0 h in
    let n : length (take 16 (drop 8 (box_bytes b))) ≡ 16 = ap length e in
    record
    { inside = omega (arith, n, length-take 16 (drop 8 (box_bytes b)), length-drop 8 (box_bytes b), bytes_size b is); same = e }

-- what is excluded at all lies in a root box that is left out
excluded_out : (roots : List Box) (i : ℕ) → IsExcluded roots built_exclusions i
    → (b : PlacedBox) × Member b (placed_from 0 roots) × (is_left_out b.box ≡ true) × Holds b i
excluded_out roots i h = go (to_member built_exclusions h.exclusion h.is_one) h.excludes
  where
    by : (kind : List ℕ) (tests : List ByteTest)
        → ((b : Box) → bytes_eq b.kind kind ≡ true → AllByRecursion (MeetsTest b) tests → is_left_out b ≡ true)
        → IsExcludedBy roots (all_of kind tests) i
        → (b : PlacedBox) × Member b (placed_from 0 roots) × (is_left_out b.box ≡ true) × Holds b i
    by kind tests out x = let e = excluded_box roots kind tests i x in (e.0, e.1, out e.0.box e.2 e.3, e.4)

    first : (b : Box) → bytes_eq b.kind uuid_kind ≡ true → AllByRecursion (MeetsTest b) (user_test ∷ [])
        → is_left_out b ≡ true
    first b k t = or_first (bytes_eq b.kind uuid_kind && bytes_eq (take 16 (drop 8 (box_bytes b))) c2pa_user_type) (bytes_eq b.kind ftyp_kind || is_mfra b) (and_from (bytes_eq b.kind uuid_kind) (bytes_eq (take 16 (drop 8 (box_bytes b))) c2pa_user_type) k (test_user b t.0))
      where
        or_first : (x y : Bool) → x ≡ true → (x || y) ≡ true
        or_first true y e = refl
        or_first false y e = absurd (cc (e))

    second : (b : Box) → bytes_eq b.kind ftyp_kind ≡ true → AllByRecursion (MeetsTest b) [] → is_left_out b ≡ true
    second b k t = or_second (bytes_eq b.kind uuid_kind && bytes_eq (take 16 (drop 8 (box_bytes b))) c2pa_user_type) (bytes_eq b.kind ftyp_kind) (is_mfra b) k
      where
        or_second : (x y z : Bool) → y ≡ true → (x || (y || z)) ≡ true
        or_second true y z e = refl
        or_second false true z e = refl
        or_second false false z e = absurd (cc (e))

    third : (b : Box) → bytes_eq b.kind mfra_kind ≡ true → AllByRecursion (MeetsTest b) [] → is_left_out b ≡ true
    third b k t = or_third (bytes_eq b.kind uuid_kind && bytes_eq (take 16 (drop 8 (box_bytes b))) c2pa_user_type) (bytes_eq b.kind ftyp_kind) (is_mfra b) k
      where
        or_third : (x y z : Bool) → z ≡ true → (x || (y || z)) ≡ true
        or_third true y z e = refl
        or_third false true z e = refl
        or_third false false true e = refl
        or_third false false false e = absurd (cc (e))

    go : Member h.exclusion built_exclusions → IsExcludedBy roots h.exclusion i
        → (b : PlacedBox) × Member b (placed_from 0 roots) × (is_left_out b.box ≡ true) × Holds b i
    go (inl e) x = by uuid_kind (user_test ∷ []) first (subst (λ (y : Exclusion). IsExcludedBy roots y i) e x)
    go (inr (inl e)) x = by ftyp_kind [] second (subst (λ (y : Exclusion). IsExcludedBy roots y i) e x)
    go (inr (inr (inl e))) x = by mfra_kind [] third (subst (λ (y : Exclusion). IsExcludedBy roots y i) e x)
    go (inr (inr (inr m))) x = absurd m

-- all of a root box that is left out is excluded
out_excluded : (roots : List Box) (b : PlacedBox) (i : ℕ) → IsBox b.box → Member b (placed_from 0 roots)
    → is_left_out b.box ≡ true → Holds b i → IsExcluded roots built_exclusions i
out_excluded roots b i is m out h = by (bytes_eq b.box.kind uuid_kind) (bytes_eq (take 16 (drop 8 (box_bytes b.box))) c2pa_user_type) (bytes_eq b.box.kind ftyp_kind) (is_mfra b.box) refl refl refl refl out
  where
    made : (kind : List ℕ) (tests : List ByteTest) → Member (all_of kind tests) built_exclusions
        → bytes_eq b.box.kind kind ≡ true → AllByRecursion (MeetsTest b.box) tests → IsExcluded roots built_exclusions i
    made kind tests one k t = record {
      exclusion = all_of kind tests;
      is_one = from_member built_exclusions (all_of kind tests) one;
      excludes = box_excluded roots kind tests i (b, m, k, t, h);
    }

    by : (u t f r : Bool) → bytes_eq b.box.kind uuid_kind ≡ u
        → bytes_eq (take 16 (drop 8 (box_bytes b.box))) c2pa_user_type ≡ t → bytes_eq b.box.kind ftyp_kind ≡ f
        → is_mfra b.box ≡ r → ((u && t) || (f || r)) ≡ true → IsExcluded roots built_exclusions i
    by true true f r eu et ef er e = made uuid_kind (user_test ∷ []) (inl refl) eu (user_tested b.box is et, tt)
    by true false true r eu et ef er e = made ftyp_kind [] (inr (inl refl)) ef tt
    by true false false true eu et ef er e = made mfra_kind [] (inr (inr (inl refl))) er tt
    by true false false false eu et ef er e = absurd (cc (e))
    by false t true r eu et ef er e = made ftyp_kind [] (inr (inl refl)) ef tt
    by false t false true eu et ef er e = made mfra_kind [] (inr (inr (inl refl))) er tt
    by false t false false eu et ef er e = absurd (cc (e))

-- ---- the text

-- a box has bytes
no_bytes : (form : SizeForm) (kind payload : List ℕ)
    → box_bytes (record { form = form; kind = kind; payload = payload }) ≡ [] → ⊥
no_bytes short kind payload e = cc (e)
no_bytes long kind payload e = cc (e)
no_bytes to_end kind payload e = cc (e)

-- the place of a box is told where all of its bytes are left
offset_told : (at : ℕ) (b : Box) → after_offset at (box_bytes b) ≡ to_be_bytes w64 at ++ box_bytes b
offset_told at b = some (box_bytes b) (no_bytes b.form b.kind b.payload)
  where
    some : (xs : List ℕ) → (xs ≡ [] → ⊥) → after_offset at xs ≡ to_be_bytes w64 at ++ xs
    some [] h = absurd (h refl)
    some (x ∷ xs) h = refl

-- a root box gives all of itself or nothing, where a test holds of all its positions or of none
part_told : (excludes : ℕ → Bool) (b : PlacedBox) → IsBox b.box → ((i : ℕ) → Holds b i → excludes i ≡ is_left_out b.box)
    → root_text excludes b ≡ built_part b
part_told excludes b is h = go (is_left_out b.box) h
  where
    size : length (box_bytes b.box) ≡ box_len b.box
    size = bytes_size b.box is

    go : (t : Bool) → ((i : ℕ) → Holds b i → excludes i ≡ t)
        → root_text excludes b ≡ cond t [] (to_be_bytes w64 b.at ++ box_bytes b.box)
    go true k =
        ap (after_offset b.at) (kept_none excludes b.at (box_bytes b.box) (λ i l m. k i (l, omega (arith, m, size))))
    go false k =
        ap (after_offset b.at) (kept_whole excludes b.at (box_bytes b.box) (λ i l m. k i (l, omega (arith, m, size))))
        ∙ offset_told b.at b.box

-- where each root box gives all of itself or nothing, all give the built text
parts_told : (excludes : ℕ → Bool) (bs : List PlacedBox)
    → AllByRecursion (λ (b : PlacedBox). root_text excludes b ≡ built_part b) bs
    → flat_map (root_text excludes) bs ≡ flat_map built_part bs
parts_told excludes [] h = refl
parts_told excludes (b ∷ bs) h = ap₂ (λ (x y : List ℕ). x ++ y) h.0 (parts_told excludes bs h.1)

-- what holds of each member holds of all
all_members : {A : Type 0} (P : A → Type 0) (xs : List A) → ((x : A) → Member x xs → P x) → AllByRecursion P xs
all_members P [] h = tt
all_members P (x ∷ xs) h = (h x (inl refl), all_members P xs (λ y m. h y (inr m)))

-- boxes in their places are boxes
placed_box : (p : ℕ) (bs : List Box) (b : PlacedBox) → AreBoxForms bs → Member b (placed_from p bs) → IsBox b.box
placed_box p [] b f m = absurd m
placed_box p (c ∷ cs) b f (inl e) = subst (λ (x : PlacedBox). IsBox x.box) (sym e) (first_box c cs f)
placed_box p (c ∷ cs) b f (inr m) = placed_box (p + box_len c) cs b (other_boxes c cs f) m

-- what the exclusions leave is told by the root boxes alone
pub text_told : (file : List ℕ) (roots : List Box) (size : ℕ) (excluded text : List ℕ) → HasRoots file roots
    → IsBmffCover roots size built_exclusions excluded text → text ≡ built_text roots
text_told file roots size excluded text r c = c.bytes ∙ parts_told c.excludes (placed_from 0 roots) (all_members (λ (b : PlacedBox). root_text c.excludes b ≡ built_part b) (placed_from 0 roots) each)
  where
    tested : (b : PlacedBox) → Member b (placed_from 0 roots) → IsBox b.box → (i : ℕ) → Holds b i → (t x : Bool)
        → is_left_out b.box ≡ t → c.excludes i ≡ x → x ≡ t
    tested b m is i h true true e f = refl
    tested b m is i h false false e f = refl
    tested b m is i h true false e f =
        absurd (let bad = sym ((c.exactly i).1 (out_excluded roots b i is m e h)) ∙ f in cc (bad))
    tested b m is i h false true e f =
        let o = excluded_out roots i ((c.exactly i).0 f) in
        absurd (let bad = sym o.2 ∙ ap (λ (x : PlacedBox). is_left_out x.box) (held_once 0 roots o.0 b i o.1 m o.3 h) ∙ e in cc (bad))

    each : (b : PlacedBox) → Member b (placed_from 0 roots) → root_text c.excludes b ≡ built_part b
    each b m =
        let is : IsBox b.box = placed_box 0 roots b r.forms m in
        part_told c.excludes b is (λ i h. tested b m is i h (is_left_out b.box) (c.excludes i) refl refl)

-- ---- the test

-- a root box that is left out holds the position
abbrev holds_out : ℕ → PlacedBox → Bool
holds_out i b = is_left_out b.box && (nat_le b.at i && nat_lt i (b.at + box_len b.box))

-- some root box does
abbrev out_at : List Box → ℕ → Bool
out_at roots i = list_any (holds_out i) (placed_from 0 roots)

-- some root box is left out at a position exactly where the exclusions exclude the position
out_exactly : (file : List ℕ) (roots : List Box) → HasRoots file roots → (i : ℕ)
    → (out_at roots i ≡ true) ↔ IsExcluded roots built_exclusions i
out_exactly file roots r i = (to, from)
  where
    to : out_at roots i ≡ true → IsExcluded roots built_exclusions i
    to e =
        let m = any_member (holds_out i) (placed_from 0 roots) e in
        let b : PlacedBox = m.0 in
        let both = and_parts (is_left_out b.box) (nat_le b.at i && nat_lt i (b.at + box_len b.box)) m.2 in
        let held = and_parts (nat_le b.at i) (nat_lt i (b.at + box_len b.box)) both.1 in
        out_excluded roots b i (placed_box 0 roots b r.forms m.1) m.1 both.0
        (leb-true b.at i held.0, ltb-true i (b.at + box_len b.box) held.1)

    from : IsExcluded roots built_exclusions i → out_at roots i ≡ true
    from x =
        let o = excluded_out roots i x in
        let b : PlacedBox = o.0 in
        member_any (holds_out i) (placed_from 0 roots) b o.1
        (and_from (is_left_out b.box) (nat_le b.at i && nat_lt i (b.at + box_len b.box)) o.2 (and_from (nat_le b.at i) (nat_lt i (b.at + box_len b.box)) (le-leb b.at i o.3.0) (lt-ltb i (b.at + box_len b.box) o.3.1)))

-- the text that the root boxes tell is what the exclusions leave
pub built_cover : (file : List ℕ) (roots : List Box) (size : ℕ) → HasRoots file roots → HasBuiltCover roots size
built_cover file roots size r =
    let out : List ℕ = filter (out_at roots) (range_with_len 0 size) in
    let c : IsBmffCover roots size built_exclusions out (bmff_text (out_at roots) roots) =
    record { excludes = out_at roots; exactly = out_exactly file roots r; positions = refl; bytes = refl } in
    record
    { excluded = out; cover = subst (IsBmffCover roots size built_exclusions out) (text_told file roots size out (bmff_text (out_at roots) roots) r c) c }

-- ---- with the store and without

-- boxes that are left out give nothing, wherever they stand
out_none : (p : ℕ) (bs : List Box) → AllByRecursion (λ (b : Box). is_left_out b ≡ true) bs
    → flat_map built_part (placed_from p bs) ≡ []
out_none p [] h = refl
out_none p (b ∷ bs) h =
    ap₂ (λ (t : Bool) (xs : List ℕ). cond t [] (to_be_bytes w64 p ++ box_bytes b) ++ xs) h.0
    (out_none (p + box_len b) bs h.1)

-- boxes that are left out don't change what the boxes before them give
out_behind : (p : ℕ) (xs ys : List Box) → AllByRecursion (λ (b : Box). is_left_out b ≡ true) ys
    → flat_map built_part (placed_from p (xs ++ ys)) ≡ flat_map built_part (placed_from p xs)
out_behind p [] ys h = out_none p ys h
out_behind p (x ∷ xs) ys h =
    ap (λ (zs : List ℕ). built_part (record { at = p; box = x }) ++ zs) (out_behind (p + box_len x) xs ys h)

-- a last `mfra` is left out
last_out : (bs : List Box) → AllByRecursion (λ (b : Box). is_left_out b ≡ true) (last_mfra bs)
last_out [] = tt
last_out (b ∷ []) = go (is_mfra b) refl
  where
    third : (x y z : Bool) → z ≡ true → (x || (y || z)) ≡ true
    third true y z e = refl
    third false true z e = refl
    third false false true e = refl
    third false false false e = absurd (cc (e))

    go : (t : Bool) → is_mfra b ≡ t → AllByRecursion (λ (b : Box). is_left_out b ≡ true) (cond t (b ∷ []) [])
    go true e =
        (third (bytes_eq b.kind uuid_kind && bytes_eq (take 16 (drop 8 (box_bytes b))) c2pa_user_type) (bytes_eq b.kind ftyp_kind) (is_mfra b) e, tt)
    go false e = tt
last_out (b ∷ c ∷ cs) = last_out (c ∷ cs)

-- the box of a store is covered by no byte, and moves none that is covered
pub text_same : (roots : List Box) (store : List ℕ) → built_text (with_store store roots) ≡ built_text roots
text_same roots store =
    out_behind 0 (before_mfra roots) (c2pa_box store ∷ last_mfra roots) (frame_out store, last_out roots)
    ∙ sym (out_behind 0 (before_mfra roots) (last_mfra roots) (last_out roots))
    ∙ ap built_text (parts_are roots)
