-- The base of a file: its root boxes without the one that holds a store.
use Rattle.std.proofs.Common.{◌≡◌, ℕ, ◌+◌, Bool, true, false, cond, ◌&&◌, List, [], ◌∷◌, ◌++◌, length, map, refl, sym, ap, ap₂, subst, ◌∙◌, arith}
use Rattle.std.proofs.lemmas.Bool.{false≢true}
use Rattle.std.proofs.lemmas.List.{append_cancel_left, length-replicate, map-append}
use Rattle.std.proofs.lemmas.Slice.Eq.{bytes_eq-Decides}
use Rattle.std.specs.List.{flat_map, AllByRecursion}
use Rattle.std.specs.Str.{bytes_eq}
use Rattle.c2_spec.specs.Bmff.Boxes.{AreBoxForms, Box, HasRoots, IsBox, box_bytes, box_len, boxes_len, ftyp_kind, header_len, size_fits, uuid_kind, begins_bmff}
use Rattle.c2_spec.specs.Bmff.Store.{HoldsBmffStore, is_c2pa_box, is_other_box, is_store_box}
use Rattle.c2_spec.specs.Bmff.Writing.{AreBaseRoots, IsBmffBase, same, without, base_roots, freed, is_file_end}
use Rattle.c2_spec.specs.PutIn.{taken_out}
use Rattle.c2_spec.proofs.BmffOneList.{first_box, other_boxes, roots_once}
use Rattle.c2_spec.proofs.BmffOneStore.{split_once, store_or_none}
use Rattle.c2_spec.proofs.BmffSizes.{bytes_size}
use Rattle.c2_bmff_insert_spec.proofs.Placing.{begins_list, bytes_more, first_is, forms_append, forms_back, forms_front, left_is, one_more}
use Rattle.c2_lemmas.proofs.Each.{each_append}
use Rattle.c2_lemmas.proofs.Parts.{others_same}

-- ---- a freed box

-- a freed box keeps its length
pub freed_len : (b : Box) → box_len (freed b) ≡ box_len b
freed_len b = ap (λ n. header_len b.form + n) (length-replicate (length b.payload) 0)

-- a freed box is a box
pub is_freed : (b : Box) → IsBox b → IsBox (freed b)
is_freed b h =
    record { kind = refl; fits = ap (size_fits b.form) (freed_len b) ∙ h.fits; user_type = λ e. absurd (false≢true e) }

-- a freed box says its size as before
forms_freed : (b : Box) (bs : List Box) → AreBoxForms (b ∷ bs) → AreBoxForms (freed b ∷ bs)
forms_freed b [] f = is_freed b f
forms_freed b (c ∷ cs) f = (record { is_box = is_freed b f.0.is_box; sized = f.0.sized }, f.1)

-- a freed box has no part in a store
freed_other : (b : Box) → is_other_box (freed b) ≡ true
unfolding is_other_box is_c2pa_box
freed_other b = refl

-- ---- root boxes without one

-- a box that holds a store is of type `uuid`
pub store_kind : (b : Box) → is_store_box b ≡ true → b.kind ≡ uuid_kind
unfolding is_store_box is_c2pa_box
store_kind b h = (bytes_eq-Decides b.kind uuid_kind).0 (first (bytes_eq b.kind uuid_kind) _ _ _ h)
  where
    first : (a b c d : Bool) → ((a && b) && c && d) ≡ true → a ≡ true
    first true b c d e = refl
    first false b c d e = absurd (cc (e))

-- a type that is `ftyp` isn't `uuid`
not_both : (kind : List ℕ) → kind ≡ ftyp_kind → kind ≡ uuid_kind → ⊥
not_both kind f u =
    false≢true (sym (ap (λ (k : List ℕ). bytes_eq k uuid_kind) f) ∙ ap (λ (k : List ℕ). bytes_eq k uuid_kind) u)

-- root boxes before one that holds a store, and others in their forms after them, begin a BMFF file
pub begins_without : (file : List ℕ) (xs ys zs : List Box) (b : Box) → HasRoots file (xs ++ b ∷ ys)
    → is_store_box b ≡ true → begins_bmff (flat_map box_bytes (xs ++ zs)) ≡ true
begins_without file [] ys zs b h s = absurd (not_both b.kind (first_is file b ys h) (store_kind b s))
begins_without file (x ∷ xs) ys zs b h s =
    begins_list (x ∷ (xs ++ zs)) x (xs ++ zs) refl (first_box x (xs ++ b ∷ ys) h.forms)
    (first_is file x (xs ++ b ∷ ys) h)

-- the file less the box
roots_cut : (file : List ℕ) (xs ys : List Box) (b : Box) → HasRoots file (xs ++ b ∷ ys) → is_store_box b ≡ true
    → HasRoots (flat_map box_bytes (xs ++ ys)) (xs ++ ys)
roots_cut file xs ys b h s =
    let size : length file ≡ boxes_len (xs ++ b ∷ ys) = ap length h.bytes in
    record {
      fits = omega (arith, h.fits, size, bytes_more xs ys b);
      begins = begins_without file xs ys ys b h s;
      bytes = refl;
      forms = forms_append xs ys (forms_front xs b ys h.forms) (other_boxes b ys (forms_back xs b ys h.forms));
      few = omega (arith, h.few, one_more xs ys b);
    }

-- the file with the box freed
roots_freed : (file : List ℕ) (xs ys : List Box) (b : Box) → HasRoots file (xs ++ b ∷ ys) → is_store_box b ≡ true
    → HasRoots (flat_map box_bytes (xs ++ freed b ∷ ys)) (xs ++ freed b ∷ ys)
roots_freed file xs ys b h s =
    let size : length file ≡ boxes_len (xs ++ b ∷ ys) = ap length h.bytes in
    let own : IsBox b = first_box b ys (forms_back xs b ys h.forms) in
    let was : length (box_bytes b) ≡ box_len b = bytes_size b own in
    let now : length (box_bytes (freed b)) ≡ box_len b = bytes_size (freed b) (is_freed b own) ∙ freed_len b in
    record {
      fits = omega (arith, h.fits, size, bytes_more xs ys b, bytes_more xs ys (freed b), was, now);
      begins = begins_without file xs ys (freed b ∷ ys) b h s;
      bytes = refl;
      forms =
          forms_append xs (freed b ∷ ys) (forms_front xs b ys h.forms) (forms_freed b ys (forms_back xs b ys h.forms));
      few = omega (arith, h.few, one_more xs ys b, one_more xs ys (freed b));
    }

-- a list of boxes is that of a base without a store
abbrev IsPlain : List Box → Type 0
IsPlain bs = HasRoots (flat_map box_bytes bs) bs × AllByRecursion (λ b. is_other_box b ≡ true) bs

-- the root boxes without the one that holds a store are those of a base without a store
pub base_plain : (file : List ℕ) (boxes : List Box) (start len : ℕ) (store : List ℕ) → HasRoots file boxes
    → (h : HoldsBmffStore boxes start len store) → IsPlain (base_roots h.before h.holder h.after)
base_plain file boxes start len store r h = go (is_file_end h.after)
  where
    is : HasRoots file (h.before ++ h.holder ∷ h.after)
    is = subst (HasRoots file) h.split r

    go : (t : Bool) → IsPlain (cond t (h.before ++ h.after) (h.before ++ freed h.holder ∷ h.after))
    go true =
        (roots_cut file h.before h.after h.holder is h.is_holder, each_append (λ b. is_other_box b ≡ true) h.before h.after h.others_before h.others_after)
    go false =
        (roots_freed file h.before h.after h.holder is h.is_holder, each_append (λ b. is_other_box b ≡ true) h.before (freed h.holder ∷ h.after) h.others_before (freed_other h.holder, h.others_after))

-- a base is a file without a store
pub base_is_plain : (file base : List ℕ) (roots : List Box) → IsBmffBase file base roots
    → HasRoots base roots × AllByRecursion (λ b. is_other_box b ≡ true) roots
base_is_plain file base roots h = go h.are
  where
    to_base : IsPlain roots → HasRoots base roots × AllByRecursion (λ b. is_other_box b ≡ true) roots
    to_base p = (subst (λ (f : List ℕ). HasRoots f roots) (sym h.bytes) p.0, p.1)

    go : AreBaseRoots h.boxes roots → HasRoots base roots × AllByRecursion (λ b. is_other_box b ≡ true) roots
    go (same others e) =
        let plain : IsPlain h.boxes =
        (subst (λ (f : List ℕ). HasRoots f h.boxes) h.has_roots.bytes h.has_roots, others) in
        to_base (subst IsPlain (sym e) plain)
    go (without start len store holds e) =
        to_base (subst IsPlain (sym e) (base_plain file h.boxes start len store h.has_roots holds))

-- ---- what becomes of the older box

-- at the end it is cut out
pub end_cut : (file : List ℕ) (boxes : List Box) (start len : ℕ) (store : List ℕ) → HasRoots file boxes
    → (h : HoldsBmffStore boxes start len store) → is_file_end h.after ≡ true
    → flat_map box_bytes (base_roots h.before h.holder h.after) ≡ taken_out start len file
end_cut file boxes start len store r h e =
    let own : IsBox h.holder =
    first_box h.holder h.after (forms_back h.before h.holder h.after (subst AreBoxForms h.split r.forms)) in
    let size : length (box_bytes h.holder) ≡ len = bytes_size h.holder own ∙ sym h.for in
    ap (λ (t : Bool). flat_map box_bytes (cond t (h.before ++ h.after) (h.before ++ freed h.holder ∷ h.after))) e
    ∙ sym (left_is h.before h.after h.holder len size)
    ∙ ap₂ (λ (n : ℕ) (f : List ℕ). taken_out n len f) (sym h.from) (sym (r.bytes ∙ ap (flat_map box_bytes) h.split))

-- elsewhere all boxes keep their lengths
pub lengths_kept : (boxes : List Box) (start len : ℕ) (store : List ℕ) → (h : HoldsBmffStore boxes start len store)
    → is_file_end h.after ≡ false → map box_len (base_roots h.before h.holder h.after) ≡ map box_len boxes
lengths_kept boxes start len store h e =
    ap (λ (t : Bool). map box_len (cond t (h.before ++ h.after) (h.before ++ freed h.holder ∷ h.after))) e
    ∙ map-append box_len h.before (freed h.holder ∷ h.after)
    ∙ ap (λ (n : ℕ). map box_len h.before ++ n ∷ map box_len h.after) (freed_len h.holder)
    ∙ sym (map-append box_len h.before (h.holder ∷ h.after))
    ∙ ap (map box_len) (sym h.split)

-- ---- one base

-- root boxes without the one that holds a store are one list
without_once : (boxes : List Box) (s n t m : ℕ) (a b : List ℕ) → (h : HoldsBmffStore boxes s n a)
    → (k : HoldsBmffStore boxes t m b) → base_roots h.before h.holder h.after ≡ base_roots k.before k.holder k.after
without_once boxes s n t m a b h k =
    let both : h.before ++ h.holder ∷ h.after ≡ k.before ++ k.holder ∷ k.after = sym h.split ∙ k.split in
    let one =
    split_once h.before k.before h.holder k.holder h.after k.after both h.others_before h.is_holder
    k.others_before k.is_holder in
    let rest : h.holder ∷ h.after ≡ k.holder ∷ k.after =
    append_cancel_left h.before (h.holder ∷ h.after) (k.holder ∷ k.after)
    (both ∙ ap (λ (xs : List Box). xs ++ k.holder ∷ k.after) (sym one.0)) in
    let after : h.after ≡ k.after = others_same h.holder k.holder h.after k.after rest in
    ap (λ (xs : List Box). base_roots xs h.holder h.after) one.0
    ∙ ap₂ (λ (x : Box) (xs : List Box). base_roots k.before x xs) one.1 after

-- the root boxes of a file's base are one list, in whichever way the base is made
base_once : (file : List ℕ) (boxes : List Box) (rs ss : List Box) → HasRoots file boxes → AreBaseRoots boxes rs
    → AreBaseRoots boxes ss → rs ≡ ss
base_once file boxes rs ss r (same p e) (same q f) = e ∙ sym f
base_once file boxes rs ss r (same p e) (without t m b k f) =
    absurd
    (store_or_none file t m b (record { roots = boxes; has_roots = r; holds = k }) (record { roots = boxes; has_roots = r; none = p }))
base_once file boxes rs ss r (without s n a h e) (same q f) =
    absurd
    (store_or_none file s n a (record { roots = boxes; has_roots = r; holds = h }) (record { roots = boxes; has_roots = r; none = q }))
base_once file boxes rs ss r (without s n a h e) (without t m b k f) = e ∙ without_once boxes s n t m a b h k ∙ sym f

-- a file has one base
pub one_base : (file a b : List ℕ) (rs ss : List Box) → IsBmffBase file a rs → IsBmffBase file b ss
    → (a ≡ b) × (rs ≡ ss)
one_base file a b rs ss h k =
    let boxes : k.boxes ≡ h.boxes = roots_once file k.boxes h.boxes k.has_roots h.has_roots in
    let roots : rs ≡ ss =
    base_once file h.boxes rs ss h.has_roots h.are (subst (λ (bs : List Box). AreBaseRoots bs ss) boxes k.are) in
    (h.bytes ∙ ap (flat_map box_bytes) roots ∙ sym k.bytes, roots)
