-- Each BMFF file comes to something: a refusal, no store, or a store.
use Rattle.std.proofs.Common.{◌≡◌, ◌⊎◌, inl, inr, ⊎_elim, ℕ, zero, suc, ◌+◌, ◌^◌, ◌<◌, ◌≤◌, Bool, true, false, cond, ◌&&◌, leb, ltb, ◌==◌, List, [], ◌∷◌, ◌++◌, length, take, drop, is_some, Option, Some, None, refl, sym, ap, ◌∙◌, subst, arith, append_assoc, append-nil, length-append}
use Rattle.std.proofs.lemmas.Bool.{cases_lt, ltb-true}
use Rattle.std.proofs.lemmas.Grind.{flat_map-append}
use Rattle.std.proofs.lemmas.List.{drop_all}
use Rattle.std.specs.List.{flat_map, AllByRecursion}
use Rattle.std.specs.Str.{bytes_eq}
use Rattle.c2_base.specs.declared.media.Found.{Found}
use Rattle.c2_base.specs.declared.media.MediaError.{MediaError}
use Rattle.c2_base.specs.declared.media.MediaError.TheVariants.{NotMedia, FileTooLarge, Truncated, TwoStores, BadBox, BadProvenanceBox, StoreTooLarge, TooManyBoxes}
use Rattle.c2_spec.specs.Bmff.Boxes.{SizeForm, short, long, to_end, Box, IsBox, IsSizedBox, AreBoxForms, HasRoots, RootFault, begins_bmff, box_bytes, box_fault, boxes_len, header_len, most_roots, root_fault, stated_kind, stated_len, stated_header_len, stated_long_size, stated_size, uuid_kind}
use Rattle.c2_spec.specs.Bmff.Store.{FirstBmffFault, too_large, not_media, root, provenance, ProvenanceFault, IsBmffLocated}
use Rattle.c2_spec.specs.Located.{Located, refused, absent, here, refusal}
use Rattle.c2_spec.specs.declared.reason.Reason.{Reason}
use Rattle.c2_spec.specs.declared.reason.Reason.TheVariants as why
use Rattle.c2_spec.proofs.BmffTests.{six, file_by, len_by}
use Rattle.c2_bmff_boxes.specs.Provenance.{payload_part}
use Rattle.c2_bmff_rows.specs.Rows.{BeginsWith, row_of}
use Rattle.c2_bmff_boxes.specs.Search.{FailsBy, Searched, StepsBy}
use Rattle.c2_bmff_boxes.specs.declared.provenance.Part.{Part}
use Rattle.c2_bmff_boxes.specs.declared.provenance.Part.TheVariants as part
use Rattle.c2_bmff_rows.specs.declared.row.RootBox.{RootBox}
use Rattle.c2_bmff_rows.proofs.BoxThere.{box_there}
use Rattle.c2_lemmas.proofs.Bytes.{AreBytes, bytes-drop}
use Rattle.c2_bmff_boxes.proofs.FoundLemmas.{searched_fails, searched_none, searched_not, searched_uuid}
use Rattle.c2_bmff_boxes.proofs.WalkLemmas.{all_more, forms_more}
use Rattle.c2_spec.proofs.BmffSizes.{bytes_size}

-- an error that refuses the file
abbrev Refuses : MediaError → Type 0
Refuses e = (r : Reason) × (n : ℕ) × (refusal e ≡ Some (refused r n))

-- one of two values
six_one : {A : Type 0} (a b c d e f : Bool) (x y z : A) → six a b c d e f x y ≡ Some z → (z ≡ x) ⊎ (z ≡ y)
six_one true b c d e f x y z h = inl (cc (h))
six_one false true c d e f x y z h = inl (cc (h))
six_one false false true d e f x y z h = inr (cc (h))
six_one false false false true e f x y z h = inr (cc (h))
six_one false false false false true f x y z h = inl (cc (h))
six_one false false false false false true x y z h = inr (cc (h))
six_one false false false false false false x y z h = absurd (cc (h))

-- the tests of a box refuse the file
box_refuses : (p : ℕ) (rest : List ℕ) (e : MediaError) → box_fault p rest ≡ Some e → Refuses e
box_refuses p rest e h =
    let left : ℕ = length rest in
    let size : ℕ = stated_size rest in
    let wide : ℕ = stated_long_size rest in
    let header : ℕ = cond (size == 1) 16 8 in
    let len : ℕ = len_by left size wide in
    ⊎_elim
    (λ t. subst Refuses (sym t) (why.Truncated, p + left, refl))
    (λ b. subst Refuses (sym b) (why.BadBox, p, refl))
    (six_one (ltb left 8) (ltb left header) (leb 2 size && ltb size 8) ((size == 1) && ltb wide 16) (ltb left len)
    (bytes_eq (stated_kind rest) uuid_kind && ltb len (header + 16)) (Truncated (p + left)) (BadBox p) e
    (sym (file_by p rest) ∙ h))

-- the test of the number of root boxes refuses the file
root_refuses : (count p : ℕ) (rest : List ℕ) (e : MediaError) → root_fault count p rest ≡ Some e → Refuses e
root_refuses count p rest e h = go (ltb count most_roots) refl
  where
    go : (t : Bool) → ltb count most_roots ≡ t → Refuses e
    go true s = box_refuses p rest e (sym (ap (λ (x : Bool). cond x (box_fault p rest) (Some TooManyBoxes)) s) ∙ h)
    go false s = let many : Some TooManyBoxes ≡ Some e = sym (ap (λ (x : Bool). cond x (box_fault p rest) (Some TooManyBoxes)) s) ∙ h in let one : TooManyBoxes ≡ e = cc (many) in subst Refuses one (why.TooManyBoxes, most_roots, refl)

-- a box passes, and isn't one too many
root_passes : (count p : ℕ) (rest : List ℕ) → root_fault count p rest ≡ None
    → (count < most_roots) × (box_fault p rest ≡ None)
root_passes count p rest h = go (ltb count most_roots) refl
  where
    go : (t : Bool) → ltb count most_roots ≡ t → (count < most_roots) × (box_fault p rest ≡ None)
    go true s =
        (ltb-true count most_roots s, sym (ap (λ (x : Bool). cond x (box_fault p rest) (Some TooManyBoxes)) s) ∙ h)
    go false s =
        absurd (let many = sym (ap (λ (x : Bool). cond x (box_fault p rest) (Some TooManyBoxes)) s) ∙ h in cc (many))

-- boxes that say their sizes are a list of boxes
sized_forms : (bs : List Box) → AllByRecursion IsSizedBox bs → AreBoxForms bs
sized_forms [] s = tt
sized_forms (b ∷ []) s = s.0.is_box
sized_forms (b ∷ c ∷ cs) s = (s.0, sized_forms (c ∷ cs) s.1)

-- the root boxes of a file, or their first test that fails
abbrev RootsOr : List ℕ → Type 0
RootsOr file = ((roots : List Box) × HasRoots file roots) ⊎ ((e : MediaError) × RootFault file e × Refuses e)

-- the box that these bytes begin with, as its header states it
abbrev FirstOf : List ℕ → Type 0
FirstOf rest =
    BeginsWith rest (stated_header_len rest) (stated_len rest) (stated_kind rest) (stated_size rest == 0)

-- past a box that says its size, which these bytes begin with, the file has root boxes, or a first test of them fails
abbrev GoesOn : List ℕ → List Box → List ℕ → Type 0
GoesOn file before rest =
    (c : Box) (tail : List ℕ) → AreBytes tail → length tail + 1 ≤ length rest
    → length (before ++ c ∷ []) ≤ most_roots → (rest ≡ box_bytes c ++ tail) × IsSizedBox c → RootsOr file

-- one box more
bytes_more : (file : List ℕ) (before : List Box) (c : Box) (rest tail : List ℕ)
    → file ≡ flat_map box_bytes before ++ rest → rest ≡ box_bytes c ++ tail
    → file ≡ flat_map box_bytes (before ++ c ∷ []) ++ tail
bytes_more file before c rest tail e f =
    let one : flat_map box_bytes (c ∷ []) ≡ box_bytes c = append-nil (box_bytes c) in
    let all : flat_map box_bytes (before ++ c ∷ []) ≡ flat_map box_bytes before ++ box_bytes c =
    flat_map-append box_bytes before (c ∷ []) ∙ ap (λ (ys : List ℕ). flat_map box_bytes before ++ ys) one in
    e ∙ ap (λ (ys : List ℕ). flat_map box_bytes before ++ ys) f
    ∙ sym (append_assoc (flat_map box_bytes before) (box_bytes c) tail) ∙ ap (λ (xs : List ℕ). xs ++ tail) (sym all)

-- a box has its header
least : (b : Box) → IsBox b → 8 ≤ length (box_bytes b)
least b h = omega (arith, bytes_size b h, least_len b.form)
  where
    least_len : (f : SizeForm) → 8 ≤ header_len f
    least_len short = omega arith
    least_len long = omega arith
    least_len to_end = omega arith

-- a BMFF file with boxes that say their sizes at its front has root boxes, or a first test of them fails
roots_walk : (file : List ℕ) → length file < 2 ^ 62 → begins_bmff file ≡ true
    → (n : ℕ) (before : List Box) (rest : List ℕ) → AreBytes rest → length rest ≤ n → length rest < 2 ^ 62
    → AllByRecursion IsSizedBox before → length before ≤ most_roots → file ≡ flat_map box_bytes before ++ rest
    → RootsOr file
roots_walk file fits begins n before [] bytes enough small sized few e =
    inl
    (before, record { fits = fits; begins = begins; bytes = e ∙ append-nil (flat_map box_bytes before); forms = sized_forms before sized; few = few })
roots_walk file fits begins zero before (x ∷ xs) bytes enough small sized few e = absurd (omega arith)
roots_walk file fits begins (suc n) before (x ∷ xs) bytes enough small sized few e =
    by (root_fault (length before) (boxes_len before) (x ∷ xs)) refl
    (λ c tail is more count split. roots_walk file fits begins n (before ++ c ∷ []) tail is (omega (arith, more)) (omega (arith, more, small)) (all_more before c sized split.1) count (bytes_more file before c (x ∷ xs) tail e split.0))
  where
    by : (fault : Option MediaError) → root_fault (length before) (boxes_len before) (x ∷ xs) ≡ fault
        → GoesOn file before (x ∷ xs) → RootsOr file
    by (Some f) h go =
        inr
        (f, record { before = before; rest = x ∷ xs; bytes = e; sized = sized; few = few; more = omega arith; fails = h }, root_refuses (length before) (boxes_len before) (x ∷ xs) f h)
    by None h go =
        let passes = root_passes (length before) (boxes_len before) (x ∷ xs) h in
        let c : FirstOf (x ∷ xs) = box_there (boxes_len before) (x ∷ xs) bytes (omega (arith, small)) passes.1 in
        let count : length (before ++ c.box ∷ []) ≤ most_roots =
        omega (arith, length-append before (c.box ∷ []), passes.0) in
        last_or (stated_size (x ∷ xs) == 0) refl c count go
      where
        last_or : (t : Bool) → (stated_size (x ∷ xs) == 0) ≡ t → (c : FirstOf (x ∷ xs))
            → length (before ++ c.box ∷ []) ≤ most_roots → GoesOn file before (x ∷ xs) → RootsOr file
        last_or true t c count go =
            let end : length (x ∷ xs) ≤ stated_len (x ∷ xs) = omega (arith, c.ends t) in
            let none : drop (stated_len (x ∷ xs)) (x ∷ xs) ≡ [] = drop_all (stated_len (x ∷ xs)) (x ∷ xs) end in
            inl (
              before ++ c.box ∷ [],
              record {
                fits = fits;
                begins = begins;
                bytes =
                    bytes_more file before c.box (x ∷ xs) [] e
                    (c.bytes ∙ ap (λ (ys : List ℕ). box_bytes c.box ++ ys) none)
                    ∙ append-nil (flat_map box_bytes (before ++ c.box ∷ []));
                forms = forms_more before c.box sized c.is_box;
                few = count;
              },
            )
        last_or false t c count go =
            let size : length (x ∷ xs) ≡ length (box_bytes c.box) + length (drop (stated_len (x ∷ xs)) (x ∷ xs)) =
            ap length c.bytes ∙ length-append (box_bytes c.box) (drop (stated_len (x ∷ xs)) (x ∷ xs)) in
            go c.box (drop (stated_len (x ∷ xs)) (x ∷ xs)) (bytes-drop (stated_len (x ∷ xs)) (x ∷ xs) bytes)
            (omega (arith, size, least c.box c.is_box)) count
            (c.bytes, record { is_box = c.is_box; sized = c.end_is ∙ t })

-- ---- the store

-- what was found among root boxes, or the first test that fails
abbrev FoundOr : List ℕ → List Box → Type 0
FoundOr file roots =
    ((found : Option Found) × Searched roots found) ⊎ ((e : MediaError) × ProvenanceFault file e × Refuses e)

-- where the first root boxes pass the search, all of them do, or a C2PA box among the others fails
scan : (file : List ℕ) (roots : List Box) → HasRoots file roots → (after before : List Box) (found : Option Found)
    → Searched before found → roots ≡ before ++ after → FoundOr file roots
scan file roots has [] before found s e =
    inl (found, subst (λ (bs : List Box). Searched bs found) (sym (e ∙ append-nil before)) s)
scan file roots has (b ∷ bs) before found s e = by (bytes_eq b.kind uuid_kind) refl (payload_part (is_some found) b.payload) refl (λ new t. scan file roots has bs (before ++ b ∷ []) new t (e ∙ sym (append_assoc before (b ∷ []) bs)))
  where
    row : RootBox
    row = row_of (record { at = boxes_len before; box = b })

    by : (u : Bool) → bytes_eq b.kind uuid_kind ≡ u → (q : Part) → payload_part (is_some found) b.payload ≡ q
        → ((new : Option Found) → Searched (before ++ b ∷ []) new → FoundOr file roots) → FoundOr file roots
    by false u q p go = go found (searched_not before b found s u)
    by true u part.Other p go =
        go found
        (searched_uuid before b row found found s u refl refl (subst (λ (x : Part). StepsBy x row b.payload found found) (sym p) refl))
    by true u (part.Holds n) p go =
        let new : Option Found =
        Some (record { start = row.start; length = row.length; store = take n (drop 37 b.payload) }) in
        go new
        (searched_uuid before b row found new s u refl refl (subst (λ (x : Part). StepsBy x row b.payload found new) (sym p) refl))
    by true u part.Bad p go =
        inr
        (BadProvenanceBox row.start, searched_fails file roots before bs b row found (BadProvenanceBox row.start) has e s u refl (subst (λ (x : Part). FailsBy x row (BadProvenanceBox row.start)) (sym p) refl), (why.BadProvenanceBox, row.start, refl))
    by true u part.Second p go =
        inr
        (TwoStores row.start, searched_fails file roots before bs b row found (TwoStores row.start) has e s u refl (subst (λ (x : Part). FailsBy x row (TwoStores row.start)) (sym p) refl), (why.TwoStores, row.start, refl))
    by true u (part.TooLarge n) p go =
        inr
        (StoreTooLarge n, searched_fails file roots before bs b row found (StoreTooLarge n) has e s u refl (subst (λ (x : Part). FailsBy x row (StoreTooLarge n)) (sym p) refl), (why.StoreTooLarge, n, refl))

-- ---- the file

-- a file whose first failing test refuses it is refused for that reason
refused_so : (file : List ℕ) (e : MediaError) → FirstBmffFault file e → Refuses e → (v : Located) × IsBmffLocated file v
refused_so file e f r = (refused r.0 r.1, (e, f, r.2))

-- a file whose root boxes are all searched has the store that was found, or none
stored : (file : List ℕ) (roots : List Box) → HasRoots file roots → (found : Option Found) → Searched roots found
    → (v : Located) × IsBmffLocated file v
stored file roots has None s = (absent, record { roots = roots; has_roots = has; none = s.finds })
stored file roots has (Some f) s =
    (here f.start f.length f.store, record { roots = roots; has_roots = has; holds = s.finds })

-- each list of bytes is refused, has no store, or has a store in one range
pub some_outcome : (file : List ℕ) → AreBytes file → (v : Located) × IsBmffLocated file v
some_outcome file bytes = ⊎_elim (λ fits. begin fits (begins_bmff file) refl) (λ large. refused_so file (FileTooLarge (length file)) (too_large large) (why.FileTooLarge, length file, refl)) (cases_lt (length file) (2 ^ 62))
  where
    among : length file < 2 ^ 62 → begins_bmff file ≡ true → RootsOr file → (v : Located) × IsBmffLocated file v
    among fits b (inr f) = refused_so file f.0 (root f.0 fits b f.1) f.2
    among fits b (inl r) =
        ⊎_elim (λ s. stored file r.0 r.1 s.0 s.1) (λ p. refused_so file p.0 (provenance p.0 p.1) p.2)
        (scan file r.0 r.1 r.0 [] None searched_none refl)

    begin : length file < 2 ^ 62 → (b : Bool) → begins_bmff file ≡ b → (v : Located) × IsBmffLocated file v
    begin fits true b =
        among fits b (roots_walk file fits b (length file) [] file bytes (omega arith) fits tt (omega arith) refl)
    begin fits false b = refused_so file NotMedia (not_media fits b) (why.NotMedia, 0, refl)
