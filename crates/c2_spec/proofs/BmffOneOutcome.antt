-- A BMFF file comes to one thing: one refusal, no store, or one store in one range.
use Rattle.std.proofs.Common.{◌≡◌, ℕ, suc, ◌+◌, ◌<◌, ◌≤◌, Bool, true, false, cond, not, ◌&&◌, ◌||◌, List, [], ◌∷◌, ◌++◌, length, ltb, leb, Some, None, refl, sym, ap, ◌∙◌, subst, arith, length-append}
use Rattle.std.proofs.lemmas.Bool.Decides.{Decides-ltb}
use Rattle.std.proofs.lemmas.List.{append_assoc, append_cancel_left, length-take-le}
use Rattle.std.specs.List.{flat_map, AllByRecursion, list_any}
use borrow.Author.Tests.{le-ltb, leb-true}
use Rattle.c2_base.specs.declared.media.MediaError.{MediaError}
use Rattle.c2_base.specs.declared.media.MediaError.TheVariants.{TooManyBoxes}
use Rattle.c2_spec.specs.Bmff.Boxes.{Box, IsSizedBox, HasRoots, RootFault, box_bytes, box_fault, root_fault, boxes_len, most_roots, is_to_end}
use Rattle.c2_spec.specs.Bmff.Store.{is_c2pa_box, is_store_box, is_other_box, is_version_zero, is_for_manifest}
use Rattle.c2_spec.specs.Bmff.Store.{has_store_box, content_of, store_in, store_len, store_part, c2pa_fault}
use Rattle.c2_spec.specs.Bmff.Store.{provenance_fault, most_store_bytes, HoldsBmffStore, HasBmffStore, HasNoBmffStore}
use Rattle.c2_spec.specs.Bmff.Store.{AllRootsPass, ProvenanceFault, FirstBmffFault, too_large, not_media, root}
use Rattle.c2_spec.specs.Bmff.Store.{provenance, IsBmffLocated}
use Rattle.c2_spec.specs.Jumbf.Faults.{has_head}
use Rattle.c2_spec.specs.Located.{Located, refused, absent, here, refusal}
use Rattle.c2_spec.proofs.BmffOneList.{box_once, roots_once}
use Rattle.c2_spec.proofs.BmffPassing.{box_passes}
use Rattle.c2_spec.proofs.BmffNoFault.{roots_or_fault}
use Rattle.c2_spec.proofs.BmffOneStore.{no_both, stores_once, store_or_none}
use Rattle.c2_lemmas.proofs.Options.{none_some, same_some}
use Rattle.c2_lemmas.proofs.Parts.{first_same, others_same}

-- ---- one root fault

-- a box that says its size doesn't run to the end
sized_ends : {A : Type 0} (b : Box) → IsSizedBox b → is_to_end b.form ≡ true → A
sized_ends b s e = absurd (let bad = sym e ∙ s.sized in cc (bad))

-- a sized box at the rest, and room for it, is no fault
no_fault_here : (c : Box) (tail : List ℕ) (count p : ℕ) (e : MediaError) → IsSizedBox c → count < most_roots
    → root_fault count p (box_bytes c ++ tail) ≡ Some e → ⊥
no_fault_here c tail count p e s few bad =
    let below : ltb count most_roots ≡ true = (Decides-ltb count most_roots).1 few in
    let passes : box_fault p (box_bytes c ++ tail) ≡ None =
    box_passes c.form c.kind c.payload tail s.is_box (sized_ends c s) p in
    none_some e (sym (ap (λ b. cond b (box_fault p (box_bytes c ++ tail)) (Some TooManyBoxes)) below ∙ passes) ∙ bad)

-- two walks that end in faults end at one place, in one fault
faults_once : (bs cs : List Box) (x y : List ℕ) (count p q : ℕ) (e f : MediaError) → AllByRecursion IsSizedBox bs
    → AllByRecursion IsSizedBox cs → flat_map box_bytes bs ++ x ≡ flat_map box_bytes cs ++ y
    → (length x ≡ length y → p ≡ q)
    → count + length bs ≤ most_roots → count + length cs ≤ most_roots → root_fault (count + length bs) p x ≡ Some e
    → root_fault (count + length cs) q y ≡ Some f → e ≡ f
faults_once [] [] x y count p q e f s t same at few many bad worse =
    same_some e f
    (sym bad ∙ ap (λ (z : List ℕ). root_fault (count + 0) p z) same ∙ ap (λ n. root_fault (count + 0) n y) (at (ap length same)) ∙ worse)
faults_once [] (c ∷ cs) x y count p q e f s t same at few many bad worse =
    absurd
    (no_fault_here c (flat_map box_bytes cs ++ y) (count + 0) p e t.0 (omega (arith, many)) (ap (root_fault (count + 0) p) (sym (same ∙ append_assoc (box_bytes c) (flat_map box_bytes cs) y)) ∙ bad))
faults_once (b ∷ bs) [] x y count p q e f s t same at few many bad worse =
    absurd
    (no_fault_here b (flat_map box_bytes bs ++ x) (count + 0) q f s.0 (omega (arith, few)) (ap (root_fault (count + 0) q) (sym (append_assoc (box_bytes b) (flat_map box_bytes bs) x) ∙ same) ∙ worse))
faults_once (b ∷ bs) (c ∷ cs) x y count p q e f s t same at few many bad worse =
    let one =
    box_once b c (flat_map box_bytes bs ++ x) (flat_map box_bytes cs ++ y) s.0.is_box t.0.is_box
    (sized_ends b s.0) (sized_ends c t.0)
    (sym (append_assoc (box_bytes b) (flat_map box_bytes bs) x) ∙ same ∙ append_assoc (box_bytes c) (flat_map box_bytes cs) y) in
    let counted : count + 1 + length bs ≡ count + suc (length bs) = omega arith in
    let counted' : count + 1 + length cs ≡ count + suc (length cs) = omega arith in
    faults_once bs cs x y (count + 1) p q e f s.1 t.1 one.1 at (omega (arith, few)) (omega (arith, many))
    (ap (λ n. root_fault n p x) counted ∙ bad) (ap (λ n. root_fault n q y) counted' ∙ worse)

-- the root boxes of a file have one first fault
root_faults_once : (file : List ℕ) (e f : MediaError) → RootFault file e → RootFault file f → e ≡ f
root_faults_once file e f h k =
    let counted : length h.before ≡ 0 + length h.before = omega arith in
    let counted' : length k.before ≡ 0 + length k.before = omega arith in
    let all : length file ≡ boxes_len h.before + length h.rest =
    ap length h.bytes ∙ length-append (flat_map box_bytes h.before) h.rest in
    let all' : length file ≡ boxes_len k.before + length k.rest =
    ap length k.bytes ∙ length-append (flat_map box_bytes k.before) k.rest in
    let few : length h.before ≤ most_roots = h.few in
    let few' : length k.before ≤ most_roots = k.few in
    faults_once h.before k.before h.rest k.rest 0 (boxes_len h.before) (boxes_len k.before) e f h.sized k.sized
    (sym h.bytes ∙ k.bytes) (λ l. omega (arith, all, all', l)) (omega (arith, few)) (omega (arith, few'))
    (ap (λ n. root_fault n (boxes_len h.before) h.rest) (sym counted) ∙ h.fails)
    (ap (λ n. root_fault n (boxes_len k.before) k.rest) (sym counted') ∙ k.fails)

-- ---- one fault of the C2PA boxes

-- two places in one list: one place, or one after the other
pub data Places (bs cs : List Box) (h k : Box) : Type 0 where
  same_place : bs ≡ cs → h ≡ k → Places bs cs h k
  later : (zs : List Box) → bs ≡ cs ++ k ∷ zs → Places bs cs h k
  earlier : (zs : List Box) → cs ≡ bs ++ h ∷ zs → Places bs cs h k

-- with a box in front of both
places_on : (b : Box) (bs cs : List Box) (h k : Box) → Places bs cs h k → Places (b ∷ bs) (b ∷ cs) h k
places_on b bs cs h k (same_place e f) = same_place (ap (λ (xs : List Box). b ∷ xs) e) f
places_on b bs cs h k (later zs e) = later zs (ap (λ (xs : List Box). b ∷ xs) e)
places_on b bs cs h k (earlier zs e) = earlier zs (ap (λ (xs : List Box). b ∷ xs) e)

-- two places of one list
places : (bs cs : List Box) (h k : Box) (xs ys : List Box) → bs ++ h ∷ xs ≡ cs ++ k ∷ ys → Places bs cs h k
places [] [] h k xs ys e = same_place refl (first_same h k xs ys e)
places [] (c ∷ cs) h k xs ys e = earlier cs (ap (λ (z : Box). z ∷ cs) (sym (first_same h c xs (cs ++ k ∷ ys) e)))
places (b ∷ bs) [] h k xs ys e = later bs (ap (λ (z : Box). z ∷ bs) (first_same b k (bs ++ h ∷ xs) ys e))
places (b ∷ bs) (c ∷ cs) h k xs ys e =
    subst (λ (z : Box). Places (b ∷ bs) (z ∷ cs) h k) (first_same b c (bs ++ h ∷ xs) (cs ++ k ∷ ys) e)
    (places_on b bs cs h k (places bs cs h k xs ys (others_same b c (bs ++ h ∷ xs) (cs ++ k ∷ ys) e)))

-- the C2PA boxes of one list have one first fault
bad_boxes_once : (bs cs : List Box) (h k : Box) (e f : MediaError) → Places bs cs h k → AllRootsPass bs
    → AllRootsPass cs → provenance_fault bs h ≡ Some e → provenance_fault cs k ≡ Some f → e ≡ f
bad_boxes_once bs cs h k e f (same_place a b) p q x y =
    same_some e f (sym x ∙ ap (λ (zs : List Box). provenance_fault zs h) a ∙ ap (provenance_fault cs) b ∙ y)
bad_boxes_once bs cs h k e f (later zs a) p q x y = absurd (none_some f (sym (p cs zs k a) ∙ y))
bad_boxes_once bs cs h k e f (earlier zs a) p q x y = absurd (none_some e (sym (q bs zs h a) ∙ x))

-- the C2PA boxes of a file have one first fault
provenance_faults_once : (file : List ℕ) (e f : MediaError) → ProvenanceFault file e → ProvenanceFault file f → e ≡ f
provenance_faults_once file e f h k =
    let one = roots_once file h.roots k.roots h.has_roots k.has_roots in
    bad_boxes_once h.before k.before h.bad k.bad e f
    (places h.before k.before h.bad k.bad h.after k.after (sym h.split ∙ one ∙ k.split)) h.passing k.passing h.fails
    k.fails

-- ---- no fault of the C2PA boxes beside a store, or where none has a part in one

-- the tests of a C2PA box, by what they ask for
tests_by : (c2pa zero manifest found whole big : Bool) (x y z : MediaError)
    → (not c2pa || (zero && not manifest)) ≡ true
    → cond c2pa (cond (not zero) (Some x) (cond (not manifest) None (cond found (Some y) (cond (not whole) (Some x) (cond big (Some z) None))))) None ≡ None
tests_by false zero manifest found whole big x y z h = refl
tests_by true true false found whole big x y z h = refl
tests_by true true true found whole big x y z h = absurd (cc (h))
tests_by true false manifest found whole big x y z h = absurd (cc (h))

-- a box that has no part in a store passes
other_passes : (before : List Box) (b : Box) → is_other_box b ≡ true → provenance_fault before b ≡ None
unfolding is_other_box c2pa_fault
other_passes before b h =
    tests_by (is_c2pa_box b) (is_version_zero (content_of b)) (is_for_manifest (content_of b))
    (list_any is_store_box before) (has_store_box (content_of b)) (ltb most_store_bytes (store_len (content_of b)))
    _ _ _ h

-- the tests of a C2PA box that holds a store
holder_by : (c2pa zero manifest found whole big : Bool) (x y z : MediaError) → (c2pa && zero && manifest) ≡ true
    → found ≡ false → whole ≡ true → big ≡ false
    → cond c2pa (cond (not zero) (Some x) (cond (not manifest) None
    (cond found (Some y) (cond (not whole) (Some x) (cond big (Some z) None))))) None ≡ None
holder_by true true true false true false x y z h f w s = refl
holder_by true true true true whole big x y z h f w s = absurd (cc (f))
holder_by true true true false false big x y z h f w s = absurd (cc (w))
holder_by true true true false true true x y z h f w s = absurd (cc (s))
holder_by true true false found whole big x y z h f w s = absurd (cc (h))
holder_by true false manifest found whole big x y z h f w s = absurd (cc (h))
holder_by false zero manifest found whole big x y z h f w s = absurd (cc (h))

-- a box that has no part in a store holds none
pub other_no_store : (b : Box) → is_other_box b ≡ true → is_store_box b ≡ false
other_no_store b h = go (is_store_box b) refl
  where
    go : (t : Bool) → is_store_box b ≡ t → is_store_box b ≡ false
    go true e = absurd (no_both b e h)
    go false e = e

-- among such boxes no store is found
pub none_found : (before : List Box) → AllByRecursion (λ (b : Box). is_other_box b ≡ true) before
    → list_any is_store_box before ≡ false
none_found [] h = refl
none_found (b ∷ bs) h = ap (λ t. t || list_any is_store_box bs) (other_no_store b h.0) ∙ none_found bs h.1

-- the last of three tests
third : (a b c : Bool) → (a && b && c) ≡ true → c ≡ true
third true true true h = refl
third true true false h = absurd (cc (h))
third true false c h = absurd (cc (h))
third false b c h = absurd (cc (h))

-- the store has the length that its header states
store_whole : (b : Box) → has_store_box (content_of b) ≡ true
    → length (store_in (content_of b)) ≡ store_len (content_of b)
store_whole b whole =
    length-take-le (store_len (content_of b)) (store_part (content_of b))
    (leb-true (store_len (content_of b)) (length (store_part (content_of b)))
    (third (leb 21 (length (content_of b))) (has_head (store_part (content_of b)))
    (leb (store_len (content_of b)) (length (store_part (content_of b)))) whole))

-- a box that holds a store passes where none was found before
holder_passes : (before : List Box) (b : Box) (store : List ℕ) → is_store_box b ≡ true
    → has_store_box (content_of b) ≡ true → store ≡ store_in (content_of b) → length store ≤ most_store_bytes
    → AllByRecursion (λ (x : Box). is_other_box x ≡ true) before → provenance_fault before b ≡ None
unfolding is_store_box c2pa_fault
holder_passes before b store holds whole is small others =
    let len : length store ≡ store_len (content_of b) = ap length is ∙ store_whole b whole in
    holder_by (is_c2pa_box b) (is_version_zero (content_of b)) (is_for_manifest (content_of b))
    (list_any is_store_box before) (has_store_box (content_of b)) (ltb most_store_bytes (store_len (content_of b))) _
    _ _ holds (none_found before others) whole
    (le-ltb most_store_bytes (store_len (content_of b)) (omega (arith, len, small)))

-- one of a list of other boxes is one
other_in : (bs : List Box) (b : Box) (cs : List Box)
    → AllByRecursion (λ (x : Box). is_other_box x ≡ true) (bs ++ b ∷ cs) → is_other_box b ≡ true
other_in [] b cs h = h.0
other_in (c ∷ bs) b cs h = other_in bs b cs h.1

-- what stands after a box, where a later place of the list is known
after_place : (bs : List Box) (h : Box) (xs cs : List Box) (k : Box) (zs ys : List Box) → bs ++ h ∷ xs ≡ cs ++ k ∷ ys
    → cs ≡ bs ++ h ∷ zs → xs ≡ zs ++ k ∷ ys
after_place bs h xs cs k zs ys e a =
    let whole : bs ++ h ∷ xs ≡ bs ++ (h ∷ zs ++ k ∷ ys) =
    e ∙ ap (λ (ws : List Box). ws ++ k ∷ ys) a ∙ append_assoc bs (h ∷ zs) (k ∷ ys) in
    others_same h h xs (zs ++ k ∷ ys) (append_cancel_left bs (h ∷ xs) (h ∷ zs ++ k ∷ ys) whole)

-- no C2PA box fails beside a store
store_or_bad :
    (roots : List Box) (start len : ℕ) (store : List ℕ) (before : List Box) (bad : Box) (after : List Box)
    (e : MediaError)
    → HoldsBmffStore roots start len store → roots ≡ before ++ bad ∷ after → provenance_fault before bad ≡ Some e → ⊥
store_or_bad roots start len store before bad after e h split fails = go (places h.before before h.holder bad h.after after (sym h.split ∙ split))
  where
    go : Places h.before before h.holder bad → ⊥
    go (same_place a b) =
        none_some e
        (sym (holder_passes h.before h.holder store h.is_holder h.whole h.bytes h.small h.others_before) ∙ ap (λ (zs : List Box). provenance_fault zs h.holder) a ∙ ap (provenance_fault before) b ∙ fails)
    go (later zs a) =
        none_some e
        (sym (other_passes before bad (other_in before bad zs (subst (AllByRecursion (λ (x : Box). is_other_box x ≡ true)) a h.others_before))) ∙ fails)
    go (earlier zs a) =
        none_some e
        (sym (other_passes before bad (other_in zs bad after (subst (AllByRecursion (λ (x : Box). is_other_box x ≡ true)) (after_place h.before h.holder h.after before bad zs after (sym h.split ∙ split) a) h.others_after))) ∙ fails)

-- no C2PA box fails in a file with a store
store_or_provenance : (file : List ℕ) (start len : ℕ) (store : List ℕ) (e : MediaError)
    → HasBmffStore file start len store → ProvenanceFault file e → ⊥
store_or_provenance file start len store e h k =
    store_or_bad h.roots start len store k.before k.bad k.after e h.holds
    (roots_once file h.roots k.roots h.has_roots k.has_roots ∙ k.split) k.fails

-- no C2PA box fails in a file without a store
none_or_provenance : (file : List ℕ) (e : MediaError) → HasNoBmffStore file → ProvenanceFault file e → ⊥
none_or_provenance file e h k =
    let same = sym (roots_once file k.roots h.roots k.has_roots h.has_roots) ∙ k.split in
    none_some e
    (sym (other_passes k.before k.bad (other_in k.before k.bad k.after (subst (AllByRecursion (λ (x : Box). is_other_box x ≡ true)) same h.none))) ∙ k.fails)

-- ---- one outcome

-- no fault of the file or of its walk, where there are root boxes
no_first_fault : (file : List ℕ) (roots : List Box) (e : MediaError) → HasRoots file roots
    → (ProvenanceFault file e → ⊥) → FirstBmffFault file e → ⊥
no_first_fault file roots e h p (too_large big) = let fits = h.fits in omega (arith, big, fits)
no_first_fault file roots e h p (not_media small begun) = let bad = sym begun ∙ h.begins in cc (bad)
no_first_fault file roots e h p (root fault small begins f) = roots_or_fault file roots e h f
no_first_fault file roots e h p (provenance fault f) = p f

-- a file has one first fault
faults_agree : (file : List ℕ) (e f : MediaError) → FirstBmffFault file e → FirstBmffFault file f → e ≡ f
faults_agree file e f (too_large big) (too_large more) = refl
faults_agree file e f (too_large big) (not_media small begun) = absurd (omega (arith, big, small))
faults_agree file e f (too_large big) (root fault small begins k) = absurd (omega (arith, big, small))
faults_agree file e f (too_large big) (provenance fault k) =
    absurd (let fits = k.has_roots.fits in omega (arith, big, fits))
faults_agree file e f (not_media small begun) (too_large big) = absurd (omega (arith, big, small))
faults_agree file e f (not_media small begun) (not_media smaller still) = refl
faults_agree file e f (not_media small begun) (root fault smaller begins k) =
    absurd (let bad = sym begun ∙ begins in cc (bad))
faults_agree file e f (not_media small begun) (provenance fault k) =
    absurd (let bad = sym begun ∙ k.has_roots.begins in cc (bad))
faults_agree file e f (root fault small begins h) (too_large big) = absurd (omega (arith, big, small))
faults_agree file e f (root fault small begins h) (not_media smaller begun) =
    absurd (let bad = sym begun ∙ begins in cc (bad))
faults_agree file e f (root fault small begins h) (root fault' smaller begins' k) = root_faults_once file e f h k
faults_agree file e f (root fault small begins h) (provenance fault' k) =
    absurd (roots_or_fault file k.roots e k.has_roots h)
faults_agree file e f (provenance fault h) (too_large big) =
    absurd (let fits = h.has_roots.fits in omega (arith, big, fits))
faults_agree file e f (provenance fault h) (not_media smaller begun) =
    absurd (let bad = sym begun ∙ h.has_roots.begins in cc (bad))
faults_agree file e f (provenance fault h) (root fault' smaller begins' k) =
    absurd (roots_or_fault file h.roots f h.has_roots k)
faults_agree file e f (provenance fault h) (provenance fault' k) = provenance_faults_once file e f h k

-- a BMFF file comes to one thing
pub one_bmff_located : (file : List ℕ) (v w : Located) → IsBmffLocated file v → IsBmffLocated file w → v ≡ w
one_bmff_located file (refused r n) (refused s m) h k =
    same_some (refused r n) (refused s m) (sym h.2 ∙ ap refusal (faults_agree file h.0 k.0 h.1 k.1) ∙ k.2)
one_bmff_located file (refused r n) absent h k =
    absurd (no_first_fault file k.roots h.0 k.has_roots (none_or_provenance file h.0 k) h.1)
one_bmff_located file (refused r n) (here s m a) h k =
    absurd (no_first_fault file k.roots h.0 k.has_roots (store_or_provenance file s m a h.0 k) h.1)
one_bmff_located file absent (refused s m) h k =
    absurd (no_first_fault file h.roots k.0 h.has_roots (none_or_provenance file k.0 h) k.1)
one_bmff_located file absent absent h k = refl
one_bmff_located file absent (here s m a) h k = absurd (store_or_none file s m a k h)
one_bmff_located file (here s m a) (refused r n) h k =
    absurd (no_first_fault file h.roots k.0 h.has_roots (store_or_provenance file s m a k.0 h) k.1)
one_bmff_located file (here s m a) absent h k = absurd (store_or_none file s m a h k)
one_bmff_located file (here s m a) (here t n b) h k =
    let one = stores_once file s m t n a b h k in
    ap (λ i. here i m a) one.0 ∙ ap (λ i. here t i a) one.1 ∙ ap (here t n) one.2
