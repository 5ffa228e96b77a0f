-- Root boxes hold one store, or none.
use Rattle.std.proofs.Common.{◌≡◌, ℕ, Bool, true, false, not, ◌&&◌, ◌||◌, List, [], ◌∷◌, ◌++◌, refl, sym, ap, ◌∙◌, subst}
use Rattle.std.specs.List.{AllByRecursion}
use Rattle.c2_spec.specs.Bmff.Store.{is_c2pa_box, is_store_box, is_other_box, is_version_zero, is_for_manifest, content_of, store_in, HoldsBmffStore, HasBmffStore, HasNoBmffStore}
use Rattle.c2_spec.specs.Bmff.Boxes.{Box, boxes_len, box_len}
use Rattle.c2_spec.proofs.BmffOneList.{roots_once}
use Rattle.c2_lemmas.proofs.Parts.{first_same, others_same}

-- two tests of three conditions exclude each other
three : (a v m : Bool) → (a && v && m) ≡ true → (not a || (v && not m)) ≡ true → ⊥
three true true true h k = cc (k)
three true true false h k = cc (h)
three true false m h k = cc (h)
three false v m h k = cc (h)

-- a box isn't both one that holds a store and one that passes as another
pub no_both : (b : Box) → is_store_box b ≡ true → is_other_box b ≡ true → ⊥
unfolding is_store_box is_other_box
no_both b h k = three (is_c2pa_box b) (is_version_zero (content_of b)) (is_for_manifest (content_of b)) h k

-- a list has one box that holds a store with only other boxes before it
pub split_once : (bs cs : List Box) (h k : Box) (xs ys : List Box) → bs ++ h ∷ xs ≡ cs ++ k ∷ ys
    → AllByRecursion (λ (b : Box). is_other_box b ≡ true) bs → is_store_box h ≡ true
    → AllByRecursion (λ (b : Box). is_other_box b ≡ true) cs → is_store_box k ≡ true → (bs ≡ cs) × (h ≡ k)
split_once [] [] h k xs ys e p a q b = (refl, first_same h k xs ys e)
split_once [] (c ∷ cs) h k xs ys e p a q b =
    absurd (no_both c (ap is_store_box (sym (first_same h c xs (cs ++ k ∷ ys) e)) ∙ a) q.0)
split_once (c ∷ bs) [] h k xs ys e p a q b =
    absurd (no_both c (ap is_store_box (first_same c k (bs ++ h ∷ xs) ys e) ∙ b) p.0)
split_once (c ∷ bs) (d ∷ cs) h k xs ys e p a q b =
    let rest = split_once bs cs h k xs ys (others_same c d (bs ++ h ∷ xs) (cs ++ k ∷ ys) e) p.1 a q.1 b in
    (ap (λ (x : Box). x ∷ bs) (first_same c d (bs ++ h ∷ xs) (cs ++ k ∷ ys) e) ∙ ap (λ (zs : List Box). d ∷ zs) rest.0, rest.1)

-- root boxes hold one store: one place, one length, one list of bytes
one_holder : (roots : List Box) (s n t m : ℕ) (a b : List ℕ) → HoldsBmffStore roots s n a → HoldsBmffStore roots t m b
    → (s ≡ t) × (n ≡ m) × (a ≡ b)
one_holder roots s n t m a b h k =
    let one =
    split_once h.before k.before h.holder k.holder h.after k.after (sym h.split ∙ k.split) h.others_before
    h.is_holder k.others_before k.is_holder in
    (h.from ∙ ap boxes_len one.0 ∙ sym k.from, h.for ∙ ap box_len one.1 ∙ sym k.for, h.bytes ∙ ap (λ (x : Box). store_in (content_of x)) one.1 ∙ sym k.bytes)

-- where a box holds a store, the boxes aren't all other ones
not_other : (bs : List Box) (h : Box) (xs : List Box) → is_store_box h ≡ true
    → AllByRecursion (λ (b : Box). is_other_box b ≡ true) (bs ++ h ∷ xs) → ⊥
not_other [] h xs a p = no_both h a p.0
not_other (b ∷ bs) h xs a p = not_other bs h xs a p.1

-- a BMFF file has one store: one place, one length, one list of bytes
pub stores_once : (file : List ℕ) (s n t m : ℕ) (a b : List ℕ) → HasBmffStore file s n a → HasBmffStore file t m b
    → (s ≡ t) × (n ≡ m) × (a ≡ b)
stores_once file s n t m a b h k =
    one_holder k.roots s n t m a b
    (subst (λ rs. HoldsBmffStore rs s n a) (roots_once file h.roots k.roots h.has_roots k.has_roots) h.holds)
    k.holds

-- a BMFF file that has a store isn't one without a store
pub store_or_none : (file : List ℕ) (s n : ℕ) (a : List ℕ) → HasBmffStore file s n a → HasNoBmffStore file → ⊥
store_or_none file s n a h k =
    let same = roots_once file k.roots h.roots k.has_roots h.has_roots in
    not_other h.holds.before h.holds.holder h.holds.after h.holds.is_holder
    (subst (λ rs. AllByRecursion (λ (b : Box). is_other_box b ≡ true) rs) (same ∙ h.holds.split) k.none)
