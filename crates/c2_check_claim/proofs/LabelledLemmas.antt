-- Boxes and entries that are found by their labels.
use Rattle.std.proofs.Common.{◌≡◌, ℕ, zero, suc, ◌+◌, ◌<◌, ◌≤◌, ltb, Bool, true, false, cond, ◌||◌, List, [], ◌∷◌, ◌++◌, length, map, take, get_or, Option, Some, None, is_some, option_and_then, position, find, slice_get, refl, sym, ap, ◌∙◌, subst, arith}
use Rattle.std.specs.List.{list_any, position_from}
use Rattle.std.proofs.lemmas.Iterator.Adapters.{position_from-zero}
use Rattle.std.proofs.lemmas.List.{take_more, take_all, map-append, length-take-le, length-map}
use Rattle.c2_spec.specs.C2pa.Manifest.{Manifest, is_given}
use Rattle.c2_spec.specs.declared.cbor.Ref.{Ref}
use Rattle.std.proofs.lemmas.Option.{slice_get_within, get_or_from_slice_get}
use Rattle.c2_label_index.specs.Places.{kept_place, ArePlaces}
use Rattle.c2_label_index.specs.declared.places.Places.{Places}
use Rattle.c2_rules.specs.Chains.{entry_label}
use Rattle.c2_rules.specs.Readings.{ReadBox, Reading, entries_in}
use Rattle.c2_rules.specs.Rules.{box_with, lists_label}
use Rattle.c2_check_claim.specs.Labelled.{box_labels, entry_labels}
use Rattle.c2_lemmas.proofs.Lists.{position_map, some_position}
use Rattle.c2_lemmas.proofs.Numbers.{ltb_less, ltb_not_less}

-- ---- labels of what a list has, one after the other

-- up to a place within a list there are as many labels as the place says
pub so_many : {X : Type 0} (f : X → Option (List ℕ)) (xs : List X) (k : ℕ) → k < length xs
    → k ≡ length (map f (take k xs))
so_many f xs k lt = sym (length-map (take k xs) f ∙ length-take-le k xs (omega arith))

-- first places that are right with the next label added are right of one box or entry more
pub one_more : {X : Type 0} (f : X → Option (List ℕ)) (xs : List X) (k : ℕ) (x : X) (o : Option (List ℕ)) (p : Places)
    → k < length xs → x ≡ get_or xs k x → o ≡ f x → ArePlaces (map f (take k xs) ++ o ∷ []) p
    → ArePlaces (map f (take (k + 1) xs)) p
one_more f xs k x o p lt at is h =
    let one : map f (take (k + 1) xs) ≡ map f (take k xs) ++ f (get_or xs k x) ∷ [] =
    ap (map f) (take_more xs k x lt) ∙ map-append f (take k xs) (get_or xs k x ∷ []) in
    subst (λ (ls : List (Option (List ℕ))). ArePlaces ls p)
    (ap (λ (y : Option (List ℕ)). map f (take k xs) ++ y ∷ []) (is ∙ ap f at) ∙ sym one) h

-- at the end of a list, first places that are right of what was gone over are right of all of it
pub all_of : {X : Type 0} (f : X → Option (List ℕ)) (xs : List X) (k : ℕ) (p : Places) → length xs ≤ k
    → ArePlaces (map f (take k xs)) p → ArePlaces (map f xs) p
all_of f xs k p le h = subst (λ ys. ArePlaces (map f ys) p) (take_all k xs le) h

-- ---- the first place

-- the first place, where there is one, stands before this place
abbrev pub is_before : ℕ → Option ℕ → Bool
is_before n None = false
is_before n (Some j) = ltb j n

-- where places are counted from this one or a later one on, the first that passes isn't before this one
not_before : {X : Type 0} (p : X → Bool) (n i : ℕ) (xs : List X) → n ≤ i → is_before n (position_from p i xs) ≡ false
not_before p n i [] le = refl
not_before {X} p n i (x ∷ xs) le = by (p x) (not_before p n (i + 1) xs (omega arith))
  where
    by : (b : Bool) → is_before n (position_from p (i + 1) xs) ≡ false
        → is_before n (cond b (Some i) (position_from p (i + 1) xs)) ≡ false
    by true h = ltb_not_less i n le
    by false h = h

-- some of the first places passes just where the first that passes, counted from any number, is before them
before_from : {X : Type 0} (p : X → Bool) (i k : ℕ) (xs : List X)
    → list_any p (take k xs) ≡ is_before (i + k) (position_from p i xs)
before_from p i zero [] = refl
before_from p i (suc k) [] = refl
before_from p i zero (x ∷ xs) = sym (not_before p (i + 0) i (x ∷ xs) (omega arith))
before_from {X} p i (suc k) (x ∷ xs) = by (p x) (before_from p (i + 1) k xs)
  where
    same : i + 1 + k ≡ i + suc k
    same = omega arith

    by : (b : Bool) → list_any p (take k xs) ≡ is_before (i + 1 + k) (position_from p (i + 1) xs)
        → (b || list_any p (take k xs)) ≡ is_before (i + suc k) (cond b (Some i) (position_from p (i + 1) xs))
    by true h = sym (ltb_less i (i + suc k) (omega arith))
    by false h = h ∙ ap (λ (n : ℕ). is_before n (position_from p (i + 1) xs)) same

-- some of the first places passes just where the first that passes stands before their end
before : {X : Type 0} (p : X → Bool) (k : ℕ) (xs : List X) → list_any p (take k xs) ≡ is_before k (position p xs)
before p k xs =
    let start : 0 + k ≡ k = omega arith in
    before_from p 0 k xs ∙ ap (λ (n : ℕ). is_before n (position_from p 0 xs)) start
    ∙ ap (is_before k) (sym (position_from-zero p xs))

-- what is found in the rest of a list stands in the whole at the first place that passes
find_from : {X : Type 0} (p : X → Bool) (all : List X) (i : ℕ) (xs : List X)
    → ((j : ℕ) → slice_get all (i + j) ≡ slice_get xs j)
    → find p xs ≡ option_and_then (λ (k : ℕ). slice_get all k) (position_from p i xs)
find_from p all i [] same = refl
find_from {X} p all i (x ∷ xs) same = by (p x) (find_from p all (i + 1) xs (λ j. let e : i + 1 + j ≡ i + suc j = omega arith in ap (λ (k : ℕ). slice_get all k) e ∙ same (suc j)))
  where
    here : slice_get all i ≡ Some x
    here = let e : i ≡ i + 0 = omega arith in ap (λ (k : ℕ). slice_get all k) e ∙ same 0

    by : (b : Bool) → find p xs ≡ option_and_then (λ (k : ℕ). slice_get all k) (position_from p (i + 1) xs)
        → cond b (Some x) (find p xs) ≡ option_and_then (λ (k : ℕ). slice_get all k) (cond b (Some i) (position_from p (i + 1) xs))
    by true h = sym here
    by false h = h

-- what is found first in a list stands at the first place that passes
found_first : {X : Type 0} (p : X → Bool) (xs : List X)
    → find p xs ≡ option_and_then (λ (k : ℕ). slice_get xs k) (position p xs)
found_first p xs =
    find_from p xs 0 xs (λ j. let e : 0 + j ≡ j = omega arith in ap (λ (k : ℕ). slice_get xs k) e) ∙ ap (option_and_then (λ (k : ℕ). slice_get xs k)) (sym (position_from-zero p xs))

-- ---- boxes and entries

-- the box at the first place of a label is the box with that label, and there is none without such a place
pub box_first : (r : Reading) (name : List ℕ) (o : Option ℕ) → o ≡ position (λ x. is_given x name) (box_labels r.boxes)
    → option_and_then (λ (k : ℕ). slice_get r.boxes k) o ≡ box_with r name
box_first r name o is =
    ap (option_and_then (λ (k : ℕ). slice_get r.boxes k))
    (is ∙ position_map (λ (b : ReadBox). b.boxed.label) (λ x. is_given x name) r.boxes)
    ∙ sym (found_first (λ (b : ReadBox). is_given b.boxed.label name) r.boxes)

-- a label has a first place among the entries just where an entry lists it
pub listed : (m : Manifest) (es : List Ref) (name : List ℕ) (o : Option ℕ)
    → o ≡ position (λ x. is_given x name) (entry_labels m es) → is_some o ≡ lists_label m es name
listed m es name o is =
    let p = λ (e : Ref). is_given (entry_label m e) name in
    ap is_some (is ∙ position_map (entry_label m) (λ x. is_given x name) es ∙ position_from-zero p es)
    ∙ some_position p 0 es

-- a label has a place before this one just where one of the entries before it lists the label
pub listed_before : (m : Manifest) (es : List Ref) (k : ℕ) (name : List ℕ) (o : Option ℕ)
    → o ≡ position (λ x. is_given x name) (entry_labels m es) → is_before k o ≡ lists_label m (take k es) name
listed_before m es k name o is =
    ap (is_before k) (is ∙ position_map (entry_label m) (λ x. is_given x name) es)
    ∙ sym (before (λ (e : Ref). is_given (entry_label m e) name) k es)

-- ---- of a manifest that is kept with them

-- the box at the place that is kept of a label is the manifest's box with that label
pub find_some : (own m : Reading) (bs : List ReadBox) (p : Places) (name : List ℕ) (k : ℕ) → own ≡ m → bs ≡ own.boxes
    → ArePlaces (box_labels own.boxes) p → Some k ≡ kept_place p name → slice_get bs k ≡ box_with m name
find_some own m bs p name k same is h at =
    ap (λ (xs : List ReadBox). slice_get xs k) is ∙ box_first own name (Some k) (at ∙ h name)
    ∙ ap (λ (r : Reading). box_with r name) same

-- where no place is kept of a label, the manifest has no box with it
pub find_none : (own m : Reading) (p : Places) (name : List ℕ) → own ≡ m → ArePlaces (box_labels own.boxes) p
    → None ≡ kept_place p name → None ≡ box_with m name
find_none own m p name same h at = box_first own name None (at ∙ h name) ∙ ap (λ (r : Reading). box_with r name) same

-- a place is kept of a label just where an entry of the manifest lists it
pub listed_in : (own m : Reading) (p : Places) (name : List ℕ) (o : Option ℕ) → own ≡ m
    → ArePlaces (entry_labels own.manifest (entries_in own)) p → o ≡ kept_place p name
    → is_some o ≡ lists_label m.manifest (entries_in m) name
listed_in own m p name o same h at =
    listed own.manifest (entries_in own) name o (at ∙ h name)
    ∙ ap (λ (r : Reading). lists_label r.manifest (entries_in r) name) same

-- the place that is kept of a label is before this one just where an entry before it lists the label
pub before_in : (own m : Reading) (p : Places) (k : ℕ) (name : List ℕ) (o : Option ℕ) → own ≡ m
    → ArePlaces (entry_labels own.manifest (entries_in own)) p → o ≡ kept_place p name
    → is_before k o ≡ lists_label m.manifest (take k (entries_in m)) name
before_in own m p k name o same h at =
    listed_before own.manifest (entries_in own) k name o (at ∙ h name)
    ∙ ap (λ (r : Reading). lists_label r.manifest (take k (entries_in r)) name) same

-- first places that are right with the label of the next entry added are right of one entry more
pub entry_more : (m : Manifest) (es : List Ref) (k : ℕ) (e : Ref) (o : Option (List ℕ)) (p : Places)
    → slice_get es k ≡ Some e → o ≡ entry_label m e → ArePlaces (entry_labels m (take k es) ++ o ∷ []) p
    → ArePlaces (entry_labels m (take (k + 1) es)) p
entry_more m es k e o p at is h =
    one_more (entry_label m) es k e o p (slice_get_within es k e at) (sym (get_or_from_slice_get es k e e at)) is h

-- before the entry at a place there are as many labels, listed or none, as the place says
pub entry_place : (m : Manifest) (es : List Ref) (k : ℕ) (e : Ref) → slice_get es k ≡ Some e
    → k ≡ length (entry_labels m (take k es))
entry_place m es k e at = so_many (entry_label m) es k (slice_get_within es k e at)
