-- What is found of a manifest of the other store.
use Rattle.std.proofs.Common.{◌≡◌, ℕ, zero, suc, ◌+◌, ◌<◌, ◌≤◌, Bool, true, false, not, ◌&&◌, ◌||◌, cond, List, [], ◌∷◌, ◌++◌, length, map, take, get_or, Option, Some, None, is_some, slice_get, position, refl, sym, ap, ◌∙◌, subst, arith, bytes_eq}
use Rattle.std.specs.Prelude.{unwrap_or}
use Rattle.std.specs.List.{list_any, position_from}
use Rattle.std.proofs.lemmas.Bool.{both_ways}
use Rattle.std.proofs.lemmas.Iterator.Adapters.{position_from-zero}
use Rattle.std.proofs.lemmas.List.{length-map, length-take-le, take_all}
use Rattle.std.proofs.lemmas.List.Quantifiers.{position-Some}
use Rattle.std.proofs.lemmas.Option.{same_Some, slice_get-get_or, slice_get_within}
use Rattle.c2_spec.specs.C2pa.Manifest.{is_given}
use Rattle.c2_spec.specs.Jumbf.Tree.{AreDistinctLabels, IsNewLabel, Tree, tree_bytes, tree_label}
use Rattle.c2_rules.proofs.ListLemmas.{in_any}
use Rattle.c2_label_index.specs.Places.{ArePlaces, kept_place}
use Rattle.c2_label_index.specs.declared.places.Places.{Places}
use Rattle.c2_collect_spec.specs.Sides.{has_same_label}
use Rattle.c2_collect.specs.Carried.{FindsLabels, IsFound, IsShared, StoresClash}
use Rattle.c2_collect.specs.Marked.{MarkedStore, box_labels, is_marked, manifests_in}
use Rattle.c2_collect.proofs.Manifests.{MappedFrom, mapped_from}
use Rattle.c2_lemmas.proofs.Each.{contains_at}
use Rattle.c2_spec.proofs.GivenLabels.{given_is, is_given_back}

-- ---- a label that is looked up

-- where a label is met first, it is
first_label : (labels : List (Option (List ℕ))) (l : List ℕ) (p : ℕ) → position (λ o. is_given o l) labels ≡ Some p
    → slice_get labels p ≡ Some (Some l)
first_label labels l p e =
    let first = position-Some (λ o. is_given o l) labels p None e in
    slice_get-get_or labels p None first.0 ∙ ap Some (given_is (get_or labels p None) l first.1)

-- the place that is kept of a label is that of a manifest with it
pub found_at : (ts : List Tree) (places : Places) (l : List ℕ) (p : ℕ) → FindsLabels ts places
    → kept_place places l ≡ Some p → MappedFrom tree_label ts p (Some l)
found_at ts places l p h e = mapped_from tree_label ts p (Some l) (first_label (box_labels ts) l p (sym (h.kept l) ∙ e))

-- the place that is kept of a label stands inside the list of manifests
pub found_inside : (ts : List Tree) (places : Places) (l : List ℕ) (p : ℕ) → FindsLabels ts places
    → kept_place places l ≡ Some p → p < length ts
found_inside ts places l p h e = let f = found_at ts places l p h e in slice_get_within ts p f.it f.is

-- whether a member of a list that was mapped passes
met : {A B : Type 0} (f : A → B) (p : B → Bool) (i : ℕ) (xs : List A)
    → is_some (position_from p i (map f xs)) ≡ list_any (λ x. p (f x)) xs
met f p i [] = refl
met {A} f p i (x ∷ xs) = by (p (f x)) (met f p (i + 1) xs)
  where
    by : (b : Bool) → is_some (position_from p (i + 1) (map f xs)) ≡ list_any (λ y. p (f y)) xs
        → is_some (cond b (Some i) (position_from p (i + 1) (map f xs))) ≡ (b || list_any (λ y. p (f y)) xs)
    by true h = refl
    by false h = h

-- where no place is kept, no manifest has the label
none_found : (ts : List Tree) (places : Places) (l : List ℕ) → FindsLabels ts places → kept_place places l ≡ None
    → list_any (λ (o : Tree). is_given (tree_label o) l) ts ≡ false
none_found ts places l h e =
    sym (met tree_label (λ o. is_given o l) 0 ts)
    ∙ ap is_some (sym (position_from-zero (λ o. is_given o l) (box_labels ts)) ∙ sym (h.kept l) ∙ e)

-- ---- one manifest of a label

-- a label is new among others that don't have it
new_at : (l : List ℕ) (ts : List Tree) (p : ℕ) (u : Tree) → IsNewLabel (Some l) (box_labels ts)
    → slice_get ts p ≡ Some u → tree_label u ≡ Some l → ⊥
new_at l [] p u h e f = cc (e)
new_at l (t ∷ ts) zero u h e f = h.0 (ap tree_label (same_Some t u e) ∙ f)
new_at l (t ∷ ts) (suc p) u h e f = new_at l ts p u h.1 e f

-- two of one label are one
one_place : (ts : List Tree) (p q : ℕ) (t u : Tree) (l : List ℕ) → AreDistinctLabels (box_labels ts)
    → slice_get ts p ≡ Some t → slice_get ts q ≡ Some u → tree_label t ≡ Some l → tree_label u ≡ Some l → p ≡ q
one_place [] p q t u l d e f g h = absurd (cc (e))
one_place (x ∷ xs) zero zero t u l d e f g h = refl
one_place (x ∷ xs) zero (suc q) t u l d e f g h =
    absurd (new_at l xs q u (subst (λ o. IsNewLabel o (box_labels xs)) (ap tree_label (same_Some x t e) ∙ g) d.0) f h)
one_place (x ∷ xs) (suc p) zero t u l d e f g h =
    absurd (new_at l xs p t (subst (λ o. IsNewLabel o (box_labels xs)) (ap tree_label (same_Some x u f) ∙ h) d.0) e g)
one_place (x ∷ xs) (suc p) (suc q) t u l d e f g h = ap suc (one_place xs p q t u l d.1 e f g h)

-- ---- what is found

-- no manifest has its label
pub no_label : (old other : MarkedStore) (places : Places) (i : ℕ) (l : List ℕ) → FindsLabels (manifests_in old) places
    → is_marked other i ≡ true → slice_get (box_labels (manifests_in other)) i ≡ Some (Some l)
    → kept_place places l ≡ None
    → IsFound old other i (Some true)
no_label old other places i l h e at none = (λ t is. sym (ap (λ b. b && not (has_same_label olds t)) e ∙ ap not (free t is)), clash)
  where
    olds : List Tree
    olds = manifests_in old

    m : MappedFrom tree_label (manifests_in other) i (Some l)
    m = mapped_from tree_label (manifests_in other) i (Some l) at

    lacks : list_any (λ (o : Tree). is_given (tree_label o) l) olds ≡ false
    lacks = none_found olds places l h none

    label_of : (t : Tree) → slice_get (manifests_in other) i ≡ Some t → tree_label t ≡ Some l
    label_of t is = ap tree_label (same_Some t m.it (sym is ∙ m.is)) ∙ m.gives

    free : (t : Tree) → slice_get (manifests_in other) i ≡ Some t → has_same_label olds t ≡ false
    free t is = ap (λ o. list_any (λ (x : Tree). is_given (tree_label x) (unwrap_or o [])) olds) (label_of t is) ∙ lacks

    clash : StoresClash old other i → ⊥
    clash c = both_ways (list_any (λ (o : Tree). is_given (tree_label o) l) olds) lacks
        (in_any (λ (o : Tree). is_given (tree_label o) l) olds c.ours (contains_at olds c.place c.ours c.is_ours) (is_given_back (tree_label c.ours) l (c.label ∙ label_of c.theirs c.is_theirs)))

-- a manifest has its label, and both are the same
pub shared : (old other : MarkedStore) (places : Places) (i p : ℕ) (l : List ℕ) (b : Bool)
    → FindsLabels (manifests_in old) places → is_marked other i ≡ true
    → slice_get (box_labels (manifests_in other)) i ≡ Some (Some l) → kept_place places l ≡ Some p
    → IsShared old other p i b → b ≡ true → IsFound old other i (Some false)
shared old other places i p l b h e at kept same so = (λ t is. sym (ap (λ x. x && not (has_same_label olds t)) e ∙ ap not (there t is)), clash)
  where
    olds : List Tree
    olds = manifests_in old

    m : MappedFrom tree_label (manifests_in other) i (Some l)
    m = mapped_from tree_label (manifests_in other) i (Some l) at

    f : MappedFrom tree_label olds p (Some l)
    f = found_at olds places l p h kept

    label_of : (t : Tree) → slice_get (manifests_in other) i ≡ Some t → tree_label t ≡ Some l
    label_of t is = ap tree_label (same_Some t m.it (sym is ∙ m.is)) ∙ m.gives

    there : (t : Tree) → slice_get (manifests_in other) i ≡ Some t → has_same_label olds t ≡ true
    there t is = ap (λ o. list_any (λ (x : Tree). is_given (tree_label x) (unwrap_or o [])) olds) (label_of t is)
        ∙ in_any (λ (x : Tree). is_given (tree_label x) l) olds f.it (contains_at olds p f.it f.is)
        (is_given_back (tree_label f.it) l f.gives)

    clash : StoresClash old other i → ⊥
    clash c =
        let place : c.place ≡ p =
        one_place olds c.place p c.ours f.it l h.distinct c.is_ours f.is
        (c.label ∙ label_of c.theirs c.is_theirs) f.gives in
        both_ways b
        (same c.ours c.theirs (ap (slice_get olds) (sym place) ∙ c.is_ours) c.is_theirs ∙ ap (λ n. is_marked old n && bytes_eq (tree_bytes c.ours) (tree_bytes c.theirs)) (sym place) ∙ c.differs)
        so

-- a manifest has its label, and they differ
pub clashes : (old other : MarkedStore) (places : Places) (i p : ℕ) (l : List ℕ) (b : Bool)
    → FindsLabels (manifests_in old) places → is_marked other i ≡ true
    → slice_get (box_labels (manifests_in other)) i ≡ Some (Some l) → kept_place places l ≡ Some p
    → IsShared old other p i b → b ≡ false → IsFound old other i None
clashes old other places i p l b h e at kept same differs =
    let f = found_at (manifests_in old) places l p h kept in
    let m = mapped_from tree_label (manifests_in other) i (Some l) at in
    record {
      is_reached = e;
      theirs = m.it;
      is_theirs = m.is;
      place = p;
      ours = f.it;
      is_ours = f.is;
      label = f.gives ∙ sym m.gives;
      differs = sym (same f.it m.it f.is m.is) ∙ differs;
    }

-- ---- labels one by one

-- one member more
take_next : {X : Type 0} (xs : List X) (i : ℕ) (x : X) → slice_get xs i ≡ Some x → take i xs ++ x ∷ [] ≡ take (suc i) xs
take_next [] i x e = absurd (cc (e))
take_next (y ∷ ys) zero x e = ap (λ z. z ∷ []) (sym (same_Some y x e))
take_next (y ∷ ys) (suc i) x e = ap (λ zs. y ∷ zs) (take_next ys i x e)

-- the places of one label more
pub next_place : (labels : List (Option (List ℕ))) (old new : Places) (i : ℕ) (l : List ℕ)
    → ArePlaces (take i labels) old → slice_get labels i ≡ Some (Some l)
    → ((ls : List (Option (List ℕ))) → ArePlaces ls old → i ≡ length ls → ArePlaces (ls ++ Some l ∷ []) new)
    → ArePlaces (take (i + 1) labels) new
next_place labels old new i l h at step =
    let lt : i < length labels = slice_get_within labels i (Some l) at in
    let one : suc i ≡ i + 1 = omega arith in
    subst (λ (ls : List (Option (List ℕ))). ArePlaces ls new)
    (take_next labels i (Some l) at ∙ ap (λ n. take n labels) one)
    (step (take i labels) h (sym (length-take-le i labels (omega (arith, lt)))))

-- all places
pub all_places : (ts : List Tree) (places : Places) (i : ℕ) → AreDistinctLabels (box_labels ts) → length ts ≤ i
    → ArePlaces (take i (box_labels ts)) places → FindsLabels ts places
all_places ts places i d le h = record {
  distinct = d;
  kept =
      subst (λ (ls : List (Option (List ℕ))). ArePlaces ls places)
      (take_all i (box_labels ts) (omega (arith, le, length-map ts tree_label))) h;
}
