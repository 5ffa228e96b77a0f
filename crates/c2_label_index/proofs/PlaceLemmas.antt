-- The first place of a label among one more.
use Rattle.std.proofs.Common.{◌≡◌, ℕ, suc, ◌+◌, Bool, true, false, cond, List, [], ◌∷◌, ◌++◌, length, Option, Some, None, position, refl, sym, ap, ◌∙◌, subst, arith, bytes_eq, is_none, option_map}
use Rattle.std.specs.List.{position_from}
use Rattle.std.specs.Map.{update}
use Rattle.std.proofs.lemmas.Iterator.Adapters.{position_from-zero}
use denote.Ref.{Bor}
use Rattle.c2_spec.specs.C2pa.Manifest.{is_given}
use Rattle.c2_label_index.specs.Places.{kept_place, ArePlaces}
use Rattle.c2_label_index.specs.declared.places.Places.{Places}
use Rattle.c2_lemmas.proofs.Lists.{equal_bytes}

-- the first of two, else the second
abbrev or_else : Option ℕ → Option ℕ → Option ℕ
or_else None o = o
or_else (Some i) o = Some i

-- a place counted from the next start on is the same place counted one further from this start
later : (b : Bool) (i n : ℕ) → cond b (Some (i + 1 + n)) None ≡ cond b (Some (i + suc n)) None
later b i n = let e : i + 1 + n ≡ i + suc n = omega arith in ap (λ (k : ℕ). cond b (Some k) None) e

-- the first place that passes, with one member more: the one before, or else the new one's if it passes
from_push : {X : Type 0} (p : X → Bool) (i : ℕ) (xs : List X) (y : X)
    → position_from p i (xs ++ y ∷ []) ≡ or_else (position_from p i xs) (cond (p y) (Some (i + length xs)) None)
from_push p i [] y = let e : i ≡ i + 0 = omega arith in ap (λ (k : ℕ). cond (p y) (Some k) None) e
from_push {X} p i (x ∷ xs) y = here (p x) (from_push p (i + 1) xs y)
  where
    here : (b : Bool)
        → position_from p (i + 1) (xs ++ y ∷ []) ≡ or_else (position_from p (i + 1) xs) (cond (p y) (Some (i + 1 + length xs)) None)
        → cond b (Some i) (position_from p (i + 1) (xs ++ y ∷ [])) ≡ or_else (cond b (Some i) (position_from p (i + 1) xs)) (cond (p y) (Some (i + suc (length xs))) None)
    here true h = refl
    here false h = h ∙ ap (or_else (position_from p (i + 1) xs)) (later (p y) i (length xs))

-- the first place that passes, counted from zero, with one member more: the one before, or else the new one's if it passes
push : {X : Type 0} (p : X → Bool) (xs : List X) (y : X)
    → position p (xs ++ y ∷ []) ≡ or_else (position p xs) (cond (p y) (Some (length xs)) None)
push p xs y =
    let start : 0 + length xs ≡ length xs = omega arith in
    position_from-zero p (xs ++ y ∷ []) ∙ from_push p 0 xs y
    ∙ ap (λ (n : ℕ). or_else (position_from p 0 xs) (cond (p y) (Some n) None)) start
    ∙ ap (λ (o : Option ℕ). or_else o (cond (p y) (Some (length xs)) None)) (sym (position_from-zero p xs))

-- a place or else none is that place
nothing_more : (o : Option ℕ) → o ≡ or_else o None
nothing_more None = refl
nothing_more (Some i) = refl

-- something without a label
pub without : (labels : List (Option (List ℕ))) (kept : List ℕ → Option ℕ)
    → ((label : List ℕ) → kept label ≡ position (λ o. is_given o label) labels) → (label : List ℕ)
    → kept label ≡ position (λ o. is_given o label) (labels ++ None ∷ [])
without labels kept h label =
    h label ∙ nothing_more (position (λ o. is_given o label) labels) ∙ sym (push (λ o. is_given o label) labels None)

-- what is tested as missing is missing
none_is : (o : Option ℕ) → is_none o ≡ true → o ≡ None
none_is None e = refl
none_is (Some i) e = absurd cc

-- a place that is there stays first, whatever comes after
kept_first : (o more : Option ℕ) → is_none o ≡ false → o ≡ or_else o more
kept_first None more e = absurd cc
kept_first (Some i) more e = refl

-- a label that is new
pub with_new : (labels : List (Option (List ℕ))) (old new : List ℕ → Option ℕ) (text : List ℕ) (place : ℕ)
    → ((label : List ℕ) → old label ≡ position (λ o. is_given o label) labels) → place ≡ length labels
    → is_none (old text) ≡ true
    → ((label : List ℕ) → new label ≡ update bytes_eq old text (Some place) label) → (label : List ℕ)
    → new label ≡ position (λ o. is_given o label) (labels ++ Some text ∷ [])
with_new labels old new text place h at none is label = is label ∙ by (bytes_eq text label) refl ∙ sym (push (λ o. is_given o label) labels (Some text))
  where
    by : (b : Bool) → bytes_eq text label ≡ b
        → cond b (Some place) (old label) ≡ or_else (position (λ o. is_given o label) labels) (cond b (Some (length labels)) None)
    by true e =
        let nothing : position (λ o. is_given o label) labels ≡ None =
        sym (h label) ∙ ap old (sym (equal_bytes text label e)) ∙ none_is (old text) none in
        ap Some at ∙ ap (λ (o : Option ℕ). or_else o (Some (length labels))) (sym nothing)
    by false e = h label ∙ nothing_more (position (λ o. is_given o label) labels)

-- a label that is there
pub with_old : (labels : List (Option (List ℕ))) (kept : List ℕ → Option ℕ) (text : List ℕ)
    → ((label : List ℕ) → kept label ≡ position (λ o. is_given o label) labels) → is_none (kept text) ≡ false
    → (label : List ℕ) → kept label ≡ position (λ o. is_given o label) (labels ++ Some text ∷ [])
with_old labels kept text h some label = by (bytes_eq text label) refl ∙ sym (push (λ o. is_given o label) labels (Some text))
  where
    by : (b : Bool) → bytes_eq text label ≡ b
        → kept label ≡ or_else (position (λ o. is_given o label) labels) (cond b (Some (length labels)) None)
    by true e =
        let there : is_none (kept label) ≡ false =
        ap (λ (s : List ℕ). is_none (kept s)) (sym (equal_bytes text label e)) ∙ some in
        kept_first (kept label) (Some (length labels)) there
        ∙ ap (λ (o : Option ℕ). or_else o (Some (length labels))) (h label)
    by false e = h label ∙ nothing_more (position (λ o. is_given o label) labels)

-- ---- places that are kept

-- kept places with a new label at the place after all others are right for the list with this label added
pub new_added : (labels : List (Option (List ℕ))) (p q : Places) (o : Option (Bor (List ℕ))) (text : Bor (List ℕ))
    (place : ℕ) (first : Option ℕ) → o ≡ Some text → first ≡ kept_place p text.now → is_none first ≡ true
    → ((label : List ℕ) → kept_place q label ≡ update bytes_eq (kept_place p) text.now (Some place) label)
    → ArePlaces labels p → place ≡ length labels → ArePlaces (labels ++ option_map (λ x. x.now) o ∷ []) q
new_added labels p q o text place first some at none is h count =
    subst (λ (x : Option (Bor (List ℕ))). ArePlaces (labels ++ option_map (λ y. y.now) x ∷ []) q) (sym some)
    (with_new labels (kept_place p) (kept_place q) text.now place h count (ap is_none (sym at) ∙ none) is)

-- kept places stay right when a label is added that they have
pub old_added :
    (labels : List (Option (List ℕ))) (p : Places) (o : Option (Bor (List ℕ))) (text : Bor (List ℕ)) (first : Option ℕ)
    → o ≡ Some text → first ≡ kept_place p text.now → is_none first ≡ false → ArePlaces labels p
    → ArePlaces (labels ++ option_map (λ x. x.now) o ∷ []) p
old_added labels p o text first some at none h =
    subst (λ (x : Option (Bor (List ℕ))). ArePlaces (labels ++ option_map (λ y. y.now) x ∷ []) p) (sym some)
    (with_old labels (kept_place p) text.now h (ap is_none (sym at) ∙ none))
