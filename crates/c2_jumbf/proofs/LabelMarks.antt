-- The labels that the reader keeps are those of the siblings, and tell the first that an earlier one has.
use Rattle.std.proofs.Common.{◌≡◌, ◌≢◌, ◌⊎◌, inl, inr, ℕ, ◌<◌, ◌≤◌, List, [], ◌∷◌, ◌++◌, map, Option, Some, None, All, Contains, refl, sym, ap, ◌∙◌, subst, arith}
use Rattle.std.specs.List.{AllByRecursion}
use Rattle.std.proofs.lemmas.List.{append-nil, map_push}
use Rattle.std.proofs.lemmas.List.Elements.{All-nil, All-push, All-contains, All-from_recursion, Contains-push, Contains-push_cases, Contains-append_left, Contains-append_right}
use Rattle.c2_spec.specs.Jumbf.Tree.{IsNewLabel, AreDistinctLabels}
use Rattle.c2_jumbf.specs.Labels.{Mark, front_of, own_marks, Repeats, NoneRepeats, IsFirstRepeated, given}
use Rattle.c2_jumbf.proofs.DistinctLabels.{distinct-push}

-- ---- the labels that are there

-- one more label comes last among those that are there
pub given-push : (os : List (Option (List ℕ))) (t : List ℕ) → given (os ++ Some t ∷ []) ≡ given os ++ t ∷ []
given-push [] t = refl
given-push (None ∷ os) t = given-push os t
given-push (Some u ∷ os) t = ap (λ (x : List (List ℕ)). u ∷ x) (given-push os t)

-- a box without a label adds none
pub given-none : (os : List (Option (List ℕ))) → given (os ++ None ∷ []) ≡ given os
given-none [] = refl
given-none (None ∷ os) = given-none os
given-none (Some u ∷ os) = ap (λ (x : List (List ℕ)). u ∷ x) (given-none os)

-- a label that isn't given is new, and the other way round
new_given : (t : List ℕ) (os : List (Option (List ℕ))) → AllByRecursion (λ u. u ≢ t) (given os) → IsNewLabel (Some t) os
new_given t [] h = tt
new_given t (None ∷ os) h = (λ e. cc (e), new_given t os h)
new_given t (Some u ∷ os) h = (λ e. h.0 (cc (e)), new_given t os h.1)

-- a label that is new is none of those that are there
given_new : (t : List ℕ) (os : List (Option (List ℕ))) → IsNewLabel (Some t) os → AllByRecursion (λ u. u ≢ t) (given os)
given_new t [] h = tt
given_new t (None ∷ os) h = given_new t os h.1
given_new t (Some u ∷ os) h = (λ e. h.0 (ap Some e), given_new t os h.1)

-- ---- marks that stand for labels

-- the label of a mark
abbrev label_in : Mark → List ℕ
label_in m = m.1

-- These marks are those of these labels, each with its own first bytes, and all before a place.
pub record Stand (ms : List Mark) (os : List (Option (List ℕ))) (end : ℕ) : Type 0 where
  pub labels : map label_in ms ≡ given os
  pub fronts : All (λ (m : Mark). m.0 ≡ front_of m.1) ms
  pub below : All (λ (m : Mark). m.2 < end) ms
  pub distinct : NoneRepeats ms → AreDistinctLabels os

-- without a mark no label was seen
pub stand_none : (ms : List Mark) (end : ℕ) → ms ≡ [] → Stand ms [] end
stand_none ms end e =
    subst (λ x. Stand x [] end) (sym e)
    (record { labels = refl; fronts = All-nil _; below = All-nil _; distinct = λ _. tt })

-- what comes before a place comes before a later one
still_below : (ms : List Mark) (a b : ℕ) → a ≤ b → All (λ (m : Mark). m.2 < a) ms → All (λ (m : Mark). m.2 < b) ms
still_below ms a b le h = λ k d l. omega (arith, h k d l, le)

-- all marks have another label
apart : (t : List ℕ) (ms : List Mark) → ((x : Mark) → Contains ms x → x.1 ≢ t)
    → AllByRecursion (λ u. u ≢ t) (map label_in ms)
apart t [] h = tt
apart t (x ∷ xs) h = (h x (0, omega arith, refl), apart t xs (λ y c. h y (Contains-append_right (x ∷ []) xs y c)))

-- marks whose labels all differ from one each have another label
kept_apart : (t : List ℕ) (ms : List Mark) → AllByRecursion (λ u. u ≢ t) (map label_in ms)
    → AllByRecursion (λ (m : Mark). m.1 ≢ t) ms
kept_apart t [] h = tt
kept_apart t (x ∷ xs) h = (h.0, kept_apart t xs h.1)

module _ (ms : List Mark) (os : List (Option (List ℕ))) (place : ℕ) (s : Stand ms os place) where
  -- ---- one more label, and the marks with it

  module _ (t : List ℕ) where
    abbrev own : Mark
    own = (front_of t, t, place)

    abbrev more : List Mark
    more = ms ++ own ∷ []

    there : (x : Mark) → Contains ms x → Contains more x
    there x c = Contains-append_left ms (own ∷ []) x c

    none_before : NoneRepeats more → NoneRepeats ms
    none_before n = λ x y cx cy r. n x y (there x cx) (there y cy) r

    -- an earlier mark with the label would be repeated
    repeated : (x : Mark) → Contains ms x → x.1 ≡ t → Repeats x own
    repeated x c e =
        (All-contains (λ (m : Mark). m.0 ≡ front_of m.1) ms x s.fronts c ∙ ap front_of e, e, All-contains (λ (m : Mark). m.2 < place) ms x s.below c)

    new_label : NoneRepeats more → IsNewLabel (Some t) os
    new_label n =
        new_given t os
        (subst (AllByRecursion (λ u. u ≢ t)) s.labels (apart t ms (λ x c e. n x own (there x c) (Contains-push ms own) (repeated x c e))))

    old_label : (x : Mark) → Contains ms x → x.1 ≡ t → IsNewLabel (Some t) os → ⊥
    old_label x c e new =
        let others = kept_apart t ms (subst (AllByRecursion (λ u. u ≢ t)) (sym s.labels) (given_new t os new)) in
        All-contains (λ (m : Mark). m.1 ≢ t) ms x (All-from_recursion (λ (m : Mark). m.1 ≢ t) ms others) c e

    not_itself : (x : Mark) → own ≡ x → Repeats x own → ⊥
    not_itself x e r = omega (arith, r.2, ap (λ (m : Mark). m.2) e)

    -- the first repeated one is among the earlier marks, or is the new one
    first_among : (P : ℕ → Type 0) (p : ℕ) → ((q : ℕ) → IsFirstRepeated ms q → P q)
        → (AreDistinctLabels os → (IsNewLabel (Some t) os → ⊥) → P place) → IsFirstRepeated more p → P p
    first_among P p before here f = by_later (Contains-push_cases ms own f.later f.has_later)
      where
        by_earlier : Contains ms f.later → Contains ms f.earlier ⊎ (own ≡ f.earlier) → P p
        by_earlier cy (inl cx) = before p (record {
          earlier = f.earlier;
          later = f.later;
          has_earlier = cx;
          has_later = cy;
          repeats = f.repeats;
          is = f.is;
          first = λ x y c d r. f.first x y (there x c) (there y d) r;
        })
        by_earlier cy (inr e) =
            absurd
            (omega (arith, f.repeats.2, All-contains (λ (m : Mark). m.2 < place) ms f.later s.below cy, ap (λ (m : Mark). m.2) e))

        last : own ≡ f.later → p ≡ place
        last e = f.is ∙ sym (ap (λ (m : Mark). m.2) e)

        none_earlier : own ≡ f.later → NoneRepeats ms
        none_earlier e =
            λ x y c d r. omega (arith, f.first x y (there x c) (there y d) r, last e, All-contains (λ (m : Mark). m.2 < place) ms y s.below d)

        by_own : (e : own ≡ f.later) → Contains ms f.earlier ⊎ (own ≡ f.earlier) → P p
        by_own e (inl cx) =
            let same : f.earlier.1 ≡ t = f.repeats.1 ∙ sym (ap (λ (m : Mark). m.1) e) in
            subst P (sym (last e)) (here (s.distinct (none_earlier e)) (old_label f.earlier cx same))
        by_own e (inr k) = absurd (omega (arith, f.repeats.2, ap (λ (m : Mark). m.2) e, ap (λ (m : Mark). m.2) k))

        by_later : Contains ms f.later ⊎ (own ≡ f.later) → P p
        by_later (inl cy) = by_earlier cy (Contains-push_cases ms own f.earlier f.has_earlier)
        by_later (inr e) = by_own e (Contains-push_cases ms own f.earlier f.has_earlier)

  -- ---- the same where the box may have no label

  -- where no label is there twice, with one more box, the others are distinct and the new one is new
  pub none_more : (o : Option (List ℕ)) → NoneRepeats (ms ++ own_marks place o) → AreDistinctLabels os × IsNewLabel o os
  none_more None n = (s.distinct (subst NoneRepeats (append-nil ms) n), tt)
  none_more (Some t) n = (s.distinct (none_before t n), new_label t n)

  -- with one more box, the first label that was there before is one of the others or the new one
  pub first_more : (o : Option (List ℕ)) (P : ℕ → Type 0) (p : ℕ) → ((q : ℕ) → IsFirstRepeated ms q → P q)
      → (AreDistinctLabels os → (IsNewLabel o os → ⊥) → P place) → IsFirstRepeated (ms ++ own_marks place o) p → P p
  first_more None P p before here f = before p (subst (λ x. IsFirstRepeated x p) (append-nil ms) f)
  first_more (Some t) P p before here f = first_among t P p before here f

  -- with one more box, the marks are those of the labels with its own
  pub stand_more : (o : Option (List ℕ)) (end : ℕ) → place < end → Stand (ms ++ own_marks place o) (os ++ o ∷ []) end
  stand_more None end l = record {
    labels = ap (map label_in) (append-nil ms) ∙ s.labels ∙ sym (given-none os);
    fronts = subst (All (λ (m : Mark). m.0 ≡ front_of m.1)) (sym (append-nil ms)) s.fronts;
    below =
        subst (All (λ (m : Mark). m.2 < end)) (sym (append-nil ms))
        (still_below ms place end (omega (arith, l)) s.below);
    distinct = λ n. let d = none_more None n in distinct-push os None d.0 d.1;
  }
  stand_more (Some t) end l = record {
    labels = map_push label_in ms (own t) ∙ ap (λ (x : List (List ℕ)). x ++ t ∷ []) s.labels ∙ sym (given-push os t);
    fronts = All-push (λ (m : Mark). m.0 ≡ front_of m.1) ms (own t) s.fronts refl;
    below = All-push (λ (m : Mark). m.2 < end) ms (own t) (still_below ms place end (omega (arith, l)) s.below) l;
    distinct = λ n. let d = none_more (Some t) n in distinct-push os (Some t) d.0 d.1;
  }
