-- The rules of the manifests of a chain that is seen from roots hold in the new store.
use Rattle.std.proofs.Common.{◌≡◌, inl, inr, ⊎_elim, ℕ, ◌+◌, ◌<◌, ◌≤◌, Bool, true, false, not, ◌&&◌, ◌||◌, cond, List, [], ◌∷◌, ◌++◌, length, Option, Some, None, slice_get, refl, sym, ap, ◌∙◌, subst, arith}
use Rattle.std.specs.Prelude.{option_and_then}
use Rattle.std.specs.List.{AllByRecursion, list_any}
use Rattle.std.proofs.lemmas.Bool.{cases_lt, lt-ltb, le-ltb, ne_eqb, or_left, or_right, or_parts, or_cases, and_parts, and_from, both_ways, false_from_ne_true, not_from_false}
use Rattle.c2_spec.specs.C2pa.Manifest.{Manifest, is_given}
use Rattle.c2_spec.specs.declared.cbor.Ref.{Ref}
use Rattle.c2_spec.specs.declared.digest.Alg.{Alg}
use Rattle.c2_rules.specs.Chains.{label_in, named_in, entry_label, passes_some, place_of, place_before, child_of, is_reached, is_active, is_redacted, is_touched, lists_redacted}
use Rattle.c2_rules.specs.CheckList.{place_tests, question_at, questions_of, tests_of}
use Rattle.c2_rules.specs.Ingredients.{is_ingredient}
use Rattle.c2_rules.specs.Readings.{ReadBox, Reading, entries_in, redactions_in}
use Rattle.c2_rules.specs.Rules.{unjudged_tests, lists_label}
use Rattle.c2_rules.specs.Seen.{later, whole, seen_at, standing_of, place_standing, earlier_standing, child_standing, signature_contents}
use Rattle.c2_chain_spec.specs.Older.{Alike, Loses, StaysAlike, has_signature, is_kept, thinned}
use Rattle.c2_chain_spec.specs.Rooted.{HoldBy, is_reached_from, lists_passing, place_standing_by, redacted_by, seen_by, standing_by, touched_by}
use Rattle.c2_rules.proofs.Conditions.{Holds, all_each, all_hold}
use Rattle.c2_new_file_spec.specs.Less.{CanRedactBy, SignsTaken}
use Rattle.c2_new_file_spec.specs.Redacting.{takes_out}
use Rattle.c2_new_file_spec.proofs.Places.{LessAt, less_at, less_len}
use Rattle.c2_new_content_spec.proofs.Less.{less_place, Silent}
use Rattle.c2_new_content_spec.proofs.More.{get_front, len_more, place_more}
use Rattle.c2_new_content_spec.specs.Taken.{question_from}
use Rattle.c2_new_content_spec.proofs.Roots.{IsOver, old_reached, redacted_more}
use Rattle.c2_chain_spec.proofs.OlderRules.{without_boxes}
use Rattle.c2_spec.proofs.GivenLabels.{given_is}

-- ---- touched

-- entries of which one lists a redacted label
abbrev Touches : Manifest → (List ℕ → Bool) → List Ref → Bool
Touches m red es = list_any (λ (e : Ref). passes_some red (entry_label m e)) es

-- a redacted label that is listed touches
touches_listed : (m : Manifest) (red : List ℕ → Bool) (label : List ℕ) (es : List Ref) → red label ≡ true
    → lists_label m es label ≡ true → Touches m red es ≡ true
touches_listed m red label [] r h = absurd (cc (h))
touches_listed m red label (e ∷ es) r h =
    ⊎_elim
    (λ own. or_left (passes_some red (entry_label m e)) (Touches m red es) (ap (passes_some red) (given_is (entry_label m e) label own) ∙ r))
    (λ more_of. or_right (passes_some red (entry_label m e)) (Touches m red es) (touches_listed m red label es r more_of))
    (or_cases (is_given (entry_label m e) label) (lists_label m es label) h)

-- what was redacted still is
passes_more : (red red' : List ℕ → Bool) (o : Option (List ℕ)) → ((l : List ℕ) → red l ≡ true → red' l ≡ true)
    → passes_some red o ≡ true → passes_some red' o ≡ true
passes_more red red' None h e = absurd (cc (e))
passes_more red red' (Some l) h e = h l e

-- a manifest that was touched still is, where what was redacted still is
touches_more : (m : Manifest) (red red' : List ℕ → Bool) (es : List Ref) → ((l : List ℕ) → red l ≡ true → red' l ≡ true)
    → Touches m red es ≡ true → Touches m red' es ≡ true
touches_more m red red' [] h e = absurd (cc (e))
touches_more m red red' (x ∷ es) h e =
    ⊎_elim
    (λ own. or_left (passes_some red' (entry_label m x)) (Touches m red' es) (passes_more red red' (entry_label m x) h own))
    (λ more_of. or_right (passes_some red' (entry_label m x)) (Touches m red' es) (touches_more m red red' es h more_of))
    (or_cases (passes_some red (entry_label m x)) (Touches m red es) e)

-- what newly touches a manifest is taken out
passes_new : (red red' : List ℕ → Bool) (taken : List ℕ → Bool) (o : Option (List ℕ))
    → ((l : List ℕ) → red' l ≡ true → red l ≡ false → taken l ≡ true) → passes_some red o ≡ false
    → passes_some red' o ≡ true → (l : List ℕ) × (taken l ≡ true)
passes_new red red' taken None h a b = absurd (cc (b))
passes_new red red' taken (Some l) h a b = (l, h l b a)

-- what newly touches is taken out
touches_new : (m : Manifest) (red red' : List ℕ → Bool) (taken : List ℕ → Bool) (es : List Ref)
    → ((l : List ℕ) → red' l ≡ true → red l ≡ false → taken l ≡ true) → Touches m red es ≡ false
    → Touches m red' es ≡ true → (l : List ℕ) × (taken l ≡ true)
touches_new m red red' taken [] h a b = absurd (cc (b))
touches_new m red red' taken (x ∷ es) h a b =
    let parts = or_parts (passes_some red (entry_label m x)) (Touches m red es) a in
    ⊎_elim (λ own. passes_new red red' taken (entry_label m x) h parts.0 own)
    (λ more_of. touches_new m red red' taken es h parts.1 more_of)
    (or_cases (passes_some red' (entry_label m x)) (Touches m red' es) b)

-- ---- how manifests stand

-- what the new store is made of
pub record IsMade (rs ss : List Reading) (x : Reading) (roots : List ℕ) : Type 0 where
  pub over : IsOver (redactions_in x) rs ss x roots
  pub can : CanRedactBy (is_reached_from rs roots) (redactions_in x) rs

-- where nothing is taken out each box is kept
keeps_all : (redacts : List (List ℕ)) (own : List ℕ) (bs : List ReadBox)
    → ((l : List ℕ) → takes_out redacts own l ≡ true → ⊥)
    → AllByRecursion (λ (b : ReadBox). is_kept (takes_out redacts own) b ≡ true) bs
keeps_all redacts own [] h = tt
keeps_all redacts own (b ∷ bs) h = (go b.boxed.label, keeps_all redacts own bs h)
  where
    go : (o : Option (List ℕ)) → not (passes_some (takes_out redacts own) o) ≡ true
    go None = refl
    go (Some l) = not_from_false (takes_out redacts own l) (false_from_ne_true (takes_out redacts own l) (h l))

-- the first of two, where the second fails
or_true_left : (a b : Bool) → (a || b) ≡ true → b ≡ false → a ≡ true
or_true_left true b e f = refl
or_true_left false b e f = absurd (both_ways b f e)

-- a child that stands at a place stands alike
child_alike_at : (rs ss : List Reading) (x : Reading) (roots : List ℕ) (i m : ℕ) (b : ReadBox) (label : List ℕ)
    → IsMade rs ss x roots → i < length rs → m < i → place_of rs label ≡ Some m → named_in b ≡ Some label
    → ((c : Reading) (l : List ℕ) → slice_get rs m ≡ Some c → takes_out (redactions_in x) (label_in c) l ≡ true → has_signature b ≡ true)
    → Alike (has_signature b) (earlier_standing (touched_by (is_reached_from rs roots) rs m) (slice_get rs m)) (earlier_standing (is_touched (ss ++ x ∷ []) m) (slice_get (ss ++ x ∷ []) m))
child_alike_at rs ss x roots i m b label h li lm place named signed =
    go (touched_by (is_reached_from rs roots) rs m) (is_touched all m) refl refl
  where
    all : List Reading
    all = ss ++ x ∷ []

    redacts : List (List ℕ)
    redacts = redactions_in x

    t : LessAt redacts rs ss m
    t = less_at redacts rs ss m h.over.quiet.are_less (omega arith)

    new : Reading
    new = thinned (takes_out redacts (label_in t.old)) t.less.contents t.less.assertions t.old

    here : slice_get all m ≡ Some new
    here = get_front ss x m (omega (arith, less_len redacts rs ss h.over.quiet.are_less)) ∙ t.is_new ∙ ap Some t.less.is

    more_red : (l : List ℕ)
        → is_redacted all m l ≡ ((is_reached_from rs roots m && takes_out redacts (label_in t.old) l) || redacted_by (is_reached_from rs roots) rs m l)
    more_red l = redacted_more rs ss x roots m t.old l h.over (omega arith) t.is_old

    old_touched : touched_by (is_reached_from rs roots) rs m ≡ Touches t.old.manifest
        (redacted_by (is_reached_from rs roots) rs m) (entries_in t.old)
    old_touched = ap (lists_passing (redacted_by (is_reached_from rs roots) rs m)) t.is_old

    new_touched : is_touched all m ≡ Touches t.old.manifest (is_redacted all m) (entries_in t.old)
    new_touched = ap (lists_redacted all m) here

    -- a label that is taken out is redacted in the new store, so its manifest is touched
    taken_touches : (l : List ℕ) → takes_out redacts (label_in t.old) l ≡ true → is_touched all m ≡ true
    taken_touches l e =
        let red : is_redacted all m l ≡ true =
        more_red l
        ∙ or_left (is_reached_from rs roots m && takes_out redacts (label_in t.old) l)
        (redacted_by (is_reached_from rs roots) rs m l)
        (and_from (is_reached_from rs roots m) (takes_out redacts (label_in t.old) l) (h.can.reached m t.old l t.is_old e) e) in
        new_touched
        ∙ touches_listed t.old.manifest (is_redacted all m) l (entries_in t.old) red (h.can.listed m t.old l t.is_old e)

    still : touched_by (is_reached_from rs roots) rs m ≡ true → is_touched all m ≡ true
    still e =
        new_touched
        ∙ touches_more t.old.manifest (redacted_by (is_reached_from rs roots) rs m) (is_redacted all m)
        (entries_in t.old)
        (λ l r. more_red l ∙ or_right (is_reached_from rs roots m && takes_out redacts (label_in t.old) l) (redacted_by (is_reached_from rs roots) rs m l) r)
        (sym old_touched ∙ e)

    -- where a manifest isn't touched nothing is taken out of it
    same_contents : is_touched all m ≡ false → t.less.contents ≡ t.old.manifest.contents
    same_contents e =
        t.less.same
        (keeps_all redacts (label_in t.old) t.old.boxes (λ l k. both_ways (is_touched all m) e (taken_touches l k)))

    newly : touched_by (is_reached_from rs roots) rs m ≡ false → is_touched all m ≡ true → has_signature b ≡ true
    newly e f =
        let found =
        touches_new t.old.manifest (redacted_by (is_reached_from rs roots) rs m) (is_redacted all m)
        (takes_out redacts (label_in t.old)) (entries_in t.old)
        (λ l now before. (and_parts (is_reached_from rs roots m) (takes_out redacts (label_in t.old) l) (or_true_left (is_reached_from rs roots m && takes_out redacts (label_in t.old) l) (redacted_by (is_reached_from rs roots) rs m l) (sym (more_red l) ∙ now) before)).1)
        (sym old_touched ∙ e) (sym new_touched ∙ f) in
        signed t.old found.0 t.is_old found.1

    before_is : (tb : Bool) → touched_by (is_reached_from rs roots) rs m ≡ tb
        → earlier_standing (touched_by (is_reached_from rs roots) rs m) (slice_get rs m) ≡ child_standing tb t.old
    before_is tb e = ap (λ b. earlier_standing b (slice_get rs m)) e ∙ ap (earlier_standing tb) t.is_old

    after_is : (ta : Bool) → is_touched all m ≡ ta
        → earlier_standing (is_touched all m) (slice_get all m) ≡ child_standing ta new
    after_is ta e = ap (λ b. earlier_standing b (slice_get all m)) e ∙ ap (earlier_standing ta) here

    go : (tb ta : Bool) → touched_by (is_reached_from rs roots) rs m ≡ tb → is_touched all m ≡ ta
        → Alike (has_signature b) (earlier_standing (touched_by (is_reached_from rs roots) rs m) (slice_get rs m)) (earlier_standing (is_touched all m) (slice_get all m))
    go true true e f =
        subst (λ s. Alike (has_signature b) s (earlier_standing (is_touched all m) (slice_get all m)))
        (sym (before_is true e)) (after_is true f)
    go true false e f = absurd (both_ways (is_touched all m) f (still e))
    go false true e f =
        subst (λ s. Alike (has_signature b) s (earlier_standing (is_touched all m) (slice_get all m)))
        (sym (before_is false e)) (inr (after_is true f, newly e f))
    go false false e f =
        subst (λ s. Alike (has_signature b) s (earlier_standing (is_touched all m) (slice_get all m)))
        (sym (before_is false e))
        (inl (after_is false f ∙ ap (λ (c : List ℕ). whole (signature_contents t.old) c) (same_contents f)))

-- what a box of an older manifest names stands as it did
standing_alike : (rs ss : List Reading) (x : Reading) (roots : List ℕ) (i : ℕ) (b : ReadBox) (label : List ℕ)
    → IsMade rs ss x roots → i < length rs → named_in b ≡ Some label
    → ((m : ℕ) (c : Reading) (l : List ℕ) → child_of rs i b ≡ Some m → slice_get rs m ≡ Some c → takes_out (redactions_in x) (label_in c) l ≡ true → has_signature b ≡ true)
    → Alike (has_signature b) (standing_by (is_reached_from rs roots) rs i label) (standing_of (ss ++ x ∷ []) i label)
standing_alike rs ss x roots i b label h li named signed =
    ⊎_elim (λ e. by_place (place_of rs label) refl (e ∙ less_place (redactions_in x) rs ss label h.over.quiet.are_less))
    (λ e. appears (sym (less_place (redactions_in x) rs ss label h.over.quiet.are_less) ∙ e.0) e.1)
    (place_more ss x label)
  where
    all : List Reading
    all = ss ++ x ∷ []

    len : length ss ≡ length rs
    len = less_len (redactions_in x) rs ss h.over.quiet.are_less

    not_before : (n : ℕ) → i ≤ n → (qs : List Reading) → place_standing qs i (Some n) ≡ later
    not_before n le qs = ap (λ c. cond c (earlier_standing (is_touched qs n) (slice_get qs n)) later) (le-ltb n i le)

    was_not_before : (n : ℕ) → i ≤ n → place_standing_by (is_reached_from rs roots) rs i (Some n) ≡ later
    was_not_before n le =
        ap (λ c. cond c (earlier_standing (touched_by (is_reached_from rs roots) rs n) (slice_get rs n)) later)
        (le-ltb n i le)

    was_before : (m : ℕ) → m < i
        → place_standing_by (is_reached_from rs roots) rs i (Some m) ≡ earlier_standing (touched_by (is_reached_from rs roots) rs m) (slice_get rs m)
    was_before m lt =
        ap (λ c. cond c (earlier_standing (touched_by (is_reached_from rs roots) rs m) (slice_get rs m)) later)
        (lt-ltb m i lt)

    is_before : (m : ℕ) → m < i → (qs : List Reading)
        → place_standing qs i (Some m) ≡ earlier_standing (is_touched qs m) (slice_get qs m)
    is_before m lt qs = ap (λ c. cond c (earlier_standing (is_touched qs m) (slice_get qs m)) later) (lt-ltb m i lt)

    -- a label that none had is the new manifest's
    appears : place_of rs label ≡ None → place_of all label ≡ Some (length ss)
        → Alike (has_signature b) (standing_by (is_reached_from rs roots) rs i label) (standing_of all i label)
    appears e f =
        subst (λ s. Alike (has_signature b) s (standing_of all i label))
        (sym (ap (place_standing_by (is_reached_from rs roots) rs i) e))
        (inr (ap (place_standing all i) f ∙ not_before (length ss) (omega (arith, len, li)) all))

    at : (m : ℕ) → place_of rs label ≡ Some m → place_of all label ≡ Some m
        → Alike (has_signature b) (place_standing_by (is_reached_from rs roots) rs i (Some m)) (place_standing all i (Some m))
    at m e f = ⊎_elim (λ lt.
        let child : child_of rs i b ≡ Some m =
        ap (λ o. place_before i (option_and_then (place_of rs) o)) named ∙ ap (place_before i) e
        ∙ ap (λ c. cond c (Some m) None) (lt-ltb m i lt) in
        subst (λ s. Alike (has_signature b) s (place_standing all i (Some m))) (sym (was_before m lt))
        (subst (Alike (has_signature b) (earlier_standing (touched_by (is_reached_from rs roots) rs m) (slice_get rs m))) (sym (is_before m lt all))
        (child_alike_at rs ss x roots i m b label h li lt e named (λ c l. signed m c l child))))
        (λ le. subst (λ s. Alike (has_signature b) s (place_standing all i (Some m))) (sym (was_not_before m le)) (not_before m le all))
        (cases_lt m i)

    by_place : (o : Option ℕ) → place_of rs label ≡ o → place_of all label ≡ place_of rs label
        → Alike (has_signature b) (standing_by (is_reached_from rs roots) rs i label) (standing_of all i label)
    by_place None e f =
        subst (λ s. Alike (has_signature b) s (standing_of all i label))
        (sym (ap (place_standing_by (is_reached_from rs roots) rs i) e)) (inl (ap (place_standing all i) (f ∙ e)))
    by_place (Some m) e f =
        subst
        (λ o. Alike (has_signature b) (place_standing_by (is_reached_from rs roots) rs i o) (standing_of all i label))
        (sym e)
        (subst (λ o. Alike (has_signature b) (place_standing_by (is_reached_from rs roots) rs i (Some m)) (place_standing all i o)) (sym (f ∙ e)) (at m e (f ∙ e)))

-- ---- the rules

-- each box stays alike
stay_alike : (rs ss : List Reading) (x : Reading) (roots : List ℕ) (i : ℕ) (own : List ℕ) (bs : List ReadBox)
    → IsMade rs ss x roots → i < length rs
    → AllByRecursion (SignsTaken (redactions_in x) rs i) bs
    → AllByRecursion (λ (b : ReadBox). is_kept (takes_out (redactions_in x) own) b ≡ false → is_ingredient b.boxed ≡ false) bs
    → AllByRecursion (Silent (redactions_in x) own) bs
    → AllByRecursion (StaysAlike (takes_out (redactions_in x) own) (standing_by (is_reached_from rs roots) rs i) (standing_of (ss ++ x ∷ []) i)) bs
unfolding Silent
stay_alike rs ss x roots i own [] h li s k q = tt
stay_alike rs ss x roots i own (b ∷ bs) h li s k q =
    (record { alike = λ label named. standing_alike rs ss x roots i b label h li named s.0; no_kind = k.0; silent = q.0 }, stay_alike rs ss x roots i own bs h li s.1 k.1 q.1)

-- the rules of an older manifest hold in the new store
pub older_holds : (hash : Alg → List ℕ → List ℕ) (rs ss : List Reading) (x : Reading) (roots : List ℕ) (i : ℕ)
    → IsMade rs ss x roots → i < length rs → HoldBy hash (is_reached_from rs roots) rs
    → AllByRecursion Holds (place_tests (unjudged_tests hash) (ss ++ x ∷ []) i)
older_holds hash rs ss x roots i h li holds = go (is_reached_from rs roots i) refl
  where
    all : List Reading
    all = ss ++ x ∷ []

    redacts : List (List ℕ)
    redacts = redactions_in x

    t : LessAt redacts rs ss i
    t = less_at redacts rs ss i h.over.quiet.are_less li

    new : Reading
    new = thinned (takes_out redacts (label_in t.old)) t.less.contents t.less.assertions t.old

    len : length ss ≡ length rs
    len = less_len redacts rs ss h.over.quiet.are_less

    here : slice_get all i ≡ Some new
    here = get_front ss x i (omega (arith, len, li)) ∙ t.is_new ∙ ap Some t.less.is

    inactive : is_active all i ≡ false
    inactive = ne_eqb (i + 1) (length all) (λ e. omega (arith, e, len_more ss x, len, li))

    reached : is_reached all i ≡ is_reached_from rs roots i
    reached = old_reached redacts rs ss x roots i h.over li

    more_red : is_reached_from rs roots i ≡ true → (l : List ℕ)
        → is_redacted all i l ≡ (takes_out redacts (label_in t.old) l || redacted_by (is_reached_from rs roots) rs i l)
    more_red e l =
        redacted_more rs ss x roots i t.old l h.over li t.is_old
        ∙ ap (λ b. (b && takes_out redacts (label_in t.old) l) || redacted_by (is_reached_from rs roots) rs i l) e

    loses : is_reached_from rs roots i ≡ true
        → Loses (takes_out redacts (label_in t.old)) (seen_by (is_reached_from rs roots) rs i t.old) (seen_at all i new)
    loses e = record {
      contents = t.less.contents;
      assertions = t.less.assertions;
      own = refl;
      active = inactive;
      redacted = λ l listed. more_red e l;
      boxes = stay_alike rs ss x roots i (label_in t.old) t.old.boxes h li (h.can.signed i t.old e t.is_old)
          (h.can.kinds i t.old t.is_old) (h.over.quiet.silent i t.old t.is_old);
    }

    -- the tests of the place, where it is reached
    seen : is_reached_from rs roots i ≡ true
        → AllByRecursion Holds (unjudged_tests hash (seen_by (is_reached_from rs roots) rs i t.old))
    seen e = all_each (unjudged_tests hash (seen_by (is_reached_from rs roots) rs i t.old)) (holds i t.old e t.is_old)

    now : is_reached_from rs roots i ≡ true → AllByRecursion Holds (unjudged_tests hash (seen_at all i new))
    now e =
        all_each (unjudged_tests hash (seen_at all i new))
        (without_boxes hash (takes_out redacts (label_in t.old)) (seen_by (is_reached_from rs roots) rs i t.old) (seen_at all i new) (loses e) (all_hold (unjudged_tests hash (seen_by (is_reached_from rs roots) rs i t.old)) (seen e)))

    go : (b : Bool) → is_reached_from rs roots i ≡ b → AllByRecursion Holds (place_tests (unjudged_tests hash) all i)
    go true e =
        subst (λ c. AllByRecursion Holds (cond c (tests_of (unjudged_tests hash) all i (slice_get all i)) []))
        (sym (reached ∙ e))
        (subst (λ o. AllByRecursion Holds (tests_of (unjudged_tests hash) all i o)) (sym here) (now e))
    go false e =
        subst (λ c. AllByRecursion Holds (cond c (tests_of (unjudged_tests hash) all i (slice_get all i)) []))
        (sym (reached ∙ e)) tt

-- ---- questions

-- the question of an older manifest stays
pub old_question : (rs ss : List Reading) (x : Reading) (roots : List ℕ) (i : ℕ) → IsMade rs ss x roots → i < length rs
    → question_at (ss ++ x ∷ []) i ≡ question_from rs roots i
old_question rs ss x roots i h lt =
    let redacts : List (List ℕ) = redactions_in x in
    let t : LessAt redacts rs ss i = less_at redacts rs ss i h.over.quiet.are_less lt in
    let here : slice_get (ss ++ x ∷ []) i ≡ Some (thinned (takes_out redacts (label_in t.old)) t.less.contents t.less.assertions t.old) =
    get_front ss x i (omega (arith, less_len redacts rs ss h.over.quiet.are_less, lt)) ∙ t.is_new
    ∙ ap Some t.less.is in
    ap (λ b. cond b (questions_of (slice_get (ss ++ x ∷ []) i)) []) (old_reached redacts rs ss x roots i h.over lt)
    ∙ ap (λ o. cond (is_reached_from rs roots i) (questions_of o) []) here
    ∙ sym (ap (λ o. cond (is_reached_from rs roots i) (questions_of o) []) t.is_old)
