-- The rules of each manifest hold in a joined chain as they did in its own.
use Rattle.std.proofs.Common.{◌≡◌, ◌⊎◌, inl, inr, ⊎_elim, ℕ, ◌+◌, ◌-◌, ◌<◌, ◌≤◌, Bool, true, false, not, ◌||◌, List, ◌++◌, length, Some, slice_get, Contains, refl, sym, ap, ◌∙◌, subst, arith, bytes_eq, length-append}
use Rattle.std.specs.Prelude.{filter_map, is_none, nat_eq, option_and_then}
use Rattle.std.proofs.lemmas.Bool.{cases_lt, both_ways, not_from_false}
use Rattle.std.proofs.lemmas.Bool.Decides.{Decides-eqb}
use Rattle.std.proofs.lemmas.Option.{same_Some, slice_get_within}
use Rattle.std.proofs.lemmas.Slice.Eq.{bytes_eq-Decides}
use Rattle.c2_spec.specs.declared.digest.Alg.{Alg}
use Rattle.c2_rules.specs.Chains.{IsChild, LabelsDiffer, Reaches, label_in, named_in, place_of, reaches}
use Rattle.c2_rules.specs.Chains.Reaches.{child}
use Rattle.c2_rules.specs.Readings.{ReadBox, Reading, entries_in}
use Rattle.c2_rules.specs.Rules.{box_with, lists_label, unjudged_tests}
use Rattle.c2_rules.specs.Seen.{child_standing}
use Rattle.c2_rules.specs.Tests.{AllHold}
use Rattle.c2_rules.proofs.ListLemmas.{from_and_then, from_any, from_filter_map, in_any, in_filter_map, or_left}
use Rattle.c2_rules.proofs.ReachLemmas.{place_is, placed, reaches_decides}
use Rattle.c2_chain_spec.specs.Joined.{ChainsJoin, IsReachedInJoin, NoneClashes, has_manifest, is_carried, joined, joined_roots, picked, place_in}
use Rattle.c2_chain_spec.specs.Rooted.{AllReadKinds, HoldBy, IsReachedFrom, IsRedactedBy, IsRooted, is_reached_from, redacted_by, seen_by, standing_by}
use Rattle.c2_chain_spec.specs.Rooted.IsReachedFrom.{is_root, is_below}
use Rattle.c2_chain_spec.proofs.Places.{contains_either, contains_left, contains_right, from_right, get_left, picked_at, picked_differ, picked_of, picked_order, to_right}
use Rattle.c2_chain_spec.proofs.Seeing.{IsBefore, SeenAgain, hold_again, lacks_redacted, named_before, passing_same}
use Rattle.c2_chain_spec.proofs.Standing.{ChildTo, Joins, ReachFrom, ReachTo, Stands, child_to, holds_a, holds_b, reach_back, reach_closed, reach_down, reach_from, reach_front, reach_to, reach_within, redacted_decides, shared_reached, standing_is}
use Rattle.c2_lemmas.proofs.Bools.{and_true, both_true, not_true_is_false, or_cases, or_second, same_test}
use Rattle.c2_lemmas.proofs.Each.{at_contains, contains_at, member_of}
use Rattle.c2_lemmas.proofs.Options.{some_at}
use Rattle.c2_rules.proofs.ReachLemmas.{one_more}

-- ---- what is redacted

-- what was redacted in front is
red_front : (hash : Alg → List ℕ → List ℕ) (as_ bs js : List Reading) (ra rb rj : ℕ → Bool) (p : ℕ) (l : List ℕ)
    → Joins hash as_ bs js ra rb → IsReachedInJoin as_ bs js ra rb rj → p < length as_ → IsRedactedBy ra as_ p l
    → IsRedactedBy rj js p l
red_front hash as_ bs js ra rb rj p l j k below h =
    let at : h.place < length as_ = reach_within as_ h.place p h.reaches_it in
    record {
      place = h.place;
      is_reached = k.front h.place at ∙ h.is_reached;
      reaches_it = reach_front hash as_ bs js ra rb h.place p j h.reaches_it;
      redactor = h.redactor;
      at_place = j.front h.place at ∙ h.at_place;
      target = h.target;
      at_target = j.front p below ∙ h.at_target;
      does = h.does;
    }

-- A label was redacted in the other chain, in the manifest that stands here.
record WasRedacted (bs js : List Reading) (rb : ℕ → Bool) (p : ℕ) (l : List ℕ) : Type 0 where
  place : ℕ
  stands : Stands bs js place p
  reached : rb place ≡ true
  redacted : IsRedactedBy rb bs place l

-- what a carried manifest redacts was redacted in the other chain
red_carried : (hash : Alg → List ℕ → List ℕ) (as_ bs js : List Reading) (ra rb rj : ℕ → Bool) (p : ℕ) (l : List ℕ)
    → Joins hash as_ bs js ra rb → (h : IsRedactedBy rj js p l) → length as_ ≤ h.place → WasRedacted bs js rb p l
red_carried hash as_ bs js ra rb rj p l j h le =
    let from = j.comes h.place h.redactor le h.at_place in
    let k : ReachFrom bs js from.0 p =
    reach_from hash as_ bs js ra rb from.0 h.place p h.redactor j from.2 from.1 h.at_place h.reaches_it in
    let same : h.target ≡ k.stands.own = same_Some h.target k.stands.own (sym h.at_target ∙ k.stands.there) in
    record {
      place = k.place;
      stands = k.stands;
      reached = reach_closed bs rb j.closed_b from.0 k.place from.2 k.reaches_it;
      redacted = record {
        place = from.0;
        is_reached = from.2;
        reaches_it = k.reaches_it;
        redactor = h.redactor;
        at_place = from.1;
        target = h.target;
        at_target = k.stands.here ∙ ap Some (sym same);
        does = h.does;
      };
    }

-- what is redacted in front was redacted there, or in the other chain
red_either : (hash : Alg → List ℕ → List ℕ) (as_ bs js : List Reading) (ra rb rj : ℕ → Bool) (p : ℕ) (l : List ℕ)
    → Joins hash as_ bs js ra rb → IsReachedInJoin as_ bs js ra rb rj → p < length as_ → IsRedactedBy rj js p l
    → IsRedactedBy ra as_ p l ⊎ WasRedacted bs js rb p l
red_either hash as_ bs js ra rb rj p l j k below h = ⊎_elim (λ at. inl (record {
  place = h.place;
  is_reached = sym (k.front h.place at) ∙ h.is_reached;
  reaches_it = reach_back hash as_ bs js ra rb h.place p j at h.reaches_it;
  redactor = h.redactor;
  at_place = sym (j.front h.place at) ∙ h.at_place;
  target = h.target;
  at_target = sym (j.front p below) ∙ h.at_target;
  does = h.does;
})) (λ le. inr (red_carried hash as_ bs js ra rb rj p l j h le)) (cases_lt h.place (length as_))

-- what was redacted in the other chain is
red_to : (hash : Alg → List ℕ → List ℕ) (as_ bs js : List Reading) (ra rb rj : ℕ → Bool) (k p : ℕ) (r : Reading)
    (l : List ℕ)
    → Joins hash as_ bs js ra rb → IsReachedInJoin as_ bs js ra rb rj → slice_get bs k ≡ Some r
    → slice_get js p ≡ Some r → IsRedactedBy rb bs k l → IsRedactedBy rj js p l
red_to hash as_ bs js ra rb rj k p r l j reached is at h =
    let n = j.stands h.place h.redactor h.is_reached h.at_place in
    let to : ReachTo bs js n.0 k =
    reach_to hash as_ bs js ra rb h.place n.0 k h.redactor j h.is_reached h.at_place n.1 h.reaches_it in
    let own : to.stands.own ≡ r = same_Some to.stands.own r (sym to.stands.here ∙ is) in
    let same : to.place ≡ p = j.differ to.place p to.stands.own r to.stands.there at (ap label_in own) in
    let target : h.target ≡ r = same_Some h.target r (sym h.at_target ∙ is) in
    record {
      place = n.0;
      is_reached = reached.carried h.place n.0 h.redactor h.is_reached h.at_place n.1;
      reaches_it = subst (λ q. Reaches js n.0 q) same to.reaches_it;
      redactor = h.redactor;
      at_place = n.1;
      target = h.target;
      at_target = at ∙ ap Some (sym target);
      does = h.does;
    }

-- a label that a manifest in front lists is redacted in the joined chain just when it is in the chain in front
pub same_a : (hash : Alg → List ℕ → List ℕ) (as_ bs js : List Reading) (ra rb rj : ℕ → Bool) (p : ℕ) (r : Reading)
    (l : List ℕ)
    → Joins hash as_ bs js ra rb → IsReachedInJoin as_ bs js ra rb rj → ra p ≡ true → slice_get as_ p ≡ Some r
    → lists_label r.manifest (entries_in r) l ≡ true
    → redacted_by rj js p l ≡ redacted_by ra as_ p l
same_a hash as_ bs js ra rb rj p r l j k e is listed =
    same_test (redacted_by rj js p l) (redacted_by ra as_ p l) to from
  where
    below : p < length as_
    below = slice_get_within as_ p r is

    at : slice_get js p ≡ Some r
    at = j.front p below ∙ is

    lacks : redacted_by ra as_ p l ≡ is_none (box_with r l)
    lacks = lacks_redacted hash (seen_by ra as_ p r) l (holds_a hash as_ bs js ra rb p r j e is) listed

    other : WasRedacted bs js rb p l → redacted_by ra as_ p l ≡ true
    other w =
        let own : w.stands.own ≡ r = same_Some w.stands.own r (sym w.stands.there ∙ at) in
        let here : slice_get bs w.place ≡ Some r = w.stands.here ∙ ap Some own in
        lacks
        ∙ sym
        (lacks_redacted hash (seen_by rb bs w.place r) l (holds_b hash as_ bs js ra rb w.place r j w.reached here) listed)
        ∙ (redacted_decides rb bs j.differ_b w.place l).1 w.redacted

    to : redacted_by rj js p l ≡ true → redacted_by ra as_ p l ≡ true
    to h =
        ⊎_elim (λ a. (redacted_decides ra as_ j.differ_a p l).1 a) other
        (red_either hash as_ bs js ra rb rj p l j k below ((redacted_decides rj js j.differ p l).0 h))

    from : redacted_by ra as_ p l ≡ true → redacted_by rj js p l ≡ true
    from h =
        (redacted_decides rj js j.differ p l).1
        (red_front hash as_ bs js ra rb rj p l j k below ((redacted_decides ra as_ j.differ_a p l).0 h))

-- a label that a manifest of the other chain lists is redacted in the joined chain just when it is in that chain
pub same_b : (hash : Alg → List ℕ → List ℕ) (as_ bs js : List Reading) (ra rb rj : ℕ → Bool) (i p : ℕ) (r : Reading)
    (l : List ℕ)
    → Joins hash as_ bs js ra rb → IsReachedInJoin as_ bs js ra rb rj → rb i ≡ true → slice_get bs i ≡ Some r
    → slice_get js p ≡ Some r → lists_label r.manifest (entries_in r) l ≡ true
    → redacted_by rj js p l ≡ redacted_by rb bs i l
same_b hash as_ bs js ra rb rj i p r l j k e is at listed = ⊎_elim in_front behind (cases_lt p (length as_))
  where
    in_front : p < length as_ → redacted_by rj js p l ≡ redacted_by rb bs i l
    in_front below =
        let here : slice_get as_ p ≡ Some r = sym (j.front p below) ∙ at in
        let reached : ra p ≡ true = shared_reached hash as_ bs js ra rb i p r j e is at below in
        same_a hash as_ bs js ra rb rj p r l j k reached here listed
        ∙ lacks_redacted hash (seen_by ra as_ p r) l (holds_a hash as_ bs js ra rb p r j reached here) listed
        ∙ sym (lacks_redacted hash (seen_by rb bs i r) l (holds_b hash as_ bs js ra rb i r j e is) listed)

    was : length as_ ≤ p → IsRedactedBy rj js p l → IsRedactedBy rb bs i l
    was le h =
        let down : p < h.place = reach_down js h.place p h.reaches_it in
        let w : WasRedacted bs js rb p l = red_carried hash as_ bs js ra rb rj p l j h (omega (arith, le, down)) in
        let own : w.stands.own ≡ r = same_Some w.stands.own r (sym w.stands.there ∙ at) in
        let same : w.place ≡ i = j.differ_b w.place i w.stands.own r w.stands.here is (ap label_in own) in
        subst (λ k. IsRedactedBy rb bs k l) same w.redacted

    behind : length as_ ≤ p → redacted_by rj js p l ≡ redacted_by rb bs i l
    behind le =
        same_test (redacted_by rj js p l) (redacted_by rb bs i l)
        (λ h. (redacted_decides rb bs j.differ_b i l).1 (was le ((redacted_decides rj js j.differ p l).0 h)))
        (λ h. (redacted_decides rj js j.differ p l).1 (red_to hash as_ bs js ra rb rj i p r l j k is at ((redacted_decides rb bs j.differ_b i l).0 h)))

-- ---- the rules

-- a manifest in front is seen again
again_a : (hash : Alg → List ℕ → List ℕ) (as_ bs js : List Reading) (ra rb rj : ℕ → Bool) (p : ℕ) (r : Reading)
    → Joins hash as_ bs js ra rb → IsReachedInJoin as_ bs js ra rb rj → ra p ≡ true → slice_get as_ p ≡ Some r
    → SeenAgain (seen_by ra as_ p r) (seen_by rj js p r)
again_a hash as_ bs js ra rb rj p r j k e is = record {
  own = refl;
  active = refl;
  redacted = λ l listed. same_a hash as_ bs js ra rb rj p r l j k e is listed;
  standing = standing;
}
  where
    below : p < length as_
    below = slice_get_within as_ p r is

    standing : (b : ReadBox) (label : List ℕ) → Contains r.boxes b → named_in b ≡ Some label
        → standing_by rj js p label ≡ standing_by ra as_ p label
    standing b label has names =
        let before : IsBefore as_ p label =
        named_before hash ra as_ p r b label (j.kinds_a p r is) (holds_a hash as_ bs js ra rb p r j e is) has names in
        let m : ℕ = before.place in
        let lt : m < p = before.earlier in
        let c = placed as_ label m before.is in
        let child_is : IsChild as_ p m =
        record { earlier = lt; user = r; is_user = is; box = b; has_box = has; child = c.0; is_child = c.1; names = names ∙ ap Some (sym c.2) } in
        let reached : ra m ≡ true = j.closed_a p m e child_is in
        let at : slice_get js m ≡ Some c.0 = j.front m (omega (arith, lt, below)) ∙ c.1 in
        let place : place_of js label ≡ Some m =
        subst (λ (x : List ℕ). place_of js x ≡ Some m) c.2 (place_is js m c.0 j.differ at) in
        standing_is rj js p m label c.0 place lt at
        ∙ ap (λ t. child_standing t c.0)
        (passing_same c.0 (redacted_by rj js m) (redacted_by ra as_ m) (λ l listed. same_a hash as_ bs js ra rb rj m c.0 l j k reached c.1 listed))
        ∙ sym (standing_is ra as_ p m label c.0 before.is lt c.1)

-- a manifest of the other chain is seen again
again_b : (hash : Alg → List ℕ → List ℕ) (as_ bs js : List Reading) (ra rb rj : ℕ → Bool) (i p : ℕ) (r : Reading)
    → Joins hash as_ bs js ra rb → IsReachedInJoin as_ bs js ra rb rj → rb i ≡ true → slice_get bs i ≡ Some r
    → slice_get js p ≡ Some r → SeenAgain (seen_by rb bs i r) (seen_by rj js p r)
again_b hash as_ bs js ra rb rj i p r j k e is at = record {
  own = refl;
  active = refl;
  redacted = λ l listed. same_b hash as_ bs js ra rb rj i p r l j k e is at listed;
  standing = standing;
}
  where
    standing : (b : ReadBox) (label : List ℕ) → Contains r.boxes b → named_in b ≡ Some label
        → standing_by rj js p label ≡ standing_by rb bs i label
    standing b label has names =
        let before : IsBefore bs i label =
        named_before hash rb bs i r b label (j.kinds_b i r is) (holds_b hash as_ bs js ra rb i r j e is) has names in
        let m : ℕ = before.place in
        let lt : m < i = before.earlier in
        let c = placed bs label m before.is in
        let child_is : IsChild bs i m =
        record { earlier = lt; user = r; is_user = is; box = b; has_box = has; child = c.0; is_child = c.1; names = names ∙ ap Some (sym c.2) } in
        let reached : rb m ≡ true = j.closed_b i m e child_is in
        let to : ChildTo bs js p m = child_to hash as_ bs js ra rb i p m r j e is at child_is in
        let own : to.stands.own ≡ c.0 = same_Some to.stands.own c.0 (sym to.stands.here ∙ c.1) in
        let there : slice_get js to.place ≡ Some c.0 = to.stands.there ∙ ap Some own in
        let earlier : to.place < p = to.is_child.earlier in
        let place : place_of js label ≡ Some to.place =
        subst (λ (x : List ℕ). place_of js x ≡ Some to.place) c.2 (place_is js to.place c.0 j.differ there) in
        standing_is rj js p to.place label c.0 place earlier there
        ∙ ap (λ t. child_standing t c.0)
        (passing_same c.0 (redacted_by rj js to.place) (redacted_by rb bs m) (λ l listed. same_b hash as_ bs js ra rb rj m to.place c.0 l j k reached c.1 there listed))
        ∙ sym (standing_is rb bs i m label c.0 before.is lt c.1)

-- all rules but the verdicts' hold of what is reached in the joined chain
pub joined_hold : (hash : Alg → List ℕ → List ℕ) (as_ bs js : List Reading) (ra rb rj : ℕ → Bool)
    → Joins hash as_ bs js ra rb → IsReachedInJoin as_ bs js ra rb rj → HoldBy hash rj js
joined_hold hash as_ bs js ra rb rj j k p r e at = ⊎_elim in_front behind (cases_lt p (length as_))
  where
    in_front : p < length as_ → AllHold (unjudged_tests hash (seen_by rj js p r))
    in_front below =
        let reached : ra p ≡ true = sym (k.front p below) ∙ e in
        let is : slice_get as_ p ≡ Some r = sym (j.front p below) ∙ at in
        hold_again hash (seen_by ra as_ p r) (seen_by rj js p r)
        (again_a hash as_ bs js ra rb rj p r j k reached is) (j.hold_a p r reached is)

    behind : length as_ ≤ p → AllHold (unjudged_tests hash (seen_by rj js p r))
    behind le =
        let from = j.comes p r le at in
        hold_again hash (seen_by rb bs from.0 r) (seen_by rj js p r)
        (again_b hash as_ bs js ra rb rj from.0 p r j k from.2 from.1 at) (j.hold_b from.0 r from.2 from.1)

-- ---- roots

-- the test says so
pub from_roots : (rs : List Reading) (roots : List ℕ) (m : ℕ) → LabelsDiffer rs → is_reached_from rs roots m ≡ true
    → IsReachedFrom rs roots m
from_roots rs roots m differ e =
    let found = from_any (λ c. nat_eq c m || reaches rs c m) roots e in
    ⊎_elim (λ same. is_root (subst (Contains roots) ((Decides-eqb found.0 m).0 same) found.1))
    (λ more. is_below found.0 found.1 ((reaches_decides rs differ found.0 m).0 more))
    (or_cases (nat_eq found.0 m) (reaches rs found.0 m) found.2)

-- the test says that a manifest is reached from the roots, where it is
pub to_roots : (rs : List Reading) (roots : List ℕ) (m : ℕ) → LabelsDiffer rs → IsReachedFrom rs roots m
    → is_reached_from rs roots m ≡ true
to_roots rs roots m differ (is_root c) =
    in_any (λ c. nat_eq c m || reaches rs c m) roots m c
    (or_left (nat_eq m m) (reaches rs m m) ((Decides-eqb m m).1 refl))
to_roots rs roots m differ (is_below c h r) =
    in_any (λ c. nat_eq c m || reaches rs c m) roots c h
    (or_second (nat_eq c m) (reaches rs c m) ((reaches_decides rs differ c m).1 r))

-- what is reached from roots is closed under children
pub roots_closed : (rs : List Reading) (roots : List ℕ) → LabelsDiffer rs → (n m : ℕ)
    → is_reached_from rs roots n ≡ true → IsChild rs n m → is_reached_from rs roots m ≡ true
roots_closed rs roots differ n m e h = to_roots rs roots m differ (go (from_roots rs roots n differ e))
  where
    go : IsReachedFrom rs roots n → IsReachedFrom rs roots m
    go (is_root c) = is_below n c (child n m h)
    go (is_below c k r) = is_below c k (one_more rs c n m r h)

-- ---- the joined list

-- what is not in front has no label that is there
no_label : (rs : List Reading) (p : ℕ) (r : Reading) (label : List ℕ) → slice_get rs p ≡ Some r
    → has_manifest rs label ≡ false → label_in r ≡ label → ⊥
no_label rs p r label is lacks same =
    both_ways (has_manifest rs label) lacks
    (in_any (λ (x : Reading). bytes_eq (label_in x) label) rs r (contains_at rs p r is) ((bytes_eq-Decides (label_in r) label).1 same))

-- the manifest of a label that is there
with_label : (rs : List Reading) (label : List ℕ) → has_manifest rs label ≡ true
    → (p : ℕ) × (r : Reading) × (slice_get rs p ≡ Some r) × (label_in r ≡ label)
with_label rs label e =
    let found = from_any (λ (x : Reading). bytes_eq (label_in x) label) rs e in
    let at =
    at_contains rs found.0 found.1 in (at.0, found.0, at.1, (bytes_eq-Decides (label_in found.0) label).0 found.2)

-- labels in a row differ
append_differ : (xs ys : List Reading) → LabelsDiffer xs → LabelsDiffer ys
    → ((p q : ℕ) (r s : Reading) → slice_get xs p ≡ Some r → slice_get ys q ≡ Some s → label_in r ≡ label_in s → ⊥)
    → LabelsDiffer (xs ++ ys)
append_differ xs ys dx dy apart i j r s e f g =
    ⊎_elim
    (λ li. ⊎_elim (λ lj. dx i j r s (left i r li e) (left j s lj f) g) (λ gj. absurd (apart i (j - length xs) r s (left i r li e) (from_right xs ys j s gj f) g)) (cases_lt j (length xs)))
    (λ gi. ⊎_elim (λ lj. absurd (apart j (i - length xs) s r (left j s lj f) (from_right xs ys i r gi e) (sym g)))
    (λ gj. let h : i - length xs ≡ j - length xs = dy (i - length xs) (j - length xs) r s (from_right xs ys i r gi e) (from_right xs ys j s gj f) g in omega (arith, gi, gj, h))
    (cases_lt j (length xs))) (cases_lt i (length xs))
  where
    left : (i : ℕ) (r : Reading) → i < length xs → slice_get (xs ++ ys) i ≡ Some r → slice_get xs i ≡ Some r
    left i r lt e = sym (get_left xs ys i lt) ∙ e

-- two chains that don't clash stand in the joined one
pub joins : (hash : Alg → List ℕ → List ℕ) (as_ bs : List Reading) (ra rb : List ℕ) → IsRooted hash as_ ra
    → IsRooted hash bs rb → NoneClashes as_ (is_reached_from as_ ra) bs (is_reached_from bs rb)
    → Joins hash as_ bs (joined as_ (is_reached_from bs rb) bs) (is_reached_from as_ ra) (is_reached_from bs rb)
joins hash as_ bs ra rb a b none = record {
  differ_a = a.differ;
  differ_b = b.differ;
  differ = append_differ as_ cs a.differ (picked_differ picks 0 bs b.differ) apart;
  kinds_a = a.kinds;
  kinds_b = b.kinds;
  closed_a = roots_closed as_ ra a.differ;
  closed_b = roots_closed bs rb b.differ;
  front = λ p lt. get_left as_ cs p lt;
  stands = λ i r e is. by_label i r e is (has_manifest as_ (label_in r)) refl;
  comes = λ p r le at.
      let found =
      picked_of picks (p - length as_) bs r (from_right as_ cs p r le at) in
      (found.0, found.1, (both_true (reached found.0) (not (has_manifest as_ (label_in r))) found.2).0);
  order = λ i k p q r s is ks at qs lp lq lt.
      let h : q - length as_ < p - length as_ =
      picked_order picks 0 k i (q - length as_) (p - length as_) bs s r b.differ ks is lt
      (from_right as_ cs q s lq qs) (from_right as_ cs p r lp at) in omega (arith, lp, lq, h);
  hold_a = a.holds;
  hold_b = b.holds;
}
  where
    reached : ℕ → Bool
    reached = is_reached_from bs rb

    picks : ℕ → Reading → Bool
    picks = is_carried as_ reached

    cs : List Reading
    cs = picked picks 0 bs

    apart : (p q : ℕ) (r s : Reading) → slice_get as_ p ≡ Some r → slice_get cs q ≡ Some s → label_in r ≡ label_in s → ⊥
    apart p q r s is at same =
        let found = picked_of picks q bs s at in
        no_label as_ p r (label_in s) is
        (not_true_is_false (has_manifest as_ (label_in s)) (both_true (reached found.0) (not (has_manifest as_ (label_in s))) found.2).1)
        same

    by_label : (i : ℕ) (r : Reading) → reached i ≡ true → slice_get bs i ≡ Some r → (x : Bool)
        → has_manifest as_ (label_in r) ≡ x
        → (p : ℕ) × (slice_get (as_ ++ cs) p ≡ Some r) × (p < length as_ → is_reached_from as_ ra p ≡ true)
    by_label i r e is true has =
        let found = with_label as_ (label_in r) has in
        let same = none i found.0 r found.1 e is found.2 (sym found.3) in
        (found.0, get_left as_ cs found.0 (slice_get_within as_ found.0 found.1 found.2) ∙ found.2 ∙ ap Some same.1, λ lt. same.0)
    by_label i r e is false lacks =
        let found =
        picked_at picks i bs r is
        (and_true (reached i) (not (has_manifest as_ (label_in r))) e (not_from_false (has_manifest as_ (label_in r)) lacks)) in
        (length as_ + found.0, to_right as_ cs found.0 r found.1, λ lt. absurd (omega (arith, lt)))

-- ---- what is reached in it

-- a root of the other chain stands at its place in the joined one
root_of : (js bs : List Reading) (rb : List ℕ) (c : ℕ) → Contains (filter_map (place_in js bs) rb) c
    → (i : ℕ) × (r : Reading) × Contains rb i × (slice_get bs i ≡ Some r) × (place_of js (label_in r) ≡ Some c)
root_of js bs rb c h =
    let found = from_filter_map (place_in js bs) rb c h in
    let at =
    from_and_then (λ (r : Reading). place_of js (label_in r)) (slice_get bs found.0) c found.2 in
    (found.0, at.0, found.1, at.1, at.2)

-- what is reached in the joined chain from the roots of both
pub joined_reached : (hash : Alg → List ℕ → List ℕ) (as_ bs js : List Reading) (ra rb : List ℕ) → IsRooted hash as_ ra
    → IsRooted hash bs rb → Joins hash as_ bs js (is_reached_from as_ ra) (is_reached_from bs rb)
    → IsReachedInJoin as_ bs js (is_reached_from as_ ra) (is_reached_from bs rb) (is_reached_from js (joined_roots ra bs rb js))
joined_reached hash as_ bs js ra rb a b j = record {
  front =
      λ p lt. same_test (is_reached_from js roots p) (is_reached_from as_ ra p) (λ h. was p lt (from_roots js roots p j.differ h)) (λ h. to_roots js roots p j.differ (is p (from_roots as_ ra p a.differ h)));
  carried = λ i p r e at there. to_roots js roots p j.differ (carries i p r at there (from_roots bs rb i b.differ e));
}
  where
    others : List ℕ
    others = filter_map (place_in js bs) rb

    roots : List ℕ
    roots = ra ++ others

    -- where a root of the other chain stands
    stood : (c : ℕ) → Contains others c → (i : ℕ) × (is_reached_from bs rb i ≡ true) × Stands bs js i c
    stood c h =
        let root = root_of js bs rb c h in
        let e : is_reached_from bs rb root.0 ≡ true = to_roots bs rb root.0 b.differ (is_root root.2) in
        let s = j.stands root.0 root.1 e root.3 in
        let place : place_of js (label_in root.1) ≡ Some s.0 = place_is js s.0 root.1 j.differ s.1 in
        let same : s.0 ≡ c = same_Some s.0 c (sym place ∙ root.4) in
        (root.0, e, record { own = root.1; here = root.3; there = subst (λ k. slice_get js k ≡ Some root.1) same s.1 })

    was : (p : ℕ) → p < length as_ → IsReachedFrom js roots p → is_reached_from as_ ra p ≡ true
    was p lt (is_root c) = ⊎_elim (λ own. to_roots as_ ra p a.differ (is_root own))
        (λ other. let s = stood p other in shared_reached hash as_ bs js (is_reached_from as_ ra) (is_reached_from bs rb) s.0 p s.2.own j s.1 s.2.here s.2.there lt)
        (contains_either ra others p c)
    was p lt (is_below c k r) = ⊎_elim
        (λ own. to_roots as_ ra p a.differ (is_below c own (reach_back hash as_ bs js (is_reached_from as_ ra) (is_reached_from bs rb) c p j (member_of (λ n. n < length as_) ra c a.within own) r)))
        (λ other.
        let s = stood c other in
        let f : ReachFrom bs js s.0 p =
        reach_from hash as_ bs js (is_reached_from as_ ra)
        (is_reached_from bs rb) s.0 c p s.2.own j s.1 s.2.here s.2.there r in
        shared_reached hash as_ bs js (is_reached_from as_ ra) (is_reached_from bs rb) f.place p f.stands.own j
        (reach_closed bs (is_reached_from bs rb) j.closed_b s.0 f.place s.1 f.reaches_it) f.stands.here f.stands.there lt) (contains_either ra others c k)

    is : (p : ℕ) → IsReachedFrom as_ ra p → IsReachedFrom js roots p
    is p (is_root c) = is_root (contains_left ra others p c)
    is p (is_below c k r) =
        is_below c (contains_left ra others c k)
        (reach_front hash as_ bs js (is_reached_from as_ ra) (is_reached_from bs rb) c p j r)

    root_in : (i p : ℕ) (r : Reading) → slice_get bs i ≡ Some r → slice_get js p ≡ Some r → Contains rb i
        → Contains roots p
    root_in i p r at there c =
        contains_right ra others p
        (in_filter_map (place_in js bs) rb i p c (ap (option_and_then (λ (x : Reading). place_of js (label_in x))) at ∙ place_is js p r j.differ there))

    carries : (i p : ℕ) (r : Reading) → slice_get bs i ≡ Some r → slice_get js p ≡ Some r → IsReachedFrom bs rb i
        → IsReachedFrom js roots p
    carries i p r at there (is_root c) = is_root (root_in i p r at there c)
    carries i p r at there (is_below c k reach) =
        let lt : c < length bs = reach_within bs c i reach in
        let top = some_at bs c lt in
        let e : is_reached_from bs rb c ≡ true = to_roots bs rb c b.differ (is_root k) in
        let s = j.stands c top.0 e top.1 in
        let to : ReachTo bs js s.0 i =
        reach_to hash as_ bs js (is_reached_from as_ ra) (is_reached_from bs rb) c s.0 i top.0 j e top.1 s.1 reach in
        let own : to.stands.own ≡ r = same_Some to.stands.own r (sym to.stands.here ∙ at) in
        let same : to.place ≡ p = j.differ to.place p to.stands.own r to.stands.there there (ap label_in own) in
        is_below s.0 (root_in c s.0 top.0 top.1 s.1 k) (subst (λ q. Reaches js s.0 q) same to.reaches_it)

-- ---- the law

-- two chains that don't clash join to one
pub chains_join : ChainsJoin
chains_join hash as_ bs ra rb a b none =
    let js : List Reading = joined as_ (is_reached_from bs rb) bs in
    let j = joins hash as_ bs ra rb a b none in
    let k = joined_reached hash as_ bs js ra rb a b j in
    record {
      rooted = record {
        differ = j.differ;
        kinds = kinds js j;
        within = Rattle.c2_chain_spec.proofs.Places.all_members (λ c. c < length js) (joined_roots ra bs rb js) in_join;
        holds = joined_hold hash as_ bs js (is_reached_from as_ ra) (is_reached_from bs rb)
            (is_reached_from js (joined_roots ra bs rb js)) j k;
      };
      reached = record { front = k.front; carried = k.carried };
    }
  where
    kinds : (js : List Reading) → Joins hash as_ bs js (is_reached_from as_ ra) (is_reached_from bs rb)
        → AllReadKinds js
    kinds js j p r at =
        ⊎_elim (λ lt. a.kinds p r (sym (j.front p lt) ∙ at))
        (λ le. let from = j.comes p r le at in b.kinds from.0 r from.1) (cases_lt p (length as_))

    front_len : (xs ys : List Reading) (c : ℕ) → c < length xs → c < length (xs ++ ys)
    front_len xs ys c lt =
        let e : length (xs ++ ys) ≡ length xs + length ys = length-append xs ys in omega (arith, lt, e)

    in_join : (c : ℕ) → Contains (joined_roots ra bs rb (joined as_ (is_reached_from bs rb) bs)) c
        → c < length (joined as_ (is_reached_from bs rb) bs)
    in_join c h =
        ⊎_elim
        (λ own. front_len as_ (picked (is_carried as_ (is_reached_from bs rb)) 0 bs) c (member_of (λ n. n < length as_) ra c a.within own))
        (λ other.
        let root = root_of (joined as_ (is_reached_from bs rb) bs) bs rb c other in
        let at = placed (joined as_ (is_reached_from bs rb) bs) (label_in root.1) c root.4 in
        slice_get_within (joined as_ (is_reached_from bs rb) bs) c at.0 at.1) (contains_either ra
        (filter_map (place_in (joined as_ (is_reached_from bs rb) bs) bs) rb) c h)
