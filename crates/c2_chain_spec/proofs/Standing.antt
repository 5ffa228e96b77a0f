-- What is reached, redacted and touched where the manifests of two chains stand in one: as it was in each.
use Rattle.std.proofs.Common.{◌≡◌, ⊎_elim, ◌↔◌, ℕ, ◌<◌, ◌≤◌, Bool, true, ◌&&◌, cond, List, length, Option, Some, None, slice_get, Contains, refl, sym, ap, ◌∙◌, subst, arith}
use Rattle.std.specs.List.{AllByRecursion}
use Rattle.std.proofs.lemmas.Bool.{cases_lt, lt-ltb}
use Rattle.std.proofs.lemmas.Option.{same_Some, slice_get_within}
use Rattle.c2_spec.specs.declared.digest.Alg.{Alg}
use Rattle.c2_rules.specs.Chains.{IsChild, LabelsDiffer, Reaches, label_in, place_of, reaches, redacts}
use Rattle.c2_rules.specs.Chains.Reaches.{child, through}
use Rattle.c2_rules.specs.Readings.{Reading}
use Rattle.c2_rules.specs.Rules.{unjudged_tests}
use Rattle.c2_rules.specs.Seen.{child_standing, earlier_standing, later}
use Rattle.c2_rules.proofs.ListLemmas.{from_below, in_below}
use Rattle.c2_rules.proofs.ReachLemmas.{placed, reaches_decides}
use Rattle.c2_rules.proofs.Conditions.{Holds, all_each}
use Rattle.c2_chain_spec.specs.Rooted.{AllReadKinds, HoldBy, IsRedactedBy, lists_passing, place_standing_by, redacted_by, seen_by, standing_by, touched_by}
use Rattle.c2_chain_spec.proofs.Seeing.{IsBefore, named_before}
use Rattle.c2_lemmas.proofs.Bools.{and_true, both_true}

-- ---- one chain

-- what is reached stands earlier
pub reach_down : (rs : List Reading) (n m : ℕ) → Reaches rs n m → m < n
reach_down rs n m (child _ _ h) = h.earlier
reach_down rs n m (through _ c _ h rest) = let a : m < c = reach_down rs c m rest in omega (arith, a, h.earlier)

-- what reaches another stands in the chain
pub reach_within : (rs : List Reading) (n m : ℕ) → Reaches rs n m → n < length rs
reach_within rs n m (child _ _ h) = slice_get_within rs n h.user h.is_user
reach_within rs n m (through _ c _ h rest) = slice_get_within rs n h.user h.is_user

-- a manifest that redacts is there, and so is the other
redacts_some : (a b : Option Reading) (label : List ℕ) → redacts a b label ≡ true
    → (r : Reading) × (t : Reading) × (a ≡ Some r) × (b ≡ Some t)
redacts_some None b label e = absurd (cc (e))
redacts_some (Some r) None label e = absurd (cc (e))
redacts_some (Some r) (Some t) label e = (r, t, refl, refl)

-- the test says what is redacted
pub redacted_decides : (reached : ℕ → Bool) (rs : List Reading) → LabelsDiffer rs → (m : ℕ) (label : List ℕ)
    → (redacted_by reached rs m label ≡ true) ↔ IsRedactedBy reached rs m label
redacted_decides reached rs differ m label = (sound, complete)
  where
    by_place : ℕ → Bool
    by_place n = reached n && reaches rs n m && redacts (slice_get rs n) (slice_get rs m) label

    at_place : (n : ℕ) → by_place n ≡ true → IsRedactedBy reached rs m label
    at_place n e =
        let both = both_true (reached n && reaches rs n m) (redacts (slice_get rs n) (slice_get rs m) label) e in
        let first = both_true (reached n) (reaches rs n m) both.0 in
        let there = redacts_some (slice_get rs n) (slice_get rs m) label both.1 in
        record {
          place = n;
          is_reached = first.0;
          reaches_it = (reaches_decides rs differ n m).0 first.1;
          redactor = there.0;
          at_place = there.2;
          target = there.1;
          at_target = there.3;
          does = sym
              (ap (λ o. redacts o (slice_get rs m) label) there.2 ∙ ap (λ o. redacts (Some there.0) o label) there.3)
              ∙ both.1;
        }

    sound : redacted_by reached rs m label ≡ true → IsRedactedBy reached rs m label
    sound e = let found = from_below by_place (length rs) e in at_place found.0 found.2

    complete : IsRedactedBy reached rs m label → redacted_by reached rs m label ≡ true
    complete h = in_below by_place (length rs) h.place (reach_within rs h.place m h.reaches_it)
        (and_true (reached h.place && reaches rs h.place m) (redacts (slice_get rs h.place) (slice_get rs m) label)
        (and_true (reached h.place) (reaches rs h.place m) h.is_reached ((reaches_decides rs differ h.place m).1 h.reaches_it))
        (ap (λ o. redacts o (slice_get rs m) label) h.at_place ∙ ap (λ o. redacts (Some h.redactor) o label) h.at_target ∙ h.does))

-- how a child stands
pub standing_is : (reached : ℕ → Bool) (rs : List Reading) (i m : ℕ) (label : List ℕ) (c : Reading)
    → place_of rs label ≡ Some m → m < i → slice_get rs m ≡ Some c
    → standing_by reached rs i label ≡ child_standing (lists_passing (redacted_by reached rs m) (Some c)) c
standing_is reached rs i m label c place lt is =
    ap (place_standing_by reached rs i) place
    ∙ ap (λ b. cond b (earlier_standing (touched_by reached rs m) (slice_get rs m)) later) (lt-ltb m i lt)
    ∙ ap (λ o. earlier_standing (lists_passing (redacted_by reached rs m) o) o) is

-- ---- two chains in one

-- A manifest of a chain stands in another.
pub record Stands (bs js : List Reading) (i p : ℕ) : Type 0 where
  pub own : Reading
  pub here : slice_get bs i ≡ Some own
  pub there : slice_get js p ≡ Some own

-- The manifests of a chain `as_` stand in another, in front; behind them stand those reached in `bs` that don't stand there already,
-- in their order. All rules but the verdicts' hold of what is reached in each.
pub record Joins (hash : Alg → List ℕ → List ℕ) (as_ bs js : List Reading) (ra rb : ℕ → Bool) : Type 0 where
  pub differ_a : LabelsDiffer as_
  pub differ_b : LabelsDiffer bs
  pub differ : LabelsDiffer js
  pub kinds_a : AllReadKinds as_
  pub kinds_b : AllReadKinds bs
  pub closed_a : (n m : ℕ) → ra n ≡ true → IsChild as_ n m → ra m ≡ true
  pub closed_b : (n m : ℕ) → rb n ≡ true → IsChild bs n m → rb m ≡ true
  pub front : (p : ℕ) → p < length as_ → slice_get js p ≡ slice_get as_ p
  pub stands : (i : ℕ) (r : Reading) → rb i ≡ true → slice_get bs i ≡ Some r
      → (p : ℕ) × (slice_get js p ≡ Some r) × (p < length as_ → ra p ≡ true)
  pub comes : (p : ℕ) (r : Reading) → length as_ ≤ p → slice_get js p ≡ Some r
      → (i : ℕ) × (slice_get bs i ≡ Some r) × (rb i ≡ true)
  pub order : (i k p q : ℕ) (r s : Reading) → slice_get bs i ≡ Some r → slice_get bs k ≡ Some s
      → slice_get js p ≡ Some r → slice_get js q ≡ Some s
      → length as_ ≤ p → length as_ ≤ q → k < i → q < p
  pub hold_a : HoldBy hash ra as_
  pub hold_b : HoldBy hash rb bs

-- what is reached from a reached one is reached
pub reach_closed : (rs : List Reading) (reached : ℕ → Bool)
    → ((n m : ℕ) → reached n ≡ true → IsChild rs n m → reached m ≡ true) → (n m : ℕ) → reached n ≡ true → Reaches rs n m
    → reached m ≡ true
reach_closed rs reached closed n m e (child _ _ h) = closed n m e h
reach_closed rs reached closed n m e (through _ c _ h rest) = reach_closed rs reached closed c m (closed n c e h) rest

-- ---- the front

-- a child in front is a child in the joined chain
child_front : (hash : Alg → List ℕ → List ℕ) (as_ bs js : List Reading) (ra rb : ℕ → Bool) (n m : ℕ)
    → Joins hash as_ bs js ra rb → IsChild as_ n m → IsChild js n m
child_front hash as_ bs js ra rb n m j h =
    let below : n < length as_ = slice_get_within as_ n h.user h.is_user in
    let earlier : m < n = h.earlier in
    record
    { earlier = h.earlier; user = h.user; is_user = j.front n below ∙ h.is_user; box = h.box; has_box = h.has_box; child = h.child; is_child = j.front m (omega (arith, below, earlier)) ∙ h.is_child; names = h.names }

-- a child in the joined chain of a manifest in front is its child in front
child_back : (hash : Alg → List ℕ → List ℕ) (as_ bs js : List Reading) (ra rb : ℕ → Bool) (n m : ℕ)
    → Joins hash as_ bs js ra rb → n < length as_ → IsChild js n m → IsChild as_ n m
child_back hash as_ bs js ra rb n m j below h =
    let earlier : m < n = h.earlier in
    record
    { earlier = h.earlier; user = h.user; is_user = sym (j.front n below) ∙ h.is_user; box = h.box; has_box = h.has_box; child = h.child; is_child = sym (j.front m (omega (arith, below, earlier))) ∙ h.is_child; names = h.names }

-- what is reached in front
pub reach_front : (hash : Alg → List ℕ → List ℕ) (as_ bs js : List Reading) (ra rb : ℕ → Bool) (n m : ℕ)
    → Joins hash as_ bs js ra rb → Reaches as_ n m → Reaches js n m
reach_front hash as_ bs js ra rb n m j (child _ _ h) = child n m (child_front hash as_ bs js ra rb n m j h)
reach_front hash as_ bs js ra rb n m j (through _ c _ h rest) =
    through n c m (child_front hash as_ bs js ra rb n c j h) (reach_front hash as_ bs js ra rb c m j rest)

-- what is reached in the joined chain from a manifest in front is reached in front
pub reach_back : (hash : Alg → List ℕ → List ℕ) (as_ bs js : List Reading) (ra rb : ℕ → Bool) (n m : ℕ)
    → Joins hash as_ bs js ra rb → n < length as_ → Reaches js n m → Reaches as_ n m
reach_back hash as_ bs js ra rb n m j below (child _ _ h) = child n m (child_back hash as_ bs js ra rb n m j below h)
reach_back hash as_ bs js ra rb n m j below (through _ c _ h rest) =
    let earlier : c < n = h.earlier in
    through n c m (child_back hash as_ bs js ra rb n c j below h)
    (reach_back hash as_ bs js ra rb c m j (omega (arith, below, earlier)) rest)

-- ---- what is carried or shared

-- a manifest of the other chain that stands in front is reached there
pub shared_reached : (hash : Alg → List ℕ → List ℕ) (as_ bs js : List Reading) (ra rb : ℕ → Bool) (i p : ℕ)
    (r : Reading)
    → Joins hash as_ bs js ra rb → rb i ≡ true → slice_get bs i ≡ Some r → slice_get js p ≡ Some r → p < length as_
    → ra p ≡ true
shared_reached hash as_ bs js ra rb i p r j e is at below =
    let found = j.stands i r e is in
    let same : found.0 ≡ p = j.differ found.0 p r r found.1 at refl in
    subst (λ k. ra k ≡ true) same (found.2 (subst (λ k. k < length as_) (sym same) below))

-- the rules of a manifest of the other chain, as it is seen there
pub holds_b : (hash : Alg → List ℕ → List ℕ) (as_ bs js : List Reading) (ra rb : ℕ → Bool) (i : ℕ) (r : Reading)
    → Joins hash as_ bs js ra rb → rb i ≡ true → slice_get bs i ≡ Some r
    → AllByRecursion Holds (unjudged_tests hash (seen_by rb bs i r))
holds_b hash as_ bs js ra rb i r j e is = all_each (unjudged_tests hash (seen_by rb bs i r)) (j.hold_b i r e is)

-- the rules of a manifest of the chain in front, as it is seen there
pub holds_a : (hash : Alg → List ℕ → List ℕ) (as_ bs js : List Reading) (ra rb : ℕ → Bool) (p : ℕ) (r : Reading)
    → Joins hash as_ bs js ra rb → ra p ≡ true → slice_get as_ p ≡ Some r
    → AllByRecursion Holds (unjudged_tests hash (seen_by ra as_ p r))
holds_a hash as_ bs js ra rb p r j e is = all_each (unjudged_tests hash (seen_by ra as_ p r)) (j.hold_a p r e is)

-- a child in the joined chain, and where it stood
pub record ChildTo (bs js : List Reading) (p k : ℕ) : Type 0 where
  pub place : ℕ
  pub is_child : IsChild js p place
  pub stands : Stands bs js k place

-- a child of a manifest of the other chain is one in the joined chain
pub child_to : (hash : Alg → List ℕ → List ℕ) (as_ bs js : List Reading) (ra rb : ℕ → Bool) (i p k : ℕ) (r : Reading)
    → Joins hash as_ bs js ra rb → rb i ≡ true → slice_get bs i ≡ Some r → slice_get js p ≡ Some r → IsChild bs i k
    → ChildTo bs js p k
child_to hash as_ bs js ra rb i p k r j e is at h = record {
  place = q;
  is_child =
      record
      { earlier = earlier; user = r; is_user = at; box = h.box; has_box = subst (λ (x : Reading). Contains x.boxes h.box) user h.has_box; child = h.child; is_child = found.1; names = h.names };
  stands = record { own = h.child; here = h.is_child; there = found.1 };
}
  where
    user : h.user ≡ r
    user = same_Some h.user r (sym h.is_user ∙ is)

    found : (q : ℕ) × (slice_get js q ≡ Some h.child) × (q < length as_ → ra q ≡ true)
    found = j.stands k h.child (j.closed_b i k e h) h.is_child

    q : ℕ
    q = found.0

    -- where the user stands in front, its child stands there, and earlier
    in_front : p < length as_ → q < p
    in_front below =
        let here : slice_get as_ p ≡ Some r = sym (j.front p below) ∙ at in
        let reached : ra p ≡ true = shared_reached hash as_ bs js ra rb i p r j e is at below in
        let b : IsBefore as_ p (label_in h.child) =
        named_before hash ra as_ p r h.box (label_in h.child) (j.kinds_a p r here)
        (holds_a hash as_ bs js ra rb p r j reached here)
        (subst (λ (x : Reading). Contains x.boxes h.box) user h.has_box) h.names in
        let lt : b.place < p = b.earlier in
        let c = placed as_ (label_in h.child) b.place b.is in
        let same : b.place ≡ q =
        j.differ b.place q c.0 h.child (j.front b.place (omega (arith, lt, below)) ∙ c.1) found.1 c.2 in
        omega (arith, lt, same)

    behind : length as_ ≤ p → q < p
    behind le =
        ⊎_elim (λ lt. omega (arith, lt, le))
        (λ ge. let before : k < i = h.earlier in j.order i k p q r h.child is h.is_child at found.1 le ge before)
        (cases_lt q (length as_))

    earlier : q < p
    earlier = ⊎_elim in_front behind (cases_lt p (length as_))

-- a child in the other chain, and where it stands
pub record ChildFrom (bs js : List Reading) (i q : ℕ) : Type 0 where
  pub place : ℕ
  pub is_child : IsChild bs i place
  pub stands : Stands bs js place q

-- a child in the joined chain is one in the other chain
pub child_from : (hash : Alg → List ℕ → List ℕ) (as_ bs js : List Reading) (ra rb : ℕ → Bool) (i p q : ℕ) (r : Reading)
    → Joins hash as_ bs js ra rb → rb i ≡ true → slice_get bs i ≡ Some r → slice_get js p ≡ Some r → IsChild js p q
    → ChildFrom bs js i q
child_from hash as_ bs js ra rb i p q r j e is at h =
    let user : h.user ≡ r = same_Some h.user r (sym h.is_user ∙ at) in
    let has : Contains r.boxes h.box = subst (λ (x : Reading). Contains x.boxes h.box) user h.has_box in
    let b : IsBefore bs i (label_in h.child) =
    named_before hash rb bs i r h.box (label_in h.child) (j.kinds_b i r is)
    (holds_b hash as_ bs js ra rb i r j e is) has h.names in
    let c = placed bs (label_in h.child) b.place b.is in
    let child_is : IsChild bs i b.place =
    record { earlier = b.earlier; user = r; is_user = is; box = h.box; has_box = has; child = c.0; is_child = c.1; names = h.names ∙ ap Some (sym c.2) } in
    let found = j.stands b.place c.0 (j.closed_b i b.place e child_is) c.1 in
    let same : found.0 ≡ q = j.differ found.0 q c.0 h.child found.1 h.is_child c.2 in
    record
    { place = b.place; is_child = child_is; stands = record { own = c.0; here = c.1; there = subst (λ k. slice_get js k ≡ Some c.0) same found.1 } }

-- what is reached in the joined chain, and where it stood
pub record ReachTo (bs js : List Reading) (p k : ℕ) : Type 0 where
  pub place : ℕ
  pub reaches_it : Reaches js p place
  pub stands : Stands bs js k place

-- what is reached in the other chain is reached in the joined one
pub reach_to : (hash : Alg → List ℕ → List ℕ) (as_ bs js : List Reading) (ra rb : ℕ → Bool) (i p k : ℕ) (r : Reading)
    → Joins hash as_ bs js ra rb → rb i ≡ true → slice_get bs i ≡ Some r → slice_get js p ≡ Some r → Reaches bs i k
    → ReachTo bs js p k
reach_to hash as_ bs js ra rb i p k r j e is at (child _ _ h) =
    let c : ChildTo bs js p k = child_to hash as_ bs js ra rb i p k r j e is at h in
    record { place = c.place; reaches_it = child p c.place c.is_child; stands = c.stands }
reach_to hash as_ bs js ra rb i p k r j e is at (through _ n _ h rest) =
    let c : ChildTo bs js p n = child_to hash as_ bs js ra rb i p n r j e is at h in
    let more : ReachTo bs js c.place k =
    reach_to hash as_ bs js ra rb n c.place k c.stands.own j (j.closed_b i n e h) c.stands.here c.stands.there rest in
    record
    { place = more.place; reaches_it = through p c.place more.place c.is_child more.reaches_it; stands = more.stands }

-- what is reached in the other chain, and where it stands
pub record ReachFrom (bs js : List Reading) (i q : ℕ) : Type 0 where
  pub place : ℕ
  pub reaches_it : Reaches bs i place
  pub stands : Stands bs js place q

-- what is reached in the joined chain is reached in the other one
pub reach_from : (hash : Alg → List ℕ → List ℕ) (as_ bs js : List Reading) (ra rb : ℕ → Bool) (i p q : ℕ) (r : Reading)
    → Joins hash as_ bs js ra rb → rb i ≡ true → slice_get bs i ≡ Some r → slice_get js p ≡ Some r → Reaches js p q
    → ReachFrom bs js i q
reach_from hash as_ bs js ra rb i p q r j e is at (child _ _ h) =
    let c : ChildFrom bs js i q = child_from hash as_ bs js ra rb i p q r j e is at h in
    record { place = c.place; reaches_it = child i c.place c.is_child; stands = c.stands }
reach_from hash as_ bs js ra rb i p q r j e is at (through _ n _ h rest) =
    let c : ChildFrom bs js i n = child_from hash as_ bs js ra rb i p n r j e is at h in
    let more : ReachFrom bs js c.place q =
    reach_from hash as_ bs js ra rb c.place n q c.stands.own j
    (j.closed_b i c.place e c.is_child) c.stands.here c.stands.there rest in
    record
    { place = more.place; reaches_it = through i c.place more.place c.is_child more.reaches_it; stands = more.stands }
