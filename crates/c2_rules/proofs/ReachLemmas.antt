-- The tests on children and on what is reached, redacted and touched decide the relations, where manifests have different labels.
use Rattle.std.proofs.Common.{◌≡◌, ◌⊎◌, inl, inr, ◌↔◌, ℕ, zero, suc, ◌+◌, ◌-◌, ◌<◌, ltb, eqb, nat_eq, Bool, true, false, cond, ◌&&◌, ◌||◌, List, [], ◌∷◌, length, get_or, Option, Some, None, slice_get, position, bytes_eq, Contains, option_and_then, Decides, refl, sym, ap, ◌∙◌, subst, arith}
use Rattle.std.specs.List.{position_or_len}
use Rattle.std.proofs.lemmas.List.Quantifiers.{position-Some}
use Rattle.std.proofs.lemmas.List.Sums.{position_or_len_is}
use Rattle.std.proofs.lemmas.Option.{same_Some, slice_get-get_or, slice_get_within, get_or_from_slice_get}
use Rattle.std.proofs.lemmas.Bool.Decides.{Decides-ltb, Decides-eqb}
use Rattle.std.proofs.lemmas.Slice.Eq.{bytes_eq-Decides}
use Rattle.c2_spec.specs.C2pa.Manifest.{is_given}
use Rattle.c2_spec.specs.C2pa.Uri.{PlainUri, PlainTarget, whole, assertion, signature, other, uri_of}
use Rattle.c2_spec.specs.declared.cbor.Ref.{Ref}
use Rattle.c2_spec.proofs.GivenLabels.{given_is}
use Rattle.c2_rules.specs.Chains.{label_in, LabelsDiffer, place_of, named_in, IsChild, place_before, child_of, boxes_of, boxes_at, children, Reaches, Reached, reaches_within}
use Rattle.c2_rules.specs.Chains.{reaches, is_active, is_reached, assertion_label, names_assertion, IsRedacted, redacts, is_redacted, entry_label, IsTouched, passes_some, lists_redacted, is_touched}
use Rattle.c2_rules.specs.Chains.Reaches.{child, through}
use Rattle.c2_rules.specs.Chains.Reached.{active, below}
use Rattle.c2_rules.specs.Readings.{ReadBox, Reading, entries_in, redactions_in}
use Rattle.c2_rules.proofs.ListLemmas.{contains_none, from_filter_map, in_filter_map, from_any, in_any, or_left, from_and_then, from_passes, from_below, in_below, any_same}
use Rattle.c2_lemmas.proofs.Bools.{and_true, both_true, never_true_is_false, or_cases, or_second}
use Rattle.c2_lemmas.proofs.Options.{if_before}

-- ---- children

-- a place that passes as earlier is itself, and is earlier
before_if : (k n m : ℕ) (b : Bool) → Decides b (k < n) → cond b (Some k) None ≡ Some m → (k ≡ m) × (k < n)
before_if k n m true d e = (same_Some k m e, d.0 refl)
before_if k n m false d e = absurd cc

-- a place that may be absent and passes as earlier is there, and is earlier
pub is_before : (n m : ℕ) (o : Option ℕ) → place_before n o ≡ Some m → (o ≡ Some m) × (m < n)
is_before n m None e = absurd cc
is_before n m (Some k) e = let both = before_if k n m (ltb k n) (Decides-ltb k n) e in (ap Some both.0, subst (λ (x : ℕ). x < n) both.0 both.1)

-- a box of a manifest that may be absent is one of a manifest that is there
pub in_some : (o : Option Reading) (b : ReadBox) → Contains (boxes_of o) b
    → (r : Reading) × (o ≡ Some r) × Contains r.boxes b
in_some None b c = absurd (contains_none b c)
in_some (Some r) b c = (r, refl, c)

-- the place of a label is that of a manifest with this label
pub placed : (rs : List Reading) (label : List ℕ) (m : ℕ) → place_of rs label ≡ Some m
    → (r : Reading) × (slice_get rs m ≡ Some r) × (label_in r ≡ label)
placed [] label m e = absurd cc
placed (x ∷ xs) label m e =
    let found = position-Some (λ (r : Reading). bytes_eq (label_in r) label) (x ∷ xs) m x e in
    let r : Reading = get_or (x ∷ xs) m x in
    (r, slice_get-get_or (x ∷ xs) m x found.0, (bytes_eq-Decides (label_in r) label).0 found.1)

-- a place within the list where the search ends is where it finds
position_is : (rs : List Reading) (p : Reading → Bool) (m : ℕ) → m < length rs → position_or_len p rs ≡ m
    → position p rs ≡ Some m
position_is rs p m lt e =
    let here : position_or_len p rs < length rs = omega arith in
    ap (λ (b : Bool). cond b (Some (position_or_len p rs)) None)
    ((Decides-ltb (position_or_len p rs) (length rs)).1 here)
    ∙ ap Some e

-- where labels differ, the place of a manifest is found by its label
pub place_is : (rs : List Reading) (m : ℕ) (r : Reading) → LabelsDiffer rs → slice_get rs m ≡ Some r
    → place_of rs (label_in r) ≡ Some m
place_is rs m r differ at =
    let p : Reading → Bool = λ (x : Reading). bytes_eq (label_in x) (label_in r) in
    let lt : m < length rs = slice_get_within rs m r at in
    let here : p (get_or rs m r) ≡ true =
    ap p (get_or_from_slice_get rs m r r at) ∙ (bytes_eq-Decides (label_in r) (label_in r)).1 refl in
    let before : (k : ℕ) → k < m → p (get_or rs k r) ≡ false =
    λ k less. never_true_is_false (p (get_or rs k r)) (λ same. other_place k less same) in
    position_is rs p m lt (position_or_len_is p rs m r (omega arith) before (λ inside. here))
  where
    other_place : (k : ℕ) → k < m → bytes_eq (label_in (get_or rs k r)) (label_in r) ≡ true → ⊥
    other_place k less same =
        let lt : m < length rs = slice_get_within rs m r at in
        let is : k ≡ m =
        differ k m (get_or rs k r) r (slice_get-get_or rs k r (omega arith)) at
        ((bytes_eq-Decides (label_in (get_or rs k r)) (label_in r)).0 same) in
        omega arith

-- a child by the test is a child
pub child_is : (rs : List Reading) (n m : ℕ) → Contains (children rs n) m → IsChild rs n m
child_is rs n m c =
    let from = from_filter_map (child_of rs n) (boxes_at rs n) m c in
    let before = is_before n m (option_and_then (place_of rs) (named_in from.0)) from.2 in
    let named = from_and_then (place_of rs) (named_in from.0) m before.0 in
    let there = placed rs named.0 m named.2 in
    let user = in_some (slice_get rs n) from.0 from.1 in
    record
    { earlier = before.1; user = user.0; is_user = user.1; box = from.0; has_box = user.2; child = there.0; is_child = there.1; names = named.1 ∙ ap Some (sym there.2) }

-- the boxes at a place are those of the manifest there
in_boxes : (rs : List Reading) (n : ℕ) (r : Reading) (b : ReadBox) → slice_get rs n ≡ Some r → Contains r.boxes b
    → Contains (boxes_at rs n) b
in_boxes rs n r b at c = subst (λ (o : Option Reading). Contains (boxes_of o) b) (sym at) c

-- a child is one by the test, where labels differ
pub is_in_children : (rs : List Reading) (n m : ℕ) → LabelsDiffer rs → IsChild rs n m → Contains (children rs n) m
is_in_children rs n m differ h =
    let place : option_and_then (place_of rs) (named_in h.box) ≡ Some m =
    ap (option_and_then (place_of rs)) h.names ∙ place_is rs m h.child differ h.is_child in
    in_filter_map (child_of rs n) (boxes_at rs n) h.box m (in_boxes rs n h.user h.box h.is_user h.has_box)
    (ap (place_before n) place ∙ if_before m n (ltb m n) (Decides-ltb m n) h.earlier)

-- ---- what is reached

-- what is reached within some steps is reached
pub reaches_sound : (rs : List Reading) (steps n m : ℕ) → reaches_within rs steps n m ≡ true → Reaches rs n m
reaches_sound rs zero n m e = absurd cc
reaches_sound rs (suc steps) n m e = by (λ c f. reaches_sound rs steps c m f) (from_any (λ (c : ℕ). eqb c m || reaches_within rs steps c m) (children rs n) e)
  where
    last : (c : ℕ) → Contains (children rs n) c → c ≡ m → Reaches rs n m
    last c there same = child n m (subst (λ (x : ℕ). IsChild rs n x) same (child_is rs n c there))

    by : ((c : ℕ) → reaches_within rs steps c m ≡ true → Reaches rs c m)
        → (c : ℕ) × Contains (children rs n) c × ((eqb c m || reaches_within rs steps c m) ≡ true) → Reaches rs n m
    by rest (c, there, passes) = elim (or_cases (eqb c m) (reaches_within rs steps c m) passes) [
      | inl same ↦ last c there ((Decides-eqb c m).0 same)
      | inr more ↦ through n c m (child_is rs n c there) (rest c more)
    ]

-- what is reached from a place is so within any number of steps that is greater than the place
pub reaches_complete : (rs : List Reading) → LabelsDiffer rs → (steps n m : ℕ) → n < steps → Reaches rs n m
    → reaches_within rs steps n m ≡ true
reaches_complete rs differ zero n m few r = absurd (omega arith)
reaches_complete rs differ (suc steps) n m few (child _ _ h) =
    in_any (λ (c : ℕ). eqb c m || reaches_within rs steps c m) (children rs n) m (is_in_children rs n m differ h)
    (or_left (eqb m m) (reaches_within rs steps m m) ((Decides-eqb m m).1 refl))
reaches_complete rs differ (suc steps) n m few (through _ c _ h rest) =
    let earlier : c < n = h.earlier in
    let more : reaches_within rs steps c m ≡ true = reaches_complete rs differ steps c m (omega arith) rest in
    in_any (λ (d : ℕ). eqb d m || reaches_within rs steps d m) (children rs n) c (is_in_children rs n c differ h)
    (or_second (eqb c m) (reaches_within rs steps c m) more)

-- the test says which manifests are reached from a place
pub reaches_decides : (rs : List Reading) → LabelsDiffer rs → (n m : ℕ) → (reaches rs n m ≡ true) ↔ Reaches rs n m
reaches_decides rs differ n m =
    (λ e. reaches_sound rs (n + 1) n m e, λ r. reaches_complete rs differ (n + 1) n m (omega arith) r)

-- a child of what is reached is reached
pub one_more : (rs : List Reading) (a n m : ℕ) → Reaches rs a n → IsChild rs n m → Reaches rs a m
one_more rs a n m (child _ _ h) next = through a n m h (child n m next)
one_more rs a n m (through _ c _ h rest) next = through a c m h (one_more rs c n m rest next)

-- what is reached from something reached is reached
from_member : (rs : List Reading) (n m : ℕ) → Reaches rs n m → Reached rs n → Reached rs m
from_member rs n m (child _ _ h) there = below n m there h
from_member rs n m (through _ c _ h rest) there = from_member rs c m rest (below n c there h)

-- what is reached is the active manifest, or reached from it
active_or_reached : (rs : List Reading) (n : ℕ) → Reached rs n → (n + 1 ≡ length rs) ⊎ Reaches rs (length rs - 1) n
active_or_reached rs n (active _ e) = inl e
active_or_reached rs n (below k _ there h) = elim (active_or_reached rs k there) [
  | inl last ↦ inr (child (length rs - 1) n (subst (λ (x : ℕ). IsChild rs x n) (last_place last) h))
  | inr reach ↦ inr (one_more rs (length rs - 1) k n reach h)
]
  where
    last_place : k + 1 ≡ length rs → k ≡ length rs - 1
    last_place e = omega arith

-- what is reached from the active manifest is reached
from_active : (rs : List Reading) (n : ℕ) → Reaches rs (length rs - 1) n → 0 < length rs → Reached rs n
from_active rs n r some = from_member rs (length rs - 1) n r (active (length rs - 1) (omega arith))

-- where something is reached, the store has a manifest
some_reading : (rs : List Reading) (n m : ℕ) → Reaches rs n m → 0 < length rs
some_reading rs n m (child _ _ h) = let lt : n < length rs = slice_get_within rs n h.user h.is_user in omega arith
some_reading rs n m (through _ c _ h rest) = let lt : n < length rs = slice_get_within rs n h.user h.is_user in omega arith

-- the test says which manifests are reached
pub reached_decides : (rs : List Reading) → LabelsDiffer rs → (n : ℕ) → (is_reached rs n ≡ true) ↔ Reached rs n
reached_decides rs differ n = (sound, complete)
  where
    by_reach : reaches rs (length rs - 1) n ≡ true → Reached rs n
    by_reach e = let r = (reaches_decides rs differ (length rs - 1) n).0 e in from_active rs n r (some_reading rs (length rs - 1) n r)

    sound : is_reached rs n ≡ true → Reached rs n
    sound e = elim (or_cases (is_active rs n) (reaches rs (length rs - 1) n) e) [
      | inl last ↦ active n ((Decides-eqb (n + 1) (length rs)).0 last)
      | inr reach ↦ by_reach reach
    ]

    complete : Reached rs n → is_reached rs n ≡ true
    complete r = elim (active_or_reached rs n r) [
      | inl last ↦ or_left (is_active rs n) (reaches rs (length rs - 1) n) ((Decides-eqb (n + 1) (length rs)).1 last)
      | inr reach ↦ or_second (is_active rs n) (reaches rs (length rs - 1) n) ((reaches_decides rs differ (length rs - 1) n).1 reach)
    ]

-- what is reached is in the store
pub reached_within : (rs : List Reading) (n : ℕ) → Reached rs n → n < length rs
reached_within rs n (active _ e) = omega arith
reached_within rs n (below k _ there h) = slice_get_within rs n h.child h.is_child

-- ---- what is redacted

-- a target whose label passes as given is the assertion with that label
given_label : (label : List ℕ) (t : PlainTarget) → is_given (assertion_label t) label ≡ true → t ≡ assertion label
given_label label whole e = absurd cc
given_label label (assertion given) e = ap assertion ((bytes_eq-Decides given label).0 e)
given_label label signature e = absurd cc
given_label label (other path) e = absurd cc

-- a URI that passes names the assertion by its manifest and its label
pub named_assertion : (manifest label : List ℕ) (o : Option PlainUri) → names_assertion manifest label o ≡ true
    → o ≡ Some (record { manifest = Some manifest; target = assertion label })
named_assertion manifest label None e = absurd cc
named_assertion manifest label (Some u) e =
    let both = both_true (is_given u.manifest manifest) (is_given (assertion_label u.target) label) e in
    let first : u.manifest ≡ Some manifest = given_is u.manifest manifest both.0 in
    let second : u.target ≡ assertion label = given_label label u.target both.1 in
    ap (λ (m : Option (List ℕ)). Some (record { manifest = m; target = u.target })) first
    ∙ ap (λ (t : PlainTarget). Some (record { manifest = Some manifest; target = t })) second

-- a URI of that manifest and that label passes
names_assertion_is : (manifest label : List ℕ) (o : Option PlainUri)
    → o ≡ Some (record { manifest = Some manifest; target = assertion label }) → names_assertion manifest label o ≡ true
names_assertion_is manifest label o e =
    ap (names_assertion manifest label) e
    ∙ and_true (bytes_eq manifest manifest) (bytes_eq label label) ((bytes_eq-Decides manifest manifest).1 refl)
    ((bytes_eq-Decides label label).1 refl)

-- a manifest that redacts a label by the test lists a URI of it
redacts_is : (a b : Option Reading) (label : List ℕ) → redacts a b label ≡ true
    → (r : Reading) × (t : Reading) × (text : List ℕ) × (a ≡ Some r) × (b ≡ Some t) × Contains (redactions_in r) text × (uri_of text ≡ Some (record { manifest = Some (label_in t); target = assertion label }))
redacts_is None b label e = absurd cc
redacts_is (Some r) None label e = absurd cc
redacts_is (Some r) (Some t) label e =
    let found = from_any (λ (text : List ℕ). names_assertion (label_in t) label (uri_of text)) (redactions_in r) e in
    (r, t, found.0, refl, refl, found.1, named_assertion (label_in t) label (uri_of found.0) found.2)

-- a manifest that lists a URI of a label redacts it by the test
is_redacting : (r t : Reading) (label text : List ℕ) → Contains (redactions_in r) text
    → uri_of text ≡ Some (record { manifest = Some (label_in t); target = assertion label })
    → redacts (Some r) (Some t) label ≡ true
is_redacting r t label text c e =
    in_any (λ (x : List ℕ). names_assertion (label_in t) label (uri_of x)) (redactions_in r) text c
    (names_assertion_is (label_in t) label (uri_of text) e)

-- the manifest at a place is reached, reaches this one, and redacts this label in it
abbrev by_place : List Reading → ℕ → List ℕ → ℕ → Bool
by_place rs m label n = is_reached rs n && reaches rs n m && redacts (slice_get rs n) (slice_get rs m) label

-- the test says which labels are redacted in a manifest
pub redacted_decides : (rs : List Reading) → LabelsDiffer rs → (m : ℕ) (label : List ℕ)
    → (is_redacted rs m label ≡ true) ↔ IsRedacted rs m label
redacted_decides rs differ m label = (sound, complete)
  where
    at_place : (n : ℕ) → by_place rs m label n ≡ true → IsRedacted rs m label
    at_place n e =
        let both = both_true (is_reached rs n && reaches rs n m) (redacts (slice_get rs n) (slice_get rs m) label) e in
        let first = both_true (is_reached rs n) (reaches rs n m) both.0 in
        let found = redacts_is (slice_get rs n) (slice_get rs m) label both.1 in
        record
        { place = n; reached = (reached_decides rs differ n).0 first.0; reaches = (reaches_decides rs differ n m).0 first.1; redactor = found.0; at_place = found.3; text = found.2; lists = found.5; target = found.1; at_target = found.4; names = found.6 }

    sound : is_redacted rs m label ≡ true → IsRedacted rs m label
    sound e = let found = from_below (by_place rs m label) (length rs) e in at_place found.0 found.2

    complete : IsRedacted rs m label → is_redacted rs m label ≡ true
    complete h =
        let redacting : redacts (slice_get rs h.place) (slice_get rs m) label ≡ true =
        ap (λ (o : Option Reading). redacts o (slice_get rs m) label) h.at_place ∙ ap (λ (o : Option Reading). redacts (Some h.redactor) o label) h.at_target ∙ is_redacting h.redactor h.target label h.text h.lists h.names in
        in_below (by_place rs m label) (length rs) h.place (reached_within rs h.place h.reached)
        (and_true (is_reached rs h.place && reaches rs h.place m) (redacts (slice_get rs h.place) (slice_get rs m) label)
        (and_true (is_reached rs h.place) (reaches rs h.place m) ((reached_decides rs differ h.place).1 h.reached) ((reaches_decides rs differ h.place m).1 h.reaches)) redacting)

-- ---- what is touched

-- a manifest that passes as touched lists a label that is redacted in it
lists_some : (rs : List Reading) (m : ℕ) (o : Option Reading) → lists_redacted rs m o ≡ true
    → (r : Reading) × (e : Ref) × (label : List ℕ) × (o ≡ Some r) × Contains (entries_in r) e × (entry_label r.manifest e ≡ Some label) × (is_redacted rs m label ≡ true)
lists_some rs m None h = absurd cc
lists_some rs m (Some r) h =
    let found = from_any (λ (e : Ref). passes_some (is_redacted rs m) (entry_label r.manifest e)) (entries_in r) h in
    let passes = from_passes (is_redacted rs m) (entry_label r.manifest found.0) found.2 in
    (r, found.0, passes.0, refl, found.1, passes.1, passes.2)

-- the test says which manifests are touched
pub touched_decides : (rs : List Reading) → LabelsDiffer rs → (m : ℕ) → (is_touched rs m ≡ true) ↔ IsTouched rs m
touched_decides rs differ m = (sound, complete)
  where
    sound : is_touched rs m ≡ true → IsTouched rs m
    sound h =
        let found = lists_some rs m (slice_get rs m) h in
        record
        { touched = found.0; at_place = found.3; entry = found.1; lists = found.4; label = found.2; is_label = found.5; redacted = (redacted_decides rs differ m found.2).0 found.6 }

    complete : IsTouched rs m → is_touched rs m ≡ true
    complete h =
        let passes : passes_some (is_redacted rs m) (entry_label h.touched.manifest h.entry) ≡ true =
        ap (passes_some (is_redacted rs m)) h.is_label ∙ (redacted_decides rs differ m h.label).1 h.redacted in
        ap (lists_redacted rs m) h.at_place
        ∙ in_any (λ (e : Ref). passes_some (is_redacted rs m) (entry_label h.touched.manifest e))
        (entries_in h.touched) h.entry h.lists passes

-- ---- steps

-- the children of a manifest stand before it
pub child_earlier : (rs : List Reading) (n c : ℕ) → Contains (children rs n) c → c < n
child_earlier rs n c there = (child_is rs n c there).earlier

-- more steps than the place has reach no more
same_below : (rs : List Reading) (s t c n m : ℕ) → c < n
    → ((d : ℕ) → d < n → reaches_within rs s d m ≡ reaches_within rs t d m)
    → (nat_eq c m || reaches_within rs s c m) ≡ (nat_eq c m || reaches_within rs t c m)
same_below rs s t c n m lt same = ap (λ (b : Bool). nat_eq c m || b) (same c lt)

-- what a manifest reaches within more steps than its place is the same for every such number of steps
pub steps_same : (rs : List Reading) (s t n m : ℕ) → n < s → n < t → reaches_within rs s n m ≡ reaches_within rs t n m
steps_same rs zero t n m few many = absurd (omega arith)
steps_same rs (suc s) zero n m few many = absurd (omega arith)
steps_same rs (suc s) (suc t) n m few many =
    any_same (λ (c : ℕ). nat_eq c m || reaches_within rs s c m) (λ (c : ℕ). nat_eq c m || reaches_within rs t c m)
    (children rs n)
    (λ c there. same_below rs s t c n m (child_earlier rs n c there)
    (λ d lt. steps_same rs s t d m (omega arith) (omega arith)))
