-- The labels that are redacted in each manifest, redaction by redaction.
use Rattle.std.proofs.Common.{◌≡◌, ℕ, zero, suc, ◌+◌, ◌<◌, Bool, true, false, ◌&&◌, ◌||◌, nat_eq, List, [], ◌∷◌, ◌++◌, length, take, get_or, Option, Some, None, slice_get, option_and_then, bytes_eq, refl, sym, ap, ap₂, ◌∙◌, subst, arith, add-one, drop, append-nil}
use Rattle.std.specs.List.{list_any}
use Rattle.std.proofs.lemmas.Bool.{eqb-true}
use Rattle.std.proofs.lemmas.Bool.Decides.{Decides-eqb}
use Rattle.std.proofs.Math.ListN.{drop_of_length-le}
use Rattle.std.proofs.Math.Seq.{take-length}
use Rattle.std.proofs.lemmas.Option.{same_Some, slice_get-get_or}
use Rattle.std.proofs.lemmas.Slice.Eq.{bytes_eq-Decides}
use Rattle.c2_label_index.specs.Labels.{is_among}
use Rattle.c2_label_index.specs.declared.labels.Labels.{Labels}
use Rattle.c2_spec.specs.C2pa.Manifest.{is_given}
use Rattle.c2_spec.specs.C2pa.Uri.{PlainUri, uri_of}
use Rattle.c2_rules.specs.Chains.{LabelsDiffer, label_in, place_of, names_assertion, assertion_label, passes_some, any_below, is_reached, reaches, redacts}
use Rattle.c2_rules.specs.Readings.{Reading, redactions_in}
use Rattle.c2_rules.proofs.ReachLemmas.{placed, place_is}
use Rattle.c2_read_manifests.specs.Redacted.{has_at, names_at, redacts_at, AddsTexts, AddsOf, AreNone, AreRedactedBelow}
use Rattle.c2_lemmas.proofs.Lists.{equal_bytes}

-- there is a manifest at each place
there : (rs : List Reading) (m : ℕ) → m < length rs → (r : Reading) × (slice_get rs m ≡ Some r)
there [] m lt = absurd (omega arith)
there (r ∷ rs) zero lt = (r, refl)
there (r ∷ rs) (suc m) lt = there rs m (omega arith)

-- ---- what a redaction names

-- this place was found
abbrev is_place : Option ℕ → ℕ → Bool
is_place None m = false
is_place (Some k) m = nat_eq k m

-- a test can't be true and false
not_both : (b : Bool) → b ≡ true → b ≡ false → {A : Type 0} → A
not_both true t f {A} = absurd cc
not_both false t f {A} = absurd cc

-- a place that is found by another label is another place
other_place : (rs : List Reading) → LabelsDiffer rs → (label : List ℕ) (m : ℕ) (r : Reading) → slice_get rs m ≡ Some r
    → bytes_eq label (label_in r) ≡ false → (o : Option ℕ) → place_of rs label ≡ o → false ≡ is_place o m
other_place rs differ label m r at differs None e = refl
other_place rs differ label m r at differs (Some k) e = by (nat_eq k m) refl
  where
    by : (b : Bool) → nat_eq k m ≡ b → false ≡ b
    by false h = refl
    by true h =
        let p = placed rs label k e in
        let one : p.0 ≡ r = same_Some p.0 r (sym p.1 ∙ ap (λ (x : ℕ). slice_get rs x) (eqb-true k m h) ∙ at) in
        not_both (bytes_eq label (label_in r)) ((bytes_eq-Decides label (label_in r)).1 (sym p.2 ∙ ap label_in one))
        differs

-- where labels differ, the manifest at a place has this label if and only if the place is the one found by it
given_is : (rs : List Reading) → LabelsDiffer rs → (label : List ℕ) (m : ℕ) (r : Reading) → slice_get rs m ≡ Some r
    → bytes_eq label (label_in r) ≡ is_place (place_of rs label) m
given_is rs differ label m r at = by (bytes_eq label (label_in r)) refl
  where
    by : (b : Bool) → bytes_eq label (label_in r) ≡ b → b ≡ is_place (place_of rs label) m
    by true e =
        let here : place_of rs label ≡ Some m =
        ap (place_of rs) (equal_bytes label (label_in r) e) ∙ place_is rs m r differ at in
        sym (ap (λ (o : Option ℕ). is_place o m) here ∙ (Decides-eqb m m).1 refl)
    by false e = other_place rs differ label m r at e (place_of rs label) refl

-- where labels differ, the manifest at a place has a label that may be missing if and only if the place is the one found by it: none is
-- found of a missing label
given_at : (rs : List Reading) → LabelsDiffer rs → (given : Option (List ℕ)) (m : ℕ) (r : Reading)
    → slice_get rs m ≡ Some r → is_given given (label_in r) ≡ is_place (option_and_then (place_of rs) given) m
given_at rs differ None m r at = refl
given_at rs differ (Some label) m r at = given_is rs differ label m r at

-- a text names an assertion of the manifest at a place if its URI's manifest is found there and its target is the label
names_is : (rs : List Reading) → LabelsDiffer rs → (text : List ℕ) (u : PlainUri) → Some u ≡ uri_of text
    → (m : ℕ) (label : List ℕ) → m < length rs
    → names_at rs m label text ≡ (is_place (option_and_then (place_of rs) u.manifest) m && is_given (assertion_label u.target) label)
names_is rs differ text u is m label lt =
    let t = there rs m lt in
    ap (λ (o : Option Reading). passes_some (λ (r : Reading). names_assertion (label_in r) label (uri_of text)) o) t.1
    ∙ ap (λ (o : Option PlainUri). names_assertion (label_in t.0) label o) (sym is)
    ∙ ap (λ (b : Bool). b && is_given (assertion_label u.target) label) (given_at rs differ u.manifest m t.0 t.1)

-- where a URI's manifest is found at `k` and its target is a label, the text names just that assertion there
pub aimed : (rs : List Reading) → LabelsDiffer rs → (text : List ℕ) (u : PlainUri) (k : ℕ) (name : List ℕ)
    → Some u ≡ uri_of text → Some k ≡ option_and_then (place_of rs) u.manifest → Some name ≡ assertion_label u.target
    → (m : ℕ) (label : List ℕ) → m < length rs → (nat_eq k m && bytes_eq name label) ≡ names_at rs m label text
aimed rs differ text u k name is place target m label lt = sym (
    names_is rs differ text u is m label lt
    ∙ ap₂ (λ (o : Option ℕ) (t : Option (List ℕ)). is_place o m && is_given t label) (sym place) (sym target))

-- a text whose manifest isn't found names no assertion of any manifest
pub not_placed : (rs : List Reading) → LabelsDiffer rs → (text : List ℕ) (u : PlainUri) → Some u ≡ uri_of text
    → None ≡ option_and_then (place_of rs) u.manifest → (m : ℕ) (label : List ℕ) → m < length rs
    → false ≡ names_at rs m label text
not_placed rs differ text u is place m label lt =
    sym
    (names_is rs differ text u is m label lt ∙ ap (λ (o : Option ℕ). is_place o m && is_given (assertion_label u.target) label) (sym place))

-- ---- texts

-- "or false" changes nothing
or_false : (a : Bool) → a ≡ (a || false)
or_false true = refl
or_false false = refl

-- ---- the redactions of one manifest

-- no member passes a test that fails always
any_none : (xs : List (List ℕ)) → list_any (λ (x : List ℕ). false) xs ≡ false
any_none [] = refl
any_none (x ∷ xs) = any_none xs

-- a condition that speaks of no member can be taken out of "one of them passes"
any_and : (b : Bool) (p : List ℕ → Bool) (xs : List (List ℕ))
    → list_any (λ (x : List ℕ). b && p x) xs ≡ (b && list_any p xs)
any_and true p xs = refl
any_and false p xs = any_none xs

-- "and" with something true changes nothing
and_assoc : (a b : Bool) → a ≡ true → b ≡ (a && b)
and_assoc true b e = refl
and_assoc false b e = absurd cc

-- one of a reached manifest's redactions names this label in one below it just when the manifest redacts the label there
redacts_all : (rs : List Reading) (n m : ℕ) (r : Reading) (label : List ℕ) → is_reached rs n ≡ true
    → slice_get rs n ≡ Some r → m < length rs
    → list_any (λ (text : List ℕ). reaches rs n m && names_at rs m label text) (redactions_in r) ≡ redacts_at rs m label n
redacts_all rs n m r label reached at lt =
    let t = there rs m lt in
    let named : list_any (λ (text : List ℕ). names_at rs m label text) (redactions_in r) ≡ redacts (slice_get rs n) (slice_get rs m) label =
    ap
    (λ (o : Option Reading). list_any (λ (text : List ℕ). passes_some (λ (x : Reading). names_assertion (label_in x) label (uri_of text)) o) (redactions_in r))
    t.1
    ∙ sym (ap₂ (λ (x y : Option Reading). redacts x y label) at t.1) in
    any_and (reaches rs n m) (λ (text : List ℕ). names_at rs m label text) (redactions_in r)
    ∙ ap (λ (b : Bool). reaches rs n m && b) named
    ∙ ap (λ (b : Bool). b && redacts (slice_get rs n) (slice_get rs m) label)
    (and_assoc (is_reached rs n) (reaches rs n m) reached)

-- sets that gained what a reached manifest's redactions redact gained what this manifest redacts
pub of_reached : (rs all : List Reading) (n : ℕ) (r : Reading) (old new : List Labels) (texts : List (List ℕ))
    → n < length rs → all ≡ rs → r ≡ get_or all n r → is_reached rs n ≡ true → texts ≡ redactions_in r
    → AddsTexts rs n old new texts → AddsOf rs n old new
of_reached rs all n r old new texts lt same at reached is h = record {
  count = h.count;
  says = λ m label inside.
      h.says m label inside
      ∙ ap
      (λ (xs : List (List ℕ)). has_at old m label || list_any (λ (text : List ℕ). reaches rs n m && names_at rs m label text) xs)
      is
      ∙ ap (λ (b : Bool). has_at old m label || b) (redacts_all rs n m r label reached (slice_get-get_or rs n r lt ∙ ap (λ (xs : List Reading). Some (get_or xs n r)) (sym same) ∙ ap Some (sym at)) inside);
}

-- three conditions whose first is false do not hold together
not_reached_none : (a b c : Bool) → a ≡ false → false ≡ (a && b && c)
not_reached_none true b c e = absurd cc
not_reached_none false b c e = refl

-- sets gain nothing of a manifest that isn't reached
pub of_none : (rs : List Reading) (n : ℕ) (sets : List Labels) → is_reached rs n ≡ false → AddsOf rs n sets sets
of_none rs n sets unreached = record {
  count = refl;
  says =
      λ m label lt. or_false (has_at sets m label)
      ∙ ap (λ (b : Bool). has_at sets m label || b)
      (not_reached_none (is_reached rs n) (reaches rs n m) (redacts (slice_get rs n) (slice_get rs m) label) unreached);
}

-- ---- all manifests

-- "or" holds the other way round
or_comm : (a b : Bool) → (a || b) ≡ (b || a)
or_comm true true = refl
or_comm true false = refl
or_comm false true = refl
or_comm false false = refl

-- sets of what the first `n` manifests redact that gain what the next does are those of the first `n + 1`
pub below_more : (rs : List Reading) (n : ℕ) (a b : List Labels) → AreRedactedBelow rs n a → AddsOf rs n a b
    → AreRedactedBelow rs (n + 1) b
below_more rs n a b h one = record {
  count = one.count ∙ h.count;
  says = λ m label lt.
      one.says m label lt ∙ ap (λ (q : Bool). q || redacts_at rs m label n) (h.says m label lt)
      ∙ or_comm (any_below (redacts_at rs m label) n) (redacts_at rs m label n)
      ∙ ap (any_below (redacts_at rs m label)) (sym (add-one n));
}

-- a list put back in front of what it replaced, over its whole length, is the list itself
whole : (n : ℕ) (new items : List Labels) → length new ≡ length items → n ≡ length items
    → new ≡ take n (new ++ drop (length new) items)
whole n new items count len = sym (
    ap (λ (xs : List Labels). take n (new ++ xs)) (drop_of_length-le items (omega arith)) ∙ ap (take n) (append-nil new) ∙ ap (λ (k : ℕ). take k new) (len ∙ sym count) ∙ take-length new)

-- what a manifest redacts came into sets that were lent as a slice
pub below_lent : (rs : List Reading) (n len : ℕ) (a slice b : List Labels) → AreRedactedBelow rs n a → slice ≡ a
    → AddsOf rs n slice b → len ≡ length a → AreRedactedBelow rs (n + 1) (take len (b ++ drop (length b) a))
below_lent rs n len a slice b h same one count =
    let adds : AddsOf rs n a b = subst (λ (xs : List Labels). AddsOf rs n xs b) same one in
    subst (λ (xs : List Labels). AreRedactedBelow rs (n + 1) xs) (whole len b a adds.count count)
    (below_more rs n a b h adds)

-- sets without a label and one more empty set have no label at any place
none_pushed : (sets : List Labels) (s : Labels) → ((m : ℕ) (label : List ℕ) → has_at sets m label ≡ false)
    → ((label : List ℕ) → is_among s label ≡ false) → (m : ℕ) (label : List ℕ) → has_at (sets ++ s ∷ []) m label ≡ false
none_pushed [] s h e zero label = e label
none_pushed [] s h e (suc m) label = refl
none_pushed (x ∷ xs) s h e zero label = h zero label
none_pushed (x ∷ xs) s h e (suc m) label = none_pushed xs s (λ k l. h (suc k) l) e m label

-- a list with one member more at its end is longer by one
one_more : {X : Type 0} (xs : List X) (x : X) → length (xs ++ x ∷ []) ≡ length xs + 1
one_more [] x = refl
one_more (y ∷ xs) x = let e : suc (length xs + 1) ≡ suc (length xs) + 1 = omega arith in ap suc (one_more xs x) ∙ e

-- `n` empty sets and one more empty set are `n + 1` empty sets
pub none_more : (n : ℕ) (old new : List Labels) (s : Labels) → AreNone n old
    → ((label : List ℕ) → is_among s label ≡ false) → new ≡ old ++ s ∷ [] → AreNone (n + 1) new
none_more n old new s h e is =
    subst (λ (x : List Labels). AreNone (n + 1) x) (sym is)
    (record { many = one_more old s ∙ ap (λ (k : ℕ). k + 1) h.many; none = none_pushed old s h.none e })

-- ---- what is touched
