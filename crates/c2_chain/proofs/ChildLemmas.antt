-- The child that one assertion box names, and how a manifest stands that has a label.
use Rattle.std.proofs.Common.{◌≡◌, ◌↔◌, ℕ, suc, ◌+◌, ◌<◌, ltb, Bool, true, false, cond, List, [], ◌∷◌, get_or, Option, Some, None, slice_get, position, Contains, option_and_then, Decides, true≢false, refl, sym, ap, ◌∙◌, subst, arith}
use Rattle.std.specs.Prelude.{◌==◌}
use Rattle.std.proofs.lemmas.Bool.{le-ltb, ltb-false}
use Rattle.std.proofs.lemmas.Bool.Decides.{Decides-eqb, Decides-ltb}
use Rattle.std.proofs.lemmas.List.Quantifiers.{position-Some}
use Rattle.std.proofs.lemmas.Option.{same_Some, slice_get_within, get_or_from_slice_get}
use Rattle.c2_spec.specs.declared.store.ManifestBoxes.{ManifestBoxes}
use Rattle.c2_rules.specs.BoxPlaces.{BoxPlace, box_at_place, box_place, box_place_from, child_at, found_or}
use Rattle.c2_rules.specs.Chains.{IsChild, IsTouched, LabelsDiffer, boxes_at, boxes_of, child_of, is_touched, label_in, named_in, place_before, place_of}
use Rattle.c2_rules.specs.Claims.{Chained}
use Rattle.c2_rules.specs.Readings.{ReadBox, Reading}
use Rattle.c2_rules.specs.Seen.{Standing, later, child_standing, earlier_standing, place_standing, standing_of}
use Rattle.c2_rules.proofs.ListLemmas.{from_and_then}
use Rattle.c2_rules.proofs.ReachLemmas.{place_is, placed}
use Rattle.c2_chain.specs.Children.{HasBoxAt, IsAt, NamesChild, Stands, nowhere, not_earlier, as_touched, as_whole}
use Rattle.c2_lemmas.proofs.Bools.{never_true_is_false}
use Rattle.c2_lemmas.proofs.Options.{if_before}
use Rattle.c2_rules.proofs.ReachLemmas.{in_some, is_before}

-- ---- one box

-- a place that passes as earlier is itself, and is earlier
before_if : (k n m : ℕ) (b : Bool) → Decides b (k < n) → cond b (Some k) None ≡ Some m → (Some k ≡ Some m) × (m < n)
before_if k n m true d e = (e, subst (λ (x : ℕ). x < n) (same_Some k m e) (d.0 refl))
before_if k n m false d e = absurd cc

-- what the test gives is named
pub names_child : (rs : List Reading) (n m : ℕ) (box : ReadBox) → child_of rs n box ≡ Some m → NamesChild rs n box m
names_child rs n m box e =
    let before = is_before n m (option_and_then (place_of rs) (named_in box)) e in
    let named = from_and_then (place_of rs) (named_in box) m before.0 in
    let there = placed rs named.0 m named.2 in
    record { earlier = before.1; child = there.0; is_child = there.1; names = named.1 ∙ ap Some (sym there.2) }

-- what is named the test gives
pub child_named : (rs : List Reading) (n m : ℕ) (box : ReadBox) → LabelsDiffer rs → NamesChild rs n box m
    → child_of rs n box ≡ Some m
child_named rs n m box differ h =
    let place : option_and_then (place_of rs) (named_in box) ≡ Some m =
    ap (option_and_then (place_of rs)) h.names ∙ place_is rs m h.child differ h.is_child in
    ap (place_before n) place ∙ if_before m n (ltb m n) (Decides-ltb m n) h.earlier

-- ---- the boxes of a manifest

-- a child is named by a box
pub named_by_box : (rs : List Reading) (n m : ℕ) → IsChild rs n m
    → (box : ReadBox) × Contains (boxes_at rs n) box × NamesChild rs n box m
named_by_box rs n m h =
    (h.box, subst (λ (o : Option Reading). Contains (boxes_of o) h.box) (sym h.is_user) h.has_box, record { earlier = h.earlier; child = h.child; is_child = h.is_child; names = h.names })

-- what a box names is a child
pub box_names : (rs : List Reading) (n m : ℕ) → (box : ReadBox) × Contains (boxes_at rs n) box × NamesChild rs n box m
    → IsChild rs n m
box_names rs n m (box, among, h) =
    let user = in_some (slice_get rs n) box among in
    record
    { earlier = h.earlier; user = user.0; is_user = user.1; box = box; has_box = user.2; child = h.child; is_child = h.is_child; names = h.names }

-- ---- a box by its index

-- an index that is found among indices is one of them
index_among : (xs : List ℕ) (index k : ℕ) → position (λ (j : ℕ). j == index) xs ≡ Some k → Contains xs index
index_among xs index k e = let found = position-Some (λ (j : ℕ). j == index) xs k index e in (k, found.0, (Decides-eqb (get_or xs k index) index).0 found.1)

-- the manifest at the place where a box is found has it
has_box_from : (i : ℕ) (ms : List ManifestBoxes) (index : ℕ) (p : BoxPlace) → box_place_from i ms index ≡ Some p
    → (k : ℕ) × (p.manifest ≡ i + k) × HasBoxAt ms k index
has_box_from i [] index p e = absurd cc
has_box_from i (m ∷ ms) index p e = by (has_box_from (i + 1) ms index p) (position (λ (j : ℕ). j == index) m.assertions) refl e
  where
    by : (box_place_from (i + 1) ms index ≡ Some p → (k : ℕ) × (p.manifest ≡ i + 1 + k) × HasBoxAt ms k index)
        → (o : Option ℕ) → position (λ (j : ℕ). j == index) m.assertions ≡ o
        → found_or i o (box_place_from (i + 1) ms index) ≡ Some p
        → (k : ℕ) × (p.manifest ≡ i + k) × HasBoxAt (m ∷ ms) k index
    by rest (Some k) found same =
        let place : i ≡ p.manifest =
        ap (λ (q : BoxPlace). q.manifest) (same_Some (record { manifest = i; box = k }) p same) in
        (0, omega (arith, place), (m, refl, index_among m.assertions index k found))
    by rest None found later_on = let r = rest later_on in (suc r.0, omega (arith, r.1), r.2)

-- the manifest at the place where a box is found has the box
has_box : (ms : List ManifestBoxes) (index : ℕ) (p : BoxPlace) → box_place ms index ≡ Some p
    → HasBoxAt ms p.manifest index
has_box ms index p e =
    let found = has_box_from 0 ms index p e in
    let place : found.0 ≡ p.manifest = omega (arith, found.1) in
    subst (λ (n : ℕ). HasBoxAt ms n index) place found.2

-- what stands at a place is a member
member_at : (xs : List ReadBox) (k : ℕ) (box : ReadBox) → slice_get xs k ≡ Some box → Contains xs box
member_at xs k box e = (k, slice_get_within xs k box e, get_or_from_slice_get xs k box box e)

-- what a box with an index names is a child of its manifest
pub indexed_child : (s : Chained) (index m : ℕ) → child_at s index ≡ Some m
    → (n : ℕ) × HasBoxAt s.boxes n index × IsChild s.readings n m
indexed_child s index m e =
    let p =
    from_and_then
    (λ (q : BoxPlace). option_and_then (child_of s.readings q.manifest) (box_at_place s.readings q))
    (box_place s.boxes index) m e in
    let b = from_and_then (child_of s.readings p.0.manifest) (box_at_place s.readings p.0) m p.2 in
    let among = member_at (boxes_at s.readings p.0.manifest) p.0.box b.0 b.1 in
    (p.0.manifest, has_box s.boxes index p.0 p.1, box_names s.readings p.0.manifest m (b.0, among, names_child s.readings p.0.manifest m b.0 b.2))

-- ---- how a manifest stands

-- the test on what is touched decides the relation
abbrev pub DecidesTouched : List Reading → Type 0
DecidesTouched rs = (m : ℕ) → (is_touched rs m ≡ true) ↔ IsTouched rs m

-- a child stands as one that is touched or isn't
as_child : (rs : List Reading) (i : ℕ) (label : List ℕ) (m : ℕ) (r : Reading) (b : Bool) → DecidesTouched rs
    → IsAt rs m r → label_in r ≡ label → m < i → is_touched rs m ≡ b → Stands rs i label (child_standing b r)
as_child rs i label m r true decides there is lt t = as_touched m r there is lt ((decides m).0 t)
as_child rs i label m r false decides there is lt t =
    as_whole m r there is lt (λ was. absurd (true≢false (sym ((decides m).1 was) ∙ t)))

-- a manifest that is there stands no earlier, or is a child
in_order : (rs : List Reading) (i : ℕ) (label : List ℕ) (m : ℕ) (r : Reading) (b : Bool) → DecidesTouched rs
    → IsAt rs m r → label_in r ≡ label → ltb m i ≡ b
    → Stands rs i label (cond b (earlier_standing (is_touched rs m) (slice_get rs m)) later)
in_order rs i label m r true decides there is t =
    subst (λ (o : Option Reading). Stands rs i label (earlier_standing (is_touched rs m) o)) (sym there)
    (as_child rs i label m r (is_touched rs m) decides there is ((Decides-ltb m i).0 t) refl)
in_order rs i label m r false decides there is t = not_earlier m r there is (ltb-false m i t)

-- by the place of the label
at_place : (rs : List Reading) (i : ℕ) (label : List ℕ) (o : Option ℕ) → LabelsDiffer rs → DecidesTouched rs
    → place_of rs label ≡ o → Stands rs i label (place_standing rs i o)
at_place rs i label None differ decides none = nowhere (λ m r there is. let no : None ≡ Some m = sym none ∙ ap (place_of rs) (sym is) ∙ place_is rs m r differ there in absurd (cc (no)))
at_place rs i label (Some m) differ decides found = let p = placed rs label m found in in_order rs i label m p.0 (ltb m i) decides p.1 p.2 refl

-- what the test gives is so
pub stands : (rs : List Reading) (i : ℕ) (label : List ℕ) (s : Standing) → LabelsDiffer rs → DecidesTouched rs
    → standing_of rs i label ≡ s → Stands rs i label s
stands rs i label s differ decides e =
    subst (Stands rs i label) e (at_place rs i label (place_of rs label) differ decides refl)

-- the manifest with a label has its place
label_place : (rs : List Reading) (label : List ℕ) (m : ℕ) (r : Reading) → LabelsDiffer rs → IsAt rs m r
    → label_in r ≡ label → place_of rs label ≡ Some m
label_place rs label m r differ there is = ap (place_of rs) (sym is) ∙ place_is rs m r differ there

-- a child stands so, by whether it is touched
child_stands : (rs : List Reading) (i : ℕ) (label : List ℕ) (m : ℕ) (r : Reading) (b : Bool) → LabelsDiffer rs
    → IsAt rs m r → label_in r ≡ label → m < i → is_touched rs m ≡ b → standing_of rs i label ≡ child_standing b r
child_stands rs i label m r b differ there is lt t =
    ap (place_standing rs i) (label_place rs label m r differ there is)
    ∙ ap (λ (c : Bool). cond c (earlier_standing (is_touched rs m) (slice_get rs m)) later) ((Decides-ltb m i).1 lt)
    ∙ ap (earlier_standing (is_touched rs m)) there ∙ ap (λ (c : Bool). child_standing c r) t

-- no label that no manifest has has a place
no_place : (rs : List Reading) (label : List ℕ) (o : Option ℕ)
    → ((m : ℕ) (r : Reading) → IsAt rs m r → label_in r ≡ label → ⊥) → place_of rs label ≡ o → o ≡ None
no_place rs label None none e = refl
no_place rs label (Some m) none e = let p = placed rs label m e in absurd (none m p.0 p.1 p.2)

-- what is so the test gives
pub stands_is : (rs : List Reading) (i : ℕ) (label : List ℕ) (s : Standing) → LabelsDiffer rs → DecidesTouched rs
    → Stands rs i label s → standing_of rs i label ≡ s
stands_is rs i label _ differ decides (nowhere none) =
    ap (place_standing rs i) (no_place rs label (place_of rs label) none refl)
stands_is rs i label _ differ decides (not_earlier m r there is le) =
    ap (place_standing rs i) (label_place rs label m r differ there is)
    ∙ ap (λ (c : Bool). cond c (earlier_standing (is_touched rs m) (slice_get rs m)) later) (le-ltb m i le)
stands_is rs i label _ differ decides (as_touched m r there is lt was) =
    child_stands rs i label m r true differ there is lt ((decides m).1 was)
stands_is rs i label _ differ decides (as_whole m r there is lt never) =
    child_stands rs i label m r false differ there is lt
    (never_true_is_false (is_touched rs m) (λ t. never ((decides m).0 t)))
