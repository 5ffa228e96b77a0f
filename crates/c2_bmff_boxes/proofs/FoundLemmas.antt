-- What the search for a store has found, a root box at a time.
use Rattle.std.proofs.Common.{◌≡◌, ℕ, ◌≤◌, Bool, true, false, not, cond, ◌&&◌, ◌||◌, List, [], ◌∷◌, ◌++◌, take, drop, is_some, Option, Some, None, ltb, refl, sym, ap, ap₂, ◌∙◌, subst, arith}
use Rattle.std.proofs.lemmas.List.{append_assoc, drop-drop, length-take}
use Rattle.std.specs.List.{AllByRecursion, list_any}
use Rattle.std.specs.Str.{bytes_eq}
use borrow.Author.Tests.{ltb-false}
use Rattle.c2_base.specs.declared.media.Found.{Found}
use Rattle.c2_base.specs.declared.media.MediaError.{MediaError}
use Rattle.c2_spec.specs.Bmff.Boxes.{Box, HasRoots, box_len, boxes_len, uuid_kind}
use Rattle.c2_spec.specs.Bmff.Store.{c2pa_user_type, is_c2pa_box, is_store_box, is_other_box, is_version_zero, is_for_manifest, has_store_box, content_of, store_in, store_len, c2pa_fault, provenance_fault, most_store_bytes, ProvenanceFault}
use Rattle.c2_bmff_boxes.specs.Provenance.{payload_part}
use Rattle.c2_bmff_boxes.specs.Search.{FailsBy, Finds, Searched, StepsBy}
use Rattle.c2_bmff_boxes.specs.declared.provenance.Part.{Part}
use Rattle.c2_bmff_boxes.specs.declared.provenance.Part.TheVariants as part
use Rattle.c2_bmff_rows.specs.declared.row.RootBox.{RootBox}
use Rattle.c2_bmff_boxes.proofs.SearchLemmas.{Holder, tests, faults, other_by, other_fault, holds_by, fails_by, pass_more, pass_none}
use Rattle.c2_lemmas.proofs.Bools.{or_true}
use Rattle.c2_spec.proofs.BmffOneOutcome.{none_found}

-- the part of a `uuid` box, by its tests
part_by : (found : Bool) (p : List ℕ)
    → payload_part found p ≡ tests (bytes_eq (take 16 p) c2pa_user_type) (is_version_zero (drop 16 p)) (is_for_manifest (drop 16 p)) found (has_store_box (drop 16 p)) (ltb most_store_bytes (store_len (drop 16 p))) (store_len (drop 16 p))
unfolding payload_part
part_by found p = refl

-- a `uuid` box is of C2PA by its user type
c2pa_by : (b : Box) → bytes_eq b.kind uuid_kind ≡ true → is_c2pa_box b ≡ bytes_eq (take 16 b.payload) c2pa_user_type
unfolding is_c2pa_box
c2pa_by b e = ap (λ t. t && bytes_eq (take 16 b.payload) c2pa_user_type) e

-- another box isn't
c2pa_not : (b : Box) → bytes_eq b.kind uuid_kind ≡ false → is_c2pa_box b ≡ false
unfolding is_c2pa_box
c2pa_not b e = ap (λ t. t && bytes_eq (take 16 b.payload) c2pa_user_type) e

-- the fault of a `uuid` box at a place, where a store was found before or not, by its tests
abbrev tests_of : Box → Bool → ℕ → Option MediaError
tests_of b found start =
    let content : List ℕ = content_of b in
    faults (bytes_eq (take 16 b.payload) c2pa_user_type) (is_version_zero content) (is_for_manifest content) found
    (has_store_box content) (ltb most_store_bytes (store_len content)) (store_len content) start

-- so it is behind these boxes
fault_by : (before : List Box) (b : Box) → bytes_eq b.kind uuid_kind ≡ true
    → provenance_fault before b ≡ tests_of b (list_any is_store_box before) (boxes_len before)
unfolding c2pa_fault
fault_by before b e =
    ap (λ t. cond t (c2pa_fault (list_any is_store_box before) (boxes_len before) (content_of b)) None) (c2pa_by b e)

-- a `uuid` box has no part in a store
other_is : (b : Box) → bytes_eq b.kind uuid_kind ≡ true
    → (not (bytes_eq (take 16 b.payload) c2pa_user_type) || (is_version_zero (content_of b) && not (is_for_manifest (content_of b)))) ≡ true
    → is_other_box b ≡ true
unfolding is_other_box
other_is b e h =
    ap (λ t. not t || (is_version_zero (content_of b) && not (is_for_manifest (content_of b)))) (c2pa_by b e) ∙ h

-- a box of another type than `uuid` has no part in a store
other_not : (b : Box) → bytes_eq b.kind uuid_kind ≡ false → is_other_box b ≡ true
unfolding is_other_box
other_not b e =
    ap (λ t. not t || (is_version_zero (content_of b) && not (is_for_manifest (content_of b)))) (c2pa_not b e)

-- a box of another type than `uuid` passes
pass_not : (before : List Box) (b : Box) → bytes_eq b.kind uuid_kind ≡ false → provenance_fault before b ≡ None
pass_not before b e =
    ap (λ t. cond t (c2pa_fault (list_any is_store_box before) (boxes_len before) (content_of b)) None) (c2pa_not b e)

-- a `uuid` box holds a store
store_is : (b : Box) → bytes_eq b.kind uuid_kind ≡ true
    → (bytes_eq (take 16 b.payload) c2pa_user_type && is_version_zero (content_of b) && is_for_manifest (content_of b)) ≡ true
    → is_store_box b ≡ true
unfolding is_store_box
store_is b e h = ap (λ t. t && is_version_zero (content_of b) && is_for_manifest (content_of b)) (c2pa_by b e) ∙ h

-- ---- whether a store was found

-- where a box that holds a store stands among root boxes, whatever they are, some of them holds one
one_found : (before : List Box) (h : Box) (after : List Box) → is_store_box h ≡ true
    → list_any is_store_box (before ++ h ∷ after) ≡ true
one_found [] h after e = ap (λ t. t || list_any is_store_box after) e
one_found (b ∷ bs) h after e = ap (λ t. is_store_box b || t) (one_found bs h after e) ∙ or_true (is_store_box b)

-- some box holds a store exactly where one was found
any_is : (boxes : List Box) (found : Option Found) → Finds boxes found → list_any is_store_box boxes ≡ is_some found
any_is boxes None h = none_found boxes h
any_is boxes (Some f) h = ap (list_any is_store_box) h.split ∙ one_found h.before h.holder h.after h.is_holder

-- ---- one box more

-- one box more without a part in a store, after others without one, leaves none with one
all_more : (bs : List Box) (b : Box) → AllByRecursion (λ (x : Box). is_other_box x ≡ true) bs → is_other_box b ≡ true
    → AllByRecursion (λ (x : Box). is_other_box x ≡ true) (bs ++ b ∷ [])
all_more [] b s t = (t, tt)
all_more (c ∷ cs) b s t = (s.0, all_more cs b s.1 t)

-- one that has no part in a store changes nothing
finds_other : (boxes : List Box) (b : Box) (found : Option Found) → Finds boxes found → is_other_box b ≡ true
    → Finds (boxes ++ b ∷ []) found
finds_other boxes b None h e = all_more boxes b h e
finds_other boxes b (Some f) h e = record {
  before = h.before;
  holder = h.holder;
  after = h.after ++ b ∷ [];
  split = ap (λ (xs : List Box). xs ++ b ∷ []) h.split ∙ append_assoc h.before (h.holder ∷ h.after) (b ∷ []);
  is_holder = h.is_holder;
  whole = h.whole;
  bytes = h.bytes;
  small = h.small;
  others_before = h.others_before;
  others_after = all_more h.after b h.others_after e;
  from = h.from;
  for = h.for;
}

-- where nothing was found among root boxes, none of them has a part in a store
none_before : (boxes : List Box) (found : Option Found) → Finds boxes found → is_some found ≡ false
    → AllByRecursion (λ (b : Box). is_other_box b ≡ true) boxes
none_before boxes None h e = h
none_before boxes (Some f) h e = absurd (cc (e))

-- a box of another type
pub searched_not : (boxes : List Box) (b : Box) (found : Option Found) → Searched boxes found
    → bytes_eq b.kind uuid_kind ≡ false → Searched (boxes ++ b ∷ []) found
searched_not boxes b found h e =
    record
    { passing = pass_more boxes b h.passing (pass_not boxes b e); finds = finds_other boxes b found h.finds (other_not b e) }

-- a `uuid` box that was passed
pub searched_uuid : (boxes : List Box) (b : Box) (r : RootBox) (old new : Option Found) → Searched boxes old
    → bytes_eq b.kind uuid_kind ≡ true → r.start ≡ boxes_len boxes → r.length ≡ box_len b
    → StepsBy (payload_part (is_some old) b.payload) r b.payload old new → Searched (boxes ++ b ∷ []) new
searched_uuid boxes b r old new h e start len step = go (payload_part (is_some old) b.payload) (sym (part_by (is_some old) b.payload)) step
  where
    u : Bool
    u = bytes_eq (take 16 b.payload) c2pa_user_type

    v : Bool
    v = is_version_zero (content_of b)

    m : Bool
    m = is_for_manifest (content_of b)

    hs : Bool
    hs = has_store_box (content_of b)

    n : ℕ
    n = store_len (content_of b)

    fault : provenance_fault boxes b ≡ faults u v m (is_some old) hs (ltb most_store_bytes n) n (boxes_len boxes)
    fault =
        fault_by boxes b e
        ∙ ap (λ t. faults u v m t hs (ltb most_store_bytes n) n (boxes_len boxes)) (any_is boxes old h.finds)

    go : (q : Part) → tests u v m (is_some old) hs (ltb most_store_bytes n) n ≡ q → StepsBy q r b.payload old new
        → Searched (boxes ++ b ∷ []) new
    go part.Other t s =
        let other = other_by u v m (is_some old) hs (ltb most_store_bytes n) n t in
        subst (Searched (boxes ++ b ∷ [])) (sym s)
        (record { passing = pass_more boxes b h.passing (fault ∙ other_fault u v m (is_some old) hs (ltb most_store_bytes n) n (boxes_len boxes) other); finds = finds_other boxes b old h.finds (other_is b e other) })
    go (part.Holds k) t s =
        let holds : Holder u v m (is_some old) hs (ltb most_store_bytes n) n k (boxes_len boxes) =
        holds_by u v m (is_some old) hs (ltb most_store_bytes n) n k (boxes_len boxes) t in
        let store : take k (drop 37 b.payload) ≡ store_in (content_of b) =
        ap₂ (λ (c : ℕ) (xs : List ℕ). take c xs) holds.len (sym (drop-drop 21 16 b.payload)) in
        let small : n ≤ most_store_bytes = ltb-false most_store_bytes n holds.small in
        let same : k ≡ n = holds.len in
        subst (Searched (boxes ++ b ∷ [])) (sym s) (record {
          passing = pass_more boxes b h.passing (fault ∙ holds.passes);
          finds = record {
            before = boxes;
            holder = b;
            after = [];
            split = refl;
            is_holder = store_is b e holds.is;
            whole = holds.whole;
            bytes = store;
            small = omega (arith, length-take k (drop 37 b.payload), small, same);
            others_before = none_before boxes old h.finds holds.first;
            others_after = tt;
            from = start;
            for = len;
          };
        })
    go part.Bad t s = absurd s
    go part.Second t s = absurd s
    go (part.TooLarge k) t s = absurd s

-- a `uuid` box that fails is the first fault of the file
pub searched_fails : (file : List ℕ) (roots before after : List Box) (b : Box) (r : RootBox) (found : Option Found)
    (e : MediaError) → HasRoots file roots → roots ≡ before ++ b ∷ after → Searched before found
    → bytes_eq b.kind uuid_kind ≡ true → r.start ≡ boxes_len before
    → FailsBy (payload_part (is_some found) b.payload) r e → ProvenanceFault file e
searched_fails file roots before after b r found e has split h kind start fails = record {
  roots = roots;
  has_roots = has;
  before = before;
  bad = b;
  after = after;
  split = split;
  passing = h.passing;
  fails =
      let content : List ℕ = content_of b in
      let old : Bool = is_some found in
      fault_by before b kind ∙ ap₂ (tests_of b) (any_is before found h.finds) (sym start)
      ∙ fails_by (bytes_eq (take 16 b.payload) c2pa_user_type) (is_version_zero content) (is_for_manifest content) old
      (has_store_box content) (ltb most_store_bytes (store_len content)) (store_len content) r
      (payload_part old b.payload) e (sym (part_by old b.payload)) fails;
}

-- nothing is found before the first box
pub searched_none : Searched [] None
searched_none = record { passing = pass_none; finds = tt }
