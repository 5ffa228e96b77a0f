-- The segments that are kept while the range of a store grows.
use Rattle.std.proofs.Common.{◌≡◌, ℕ, ◌+◌, ◌-◌, ◌<◌, ◌≤◌, inl, inr, Bool, true, false, ◌&&◌, leb, List, [], ◌∷◌, ◌++◌, length, Option, Some, None, Ok, IfSome, refl, sym, ap, ap₂, ◌∙◌, subst, arith, append_assoc}
use Rattle.std.proofs.lemmas.Bool.{le-leb, lt-leb}
use Rattle.std.proofs.lemmas.List.{append-nil}
use Rattle.std.specs.List.{flat_map}
use Rattle.c2_base.specs.declared.limits.TheConstants.{FILE_LEN_LIMIT}
use Rattle.c2_base.specs.declared.media.Found.{Found}
use Rattle.c2_base.specs.declared.values.Range.{Range}
use Rattle.c2_spec.specs.Jpeg.Places.{CanSkip}
use Rattle.c2_spec.specs.Jpeg.Segments.{Segment, segment_bytes, place_after}
use Rattle.c2_spec.specs.Jpeg.Store.{EndsWithin, HasSmallStore}
use Rattle.c2_jpegseg_survey.specs.Answers.{IsWalkedOr}
use Rattle.c2_jpegseg_segments.specs.Fronts.{IsFront}
use Rattle.c2_jpegseg_survey.specs.Keeping.{IsKept, HasKept, run_range}
use Rattle.c2_jpegseg_segments.specs.Passing.{HasPassed, Marks, Passes, is_inside, kept, kept_from, kept_with}
use Rattle.c2_jpegseg_segments.specs.Runs.{Collected, RunGoes}
use Rattle.c2_jpegseg_segments.specs.Segments.{IsExtent, segment_of}
use Rattle.c2_jpegseg_survey.specs.Surveys.{IsSurveyOf, range_of}
use Rattle.c2_jpegseg_segments.specs.Walks.{Walks}
use Rattle.c2_jpegseg_survey.specs.declared.keeping.Kept.{Kept}
use Rattle.c2_jpegseg_segments.specs.declared.marker.Extent.{Extent}
use Rattle.c2_jpegseg_survey.specs.declared.surveying.Surveyed.{Surveyed}
use Rattle.c2_jpegseg_segments.proofs.Kept.{none_inside, one_more, outside_kept, passes-next}
use Rattle.c2_jpegseg_segments.proofs.SegmentLists.{place-append}
use Rattle.c2_lemmas.proofs.Bools.{and_true}

-- where the second of two tests fails, not both hold
second : (a b : Bool) → b ≡ false → (a && b) ≡ false
second true b h = h
second false b h = refl

-- the packets of a run end at the walk's place or before it
run_before : (file : List ℕ) (at : ℕ) (r : Collected) → Walks file at (Some r) → (r.start ≤ r.end) × (r.end ≤ at)
run_before file at r w =
    let h = w.state in
    let run : List Segment = h.first ∷ h.others in
    let front : place_after (h.before ++ run) ≡ place_after h.before + length (flat_map segment_bytes run) =
    place-append h.before run in
    let whole : place_after w.segments ≡ place_after ((h.before ++ run) ++ h.after) =
    ap place_after (h.split ∙ sym (append_assoc h.before run h.after)) in
    let more : place_after ((h.before ++ run) ++ h.after) ≡ place_after (h.before ++ run) + length (flat_map segment_bytes h.after) =
    place-append (h.before ++ run) h.after in
    (omega (arith, h.from, h.to, front), omega (arith, h.to, whole, more, w.place))

-- the packets of a run that waits for more end at the walk's place
run_open : (file : List ℕ) (at : ℕ) (r : Collected) → Walks file at (Some r) → length r.store < r.total → r.end ≡ at
run_open file at r w short =
    let h = w.state in
    let whole : w.segments ≡ h.before ++ (h.first ∷ h.others) =
    h.split ∙ ap (λ (x : List Segment). h.before ++ (h.first ∷ h.others ++ x)) (h.closed short) ∙ ap (λ (x : List Segment). h.before ++ x) (append-nil (h.first ∷ h.others)) in
    h.to ∙ sym (ap place_after whole) ∙ sym w.place

-- the segments that are kept are the same with two ranges that begin at one place and go on as far as the segments or further
kept_same : (one two : Range) (at : ℕ) (ss : List Segment) → one.start ≡ two.start
    → at + length (flat_map segment_bytes ss) ≤ one.start + one.length
    → at + length (flat_map segment_bytes ss) ≤ two.start + two.length → kept_from one at ss ≡ kept_from two at ss
kept_same one two at [] from a b = refl
kept_same one two at (s ∷ ss) from a b =
    let end : ℕ = at + length (segment_bytes s) in
    let more : length (flat_map segment_bytes (s ∷ ss)) ≡ length (segment_bytes s) + length (flat_map segment_bytes ss) = one_more s ss in
    let high : leb (end - one.start) one.length ≡ leb (end - two.start) two.length =
    le-leb (end - one.start) one.length (omega (arith, a, more))
    ∙ sym (le-leb (end - two.start) two.length (omega (arith, b, more))) in
    let test : is_inside one at end ≡ is_inside two at end =
    ap₂ (λ (x y : Bool). x && y) (ap (λ n. leb n at) from) high in
    ap (λ t. kept_with t s (kept_from one end ss)) test
    ∙ ap (λ (ts : List Segment). kept_with (is_inside two at end) s ts)
    (kept_same one two end ss from (omega (arith, a, more)) (omega (arith, b, more)))

-- what is so of the segments that one range keeps is so of those that another one keeps, where they are the same
passes_over : (file : List ℕ) (one two : Range) (at : ℕ) (State : List Segment → Type 0) (p : Passes file one at State)
    → kept one p.segments ≡ kept two p.segments → Passes file two at State
passes_over file one two at State p same =
    record
    { segments = p.segments; begins = p.begins; place = p.place; inside = p.inside; state = subst State same p.state }

-- a segment behind the run is kept
behind_kept : (file : List ℕ) (at end : ℕ) (run : Option Collected) → Walks file at run → at < end
    → is_inside (run_range run) at end ≡ false
behind_kept file at end None w later = second (leb 0 at) (leb (end - 0) 0) (lt-leb (end - 0) 0 (omega (arith, later)))
behind_kept file at end (Some r) w later =
    let b : (r.start ≤ r.end) × (r.end ≤ at) = run_before file at r w in
    second (leb r.start at) (leb (end - r.start) (r.end - r.start))
    (lt-leb (end - r.start) (r.end - r.start) (omega (arith, b.0, b.1, later)))

-- one more segment, which lies in the range or doesn't
on_by : (file : List ℕ) (range : Range) (at : ℕ) (State New : List Segment → Type 0) (e : Extent) (taken : Bool)
    → Passes file range at State → (x : IsExtent file at e) → is_inside range at e.end ≡ taken
    → ((ss : List Segment) → State ss → New (ss ++ kept_with taken (segment_of x.fill file e) []))
    → Passes file range e.end New
on_by file range at State New e taken p x test on =
    passes-next file range at State New e p x
    (λ ss h. subst (λ b. New (ss ++ kept_with b (segment_of x.fill file e) [])) (sym test) (on ss h))

-- Whichever way the run goes, what is so of the segments outside it goes on.
pub run-goes : (taken : Bool) (file : List ℕ) (at : ℕ) (run new : Option Collected) (e : Extent) (State New : List Segment → Type 0)
    → Passes file (run_range run) at State → Walks file at run → (x : IsExtent file at e)
    → RunGoes taken at e.end run new
    → ((ss : List Segment) → State ss → New (ss ++ kept_with taken (segment_of x.fill file e) []))
    → Passes file (run_range new) e.end New
run-goes false file at run new e State New p w x goes on =
    subst (λ (r : Option Collected). Passes file (run_range r) e.end New) (sym goes)
    (on_by file (run_range run) at State New e false p x (behind_kept file at e.end run w x.later) on)
run-goes true file at None None e State New p w x goes on = absurd goes
run-goes true file at None (Some r) e State New p w x goes on =
    let from : r.start ≡ at = goes.0 in
    let to : r.end ≡ e.end = goes.1 in
    let range : Range = run_range (Some r) in
    let all : kept (run_range None) p.segments ≡ p.segments = none_inside (run_range None) 2 p.segments refl in
    let before : kept range p.segments ≡ p.segments =
    outside_kept range 2 p.segments (inl (omega (arith, from, p.place))) in
    let inside : is_inside range at e.end ≡ true =
    and_true (leb r.start at) (leb (e.end - r.start) (r.end - r.start)) (le-leb r.start at (omega (arith, from)))
    (le-leb (e.end - r.start) (r.end - r.start) (omega (arith, to))) in
    on_by file range at State New e true (passes_over file (run_range None) range at State p (all ∙ sym before)) x
    inside on
run-goes true file at (Some r) None e State New p w x goes on = absurd goes
run-goes true file at (Some r) (Some new) e State New p w x goes on =
    let from : new.start ≡ r.start = goes.0 in
    let to : new.end ≡ e.end = goes.1 in
    let open_ : r.end ≡ at = run_open file at r w goes.2 in
    let b : (r.start ≤ r.end) × (r.end ≤ at) = run_before file at r w in
    let range : Range = run_range (Some new) in
    let later : at < e.end = x.later in
    let same : kept (run_range (Some r)) p.segments ≡ kept range p.segments =
    kept_same (run_range (Some r)) range 2 p.segments (sym from) (omega (arith, open_, b.0, p.place))
    (omega (arith, from, to, open_, b.0, later, p.place)) in
    let inside : is_inside range at e.end ≡ true =
    and_true (leb new.start at) (leb (e.end - new.start) (new.end - new.start))
    (le-leb new.start at (omega (arith, from, b.0, b.1)))
    (le-leb (e.end - new.start) (new.end - new.start) (omega (arith, to))) in
    on_by file range at State New e true (passes_over file (run_range (Some r)) range at State p same) x inside on

-- ---- at the end of the walk

-- what follows of the segments that are kept
passed_as : (file : List ℕ) (skip : Range) (P Q : List Segment → Type 0) → ((ss : List Segment) → P ss → Q ss)
    → HasPassed file skip P → HasPassed file skip Q
passed_as file skip P Q follows h = record {
  at = h.at;
  passes =
      record
      { segments = h.passes.segments; begins = h.passes.begins; place = h.passes.place; inside = h.passes.inside; state = follows (kept skip h.passes.segments) h.passes.state };
  ends = h.ends;
}

-- the front of the segments that were kept is that of the file
pub kept-front : (file : List ℕ) (skip : Range) (k : Kept) → HasKept file skip k → HasPassed file skip (IsFront k.front)
kept-front file skip k h = passed_as file skip (IsKept k) (IsFront k.front) (λ ss i. i.front) h

-- the marks of the segments that were kept are those of the file
pub kept-marks : (file : List ℕ) (skip : Range) (k : Kept) → HasKept file skip k → HasPassed file skip (Marks k.marks)
kept-marks file skip k h = passed_as file skip (IsKept k) (Marks k.marks) (λ ss i. i.marks) h

-- the range of a store that the walk found may be passed over
pub can-skip : (file : List ℕ) (found : Option Found) → IsWalkedOr file (Ok found) → CanSkip file (range_of found)
can-skip file None h = inl refl
can-skip file (Some f) h = inr (f.store, h)

-- what is so of every survey
pub survey-of : (len size : ℕ) (found : Option Found) (s : Surveyed) → size ≡ len → size < FILE_LEN_LIMIT
    → s.found ≡ found → IfSome found (EndsWithin size) → IfSome found HasSmallStore
    → s.point.size ≡ size - (range_of found).length → s.point.start ≤ s.point.size → IsSurveyOf len s
survey-of len size found s same small is range store left inside = record {
  small = omega (arith, small, same);
  range =
      subst (λ (f : Option Found). IfSome f (EndsWithin len)) (sym is)
      (subst (λ n. IfSome found (EndsWithin n)) same range);
  store = subst (λ (f : Option Found). IfSome f HasSmallStore) (sym is) store;
  size =
      left ∙ ap (λ n. n - (range_of found).length) same ∙ ap (λ (f : Option Found). len - (range_of f).length) (sym is);
  inside = inside;
}
