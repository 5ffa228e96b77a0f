use Rattle.std.proofs.lemmas.Result.{err_from_is_err_and}
use Rattle.std.proofs.lemmas.List.{append-nil}
use Rattle.std.proofs.Common.{length, drop, ◌≡◌, ◌∙◌, ◌++◌, true, false, [], sym, subst, refl, arith}
use Rattle.c2_spec.specs.Jpeg.Segments.{MarkerFault}
use Rattle.c2_spec.specs.Jpeg.Places.{SegmentsFault}
use Rattle.c2_jpegseg_segments.specs.Fronts.{IsFront}
use Rattle.c2_jpegseg_segments.specs.Passing.{kept_with, is_inside}
use Rattle.c2_jpegseg.specs.Peeks.{Peeks}
use Rattle.c2_jpegseg_segments.specs.Segments.{segment_of}
use Rattle.c2_jpegseg_segments.proofs.Outside.{or_outside-map}
use Rattle.c2_jpegseg_segments.proofs.Starts.{begins_media}
use Rattle.c2_jpegseg_segments.proofs.Fronts.{extent_len}
use Rattle.c2_jpegseg_segments.proofs.Kept.{passes-start, passes-next, passes-refuse}
use Rattle.c2_jpegseg_segments.proofs.WindowLemmas.{shows_same}
use Rattle.c2_jpegseg.proofs.place.front_of.Goals as goal

pub segments-init : goal.segments-init
segments-init g c = record {
  inside = c.requires.start.inside;
  before = omega arith;
  stays = record { same_len = refl; same_bytes = refl; later = omega arith };
  count = refl;
  shows = c.requires.shows;
  passes = λ file known.
      let w = c.requires.start.begun file known in
      passes-start file c.args.skip (IsFront (record { end = 2; only = true })) w.inside (begins_media file w.segments _ w.begins) (record { end = refl; only = refl });
}

pub returns-in_err-extent-clause-fault : goal.returns-in_err-extent-clause-fault
returns-in_err-extent-clause-fault g c =
    let before = c.segments.invariant in
    let p = err_from_is_err_and c.from_residual.result c.from_residual.ensures.1 in
    rw (p.1, p.2) (λ file known.
    let size : length file ≡ g.S.Source.len c.args.source.now = g.met.S.Source.known_len c.args.source.now file known in
    or_outside-map c.in_err-extent.field-0.0
    (MarkerFault c.segments.at (drop c.segments.at file) c.in_err-extent.field-0.0)
    (SegmentsFault file c.in_err-extent.field-0.0)
    (passes-refuse file c.args.skip c.segments.at (IsFront c.segments.front) c.in_err-extent.field-0.0 (omega (arith, size, c.requires.start.whole, c.requires.start.bounded)) (before.passes file known))
    (c.in_err-extent.ensures.read.next file (before.stays.same_bytes ∙ known)))

pub segments-preserved-then-not-is_inside : goal.segments-preserved-then-not-is_inside
segments-preserved-then-not-is_inside g c =
    let before = c.segments.invariant in
    let next = rw c.in-Segment.is at c.in_ok-extent.ensures.read.next in
    let by = rw c.in-Segment.is at c.in_ok-extent.ensures.read.inside in
    let found = c.in_ok-extent.ensures in
    record {
      inside = by.inside;
      before = omega (arith, c.grown-front.ensures.most, before.before, by.later);
      stays = record {
        same_len = found.stays.same_len ∙ before.stays.same_len;
        same_bytes = found.stays.same_bytes ∙ before.stays.same_bytes;
        later = omega (arith, found.stays.later, before.stays.later);
      };
      count = found.read.count ∙ before.count;
      shows = shows_same Peeks _ _ _ _ _ before.stays.same_len before.stays.same_bytes found.shows;
      passes = λ file known.
          let extent = next file (before.stays.same_bytes ∙ known) in
          let s = segment_of extent.fill file c.in-Segment.extent in
          let test : false ≡ is_inside c.args.skip c.segments.at c.in-Segment.extent.end =
          sym c.if-not-is_inside.true ∙ c.is_inside.ensures in
          passes-next file c.args.skip c.segments.at (IsFront c.segments.front) (IsFront c.grown-front.result) c.in-Segment.extent (before.passes file known) extent
          (λ ss m. subst (λ b. IsFront c.grown-front.result (ss ++ kept_with b s [])) test
          (c.grown-front.ensures.front ss s refl (extent_len file c.segments.at c.in-Segment.extent extent) m));
    }

pub segments-preserved : goal.segments-preserved
segments-preserved g c =
    let before = c.segments.invariant in
    let next = rw c.in-Segment.is at c.in_ok-extent.ensures.read.next in
    let by = rw c.in-Segment.is at c.in_ok-extent.ensures.read.inside in
    let found = c.in_ok-extent.ensures in
    record {
      inside = by.inside;
      before = omega (arith, before.before, by.later);
      stays = record {
        same_len = found.stays.same_len ∙ before.stays.same_len;
        same_bytes = found.stays.same_bytes ∙ before.stays.same_bytes;
        later = omega (arith, found.stays.later, before.stays.later);
      };
      count = found.read.count ∙ before.count;
      shows = shows_same Peeks _ _ _ _ _ before.stays.same_len before.stays.same_bytes found.shows;
      passes = λ file known.
          let extent = next file (before.stays.same_bytes ∙ known) in
          let s = segment_of extent.fill file c.in-Segment.extent in
          let test : true ≡ is_inside c.args.skip c.segments.at c.in-Segment.extent.end =
          sym c.if-not-is_inside.false ∙ c.is_inside.ensures in
          passes-next file c.args.skip c.segments.at (IsFront c.segments.front) (IsFront c.segments.front) c.in-Segment.extent (before.passes file known) extent
          (λ ss m. subst (λ b. IsFront c.segments.front (ss ++ kept_with b s [])) test (subst (IsFront c.segments.front) (sym (append-nil ss)) m));
    }
