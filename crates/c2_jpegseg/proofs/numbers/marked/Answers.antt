use Rattle.std.proofs.lemmas.Result.{err_from_is_err_and}
use Rattle.std.proofs.Common.{length, drop, ◌≡◌, ◌∙◌, ◌++◌, [], subst, refl, arith}
use Rattle.c2_spec.specs.Jpeg.Segments.{MarkerFault}
use Rattle.c2_spec.specs.Jpeg.Places.{SegmentsFault}
use Rattle.c2_jpegseg_segments.specs.Passing.{Marks, kept_with}
use Rattle.c2_jpegseg_segments.specs.Segments.{segment_of}
use Rattle.c2_jpegseg_segments.specs.Windows.{Shows}
use Rattle.c2_jpegseg_segments.proofs.Outside.{or_outside-map}
use Rattle.c2_jpegseg_segments.proofs.Kept.{passes-start, passes-next, passes-refuse}
use Rattle.c2_jpegseg_segments.proofs.Starts.{begins_media}
use Rattle.c2_jpegseg_segments.proofs.WindowLemmas.{shows_same}
use Rattle.c2_jpegseg.proofs.numbers.marked.Goals as goal

pub segments-init : goal.segments-init
segments-init g c = record {
  inside = c.requires.start.inside;
  stays = record { same_len = refl; same_bytes = refl; later = omega arith };
  count = refl;
  shows = c.requires.shows;
  sized = c.no_marks-marks.ensures.sized;
  passes = λ file known.
      let w = c.requires.start.begun file known in
      passes-start file c.args.skip (Marks c.no_marks-marks.result) w.inside
      (begins_media file w.segments _ w.begins) c.no_marks-marks.ensures;
}

pub returns-in_err-extent-clause-fault : goal.returns-in_err-extent-clause-fault
returns-in_err-extent-clause-fault g c =
    let before = c.segments.invariant in
    let p = err_from_is_err_and c.from_residual.result c.from_residual.ensures.1 in
    let e = c.in_err-extent.field-0.0 in
    rw (p.1, p.2) (λ file known.
    let size : length file ≡ g.S.Source.len c.args.source.now =
    g.met.S.Source.known_len c.args.source.now file known in
    or_outside-map e (MarkerFault c.segments.at (drop c.segments.at file) e) (SegmentsFault file e)
    (passes-refuse file c.args.skip c.segments.at (Marks c.segments.marks) e
    (omega (arith, size, c.requires.start.whole, c.requires.start.bounded)) (before.passes file known))
    (c.in_err-extent.ensures.read.next file (before.stays.same_bytes ∙ known)))

pub segments-preserved : goal.segments-preserved
segments-preserved g c =
    let before = c.segments.invariant in
    let next = rw c.in-Segment.is at c.in_ok-extent.ensures.read.next in
    let by = rw c.in-Segment.is at c.in_ok-extent.ensures.read.inside in
    let found = c.in_ok-extent.ensures in
    let done = c.in_ok-note_segment.ensures in
    let new = c.note_segment.new.marks in
    record {
      inside = by.inside;
      stays = record {
        same_len = done.stays.same_len ∙ found.stays.same_len ∙ before.stays.same_len;
        same_bytes = done.stays.same_bytes ∙ found.stays.same_bytes ∙ before.stays.same_bytes;
        later = omega (arith, done.stays.later, found.stays.later, before.stays.later);
      };
      count = done.cause.ok ∙ found.read.count ∙ before.count;
      shows = shows_same Shows _ _ _ _ _ (found.stays.same_len ∙ before.stays.same_len)
          (found.stays.same_bytes ∙ before.stays.same_bytes) done.shows;
      sized = done.sized;
      passes = λ file known.
          let known' = before.stays.same_bytes ∙ known in
          let extent = next file known' in
          let s = segment_of extent.fill file c.in-Segment.extent in
          let notes = done.notes file (found.stays.same_bytes ∙ known') extent.fill in
          passes-next file c.args.skip c.segments.at (Marks c.segments.marks) (Marks new) c.in-Segment.extent
          (before.passes file known) extent
          (λ ss m. subst (λ b. Marks new (ss ++ kept_with b s [])) c.is_inside-passed.ensures (notes ss m));
    }
