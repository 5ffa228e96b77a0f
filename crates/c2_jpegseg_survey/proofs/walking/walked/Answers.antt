use Rattle.std.proofs.lemmas.Result.{err_from_is_err_and}
use Rattle.std.proofs.Common.{length, ◌≡◌, ◌∙◌, ◌-◌, sym, subst, refl, arith, Some}
use Rattle.c2_spec.specs.Jpeg.Store.{SegmentFault, HasJpegStore}
use Rattle.c2_jpegseg_survey.specs.Keeping.{IsKept, run_range}
use Rattle.c2_jpegseg_segments.specs.Passing.{Passes}
use Rattle.c2_jpegseg_segments.specs.Runs.{collected, all_collected}
use Rattle.c2_jpegseg_segments.specs.Segments.{segment_of}
use Rattle.c2_jpegseg_segments.specs.Walks.{Walks}
use Rattle.c2_jpegseg_segments.proofs.Outside.{or_outside-map}
use Rattle.c2_jpegseg_segments.proofs.Fronts.{extent_len}
use Rattle.c2_jpegseg_segments.proofs.Kept.{passes-start}
use Rattle.c2_jpegseg_survey.proofs.RunRanges.{run-goes}
use Rattle.c2_jpegseg_segments.proofs.Steps.{refuse-marker, refuse-end, store-here, no-store}
use Rattle.c2_jpegseg_segments.proofs.Starts.{begins_media}
use Rattle.c2_jpegseg_segments.specs.Windows.{Shows}
use Rattle.c2_jpegseg_segments.proofs.WindowLemmas.{shows_same}
use Rattle.c2_jpegseg_survey.proofs.walking.walked.Goals as goal

pub segments-init : goal.segments-init
segments-init g c = record {
  inside = c.requires.inside;
  stays = record { same_len = refl; same_bytes = refl; later = omega arith };
  count = refl;
  shows = c.requires.shows;
  before = tt;
  most = omega (arith, c.requires.none.front.end);
  walks = c.requires.begun;
  passes = λ file known.
      let w = c.requires.begun file known in
      passes-start file (record { start = 0; length = 0 }) (IsKept c.args.kept.now) w.inside (begins_media file w.segments _ w.begins) c.requires.none;
}

pub returns-in_err-extent-clause-walked : goal.returns-in_err-extent-clause-walked
returns-in_err-extent-clause-walked g c file known =
    let before = c.segments.invariant in
    let p = err_from_is_err_and c.from_residual.result c.from_residual.ensures.1 in
    rw (p.1, p.2) (or_outside-map c.in_err-extent.field-0.0 _ (SegmentFault file c.in_err-extent.field-0.0) (refuse-marker file c.segments.at (all_collected c.segments.run) c.in_err-extent.field-0.0 (before.walks file known))
    (c.in_err-extent.ensures.read.next file (before.stays.same_bytes ∙ known)))

pub returns-in_err-taken-clause-walked : goal.returns-in_err-taken-clause-walked
returns-in_err-taken-clause-walked g c file known =
    let before = c.segments.invariant in
    let known' = before.stays.same_bytes ∙ known in
    let next = rw c.in-Segment.is at c.in_ok-extent.ensures.read.next in
    let size : length file ≡ g.S.Source.len c.args.source.now = g.met.S.Source.known_len c.args.source.now file known in
    let shows =
    shows_same Shows _ (length file) _ (Some file) _
    (c.in_ok-extent.ensures.stays.same_len ∙ before.stays.same_len ∙ sym size)
    (c.in_ok-extent.ensures.stays.same_bytes ∙ known') c.in_ok-load_packet.ensures.shows in
    let p = err_from_is_err_and c.from_residual-in_err-taken.result c.from_residual-in_err-taken.ensures.1 in
    rw (p.1, p.2) (c.in_err-taken.ensures.err file (record { extent = c.in-Segment.extent; walks = before.walks file known; stands = next file known'; ends = refl; packet_is = c.packet_at-packet.ensures.packet file shows }))

pub segments-preserved : goal.segments-preserved
segments-preserved g c =
    let before = c.segments.invariant in
    let next = rw c.in-Segment.is at c.in_ok-extent.ensures.read.next in
    let by = rw c.in-Segment.is at c.in_ok-extent.ensures.read.inside in
    let found = c.in_ok-extent.ensures in
    let load = c.in_ok-load_packet.ensures in
    record {
      inside = by.inside;
      stays = record {
        same_len = load.stays.same_len ∙ found.stays.same_len ∙ before.stays.same_len;
        same_bytes = load.stays.same_bytes ∙ found.stays.same_bytes ∙ before.stays.same_bytes;
        later = omega (arith, load.stays.later, found.stays.later, before.stays.later);
      };
      count = load.cause.ok ∙ found.read.count ∙ before.count;
      shows =
          shows_same Shows _ _ _ _ _ (found.stays.same_len ∙ before.stays.same_len)
          (found.stays.same_bytes ∙ before.stays.same_bytes) load.shows;
      before = c.in_ok-taken.ensures.ends;
      most = omega (arith, c.pass.ensures.most, before.most, by.later);
      walks = λ file known.
          let known' = before.stays.same_bytes ∙ known in
          let size : length file ≡ g.S.Source.len c.args.source.now =
          g.met.S.Source.known_len c.args.source.now file known in
          let shows =
          shows_same Shows _ (length file) _ (Some file) _
          (found.stays.same_len ∙ before.stays.same_len ∙ sym size) (found.stays.same_bytes ∙ known')
          load.shows in
          c.in_ok-taken.ensures.ok file (record { extent = c.in-Segment.extent; walks = before.walks file known; stands = next file known'; ends = refl; packet_is = c.packet_at-packet.ensures.packet file shows });
      passes = λ file known.
          let known' = before.stays.same_bytes ∙ known in
          let size : length file ≡ g.S.Source.len c.args.source.now =
          g.met.S.Source.known_len c.args.source.now file known in
          let shows =
          shows_same Shows _ (length file) _ (Some file) _
          (found.stays.same_len ∙ before.stays.same_len ∙ sym size) (found.stays.same_bytes ∙ known')
          load.shows in
          let extent = next file known' in
          let s = segment_of extent.fill file c.in-Segment.extent in
          run-goes c.in_ok-taken.taken file c.segments.at (all_collected c.segments.run) (all_collected c.step.new.run) c.in-Segment.extent (IsKept c.segments.kept) (IsKept c.pass.new.self) (before.passes file known) (before.walks file known) extent c.in_ok-taken.ensures.goes
          (λ ss k. c.pass.ensures.kept ss s refl (extent_len file c.segments.at c.in-Segment.extent extent) (c.packet_at-packet.ensures.packet file shows) k);
    }

pub returns-in_default-run-clause-walked : goal.returns-in_default-run-clause-walked
returns-in_default-run-clause-walked g c file known =
    let before = c.segments.invariant in
    let next = rw c.in_default.is at c.in_ok-extent.ensures.read.next in
    let size : length file ≡ g.S.Source.len c.args.source.now = g.met.S.Source.known_len c.args.source.now file known in
    no-store file c.segments.at (omega arith)
    (subst (λ r. Walks file c.segments.at (all_collected r)) c.in_default-run.is (before.walks file known))
    (next file (before.stays.same_bytes ∙ known))

pub returns-then-len-run-clause-walked : goal.returns-then-len-run-clause-walked
returns-then-len-run-clause-walked g c file known =
    let before = c.segments.invariant in
    let next = rw c.in_default.is at c.in_ok-extent.ensures.read.next in
    refuse-end file c.segments.at (collected c.in-Some.run') (subst (λ r. Walks file c.segments.at (all_collected r)) c.in-Some.is (before.walks file known)) (next file (before.stays.same_bytes ∙ known)) (omega arith)

pub returns-clause-walked : goal.returns-clause-walked
returns-clause-walked g c file known =
    let before = c.segments.invariant in
    let next = rw c.in_default.is at c.in_ok-extent.ensures.read.next in
    let size : length file ≡ g.S.Source.len c.args.source.now = g.met.S.Source.known_len c.args.source.now file known in
    subst (HasJpegStore file c.in-Some.run'.start (c.in-Some.run'.end - c.in-Some.run'.start)) (sym c.from_vec.ensures)
    (store-here file c.segments.at (collected c.in-Some.run') (omega arith) (subst (λ r. Walks file c.segments.at (all_collected r)) c.in-Some.is (before.walks file known)) (next file (before.stays.same_bytes ∙ known)) (omega arith))

-- what is kept outside no store
pub returns-in_default-run-clause-kept : goal.returns-in_default-run-clause-kept
returns-in_default-run-clause-kept g c file known =
    let before = c.segments.invariant in
    let next = rw c.in_default.is at c.in_ok-extent.ensures.read.next in
    record {
      at = c.segments.at;
      passes =
          subst (λ r. Passes file (run_range (all_collected r)) c.segments.at (IsKept c.segments.kept))
          c.in_default-run.is (before.passes file known);
      ends = next file (before.stays.same_bytes ∙ known);
    }

-- outside the store
pub returns-clause-kept : goal.returns-clause-kept
returns-clause-kept g c file known =
    let before = c.segments.invariant in
    let next = rw c.in_default.is at c.in_ok-extent.ensures.read.next in
    record {
      at = c.segments.at;
      passes =
          subst (λ r. Passes file (run_range (all_collected r)) c.segments.at (IsKept c.segments.kept)) c.in-Some.is
          (before.passes file known);
      ends = next file (before.stays.same_bytes ∙ known);
    }
