use Rattle.std.proofs.Common.{length, ◌≡◌, ◌∙◌, sym, subst, arith}
use Rattle.c2_base.specs.declared.media.MediaError.TheVariants.{FileTooLarge}
use Rattle.c2_spec.specs.Jpeg.Places.{SegmentsFault, too_large, not_media}
use Rattle.c2_jpegseg_segments.specs.Findings.{IsBegun}
use Rattle.c2_jpegseg_segments.specs.Passing.{Marks}
use Rattle.c2_jpegseg_segments.specs.Windows.{Shows}
use Rattle.c2_jpegseg_segments.proofs.Kept.{walked_segments}
use Rattle.c2_jpegseg_segments.proofs.NumberMarks.{has-number}
use Rattle.c2_jpegseg.proofs.numbers.free_number.Goals as goal

pub returns-then-size-ge-FILE_LEN_LIMIT-clause-fault : goal.returns-then-size-ge-FILE_LEN_LIMIT-clause-fault
returns-then-size-ge-FILE_LEN_LIMIT-clause-fault g c file known =
    let size : length file ≡ c.in_ok-size.size =
    g.met.S.Source.known_len c.args.source.now file known ∙ sym c.in_ok-size.ensures.length in
    subst (λ n. SegmentsFault file (FileTooLarge n)) size (too_large (omega arith))

pub is_jpeg-requires-clause-shows : goal.is_jpeg-requires-clause-shows
is_jpeg-requires-clause-shows g c =
    subst (λ n. Shows n (g.S.Source.known c.size.new.self) c.in_ok-window.window)
    (c.in_ok-size.ensures.length ∙ sym c.in_ok-size.ensures.stays.same_len)
    (c.in_ok-window.ensures (g.S.Source.known c.size.new.self))

pub returns-then-not-branch-clause-fault : goal.returns-then-not-branch-clause-fault
returns-then-not-branch-clause-fault g c file known =
    let size : length file ≡ c.in_ok-size.size =
    g.met.S.Source.known_len c.args.source.now file known ∙ sym c.in_ok-size.ensures.length in
    not_media (omega arith)
    (subst (IsBegun file) c.if-not-branch.true (c.in_ok-is_jpeg.ensures.begun file (c.in_ok-size.ensures.stays.same_bytes ∙ known)))

pub returns-clause-number : goal.returns-clause-number
returns-clause-number g c file known =
    let size : length file ≡ c.in_ok-size.size =
    g.met.S.Source.known_len c.args.source.now file known ∙ sym c.in_ok-size.ensures.length in
    let marks = c.in_ok-marks.ensures.marks file
    (c.in_ok-is_jpeg.ensures.stays.same_bytes ∙ c.in_ok-size.ensures.stays.same_bytes ∙ known) in
    has-number file c.args.skip c.in_ok-marks.marks c.least_free.result (omega arith) marks c.least_free.ensures

-- the walk came to the end of the segments
pub returns-clause-fault : goal.returns-clause-fault
returns-clause-fault g c file known =
    let size : length file ≡ c.in_ok-size.size =
    g.met.S.Source.known_len c.args.source.now file known ∙ sym c.in_ok-size.ensures.length in
    walked_segments file c.args.skip (Marks c.in_ok-marks.marks) (omega arith)
    (c.in_ok-marks.ensures.marks file
    (c.in_ok-is_jpeg.ensures.stays.same_bytes ∙ c.in_ok-size.ensures.stays.same_bytes ∙ known))
