use Rattle.std.proofs.Common.{length, ◌≡◌, ◌∙◌, sym, subst, arith}
use Rattle.c2_base.specs.declared.media.MediaError.TheVariants.{FileTooLarge}
use Rattle.c2_spec.specs.Jpeg.Places.{SegmentsFault, too_large, not_media}
use Rattle.c2_jpegseg_segments.specs.Findings.{IsBegun}
use Rattle.c2_jpegseg_segments.specs.Fronts.{IsFront}
use Rattle.c2_jpegseg.specs.Peeks.{Peeks}
use Rattle.c2_jpegseg_segments.proofs.Fronts.{has-place}
use Rattle.c2_jpegseg_segments.proofs.Kept.{walked_segments}
use Rattle.c2_jpegseg.proofs.place.insert_place.Goals as goal

pub returns-then-size-ge-FILE_LEN_LIMIT-clause-fault : goal.returns-then-size-ge-FILE_LEN_LIMIT-clause-fault
returns-then-size-ge-FILE_LEN_LIMIT-clause-fault g c file known =
    let size : length file ≡ c.in_ok-size.size =
    g.met.S.Source.known_len c.args.source.now file known ∙ sym c.in_ok-size.ensures.length in
    subst (λ n. SegmentsFault file (FileTooLarge n)) size (too_large (omega arith))

pub is_jpeg-requires-clause-shows : goal.is_jpeg-requires-clause-shows
is_jpeg-requires-clause-shows g c =
    subst (λ n. Peeks n (g.S.Source.known c.size.new.self) c.new-peek.result)
    (c.in_ok-size.ensures.length ∙ sym c.in_ok-size.ensures.stays.same_len)
    (c.new-peek.ensures (g.S.Source.known c.size.new.self))

pub returns-then-not-branch-clause-fault : goal.returns-then-not-branch-clause-fault
returns-then-not-branch-clause-fault g c file known =
    let size : length file ≡ c.in_ok-size.size =
    g.met.S.Source.known_len c.args.source.now file known ∙ sym c.in_ok-size.ensures.length in
    not_media (omega arith)
    (subst (IsBegun file) c.if-not-branch.true (c.in_ok-is_jpeg.ensures.begun file (c.in_ok-size.ensures.stays.same_bytes ∙ known)))

pub returns-clause-place : goal.returns-clause-place
returns-clause-place g c file known =
    let size : length file ≡ c.in_ok-size.size =
    g.met.S.Source.known_len c.args.source.now file known ∙ sym c.in_ok-size.ensures.length in
    has-place file c.args.skip c.in_ok-front.front c.min.result (omega arith)
    (c.in_ok-front.ensures.front file (c.in_ok-is_jpeg.ensures.stays.same_bytes ∙ c.in_ok-size.ensures.stays.same_bytes ∙ known))
    (λ le. omega (arith, le, size, c.min.ensures, c.saturating_sub.ensures))

-- the walk came to the end of the segments
pub returns-clause-fault : goal.returns-clause-fault
returns-clause-fault g c file known =
    let size : length file ≡ c.in_ok-size.size =
    g.met.S.Source.known_len c.args.source.now file known ∙ sym c.in_ok-size.ensures.length in
    walked_segments file c.args.skip (IsFront c.in_ok-front.front) (omega arith)
    (c.in_ok-front.ensures.front file (c.in_ok-is_jpeg.ensures.stays.same_bytes ∙ c.in_ok-size.ensures.stays.same_bytes ∙ known))
