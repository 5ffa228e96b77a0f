use Rattle.std.proofs.Common.{length, ◌≡◌, ◌∙◌, sym, subst, arith, Option, Ok, Err}
use Rattle.c2_base.specs.declared.media.Found.{Found}
use Rattle.c2_base.specs.declared.media.MediaError.TheVariants.{FileTooLarge}
use Rattle.c2_spec.specs.Jpeg.Store.{FirstJpegFault, IsJpegRefusal, too_large, not_media}
use Rattle.c2_jpegseg_segments.specs.Findings.{IsBegun}
use Rattle.c2_jpegseg_survey.specs.Answers.{IsFoundOr, IsWalkError}
use Rattle.c2_jpegseg_survey.specs.Surveys.{HasPacketPoint, less_found}
use Rattle.c2_jpegseg_segments.specs.Windows.{Shows}
use Rattle.c2_jpegseg_survey.proofs.Answers.{cause_of, found_by_walk, refusal_of}
use Rattle.c2_jpegseg_survey.proofs.RunRanges.{can-skip, survey-of}
use Rattle.c2_jpegseg_survey.proofs.surveying.search.Goals as goal

pub returns-then-size-ge-FILE_LEN_LIMIT-clause-found : goal.returns-then-size-ge-FILE_LEN_LIMIT-clause-found
returns-then-size-ge-FILE_LEN_LIMIT-clause-found g c file known =
    let size : length file ≡ c.in_ok-size.size =
    g.met.S.Source.known_len c.args.source.now file known ∙ sym c.in_ok-size.ensures.length in
    subst (λ n. FirstJpegFault file (FileTooLarge n)) size (too_large (omega arith))

pub is_jpeg-requires-clause-shows : goal.is_jpeg-requires-clause-shows
is_jpeg-requires-clause-shows g c =
    subst (λ n. Shows n (g.S.Source.known c.size.new.self) c.in_ok-window.window)
    (c.in_ok-size.ensures.length ∙ sym c.in_ok-size.ensures.stays.same_len)
    (c.in_ok-window.ensures (g.S.Source.known c.size.new.self))

pub returns-then-not-branch-clause-found : goal.returns-then-not-branch-clause-found
returns-then-not-branch-clause-found g c file known =
    let size : length file ≡ c.in_ok-size.size =
    g.met.S.Source.known_len c.args.source.now file known ∙ sym c.in_ok-size.ensures.length in
    not_media (omega arith)
    (subst (IsBegun file) c.if-not-branch.true (c.in_ok-is_jpeg.ensures.begun file (c.in_ok-size.ensures.stays.same_bytes ∙ known)))

-- the walk ends
pub returns-in-Ok-clause-found : goal.returns-in-Ok-clause-found
returns-in-Ok-clause-found g c file known =
    let size : length file ≡ c.in_ok-size.size =
    g.met.S.Source.known_len c.args.source.now file known ∙ sym c.in_ok-size.ensures.length in
    let walked =
    c.in-Ok.ensures.walk.walked file
    (c.in_ok-is_jpeg.ensures.stays.same_bytes ∙ c.in_ok-size.ensures.stays.same_bytes ∙ known) in
    subst (λ (f : Option Found). IsFoundOr file (Ok f)) (sym c.with_point.ensures.found) (found_by_walk file (Ok c.in-Ok.found) (omega arith) walked)

pub returns-in-Ok-clause-point : goal.returns-in-Ok-clause-point
returns-in-Ok-clause-point g c file known =
    let size : length file ≡ c.in_ok-size.size =
    g.met.S.Source.known_len c.args.source.now file known ∙ sym c.in_ok-size.ensures.length in
    let there = c.in_ok-is_jpeg.ensures.stays.same_bytes ∙ c.in_ok-size.ensures.stays.same_bytes ∙ known in
    subst (λ (f : Option Found). HasPacketPoint (less_found f file) c.with_point.result.point)
    (sym c.with_point.ensures.found)
    (c.with_point.ensures.point file size (omega arith) (c.in-Ok.ensures.kept file there)
    (can-skip file c.in-Ok.found (c.in-Ok.ensures.walk.walked file there)))

pub returns-in-Ok-clause-inside : goal.returns-in-Ok-clause-inside
returns-in-Ok-clause-inside g c =
    survey-of _ c.in_ok-size.size c.in-Ok.found c.with_point.result c.in_ok-size.ensures.length (omega arith)
    c.with_point.ensures.found c.in-Ok.ensures.walk.within c.in-Ok.ensures.walk.store
    c.with_point.ensures.size c.with_point.ensures.inside

-- it is refused
pub returns-clause-found : goal.returns-clause-found
returns-clause-found g c file known =
    let size : length file ≡ c.in_ok-size.size =
    g.met.S.Source.known_len c.args.source.now file known ∙ sym c.in_ok-size.ensures.length in
    found_by_walk file (Err c.in-Err.error) (omega arith) (c.in-Err.ensures.walk.walked file (c.in_ok-is_jpeg.ensures.stays.same_bytes ∙ c.in_ok-size.ensures.stays.same_bytes ∙ known))

pub returns-clause-refusal : goal.returns-clause-refusal
returns-clause-refusal g c =
    subst (λ n. IsJpegRefusal n c.in-Err.error) c.in_ok-size.ensures.length
    (refusal_of c.in_ok-size.size c.in-Err.error c.in-Err.ensures.walk.error)

pub returns-clause-cause : goal.returns-clause-cause
returns-clause-cause g c =
    cause_of _ _ _ _ c.in-Err.error (omega (arith, c.in_ok-size.ensures.length, c.if-size-ge-FILE_LEN_LIMIT.false))
    (c.in_ok-is_jpeg.ensures.cause.ok ∙ c.in_ok-size.ensures.cause.ok)
    (subst (λ n. IsWalkError n c.in-Err.error) c.in_ok-size.ensures.length c.in-Err.ensures.walk.error)
    c.in-Err.ensures.walk.cause
