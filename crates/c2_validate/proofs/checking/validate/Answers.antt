use Rattle.c2_validate.proofs.TheLaws.{a_file_answers_by_what_it_is_opened_as_answer}
use Rattle.std.proofs.Common.{map, refl, subst, ◌∙◌}
use Rattle.c2_spec.specs.Located.{absent, refused}
use Rattle.c2_spec.specs.Judges.Panel.{panel_says}
use Rattle.c2_rules.specs.declared.answer.Answer.TheVariants as answer
use Rattle.c2_calls_spec.specs.Asks.{AsksKnown}
use Rattle.c2_calls_spec.proofs.PanelLemmas.{hears_early, hears_nobody, hears_same}
use Rattle.c2_opening.specs.Opened.{IsFound}
use Rattle.c2_validate.specs.Boxes.{MediaAsks}
use Rattle.c2_validate.specs.Checked.{validate_heard}
use Rattle.c2_validate.specs.Validation.{FileAsks}
use Rattle.c2_validate.proofs.CheckLemmas.{part_heard}
use Rattle.c2_validate.proofs.FileLemmas.{found_answered, known_absent, known_media, known_refused, opened_absent, opened_refused}
use Rattle.c2_validate.proofs.checking.validate.Goals as goal

-- ---- the source failed, or memory ran out

pub returns-in-Err-clause-panel : goal.returns-in-Err-clause-panel
returns-in-Err-clause-panel g c =
    hears_early _ _ _ validate_heard (AsksKnown (g.S.Source.known c.args.source.now) (FileAsks g.H.Hashing.digest_of))
    c.args.judges.now c.in-Err.error (part_heard _ _ c.in-Err.error c.in-Err.ensures.cause)

-- ---- the file has a store

pub returns-in-Here-clause-answer : goal.returns-in-Here-clause-answer
returns-in-Here-clause-answer g c = λ file known.
    found_answered g.H.Hashing.digest_of
    (panel_says (map (λ j. (goal.Judge-dyn g (j.vtable, j.value)).says j.value) c.args.judges.now.items))
    file c.in-Here.media c.check_media.result (g.met.S.Source.known_bytes c.args.source.now file known)
    (subst (IsFound file) c.in-Here.is (c.in-Ok.ensures.found file known))
    (c.check_media.ensures.answer file (c.in-Ok.ensures.stays.same_bytes ∙ known))

pub returns-in-Here-clause-panel : goal.returns-in-Here-clause-panel
returns-in-Here-clause-panel g c =
    hears_same _ _ _ validate_heard (AsksKnown (g.S.Source.known c.args.source.now) (FileAsks g.H.Hashing.digest_of))
    (MediaAsks g.H.Hashing.digest_of c.in-Here.media) c.args.judges.now c.check_media.new.judges c.check_media.result
    (λ qs asks. known_media (g.S.Source.known c.args.source.now) g.H.Hashing.digest_of
    (panel_says (map (λ j. (goal.Judge-dyn g (j.vtable, j.value)).says j.value) c.args.judges.now.items))
    c.in-Here.media qs (λ file known. subst (IsFound file) c.in-Here.is (c.in-Ok.ensures.found file known)) asks)
    c.check_media.ensures.panel

-- ---- it has none

pub returns-in-NoStore-clause-answer : goal.returns-in-NoStore-clause-answer
returns-in-NoStore-clause-answer g c = λ file known.
    a_file_answers_by_what_it_is_opened_as_answer g.H.Hashing.digest_of _ file absent answer.NoStore
    (opened_absent file _ (subst (IsFound file) c.in-NoStore.is (c.in-Ok.ensures.found file known))) refl

pub returns-in-NoStore-clause-panel : goal.returns-in-NoStore-clause-panel
returns-in-NoStore-clause-panel g c =
    hears_nobody _ _ _ validate_heard (AsksKnown (g.S.Source.known c.args.source.now) (FileAsks g.H.Hashing.digest_of))
    c.args.judges.now _
    (λ qs asks. known_absent (g.S.Source.known c.args.source.now) g.H.Hashing.digest_of _ qs
    (λ file known. opened_absent file _ (subst (IsFound file) c.in-NoStore.is (c.in-Ok.ensures.found file known))) asks)

-- ---- its container is refused

pub returns-clause-answer : goal.returns-clause-answer
returns-clause-answer g c = λ file known.
    a_file_answers_by_what_it_is_opened_as_answer g.H.Hashing.digest_of _ file
    (refused c.in-Refused.reason c.in-Refused.number) (answer.Refused c.in-Refused.reason c.in-Refused.number)
    (opened_refused file c.in-Refused.reason c.in-Refused.number
    (subst (IsFound file) c.in-Refused.is (c.in-Ok.ensures.found file known))) refl

pub returns-clause-panel : goal.returns-clause-panel
returns-clause-panel g c =
    hears_nobody _ _ _ validate_heard (AsksKnown (g.S.Source.known c.args.source.now) (FileAsks g.H.Hashing.digest_of))
    c.args.judges.now _
    (λ qs asks. known_refused (g.S.Source.known c.args.source.now) g.H.Hashing.digest_of _ c.in-Refused.reason
    c.in-Refused.number qs
    (λ file known. opened_refused file c.in-Refused.reason c.in-Refused.number
    (subst (IsFound file) c.in-Refused.is (c.in-Ok.ensures.found file known))) asks)
