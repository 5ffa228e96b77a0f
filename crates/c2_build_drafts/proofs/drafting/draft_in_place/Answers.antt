use Rattle.std.proofs.Common.{◌≤◌, ap, sym, ℕ, length, ◌∙◌, subst}
use Rattle.c2_without_store.specs.Clears.{cleared, cleared_len}
use Rattle.c2_without_store.specs.declared.clearing.Clearing.{Clearing}
use Rattle.c2_build_place.specs.PointsLeft.{HasInsertPoint}
use Rattle.c2_build_refusals.specs.InsertPoints.{IsInsertPointIn}
use Rattle.c2_build_in_place.proofs.Stored.{cleared_length}
use Rattle.c2_build_drafts.proofs.Placed.{place_is, place_passed, place_refused}
use Rattle.c2_build_drafts.proofs.drafting.draft_in_place.Goals as goal

-- a test at the place fails
pub returns-in-Err-numbers_of-clause-refused : goal.returns-in-Err-numbers_of-clause-refused
returns-in-Err-numbers_of-clause-refused c = λ bytes hash over opened is can.
    let k = c.args.kept in
    let s = c.in-Ok.point in
    let at =
    subst (λ (x : Clearing). HasInsertPoint (cleared x bytes) s.point) (sym c.requires.clears)
    (c.in-Ok.ensures.point bytes opened.found) in
    let size =
    c.in-Ok.ensures.size (length bytes) opened.within
    ∙ ap (λ (x : Clearing). cleared_len x (length bytes)) (sym c.requires.clears)
    ∙ sym (cleared_length k.clearing bytes) in
    place_refused hash bytes c.args.definition.now k s.point s.size over is at size c.in-Err-numbers_of.error
    (c.in-Err-numbers_of.ensures.refused hash over.content over.base at.0 is.content (can s.point) (place_is hash bytes c.args.definition.now k s.point s.size over is at size) at.2)

-- none does
pub returns-in-Ok-numbers_of-clause-passed : goal.returns-in-Ok-numbers_of-clause-passed
returns-in-Ok-numbers_of-clause-passed c = λ bytes hash over opened is.
    let k = c.args.kept in
    let s = c.in-Ok.point in
    let at =
    subst (λ (x : Clearing). HasInsertPoint (cleared x bytes) s.point) (sym c.requires.clears)
    (c.in-Ok.ensures.point bytes opened.found) in
    let size =
    c.in-Ok.ensures.size (length bytes) opened.within
    ∙ ap (λ (x : Clearing). cleared_len x (length bytes)) (sym c.requires.clears)
    ∙ sym (cleared_length k.clearing bytes) in
    let place = place_is hash bytes c.args.definition.now k s.point s.size over is at size in
    place_passed hash bytes c.args.definition.now k s.point s.size over is at size c.in-Ok-numbers_of.draft (c.in-Ok-numbers_of.ensures.passed hash over.content over.base at.0 is.content place at.2)
    (c.in-Ok-numbers_of.ensures.draft hash over.content is.content)

pub returns-in-Ok-numbers_of-clause-small : goal.returns-in-Ok-numbers_of-clause-small
returns-in-Ok-numbers_of-clause-small c = λ len hash within some.
    let draft = c.in-Ok-numbers_of.ensures.draft hash some.content some.is in
    let size = c.in-Ok.ensures.size len within ∙ ap (λ (x : Clearing). cleared_len x len) (sym c.requires.clears) in
    record {
      content = some.content;
      is = some.is;
      small = draft.small;
      size = draft.size ∙ size;
      inside = subst (λ (n : ℕ). c.in-Ok-numbers_of.draft.start ≤ n) (sym draft.size) draft.inside;
      point = subst (λ (n : ℕ). IsInsertPointIn n c.in-Ok.point.point) size c.in-Ok.ensures.inside;
    }
