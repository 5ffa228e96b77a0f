use Rattle.c2_build_refusals.proofs.Outside.{outside_all}
use Rattle.c2_build_drafts.proofs.numbers.numbers_of.Goals as goal

-- the tests are those of the length that was told
pub returns-in-Ok-draft_at-clause-passed : goal.returns-in-Ok-draft_at-clause-passed
returns-in-Ok-draft_at-clause-passed c =
    λ hash content base p is at point. c.in-Ok-draft_at.ensures.passed content base p (c.in-Ok.ensures.len hash content is) at point

pub returns-in-Ok-draft_at-clause-draft : goal.returns-in-Ok-draft_at-clause-draft
returns-in-Ok-draft_at-clause-draft c =
    λ hash content is. c.in-Ok-draft_at.ensures.draft content (c.in-Ok.ensures.len hash content is)

pub returns-in-Err-draft_at-clause-refused : goal.returns-in-Err-draft_at-clause-refused
returns-in-Err-draft_at-clause-refused c =
    λ hash content base p is has at point. outside_all c.in-Err-draft_at.error (c.in-Err-draft_at.ensures.refused content base p (c.in-Ok.ensures.len hash content is) has at point)
