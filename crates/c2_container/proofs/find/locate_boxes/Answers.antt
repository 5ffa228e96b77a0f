use Rattle.std.proofs.Common.{◌∙◌}
use Rattle.c2_container.proofs.Causes.{roots_cause, store_cause}
use Rattle.c2_container.proofs.Finding.{roots_refused, store_refused, store_said}
use Rattle.c2_container.proofs.find.locate_boxes.Goals as goal

-- a root box is refused
pub returns-in-Err-clause-said : goal.returns-in-Err-clause-said
returns-in-Err-clause-said g c =
    λ file known is. roots_refused file c.in-Err.error is (c.in-Err.ensures.refused file known)

-- a store, or none
pub returns-in-Ok-locate-clause-said : goal.returns-in-Ok-locate-clause-said
returns-in-Ok-locate-clause-said g c = λ file known is.
    store_said file c.in-Ok.roots c.in-Ok-locate.found is (c.in-Ok.ensures.found file known) (c.in-Ok-locate.ensures.found file (c.in-Ok.ensures.stays.same_bytes ∙ known))

-- a C2PA box is refused
pub returns-in-Err-locate-clause-said : goal.returns-in-Err-locate-clause-said
returns-in-Err-locate-clause-said g c = λ file known is.
    store_refused file c.in-Ok.roots c.in-Err-locate.error is (c.in-Ok.ensures.found file known) (c.in-Err-locate.ensures.found file (c.in-Ok.ensures.stays.same_bytes ∙ known))

-- the number of a refusal of a root box
pub returns-in-Err-clause-cause : goal.returns-in-Err-clause-cause
returns-in-Err-clause-cause g c = roots_cause _ _ _ c.in-Err.error c.in-Err.ensures.cause

-- that of a refusal of a C2PA box
pub returns-in-Err-locate-clause-cause : goal.returns-in-Err-locate-clause-cause
returns-in-Err-locate-clause-cause g c =
    store_cause _ _ _ _ _ c.in-Err-locate.error c.in-Ok.ensures.stays.same_len c.in-Ok.ensures.count
    c.in-Ok.ensures.small c.in-Err-locate.ensures.cause
