use Rattle.c2_container.proofs.Causes.{jpeg_cause}
use Rattle.c2_container.proofs.Finding.{packets_refused, packets_said}
use Rattle.c2_container.proofs.find.locate_packets.Goals as goal

-- a JPEG
pub returns-in-Ok-clause-said : goal.returns-in-Ok-clause-said
returns-in-Ok-clause-said g c =
    λ file known is. packets_said file c.in-Ok.surveyed is (c.in-Ok.ensures.found file known) (c.in-Ok.ensures.only file known) (c.in-Ok.ensures.point file known)

-- one that is refused
pub returns-in-Err-clause-said : goal.returns-in-Err-clause-said
returns-in-Err-clause-said g c =
    λ file known is. packets_refused file c.in-Err.error is (c.in-Err.ensures.found file known) (c.in-Err.ensures.only file known)

-- for a cause
pub returns-in-Err-clause-cause : goal.returns-in-Err-clause-cause
returns-in-Err-clause-cause g c = jpeg_cause _ _ _ c.in-Err.error c.in-Err.ensures.refusal c.in-Err.ensures.cause
