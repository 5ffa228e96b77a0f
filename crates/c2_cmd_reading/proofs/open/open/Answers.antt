use Rattle.c2_cmd_reading.proofs.Replying.{stored_refused}
use Rattle.c2_cmd_reading.proofs.open.open.Goals as goal

-- the reply to a file that is refused
pub returns-clause-stored : goal.returns-clause-stored
returns-clause-stored g c =
    λ file known. stored_refused file c.in_ok-media.field-0 c.in-Refused.reason c.in-Refused.number c.in_ok-refused_reply-in-Refused.field-0 (c.in_ok-media.ensures.found file known) c.in-Refused.is c.in_ok-refused_reply-in-Refused.ensures.reply
