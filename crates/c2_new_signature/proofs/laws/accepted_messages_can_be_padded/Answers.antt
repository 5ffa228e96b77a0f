use Rattle.c2_new_signature.proofs.TheLaws.{accepted_messages_can_be_padded}
use Rattle.c2_new_signature.proofs.laws.accepted_messages_can_be_padded.Goals as goal

pub returns : goal.returns
returns c = accepted_messages_can_be_padded
