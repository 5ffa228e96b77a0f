use Rattle.c2_new_signature.proofs.TheLaws.{a_message_fills_its_reserve_or_needs_more}
use Rattle.c2_new_signature.proofs.laws.a_message_fills_its_reserve_or_needs_more.Goals as goal

pub returns : goal.returns
returns c = a_message_fills_its_reserve_or_needs_more
