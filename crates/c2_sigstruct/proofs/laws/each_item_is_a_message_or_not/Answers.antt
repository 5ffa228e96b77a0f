use Rattle.c2_sigstruct.proofs.TheLaws.{each_item_is_a_message_or_not}
use Rattle.c2_sigstruct.proofs.laws.each_item_is_a_message_or_not.Goals as goal

pub returns : goal.returns
returns c = each_item_is_a_message_or_not
