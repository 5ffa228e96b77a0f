use Rattle.c2_new_signature.proofs.TheLaws.{each_message_is_accepted_or_refused_for_one_test}
use Rattle.c2_new_signature.proofs.laws.each_message_is_accepted_or_refused_for_one_test.Goals as goal

pub returns : goal.returns
returns c = each_message_is_accepted_or_refused_for_one_test
