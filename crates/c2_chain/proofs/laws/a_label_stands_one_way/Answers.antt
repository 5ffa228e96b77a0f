use Rattle.c2_chain.proofs.TheLaws.{a_label_stands_one_way}
use Rattle.c2_chain.proofs.laws.a_label_stands_one_way.Goals as goal

pub returns : goal.returns
returns c = a_label_stands_one_way
