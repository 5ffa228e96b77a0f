use Rattle.c2_layout.proofs.TheLaws.{a_claim_of_parts_is_legal}
use Rattle.c2_layout.proofs.laws.a_claim_of_parts_is_legal.Goals as goal

pub returns : goal.returns
returns c = a_claim_of_parts_is_legal
