use Rattle.c2_cmd_front.proofs.TheLaws.{each_front_outcome_embed, each_front_outcome_plan}
use Rattle.c2_cmd_front.proofs.laws.each_front_outcome.Goals as goal

pub returns-clause-plan : goal.returns-clause-plan
returns-clause-plan c = each_front_outcome_plan

pub returns-clause-embed : goal.returns-clause-embed
returns-clause-embed c = each_front_outcome_embed
