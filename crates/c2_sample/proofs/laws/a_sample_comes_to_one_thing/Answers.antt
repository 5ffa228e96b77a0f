use Rattle.c2_sample.proofs.TheLaws.{a_sample_comes_to_one_thing_asks, a_sample_comes_to_one_thing_sample}
use Rattle.c2_sample.proofs.laws.a_sample_comes_to_one_thing.Goals as goal

pub returns-clause-sample : goal.returns-clause-sample
returns-clause-sample c = a_sample_comes_to_one_thing_sample

pub returns-clause-asks : goal.returns-clause-asks
returns-clause-asks c = a_sample_comes_to_one_thing_asks
