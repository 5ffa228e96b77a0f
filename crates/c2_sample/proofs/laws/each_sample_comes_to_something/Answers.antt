use Rattle.c2_sample.proofs.TheLaws.{each_sample_comes_to_something_asks, each_sample_comes_to_something_sample}
use Rattle.c2_sample.proofs.laws.each_sample_comes_to_something.Goals as goal

pub returns-clause-sample : goal.returns-clause-sample
returns-clause-sample c = each_sample_comes_to_something_sample

pub returns-clause-asks : goal.returns-clause-asks
returns-clause-asks c = each_sample_comes_to_something_asks
