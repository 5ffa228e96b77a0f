-- The laws of this crate, for the proofs of the crates above it.
use Rattle.c2_sample.proofs.EachSample.{each_sample, each_sample_asks}
use Rattle.c2_sample.proofs.OneSample.{one_sample, one_sample_asks}
use Rattle.c2_sample.specs.Sample.{EachSample, EachSampleAsks, OneSample, OneSampleAsks}

-- a sample of so many pieces has one outcome, and asks one list of questions
pub a_sample_comes_to_one_thing_sample : OneSample
a_sample_comes_to_one_thing_sample = one_sample

-- a sample of so many pieces has one outcome, and asks one list of questions
pub a_sample_comes_to_one_thing_asks : OneSampleAsks
a_sample_comes_to_one_thing_asks = one_sample_asks

-- under a hash that gives digests, so many pieces come to something, and ask a list of questions
pub each_sample_comes_to_something_sample : EachSample
each_sample_comes_to_something_sample = each_sample

-- under a hash that gives digests, so many pieces come to something, and ask a list of questions
pub each_sample_comes_to_something_asks : EachSampleAsks
each_sample_comes_to_something_asks = each_sample_asks
