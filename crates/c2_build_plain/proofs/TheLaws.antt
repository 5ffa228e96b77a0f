-- The laws of this crate, for the proofs of the crates above it.
use Rattle.c2_rules.proofs.Approving.{approved_is_valid}
use Rattle.c2_build_plain.proofs.NewFile.{built_meets}
use Rattle.c2_build_plain.proofs.OneBuild.{one_embedding, one_plan}
use Rattle.c2_build_plain.proofs.Questioned.{one_embed_asks, one_plan_asks, some_embed_asks, some_plan_asks}
use Rattle.c2_build_plain.proofs.SomeBuild.{some_embedding, some_plan}
use Rattle.c2_build_plain.proofs.Unrefused.{unrefused_embedding, unrefused_plan}
use Rattle.c2_build_plain.proofs.Worked.{some_succeeds}
use Rattle.c2_build_plain.proofs.WorkedAgain.{again_succeeds}
use Rattle.c2_build_plain.proofs.WorkedBmff.{bmff_succeeds}
use Rattle.c2_build_plain.specs.Asked.{OneEmbedAsks, OnePlanAsks, SomeEmbedAsks, SomePlanAsks}
use Rattle.c2_build_plain.specs.Meeting.{ApprovedIsValid, BuiltFileMeets, OneEmbedding, OnePlan, SomeBmffSucceeds, SomeBuildOverStoreSucceeds, SomeBuildSucceeds}
use Rattle.c2_build_plain.specs.Meeting.{SomeEmbedding, SomePlan, UnrefusedIsEmbedded, UnrefusedIsPlanned}

-- the same inputs ask one list of questions at most
pub a_build_asks_one_list_plan : OnePlanAsks
a_build_asks_one_list_plan = one_plan_asks

-- the same inputs ask one list of questions at most
pub a_build_asks_one_list_embedding : OneEmbedAsks
a_build_asks_one_list_embedding = one_embed_asks

-- each list of inputs asks a list of questions
pub each_build_asks_a_list_plan : SomePlanAsks
each_build_asks_a_list_plan = some_plan_asks

-- each list of inputs asks a list of questions
pub each_build_asks_a_list_embedding : SomeEmbedAsks
each_build_asks_a_list_embedding = some_embed_asks

-- the same inputs come to one thing
pub a_build_comes_to_one_thing_plan : OnePlan
a_build_comes_to_one_thing_plan = one_plan

-- the same inputs come to one thing
pub a_build_comes_to_one_thing_embedding : OneEmbedding
a_build_comes_to_one_thing_embedding = one_embedding

-- each list of inputs comes to something
pub each_build_comes_to_something_plan : SomePlan
each_build_comes_to_something_plan = some_plan

-- each list of inputs comes to something
pub each_build_comes_to_something_embedding : SomeEmbedding
each_build_comes_to_something_embedding = some_embedding

-- inputs on which no refusal has its condition come to bytes that are to be signed, and to a new file
pub unrefused_inputs_are_built_plan : UnrefusedIsPlanned
unrefused_inputs_are_built_plan = unrefused_plan

-- inputs on which no refusal has its condition come to bytes that are to be signed, and to a new file
pub unrefused_inputs_are_built_embedding : UnrefusedIsEmbedded
unrefused_inputs_are_built_embedding = unrefused_embedding

-- a store whose other rules hold lacks nothing but the approval of its questions
pub approval_of_each_question_is_enough : ApprovedIsValid
approval_of_each_question_is_enough = approved_is_valid

-- a new file has its new store in the new range, where every rule holds of it apart from the verdict on the new message
pub a_new_file_meets_the_rules : BuiltFileMeets
a_new_file_meets_the_rules = built_meets

-- some inputs come to a new file
pub some_build_succeeds : SomeBuildSucceeds
some_build_succeeds = some_succeeds

-- some inputs with a BMFF file come to a new file
pub some_bmff_succeeds : SomeBmffSucceeds
some_bmff_succeeds = bmff_succeeds

-- some inputs with a file that has a store come to a new file, for each container, where the hash gives digests and each question is approved
pub some_build_over_a_store_succeeds : SomeBuildOverStoreSucceeds
some_build_over_a_store_succeeds = again_succeeds
