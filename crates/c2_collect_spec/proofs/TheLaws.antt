-- The laws of this crate, for the proofs of the crates above it.
use Rattle.c2_collect_spec.proofs.Accepted.{accepted, refusals_standing}
use Rattle.c2_collect_spec.proofs.Asked.{one_asks, one_plan_asks, some_asks, some_plan_asks}
use Rattle.c2_collect_spec.proofs.Collecting.{all_approved, collected_meets, collected_reaches, joined_reaches, of_either}
use Rattle.c2_collect_spec.proofs.Contents.{content_one, some_collects}
use Rattle.c2_collect_spec.proofs.Filed.{collected_content_meets, collected_place, file_reaches}
use Rattle.c2_collect_spec.proofs.FirstRefused.{first_redaction_is_least}
use Rattle.c2_collect_spec.proofs.Lengths.{collected_fits, collected_short}
use Rattle.c2_collect_spec.proofs.Made.{made_meets}
use Rattle.c2_collect_spec.proofs.Making.{collected_made}
use Rattle.c2_collect_spec.proofs.OneOutcome.{one_file, one_plan}
use Rattle.c2_collect_spec.proofs.Order.{built_unrefused, nothing_refused, pair_collects, pair_unrefused}
use Rattle.c2_collect_spec.proofs.SomeOutcome.{some_file as some_file_too, some_plan}
use Rattle.c2_collect_spec.proofs.Stores.{accepted_rooted, none_rooted, rooted_join, rooted_taken, valid_rooted}
use Rattle.c2_collect_spec.proofs.Unrefused.{unrefused_made, unrefused_plan}
use Rattle.c2_collect_spec.proofs.Whole.{each_meets}
use Rattle.c2_collect_spec.proofs.WorkedFiles.{some_succeeds}
use Rattle.c2_collect_spec.proofs.WorkedPair.{some_file}
use Rattle.c2_collect_spec.specs.Asked.{OneCollectAsks, OneCollectPlanAsks, SomeCollectAsks, SomeCollectPlanAsks}
use Rattle.c2_collect_spec.specs.Collected.{CollectedContentIsOne, CollectedStoreMeets, CollectedStoreReaches, JoinedIsReached, QuestionsAreApproved, QuestionsAreOfEither, SomeContentCollects}
use Rattle.c2_collect_spec.specs.Contents.{CollectedContentMeets}
use Rattle.c2_collect_spec.specs.Files.{CollectedFileMeets, CollectedFileReaches}
use Rattle.c2_collect_spec.specs.Lengths.{CollectedIsShort, CollectedStoresFit}
use Rattle.c2_collect_spec.specs.Made.{CollectedIsMade, MadeCollectedMeets, SomeCollectSucceeds, UnrefusedIsCollectMade, UnrefusedIsCollectPlanned}
use Rattle.c2_collect_spec.specs.Order.{CollectablePairIsUnrefused, CollectedIsNotRefused, NothingRefusedIsCollected, SomeFileIsCollected, UnrefusedPairCollects}
use Rattle.c2_collect_spec.specs.Outcomes.{OneCollectMade, OneCollectPlan, SomeCollectMade, SomeCollectPlan}
use Rattle.c2_collect_spec.specs.Refusals.{FirstRedactionIsLeastBy, RedactionsAreAcceptedBy, RefusalsAreStanding}
use Rattle.c2_collect_spec.specs.Stores.{AcceptedFileIsRooted, NoStoreIsRooted, RootedStoreIsTaken, RootedStoresJoin, ValidStoreIsRooted}
use Rattle.c2_collect_spec.specs.Whole.{EachCollectedFileMeets}

-- redactions of a chain of which none is refused may be made, and the rules on redactions hold of them
pub redactions_of_a_chain_may_be_made_accepted : RedactionsAreAcceptedBy
redactions_of_a_chain_may_be_made_accepted = accepted

-- redactions of a chain of which none is refused may be made, and the rules on redactions hold of them
pub redactions_of_a_chain_may_be_made_first : FirstRedactionIsLeastBy
redactions_of_a_chain_may_be_made_first = first_redaction_is_least

-- redactions of a chain of which none is refused may be made, and the rules on redactions hold of them
pub redactions_of_a_chain_may_be_made_standing : RefusalsAreStanding
redactions_of_a_chain_may_be_made_standing = refusals_standing

-- a valid store can be joined with another, seen from its last manifest
pub stores_join_valid : ValidStoreIsRooted
stores_join_valid = valid_rooted

-- a valid store can be joined with another, seen from its last manifest
pub stores_join_none : NoStoreIsRooted
stores_join_none = none_rooted

-- a valid store can be joined with another, seen from its last manifest
pub stores_join_join : RootedStoresJoin
stores_join_join = rooted_join

-- a valid store can be joined with another, seen from its last manifest
pub stores_join_taken : RootedStoreIsTaken
stores_join_taken = rooted_taken

-- the store of an accepted file can be joined with another, seen from its last manifest, and it has one
pub an_accepted_file_can_be_collected : AcceptedFileIsRooted
an_accepted_file_can_be_collected = accepted_rooted

-- what is reached from the last manifests of two stores that may be joined is what was reached in the one or in the other
pub what_is_joined_is_reached_reached : JoinedIsReached
what_is_joined_is_reached_reached = joined_reaches

-- what is reached from the last manifests of two stores that may be joined is what was reached in the one or in the other
pub what_is_joined_is_reached_questions : QuestionsAreOfEither
what_is_joined_is_reached_questions = of_either

-- what is reached from the last manifests of two stores that may be joined is what was reached in the one or in the other
pub what_is_joined_is_reached_approved : QuestionsAreApproved
what_is_joined_is_reached_approved = all_approved

-- what goes into a new store over two that may be collected is there, and is one
pub what_is_collected_is_one_some : SomeContentCollects
what_is_collected_is_one_some = some_collects

-- what goes into a new store over two that may be collected is there, and is one
pub what_is_collected_is_one_once : CollectedContentIsOne
what_is_collected_is_one_once = content_one

-- a new store over the joined boxes of two stores meets each rule but the verdict on its message and the one on its binding, and asks the new question and then those of the joined chain
pub a_collected_store_meets_the_rules_meets : CollectedStoreMeets
a_collected_store_meets_the_rules_meets = collected_meets

-- a new store over the joined boxes of two stores meets each rule but the verdict on its message and the one on its binding, and asks the new question and then those of the joined chain
pub a_collected_store_meets_the_rules_reaches : CollectedStoreReaches
a_collected_store_meets_the_rules_reaches = collected_reaches

-- the new store that collects from two stores meets each rule but the verdict on its message and the one on its binding, whichever the binding is
pub a_collected_file_meets_the_rules_content : CollectedContentMeets
a_collected_file_meets_the_rules_content = collected_content_meets

-- the new store that collects from two stores meets each rule but the verdict on its message and the one on its binding, whichever the binding is
pub a_collected_file_meets_the_rules_meets : CollectedFileMeets
a_collected_file_meets_the_rules_meets = collected_place

-- the new store that collects from two stores meets each rule but the verdict on its message and the one on its binding, whichever the binding is
pub a_collected_file_meets_the_rules_reaches : CollectedFileReaches
a_collected_file_meets_the_rules_reaches = file_reaches

-- a new store may collect from a media file and another file exactly where the list of what is refused of both is empty
pub two_files_are_refused_or_collected_collects : UnrefusedPairCollects
two_files_are_refused_or_collected_collects = pair_collects

-- a new store may collect from a media file and another file exactly where the list of what is refused of both is empty
pub two_files_are_refused_or_collected_none : CollectablePairIsUnrefused
two_files_are_refused_or_collected_none = pair_unrefused

-- of inputs none of which is refused alone there is a new file that collects, whose message fills what is reserved for it, exactly where the list of all that is refused is empty
pub a_collected_file_is_refused_or_built_built : NothingRefusedIsCollected
a_collected_file_is_refused_or_built_built = nothing_refused

-- of inputs none of which is refused alone there is a new file that collects, whose message fills what is reserved for it, exactly where the list of all that is refused is empty
pub a_collected_file_is_refused_or_built_none : CollectedIsNotRefused
a_collected_file_is_refused_or_built_none = built_unrefused

-- the file of a new store that collects from two files has the new store, and each rule but the verdict on its message holds of it
pub each_collected_file_meets_the_rules : EachCollectedFileMeets
each_collected_file_meets_the_rules = each_meets

-- what goes into a new store that collects from two files is short, so the length of that store is less than 2^64 - 1 where a file is the definition
pub the_length_of_a_collected_store_fits_short : CollectedIsShort
the_length_of_a_collected_store_fits_short = collected_short

-- what goes into a new store that collects from two files is short, so the length of that store is less than 2^64 - 1 where a file is the definition
pub the_length_of_a_collected_store_fits_fits : CollectedStoresFit
the_length_of_a_collected_store_fits_fits = collected_fits

-- some file is built that collects, whatever the hash, where it gives digests and judges approve each question
pub some_file_is_collected : SomeFileIsCollected
some_file_is_collected = some_file

-- over two files that are opened as one thing each, and the same other inputs, a plan comes to one thing, and so does a build
pub a_collected_build_comes_to_one_thing_plan : OneCollectPlan
a_collected_build_comes_to_one_thing_plan = one_plan

-- over two files that are opened as one thing each, and the same other inputs, a plan comes to one thing, and so does a build
pub a_collected_build_comes_to_one_thing_made : OneCollectMade
a_collected_build_comes_to_one_thing_made = one_file

-- over two files whose checks answer something, and any other inputs, a plan comes to something, and so does a build
pub each_collected_build_comes_to_something_plan : SomeCollectPlan
each_collected_build_comes_to_something_plan = some_plan

-- over two files whose checks answer something, and any other inputs, a plan comes to something, and so does a build
pub each_collected_build_comes_to_something_made : SomeCollectMade
each_collected_build_comes_to_something_made = some_file_too

-- over two files that are opened as one thing each, and the same other inputs, a plan asks one list of questions at most, and so does a build
pub a_collected_build_asks_one_list_plan : OneCollectPlanAsks
a_collected_build_asks_one_list_plan = one_plan_asks

-- over two files that are opened as one thing each, and the same other inputs, a plan asks one list of questions at most, and so does a build
pub a_collected_build_asks_one_list_made : OneCollectAsks
a_collected_build_asks_one_list_made = one_asks

-- over two files whose checks answer something, and any other inputs, a plan asks a list of questions, and so does a build
pub each_collected_build_asks_a_list_plan : SomeCollectPlanAsks
each_collected_build_asks_a_list_plan = some_plan_asks

-- over two files whose checks answer something, and any other inputs, a plan asks a list of questions, and so does a build
pub each_collected_build_asks_a_list_made : SomeCollectAsks
each_collected_build_asks_a_list_made = some_asks

-- over two files whose checks answer something, inputs on which no refusal has its condition come to bytes that are to be signed, and to a new file
pub unrefused_inputs_are_collected_plan : UnrefusedIsCollectPlanned
unrefused_inputs_are_collected_plan = unrefused_plan

-- over two files whose checks answer something, inputs on which no refusal has its condition come to bytes that are to be signed, and to a new file
pub unrefused_inputs_are_collected_made : UnrefusedIsCollectMade
unrefused_inputs_are_collected_made = unrefused_made

-- a file that a build comes to has the new store of its definition, which collects from both files, and meets each rule but the verdict on its message
pub a_made_collected_file_meets_the_rules : MadeCollectedMeets
a_made_collected_file_meets_the_rules = made_meets

-- the file of a definition, a message and two files whose new store collects from both is what a build over these comes to, with the range of that store
pub a_collected_file_is_made : CollectedIsMade
a_collected_file_is_made = collected_made

-- some build succeeds whose new store collects, whatever the hash, where it gives digests and judges approve each question
pub some_collected_build_succeeds : SomeCollectSucceeds
some_collected_build_succeeds = some_succeeds
