-- The laws of this crate, for the proofs of the crates above it.
use Rattle.c2_new_front_spec.proofs.Building.{front_has, front_is, front_known, front_once}
use Rattle.c2_new_front_spec.proofs.InFront.{front_found, front_roots, front_told}
use Rattle.c2_new_front_spec.proofs.Made.{chunks_or_refused, made_meets}
use Rattle.c2_new_front_spec.proofs.Meeting.{fresh_front}
use Rattle.c2_new_front_spec.proofs.OneOutcome.{one_file, one_plan}
use Rattle.c2_new_front_spec.proofs.Order.{built_not_refused, can_fresh, can_unrefused, nothing_refused, unrefused_can}
use Rattle.c2_new_front_spec.proofs.SomeOutcome.{some_file, some_plan}
use Rattle.c2_new_front_spec.proofs.Splits.{front_split}
use Rattle.c2_new_front_spec.proofs.Staying.{front_bytes, front_chunks}
use Rattle.c2_new_front_spec.proofs.Unrefused.{unrefused_made, unrefused_plan}
use Rattle.c2_new_front_spec.specs.Fronts.{CoveredTextIsKnown, FrontHasItsStore, OneFront, SomeFront}
use Rattle.c2_new_front_spec.specs.InFront.{FrontHasRoots, OnlyOthersAreCovered, StoreIsPutInFront}
use Rattle.c2_new_front_spec.specs.Made.{ChunksAreThereOrRefused, MadeFrontMeets, UnrefusedIsMade, UnrefusedIsPlanned}
use Rattle.c2_new_front_spec.specs.Meeting.{BytesOfFrontStay, ChunksOfFrontStay, FreshFrontMeets}
use Rattle.c2_new_front_spec.specs.Order.{BuiltIsNotRefused, NothingRefusedIsBuilt, PlannedIsFresh, PlannedIsNotRefused, UnrefusedCanBePlanned}
use Rattle.c2_new_front_spec.specs.Outcomes.{OneFrontMade, OneFrontPlan, SomeFrontMade, SomeFrontPlan}
use Rattle.c2_new_front_spec.specs.Splits.{FrontIsSplit}

-- a file that a store is put into after its first root box has the root boxes that it had and the store's box there
pub a_store_in_front_is_found_roots : FrontHasRoots
a_store_in_front_is_found_roots = front_roots

-- a file that a store is put into after its first root box has the root boxes that it had and the store's box there
pub a_store_in_front_is_found_found : StoreIsPutInFront
a_store_in_front_is_found_found = front_found

-- a file that a store is put into after its first root box has the root boxes that it had and the store's box there
pub a_store_in_front_is_found_text : OnlyOthersAreCovered
a_store_in_front_is_found_text = front_told

-- there is one file whose new store comes right after the file type box and binds all that its exclusions leave of the file, and in whose chunk tables the places of the media from there on are moved
pub a_built_front_is_one_some : SomeFront
a_built_front_is_one_some = front_is

-- there is one file whose new store comes right after the file type box and binds all that its exclusions leave of the file, and in whose chunk tables the places of the media from there on are moved
pub a_built_front_is_one_once : OneFront
a_built_front_is_one_once = front_once

-- where bytes are put into the media with moved places, behind its file type box, in the box of a store and as many as those of the new store, the file's root boxes are known, and so is what the exclusions leave of it
pub the_covered_text_is_known_first : CoveredTextIsKnown
the_covered_text_is_known_first = front_known

-- the file has the new store in the new range, and without that range it is the media with moved places
pub a_built_front_has_its_store : FrontHasItsStore
a_built_front_has_its_store = front_has

-- the place right behind the first root box of a BMFF file without a store is a split of it
pub a_front_is_a_split : FrontIsSplit
a_front_is_a_split = front_split

-- the file has the new store, meets each rule but the verdict on its message, and asks one question
pub a_fresh_front_meets_the_rules : FreshFrontMeets
a_fresh_front_meets_the_rules = fresh_front

-- each field of a chunk table that told a place of the media after its file type box tells where that byte is in the new file, which has the same byte there unless it is in a field itself
pub chunks_of_a_built_front_stay : ChunksOfFrontStay
chunks_of_a_built_front_stay = front_chunks

-- all bytes of the media that lie in no moved field of a chunk table are in the new file, in their order
pub bytes_of_a_built_front_stay : BytesOfFrontStay
bytes_of_a_built_front_stay = front_bytes

-- of a BMFF file without a store a new file can be planned exactly where nothing is refused of a plan
pub a_front_is_refused_or_planned_planned : UnrefusedCanBePlanned
a_front_is_refused_or_planned_planned = unrefused_can

-- of a BMFF file without a store a new file can be planned exactly where nothing is refused of a plan
pub a_front_is_refused_or_planned_none : PlannedIsNotRefused
a_front_is_refused_or_planned_none = can_unrefused

-- of a BMFF file without a store a new file can be planned exactly where nothing is refused of a plan
pub a_front_is_refused_or_planned_fresh : PlannedIsFresh
a_front_is_refused_or_planned_fresh = can_fresh

-- of a BMFF file without a store and a message there is a new file, whose message fills what is reserved for it, exactly where nothing is refused
pub a_front_is_refused_or_built_built : NothingRefusedIsBuilt
a_front_is_refused_or_built_built = nothing_refused

-- of a BMFF file without a store and a message there is a new file, whose message fills what is reserved for it, exactly where nothing is refused
pub a_front_is_refused_or_built_none : BuiltIsNotRefused
a_front_is_refused_or_built_none = built_not_refused

-- over a media file that is opened as one thing, and the same other inputs, a plan comes to one thing, and so does a build
pub a_front_comes_to_one_thing_plan : OneFrontPlan
a_front_comes_to_one_thing_plan = one_plan

-- over a media file that is opened as one thing, and the same other inputs, a plan comes to one thing, and so does a build
pub a_front_comes_to_one_thing_made : OneFrontMade
a_front_comes_to_one_thing_made = one_file

-- over a media file that is opened as something, and any other inputs, a plan comes to something, and so does a build
pub each_front_comes_to_something_plan : SomeFrontPlan
each_front_comes_to_something_plan = some_plan

-- over a media file that is opened as something, and any other inputs, a plan comes to something, and so does a build
pub each_front_comes_to_something_made : SomeFrontMade
each_front_comes_to_something_made = some_file

-- a file that a build comes to is the media with the new store of its definition after its first root box and with moved places
pub a_made_front_meets_the_rules : MadeFrontMeets
a_made_front_meets_the_rules = made_meets

-- inputs on which no refusal has its condition come to something
pub unrefused_fronts_are_made_plan : UnrefusedIsPlanned
unrefused_fronts_are_made_plan = unrefused_plan

-- inputs on which no refusal has its condition come to something
pub unrefused_fronts_are_made_made : UnrefusedIsMade
unrefused_fronts_are_made_made = unrefused_made

-- a build comes to one refusal by its name, or to a new file in which each field of a chunk table that told a place of the media from the new store's on tells where the same byte is, unless that byte is in a field itself
pub chunks_are_there_or_refused : ChunksAreThereOrRefused
chunks_are_there_or_refused = chunks_or_refused
