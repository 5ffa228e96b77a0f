-- The laws of this crate, for the proofs of the crates above it.
use Rattle.c2_new_file_spec.specs.Meeting.{BaseStays, FreshPlaceMeets, OverPlaceMeets}
use Rattle.c2_new_content_spec.proofs.SplitBoxes.{box_at}
use Rattle.c2_new_content_spec.proofs.Built.{file_built, file_one}
use Rattle.c2_new_content_spec.proofs.Contents.{content_meets, fresh_content, gathered_content, over_content, size_fixed}
use Rattle.c2_new_content_spec.proofs.Holding.{piece_there, store_holds, text_covered, text_one}
use Rattle.c2_new_content_spec.proofs.InPlace.{base_stays, fresh_place, over_place, place_file}
use Rattle.c2_new_content_spec.proofs.Kept.{file_keeps, left_keeps, piece_out}
use Rattle.c2_new_content_spec.proofs.Meeting.{split_meets}
use Rattle.c2_new_content_spec.proofs.Places.{place_split}
use Rattle.c2_new_content_spec.proofs.Refusals.{has_room, room_unrefused, unrefused_built}
use Rattle.c2_new_content_spec.proofs.Texts.{text_at}
use Rattle.c2_new_content_spec.specs.Built.{FileAtSplitIsOne, FileIsBuiltAt}
use Rattle.c2_new_content_spec.specs.Contents.{ContentFileMeets, ContentSizeIsFixed, FreshContentMeets, GatheredContentMeets, OverContentMeets, PlaceFileMeets}
use Rattle.c2_new_content_spec.specs.Holding.{BoxIsAtSplit, BoxesTextIsTold, PieceIsThere, StoreIsAtSplit, TextIsCovered, TextIsOne}
use Rattle.c2_new_content_spec.specs.Instances.{PlaceIsSplit}
use Rattle.c2_new_content_spec.specs.Kept.{LeftKeeps, PieceIsTakenOut, SplitFileKeeps}
use Rattle.c2_new_content_spec.specs.Meeting.{SplitFileMeets}
use Rattle.c2_new_content_spec.specs.Refusals.{RoomIsUnrefused, UnrefusedHasRoom, UnrefusedIsBuilt}

-- where something can be put at a split, there is something to put in of each store
pub a_store_is_at_its_split_piece : PieceIsThere
a_store_is_at_its_split_piece = piece_there

-- where something can be put at a split, there is something to put in of each store
pub a_store_is_at_its_split_store : StoreIsAtSplit
a_store_is_at_its_split_store = store_holds

-- a file that a store is put into at a split meets each rule but its verdict, where the store meets each but its verdict and its binding, and the binding is that of the file
pub a_file_at_a_split_meets_the_rules : SplitFileMeets
a_file_at_a_split_meets_the_rules = split_meets

-- the length of a new store at a split depends on what goes into it and on the length of its message, neither on its range nor on digests
pub a_new_store_has_one_length_at_its_split : ContentSizeIsFixed
a_new_store_has_one_length_at_its_split = size_fixed

-- the file that such a store is put into at a split meets each rule but the verdict on its message, whichever content it is of
pub the_file_of_a_content_meets_the_rules : ContentFileMeets
the_file_of_a_content_meets_the_rules = content_meets

-- the place of a file without a store is a split of it, where the same bytes are put in of each store, and the same text is bound
pub a_place_is_a_split_split : PlaceIsSplit
a_place_is_a_split_split = place_split

-- the place of a file without a store is a split of it, where the same bytes are put in of each store, and the same text is bound
pub a_place_is_a_split_file : PlaceFileMeets
a_place_is_a_split_file = place_file

-- the new store of a definition alone meets each rule but the verdict on its message and the one on its binding, whichever the binding is
pub a_content_meets_the_rules_fresh : FreshContentMeets
a_content_meets_the_rules_fresh = fresh_content

-- the new store of a definition alone meets each rule but the verdict on its message and the one on its binding, whichever the binding is
pub a_content_meets_the_rules_over : OverContentMeets
a_content_meets_the_rules_over = over_content

-- the new store of a definition alone meets each rule but the verdict on its message and the one on its binding, whichever the binding is
pub a_content_meets_the_rules_gathered : GatheredContentMeets
a_content_meets_the_rules_gathered = gathered_content

-- a file that is built in its place, over one without a store or over what is left of a valid one with a store, has the new store, meets each rule but the verdict on its message, and asks the new question and then those of the older store
pub a_file_built_in_its_place_meets_the_rules_fresh : FreshPlaceMeets
a_file_built_in_its_place_meets_the_rules_fresh = fresh_place

-- a file that is built in its place, over one without a store or over what is left of a valid one with a store, has the new store, meets each rule but the verdict on its message, and asks the new question and then those of the older store
pub a_file_built_in_its_place_meets_the_rules_over : OverPlaceMeets
a_file_built_in_its_place_meets_the_rules_over = over_place

-- less the new range, a file that is built in its place is what it was
pub a_base_stays : BaseStays
a_base_stays = base_stays

-- what the new binding covers of the file depends on the store by its length alone
pub the_covered_text_depends_on_a_length_roots : BoxIsAtSplit
the_covered_text_depends_on_a_length_roots = box_at

-- what the new binding covers of the file depends on the store by its length alone
pub the_covered_text_depends_on_a_length_told : BoxesTextIsTold
the_covered_text_depends_on_a_length_told = text_at

-- what the new binding covers of the file depends on the store by its length alone
pub the_covered_text_depends_on_a_length_covered : TextIsCovered
the_covered_text_depends_on_a_length_covered = text_covered

-- what the new binding covers of the file depends on the store by its length alone
pub the_covered_text_depends_on_a_length_once : TextIsOne
the_covered_text_depends_on_a_length_once = text_one

-- there is one file whose new store is put in at a split and whose binding holds the digest of what it covers of the file
pub a_file_built_at_a_split_is_one_is : FileIsBuiltAt
a_file_built_at_a_split_is_one_is = file_built

-- there is one file whose new store is put in at a split and whose binding holds the digest of what it covers of the file
pub a_file_built_at_a_split_is_one_once : FileAtSplitIsOne
a_file_built_at_a_split_is_one_once = file_one

-- the new file, less its new range, is its base
pub a_file_at_a_split_keeps_its_bytes_taken : PieceIsTakenOut
a_file_at_a_split_keeps_its_bytes_taken = piece_out

-- the new file, less its new range, is its base
pub a_file_at_a_split_keeps_its_bytes_left : LeftKeeps
a_file_at_a_split_keeps_its_bytes_left = left_keeps

-- the new file, less its new range, is its base
pub a_file_at_a_split_keeps_its_bytes_file : SplitFileKeeps
a_file_at_a_split_keeps_its_bytes_file = file_keeps

-- something is refused of a store at a split exactly where there is no room for it
pub a_split_is_refused_or_built_room : UnrefusedHasRoom
a_split_is_refused_or_built_room = has_room

-- something is refused of a store at a split exactly where there is no room for it
pub a_split_is_refused_or_built_unrefused : RoomIsUnrefused
a_split_is_refused_or_built_unrefused = room_unrefused

-- something is refused of a store at a split exactly where there is no room for it
pub a_split_is_refused_or_built_built : UnrefusedIsBuilt
a_split_is_refused_or_built_built = unrefused_built
