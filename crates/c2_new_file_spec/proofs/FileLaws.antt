-- The laws of this crate, for the proofs of the crates above it.
use Rattle.c2_new_file_spec.proofs.FileOnes.{one_left, one_place}
use Rattle.c2_new_file_spec.proofs.Sizes.{known_binding, place_size}
use Rattle.c2_new_file_spec.proofs.Somes.{fresh_place, left_container, left_place, some_left}
use Rattle.c2_new_file_spec.specs.Laws.{BindingsAreKnown, FreshHasPlace, LeftHasContainer, LeftHasPlace, OneLeft, OnePlace, PlaceSizeIsFixed, SomeLeft}

-- a file has one place for a new store
pub a_place_is_one : OnePlace
a_place_is_one = one_place

-- one file is left of a media file without its store
pub what_is_left_is_one : OneLeft
what_is_left_is_one = one_left

-- the length of a new store depends neither on its range nor on digests
pub a_new_store_has_one_length_in_its_place : PlaceSizeIsFixed
a_new_store_has_one_length_in_its_place = place_size

-- the binding of a new store is of a kind that is known, an item
pub bindings_are_known : BindingsAreKnown
bindings_are_known = known_binding

-- a media file without a store has a place for one
pub each_media_has_a_place_fresh : FreshHasPlace
each_media_has_a_place_fresh = fresh_place

-- a media file without a store has a place for one
pub each_media_has_a_place_left : SomeLeft
each_media_has_a_place_left = some_left

-- a media file without a store has a place for one
pub each_media_has_a_place_container : LeftHasContainer
each_media_has_a_place_container = left_container

-- a media file without a store has a place for one
pub each_media_has_a_place_place : LeftHasPlace
each_media_has_a_place_place = left_place
