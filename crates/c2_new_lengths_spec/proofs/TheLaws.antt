-- The laws of this crate, for the proofs of the crates above it.
use Rattle.c2_new_lengths_spec.proofs.DefinitionLengths.{definition_is_short}
use Rattle.c2_new_lengths_spec.proofs.StoreLengths.{bmff_most, jpeg_most, store_fits, store_most}
use Rattle.c2_new_lengths_spec.specs.Lengths.{BmffStoresAreShort, DefinitionsAreShort, JpegStoresAreShort, StoresAreShort, StoresFit}

-- of a definition that was read of a file no text is longer than a definition file may be, and its assertions hold thrice that together at most
pub a_definition_is_short : DefinitionsAreShort
a_definition_is_short = definition_is_short

-- a new store of a short definition, of no more than two stores' bytes taken over of older ones, with ingredients such as a manifest may have, which name manifests of no longer labels, and of a short binding has fewer than 2^40 bytes
pub a_new_store_is_short_any : StoresAreShort
a_new_store_is_short_any = store_most

-- a new store of a short definition, of no more than two stores' bytes taken over of older ones, with ingredients such as a manifest may have, which name manifests of no longer labels, and of a short binding has fewer than 2^40 bytes
pub a_new_store_is_short_jpeg : JpegStoresAreShort
a_new_store_is_short_jpeg = jpeg_most

-- a new store of a short definition, of no more than two stores' bytes taken over of older ones, with ingredients such as a manifest may have, which name manifests of no longer labels, and of a short binding has fewer than 2^40 bytes
pub a_new_store_is_short_film : BmffStoresAreShort
a_new_store_is_short_film = bmff_most

-- where a file is the definition, and no more than two stores' bytes are taken over of older ones, with ingredients of those, the length of the new store is less than 2^64 - 1
pub the_length_of_a_new_store_fits : StoresFit
the_length_of_a_new_store_fits = store_fits
