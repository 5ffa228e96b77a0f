-- The size of a new store in its place, and its binding.
use Rattle.std.proofs.Common.{inl, inr, refl}
use Rattle.c2_spec.specs.Jpeg.Writing as jpeg
use Rattle.c2_new_file_spec.specs.Laws.{BindingsAreKnown, PlaceSizeIsFixed}
use Rattle.c2_new_file_spec.specs.Places.{in_boxes, in_segments}
use Rattle.c2_new_file_spec.proofs.BmffLaws.{a_new_bmff_store_has_one_length_store}
use Rattle.c2_new_file_spec.proofs.StoreLaws.{a_new_store_has_one_length}

-- the size of a store depends neither on its range nor on digests
pub place_size : PlaceSizeIsFixed
place_size hash c (in_segments segments number) len digest message sized long =
    a_new_store_has_one_length hash c (jpeg.insert_place segments) len digest message sized long
place_size hash c (in_boxes roots) len digest message sized long =
    a_new_bmff_store_has_one_length_store hash c digest message sized long

-- the binding of a new store is of a kind that is known
pub known_binding : BindingsAreKnown
known_binding alg (in_segments segments number) len digest = record { label = inl refl; item = refl }
known_binding alg (in_boxes roots) len digest = record { label = inr refl; item = refl }
