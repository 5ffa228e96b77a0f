use Rattle.std.proofs.Common.{take}
use Rattle.c2_label_index.specs.Places.{ArePlaces}
use Rattle.c2_read_manifests.proofs.NamedLemmas.{labels_of}
use Rattle.c2_read_manifests.proofs.labelled.places_of.Given as goal

-- the places that are kept so far are those of the labels of the first `i` manifests
abbrev pub invariant-loop-i : goal.invariant-loop-i
invariant-loop-i l = ArePlaces (labels_of (take l.i l.kept)) l.places
