use Rattle.std.proofs.Common.{take}
use Rattle.c2_label_index.specs.Places.{ArePlaces}
use Rattle.c2_collect.specs.Marked.{box_labels, manifests_in}
use Rattle.c2_collect.proofs.carrying.places_of.Given as goal

-- the places that are kept so far are those of the labels of the first `i` manifests
abbrev pub invariant-loop-i : goal.invariant-loop-i
invariant-loop-i l = ArePlaces (take l.i (box_labels (manifests_in l.side))) l.places
