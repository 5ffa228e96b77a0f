use Rattle.std.proofs.Common.{take}
use Rattle.c2_label_index.specs.Places.{ArePlaces}
use Rattle.c2_check_claim.specs.Labelled.{box_labels}
use Rattle.c2_check_claim.proofs.labelled.places_of_boxes.Given as goal

-- the places are those where the labels of the boxes that were passed stand first
abbrev pub invariant-loop-k : goal.invariant-loop-k
invariant-loop-k l = ArePlaces (box_labels (take l.k l.boxes)) l.places
