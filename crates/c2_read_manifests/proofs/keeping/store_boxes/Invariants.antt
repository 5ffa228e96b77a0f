use Rattle.std.proofs.Common.{◌≡◌, map, take}
use Rattle.c2_spec.specs.C2pa.Manifest.{superbox_at}
use Rattle.c2_read_manifests.proofs.keeping.store_boxes.Given as goal

-- what is found so far are the boxes at the first `i` indices
abbrev pub invariant-loop-i : goal.invariant-loop-i
invariant-loop-i l = l.found.items ≡ map (superbox_at l.tree) (take l.i l.boxes)
