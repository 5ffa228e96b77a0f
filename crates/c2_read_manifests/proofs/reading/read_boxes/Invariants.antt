use Rattle.std.proofs.Common.{map, take}
use Rattle.std.specs.List.{AllZip}
use Rattle.c2_spec.specs.C2pa.Manifest.{superbox_at}
use Rattle.c2_rules.specs.Readings.{IsReadBox}
use Rattle.c2_read_manifests.proofs.reading.read_boxes.Given as goal

-- what is found so far is what the boxes at the first `i` indices are read as
abbrev pub invariant-loop-i : goal.invariant-loop-i
invariant-loop-i l = AllZip IsReadBox (map (superbox_at l.tree) (take l.i l.boxes)) l.found.items
