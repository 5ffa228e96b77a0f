use Rattle.std.proofs.Common.{◌≡◌, map, take}
use Rattle.c2_spec.specs.C2pa.Manifest.{manifest_boxes}
use Rattle.c2_store.proofs.reading.manifests_of.Given as goal

abbrev pub invariant-loop-i : goal.invariant-loop-i
invariant-loop-i l = l.found.items ≡ map (manifest_boxes l.tree) (take l.i-index l.boxes)
