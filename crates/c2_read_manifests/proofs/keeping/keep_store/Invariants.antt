use Rattle.std.proofs.Common.{map, take}
use Rattle.std.specs.List.{AllZip}
use Rattle.c2_spec.specs.C2pa.Manifest.{manifest_at}
use Rattle.c2_rules.specs.Readings.{IsReading}
use Rattle.c2_read_manifests.proofs.keeping.keep_store.Given as goal

-- what is kept so far is a reading of each of the first `i` manifests, in their order
abbrev pub invariant-loop-i : goal.invariant-loop-i
invariant-loop-i l = AllZip IsReading (map (manifest_at l.tree) (take l.i l.store)) l.kept.items
