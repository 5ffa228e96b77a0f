use Rattle.std.proofs.Common.{◌≡◌, drop}
use Rattle.std.specs.List.{flat_map}
use Rattle.c2_spec.specs.C2pa.Manifest.{first_refusal, manifest_tests}
use Rattle.c2_store.proofs.reading.first_bad.Given as goal

abbrev pub invariant-loop-i : goal.invariant-loop-i
invariant-loop-i l =
    first_refusal (flat_map (manifest_tests l.tree) l.boxes) ≡ first_refusal
    (flat_map (manifest_tests l.tree) (drop l.i-index l.boxes))
