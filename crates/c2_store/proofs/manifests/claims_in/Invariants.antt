use Rattle.std.proofs.Common.{◌≡◌, ◌++◌, drop}
use Rattle.c2_spec.specs.C2pa.Manifest.{claims_in}
use Rattle.c2_store.proofs.manifests.claims_in.Given as goal

abbrev pub invariant-loop-i : goal.invariant-loop-i
invariant-loop-i l = l.found.items ++ claims_in l.tree (drop l.i-index l.boxes) ≡ claims_in l.tree l.boxes
