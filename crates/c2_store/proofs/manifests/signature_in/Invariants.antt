use Rattle.std.proofs.Common.{◌≡◌, drop}
use Rattle.c2_spec.specs.C2pa.Manifest.{signature_in}
use Rattle.c2_store.proofs.manifests.signature_in.Given as goal

abbrev pub invariant-loop-i : goal.invariant-loop-i
invariant-loop-i l = signature_in l.tree l.boxes ≡ signature_in l.tree (drop l.i-index l.boxes)
