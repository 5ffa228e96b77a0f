use Rattle.std.proofs.Common.{◌≡◌, drop}
use Rattle.c2_spec.specs.C2pa.Manifest.{assertion_store_in}
use Rattle.c2_store.proofs.manifests.assertion_store_in.Given as goal

abbrev pub invariant-loop-i : goal.invariant-loop-i
invariant-loop-i l = assertion_store_in l.tree l.boxes ≡ assertion_store_in l.tree (drop l.i-index l.boxes)
