-- Manifests whose payloads a program can hold.
use Rattle.std.specs.Prelude.{IfSome}
use Rattle.std.specs.List.{AllByRecursion}
use Rattle.c2_spec.specs.C2pa.Manifest.{Manifest, Superbox, claim_bytes}
use Rattle.c2_rules.specs.Readings.{signature_item}
use Rattle.c2_read_manifests.specs.Existing.{IsHeld}

-- the claim bytes, the item of the signature box and those of the assertion boxes
pub record IsHeldManifest (m : Manifest) : Type 0 where
  pub claim : IfSome (claim_bytes m.claims) IsHeld
  pub signature : IfSome (signature_item m) IsHeld
  pub assertions : AllByRecursion (λ (b : Superbox). IfSome b.item IsHeld) m.assertions
