-- For private clauses: what is read of the claim and of the signature of a manifest.
use Rattle.std.specs.Prelude.{◌≡◌, map, option_map, option_and_then}
use Rattle.c2_spec.specs.C2pa.Claim.{claim_of}
use Rattle.c2_spec.specs.C2pa.Manifest.{Superbox, claim_bytes, claim_version_of, superbox_at}
use Rattle.c2_spec.specs.C2pa.Sign1.{parts_of}
use Rattle.c2_spec.specs.Jumbf.Tree.{Tree}
use Rattle.c2_spec.specs.declared.store.ManifestBoxes.{ManifestBoxes}
use Rattle.c2_rules.specs.Readings.{IsParsed, IsMessageOf}
use Rattle.c2_read_manifests.specs.Kept.{HasHeader}
use Rattle.c2_read_manifests.specs.declared.keeping.Signed.{Signed}

-- This was read of the claim boxes and of the signature box of the manifest that has these boxes in the tree.
pub record IsSigned (t : Tree) (m : ManifestBoxes) (s : Signed) : Type 0 where
  pub claims : s.claims.items ≡ map (superbox_at t) m.claims
  pub signature : s.signature ≡ option_map (superbox_at t) m.signature
  pub claim : IsParsed (claim_of (claim_version_of s.claims.items)) (claim_bytes s.claims.items) s.claim
  pub message : IsMessageOf (option_and_then (λ (b : Superbox). b.item) s.signature) (option_map parts_of s.message)
  pub header : HasHeader s.message
