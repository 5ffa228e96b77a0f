-- Manifests of two stores that correspond to each other and have one claim: the fact that is kept on the
-- way from the active manifests to those that are reached from them.
use Rattle.std.specs.Prelude.{◌≡◌, ℕ, true, false, List, Some, slice_get}
use Rattle.c2_spec.specs.C2pa.Manifest.{claim_version_of}
use Rattle.c2_spec.specs.declared.claim.Claim.{Claim}
use Rattle.c2_rules.specs.Chains.{label_in, is_active, is_reached}
use Rattle.c2_rules.specs.Readings.{Reading, claim_in}
use Rattle.c2_compare_spec.specs.ChainContent.{claim_bytes_of}

-- Two manifests have one claim, whose version is the one that the labels of both claim boxes say. Accepted manifests with equal
-- claim bytes have one, though no signature covers the label.
pub record HaveSameClaim (r q : Reading) : Type 0 where
  pub claim : Claim
  pub first : claim_in r ≡ Some claim
  pub second : claim_in q ≡ Some claim
  pub first_version : claim.version ≡ claim_version_of r.manifest.claims
  pub second_version : claim.version ≡ claim_version_of q.manifest.claims

-- The manifests at these places, one of each store, stand for each other: they are reached, active both or
-- named alike, and have one claim.
pub record Correspond (rs ss : List Reading) (n m : ℕ) : Type 0 where
  pub first : Reading
  pub first_at : slice_get rs n ≡ Some first
  pub second : Reading
  pub second_at : slice_get ss m ≡ Some second
  pub first_reached : is_reached rs n ≡ true
  pub second_reached : is_reached ss m ≡ true
  pub active : is_active rs n ≡ is_active ss m
  pub label : is_active rs n ≡ false → label_in first ≡ label_in second
  pub claims : claim_bytes_of first ≡ claim_bytes_of second
