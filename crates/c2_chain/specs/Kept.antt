-- For private clauses: what a chain holds to.
use Rattle.std.specs.Prelude.{◌<◌, List, length, map}
use Rattle.c2_rules.specs.Chains.{LabelsDiffer}
use Rattle.c2_rules.specs.Claims.{HaveClaims}
use Rattle.c2_rules.specs.Readings.{Reading, AreReadings, claim_in}

-- There is a manifest; each comes to what was read of it, its claim is the one that was read, and no other manifest has its label.
pub record IsChain (rs : List Reading) : Type 0 where
  pub some : 0 < length rs
  pub reads : AreReadings (map (λ (r : Reading). r.manifest) rs) rs
  pub claims : HaveClaims (map (λ (r : Reading). r.manifest) rs) (map claim_in rs)
  pub differ : LabelsDiffer rs
