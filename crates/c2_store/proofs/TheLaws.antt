-- The laws of this crate, for the proofs of the crates above it.
use Rattle.c2_spec.proofs.BoxParts.{claim_part}
use Rattle.c2_spec.specs.C2pa.Manifest.{ArePartsOf, Manifest, claim_bytes}
use Rattle.c2_spec.specs.Jumbf.Boxes.{IsPart}
use Rattle.std.specs.Prelude.{IfSome, List, ℕ}

-- the item of a box, and the bytes of each manifest, are parts of the bytes that the store's tree was read from
pub items_are_parts_claim : (s : List ℕ) (m : Manifest) → ArePartsOf s m → IfSome (claim_bytes m.claims) (IsPart s)
items_are_parts_claim = λ s m h. claim_part s m.claims h.claims
