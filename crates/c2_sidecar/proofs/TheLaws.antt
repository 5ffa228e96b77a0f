-- The laws of this crate, for the proofs of the crates above it.
use Rattle.c2_sidecar.proofs.Extraction.{each_extracted}
use Rattle.c2_sidecar.specs.Extracting.{ExtractsTo}
use Rattle.c2_sidecar.specs.declared.error.Extracted.{Extracted as AnyExtracted}
use Rattle.std.specs.Prelude.{All, List, ℕ, ◌<◌, ◌^◌}

-- whatever bytes a file has, it comes to one thing when its store is to be extracted, and these bytes of it are written and no others
pub each_file_is_extracted_each : (file : List ℕ) → All (λ b. b < 2 ^ 8) file → (a : AnyExtracted) × ExtractsTo file a
each_file_is_extracted_each = each_extracted
