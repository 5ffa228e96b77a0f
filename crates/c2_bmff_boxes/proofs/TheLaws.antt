-- The laws of this crate, for the proofs of the crates above it.
use Rattle.c2_bmff_boxes.proofs.SomeOutcome.{some_outcome}
use Rattle.c2_bmff_boxes.proofs.StoreBytes.{store-bytes}
use Rattle.c2_lemmas.proofs.Bytes.{are_bytes}
use Rattle.c2_spec.specs.Bmff.Store.{HasBmffStore, IsBmffLocated}
use Rattle.c2_spec.specs.Located.{Located}
use Rattle.std.specs.Prelude.{All, List, ℕ, ◌<◌, ◌^◌}

-- each list of bytes comes to one of these as a BMFF file
pub each_bmff_file_comes_to_something : (file : List ℕ) → All (λ b. b < 2 ^ 8) file
    → (v : Located) × IsBmffLocated file v
each_bmff_file_comes_to_something file bytes = some_outcome file (are_bytes file bytes)

-- the bytes of a BMFF file's store are below 2^8 where the file's are
pub bmff_store_bytes_are_of_the_file : (file : List ℕ) (start len : ℕ) (store : List ℕ)
    → HasBmffStore file start len store → All (λ b. b < 2 ^ 8) file → All (λ b. b < 2 ^ 8) store
bmff_store_bytes_are_of_the_file = store-bytes
