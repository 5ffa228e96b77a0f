-- The laws of this crate, for the proofs of the crates above it.
use Rattle.c2_build_plain.proofs.Restoring.{restored}
use Rattle.c2_build_plain.specs.Restored.{BuiltIsRestored}

-- the file that is built over a media file without a store strips to it
pub a_built_file_is_restored : BuiltIsRestored
a_built_file_is_restored = restored
