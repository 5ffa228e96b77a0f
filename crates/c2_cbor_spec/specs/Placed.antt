-- A fault of the reader, which has its place as the count of the bytes from there to the end, with its place from the start.
use Rattle.std.specs.Prelude.{ℕ, ◌-◌}
use Rattle.c2_cbor_spec.specs.declared.fault.Fault.{Fault}
use Rattle.c2_cbor_spec.specs.declared.fault.Fault.TheVariants.{Short, Reserved, BadText, DuplicateKey, TooDeep}
use Rattle.c2_spec.specs.declared.cbor.CborError.{CborError}
use Rattle.c2_spec.specs.declared.cbor.CborError.TheVariants as errors

-- n is the count of all bytes
abbrev pub error_at : ℕ → Fault → CborError
error_at n Short = errors.Short n
error_at n (Reserved left) = errors.Reserved (n - left)
error_at n (BadText left) = errors.BadText (n - left)
error_at n (DuplicateKey left) = errors.DuplicateKey (n - left)
error_at n (TooDeep left) = errors.TooDeep (n - left)
