-- The fault of bytes that are no item, as an error of a claim; for private clauses.
use Rattle.c2_spec.specs.declared.cbor.CborError.{CborError}
use Rattle.c2_spec.specs.declared.cbor.CborError.TheVariants as faults
use Rattle.c2_spec.specs.declared.claim.ClaimError.{ClaimError}
use Rattle.c2_spec.specs.declared.claim.ClaimError.TheVariants.{Cbor, NoMemory}

-- what an error of reading CBOR says of a claim
abbrev pub claim_error : CborError → ClaimError
claim_error (faults.Short at) = Cbor (faults.Short at)
claim_error (faults.Reserved at) = Cbor (faults.Reserved at)
claim_error (faults.BadText at) = Cbor (faults.BadText at)
claim_error (faults.DuplicateKey at) = Cbor (faults.DuplicateKey at)
claim_error (faults.TooDeep at) = Cbor (faults.TooDeep at)
claim_error (faults.Trailing at) = Cbor (faults.Trailing at)
claim_error faults.NoMemory = NoMemory
