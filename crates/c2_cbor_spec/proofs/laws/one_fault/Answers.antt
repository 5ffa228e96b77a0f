use Rattle.c2_cbor_spec.proofs.laws.one_fault.Goals as goal
use Rattle.c2_cbor_spec.proofs.Decoded.{fault_alone, fault_apart, fault_or}

pub returns-clause-some : goal.returns-clause-some
returns-clause-some c = fault_or

pub returns-clause-apart : goal.returns-clause-apart
returns-clause-apart c = fault_apart

pub returns-clause-one : goal.returns-clause-one
returns-clause-one c = fault_alone
