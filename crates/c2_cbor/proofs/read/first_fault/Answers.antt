use Rattle.std.proofs.Common.{inl, inr, refl}
use Rattle.c2_cbor.proofs.read.first_fault.Goals as goal

pub returns-in-Ok : goal.returns-in-Ok
returns-in-Ok c = inr (c.in-Ok.ensures.distinct, refl)

pub returns-in-Err : goal.returns-in-Err
returns-in-Err c = inl c.in-Err.ensures.equal
