-- For private clauses: what is kept of a signed message.
use Rattle.std.specs.Prelude.{Option, IfSome}
use Rattle.c2_spec.specs.Cbor.View.{view}
use Rattle.c2_spec.specs.C2pa.Sign1.{IsHeader}
use Rattle.c2_spec.specs.declared.sign1.Sign1.{Sign1}

-- the unprotected header of a message can be written, where there is a message
abbrev pub HasHeader : Option Sign1 → Type 0
HasHeader message = IfSome message (λ (s : Sign1). IsHeader (view s.unprotected))
