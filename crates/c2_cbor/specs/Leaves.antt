-- Items in which no others stand: for private clauses.
use Rattle.std.specs.Prelude.{ℕ, List, Err}
use Rattle.c2_spec.specs.Cbor.Item.{Item}
use Rattle.c2_cbor_spec.specs.declared.fault.Fault.TheVariants.{Short}
use Rattle.c2_cbor_spec.specs.declared.head.Head.{Head}
use Rattle.c2_cbor_spec.specs.Reading.{Read, is_known, body}

-- what follows such a head, whose place is at: no item inside is read for it
abbrev pub leaf : ℕ → Head → List ℕ → Read Item
leaf at head s = body is_known (λ _. Err Short) at head s
