-- CBOR items, their keys and lengths, and texts.
use Rattle.c2_spec.specs.Cbor.Deterministic.{deterministic, preferred, preferred_pairs}
use Rattle.c2_spec.specs.Cbor.Fields.{require}
use Rattle.c2_spec.specs.Cbor.Item.{Item, Pairs, no_pairs, pair}
use Rattle.c2_spec.specs.Cbor.Legal.{IsNew}
use Rattle.c2_spec.specs.Cbor.Plain.{DiffersFrom}
use Rattle.std.proofs.Common.{None, Ok, Option, Result, Some, ap, arith, length, length-append, refl, ◌++◌, ◌+◌, ◌≡◌}

-- a pair and those after it
pub length_pair : (k v : Item) (ps : Pairs)
    → length (preferred_pairs (pair k v ps)) ≡ length (preferred k) + (length (preferred v) + length (preferred_pairs ps))
length_pair k v ps =
    omega
    (arith, length-append (preferred k ++ preferred v) (preferred_pairs ps), length-append (preferred k) (preferred v))

-- keys with other bytes are other keys
pub new_from_bytes : (k : Item) (ps : Pairs) → DiffersFrom k ps → IsNew k ps
new_from_bytes k no_pairs h = tt
new_from_bytes k (pair l v ps) h = (λ e. h.0 (ap deterministic e), new_from_bytes k ps h.1)

-- a value that was required is there
pub required : {A B E : Type 0} (e : E) (o : Option A) (more : A → Result B E) (y : B) → require e o more ≡ Ok y
    → (x : A) × (o ≡ Some x) × (more x ≡ Ok y)
required e None more y h = absurd (cc (h))
required e (Some x) more y h = (x, refl, h)
