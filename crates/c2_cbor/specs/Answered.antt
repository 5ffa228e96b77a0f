-- What a reader's answer for bytes says of them: for private clauses.
use Rattle.std.specs.Prelude.{◌≡◌, ◌⊎◌, ℕ, List}
use Rattle.c2_spec.specs.Cbor.Answers.{BeginsWith}
use Rattle.c2_spec.specs.Cbor.Faults.{HasFault}
use Rattle.c2_spec.specs.Cbor.Item.{Item}
use Rattle.c2_spec.specs.declared.cbor.CborError.{CborError}
use Rattle.c2_spec.specs.declared.cbor.CborError.TheVariants.{NoMemory, Trailing}

-- the first n bytes spell the item, which is legal
pub record IsReadTo (s : List ℕ) (v : Item) (n : ℕ) : Type 0 where
  -- the bytes begin with it
  pub read : BeginsWith s v n
  -- they begin with no other item
  pub only : (w : Item) (m : ℕ) → BeginsWith s w m → ◌≡◌ {A = Item × ℕ} (v, n) (w, m)
  -- they have no fault
  pub refused : (e : CborError) → HasFault s e → ⊥

-- memory ran out, or this is the fault of the bytes
pub record IsReadError (s : List ℕ) (e : CborError) : Type 0 where
  -- where they begin with a legal item, memory ran out
  pub only : (w : Item) (m : ℕ) → BeginsWith s w m → e ≡ NoMemory
  -- one of both it is
  pub fault : (e ≡ NoMemory) ⊎ HasFault s e
  -- they have no other fault
  pub refused : (d : CborError) → HasFault s d → (e ≡ NoMemory) ⊎ (e ≡ d)
  -- bytes that follow are no fault
  pub prefix : (at : ℕ) → e ≡ Trailing at → ⊥
