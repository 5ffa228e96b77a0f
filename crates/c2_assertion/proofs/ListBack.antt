-- A list that is written item by item is read item by item.
use Rattle.std.proofs.Common.{◌≡◌, zero, suc, List, [], ◌∷◌, All, map, Option, Some, refl, ap₂, arith}
use Rattle.c2_spec.specs.Cbor.Item.{Item}
use Rattle.c2_spec.specs.Cbor.View.{items_of}
use Rattle.c2_spec.specs.Cbor.Fields.{each_of, joined}

-- what holds of all holds of the first
pub all_head : {X : Type 0} (P : X → Type 0) (x : X) (xs : List X) → All P (x ∷ xs) → P x
all_head P x xs h = h 0 x (omega arith)

-- what holds of all holds of all behind the first
pub all_tail : {X : Type 0} (P : X → Type 0) (x : X) (xs : List X) → All P (x ∷ xs) → All P xs
all_tail P x xs h = λ k d lt. h (suc k) d (omega (arith, lt))

-- what holds of the first and of the others holds of all
pub all_cons : {X : Type 0} (P : X → Type 0) (x : X) (xs : List X) → P x → All P xs → All P (x ∷ xs)
all_cons P x xs p h zero d lt = p
all_cons P x xs p h (suc k) d lt = h k d (omega (arith, lt))

-- where each value is read of its item, the list of values is read of the list of items
pub each_back : {A : Type 0} (read : Item → Option A) (write : A → Item) → ((x : A) → read (write x) ≡ Some x)
    → (xs : List A) → each_of read (items_of (map write xs)) ≡ Some xs
each_back read write back [] = refl
each_back read write back (x ∷ xs) = ap₂ joined (back x) (each_back read write back xs)
