-- The item of the binding is legal.
use Rattle.std.specs.Prelude.{◌⊎◌}
use Rattle.std.proofs.Common.{◌≡◌, ⊎_elim, ℕ, List, length, ap, arith, lit≤}
use Rattle.c2_assertion.specs.Written.{bmff_hash_item}
use Rattle.c2_new_file_spec.specs.Films.{new_bmff_hash}
use Rattle.c2_spec.specs.Cbor.Item.{Item, text}
use Rattle.c2_spec.specs.Cbor.Legal.{HasBadSimple, HasDistinctKeys, IsLegal}
use Rattle.c2_spec.specs.declared.digest.Alg.{Alg}

-- how long a text is
abbrev key_len : Item → ℕ
key_len (text t) = length t
key_len v = 0

-- the keys of each map differ in their lengths
distinct : (alg : Alg) (digest : List ℕ) → HasDistinctKeys (bmff_hash_item (new_bmff_hash alg digest))
distinct alg digest = (
  tt,
  tt,
  (λ e. let n : 3 ≡ 4 = ap key_len e in omega (arith, n), (λ e. let n : 3 ≡ 10 = ap key_len e in omega (arith, n), tt)),
  (
    tt,
    tt,
    (λ e. let n : 4 ≡ 10 = ap key_len e in omega (arith, n), tt),
    (
      tt,
      (
        (
          tt,
          ((tt, tt, (λ e. let n : 5 ≡ 6 = ap key_len e in omega (arith, n), tt), (tt, tt, tt, tt)), tt),
          (λ e. let n : 4 ≡ 5 = ap key_len e in omega (arith, n), tt),
          (tt, tt, tt, tt),
        ),
        ((tt, tt, tt, tt), ((tt, tt, tt, tt), tt)),
      ),
      tt,
      tt,
    ),
  ),
)

-- no simple value is in a pair with this key, nor in the pairs after it
pair_no : {V R : Type 0} → (V → ⊥) → (R → ⊥) → ⊥ ⊎ (V ⊎ R) → ⊥
pair_no v r h = ⊎_elim (λ (e : ⊥). e) (λ w. ⊎_elim v r w) h

-- no simple value is in an item of a list, nor in those after it
item_no : {V R : Type 0} → (V → ⊥) → (R → ⊥) → V ⊎ R → ⊥
item_no v r h = ⊎_elim v r h

-- nothing stands here
none : ⊥ → ⊥
none e = e

-- no simple value from 24 to 31 is in the item of a BMFF hash
no_bad : (alg : Alg) (digest : List ℕ) → HasBadSimple (bmff_hash_item (new_bmff_hash alg digest)) → ⊥
no_bad alg digest =
    pair_no none
    (pair_no none (pair_no (item_no (pair_no (item_no (pair_no none (pair_no none none)) none) (pair_no none none)) (item_no (pair_no none none) (item_no (pair_no none none) none))) none))

-- the item has these levels, and keys that differ
pub bmff_legal : (alg : Alg) (digest : List ℕ) → IsLegal (bmff_hash_item (new_bmff_hash alg digest))
bmff_legal alg digest = record { shallow = lit≤ tt; distinct = distinct alg digest; no_bad_simple = no_bad alg digest }
