-- What stands at a place of manifests that lost boxes.
use Rattle.std.proofs.Common.{◌≡◌, ℕ, zero, suc, ◌<◌, List, [], ◌∷◌, length, Some, slice_get, refl, ap, arith}
use Rattle.c2_rules.specs.Chains.{label_in}
use Rattle.c2_rules.specs.Readings.{Reading}
use Rattle.c2_new_file_spec.specs.Less.{AreLess, IsLess}

-- none is lost
pub less_len : (redacts : List (List ℕ)) (rs ss : List Reading) → AreLess redacts rs ss → length ss ≡ length rs
less_len redacts [] [] h = refl
less_len redacts [] (s ∷ ss) h = absurd h
less_len redacts (r ∷ rs) [] h = absurd h
less_len redacts (r ∷ rs) (s ∷ ss) h = ap suc (less_len redacts rs ss h.1)

-- a manifest before and after
pub record LessAt (redacts : List (List ℕ)) (rs ss : List Reading) (i : ℕ) : Type 0 where
  pub old : Reading
  pub new : Reading
  pub is_old : slice_get rs i ≡ Some old
  pub is_new : slice_get ss i ≡ Some new
  pub less : IsLess redacts old new

-- what stands at each place
pub less_at : (redacts : List (List ℕ)) (rs ss : List Reading) (i : ℕ) → AreLess redacts rs ss → i < length rs
    → LessAt redacts rs ss i
less_at redacts [] [] i h lt = absurd (omega arith)
less_at redacts [] (s ∷ ss) i h lt = absurd h
less_at redacts (r ∷ rs) [] i h lt = absurd h
less_at redacts (r ∷ rs) (s ∷ ss) zero h lt = record { old = r; new = s; is_old = refl; is_new = refl; less = h.0 }
less_at redacts (r ∷ rs) (s ∷ ss) (suc i) h lt =
    let t = less_at redacts rs ss i h.1 (omega arith) in
    record { old = t.old; new = t.new; is_old = t.is_old; is_new = t.is_new; less = t.less }

-- the label stays
pub less_label : (redacts : List (List ℕ)) (r s : Reading) → IsLess redacts r s → label_in s ≡ label_in r
less_label redacts r s h = ap label_in h.is
