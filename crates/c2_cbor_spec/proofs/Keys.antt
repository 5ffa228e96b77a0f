-- Keys in a set of their spellings.
use Rattle.std.proofs.Common.{◌≡◌, ℕ, Bool, true, false, List, [], ◌∷◌, refl, sym, ap, ◌∙◌, ◌||◌}
use Rattle.std.specs.Cmp.Lexicographic.{bytes_decides}
use Rattle.std.specs.Ordering.{is_eq}
use Rattle.std.proofs.lemmas.Map.Text.{is_eq-slice_cmp}
use Rattle.std.specs.List.{list_any}
use Rattle.std.specs.BTreeMap.{is_at}
use Rattle.std.specs.Ordering.{nat_cmp, match_ordering}
use Rattle.std.specs.declared.cmp.Ordering.{Ordering}
use Rattle.std.specs.declared.cmp.Ordering.TheVariants.{Less, Equal, Greater}
use Rattle.std.specs.Cmp.Lexicographic.{slice_cmp}
use Rattle.c2_cbor_spec.specs.Reading.{is_known, with_key}
use Rattle.c2_lemmas.proofs.Bools.{or_second}

-- ---- which keys are known

-- a key found is the key
pub same_at : (x k : List ℕ) → is_at (slice_cmp nat_cmp x) k ≡ true → x ≡ k
same_at x k e = (bytes_decides x k).0 (sym (is_eq-slice_cmp x k) ∙ e)

-- the key is found
at_same : (x k : List ℕ) → x ≡ k → is_at (slice_cmp nat_cmp x) k ≡ true
at_same x k e = is_eq-slice_cmp x k ∙ (bytes_decides x k).1 e

-- a tie is equal
equal_order : (o : Ordering) → o ≡ Equal → is_eq o ≡ true
equal_order o e = ap is_eq e

-- what is there twice
twice : (b c : Bool) → (b || c) ≡ (b || (b || c))
twice true c = refl
twice false c = refl

-- two in the other order
swapped : (a b c : Bool) → (a || (b || c)) ≡ (b || (a || c))
swapped true true c = refl
swapped true false c = refl
swapped false true c = refl
swapped false false c = refl

-- what is known with one more key
pub known_with : (x k : List ℕ) (ks : List (List ℕ))
    → is_known x (with_key ks k) ≡ (is_at (slice_cmp nat_cmp x) k || is_known x ks)
known_with x k [] = refl
known_with x k (y ∷ ys) =
    let test : List ℕ → Bool = is_at (slice_cmp nat_cmp x) in
    elim (slice_cmp nat_cmp k y) as (λ o. slice_cmp nat_cmp k y ≡ o → list_any test (match_ordering o (k ∷ y ∷ ys) (y ∷ ys) (y ∷ with_key ys k)) ≡ (test k || (test y || list_any test ys))) [
      | Less ↦ λ e. refl
      | Equal ↦ λ e. twice (test y) (list_any test ys) ∙ ap (λ z. test z || (test y || list_any test ys)) (sym (same_at k y (equal_order _ e)))
      | Greater ↦ λ e. ap (λ b. test y || b) (known_with x k ys) ∙ swapped (test y) (test k) (list_any test ys)
    ] refl

-- the new one is known
pub known_new : (k : List ℕ) (ks : List (List ℕ)) → is_known k (with_key ks k) ≡ true
known_new k ks = known_with k k ks ∙ ap (λ b. b || is_known k ks) (at_same k k refl)

-- what is known stays known
pub known_stays : (x k : List ℕ) (ks : List (List ℕ)) → is_known x ks ≡ true → is_known x (with_key ks k) ≡ true
known_stays x k ks e = known_with x k ks ∙ or_second _ _ e

-- another key stays unknown
pub known_other : (x k : List ℕ) (ks : List (List ℕ)) → (x ≡ k → ⊥) → is_known x ks ≡ false
    → is_known x (with_key ks k) ≡ false
known_other x k ks ne e =
    known_with x k ks
    ∙ elim (is_at (slice_cmp nat_cmp x) k) as
    (λ b. is_at (slice_cmp nat_cmp x) k ≡ b → (b || is_known x ks) ≡ false)
    [ true ↦ λ h. absurd (ne (same_at x k h)) | false ↦ λ h. e ] refl
