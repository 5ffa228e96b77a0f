-- The first refusal of a tree, by its parts.
use Rattle.std.proofs.Common.{◌≡◌, ℕ, Bool, true, false, not, List, ◌∷◌, ◌++◌, length, Option, Some, refl, sym, ap, ◌∙◌, cond}
use Rattle.std.specs.List.{flat_map}
use Rattle.std.specs.Option.{option_or}
use Rattle.c2_spec.specs.Jumbf.Tree.{Tree}
use Rattle.c2_spec.specs.C2pa.Manifest.{StoreTest, store_test, first_refusal, is_store, superboxes, manifest_tests, count_tests, store_refusal}
use Rattle.c2_spec.specs.declared.store.StoreError.{StoreError}
use Rattle.c2_spec.specs.declared.store.StoreError.TheVariants.{NotStore}
use Rattle.c2_spec.proofs.StoreRefusals.{first_refusal_append}

-- a test that fails refuses before those after it
first_test : (b : Bool) (e : StoreError) (ts : List StoreTest)
    → first_refusal (store_test (not b) e ∷ ts) ≡ cond b (first_refusal ts) (Some e)
first_test true e ts = refl
first_test false e ts = refl

-- a tree whose root is no store is refused for that
pub store_bad : (t : Tree) → is_store t ≡ false → Some NotStore ≡ store_refusal t
store_bad t is = sym (first_test (is_store t) NotStore (flat_map (manifest_tests t) (superboxes t 0) ++ count_tests (length (superboxes t 0)))
    ∙ ap (λ b. cond b (first_refusal (flat_map (manifest_tests t) (superboxes t 0) ++ count_tests (length (superboxes t 0)))) (Some NotStore)) is)

-- a tree whose root is one is refused for its manifests, where it is
pub store_is : (t : Tree) (boxes : List ℕ) (r : Option StoreError) → boxes ≡ superboxes t 0 → is_store t ≡ true
    → r ≡ option_or (first_refusal (flat_map (manifest_tests t) boxes)) (first_refusal (count_tests (length boxes)))
    → r ≡ store_refusal t
store_is t boxes r are is e =
    let tests : List StoreTest =
    flat_map (manifest_tests t) (superboxes t 0) ++ count_tests (length (superboxes t 0)) in
    e
    ∙ ap
    (λ (x : List ℕ). option_or (first_refusal (flat_map (manifest_tests t) x)) (first_refusal (count_tests (length x))))
    are
    ∙ sym (first_refusal_append (flat_map (manifest_tests t) (superboxes t 0)) (count_tests (length (superboxes t 0))))
    ∙ sym (first_test (is_store t) NotStore tests ∙ ap (λ b. cond b (first_refusal tests) (Some NotStore)) is)
