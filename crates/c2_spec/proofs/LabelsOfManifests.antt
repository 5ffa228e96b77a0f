-- The manifests of a store have labels.
use Rattle.std.proofs.Common.{◌≡◌, ℕ, zero, suc, ◌<◌, Bool, true, false, not, List, [], ◌∷◌, ◌++◌, length, get_or, map, Option, Some, None, slice_get, refl, sym, ap, ◌∙◌, subst, arith}
use Rattle.std.specs.List.{flat_map}
use Rattle.std.specs.Option.{option_map, option_or}
use Rattle.c2_spec.specs.Jumbf.Tree.{Tree}
use Rattle.c2_spec.specs.Jumbf.Boxes.{box_at, any_label}
use Rattle.c2_spec.specs.C2pa.Manifest.{StoreTest, store_test, first_refusal, is_store, is_manifest, is_manifest_label, superboxes, manifest_tests, manifest_boxes, count_tests, IsStoreOf}
use Rattle.c2_spec.specs.declared.store.ManifestBoxes.{ManifestBoxes}
use Rattle.c2_spec.specs.declared.store.StoreError.{StoreError}
use Rattle.c2_spec.specs.declared.store.StoreError.TheVariants.{NotStore, ManifestType, ManifestLabel}
use Rattle.c2_spec.proofs.StoreRefusals.{first_refusal_append}

-- a member of the mapped list is made of the member of the list
member : (t : Tree) (xs : List ℕ) (i w : ℕ)
    → Some w ≡ option_map (λ (m : ManifestBoxes). m.whole) (slice_get (map (manifest_boxes t) xs) i)
    → (i < length xs) × (get_or xs i 0 ≡ w)
member t [] i w e = absurd (cc (e))
member t (x ∷ xs) zero w e = (omega arith, cc (e))
member t (x ∷ xs) (suc i) w e = let m = member t xs i w e in (omega (arith, m.0), m.1)

-- the box that a store keeps for its manifest at a place is the root's child superbox at that place
placed : (t : Tree) (s : List ManifestBoxes) (i w : ℕ) → IsStoreOf t s
    → Some w ≡ option_map (λ (m : ManifestBoxes). m.whole) (slice_get s i)
    → (i < length (superboxes t 0)) × (get_or (superboxes t 0) i 0 ≡ w)
placed t s i w h e =
    member t (superboxes t 0) i w
    (e ∙ ap (λ (x : List ManifestBoxes). option_map (λ (m : ManifestBoxes). m.whole) (slice_get x i)) h.same)

-- where nothing is refused, each part refuses nothing
front_none : (x y : Option StoreError) → option_or x y ≡ None → x ≡ None
front_none None y e = refl
front_none (Some z) y e = absurd (cc (e))

-- where neither of two refusals is there, the second isn't
back_none : (x y : Option StoreError) → option_or x y ≡ None → y ≡ None
back_none None y e = e
back_none (Some z) y e = absurd (cc (e))

-- where no manifest of a list is refused, none at a place of it is
each_passes : (t : Tree) (xs : List ℕ) (i : ℕ) → i < length xs → first_refusal (flat_map (manifest_tests t) xs) ≡ None
    → first_refusal (manifest_tests t (get_or xs i 0)) ≡ None
each_passes t [] i l e = absurd (omega arith)
each_passes t (x ∷ xs) zero l e =
    front_none (first_refusal (manifest_tests t x)) (first_refusal (flat_map (manifest_tests t) xs))
    (sym (first_refusal_append (manifest_tests t x) (flat_map (manifest_tests t) xs)) ∙ e)
each_passes t (x ∷ xs) (suc i) l e =
    each_passes t xs i (omega arith)
    (back_none (first_refusal (manifest_tests t x)) (first_refusal (flat_map (manifest_tests t) xs)) (sym (first_refusal_append (manifest_tests t x) (flat_map (manifest_tests t) xs)) ∙ e))

-- where neither of two tests refuses, the second test's condition holds
second_passes : (a b : Bool) (e f : StoreError) → first_refusal (store_test a e ∷ store_test (not b) f ∷ []) ≡ None
    → b ≡ true
second_passes true b e f h = absurd (cc (h))
second_passes false true e f h = refl
second_passes false false e f h = absurd (cc (h))

-- where no test of a list refuses, none after the first does
rest_passes : (a : Bool) (e : StoreError) (ts : List StoreTest) → first_refusal (store_test a e ∷ ts) ≡ None
    → first_refusal ts ≡ None
rest_passes true e ts h = absurd (cc (h))
rest_passes false e ts h = h

-- where no manifest is refused, each has a label that manifests may have
label_passes : (t : Tree) (xs : List ℕ) (i : ℕ) → i < length xs → first_refusal (flat_map (manifest_tests t) xs) ≡ None
    → is_manifest_label (any_label (box_at t (get_or xs i 0)).box) ≡ true
label_passes t xs i l e =
    let j = get_or xs i 0 in
    second_passes (not (is_manifest (box_at t j).box)) (is_manifest_label (any_label (box_at t j).box))
    (ManifestType (box_at t j).place) (ManifestLabel (box_at t j).place) (each_passes t xs i l e)

-- a manifest's label is there
pub labelled : {P : Type 0} (t : Tree) (s : List ManifestBoxes) (i w : ℕ) → IsStoreOf t s
    → Some w ≡ option_map (λ (m : ManifestBoxes). m.whole) (slice_get s i) → any_label (box_at t w).box ≡ None → P
labelled t s i w h e none =
    let m = placed t s i w h e in
    let tests : List StoreTest = flat_map (manifest_tests t) (superboxes t 0) in
    let all : first_refusal tests ≡ None =
    front_none (first_refusal tests) (first_refusal (count_tests (length (superboxes t 0))))
    (sym (first_refusal_append tests (count_tests (length (superboxes t 0)))) ∙ rest_passes (not (is_store t)) NotStore (tests ++ count_tests (length (superboxes t 0))) h.accepted) in
    let good : is_manifest_label (any_label (box_at t w).box) ≡ true =
    subst (λ k. is_manifest_label (any_label (box_at t k).box) ≡ true) m.1
    (label_passes t (superboxes t 0) i m.0 all) in
    absurd (let bad = sym good ∙ ap is_manifest_label none in cc (bad))
