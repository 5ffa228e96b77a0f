-- When a tree is a store.
use Rattle.std.specs.Prelude.{◌==◌, nat_lt}
use Rattle.std.proofs.Common.{◌≡◌, ℕ, suc, ◌<◌, ◌≤◌, true, false, not, cond, List, [], ◌∷◌, length, Some, None, refl, ap, ◌∙◌, arith, codes}
use Rattle.std.specs.Prelude.{find, option_map}
use Rattle.std.specs.List.{AllByRecursion, flat_map}
use Rattle.std.proofs.lemmas.Bool.{not_from_true, ne_eqb, le-ltb}
use Rattle.c2_base.specs.declared.limits.TheConstants.{MAX_MANIFESTS}
use Rattle.c2_spec.specs.declared.store.StoreError.TheVariants.{NotStore}
use Rattle.c2_spec.specs.Jumbf.Tree.{Tree}
use Rattle.c2_spec.specs.Jumbf.Boxes.{node, box_at, any_label}
use Rattle.c2_spec.specs.C2pa.Manifest.{StoreTest, store_test, is_store, is_manifest, is_manifest_label, manifest_tests, count_tests, store_tests, store_refusal, superboxes, is_named}
use Rattle.c2_new_file_spec.specs.Manifests.{supers_of}
use Rattle.c2_new_file_spec.specs.Written.{IsStoreBox}
use Rattle.c2_new_file_spec.proofs.ByIndex.{Both, at_box, at_root, supers_any}
use Rattle.c2_lemmas.proofs.Each.{each_append}

-- a condition on a store holds
abbrev Passes : StoreTest → Type 0
Passes t = t.fails ≡ false

-- where each condition holds, none is found that fails
none_found : (ts : List StoreTest) → AllByRecursion Passes ts → find (λ (t : StoreTest). t.fails) ts ≡ None
none_found [] h = refl
none_found (t ∷ ts) h = ap (λ b. cond b (Some t) (find (λ (t : StoreTest). t.fails) ts)) h.0 ∙ none_found ts h.1

-- where boxes may stand in a store, the conditions on their indices hold, and there are as many indices
each_passes : (t : Tree) (is : List ℕ) (ss : List Tree) → Both t is ss → AllByRecursion IsStoreBox ss
    → (AllByRecursion Passes (flat_map (manifest_tests t) is)) × (length is ≡ length ss)
unfolding Both
each_passes t [] [] h k = (tt, refl)
each_passes t [] (s ∷ ss) h k = absurd h
each_passes t (i ∷ is) [] h k = absurd h
each_passes t (i ∷ is) (s ∷ ss) h k =
    let more = each_passes t is ss h.1 k.1 in
    let box : (box_at t i).box ≡ node s = at_box t i s h.0 in (
      (
        not_from_true (is_manifest (box_at t i).box) (ap is_manifest box ∙ k.0.manifest),
        (not_from_true (is_manifest_label (any_label (box_at t i).box)) (ap (λ b. is_manifest_label (any_label b)) box ∙ k.0.label), more.0),
      ),
      ap suc more.1,
    )

-- a store by its boxes
pub store_passes : (t : Tree) → is_named (codes "c2pa") (codes "c2pa") (node t) ≡ true
    → AllByRecursion IsStoreBox (supers_of t) → 0 < length (supers_of t) → length (supers_of t) ≤ MAX_MANIFESTS
    → store_refusal t ≡ None
store_passes t root each some few =
    let all = each_passes t (superboxes t 0) (supers_of t) (supers_any t) each in
    let box : (box_at t 0).box ≡ node t = at_box t 0 t (at_root t) in
    let n : ℕ = length (superboxes t 0) in
    let first : Passes (store_test (not (is_store t)) NotStore) =
    not_from_true (is_store t) (ap (is_named (codes "c2pa") (codes "c2pa")) box ∙ root) in
    let none : (n == 0) ≡ false = ne_eqb n 0 (λ e. omega (arith, e, all.1, some)) in
    let many : nat_lt MAX_MANIFESTS n ≡ false = le-ltb MAX_MANIFESTS n (omega (arith, all.1, few)) in
    ap (option_map (λ (t : StoreTest). t.refusal))
    (none_found (store_tests t) (first, each_append Passes (flat_map (manifest_tests t) (superboxes t 0)) (count_tests n) all.0 (none, (many, tt))))
