-- The boxes that a store keeps of its manifests are boxes of its tree.
use Rattle.std.proofs.Common.{◌≡◌, ℕ, zero, suc, ◌<◌, Bool, true, false, cond, List, [], ◌∷◌, map, Option, Some, None, All, slice_get, refl, ap, ◌∙◌, subst, codes}
use Rattle.std.specs.List.{filter, find, AllByRecursion}
use Rattle.std.specs.Option.{option_map}
use Rattle.std.proofs.lemmas.List.Elements.{All-from_recursion}
use Rattle.c2_spec.specs.Jumbf.Tree.{Tree}
use Rattle.c2_spec.specs.Jumbf.Boxes.{tree_count, box_at, child_indices}
use Rattle.c2_spec.specs.C2pa.Manifest.{has_type, is_named, inside, is_superbox, superboxes, assertion_store_in, manifest_boxes, IsStoreOf}
use Rattle.c2_spec.specs.declared.store.ManifestBoxes.{ManifestBoxes}
use Rattle.c2_spec.proofs.JumbfBoxes.{some_box}
use Rattle.c2_spec.proofs.JumbfChildren.{children_inside}

-- an index of the tree
abbrev pub IsInside : Tree → ℕ → Type 0
IsInside t j = j < tree_count t

-- a property of the first and of the others holds of either choice
chosen : (P : ℕ → Type 0) (p : ℕ → Bool) (x : ℕ) (xs : List ℕ) (b : Bool) → P x → AllByRecursion P xs
    → AllByRecursion P (cond b (x ∷ xs) xs)
chosen P p x xs true h k = (h, k)
chosen P p x xs false h k = k

-- what holds of each number in a list holds of those that a test picks
pub filter_inside : (P : ℕ → Type 0) (p : ℕ → Bool) (xs : List ℕ) → AllByRecursion P xs → AllByRecursion P (filter p xs)
filter_inside P p [] h = tt
filter_inside P p (x ∷ xs) h = chosen P p x (filter p xs) (p x) h.0 (filter_inside P p xs h.1)

-- the child superboxes of a box of the tree are boxes of the tree
pub superboxes_inside : (t : Tree) (i : ℕ) → i < tree_count t → AllByRecursion (IsInside t) (superboxes t i)
superboxes_inside t i l = filter_inside (IsInside t) (is_superbox t) (child_indices t i) (children_inside t i l)

-- a number that is found, first or later, has the property that each has
found_here : (P : ℕ → Type 0) (x j : ℕ) (o : Option ℕ) (b : Bool) → P x → (o ≡ Some j → P j)
    → cond b (Some x) o ≡ Some j → P j
found_here P x j o true h k e = let same : x ≡ j = cc (e) in subst P same h
found_here P x j o false h k e = k e

-- what holds of each number in a list holds of the first that a test finds
pub find_inside : (P : ℕ → Type 0) (p : ℕ → Bool) (xs : List ℕ) (j : ℕ) → AllByRecursion P xs → find p xs ≡ Some j → P j
find_inside P p [] j h e = absurd (cc (e))
find_inside P p (x ∷ xs) j h e = found_here P x j (find p xs) (p x) h.0 (find_inside P p xs j h.1) e

-- the superboxes in an assertion store that is a box of the tree
pub in_store : (t : Tree) (o : Option ℕ) → ((j : ℕ) → o ≡ Some j → j < tree_count t)
    → AllByRecursion (IsInside t) (inside t o)
in_store t None h = tt
in_store t (Some j) h = superboxes_inside t j (h j refl)

-- what is kept of a manifest is what its box has, and that is a box of the tree
kept_of : {A : Type 0} (f : ManifestBoxes → A) (t : Tree) (xs : List ℕ) (i : ℕ) (a : A) → AllByRecursion (IsInside t) xs
    → Some a ≡ option_map f (slice_get (map (manifest_boxes t) xs) i)
    → (w : ℕ) × (w < tree_count t) × (f (manifest_boxes t w) ≡ a)
kept_of f t [] i a h e = absurd (cc (e))
kept_of f t (x ∷ xs) zero a h e = (x, h.0, cc (e))
kept_of f t (x ∷ xs) (suc i) a h e = kept_of f t xs i a h.1 e

-- what a store keeps of a manifest is what its box has, and that is a box of the tree
kept : {A : Type 0} (f : ManifestBoxes → A) (t : Tree) (s : List ManifestBoxes) (i : ℕ) (a : A) → IsStoreOf t s
    → Some a ≡ option_map f (slice_get s i) → (w : ℕ) × (w < tree_count t) × (f (manifest_boxes t w) ≡ a)
kept f t s i a h e =
    kept_of f t (superboxes t 0) i a (superboxes_inside t 0 (some_box t))
    (e ∙ ap (λ (x : List ManifestBoxes). option_map f (slice_get x i)) h.same)

-- the box of a manifest is a box of the tree
pub whole_inside : (t : Tree) (s : List ManifestBoxes) (i w : ℕ) → IsStoreOf t s
    → Some w ≡ option_map (λ (m : ManifestBoxes). m.whole) (slice_get s i) → w < tree_count t
whole_inside t s i w h e = let m = kept (λ (m : ManifestBoxes). m.whole) t s i w h e in subst (IsInside t) m.2 m.1

-- the claim boxes that a store keeps are boxes of the tree
pub claims_inside : (t : Tree) (s : List ManifestBoxes) (i : ℕ) (boxes : List ℕ) → IsStoreOf t s
    → Some boxes ≡ option_map (λ (m : ManifestBoxes). m.claims) (slice_get s i) → All (λ j. j < tree_count t) boxes
claims_inside t s i boxes h e =
    let m = kept (λ (m : ManifestBoxes). m.claims) t s i boxes h e in
    let own : AllByRecursion (IsInside t) (manifest_boxes t m.0).claims =
    filter_inside (IsInside t) (λ j. has_type (codes "c2cl") (box_at t j).box) (superboxes t m.0)
    (superboxes_inside t m.0 m.1) in
    All-from_recursion (IsInside t) boxes (subst (AllByRecursion (IsInside t)) m.2 own)

-- the signature box that a store keeps is a box of the tree
pub signature_inside : (t : Tree) (s : List ManifestBoxes) (i j : ℕ) → IsStoreOf t s
    → Some (Some j) ≡ option_map (λ (m : ManifestBoxes). m.signature) (slice_get s i) → j < tree_count t
signature_inside t s i j h e =
    let m = kept (λ (m : ManifestBoxes). m.signature) t s i (Some j) h e in
    find_inside (IsInside t) (λ k. is_named (codes "c2cs") (codes "c2pa.signature") (box_at t k).box) (superboxes t m.0)
    j (superboxes_inside t m.0 m.1) m.2

-- the assertion boxes that a store keeps are boxes of the tree
pub assertions_inside : (t : Tree) (s : List ManifestBoxes) (i : ℕ) (boxes : List ℕ) → IsStoreOf t s
    → Some boxes ≡ option_map (λ (m : ManifestBoxes). m.assertions) (slice_get s i) → All (λ j. j < tree_count t) boxes
assertions_inside t s i boxes h e =
    let m = kept (λ (m : ManifestBoxes). m.assertions) t s i boxes h e in
    let store : Option ℕ = assertion_store_in t (superboxes t m.0) in
    let own : AllByRecursion (IsInside t) (inside t store) =
    in_store t store
    (λ j f. find_inside (IsInside t) (λ k. is_named (codes "c2as") (codes "c2pa.assertions") (box_at t k).box) (superboxes t m.0) j (superboxes_inside t m.0 m.1) f) in
    All-from_recursion (IsInside t) boxes (subst (AllByRecursion (IsInside t)) m.2 own)
