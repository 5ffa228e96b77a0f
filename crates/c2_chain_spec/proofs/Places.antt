-- Places in lists that are joined, and in what is picked of a list.
use Rattle.std.proofs.Common.{◌≡◌, ◌⊎◌, inl, inr, ⊎_elim, ℕ, zero, suc, ◌+◌, ◌-◌, ◌<◌, ◌≤◌, Bool, true, false, cond, List, [], ◌∷◌, ◌++◌, length, Some, slice_get, Contains, refl, sym, ap, ◌∙◌, subst, arith}
use Rattle.std.specs.List.{AllByRecursion}
use Rattle.std.proofs.lemmas.Option.{same_Some}
use Rattle.c2_rules.specs.Chains.{LabelsDiffer, label_in}
use Rattle.c2_rules.specs.Readings.{Reading}
use Rattle.c2_rules.proofs.ListLemmas.{contains_cons, contains_head, contains_none, contains_tail}
use Rattle.c2_chain_spec.specs.Joined.{picked}

-- ---- members

-- what holds of each member holds of all
pub all_members : {X : Type 0} (P : X → Type 0) (xs : List X) → ((x : X) → Contains xs x → P x) → AllByRecursion P xs
all_members P [] h = tt
all_members P (x ∷ xs) h = (h x (contains_head x xs), all_members P xs (λ y c. h y (contains_tail x y xs c)))

-- a member of the first of two lists
pub contains_left : {X : Type 0} (xs ys : List X) (x : X) → Contains xs x → Contains (xs ++ ys) x
contains_left [] ys x c = absurd (contains_none x c)
contains_left {X} (z ∷ zs) ys x c = by (contains_left zs ys x) (contains_cons z x zs c)
  where
    by : (Contains zs x → Contains (zs ++ ys) x) → (z ≡ x) ⊎ Contains zs x → Contains (z ∷ (zs ++ ys)) x
    by rest (inl same) = subst (Contains (z ∷ (zs ++ ys))) same (contains_head z (zs ++ ys))
    by rest (inr more) = contains_tail z x (zs ++ ys) (rest more)

-- a member of the second
pub contains_right : {X : Type 0} (xs ys : List X) (x : X) → Contains ys x → Contains (xs ++ ys) x
contains_right [] ys x c = c
contains_right (z ∷ zs) ys x c = contains_tail z x (zs ++ ys) (contains_right zs ys x c)

-- a member of both is one of either
pub contains_either : {X : Type 0} (xs ys : List X) (x : X) → Contains (xs ++ ys) x → Contains xs x ⊎ Contains ys x
contains_either [] ys x c = inr c
contains_either {X} (z ∷ zs) ys x c = by (contains_either zs ys x) (contains_cons z x (zs ++ ys) c)
  where
    by : (Contains (zs ++ ys) x → Contains zs x ⊎ Contains ys x) → (z ≡ x) ⊎ Contains (zs ++ ys) x
        → Contains (z ∷ zs) x ⊎ Contains ys x
    by rest (inl same) = inl (subst (Contains (z ∷ zs)) same (contains_head z zs))
    by rest (inr more) = ⊎_elim (λ l. inl (contains_tail z x zs l)) (λ r. inr r) (rest more)

-- ---- places

-- the first of two lists stands where it stood
pub get_left : {X : Type 0} (xs ys : List X) (i : ℕ) → i < length xs → slice_get (xs ++ ys) i ≡ slice_get xs i
get_left [] ys i h = absurd (omega arith)
get_left (x ∷ xs) ys zero h = refl
get_left (x ∷ xs) ys (suc i) h = get_left xs ys i (omega arith)

-- the second behind it
pub get_right : {X : Type 0} (xs ys : List X) (i : ℕ) → length xs ≤ i
    → slice_get (xs ++ ys) i ≡ slice_get ys (i - length xs)
get_right [] ys i h = ap (slice_get ys) (let e : i ≡ i - 0 = omega arith in e)
get_right (x ∷ xs) ys zero h = absurd (omega (arith, h))
get_right (x ∷ xs) ys (suc i) h =
    get_right xs ys i (omega (arith, h))
    ∙ ap (slice_get ys) (let e : i - length xs ≡ suc i - suc (length xs) = omega arith in e)

-- what stands behind the first stands in the second
pub from_right : {X : Type 0} (xs ys : List X) (i : ℕ) (x : X) → length xs ≤ i → slice_get (xs ++ ys) i ≡ Some x
    → slice_get ys (i - length xs) ≡ Some x
from_right xs ys i x le e = sym (get_right xs ys i le) ∙ e

-- what stands in the second list stands behind the first
pub to_right : {X : Type 0} (xs ys : List X) (j : ℕ) (x : X) → slice_get ys j ≡ Some x
    → slice_get (xs ++ ys) (length xs + j) ≡ Some x
to_right xs ys j x e =
    get_right xs ys (length xs + j) (omega arith)
    ∙ ap (slice_get ys) (let f : length xs + j - length xs ≡ j = omega arith in f) ∙ e

-- ---- what is picked

-- what passes is picked
pub picked_in : {X : Type 0} (p : ℕ → X → Bool) (k i : ℕ) (xs : List X) (x : X) → slice_get xs i ≡ Some x
    → p (k + i) x ≡ true → (q : ℕ) × (slice_get (picked p k xs) q ≡ Some x)
picked_in p k i [] x e h = absurd (cc (e))
picked_in {X} p k zero (y ∷ ys) x e h =
    (0, ap (λ b. slice_get (cond b (y ∷ picked p (k + 1) ys) (picked p (k + 1) ys)) 0) here ∙ e)
  where
    here : p k y ≡ true
    here = ap (p k) (same_Some y x e) ∙ ap (λ n. p n x) (let f : k ≡ k + 0 = omega arith in f) ∙ h
picked_in {X} p k (suc i) (y ∷ ys) x e h =
    by (p k y) (picked_in p (k + 1) i ys x e (ap (λ n. p n x) (let f : k + 1 + i ≡ k + suc i = omega arith in f) ∙ h))
  where
    by : (b : Bool) → (q : ℕ) × (slice_get (picked p (k + 1) ys) q ≡ Some x)
        → (q : ℕ) × (slice_get (cond b (y ∷ picked p (k + 1) ys) (picked p (k + 1) ys)) q ≡ Some x)
    by true found = (suc found.0, found.1)
    by false found = found

-- what is picked stood there, and passes
pub picked_from : {X : Type 0} (p : ℕ → X → Bool) (k q : ℕ) (xs : List X) (x : X) → slice_get (picked p k xs) q ≡ Some x
    → (i : ℕ) × (slice_get xs i ≡ Some x) × (p (k + i) x ≡ true)
picked_from p k q [] x e = absurd (cc (e))
picked_from {X} p k q (y ∷ ys) x e = by (λ q e. picked_from p (k + 1) q ys x e) (p k y) refl q e
  where
    later : (i : ℕ) × (slice_get ys i ≡ Some x) × (p (k + 1 + i) x ≡ true)
        → (i : ℕ) × (slice_get (y ∷ ys) i ≡ Some x) × (p (k + i) x ≡ true)
    later found =
        (suc found.0, found.1, ap (λ n. p n x) (let f : k + suc found.0 ≡ k + 1 + found.0 = omega arith in f) ∙ found.2)

    by : ((q : ℕ) → slice_get (picked p (k + 1) ys) q ≡ Some x → (i : ℕ) × (slice_get ys i ≡ Some x) × (p (k + 1 + i) x ≡ true))
        → (b : Bool) → p k y ≡ b → (q : ℕ)
        → slice_get (cond b (y ∷ picked p (k + 1) ys) (picked p (k + 1) ys)) q ≡ Some x
        → (i : ℕ) × (slice_get (y ∷ ys) i ≡ Some x) × (p (k + i) x ≡ true)
    by rest true h zero e =
        (0, e, ap (λ n. p n x) (let f : k + 0 ≡ k = omega arith in f) ∙ ap (p k) (sym (same_Some y x e)) ∙ h)
    by rest true h (suc q) e = later (rest q e)
    by rest false h q e = later (rest q e)

-- what is picked of a whole list
pub picked_of : {X : Type 0} (p : ℕ → X → Bool) (q : ℕ) (xs : List X) (x : X) → slice_get (picked p 0 xs) q ≡ Some x
    → (i : ℕ) × (slice_get xs i ≡ Some x) × (p i x ≡ true)
picked_of p q xs x e =
    let found =
    picked_from p 0 q xs x e in (found.0, found.1, ap (λ n. p n x) (let f : found.0 ≡ 0 + found.0 = omega arith in f) ∙ found.2)

-- what passes in a list is picked of it
pub picked_at : {X : Type 0} (p : ℕ → X → Bool) (i : ℕ) (xs : List X) (x : X) → slice_get xs i ≡ Some x → p i x ≡ true
    → (q : ℕ) × (slice_get (picked p 0 xs) q ≡ Some x)
picked_at p i xs x e h = picked_in p 0 i xs x e (ap (λ n. p n x) (let f : 0 + i ≡ i = omega arith in f) ∙ h)

-- ---- labels of what is picked

-- labels of the rest differ
pub tail_differs : (x : Reading) (xs : List Reading) → LabelsDiffer (x ∷ xs) → LabelsDiffer xs
tail_differs x xs d i j r s e f g = let h : suc i ≡ suc j = d (suc i) (suc j) r s e f g in omega (arith, h)

-- what is picked of the rest has another label than the first
pub not_first : (p : ℕ → Reading → Bool) (k q : ℕ) (x : Reading) (xs : List Reading) (r : Reading)
    → LabelsDiffer (x ∷ xs) → slice_get (picked p k xs) q ≡ Some r → label_in x ≡ label_in r → ⊥
not_first p k q x xs r d e g =
    let found = picked_from p k q xs r e in
    let h : 0 ≡ suc found.0 = d 0 (suc found.0) x r refl found.1 g in omega (arith, h)

-- labels of what is picked differ
pub picked_differ : (p : ℕ → Reading → Bool) (k : ℕ) (xs : List Reading) → LabelsDiffer xs
    → LabelsDiffer (picked p k xs)
picked_differ p k [] d i j r s e f g = absurd (cc (e))
picked_differ p k (x ∷ xs) d i j r s e f g = by (picked_differ p (k + 1) xs (tail_differs x xs d)) (p k x) i j e f
  where
    by : LabelsDiffer (picked p (k + 1) xs) → (b : Bool) (i j : ℕ)
        → slice_get (cond b (x ∷ picked p (k + 1) xs) (picked p (k + 1) xs)) i ≡ Some r
        → slice_get (cond b (x ∷ picked p (k + 1) xs) (picked p (k + 1) xs)) j ≡ Some s → i ≡ j
    by rest true zero zero e f = refl
    by rest true zero (suc j) e f = absurd (not_first p (k + 1) j x xs s d f (ap label_in (same_Some x r e) ∙ g))
    by rest true (suc i) zero e f = absurd (not_first p (k + 1) i x xs r d e (ap label_in (same_Some x s f) ∙ sym g))
    by rest true (suc i) (suc j) e f = ap suc (rest i j r s e f g)
    by rest false i j e f = rest i j r s e f g

-- what is picked keeps its order
pub picked_order : (p : ℕ → Reading → Bool) (k i j a b : ℕ) (xs : List Reading) (r s : Reading) → LabelsDiffer xs
    → slice_get xs i ≡ Some r → slice_get xs j ≡ Some s → i < j
    → slice_get (picked p k xs) a ≡ Some r → slice_get (picked p k xs) b ≡ Some s → a < b
picked_order p k i j a b [] r s d e f lt u v = absurd (cc (e))
picked_order p k zero zero a b (x ∷ xs) r s d e f lt u v = absurd (omega (arith, lt))
picked_order p k (suc i) zero a b (x ∷ xs) r s d e f lt u v = absurd (omega (arith, lt))
picked_order p k zero (suc j) a b (x ∷ xs) r s d e f lt u v = by (p k x) a b u v
  where
    first : label_in x ≡ label_in r
    first = ap label_in (same_Some x r e)

    by : (t : Bool) (a b : ℕ) → slice_get (cond t (x ∷ picked p (k + 1) xs) (picked p (k + 1) xs)) a ≡ Some r
        → slice_get (cond t (x ∷ picked p (k + 1) xs) (picked p (k + 1) xs)) b ≡ Some s → a < b
    by true zero zero u v =
        let h : 0 ≡ suc j = d 0 (suc j) x s refl f (ap label_in (same_Some x s v)) in absurd (omega (arith, h))
    by true zero (suc b) u v = omega arith
    by true (suc a) b u v = absurd (not_first p (k + 1) a x xs r d u first)
    by false a b u v = absurd (not_first p (k + 1) a x xs r d u first)
picked_order p k (suc i) (suc j) a b (x ∷ xs) r s d e f lt u v =
    by (λ a b. picked_order p (k + 1) i j a b xs r s (tail_differs x xs d) e f (omega (arith, lt))) (p k x) a b u v
  where
    by : ((a b : ℕ) → slice_get (picked p (k + 1) xs) a ≡ Some r → slice_get (picked p (k + 1) xs) b ≡ Some s → a < b)
        → (t : Bool) (a b : ℕ) → slice_get (cond t (x ∷ picked p (k + 1) xs) (picked p (k + 1) xs)) a ≡ Some r
        → slice_get (cond t (x ∷ picked p (k + 1) xs) (picked p (k + 1) xs)) b ≡ Some s → a < b
    by rest true zero b u v =
        let h : 0 ≡ suc i = d 0 (suc i) x r refl e (ap label_in (same_Some x r u)) in absurd (omega (arith, h))
    by rest true (suc a) zero u v =
        let h : 0 ≡ suc j = d 0 (suc j) x s refl f (ap label_in (same_Some x s v)) in absurd (omega (arith, h))
    by rest true (suc a) (suc b) u v = let h : a < b = rest a b u v in omega (arith, h)
    by rest false a b u v = rest a b u v
