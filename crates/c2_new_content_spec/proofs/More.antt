-- A chain with one more manifest behind it: what is said of the others stays.
use Rattle.std.proofs.Common.{◌≡◌, ◌⊎◌, inl, inr, ⊎_elim, ℕ, zero, suc, ◌+◌, ◌<◌, ◌≤◌, Bool, true, false, not, ◌||◌, cond, List, [], ◌∷◌, ◌++◌, length, Option, Some, None, slice_get, refl, sym, ap, ◌∙◌, subst, arith, bytes_eq}
use Rattle.std.specs.Prelude.{nat_lt, nat_eq, position, filter_map, option_and_then}
use Rattle.std.specs.List.{AllByRecursion, list_any, prefix_len, cons_option}
use Rattle.std.proofs.lemmas.Bool.{cases_lt, lt-ltb, le-ltb, ne_eqb, or_from}
use Rattle.c2_rules.specs.Chains.{label_in, place_of, place_before, child_of, boxes_at, children, reaches_within, named_in}
use Rattle.c2_rules.specs.Readings.{ReadBox, Reading}

-- ---- places

-- what stood before stands there
pub get_front : {X : Type 0} (xs : List X) (y : X) (i : ℕ) → i < length xs → slice_get (xs ++ y ∷ []) i ≡ slice_get xs i
get_front [] y i h = absurd (omega arith)
get_front (x ∷ xs) y zero h = refl
get_front (x ∷ xs) y (suc i) h = get_front xs y i (omega arith)

-- the new one stands last
pub get_last : {X : Type 0} (xs : List X) (y : X) → slice_get (xs ++ y ∷ []) (length xs) ≡ Some y
get_last [] y = refl
get_last (x ∷ xs) y = get_last xs y

-- one more
pub len_more : {X : Type 0} (xs : List X) (y : X) → length (xs ++ y ∷ []) ≡ suc (length xs)
len_more [] y = refl
len_more (x ∷ xs) y = ap suc (len_more xs y)

-- what is found before is found there
front_some : {X : Type 0} (q : X → Bool) (xs : List X) (y : X) → prefix_len q xs < length xs
    → prefix_len q (xs ++ y ∷ []) ≡ prefix_len q xs
front_some q [] y h = absurd (omega arith)
front_some q (x ∷ xs) y h = go (q x) h (front_some q xs y)
  where
    go : (b : Bool) → cond b (1 + prefix_len q xs) 0 < suc (length xs)
        → (prefix_len q xs < length xs → prefix_len q (xs ++ y ∷ []) ≡ prefix_len q xs)
        → cond b (1 + prefix_len q (xs ++ y ∷ [])) 0 ≡ cond b (1 + prefix_len q xs) 0
    go true h k = ap (λ n. 1 + n) (k (omega arith))
    go false h k = refl

-- where nothing was found, all are passed over, or all and the new one
front_all : {X : Type 0} (q : X → Bool) (xs : List X) (y : X) → length xs ≤ prefix_len q xs
    → (prefix_len q (xs ++ y ∷ []) ≡ length xs) ⊎ (prefix_len q (xs ++ y ∷ []) ≡ suc (length xs))
front_all q [] y h = go (q y)
  where
    go : (b : Bool) → (cond b (1 + 0) 0 ≡ 0) ⊎ (cond b (1 + 0) 0 ≡ 1)
    go true = inr refl
    go false = inl refl
front_all q (x ∷ xs) y h = go (q x) h (front_all q xs y)
  where
    go : (b : Bool) → suc (length xs) ≤ cond b (1 + prefix_len q xs) 0
        → (length xs ≤ prefix_len q xs → (prefix_len q (xs ++ y ∷ []) ≡ length xs) ⊎ (prefix_len q (xs ++ y ∷ []) ≡ suc (length xs)))
        → (cond b (1 + prefix_len q (xs ++ y ∷ [])) 0 ≡ suc (length xs)) ⊎ (cond b (1 + prefix_len q (xs ++ y ∷ [])) 0 ≡ suc (suc (length xs)))
    go true h k =
        ⊎_elim (λ e. inl (ap (λ n. 1 + n) e ∙ (let f : 1 + length xs ≡ suc (length xs) = omega arith in f)))
        (λ e. inr (ap (λ n. 1 + n) e ∙ (let f : 1 + suc (length xs) ≡ suc (suc (length xs)) = omega arith in f)))
        (k (omega arith))
    go false h k = absurd (omega (arith, h))

-- the first place stays, or there was none and the new one is it
position_more : {X : Type 0} (p : X → Bool) (xs : List X) (y : X)
    → (position p (xs ++ y ∷ []) ≡ position p xs) ⊎ ((position p xs ≡ None) × (position p (xs ++ y ∷ []) ≡ Some (length xs)))
position_more {X} p xs y = ⊎_elim inside outside (cases_lt (prefix_len (λ (x : X). not (p x)) xs) (length xs))
  where
    found : (n m : ℕ) → n < m → cond (nat_lt n m) (Some n) None ≡ Some n
    found n m h = ap (λ b. cond b (Some n) None) (lt-ltb n m h)

    lost : (n m : ℕ) → m ≤ n → cond (nat_lt n m) (Some n) None ≡ None
    lost n m h = ap (λ b. cond b (Some n) None) (le-ltb n m h)

    inside : prefix_len (λ (x : X). not (p x)) xs < length xs
        → (position p (xs ++ y ∷ []) ≡ position p xs) ⊎ ((position p xs ≡ None) × (position p (xs ++ y ∷ []) ≡ Some (length xs)))
    inside h =
        let e : prefix_len (λ (x : X). not (p x)) (xs ++ y ∷ []) ≡ prefix_len (λ (x : X). not (p x)) xs =
        front_some (λ (x : X). not (p x)) xs y h in
        inl
        (ap (λ n. cond (nat_lt n (length (xs ++ y ∷ []))) (Some n) None) e ∙ found (prefix_len (λ (x : X). not (p x)) xs) (length (xs ++ y ∷ [])) (omega (arith, h, len_more xs y)) ∙ sym (found (prefix_len (λ (x : X). not (p x)) xs) (length xs) h))

    outside : length xs ≤ prefix_len (λ (x : X). not (p x)) xs
        → (position p (xs ++ y ∷ []) ≡ position p xs) ⊎ ((position p xs ≡ None) × (position p (xs ++ y ∷ []) ≡ Some (length xs)))
    outside h =
        let none : position p xs ≡ None = lost (prefix_len (λ (x : X). not (p x)) xs) (length xs) h in
        ⊎_elim
        (λ e. inr (none, ap (λ n. cond (nat_lt n (length (xs ++ y ∷ []))) (Some n) None) e ∙ found (length xs) (length (xs ++ y ∷ [])) (omega (arith, len_more xs y))))
        (λ e. inl (ap (λ n. cond (nat_lt n (length (xs ++ y ∷ []))) (Some n) None) e ∙ lost (suc (length xs)) (length (xs ++ y ∷ [])) (omega (arith, len_more xs y)) ∙ sym none))
        (front_all (λ (x : X). not (p x)) xs y h)

-- a label's place stays, or is the new one
pub place_more : (rs : List Reading) (r : Reading) (label : List ℕ)
    → (place_of (rs ++ r ∷ []) label ≡ place_of rs label) ⊎ ((place_of rs label ≡ None) × (place_of (rs ++ r ∷ []) label ≡ Some (length rs)))
place_more rs r label = position_more (λ (x : Reading). bytes_eq (label_in x) label) rs r

-- what doesn't stand earlier is no child
before_none : (i n : ℕ) → i ≤ n → place_before i (Some n) ≡ None
before_none i n h = ap (λ b. cond b (Some n) None) (le-ltb n i h)

-- ---- children

-- by what is named
child_named : (rs : List Reading) (r : Reading) (i : ℕ) (o : Option (List ℕ)) → i ≤ length rs
    → place_before i (option_and_then (place_of (rs ++ r ∷ [])) o) ≡ place_before i (option_and_then (place_of rs) o)
child_named rs r i None h = refl
child_named rs r i (Some label) h =
    ⊎_elim (λ e. ap (place_before i) e)
    (λ e. ap (place_before i) e.1 ∙ before_none i (length rs) h ∙ sym (ap (place_before i) e.0)) (place_more rs r label)

-- a box names the same child
pub child_more : (rs : List Reading) (r : Reading) (i : ℕ) (b : ReadBox) → i ≤ length rs
    → child_of (rs ++ r ∷ []) i b ≡ child_of rs i b
child_more rs r i b h = child_named rs r i (named_in b) h

-- the boxes of an older manifest name the same children
filter_more : (rs : List Reading) (r : Reading) (i : ℕ) (bs : List ReadBox) → i ≤ length rs
    → filter_map (child_of (rs ++ r ∷ []) i) bs ≡ filter_map (child_of rs i) bs
filter_more rs r i [] h = refl
filter_more rs r i (b ∷ bs) h =
    ap (λ o. cons_option o (filter_map (child_of (rs ++ r ∷ []) i) bs)) (child_more rs r i b h)
    ∙ ap (λ (x : List ℕ). cons_option (child_of rs i b) x) (filter_more rs r i bs h)

-- the boxes of an older manifest
boxes_front : (rs : List Reading) (r : Reading) (i : ℕ) → i < length rs → boxes_at (rs ++ r ∷ []) i ≡ boxes_at rs i
boxes_front [] r i h = absurd (omega arith)
boxes_front (x ∷ xs) r zero h = refl
boxes_front (x ∷ xs) r (suc i) h = boxes_front xs r i (omega arith)

-- the boxes of the new manifest
boxes_last : (rs : List Reading) (r : Reading) → boxes_at (rs ++ r ∷ []) (length rs) ≡ r.boxes
boxes_last [] r = refl
boxes_last (x ∷ xs) r = boxes_last xs r

-- the children of an older manifest stay
pub children_front : (rs : List Reading) (r : Reading) (i : ℕ) → i < length rs
    → children (rs ++ r ∷ []) i ≡ children rs i
children_front rs r i h =
    ap (filter_map (child_of (rs ++ r ∷ []) i)) (boxes_front rs r i h)
    ∙ filter_more rs r i (boxes_at rs i) (omega arith)

-- the children of the new manifest are among the older ones
pub children_last : (rs : List Reading) (r : Reading)
    → children (rs ++ r ∷ []) (length rs) ≡ filter_map (child_of rs (length rs)) r.boxes
children_last rs r =
    ap (filter_map (child_of (rs ++ r ∷ []) (length rs))) (boxes_last rs r)
    ∙ filter_more rs r (length rs) r.boxes (omega arith)

-- ---- what is reached

-- two tests that agree on what may come
pub any_same : {A : Type 0} (f g : A → Bool) (P : A → Type 0) (xs : List A) → ((x : A) → P x → f x ≡ g x)
    → AllByRecursion P xs → list_any f xs ≡ list_any g xs
any_same f g P [] same h = refl
any_same f g P (x ∷ xs) same h =
    ap (λ b. b || list_any f xs) (same x h.0) ∙ ap (λ b. g x || b) (any_same f g P xs same h.1)

-- a child stands earlier
before_below : (n : ℕ) (o : Option ℕ) (xs : List ℕ) → AllByRecursion (λ c. c < n) xs
    → AllByRecursion (λ c. c < n) (cons_option (place_before n o) xs)
before_below n None xs h = h
before_below n (Some m) xs h =
    ⊎_elim
    (λ lt. subst (λ o. AllByRecursion (λ c. c < n) (cons_option o xs)) (sym (ap (λ b. cond b (Some m) None) (lt-ltb m n lt))) (lt, h))
    (λ ge. subst (λ o. AllByRecursion (λ c. c < n) (cons_option o xs)) (sym (ap (λ b. cond b (Some m) None) (le-ltb m n ge))) h)
    (cases_lt m n)

-- the children of some boxes stand earlier
below_boxes : (rs : List Reading) (n : ℕ) (bs : List ReadBox)
    → AllByRecursion (λ c. c < n) (filter_map (child_of rs n) bs)
below_boxes rs n [] = tt
below_boxes rs n (b ∷ bs) =
    before_below n (option_and_then (place_of rs) (named_in b)) (filter_map (child_of rs n) bs) (below_boxes rs n bs)

-- all children of a manifest stand earlier
pub children_below : (rs : List Reading) (n : ℕ) → AllByRecursion (λ c. c < n) (children rs n)
children_below rs n = below_boxes rs n (boxes_at rs n)

-- two chains with the same children below a place reach the same from there
pub reach_same : (as_ bs : List Reading) (n k i m : ℕ) → ((j : ℕ) → j < n → children as_ j ≡ children bs j) → i < n
    → reaches_within as_ k i m ≡ reaches_within bs k i m
reach_same as_ bs n zero i m same h = refl
reach_same as_ bs n (suc k) i m same h =
    ap (list_any (λ c. nat_eq c m || reaches_within as_ k c m)) (same i h)
    ∙ any_same (λ c. nat_eq c m || reaches_within as_ k c m) (λ c. nat_eq c m || reaches_within bs k c m) (λ c. c < i)
    (children bs i) (λ c lt. ap (λ b. nat_eq c m || b) (reach_same as_ bs n k c m same (omega arith)))
    (children_below bs i)

-- what fails wherever it may come
any_false : {A : Type 0} (f : A → Bool) (P : A → Type 0) (xs : List A) → ((x : A) → P x → f x ≡ false)
    → AllByRecursion P xs → list_any f xs ≡ false
any_false f P [] same h = refl
any_false f P (x ∷ xs) same h = or_from (f x) (list_any f xs) (same x h.0) (any_false f P xs same h.1)

-- nothing later is reached
pub reach_earlier : (rs : List Reading) (k i m : ℕ) → i ≤ m → reaches_within rs k i m ≡ false
reach_earlier rs zero i m h = refl
reach_earlier rs (suc k) i m h =
    any_false (λ c. nat_eq c m || reaches_within rs k c m) (λ c. c < i) (children rs i)
    (λ c lt. or_from (nat_eq c m) (reaches_within rs k c m) (ne_eqb c m (λ e. omega (arith, e))) (reach_earlier rs k c m (omega arith)))
    (children_below rs i)
