-- What holds of each member of a list, and what a list contains.
use Rattle.std.proofs.Common.{Contains, List, None, Option, Some, [], ap, ap₂, arith, get_or, length, refl, slice_get, subst, suc, zero, ℕ, ◌++◌, ◌<◌, ◌∙◌, ◌∷◌, ◌≡◌, ◌≢◌}
use Rattle.std.proofs.lemmas.List.Elements.{All-contains, All-from_recursion}
use Rattle.std.proofs.lemmas.Option.{get_or_from_slice_get, same_Some, slice_get-get_or, slice_get_within}
use Rattle.std.specs.List.{AllByRecursion, AllZip}

-- a member stands at a place
pub at_contains : {X : Type 0} (xs : List X) (x : X) → Contains xs x → (i : ℕ) × (slice_get xs i ≡ Some x)
at_contains xs x c = (c.0, slice_get-get_or xs c.0 x c.1 ∙ ap Some c.2)

-- what stands at a place is a member
pub contains_at : {X : Type 0} (xs : List X) (i : ℕ) (x : X) → slice_get xs i ≡ Some x → Contains xs x
contains_at xs i x e = (i, slice_get_within xs i x e, get_or_from_slice_get xs i x x e)

-- what holds of the members of two lists holds of those of both together
pub each_append : {X : Type 0} (P : X → Type 0) (xs ys : List X) → AllByRecursion P xs → AllByRecursion P ys
    → AllByRecursion P (xs ++ ys)
each_append P [] ys h k = k
each_append P (x ∷ xs) ys h k = (h.0, each_append P xs ys h.1 k)

-- what holds of each member of two lists together holds of each of the second
pub each_back : {A : Type 0} (P : A → Type 0) (xs ys : List A) → AllByRecursion P (xs ++ ys) → AllByRecursion P ys
each_back P [] ys h = h
each_back P (x ∷ xs) ys h = each_back P xs ys h.1

-- what holds of two lists together holds of the first
pub each_front : {A : Type 0} (P : A → Type 0) (xs ys : List A) → AllByRecursion P (xs ++ ys) → AllByRecursion P xs
each_front P [] ys h = tt
each_front P (x ∷ xs) ys h = (h.0, each_front P xs ys h.1)

-- what holds of each member of a list and of one more holds of all of them
pub each_push : {X : Type 0} (P : X → Type 0) (xs : List X) (x : X) → AllByRecursion P xs → P x
    → AllByRecursion P (xs ++ x ∷ [])
each_push P [] x h p = (p, tt)
each_push P (y ∷ xs) x h p = (h.0, each_push P xs x h.1 p)

-- a label that differs from each of some labels is at none of their places
pub not_among : (label : List ℕ) (os : List (Option (List ℕ))) (n : ℕ) → AllByRecursion (λ o. o ≢ Some label) os
    → n < length os → get_or os n None ≡ Some label → ⊥
not_among label [] n h l e = omega (arith, l)
not_among label (o ∷ os) zero h l e = h.0 e
not_among label (o ∷ os) (suc n) h l e = not_among label os n h.1 (omega arith) e

-- where each member comes to one thing, a list comes to one list
pub one_list : {A B : Type 0} (R : A → B → Type 0) → ((x : A) (y z : B) → R x y → R x z → y ≡ z)
    → (xs : List A) (ys zs : List B) → AllZip R xs ys → AllZip R xs zs → ys ≡ zs
one_list R one [] [] [] p q = refl
one_list R one [] [] (z ∷ zs) p q = absurd q
one_list R one [] (y ∷ ys) zs p q = absurd p
one_list R one (x ∷ xs) [] zs p q = absurd p
one_list R one (x ∷ xs) (y ∷ ys) [] p q = absurd q
one_list {A} {B} R one (x ∷ xs) (y ∷ ys) (z ∷ zs) p q =
    ap₂ (λ (b : B) (bs : List B). b ∷ bs) (one x y z p.0 q.0) (one_list R one xs ys zs p.1 q.1)

-- where two lists correspond, a member of the second has a partner at the same place of the first
pub partner_at : {A B : Type 0} (R : A → B → Type 0) (xs : List A) (ys : List B) (i : ℕ) (y : B) → AllZip R xs ys
    → slice_get ys i ≡ Some y → (x : A) × (slice_get xs i ≡ Some x) × R x y
partner_at R [] [] i y h e = absurd cc
partner_at R [] (z ∷ ys) i y h e = absurd h
partner_at R (x ∷ xs) [] i y h e = absurd cc
partner_at {A} {B} R (x ∷ xs) (z ∷ ys) zero y h e = (x, refl, subst (λ (b : B). R x b) (same_Some z y e) h.0)
partner_at R (x ∷ xs) (z ∷ ys) (suc i) y h e = partner_at R xs ys i y h.1 e

-- two lists behind two others
pub zip_append : {A B : Type 0} (R : A → B → Type 0) (xs us : List A) (ys vs : List B) → AllZip R xs ys
    → AllZip R us vs → AllZip R (xs ++ us) (ys ++ vs)
zip_append R [] us [] vs h k = k
zip_append R [] us (y ∷ ys) vs h k = absurd h
zip_append R (x ∷ xs) us [] vs h k = absurd h
zip_append R (x ∷ xs) us (y ∷ ys) vs h k = (h.0, zip_append R xs us ys vs h.1 k)

-- lists that correspond are of one length
pub zip_length : {A B : Type 0} (R : A → B → Type 0) (xs : List A) (ys : List B) → AllZip R xs ys
    → length xs ≡ length ys
zip_length R [] [] h = refl
zip_length R [] (y ∷ ys) h = absurd h
zip_length R (x ∷ xs) [] h = absurd h
zip_length R (x ∷ xs) (y ∷ ys) h = ap suc (zip_length R xs ys h.1)

-- what holds of all members holds of each
pub member_of : {X : Type 0} (P : X → Type 0) (xs : List X) (x : X) → AllByRecursion P xs → Contains xs x → P x
member_of P xs x h c = All-contains P xs x (All-from_recursion P xs h) c
