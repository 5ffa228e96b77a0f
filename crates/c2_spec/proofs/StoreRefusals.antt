-- The first refusal of a store's tests, by parts of the list.
use Rattle.std.proofs.Common.{◌≡◌, Bool, true, false, cond, List, [], ◌∷◌, ◌++◌, Some, refl}
use Rattle.std.specs.List.{find}
use Rattle.std.specs.Option.{option_map, option_or}
use Rattle.c2_spec.specs.C2pa.Manifest.{StoreTest, first_refusal}

-- whether the first test fails
by_case : (t : StoreTest) (ts ys : List StoreTest) (b : Bool)
    → first_refusal (ts ++ ys) ≡ option_or (first_refusal ts) (first_refusal ys)
    → option_map (λ (u : StoreTest). u.refusal) (cond b (Some t) (find (λ (u : StoreTest). u.fails) (ts ++ ys)))
    ≡ option_or (option_map (λ (u : StoreTest). u.refusal) (cond b (Some t) (find (λ (u : StoreTest). u.fails) ts)))
    (first_refusal ys)
by_case t ts ys true h = refl
by_case t ts ys false h = h

-- the first refusal of two lists is that of the first, and else that of the second
pub first_refusal_append : (xs ys : List StoreTest)
    → first_refusal (xs ++ ys) ≡ option_or (first_refusal xs) (first_refusal ys)
first_refusal_append [] ys = refl
first_refusal_append (t ∷ ts) ys = by_case t ts ys t.fails (first_refusal_append ts ys)
