-- What keys share at their start.
use Rattle.std.proofs.Common.{◌≡◌, ℕ, ◌+◌, ◌<◌, ◌≤◌, List, [], ◌∷◌, ◌++◌, length, get_or, take, drop, ap, sym, subst, arith}
use Rattle.std.proofs.lemmas.List.{length-map, take_more}
use Rattle.c2_cbor_spec.specs.Marks.{flat, lengths, AgreeBelow, AllAgree, SharesFront}
use Rattle.c2_cbor_spec.proofs.Marks.{key_cut}

-- nothing is always shared
pub none_shared : (a : List ℕ) (ks : List (List ℕ)) → AllAgree 0 a ks
none_shared a [] = tt
none_shared a (k ∷ ks) = (λ i l. let never : ⊥ = omega (arith, l) in absurd never, none_shared a ks)

-- so no byte is always shared
pub shares_none : (ks : List (List ℕ)) → SharesFront 0 ks
shares_none ks = ([], none_shared [] ks)

-- what agrees further agrees so far
agree_less : (n m : ℕ) (a : List ℕ) (ks : List (List ℕ)) → n ≤ m → AllAgree m a ks → AllAgree n a ks
agree_less n m a [] le h = tt
agree_less n m a (k ∷ ks) le h = (λ i l. h.0 i (omega (arith, l, le)), agree_less n m a ks le h.1)

-- one more key agrees
agree_push : (n : ℕ) (a : List ℕ) (ks : List (List ℕ)) (k : List ℕ) → AllAgree n a ks → AgreeBelow n a k
    → AllAgree n a (ks ++ k ∷ [])
agree_push n a [] k h g = (g, tt)
agree_push n a (x ∷ xs) k h g = (h.0, agree_push n a xs k h.1 g)

-- one more key is cut off and compared
pub shared_on : (ks : List (List ℕ)) (a lens rest left : List ℕ) (i n shared new : ℕ) (k : List ℕ)
    → i < length lens → n ≡ get_or lens i 0 → lens ≡ lengths ks → k ≡ take n rest → left ≡ drop n rest → new ≤ shared
    → AgreeBelow new a k
    → (rest ≡ flat (drop i ks)) × AllAgree shared a (take i ks)
    → (left ≡ flat (drop (i + 1) ks)) × AllAgree new a (take (i + 1) ks)
shared_on ks a lens rest left i n shared new k lt is all front back le agree h =
    let c = key_cut ks lens rest left i n k lt is all front back h.0 in
    let lk : i < length ks = omega (arith, lt, ap length all, length-map ks (λ k. length k)) in
    let more : AllAgree new a (take i ks ++ get_or ks i [] ∷ []) =
    agree_push new a (take i ks) (get_or ks i []) (agree_less new shared a (take i ks) le h.1)
    (subst (AgreeBelow new a) c.0 agree) in
    (c.1, subst (AllAgree new a) (sym (take_more ks i [] lk)) more)
