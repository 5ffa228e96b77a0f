-- Tests of all entries, and of all places.
use Rattle.std.proofs.Common.{◌≡◌, ℕ, zero, suc, ◌+◌, ◌-◌, ◌<◌, Bool, true, false, not, ◌&&◌, ◌||◌, bytes_eq, List, [], ◌∷◌, Option, Some, None, IfSome, drop, length, slice_get, refl, sym, ap, ◌∙◌, subst, arith}
use Rattle.std.specs.List.{list_all}
use Rattle.std.specs.Option.{option_map_or}
use Rattle.c2_spec.specs.declared.cbor.Ref.{Ref}
use Rattle.c2_rules.specs.Readings.{Reading, entries_in}
use Rattle.c2_compare_spec.specs.ChainContent.{claim_bytes_of, key_at}
use Rattle.c2_compare_spec.specs.Deciding.{are_equal, gives_all, gives_at, gives_label, is_missing}
use Rattle.c2_compare_sameness.specs.Alike.{alike}
use Rattle.c2_rules.specs.Chains.{any_below, entry_label, is_reached}
use Rattle.c2_compare_spec.proofs.Places.{rest_at}

-- ---- entries

-- a member that fails
pub all_failed : {X : Type 0} (d : X → Bool) (xs : List X) (i : ℕ) (x : X) → slice_get xs i ≡ Some x
    → list_all d xs ≡ list_all d (drop i xs) → false ≡ d x → false ≡ list_all d xs
all_failed d xs i x at so_far fails =
    ap (λ b. b && list_all d (drop (i + 1) xs)) fails ∙ ap (list_all d) (sym (rest_at xs i x at)) ∙ sym so_far

-- a member that passes
pub all_passed : {X : Type 0} (d : X → Bool) (xs : List X) (i : ℕ) (x : X) → slice_get xs i ≡ Some x
    → list_all d xs ≡ list_all d (drop i xs) → true ≡ d x → list_all d xs ≡ list_all d (drop (i + 1) xs)
all_passed d xs i x at so_far passes =
    so_far ∙ ap (list_all d) (rest_at xs i x at) ∙ ap (λ b. b && list_all d (drop (i + 1) xs)) (sym passes)

-- ---- places

-- the places below one
below_at : (d : ℕ → Bool) (i : ℕ) → 0 < i → any_below d i ≡ (d (i - 1) || any_below d (i - 1))
below_at d zero lt = absurd (omega (arith, lt))
below_at d (suc i) lt = let one : suc i - 1 ≡ i = omega arith in ap (λ k. d k || any_below d k) (sym one)

-- a place that passes
pub any_found : (d : ℕ → Bool) (n i : ℕ) → 0 < i → any_below d n ≡ any_below d i → true ≡ d (i - 1)
    → true ≡ any_below d n
any_found d n i lt so_far passes =
    ap (λ b. b || any_below d (i - 1)) passes ∙ sym (below_at d i lt) ∙ sym so_far

-- a place that fails
pub any_passed : (d : ℕ → Bool) (n i : ℕ) → 0 < i → any_below d n ≡ any_below d i → false ≡ d (i - 1)
    → any_below d n ≡ any_below d (i - 1)
any_passed d n i lt so_far fails =
    so_far ∙ below_at d i lt ∙ ap (λ b. b || any_below d (i - 1)) (sym fails)

-- ---- two manifests

-- what holds of all in a row holds of the last where it holds of the first three
last_of : (x y z w : Bool) → (x && (y && z)) ≡ true → w ≡ (x && (y && (z && w)))
last_of true true true w e = refl
last_of true true false w e = absurd (cc (e))
last_of true false z w e = absurd (cc (e))
last_of false y z w e = absurd (cc (e))

-- none of it where it doesn't hold of the first three
none_of : (x y z w : Bool) → (x && (y && z)) ≡ false → false ≡ (x && (y && (z && w)))
none_of true true true w e = absurd (cc (e))
none_of true true false w e = refl
none_of true false z w e = refl
none_of false y z w e = refl

-- the test of the labels of all entries
abbrev pub entries_given : List Reading → ℕ → Reading → List Reading → ℕ → Reading → Bool
entries_given rs n r ss m s =
    list_all (λ (e : Ref). option_map_or (gives_label rs n r ss m s) (entry_label r.manifest e) true) (entries_in r)

-- what was found out of two manifests holds at their places
at_both : (rs ss : List Reading) (n m : ℕ) (l q : Reading) (b : Bool) → slice_get rs n ≡ Some l
    → slice_get ss m ≡ Some q
    → IfSome (slice_get rs n) (λ r. IfSome (slice_get ss m) (λ s. b ≡ alike rs n r ss m s)) → b ≡ alike rs n l ss m q
at_both rs ss n m l q b at there h =
    subst (λ o. IfSome o (λ s. b ≡ alike rs n l ss m s)) there
    (subst (λ o. IfSome o (λ r. IfSome (slice_get ss m) (λ s. b ≡ alike rs n r ss m s))) at h)

-- the entries decide where the manifests are alike
pub gives_entries_at : (rs ss : List Reading) (n m : ℕ) (l q : Reading) (b t : Bool) → slice_get rs n ≡ Some l
    → slice_get ss m ≡ Some q
    → IfSome (slice_get rs n) (λ r. IfSome (slice_get ss m) (λ s. b ≡ alike rs n r ss m s)) → b ≡ true
    → t ≡ entries_given rs n l ss m q → IfSome (slice_get rs n) (λ r. t ≡ gives_at rs n r ss m)
gives_entries_at rs ss n m l q b t at there h yes' e =
    let known : alike rs n l ss m q ≡ true = sym (at_both rs ss n m l q b at there h) ∙ yes' in
    let here : t ≡ gives_at rs n l ss m =
    e
    ∙ last_of (is_reached ss m) (bytes_eq (key_at ss m q) (key_at rs n l))
    (are_equal (claim_bytes_of l) (claim_bytes_of q)) (entries_given rs n l ss m q) known
    ∙ ap (λ o. option_map_or (gives_all rs n l ss m) o false) (sym there) in
    subst (λ o. IfSome o (λ r. t ≡ gives_at rs n r ss m)) (sym at) here

-- ---- a loop over the places of the second store

-- this manifest gives all
pub given_found : (o : Option Reading) (f : Reading → ℕ → Bool) (len i : ℕ) (b : Bool) → 0 < i
    → IfSome o (λ r. any_below (f r) len ≡ any_below (f r) i)
    → IfSome o (λ r. b ≡ f r (i - 1)) → b ≡ true → IfSome o (λ r. true ≡ any_below (f r) len)
given_found None f len i b lt h k yes' = tt
given_found (Some r) f len i b lt h k yes' = any_found (f r) len i lt h (sym yes' ∙ k)

-- where this manifest doesn't give all, those before it are left
pub given_passed : (o : Option Reading) (f : Reading → ℕ → Bool) (len i : ℕ) (b : Bool) → 0 < i
    → IfSome o (λ r. any_below (f r) len ≡ any_below (f r) i)
    → IfSome o (λ r. b ≡ f r (i - 1)) → b ≡ false → IfSome o (λ r. any_below (f r) len ≡ any_below (f r) (i - 1))
given_passed None f len i b lt h k no' = tt
given_passed (Some r) f len i b lt h k no' = any_passed (f r) len i lt h (sym no' ∙ k)

-- ---- a reached manifest

-- something stands at each place
none_past : {X : Type 0} (xs : List X) (n : ℕ) → n < length xs → slice_get xs n ≡ None → ⊥
none_past [] n lt e = omega (arith, lt)
none_past (x ∷ xs) zero lt e = cc (e)
none_past (x ∷ xs) (suc n) lt e = none_past xs n (omega (arith, lt)) e

-- a manifest is missing where no other gives all that it has
pub missing_here : (rs ss : List Reading) (n : ℕ) (reached given : Bool) → n < length rs → reached ≡ is_reached rs n
    → reached ≡ true
    → IfSome (slice_get rs n) (λ r. given ≡ any_below (gives_at rs n r ss) (length ss)) → not given ≡ is_missing rs ss n
missing_here rs ss n reached given lt is yes' h = by (slice_get rs n) refl h
  where
    by : (o : Option Reading) → slice_get rs n ≡ o → IfSome o (λ r. given ≡ any_below (gives_at rs n r ss) (length ss))
        → not given ≡ is_missing rs ss n
    by None at k = absurd (none_past rs n lt at)
    by (Some r) at k =
        ap not k
        ∙ ap (λ o. not (option_map_or (λ (x : Reading). any_below (gives_at rs n x ss) (length ss)) o true)) (sym at)
        ∙ ap
        (λ b. b && not (option_map_or (λ (x : Reading). any_below (gives_at rs n x ss) (length ss)) (slice_get rs n) true))
        (sym yes' ∙ is)
