-- Counts of a list of judges, before and after one of them is put back changed.
use Rattle.std.proofs.Common.{◌≡◌, ℕ, ◌+◌, ◌<◌, Result, Ok, Err, OnOk, OnErr, IfOk, List, ◌∷◌, length, drop, map, get_or, set, refl, sym, ap, ◌∙◌, arith}
use Rattle.std.proofs.lemmas.List.{map-set, take-set, drop-set-lt, length-map, length-set, get_or-set_same, get_or-map, drop_more}
use Rattle.std.proofs.Math.Seq.{map-set_same}
use Rattle.c2_spec.specs.Judges.Panel.{Failing, MovedAt}

-- a member that takes a step moves the list's numbers at its place
pub MovedAt-map-set : {J : Type 0} (Step : ℕ → ℕ → Type 0) (f : J → ℕ) (xs : List J) (i : ℕ) (x y : J) → i < length xs
    → x ≡ get_or xs i x → Step (f x) (f y) → MovedAt Step i (map f xs) (map f (set xs i y))
MovedAt-map-set Step f xs i x y lt at rose =
    let lt' : i < length (map f xs) = simp length-map lt in
    let at_now : get_or (map f (set xs i y)) i 0 ≡ f y =
    rw (map-set f xs i y) (get_or-set_same (map f xs) i (f y) 0 lt') in
    let at_before : get_or (map f xs) i 0 ≡ f x = get_or-map f xs i x 0 lt ∙ ap f (sym at) in
    record {
      same_length = simp (length-map, length-set) refl;
      earlier = rw (map-set f xs i y) (take-set (map f xs) i (f y));
      moved = rw (at_now, at_before) rose;
      later = rw (map-set f xs i y) (drop-set-lt (i + 1) (map f xs) i (f y) (omega arith));
    }

-- what a judge says stands in the list at its place
pub said_at : {J Q V : Type 0} (f : J → Q → V) (xs : List J) (i : ℕ) (x : J) (q : Q) → i < length xs → x ≡ get_or xs i x
    → drop i (map (λ s. s q) (map f xs)) ≡ f x q ∷ drop (i + 1) (map (λ s. s q) (map f xs))
said_at f xs i x q lt at =
    let all = map (λ s. s q) (map f xs) in
    let lt' : i < length (map f xs) = simp length-map lt in
    let lt'' : i < length all = simp length-map lt in
    drop_more all i (f x q) lt''
    ∙ ap (λ v. v ∷ drop (i + 1) all)
    (get_or-map (λ s. s q) (map f xs) i (f x) (f x q) lt' ∙ ap (λ s. s q) (get_or-map f xs i x (f x) lt ∙ ap f (sym at)))

-- where a call succeeds and its member stays, the list's numbers stay
pub kept_on_ok : {T E : Type 0} {J : Type 0} (r : Result T E) (f : J → ℕ) (xs : List J) (i : ℕ) (x y : J)
    → x ≡ get_or xs i x → OnOk r (f y ≡ f x) → OnOk r (map f (set xs i y) ≡ map f xs)
kept_on_ok (Ok v) f xs i x y at same = map-set_same f xs i y x (same ∙ ap f at)
kept_on_ok (Err e) f xs i x y at same = tt

-- where a call fails and its member's number rose, the list's number rose at that place
pub rose_on_err : {T E : Type 0} {J : Type 0} (r : Result T E) (f : J → ℕ) (xs : List J) (i : ℕ) (x y : J)
    → i < length xs → x ≡ get_or xs i x → OnErr r (Failing (f x) (f y))
    → OnErr r (MovedAt Failing i (map f xs) (map f (set xs i y)))
rose_on_err (Ok v) f xs i x y lt at rose = tt
rose_on_err (Err e) f xs i x y lt at rose = MovedAt-map-set Failing f xs i x y lt at rose

-- where a call succeeds, its value is the next that the list says
pub said_on_ok : {Q V E : Type 0} {J : Type 0} (r : Result V E) (f : J → Q → V) (xs : List J) (i : ℕ) (x : J) (q : Q)
    → i < length xs → x ≡ get_or xs i x → IfOk r (λ v. v ≡ f x q)
    → IfOk r (λ v. drop i (map (λ s. s q) (map f xs)) ≡ v ∷ drop (i + 1) (map (λ s. s q) (map f xs)))
said_on_ok (Ok v) f xs i x q lt at is = rw is (said_at f xs i x q lt at)
said_on_ok (Err e) f xs i x q lt at is = tt

-- a member that says the same leaves what the list says
pub kept : {V : Type 0} {J : Type 0} (f : J → V) (xs : List J) (i : ℕ) (x y : J) → x ≡ get_or xs i x → f y ≡ f x
    → map f (set xs i y) ≡ map f xs
kept f xs i x y at same = map-set_same f xs i y x (same ∙ ap f at)
