-- A cleared file's length, and that it has bytes.
use Rattle.std.proofs.Common.{◌≡◌, ℕ, zero, suc, ◌+◌, ◌-◌, ◌<◌, ◌^◌, List, [], ◌∷◌, ◌++◌, length, take, drop, Option, Some, None, option_map, refl, sym, ap, ◌∙◌, subst, arith, length-append}
use Rattle.std.specs.Prelude.{All, codes, replicate}
use Rattle.std.specs.Option.{ForSome}
use Rattle.std.specs.List.{AllByRecursion}
use Rattle.std.proofs.lemmas.List.{length-drop, length-take}
use Rattle.std.proofs.lemmas.List.Elements.{recursion_from_All, All-from_recursion}
use Rattle.c2_without_store.specs.declared.clearing.Clearing.{Clearing}
use Rattle.c2_without_store.specs.declared.clearing.Clearing.TheVariants.{Cut, Freed}
use Rattle.c2_without_store.specs.Clears.{cleared, cleared_len, written_at}
use Rattle.c2_without_store.specs.Written.{written_all, written_len}

-- a cleared file is as long as is said
len_is : (c : Clearing) (file : List ℕ) → length (cleared c file) ≡ cleared_len c (length file)
len_is (Cut range) file =
    length-append (take range.start file) (drop (range.start + range.length) file)
    ∙ omega (arith, length-take range.start file, length-drop (range.start + range.length) file)
len_is (Freed r) file =
    written_len (r.start + r.header) (replicate (r.length - r.header) 0) (written_at (r.start + 4) (codes "free") file) ∙ written_len (r.start + 4) (codes "free") file

-- a cleared file is as long as is said, where its bytes are known
pub cleared_size : (c : Clearing) (known : Option (List ℕ)) (len : ℕ) → ForSome known (λ bytes. length bytes ≡ len) → ForSome (option_map (cleared c) known) (λ bytes. length bytes ≡ cleared_len c len)
cleared_size c None len h bytes e = absurd (cc (e))
cleared_size c (Some file) len h bytes e =
    let is : bytes ≡ cleared c file = cc (e) in
    ap length is ∙ len_is c file ∙ ap (cleared_len c) (h file refl)

-- each number of the list is a byte
abbrev AreBytes : List ℕ → Type 0
AreBytes xs = AllByRecursion (λ b. b < 2 ^ 8) xs

-- the first `n` of bytes are bytes
bytes_take : (n : ℕ) (xs : List ℕ) → AreBytes xs → AreBytes (take n xs)
bytes_take zero xs h = tt
bytes_take (suc n) [] h = tt
bytes_take (suc n) (x ∷ xs) h = (h.0, bytes_take n xs h.1)

-- what is left of bytes behind the first `n` is bytes
bytes_drop : (n : ℕ) (xs : List ℕ) → AreBytes xs → AreBytes (drop n xs)
bytes_drop zero xs h = h
bytes_drop (suc n) [] h = tt
bytes_drop (suc n) (x ∷ xs) h = bytes_drop n xs h.1

-- bytes of two lists are bytes of both together
bytes_append : (xs ys : List ℕ) → AreBytes xs → AreBytes ys → AreBytes (xs ++ ys)
bytes_append [] ys h k = k
bytes_append (x ∷ xs) ys h k = (h.0, bytes_append xs ys h.1 k)

-- zeros are bytes
bytes_zero : (n : ℕ) → AreBytes (replicate n 0)
bytes_zero zero = tt
bytes_zero (suc n) = (omega arith, bytes_zero n)

-- the type of a free-space box is bytes
bytes_free : AreBytes (codes "free")
bytes_free = (omega arith, (omega arith, (omega arith, (omega arith, tt))))

-- a cleared file has bytes
bytes_left : (c : Clearing) (file : List ℕ) → AreBytes file → AreBytes (cleared c file)
bytes_left (Cut range) file h = bytes_append (take range.start file) (drop (range.start + range.length) file) (bytes_take range.start file h) (bytes_drop (range.start + range.length) file h)
bytes_left (Freed r) file h =
    written_all (λ b. b < 2 ^ 8) (r.start + r.header) (replicate (r.length - r.header) 0) (written_at (r.start + 4) (codes "free") file) (bytes_zero (r.length - r.header))
    (written_all (λ b. b < 2 ^ 8) (r.start + 4) (codes "free") file bytes_free h)

-- where they are known
pub cleared_bytes : (c : Clearing) (known : Option (List ℕ)) → ForSome known (All (λ b. b < 2 ^ 8)) → ForSome (option_map (cleared c) known) (All (λ b. b < 2 ^ 8))
cleared_bytes c None h bytes e = absurd (cc (e))
cleared_bytes c (Some file) h bytes e =
    let is : bytes ≡ cleared c file = cc (e) in
    subst (All (λ b. b < 2 ^ 8)) (sym is) (All-from_recursion (λ b. b < 2 ^ 8) (cleared c file) (bytes_left c file (recursion_from_All (λ b. b < 2 ^ 8) file (h file refl))))

-- a cleared file is no longer than the file
pub cleared_fits : (c : Clearing) (len : ℕ) → len < 2 ^ 64 → cleared_len c len < 2 ^ 64
cleared_fits (Cut range) len h = omega (arith, h)
cleared_fits (Freed r) len h = h
