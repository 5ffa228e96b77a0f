-- The length of a file with a piece put in, and that it has bytes.
use Rattle.std.proofs.Common.{◌≡◌, ℕ, zero, suc, ◌+◌, ◌^◌, ◌<◌, List, [], ◌∷◌, ◌++◌, arith, length, take, drop, Option, Some, None, option_map, refl, sym, ap, ◌∙◌, subst, length-append}
use Rattle.std.specs.Prelude.{All}
use Rattle.std.specs.List.{AllByRecursion}
use Rattle.std.specs.Option.{ForSome}
use Rattle.std.proofs.lemmas.List.{length-drop, length-take}
use Rattle.std.proofs.lemmas.List.Elements.{All-from_recursion, recursion_from_All}
use Rattle.c2_spec.specs.PutIn.{put_in}

-- a list is longer by a piece that is put in
put_in_len : (place : ℕ) (piece base : List ℕ) → length (put_in place piece base) ≡ length base + length piece
put_in_len place piece base =
    omega (arith, length-append (take place base) (piece ++ drop place base), length-append piece (drop place base), length-take place base, length-drop place base)

-- bytes of two lists are bytes of both together
bytes_append : (xs ys : List ℕ) → AllByRecursion (λ b. b < 2 ^ 8) xs → AllByRecursion (λ b. b < 2 ^ 8) ys → AllByRecursion (λ b. b < 2 ^ 8) (xs ++ ys)
bytes_append [] ys h k = k
bytes_append (x ∷ xs) ys h k = (h.0, bytes_append xs ys h.1 k)

-- the first of bytes are bytes
bytes_take : (n : ℕ) (xs : List ℕ) → AllByRecursion (λ b. b < 2 ^ 8) xs → AllByRecursion (λ b. b < 2 ^ 8) (take n xs)
bytes_take zero xs h = tt
bytes_take (suc n) [] h = tt
bytes_take (suc n) (x ∷ xs) h = (h.0, bytes_take n xs h.1)

-- what is left of bytes behind the first `n` is bytes
bytes_drop : (n : ℕ) (xs : List ℕ) → AllByRecursion (λ b. b < 2 ^ 8) xs → AllByRecursion (λ b. b < 2 ^ 8) (drop n xs)
bytes_drop zero xs h = h
bytes_drop (suc n) [] h = tt
bytes_drop (suc n) (x ∷ xs) h = bytes_drop n xs h.1

-- a list of bytes with bytes put in is one of bytes
put_in_all : (place : ℕ) (piece base : List ℕ) → All (λ b. b < 2 ^ 8) piece → All (λ b. b < 2 ^ 8) base → All (λ b. b < 2 ^ 8) (put_in place piece base)
put_in_all place piece base h k =
    let whole = recursion_from_All (λ b. b < 2 ^ 8) base k in
    All-from_recursion (λ b. b < 2 ^ 8) (put_in place piece base)
    (bytes_append (take place base) (piece ++ drop place base) (bytes_take place base whole) (bytes_append piece (drop place base) (recursion_from_All (λ b. b < 2 ^ 8) piece h) (bytes_drop place base whole)))

-- a known file with a piece put in is as long as is said
pub put_in_size : (place : ℕ) (piece : List ℕ) (known : Option (List ℕ)) (len : ℕ) → ForSome known (λ bytes. length bytes ≡ len) → ForSome (option_map (put_in place piece) known) (λ bytes. length bytes ≡ len + length piece)
put_in_size place piece None len h bytes e = absurd (cc (e))
put_in_size place piece (Some file) len h bytes e =
    let is : bytes ≡ put_in place piece file = cc (e) in
    ap length is ∙ put_in_len place piece file ∙ ap (λ (n : ℕ). n + length piece) (h file refl)

-- a known file with a piece put in is bytes, where the file and the piece are
pub put_in_bytes : (place : ℕ) (piece : List ℕ) (known : Option (List ℕ)) → All (λ b. b < 2 ^ 8) piece → ForSome known (All (λ b. b < 2 ^ 8)) → ForSome (option_map (put_in place piece) known) (All (λ b. b < 2 ^ 8))
put_in_bytes place piece None are h bytes e = absurd (cc (e))
put_in_bytes place piece (Some file) are h bytes e =
    let is : bytes ≡ put_in place piece file = cc (e) in
    subst (All (λ b. b < 2 ^ 8)) (sym is) (put_in_all place piece file are (h file refl))

-- the length of a file with a piece put in fits into 64 bits, where the sum for the stated length does
pub put_in_fits : (named len : ℕ) (piece : List ℕ) → len ≡ named → named + length piece < 2 ^ 64 → len + length piece < 2 ^ 64
put_in_fits named len piece same h = omega (arith, same, h)
