-- Bytes of a file with a piece put in that were read.
use Rattle.std.proofs.Common.{◌≡◌, ℕ, ◌+◌, ◌-◌, ◌≤◌, List, ◌++◌, length, take, drop, Option, Some, None, option_map, refl, sym, ap, ap₂, ◌∙◌, arith, append_assoc}
use Rattle.std.specs.Option.{ForSome}
use Rattle.c2_base.specs.Source.{ReadsAt}
use Rattle.c2_spec.specs.PutIn.{put_in}
use Rattle.c2_inserted.proofs.PutLemmas.{part_before, part_behind, part_within, rest_of}

-- a read before the piece into the first places of a buffer
pub reads_before : (place pos n room len : ℕ) (piece : List ℕ) (known : Option (List ℕ)) (old part : List ℕ)
    → ForSome known (λ bytes. length bytes ≡ len) → place ≤ len → n + pos ≤ place → n ≤ length (take room old)
    → ReadsAt known pos n (take room old) part
    → ReadsAt (option_map (put_in place piece) known) pos n old (part ++ drop room old)
reads_before place pos n room len piece None old part size inside before few reads bytes e = absurd (cc (e))
reads_before place pos n room len piece (Some file) old part size inside before few reads bytes e =
    let is : bytes ≡ put_in place piece file = cc (e) in
    ap (λ (xs : List ℕ). xs ++ drop room old) (reads file refl)
    ∙ append_assoc (take n (drop pos file)) (drop n (take room old)) (drop room old)
    ∙ ap₂ (λ (xs ys : List ℕ). xs ++ ys)
    (sym (part_before n pos place piece file (omega (arith, inside, size file refl)) before) ∙ ap (λ (xs : List ℕ). take n (drop pos xs)) (sym is))
    (rest_of n room old few)

-- a read in the piece
pub reads_within : (place pos n len : ℕ) (piece : List ℕ) (known : Option (List ℕ)) (old : List ℕ)
    → ForSome known (λ bytes. length bytes ≡ len) → place ≤ len → place ≤ pos → n + (pos - place) ≤ length piece
    → ReadsAt (option_map (put_in place piece) known) pos n old (take n (drop (pos - place) piece) ++ drop n old)
reads_within place pos n len piece None old size inside from fits bytes e = absurd (cc (e))
reads_within place pos n len piece (Some file) old size inside from fits bytes e =
    let is : bytes ≡ put_in place piece file = cc (e) in
    ap (λ (xs : List ℕ). xs ++ drop n old)
    (sym (part_within n pos place piece file (omega (arith, inside, size file refl)) from fits) ∙ ap (λ (xs : List ℕ). take n (drop pos xs)) (sym is))

-- a read behind it
pub reads_behind : (place pos n len : ℕ) (piece : List ℕ) (known : Option (List ℕ)) (old new : List ℕ)
    → ForSome known (λ bytes. length bytes ≡ len) → place ≤ len → place + length piece ≤ pos
    → ReadsAt known (pos - length piece) n old new → ReadsAt (option_map (put_in place piece) known) pos n old new
reads_behind place pos n len piece None old new size inside from reads bytes e = absurd (cc (e))
reads_behind place pos n len piece (Some file) old new size inside from reads bytes e =
    let is : bytes ≡ put_in place piece file = cc (e) in
    reads file refl
    ∙ ap (λ (xs : List ℕ). take n xs ++ drop n old)
    (sym (part_behind pos place piece file (omega (arith, inside, size file refl)) from) ∙ ap (drop pos) (sym is))
