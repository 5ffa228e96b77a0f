-- Bytes of a file less a range.
use Rattle.std.proofs.Common.{◌≡◌, ⊎_elim, ℕ, ◌+◌, ◌-◌, ◌≤◌, List, ◌++◌, length, take, drop, Option, Some, None, option_map, refl, sym, ap, ◌∙◌, arith, append_assoc, length-append}
use Rattle.std.specs.Option.{ForSome}
use Rattle.std.proofs.lemmas.Bool.{cases_lt}
use Rattle.std.proofs.lemmas.List.{drop-append-le, drop-drop, drop_all, drop_at, length-drop, length-take, length-take-le, take-append-drop, take-append-le}
use Rattle.c2_base.specs.Source.{ReadsAt}
use Rattle.c2_base.specs.declared.values.Range.{Range}
use Rattle.c2_spec.specs.PutIn.{taken_out}
use Rattle.c2_bmff_rows.proofs.Lists.{piece_of}

-- before the range a file stays
cut_front : (start len pos n : ℕ) (file : List ℕ) → pos + n ≤ start → pos + n ≤ length file
    → take n (drop pos (taken_out start len file)) ≡ take n (drop pos file)
cut_front start len pos n file before inside =
    let front : List ℕ = take start file in
    let back : List ℕ = drop (start + len) file in
    sym (piece_of (pos + n) pos n (front ++ back) (omega arith))
    ∙ ap (λ (xs : List ℕ). take n (drop pos xs))
    (take-append-le (pos + n) front back (omega (arith, length-take start file, before, inside)))
    ∙ piece_of (pos + n) pos n front (omega arith)
    ∙ piece_of start pos n file before

-- from its start on, it is the file from as many bytes later on
cut_back : (start len pos : ℕ) (file : List ℕ) → start ≤ pos
    → drop pos (taken_out start len file) ≡ drop (pos + len) file
cut_back start len pos file after = ⊎_elim
    (λ short. let none : length (taken_out start len file) ≤ pos = omega (arith, length-append (take start file) (drop (start + len) file), length-take start file, length-drop (start + len) file, short, after) in
    drop_all pos (taken_out start len file) none ∙ sym (drop_all (pos + len) file (omega (arith, short, after))))
    (λ long. let split : start + (pos - start) ≡ pos = omega (arith, after) in
    let place : start + len + (pos - start) ≡ pos + len = omega (arith, after) in
    ap (λ n. drop n (taken_out start len file)) (sym split)
    ∙ sym (drop-drop (pos - start) start (taken_out start len file))
    ∙ ap (drop (pos - start))
    (drop_at (take start file) (drop (start + len) file) start (length-take-le start file long))
    ∙ drop-drop (pos - start) (start + len) file ∙ ap (λ n. drop n file) place)
    (cases_lt (length file) start)

-- a read before the range reads the file that is left
pub reads_front : (known : Option (List ℕ)) (range : Range) (pos n len : ℕ) (old new : List ℕ)
    → ForSome known (λ bytes. length bytes ≡ len) → n ≤ range.start - pos → n ≤ len - pos → pos ≤ range.start
    → pos ≤ len
    → ReadsAt known pos n old new → ReadsAt (option_map (taken_out range.start range.length) known) pos n old new
reads_front None range pos n len old new size few inside before there reads bytes e = absurd (cc (e))
reads_front (Some file) range pos n len old new size few inside before there reads bytes e =
    let is : bytes ≡ taken_out range.start range.length file = cc (e) in
    reads file refl
    ∙ ap (λ (xs : List ℕ). xs ++ drop n old)
    (sym (ap (λ (xs : List ℕ). take n (drop pos xs)) is ∙ cut_front range.start range.length pos n file (omega (arith, few, before)) (omega (arith, size file refl, inside, there))))

-- a read from the range's start on reads, as many bytes later, the file that is left
pub reads_back : (known : Option (List ℕ)) (range : Range) (pos n : ℕ) (old new : List ℕ) → range.start ≤ pos
    → ReadsAt known (pos + range.length) n old new
    → ReadsAt (option_map (taken_out range.start range.length) known) pos n old new
reads_back None range pos n old new after reads bytes e = absurd (cc (e))
reads_back (Some file) range pos n old new after reads bytes e =
    let is : bytes ≡ taken_out range.start range.length file = cc (e) in
    reads file refl
    ∙ ap (λ (xs : List ℕ). take n xs ++ drop n old)
    (sym (ap (drop pos) is ∙ cut_back range.start range.length pos file after))

-- a read before the range reads the file that is left, also where it begins behind the file, and reads nothing
pub reads_before : (known : Option (List ℕ)) (range : Range) (pos n len : ℕ) (old new : List ℕ)
    → ForSome known (λ bytes. length bytes ≡ len) → n ≤ range.start - pos → n ≤ len - pos → pos ≤ range.start
    → ReadsAt known pos n old new → ReadsAt (option_map (taken_out range.start range.length) known) pos n old new
reads_before None range pos n len old new size few inside before reads bytes e = absurd (cc (e))
reads_before (Some file) range pos n len old new size few inside before reads bytes e = ⊎_elim
    (λ there. reads_front (Some file) range pos n len old new size few inside before (omega (arith, there)) reads bytes e)
    (λ past. let none : n ≡ 0 = omega (arith, inside, past) in
    reads file refl ∙ ap (λ k. take k (drop pos file) ++ drop n old) none ∙ ap (λ k. take k (drop pos bytes) ++ drop n old) (sym none))
    (cases_lt pos len)

-- a read into the first places of a buffer is one into the buffer
pub first_reads : (known : Option (List ℕ)) (pos n room : ℕ) (old part : List ℕ) → n ≤ length (take room old)
    → ReadsAt known pos n (take room old) part → ReadsAt known pos n old (part ++ drop room old)
first_reads known pos n room old part few reads bytes e =
    let rest : drop n (take room old) ++ drop room old ≡ drop n old =
    sym (drop-append-le n (take room old) (drop room old) few) ∙ ap (drop n) (take-append-drop room old) in
    ap (λ (xs : List ℕ). xs ++ drop room old) (reads bytes e)
    ∙ append_assoc (take n (drop pos bytes)) (drop n (take room old)) (drop room old)
    ∙ ap (λ (xs : List ℕ). take n (drop pos bytes) ++ xs) rest
