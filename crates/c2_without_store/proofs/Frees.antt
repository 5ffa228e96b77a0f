-- Bytes of a file with a box freed.
use Rattle.std.proofs.Common.{◌≡◌, ℕ, ◌+◌, ◌-◌, ◌≤◌, List, ◌++◌, length, take, drop, Option, Some, None, option_map, refl, sym, ap, ap₂, ◌∙◌, arith}
use Rattle.std.specs.Option.{ForSome}
use Rattle.std.proofs.lemmas.List.{drop_at, length-drop, length-take, take_at}
use Rattle.std.specs.Prelude.{codes, replicate}
use Rattle.c2_base.specs.Source.{ReadsAt}
use Rattle.c2_bmff_rows.specs.declared.row.RootBox.{RootBox}
use Rattle.c2_without_store.specs.Clears.{freed_in, written_at, written_from}
use Rattle.c2_without_store.specs.Written.{written_part}

-- the box freed in a part of a file
freed_part : (from n : ℕ) (r : RootBox) (file : List ℕ) → take n (drop from (freed_in r file))
    ≡ written_from from (r.start + r.header) (replicate (r.length - r.header) 0)
    (written_from from (r.start + 4) (codes "free") (take n (drop from file)))
freed_part from n r file =
    written_part from n (r.start + r.header) (replicate (r.length - r.header) 0)
    (written_at (r.start + 4) (codes "free") file)
    ∙ ap (written_from from (r.start + r.header) (replicate (r.length - r.header) 0))
    (written_part from n (r.start + 4) (codes "free") file)

-- bytes that were read, with the box freed in them, are those of the file with the box freed
pub reads_freed : (known : Option (List ℕ)) (r : RootBox) (pos n : ℕ) (old new : List ℕ)
    → ((bytes : List ℕ) → known ≡ Some bytes → new ≡ written_from pos (r.start + r.header) (replicate (r.length - r.header) 0) (written_from pos (r.start + 4) (codes "free") (take n (drop pos bytes))) ++ drop n old)
    → ReadsAt (option_map (freed_in r) known) pos n old new
reads_freed None r pos n old new reads bytes e = absurd (cc (e))
reads_freed (Some file) r pos n old new reads bytes e =
    let is : bytes ≡ freed_in r file = cc (e) in
    reads file refl
    ∙ ap (λ (xs : List ℕ). xs ++ drop n old)
    (sym (ap (λ (xs : List ℕ). take n (drop pos xs)) is ∙ freed_part pos n r file))

-- the box freed in a part of a file that was read
abbrev freed_from : ℕ → RootBox → List ℕ → List ℕ
freed_from pos r part =
    written_from pos (r.start + r.header) (replicate (r.length - r.header) 0)
    (written_from pos (r.start + 4) (codes "free") part)

-- a read of a file is one of the file with the box freed, once the box is freed in what was read
pub freed_read : (known : Option (List ℕ)) (r : RootBox) (pos n len : ℕ) (old mid part : List ℕ)
    → ForSome known (λ bytes. length bytes ≡ len) → n ≤ len - pos → ReadsAt known pos n old mid
    → part ≡ written_from pos (r.start + r.header) (replicate (r.length - r.header) 0) (written_from pos (r.start + 4) (codes "free") (take n mid))
    → ReadsAt (option_map (freed_in r) known) pos n old (part ++ drop n mid)
freed_read known r pos n len old mid part size inside reads is =
    reads_freed known r pos n old (part ++ drop n mid) (λ bytes e.
    let piece : List ℕ = take n (drop pos bytes) in
    let long : length piece ≡ n =
    omega (arith, size bytes e, inside, length-take n (drop pos bytes), length-drop pos bytes) in
    let front : take n mid ≡ piece = ap (take n) (reads bytes e) ∙ take_at piece (drop n old) n long in
    let back : drop n mid ≡ drop n old = ap (drop n) (reads bytes e) ∙ drop_at piece (drop n old) n long in
    ap₂ (λ (xs ys : List ℕ). xs ++ ys) (is ∙ ap (freed_from pos r) front) back)
