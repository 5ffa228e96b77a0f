-- Bytes of a shifted file that were read.
use Rattle.std.proofs.Common.{◌≡◌, ◌∙◌, ℕ, ◌-◌, ◌≤◌, List, ◌++◌, length, take, drop, Option, Some, None, option_map, refl, sym, ap, ap₂, arith}
use Rattle.std.specs.Option.{ForSome}
use Rattle.std.proofs.lemmas.List.{drop_at, length-drop, length-take, take_at}
use Rattle.c2_base.specs.Source.{FilledAt, ReadsAt}
use Rattle.c2_bmff_chunks.specs.Fields.{all_fields}
use Rattle.c2_bmff_chunks.specs.Shifted.{part_with, shifted}
use Rattle.c2_bmff_chunks.specs.declared.table.ChunkTable.{ChunkTable}
use Rattle.c2_bmff_chunks.proofs.FieldLemmas.{part_len, with_part}

-- a part of the shifted file
part_is : (from by pos n : ℕ) (ts : List ChunkTable) (file : List ℕ)
    → take n (drop pos (shifted from by ts file)) ≡ part_with from by pos file (all_fields ts) (take n (drop pos file))
part_is from by pos n ts file = with_part from by pos n file (all_fields ts) file

-- a buffer that was filled, once the fields are put over it, is filled of the shifted file
pub fills_shifted : (from by pos : ℕ) (ts : List ChunkTable) (known : Option (List ℕ)) (raw new : List ℕ)
    → FilledAt known pos raw
    → ForSome known (λ file. new ≡ part_with from by pos file (all_fields ts) raw)
    → FilledAt (option_map (shifted from by ts) known) pos new
fills_shifted from by pos ts None raw new fills put bytes e = absurd (cc (e))
fills_shifted from by pos ts (Some file) raw new fills put bytes e =
    let is : bytes ≡ shifted from by ts file = cc (e) in
    let same : new ≡ part_with from by pos file (all_fields ts) raw = put file refl in
    let size : length new ≡ length raw = ap length same ∙ part_len from by pos file (all_fields ts) raw in
    same ∙ ap (part_with from by pos file (all_fields ts)) (fills file refl)
    ∙ sym (part_is from by pos (length raw) ts file)
    ∙ ap₂ (λ (n : ℕ) (xs : List ℕ). take n (drop pos xs)) (sym size) (sym is)

-- a read of a file is one of the shifted file, once the fields are put over what was read
pub reads_shifted : (from by pos n len : ℕ) (ts : List ChunkTable) (known : Option (List ℕ)) (old mid part : List ℕ)
    → ForSome known (λ bytes. length bytes ≡ len) → n ≤ len - pos → ReadsAt known pos n old mid
    → ForSome known (λ file. part ≡ part_with from by pos file (all_fields ts) (take n mid))
    → ReadsAt (option_map (shifted from by ts) known) pos n old (part ++ drop n mid)
reads_shifted from by pos n len ts None old mid part size inside reads put bytes e = absurd (cc (e))
reads_shifted from by pos n len ts (Some file) old mid part size inside reads put bytes e =
    let is : bytes ≡ shifted from by ts file = cc (e) in
    let piece : List ℕ = take n (drop pos file) in
    let long : length piece ≡ n =
    omega (arith, size file refl, inside, length-take n (drop pos file), length-drop pos file) in
    let front : take n mid ≡ piece = ap (take n) (reads file refl) ∙ take_at piece (drop n old) n long in
    let back : drop n mid ≡ drop n old = ap (drop n) (reads file refl) ∙ drop_at piece (drop n old) n long in
    ap₂ (λ (xs ys : List ℕ). xs ++ ys)
    (put file refl ∙ ap (part_with from by pos file (all_fields ts)) front ∙ sym (part_is from by pos n ts file) ∙ ap (λ (xs : List ℕ). take n (drop pos xs)) (sym is))
    back

-- the bytes that were read are those of the file
pub read_filled : (pos n len : ℕ) (known : Option (List ℕ)) (old mid : List ℕ)
    → ForSome known (λ bytes. length bytes ≡ len) → n ≤ len - pos → ReadsAt known pos n old mid
    → FilledAt known pos (take n mid)
read_filled pos n len known old mid size inside reads file is =
    let piece : List ℕ = take n (drop pos file) in
    let long : length piece ≡ n =
    omega (arith, size file is, inside, length-take n (drop pos file), length-drop pos file) in
    let front : take n mid ≡ piece = ap (take n) (reads file is) ∙ take_at piece (drop n old) n long in
    front ∙ ap (λ k. take k (drop pos file)) (sym (ap length front ∙ long))

-- where nothing was read, the buffer is as it was
pub none_read : (f : List ℕ → List ℕ) (known : Option (List ℕ)) (pos n : ℕ) (old new : List ℕ) → n ≡ 0
    → ReadsAt known pos n old new → (x : List ℕ) → option_map f known ≡ Some x → new ≡ old
none_read f None pos n old new e reads x h = absurd (cc (h))
none_read f (Some file) pos n old new e reads x h = reads file refl ∙ ap (λ k. take k (drop pos file) ++ drop k old) e
