-- A file in whose chunk tables the places from one on are greater by so many, and which is otherwise as it was.
use Rattle.std.specs.Prelude.{◌≡◌, ℕ, zero, suc, ◌-◌, ◌^◌, ◌<◌, List, [], ◌∷◌, length, drop, get_or, All, Contains}
use Rattle.c2_bmff_chunks.specs.Fields.{Covers, all_fields, moved, number_at, number_bytes}
use Rattle.c2_bmff_chunks.specs.declared.table.ChunkTable.{ChunkTable}
use Rattle.c2_bmff_chunks.specs.declared.table.Field.{Field}

-- The new file is the file but for the fields of these tables: of these each has its moved number. Positions outside of fields stay.
pub record IsShifted (from by : ℕ) (ts : List ChunkTable) (file new : List ℕ) : Type 0 where
  pub size : length new ≡ length file
  pub bytes : All (λ b. b < 2 ^ 8) new
  pub fields : (f : Field) → Contains (all_fields ts) f
      → number_at f.wide new f.at ≡ moved f.wide from by (number_at f.wide file f.at)
  pub others : (i : ℕ) → ((f : Field) → Contains (all_fields ts) f → Covers f i → ⊥)
      → get_or new i 0 ≡ get_or file i 0

-- ---- the same byte by byte

-- a list with its places from one on replaced by those of a piece, as far as the list goes
abbrev pub put_over : ℕ → List ℕ → List ℕ → List ℕ
put_over at piece [] = []
put_over zero [] (x ∷ xs) = x ∷ xs
put_over zero (p ∷ ps) (x ∷ xs) = p ∷ put_over zero ps xs
put_over (suc n) piece (x ∷ xs) = x ∷ put_over n piece xs

-- the bytes that a field of the file has once its number is moved
abbrev pub moved_bytes : ℕ → ℕ → List ℕ → Field → List ℕ
moved_bytes from by file f = number_bytes f.wide (moved f.wide from by (number_at f.wide file f.at))

-- a list with these fields of the file put over it, each with its moved number
abbrev pub with_fields : ℕ → ℕ → List ℕ → List Field → List ℕ → List ℕ
with_fields from by file [] xs = xs
with_fields from by file (f ∷ fs) xs =
    with_fields from by file fs (put_over f.at (moved_bytes from by file f) xs)

-- the file with its own fields put over it, each with its moved number
abbrev pub shifted : ℕ → ℕ → List ChunkTable → List ℕ → List ℕ
shifted from by ts file = with_fields from by file (all_fields ts) file

-- ---- for private clauses: in a part of the file

-- a part of a list that begins at `pos` of it, with a piece put over it that begins at `at` of the list
abbrev pub put_over_from : ℕ → ℕ → List ℕ → List ℕ → List ℕ
put_over_from pos at piece xs = put_over (at - pos) (drop (pos - at) piece) xs

-- a part of the file that begins at `pos` of it, with these fields put over it, each with its moved number
abbrev pub part_with : ℕ → ℕ → ℕ → List ℕ → List Field → List ℕ → List ℕ
part_with from by pos file [] xs = xs
part_with from by pos file (f ∷ fs) xs =
    part_with from by pos file fs (put_over_from pos f.at (moved_bytes from by file f) xs)
