-- What clauses see of a cover, and of a reader of its text.
use Rattle.std.specs.Prelude.{◌≡◌, ℕ, ◌+◌, ◌-◌, ◌*◌, ◌<◌, ◌≤◌, ⊤, Bool, true, not, List, [], ◌∷◌, ◌++◌, Option, length, take, filter, bytes_eq}
use Rattle.std.specs.List.{range_with_len}
use Rattle.std.specs.Option.{ForSome}
use Rattle.c2_base.specs.declared.values.Range.{Range}
use Rattle.c2_spec.specs.Cover.{is_excluded, data_text, excluded_positions, covered_count}
use Rattle.c2_cover.specs.BoxOffsets.{told_from}
use Rattle.c2_cover.specs.declared.offsets.BoxOffset.{BoxOffset}

-- the size of the file, the ranges that are left out of it, and the box offsets between its bytes
pub record Covered : Type 0 where
  pub size : ℕ
  pub ranges : List Range
  pub offsets : List BoxOffset

-- the first range begins at `low` or later, none is empty or ends after `size`, and each of the others begins after the
-- end of the one before it, with a position between them
abbrev pub AreMerged : ℕ → ℕ → List Range → Type 0
AreMerged size low [] = ⊤
AreMerged size low (r ∷ rs) =
    (low ≤ r.start) × (0 < r.length) × (r.start + r.length ≤ size)
    × AreMerged size (r.start + r.length + 1) rs

-- the positions that are left out, in order
abbrev pub excluded_of : Covered → List ℕ
excluded_of c = excluded_positions c.ranges c.size

-- the covered text of a file
abbrev pub text_of : Covered → List ℕ → List ℕ
text_of c file = told_from (is_excluded c.ranges) c.offsets 0 file

-- how many bytes the covered text of a file of the cover's size has: the positions that aren't left out, and 8 for each box offset
abbrev pub text_len : Covered → ℕ
text_len c = covered_count (excluded_of c) c.size + 8 * length c.offsets

-- the cover of a file of this size that leaves out the positions which these ranges hold, and no others, and has no box offsets
pub record IsCoverOf (len : ℕ) (ranges : List Range) (c : Covered) : Type 0 where
  pub size : c.size ≡ len
  pub same : (i : ℕ) → is_excluded c.ranges i ≡ is_excluded ranges i
  pub excluded : excluded_of c ≡ excluded_positions ranges len
  pub offsets : c.offsets ≡ []
  pub text : (file : List ℕ) → text_of c file ≡ data_text ranges file

-- What a reader has before it: the bytes of a box offset that are due, and then the file from position `at` on, without these ranges
-- and with these box offsets.
pub record Reading : Type 0 where
  pub size : ℕ
  pub at : ℕ
  pub ranges : List Range
  pub offsets : List BoxOffset
  pub due : List ℕ

-- the covered text that is still to come
abbrev pub rest_of : Reading → List ℕ → List ℕ
rest_of r file = r.due ++ told_from (is_excluded r.ranges) r.offsets r.at file

-- how many of the `n` positions from `at` on aren't excluded
abbrev pub kept_count : (ℕ → Bool) → ℕ → ℕ → ℕ
kept_count excludes at n = length (filter (λ i. not (excludes i)) (range_with_len at n))

-- how many bytes are still to come
abbrev pub left_of : Reading → ℕ
left_of r =
    length r.due + 8 * length r.offsets + kept_count (is_excluded r.ranges) r.at (r.size - r.at)

-- a reader at the start of this cover's text, and how long that is
pub record IsStart (c : Covered) (r : Reading) : Type 0 where
  pub size : r.size ≡ c.size
  pub text : (file : List ℕ) → rest_of r file ≡ text_of c file
  pub left : left_of r ≡ text_len c

-- A read of the next piece: the first `n` bytes of the buffer, where the bytes of the source are known. Of any source, as many bytes
-- are gone from what is left, and none only where nothing was left.
pub record ReadsNext (known : Option (List ℕ)) (old new : Reading) (buf : List ℕ)
    (n : ℕ) : Type 0 where
  pub piece : ForSome known (λ file. rest_of old file ≡ take n buf ++ rest_of new file)
  pub left : left_of old ≡ n + left_of new
  pub in_buf : n ≤ length buf
  pub end : n ≡ 0 → left_of old ≡ 0
  pub nothing : n ≡ 0 → ForSome known (λ file. rest_of old file ≡ [])

-- where the bytes of both sources are known: whether their covered texts are equal
abbrev pub IsSameText : Covered → Option (List ℕ) → Covered → Option (List ℕ) → Bool → Type 0
IsSameText c known d other same =
    ForSome known (λ file. ForSome other (λ copy.
    same ≡ bytes_eq (text_of c file) (text_of d copy)))

-- of any two sources, texts are the same only where they have equally many bytes
abbrev pub HaveOneLength : Covered → Covered → Bool → Type 0
HaveOneLength c d same = same ≡ true → text_len c ≡ text_len d
