-- Which bytes of a media file its new file keeps: those outside the ranges of stores, in their order (C2PA Technical
-- Specification 2.x, "Embedding manifests into assets").
use Rattle.std.specs.Prelude.{◌≡◌, ◌⊎◌, ℕ, List, length}
use Rattle.std.specs.declared.option.Option.{Option}
use Rattle.std.specs.declared.option.Option.TheVariants.{Some, None}
use Rattle.c2_base.specs.declared.values.Range.{Range}
use Rattle.c2_spec.specs.Jumbf.Tree.{Tree}
use Rattle.c2_spec.specs.Located.{here}
use Rattle.c2_spec.specs.PutIn.{taken_out}
use Rattle.c2_rules.specs.Opened.{IsOpened}
use Rattle.c2_new_file_spec.specs.Store.{range_at}
use Rattle.c2_new_file_spec.specs.Bases.{IsLeft}
use Rattle.c2_new_content_spec.specs.Splits.{IsSplit, Split, split_file, split_start}

-- a file less a range, where there is one
abbrev pub less_range : Option Range → List ℕ → List ℕ
less_range None file = file
less_range (Some r) file = taken_out r.start r.length file

-- The base of a media file with a store in this range, or without one, has all bytes outside the range, in their order:
-- what was in the range is cut out, or it is freed and stays where it was.
pub record KeepsOutside (media : List ℕ) (old : Option Range) (base : List ℕ) : Type 0 where
  pub freed : Option Range
  pub only : (freed ≡ None) ⊎ (freed ≡ old)
  pub same : less_range freed base ≡ less_range old media

-- A new file less its new range has all bytes of the media outside the ranges of stores, in their order.
abbrev pub KeepsBytes : List ℕ → Option Range → List ℕ → Range → Type 0
KeepsBytes media old file new = KeepsOutside media old (less_range (Some new) file)

-- what was put into a file at a split, taken out again, leaves the file
abbrev pub PieceIsTakenOut : Type 0
PieceIsTakenOut = (base : List ℕ) (s : Split) (piece : List ℕ) → IsSplit base s
    → less_range (Some (range_at (split_start s) (length piece))) (split_file base s piece) ≡ base

-- what is left of a media file with a store in this range, of either container, keeps the other bytes
abbrev pub LeftKeeps : Type 0
LeftKeeps = (media : List ℕ) (start len : ℕ) (t : Tree) (base : List ℕ) → IsOpened media (here start len t)
    → IsLeft media start len base → KeepsOutside media (Some (range_at start len)) base

-- Whatever is put, at a split, into a base that has the bytes of a media file so, the new file keeps them.
abbrev pub SplitFileKeeps : Type 0
SplitFileKeeps = (media : List ℕ) (old : Option Range) (base : List ℕ) (s : Split) (piece : List ℕ)
    → KeepsOutside media old base → IsSplit base s
    → KeepsBytes media old (split_file base s piece) (range_at (split_start s) (length piece))
