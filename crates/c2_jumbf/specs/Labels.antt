-- The labels of the siblings so far, as the reader keeps them; for private clauses.
use Rattle.std.specs.Prelude.{◌≡◌, ◌<◌, ◌≤◌, false, Bool, ℕ, suc, min, List, [], ◌∷◌, map, Option, Some, None, slice_index, slice_index_or}
use Rattle.std.specs.List.{Contains}
use Rattle.std.specs.Int.{w64, from_be_bytes}
use Rattle.std.specs.Str.{bytes_eq}
use Rattle.std.specs.Ordering.{nat_cmp, ordering_then}
use Rattle.std.specs.declared.cmp.Ordering.{Ordering}
use Rattle.std.specs.Cmp.Lexicographic.{slice_cmp}
use denote.Ref.{Bor}
use Rattle.c2_jumbf.specs.declared.labels.Siblings.{Siblings}
use Rattle.c2_spec.specs.declared.jumbf.JumbfError.{JumbfError}
use Rattle.c2_spec.specs.declared.jumbf.JumbfError.TheVariants.{NoMemory, DuplicateLabel}

-- a label: its first eight bytes as a number, its bytes, and the place of its box
abbrev pub Mark : Type 0
Mark = ℕ × List ℕ × ℕ

-- the labels as the code keeps them, borrowed
abbrev pub marks : List (ℕ × Bor (List ℕ) × ℕ) → List Mark
marks ms = map (λ m. (m.0, m.1.now, m.2)) ms

-- the marks of the siblings so far
abbrev pub marked : Siblings → List Mark
marked s = marks s.marks.items

-- the first eight bytes of a label as a number, with zeros where there are fewer
abbrev pub front_of : List ℕ → ℕ
front_of k = from_be_bytes w64 (slice_index k 0 ∷ slice_index k 1 ∷ slice_index k 2 ∷ slice_index k 3 ∷ slice_index k 4 ∷ slice_index k 5 ∷ slice_index k 6 ∷ slice_index k 7 ∷ [])

-- what a box at a place adds: its label, where it has one
abbrev pub own_marks : ℕ → Option (List ℕ) → List Mark
own_marks place None = []
own_marks place (Some t) = (front_of t, t, place) ∷ []

-- the order that they are sorted in
abbrev pub mark_cmp : Mark → Mark → Ordering
mark_cmp x y = ordering_then (ordering_then (nat_cmp x.0 y.0) (slice_cmp nat_cmp x.1 y.1)) (nat_cmp x.2 y.2)

-- the mark at a place
abbrev pub mark_at : List Mark → ℕ → Mark
mark_at ms i = slice_index_or ms i (0, [], 0)

-- y is the label x, and comes later
abbrev pub Repeats : Mark → Mark → Type 0
Repeats x y = (x.0 ≡ y.0) × (x.1 ≡ y.1) × (x.2 < y.2)

-- the mark after a place repeats the one there
abbrev pub RepeatsAt : List Mark → ℕ → Type 0
RepeatsAt ms i = Repeats (mark_at ms i) (mark_at ms (suc i))

-- the least place of those that repeat the one before them, of the first n
abbrev pub LeastRepeated : List Mark → ℕ → Option ℕ → Type 0
LeastRepeated ms n None = (i : ℕ) → suc i < n → RepeatsAt ms i → ⊥
LeastRepeated ms n (Some j) = ((i : ℕ) × (suc i < n) × RepeatsAt ms i × (j ≡ (mark_at ms (suc i)).2)) × ((i : ℕ) → suc i < n → RepeatsAt ms i → j ≤ (mark_at ms (suc i)).2)

-- the lesser of two places, of which the first may be absent
abbrev pub lesser_of : Option ℕ → ℕ → ℕ
lesser_of None n = n
lesser_of (Some m) n = min m n

-- no label is there twice
abbrev pub NoneRepeats : List Mark → Type 0
NoneRepeats ms = (x y : Mark) → Contains ms x → Contains ms y → Repeats x y → ⊥

-- The first label that was there before it is that of the box at this place.
pub record IsFirstRepeated (ms : List Mark) (place : ℕ) : Type 0 where
  pub earlier : Mark
  pub later : Mark
  pub has_earlier : Contains ms earlier
  pub has_later : Contains ms later
  pub repeats : Repeats earlier later
  pub is : place ≡ later.2
  pub first : (x y : Mark) → Contains ms x → Contains ms y → Repeats x y → place ≤ y.2

-- The first fault of boxes side by side: that of the last box where no label is there twice, else that of a label.
pub data IsFirstFault (ms : List Mark) (fault first : JumbfError) : Type 0 where
  out_of_memory : fault ≡ NoMemory → first ≡ NoMemory → IsFirstFault ms fault first
  own : NoneRepeats ms → first ≡ fault → IsFirstFault ms fault first
  label : (p : ℕ) → (fault ≡ NoMemory → ⊥) → IsFirstRepeated ms p → first ≡ DuplicateLabel p → IsFirstFault ms fault first

-- the labels that are there
abbrev pub given : List (Option (List ℕ)) → List (List ℕ)
given [] = []
given (None ∷ os) = given os
given (Some t ∷ os) = t ∷ given os

-- a box's label is this one
abbrev pub is_label : List ℕ → Option (List ℕ) → Bool
is_label q None = false
is_label q (Some t) = bytes_eq t q
