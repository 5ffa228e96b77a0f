-- Paths to boxes of a BMFF file (C2PA Technical Specification 2.x, "BMFF-based hash": `xpath`), and the boxes on a path. The
-- boxes that a path enters and the greatest number in brackets are this project's own choice.
use Rattle.std.specs.Prelude.{◌≡◌, ℕ, ◌+◌, ◌-◌, Bool, true, false, not, ◌&&◌, List, [], ◌∷◌, ◌++◌, length, take, drop, get_or, filter, codes, Some, None, option_and_then, option_map, nat_le, nat_lt, ◌==◌, if◌then◌else◌, Contains}
use Rattle.std.specs.declared.option.Option.{Option}
use Rattle.std.specs.Char.{is_ascii_digit}
use Rattle.std.specs.Fmt.{decimal}
use Rattle.std.specs.List.{flat_map, AllByRecursion, list_any, list_all, slice_split}
use Rattle.std.specs.Str.{bytes_eq}
use Rattle.std.specs.Str.Parse.{digits_value}
use Rattle.c2_spec.specs.Bmff.Boxes.{Box, IsSizedBox, box_bytes, box_len, header_len}
use Rattle.c2_spec.specs.Cbor.Fields.{joined}
use Rattle.c2_spec.specs.C2pa.Uri.{is_slash, after_piece}

-- A step of a path: the type of a box, and which one of the siblings of this type is meant; all of them where no number is there.
pub record PathStep : Type 0 where
  pub kind : List ℕ
  pub nth : Option ℕ

-- ---- the text of a path

-- the greatest number in brackets
abbrev pub max_child_index : ℕ
max_child_index = 1048576

-- a number in brackets, as it is written
abbrev pub nth_text : Option ℕ → List ℕ
nth_text None = []
nth_text (Some k) = 0x5B ∷ decimal k ++ 0x5D ∷ []

-- a step as it is written: a slash, the type, the number
abbrev pub step_text : PathStep → List ℕ
step_text s = 0x2F ∷ s.kind ++ nth_text s.nth

-- a path as it is written
abbrev pub steps_text : List PathStep → List ℕ
steps_text steps = flat_map step_text steps

-- ---- the path of a text

-- four characters of one byte each, none of them an opening bracket; a slash isn't among them since steps are parted there
abbrev pub is_step_kind : List ℕ → Bool
is_step_kind kind = (length kind == 4) && list_all (λ b. nat_lt b 0x80 && not (b == 0x5B)) kind

-- the number k that these digits write, which has no leading zero, isn't zero and isn't too great
abbrev pub nth_number : ℕ → List ℕ → Option (Option ℕ)
nth_number k digits =
    if list_all is_ascii_digit digits && not (get_or digits 0 0x30 == 0x30) && nat_le 1 k
    && nat_le k max_child_index
    then Some (Some k)
    else None

-- what a step has after its type: nothing, or a number in brackets
abbrev pub nth_of_text : List ℕ → Option (Option ℕ)
nth_of_text [] = Some None
nth_of_text (b ∷ bs) =
    if (b == 0x5B) && bytes_eq (drop (length bs - 1) bs) (0x5D ∷ [])
    then nth_number (digits_value 10 (take (length bs - 1) bs)) (take (length bs - 1) bs)
    else None

-- the step of a text without its slash, or none where it hasn't the form
abbrev pub step_of : List ℕ → Option PathStep
step_of part =
    if is_step_kind (take 4 part)
    then option_map (λ (nth : Option ℕ). record { kind = take 4 part; nth = nth })
    (nth_of_text (drop 4 part))
    else None

-- the steps of these texts, or none where one hasn't the form
abbrev pub each_step : List (List ℕ) → Option (List PathStep)
each_step [] = Some []
each_step (part ∷ parts) = joined (step_of part) (each_step parts)

-- the steps of a path, each after a slash; none where the text hasn't the form
abbrev pub path_of : List ℕ → Option (List PathStep)
path_of text =
    option_and_then (λ (parts : List ℕ). each_step (slice_split is_slash parts))
    (after_piece (0x2F ∷ []) text)

-- ---- boxes on a path

-- the types of the boxes that a path enters
abbrev pub entered_kinds : List (List ℕ)
entered_kinds =
    codes "moov" ∷ codes "trak" ∷ codes "edts" ∷ codes "mdia" ∷ codes "minf" ∷ codes "dinf"
    ∷ codes "stbl" ∷ codes "mvex" ∷ codes "moof" ∷ codes "traf" ∷ codes "mfra" ∷ []

-- a box of this type has children that a path can name
abbrev pub is_entered : List ℕ → Bool
is_entered kind = list_any (bytes_eq kind) entered_kinds

-- a step before the last has another type
abbrev pub enters_other : List PathStep → Bool
enters_other [] = false
enters_other (step ∷ []) = false
enters_other (step ∷ next ∷ steps) =
    if is_entered step.kind then enters_other (next ∷ steps) else true

-- a box with the place of the file where it begins
pub record PlacedBox : Type 0 where
  pub at : ℕ
  pub box : Box

-- boxes that stand one after the other, from a place on
abbrev pub placed_from : ℕ → List Box → List PlacedBox
placed_from at [] = []
placed_from at (b ∷ bs) = record { at = at; box = b } ∷ placed_from (at + box_len b) bs

-- the list of boxes, each of which says its size, whose bytes are these
pub record FillsPayload (payload : List ℕ) (boxes : List Box) : Type 0 where
  pub bytes : payload ≡ flat_map box_bytes boxes
  pub forms : AllByRecursion IsSizedBox boxes

-- The children of a box: the boxes that fill its payload, and none where no list does.
pub data HasChildren (parent : PlacedBox) : List PlacedBox → Type 0 where
  filled : (boxes : List Box) → FillsPayload parent.box.payload boxes
      → HasChildren parent (placed_from (parent.at + header_len parent.box.form) boxes)
  unfilled : ((boxes : List Box) → FillsPayload parent.box.payload boxes → ⊥)
      → HasChildren parent []

-- the boxes that a step means: with a number k the k-th, without one all
abbrev pub nth_of : {A : Type 0} → Option ℕ → List A → List A
nth_of None bs = bs
nth_of (Some k) bs = take 1 (drop (k - 1) bs)

-- the siblings that a step matches: those of its type, in file order, and with a number k the k-th of them alone
abbrev pub matched : PathStep → List PlacedBox → List PlacedBox
matched step siblings =
    nth_of step.nth (filter (λ (b : PlacedBox). bytes_eq b.box.kind step.kind) siblings)

-- A box stands on a path below these siblings: it is matched by the last step, or stands below a box that a step before it
-- matches and enters.
pub data OnPath : List PlacedBox → List PathStep → PlacedBox → Type 0 where
  last : (siblings : List PlacedBox) (step : PathStep) (b : PlacedBox)
      → Contains (matched step siblings) b → OnPath siblings (step ∷ []) b
  below : (siblings : List PlacedBox) (step next : PathStep) (steps : List PathStep) (b : PlacedBox)
      (parent : PlacedBox) (children : List PlacedBox)
      → is_entered step.kind ≡ true → Contains (matched step siblings) parent
      → HasChildren parent children → OnPath children (next ∷ steps) b
      → OnPath siblings (step ∷ next ∷ steps) b
