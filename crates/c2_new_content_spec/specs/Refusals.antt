-- What is refused where something is put in at a split: all of it in its order, which is this project's own choice.
-- Where nothing is, there is a file.
use Rattle.std.specs.Prelude.{◌≡◌, ℕ, ◌+◌, nat_lt, nat_le, List, [], ◌∷◌, ◌++◌, length, Some, None, if◌then◌else◌}
use Rattle.std.specs.List.{flat_map}
use Rattle.c2_base.specs.declared.limits.TheConstants.{FILE_LEN_LIMIT, MAX_ROOT_BOXES, MAX_STORE_LEN}
use Rattle.c2_base.specs.declared.values.Question.{Question}
use Rattle.c2_spec.specs.Bmff.Boxes.{is_to_end}
use Rattle.c2_spec.specs.Bmff.Paths.{PlacedBox, placed_from}
use Rattle.c2_spec.specs.C2pa.Sign1.{SignParts}
use Rattle.c2_spec.specs.Jumbf.Tree.{tree_bytes}
use Rattle.c2_spec.specs.declared.digest.Alg.{Alg}
use Rattle.c2_new_file_spec.specs.Fresh.{GivesDigests, MeetsTheRules}
use Rattle.c2_new_file_spec.specs.Store.{Content, new_alg}
use Rattle.c2_new_content_spec.specs.Contents.{ContentMeets, content_len, content_question, content_size, content_store}
use Rattle.c2_new_content_spec.specs.Splits.{HasRoomFor, IsFree, IsSplit, Split, of_boxes, of_segments, split_file, split_len, split_piece, split_start}

-- Why nothing is put in at a split: no number is there for packets; a root box before the place, which begins here,
-- says no size; the store has so many bytes, or the new file; or the file has as many root boxes as it may have.
pub data SplitRefusal : Type 0 where
  no_number : SplitRefusal
  open_box : ℕ → SplitRefusal
  store_too_large : ℕ → SplitRefusal
  file_too_large : ℕ → SplitRefusal
  too_many_boxes : SplitRefusal

-- the refusal of a root box before the place that says no size
abbrev pub box_refusals : PlacedBox → List SplitRefusal
box_refusals b = if is_to_end b.box.form then open_box b.at ∷ [] else []

-- why nothing can be put in at a split, whatever the store is
abbrev pub place_refusals : Split → List SplitRefusal
place_refusals (of_segments front back None) = no_number ∷ []
place_refusals (of_segments front back (Some en)) = []
place_refusals (of_boxes front back) = flat_map box_refusals (placed_from 0 front)

-- the file has no room for one more root box
abbrev pub count_refusals : Split → List SplitRefusal
count_refusals (of_segments front back number) = []
count_refusals (of_boxes front back) = if nat_le MAX_ROOT_BOXES (length (front ++ back)) then too_many_boxes ∷ [] else []

-- all that is refused of a store of so many bytes at a split, in order
abbrev pub split_refusals : List ℕ → Split → ℕ → List SplitRefusal
split_refusals base s size =
    place_refusals s
    ++ ((if nat_lt MAX_STORE_LEN size then store_too_large size ∷ [] else [])
    ++ ((if nat_le FILE_LEN_LIMIT (length base + split_len s size)
    then file_too_large (length base + split_len s size) ∷ []
    else [])
    ++ count_refusals s))

-- where nothing is refused there is room
abbrev pub UnrefusedHasRoom : Type 0
UnrefusedHasRoom = (base : List ℕ) (s : Split) (size : ℕ) → IsSplit base s → split_refusals base s size ≡ []
    → HasRoomFor base s size

-- where there is room nothing is refused
abbrev pub RoomIsUnrefused : Type 0
RoomIsUnrefused = (base : List ℕ) (s : Split) (size : ℕ) → HasRoomFor base s size → split_refusals base s size ≡ []

-- The file has the new store of a content put in at a split; it meets every rule but the verdict on its message, and
-- asks the new question and then these.
pub record IsContentFile (hash : Alg → List ℕ → List ℕ) (c : Content) (message base : List ℕ) (s : Split)
    (qs : List Question) (file : List ℕ) : Type 0 where
  pub piece : List ℕ
  pub is_piece : split_piece s (tree_bytes (content_store (hash (new_alg c.definition)) c message base s)) ≡ Some piece
  pub put : file ≡ split_file base s piece
  pub meets : MeetsTheRules hash file (split_start s) (content_len s c (length message)) (content_store (hash (new_alg c.definition)) c message base s) qs

-- Where nothing is refused, there is such a file: whichever place of a file without a store the split is, and whichever
-- content's rules hold.
abbrev pub UnrefusedIsBuilt : Type 0
UnrefusedIsBuilt = (hash : Alg → List ℕ → List ℕ) (c : Content) (message base : List ℕ) (s : Split) (parts : SignParts)
    (older : List Question)
    → GivesDigests hash → ContentMeets hash c message parts older → IsSplit base s → IsFree s
    → split_refusals base s (content_size s c (length message)) ≡ []
    → (file : List ℕ)
    × IsContentFile hash c message base s (content_question (hash (new_alg c.definition)) c (length message) base s parts ∷ older) file
