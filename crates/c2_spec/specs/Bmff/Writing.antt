-- What is written into a BMFF file (C2PA Technical Specification 2.x, embedding in BMFF; ISO/IEC 14496-12): the box of a store, the
-- place where it is put among the root boxes, what the file is without an older store, and what its BMFF hash covers. The place, what
-- becomes of the older box, and the exclusions are this project's own choice.
use Rattle.std.specs.Prelude.{◌≡◌, ℕ, suc, ◌≤◌, Bool, true, false, not, ◌&&◌, ◌||◌, List, [], ◌∷◌, ◌++◌, length, take, drop, replicate, codes, Option, Some, None, Ok, Err, if◌then◌else◌}
use Rattle.std.specs.declared.result.Result.{Result}
use Rattle.std.specs.Int.{w64, to_be_bytes}
use Rattle.std.specs.List.{flat_map, AllByRecursion}
use Rattle.std.specs.Str.{bytes_eq}
use Rattle.c2_base.specs.declared.media.MediaError.{MediaError}
use Rattle.c2_base.specs.declared.media.MediaError.TheVariants.{BadBox}
use Rattle.c2_spec.specs.Bmff.Boxes.{Box, short, HasRoots, box_bytes, boxes_len, ftyp_kind, is_to_end, uuid_kind}
use Rattle.c2_spec.specs.Bmff.Hash.{ByteTest, Exclusion}
use Rattle.c2_spec.specs.Bmff.Paths.{PlacedBox, placed_from}
use Rattle.c2_spec.specs.Bmff.Store.{HoldsBmffStore, c2pa_user_type, is_other_box, most_store_bytes}
use Rattle.c2_spec.specs.Jumbf.Faults.{has_head, told_total}

-- ---- the box of a store

-- A store that a C2PA box can hold: one JUMBF box, no larger than a store may be.
pub record IsBoxStore (store : List ℕ) : Type 0 where
  pub head : has_head store ≡ true
  pub whole : told_total store ≡ length store
  pub small : length store ≤ most_store_bytes

-- what the box has after its header: the user type, version and flags 0, the purpose, no Merkle box, the store
abbrev pub c2pa_payload : List ℕ → List ℕ
c2pa_payload store =
    c2pa_user_type
    ++ (replicate 4 0 ++ ((codes "manifest" ++ 0 ∷ []) ++ (replicate 8 0 ++ store)))

-- the C2PA box of a store: it says its size in 4 bytes, and nothing follows the store
abbrev pub c2pa_box : List ℕ → Box
c2pa_box store = record { form = short; kind = uuid_kind; payload = c2pa_payload store }

-- how many bytes it has before the store: header, user type, version and flags, purpose, offset
abbrev pub c2pa_frame_len : ℕ
c2pa_frame_len = 45

-- ---- its place among root boxes

-- the type of the box that tells where fragments are, which a reader looks for at the end of a file (8.8.9)
abbrev pub mfra_kind : List ℕ
mfra_kind = codes "mfra"

-- a box of that type
abbrev pub is_mfra : Box → Bool
is_mfra b = bytes_eq b.kind mfra_kind

-- the boxes before a last `mfra`; all of them where the last is none
abbrev pub before_mfra : List Box → List Box
before_mfra [] = []
before_mfra (b ∷ []) = if is_mfra b then [] else b ∷ []
before_mfra (b ∷ c ∷ cs) = b ∷ before_mfra (c ∷ cs)

-- the last `mfra` alone; no box where the last is none
abbrev pub last_mfra : List Box → List Box
last_mfra [] = []
last_mfra (b ∷ []) = if is_mfra b then b ∷ [] else []
last_mfra (b ∷ c ∷ cs) = last_mfra (c ∷ cs)

-- the box of a store goes where a last `mfra` begins, else to the end
abbrev pub insert_place : List Box → ℕ
insert_place roots = boxes_len (before_mfra roots)

-- the root boxes with it
abbrev pub with_store : List ℕ → List Box → List Box
with_store store roots = before_mfra roots ++ c2pa_box store ∷ last_mfra roots

-- a list less its member of this index, where one is given
abbrev pub less : {A : Type 0} → Option ℕ → List A → List A
less None xs = xs
less (Some i) xs = take i xs ++ drop (suc i) xs

-- where the last box begins, if it says no size and isn't `mfra`: nothing can be put behind it
abbrev pub open_end : List PlacedBox → Option ℕ
open_end [] = None
open_end (b ∷ []) = if is_to_end b.box.form && not (is_mfra b.box) then Some b.at else None
open_end (b ∷ c ∷ cs) = open_end (c ∷ cs)

-- the place, or a refusal that names the box that is open
abbrev pub place_or : Option ℕ → ℕ → Result ℕ MediaError
place_or None place = Ok place
place_or (Some at) place = Err (BadBox at)

-- the place in a file with these root boxes less one of them; none where the last that stays is open, as it stands in the whole file
abbrev pub place_without : Option ℕ → List Box → Result ℕ MediaError
place_without skip roots =
    place_or (open_end (less skip (placed_from 0 roots))) (insert_place (less skip roots))

-- ---- the file without an older store

-- a box as free space (8.1.2): its length and how it says it stay, and zero bytes stand after its header
abbrev pub freed : Box → Box
freed b =
    record { form = b.form; kind = codes "free"; payload = replicate (length b.payload) 0 }

-- no box, or one `mfra`
abbrev pub is_file_end : List Box → Bool
is_file_end [] = true
is_file_end (b ∷ []) = is_mfra b
is_file_end (b ∷ c ∷ cs) = false

-- these boxes without the older one between them: it is cut out at the end of the file, and freed elsewhere
abbrev pub base_roots : List Box → Box → List Box → List Box
base_roots before old after =
    if is_file_end after then before ++ after else before ++ freed old ∷ after

-- The root boxes of the base of a file with these boxes: the same where none holds a store, else without the one that does.
pub data AreBaseRoots (boxes roots : List Box) : Type 0 where
  same : AllByRecursion (λ b. is_other_box b ≡ true) boxes → roots ≡ boxes
      → AreBaseRoots boxes roots
  without : (start len : ℕ) (store : List ℕ) → (h : HoldsBmffStore boxes start len store)
      → roots ≡ base_roots h.before h.holder h.after → AreBaseRoots boxes roots

-- The base of a file, with its root boxes: what the file is without its store.
pub record IsBmffBase (file base : List ℕ) (roots : List Box) : Type 0 where
  pub boxes : List Box
  pub has_roots : HasRoots file boxes
  pub are : AreBaseRoots boxes roots
  pub bytes : base ≡ flat_map box_bytes roots

-- ---- what its BMFF hash covers

-- all root boxes of a type that meet these tests
abbrev pub all_of : List ℕ → List ByteTest → Exclusion
all_of kind tests =
    record { path = record { kind = kind; nth = None } ∷ []; length = None; tests = tests; subset = None }

-- the exclusions: the C2PA boxes, the file type box, and `mfra`
abbrev pub built_exclusions : List Exclusion
built_exclusions =
    all_of uuid_kind (record { offset = 8; value = c2pa_user_type } ∷ []) ∷ all_of ftyp_kind []
    ∷ all_of mfra_kind [] ∷ []

-- a root box that they exclude whole
abbrev pub is_left_out : Box → Bool
is_left_out b =
    (bytes_eq b.kind uuid_kind && bytes_eq (take 16 (drop 8 (box_bytes b))) c2pa_user_type)
    || (bytes_eq b.kind ftyp_kind || is_mfra b)

-- what a root box gives: its place in 8 bytes and all its bytes, or nothing
abbrev pub built_part : PlacedBox → List ℕ
built_part b = if is_left_out b.box then [] else to_be_bytes w64 b.at ++ box_bytes b.box

-- what a BMFF hash with these exclusions covers
abbrev pub built_text : List Box → List ℕ
built_text roots = flat_map built_part (placed_from 0 roots)
