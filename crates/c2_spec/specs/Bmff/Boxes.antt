-- The boxes of an ISO base media file (ISO/IEC 14496-12, 4.2), as forms whose bytes stand one after the other, and the root
-- boxes of a file. The limit on their number is this project's own.
use Rattle.std.specs.Prelude.{◌≡◌, ℕ, ◌+◌, ◌^◌, ◌<◌, ◌≤◌, ⊤, Bool, true, false, ◌&&◌, List, [], ◌∷◌, ◌++◌, length, take, drop, codes, Option, Some, None, nat_le, nat_lt, ◌==◌, if◌then◌else◌}
use Rattle.std.specs.List.{flat_map, AllByRecursion}
use Rattle.std.specs.Str.{bytes_eq}
use Rattle.std.specs.Int.{w32, w64, to_be_bytes, from_be_bytes}
use Rattle.c2_base.specs.declared.media.MediaError.{MediaError}
use Rattle.c2_base.specs.declared.media.MediaError.TheVariants.{Truncated, BadBox, TooManyBoxes}

-- how a box says its size: in 4 bytes, in 8 bytes after a 1, or not at all, up to the end of what holds it
pub data SizeForm : Type 0 where
  short long to_end : SizeForm

-- A box: how it says its size, its type of four bytes, and the bytes after its header.
pub record Box : Type 0 where
  pub form : SizeForm
  pub kind : List ℕ
  pub payload : List ℕ

-- how many bytes the header has (4.2)
abbrev pub header_len : SizeForm → ℕ
header_len short = 8
header_len long = 16
header_len to_end = 8

-- a size counts the header
abbrev pub box_len : Box → ℕ
box_len b = header_len b.form + length b.payload

-- the header of a box that has this size and this type
abbrev pub header_bytes : SizeForm → ℕ → List ℕ → List ℕ
header_bytes short size kind = to_be_bytes w32 size ++ kind
header_bytes long size kind = to_be_bytes w32 1 ++ kind ++ to_be_bytes w64 size
header_bytes to_end size kind = to_be_bytes w32 0 ++ kind

-- the bytes of a box
abbrev pub box_bytes : Box → List ℕ
box_bytes b = header_bytes b.form (box_len b) b.kind ++ b.payload

-- the size can be written in this form
abbrev pub size_fits : SizeForm → ℕ → Bool
size_fits short size = nat_lt size (2 ^ 32)
size_fits long size = nat_lt size (2 ^ 64)
size_fits to_end size = true

-- the box runs to the end of what holds it
abbrev pub is_to_end : SizeForm → Bool
is_to_end short = false
is_to_end long = false
is_to_end to_end = true

-- the type whose boxes begin with a user type of 16 bytes
abbrev pub uuid_kind : List ℕ
uuid_kind = codes "uuid"

-- a box that can be written: a type of four bytes, a size that fits its form, and room for a user type
pub record IsBox (b : Box) : Type 0 where
  pub kind : length b.kind ≡ 4
  pub fits : size_fits b.form (box_len b) ≡ true
  pub user_type : bytes_eq b.kind uuid_kind ≡ true → 16 ≤ length b.payload

-- a box that says its size
pub record IsSizedBox (b : Box) : Type 0 where
  pub is_box : IsBox b
  pub sized : is_to_end b.form ≡ false

-- boxes of which at most the last doesn't say its size
abbrev pub AreBoxForms : List Box → Type 0
AreBoxForms [] = ⊤
AreBoxForms (b ∷ []) = IsBox b
AreBoxForms (b ∷ c ∷ cs) = IsSizedBox b × AreBoxForms (c ∷ cs)

-- ---- root boxes

-- how many root boxes a file has at most
abbrev pub most_roots : ℕ
most_roots = 1048576

-- the type of the first box
abbrev pub ftyp_kind : List ℕ
ftyp_kind = codes "ftyp"

-- the file begins as a BMFF file
abbrev pub begins_bmff : List ℕ → Bool
begins_bmff file = bytes_eq (take 4 (drop 4 file)) ftyp_kind

-- The root boxes of a file: the list of boxes whose bytes are the file's.
pub record HasRoots (file : List ℕ) (roots : List Box) : Type 0 where
  pub fits : length file < 2 ^ 62
  pub begins : begins_bmff file ≡ true
  pub bytes : file ≡ flat_map box_bytes roots
  pub forms : AreBoxForms roots
  pub few : length roots ≤ most_roots

-- where the rest of the file begins after these boxes
abbrev pub boxes_len : List Box → ℕ
boxes_len boxes = length (flat_map box_bytes boxes)

-- ---- what the header at the rest of a file states

-- the size in the first 4 bytes
abbrev pub stated_size : List ℕ → ℕ
stated_size rest = from_be_bytes w32 (take 4 rest)

-- the size in the 8 bytes after the type
abbrev pub stated_long_size : List ℕ → ℕ
stated_long_size rest = from_be_bytes w64 (take 8 (drop 8 rest))

-- the type in the 4 bytes after the size
abbrev pub stated_kind : List ℕ → List ℕ
stated_kind rest = take 4 (drop 4 rest)

-- how many bytes the header has: 16 where the first size is 1
abbrev pub stated_header_len : List ℕ → ℕ
stated_header_len rest = if stated_size rest == 1 then 16 else 8

-- a size of 0 runs to the end, 1 has the size after the type
abbrev pub stated_len : List ℕ → ℕ
stated_len rest =
    if stated_size rest == 0 then length rest
    else if stated_size rest == 1 then stated_long_size rest else stated_size rest

-- The first test of a box that fails, where the rest of the file stands at p: a file that ends in the header, a size that can't
-- be one, a file that ends before the box does, a user type that isn't there.
unfoldable pub box_fault : ℕ → List ℕ → Option MediaError
box_fault p rest =
    if nat_lt (length rest) 8 then Some (Truncated (p + length rest))
    else if nat_lt (length rest) (stated_header_len rest) then Some (Truncated (p + length rest))
    else if nat_le 2 (stated_size rest) && nat_lt (stated_size rest) 8 then Some (BadBox p)
    else if (stated_size rest == 1) && nat_lt (stated_long_size rest) 16 then Some (BadBox p)
    else if nat_lt (length rest) (stated_len rest) then Some (Truncated (p + length rest))
    else if bytes_eq (stated_kind rest) uuid_kind
    && nat_lt (stated_len rest) (stated_header_len rest + 16)
    then Some (BadBox p)
    else None

-- the first test after so many root boxes, where some byte is left
abbrev pub root_fault : ℕ → ℕ → List ℕ → Option MediaError
root_fault count p rest = if nat_lt count most_roots then box_fault p rest else Some TooManyBoxes

-- The first test of the root boxes that fails: after boxes that say their sizes, and there is a byte after them.
pub record RootFault (file : List ℕ) (fault : MediaError) : Type 0 where
  pub before : List Box
  pub rest : List ℕ
  pub bytes : file ≡ flat_map box_bytes before ++ rest
  pub sized : AllByRecursion IsSizedBox before
  pub few : length before ≤ most_roots
  pub more : 0 < length rest
  pub fails : root_fault (length before) (boxes_len before) rest ≡ Some fault
