-- Rows of boxes.
use Rattle.std.specs.Prelude.{◌≡◌, ℕ, ◌+◌, ◌-◌, ◌≤◌, Bool, true, List, ◌++◌, length, take, drop, map}
use Rattle.c2_spec.specs.Bmff.Boxes.{Box, IsBox, box_bytes, box_len, header_len, is_to_end}
use Rattle.c2_spec.specs.Bmff.Paths.{PlacedBox, placed_from}
use Rattle.c2_bmff_rows.specs.declared.row.RootBox.{RootBox}

-- what is kept of a box that stands in a file
abbrev pub row_of : PlacedBox → RootBox
row_of b = record {
  start = b.at;
  length = box_len b.box;
  header = header_len b.box.form;
  kind = b.box.kind;
  to_end = is_to_end b.box.form;
}

-- the rows of boxes that stand one after the other from the start of the file
abbrev pub rows_of : List Box → List RootBox
rows_of boxes = map row_of (placed_from 0 boxes)

-- the box ends in a source of `len` bytes
abbrev pub IsBoxWithin : ℕ → RootBox → Type 0
IsBoxWithin len r = r.start + r.length ≤ len

-- the box has a header
abbrev pub HasHeader : RootBox → Type 0
HasHeader r = (r.header ≤ r.length) × (8 ≤ r.header)

-- the box of a row ends in a source of `len` bytes, and has a header
abbrev pub IsRowWithin : ℕ → RootBox → Type 0
IsRowWithin len r = (r.start + r.length ≤ len) × (r.header ≤ r.length) × (8 ≤ r.header)

-- the payload of a root box of a file
abbrev pub payload_at : List ℕ → RootBox → List ℕ
payload_at file r = take (r.length - r.header) (drop (r.start + r.header) file)

-- a box stands in a file at its place
pub record Stands (file : List ℕ) (p : PlacedBox) : Type 0 where
  pub is_box : IsBox p.box
  pub tail : List ℕ
  pub bytes : drop p.at file ≡ box_bytes p.box ++ tail
  pub inside : p.at + box_len p.box ≤ length file

-- The rest of a file begins with this box, of which the header states this.
pub record BeginsWith (rest : List ℕ) (header len : ℕ) (kind : List ℕ) (open_end : Bool) : Type 0 where
  pub box : Box
  pub is_box : IsBox box
  pub bytes : rest ≡ box_bytes box ++ drop len rest
  pub length_is : box_len box ≡ len
  pub header_is : header_len box.form ≡ header
  pub kind_is : box.kind ≡ kind
  pub end_is : is_to_end box.form ≡ open_end
  pub ends : open_end ≡ true → len ≡ length rest
