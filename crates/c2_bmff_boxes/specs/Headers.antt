-- What the first bytes of a box tell, where so many bytes of the file are left from there.
use Rattle.std.specs.Prelude.{◌≡◌, ℕ, Bool, ◌+◌, ◌-◌, ◌≤◌, ◌&&◌, List, Option, Some, None, length, min, nat_le, nat_lt, ◌==◌, if◌then◌else◌}
use Rattle.std.specs.Str.{bytes_eq}
use Rattle.c2_spec.specs.Bmff.Boxes.{stated_size, stated_long_size, stated_kind, stated_header_len, uuid_kind}
use Rattle.c2_bmff_boxes.specs.declared.header.BoxHead.{BoxHead}
use Rattle.c2_bmff_boxes.specs.declared.header.HeadError.{HeadError}
use Rattle.c2_bmff_boxes.specs.declared.header.HeadError.TheVariants.{Short, Bad}

-- the length of the box: a size of 0 is all that is left, 1 has the size after the type
abbrev pub header_total : ℕ → List ℕ → ℕ
header_total left bytes = if stated_size bytes == 0 then left else if stated_size bytes == 1 then stated_long_size bytes else stated_size bytes

-- The first test of a header that fails, or none: there are fewer than 8 bytes, or fewer than 16 where the size stands in 8 bytes; the
-- size can't be one; the box ends after the bytes that are left.
unfoldable pub head_fault : ℕ → List ℕ → Option HeadError
head_fault left bytes =
    if nat_lt (min (length bytes) left) 8 then Some Short
    else if nat_lt (min (length bytes) left) (stated_header_len bytes) then Some Short
    else if nat_le 2 (stated_size bytes) && nat_lt (stated_size bytes) 8 then Some Bad
    else if (stated_size bytes == 1) && nat_lt (stated_long_size bytes) 16 then Some Bad
    else if nat_lt left (header_total left bytes) then Some Short
    else None

-- the header passes these tests, and states this; the box ends in the bytes that are left
pub record IsBoxHead (left : ℕ) (bytes : List ℕ) (h : BoxHead) : Type 0 where
  pub good : head_fault left bytes ≡ None
  pub header : h.header ≡ stated_header_len bytes
  pub length : h.length ≡ header_total left bytes
  pub kind : h.kind ≡ stated_kind bytes
  pub to_end : h.to_end ≡ (stated_size bytes == 0)
  pub least : h.header ≤ h.length
  pub inside : h.length ≤ left
  pub some : 8 ≤ h.header

-- ---- for private clauses, where the bytes are the first 16 of those that are left

-- the first test of a box's header that fails, or none: a `uuid` box also has room for its user type
unfoldable pub header_fault : ℕ → List ℕ → Option HeadError
header_fault left bytes =
    if nat_lt left 8 then Some Short
    else if nat_lt left (stated_header_len bytes) then Some Short
    else if nat_le 2 (stated_size bytes) && nat_lt (stated_size bytes) 8 then Some Bad
    else if (stated_size bytes == 1) && nat_lt (stated_long_size bytes) 16 then Some Bad
    else if nat_lt left (header_total left bytes) then Some Short
    else if bytes_eq (stated_kind bytes) uuid_kind && nat_lt (header_total left bytes) (stated_header_len bytes + 16) then Some Bad
    else None

-- a `uuid` box has no room for its user type after its header
abbrev pub lacks_user_type : BoxHead → Bool
lacks_user_type h = bytes_eq h.kind uuid_kind && nat_lt (h.length - h.header) 16

-- these bytes pass the tests, and the header states this; the box ends in the `left` bytes
pub record IsHeader (left : ℕ) (bytes : List ℕ) (h : BoxHead) : Type 0 where
  pub good : header_fault left bytes ≡ None
  pub header : h.header ≡ stated_header_len bytes
  pub length : h.length ≡ header_total left bytes
  pub kind : h.kind ≡ stated_kind bytes
  pub to_end : h.to_end ≡ (stated_size bytes == 0)
  pub least : h.header ≤ h.length
  pub inside : h.length ≤ left
  pub some : 8 ≤ h.header
