-- What the header of a box of a file tells, or why it tells none; for private clauses.
use Rattle.std.specs.Prelude.{◌≡◌, ℕ, ◌+◌, List, Some, None, Ok, Err, ◌==◌}
use Rattle.std.specs.declared.result.Result.{Result}
use Rattle.c2_base.specs.declared.media.MediaError.{MediaError}
use Rattle.c2_base.specs.declared.media.MediaError.TheVariants.{Truncated, BadBox}
use Rattle.c2_spec.specs.Bmff.Boxes.{box_fault, stated_size, stated_len, stated_kind, stated_header_len}
use Rattle.c2_bmff_boxes.specs.Causes.{OrBmffFault}
use Rattle.c2_bmff_boxes.specs.declared.header.BoxHead.{BoxHead}
use Rattle.c2_bmff_boxes.specs.declared.header.HeadError.{HeadError}
use Rattle.c2_bmff_boxes.specs.declared.header.HeadError.TheVariants.{Short, Bad}

-- the header at the front of the rest of a file passes, and tells this
pub record IsHead (p : ℕ) (rest : List ℕ) (h : BoxHead) : Type 0 where
  pub good : box_fault p rest ≡ None
  pub header : h.header ≡ stated_header_len rest
  pub length : h.length ≡ stated_len rest
  pub kind : h.kind ≡ stated_kind rest
  pub to_end : h.to_end ≡ (stated_size rest == 0)

-- the header there, or the first test of the box that fails, unless the source failed or memory ran out
abbrev pub IsHeadOr : ℕ → List ℕ → Result BoxHead MediaError → Type 0
IsHeadOr p rest (Ok h) = IsHead p rest h
IsHeadOr p rest (Err e) = OrBmffFault e (box_fault p rest ≡ Some e)

-- a header's error as the file's, at a place with so many bytes left
abbrev pub media_error : ℕ → ℕ → HeadError → MediaError
media_error p left Short = Truncated (p + left)
media_error p left Bad = BadBox p
