-- A media file without its store (C2PA Technical Specification 2.x, embedding manifests into assets). That the box of a store stays where
-- its loss would move the boxes behind it is this project's own choice.
use Rattle.std.specs.Prelude.{◌≡◌, ℕ, true, false, List, [], Some}
use Rattle.c2_base.specs.declared.values.Range.{Range}
use Rattle.c2_spec.specs.Bmff.Store.{HasBmffStore}
use Rattle.c2_spec.specs.Bmff.Writing.{is_file_end}
use Rattle.c2_spec.specs.Container.{IsLocated, is_bmff}
use Rattle.c2_spec.specs.Located.{Located, absent, here, refusal}
use Rattle.c2_spec.specs.PutIn.{taken_out}
use Rattle.c2_strip.specs.declared.error.Stripped.{Stripped}
use Rattle.c2_strip.specs.declared.error.Stripped.TheVariants.{Done, NoStore, Refused, Middle}

-- a file less this range: its bytes at the positions outside of it, in order
abbrev pub stripped : Range → List ℕ → List ℕ
stripped range file = taken_out range.start range.length file

-- the file has its store in this range
abbrev pub HasEmbedded : List ℕ → Range → Type 0
HasEmbedded file range = (store : List ℕ) × IsLocated file (here range.start range.length store)

-- The file is a BMFF file, and the box of its store begins at this place; it is neither last nor followed by a last `mfra` alone.
pub record IsMiddle (file : List ℕ) (at : ℕ) : Type 0 where
  pub is : is_bmff file ≡ true
  pub len : ℕ
  pub store : List ℕ
  pub has : HasBmffStore file at len store
  pub among : is_file_end has.holds.after ≡ false

-- What the file comes to without its store: less its embedded range, unless its box stands in the middle; it has none; the first of the
-- container's tests fails; or the box stands in the middle.
abbrev pub StripsTo : List ℕ → Stripped → Type 0
StripsTo file (Done range) = HasEmbedded file range × (IsMiddle file range.start → ⊥)
StripsTo file NoStore = IsLocated file absent
StripsTo file (Refused e) = (what : Located) × IsLocated file what × (refusal e ≡ Some what)
StripsTo file (Middle at) = IsMiddle file at

-- the bytes that are written where the file comes to this: it less the range, or none
abbrev pub left_of : List ℕ → Stripped → List ℕ
left_of file (Done range) = stripped range file
left_of file _ = []
