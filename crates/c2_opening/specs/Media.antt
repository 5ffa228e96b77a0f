-- A media file as it is read, as media of the rules.
use Rattle.std.specs.Prelude.{◌≡◌, ℕ, List}
use Rattle.c2_spec.specs.Bmff.Boxes.{Box, HasRoots}
use Rattle.c2_spec.specs.Container.{jpeg, bmff}
use Rattle.c2_spec.specs.Container as container
use Rattle.c2_rules.specs.Binding as rules
use Rattle.c2_bmff_rows.specs.Rows.{rows_of}
use Rattle.c2_container.specs.declared.types.Container as types
use Rattle.c2_container.specs.declared.types.Container.TheVariants.{Jpeg, Bmff}

-- a media file by its bytes and its container
abbrev pub media : List ℕ → container.Container → rules.Media
media bytes c = record { bytes = bytes; container = c }

-- a file of this container is this as media: root boxes that were read are boxes of the file
abbrev pub IsMediaOf : List ℕ → types.Container → rules.Media → Type 0
IsMediaOf file Jpeg m = m ≡ media file jpeg
IsMediaOf file (Bmff roots) m =
    (boxes : List Box) × HasRoots file boxes × (roots ≡ rows_of boxes) × (m ≡ media file (bmff boxes))
