-- For private clauses: where the box of a store stands among root boxes, by their rows, and the answer for an error of the container.
use Rattle.std.specs.Prelude.{◌≡◌, ◌+◌, Bool, false, ◌&&◌, ◌||◌, ◌==◌, List, [], ◌∷◌, IsSome}
use Rattle.std.specs.declared.result.Result.{Result}
use Rattle.std.specs.declared.result.Result.TheVariants.{Ok, Err}
use Rattle.std.specs.Str.{bytes_eq}
use Rattle.c2_base.specs.declared.media.MediaError.{MediaError}
use Rattle.c2_base.specs.declared.media.MediaError.TheVariants as media
use Rattle.c2_base.specs.declared.values.Range.{Range}
use Rattle.c2_spec.specs.Bmff.Writing.{mfra_kind}
use Rattle.c2_spec.specs.Located.{refusal}
use Rattle.c2_bmff_rows.specs.declared.row.RootBox.{RootBox}
use Rattle.c2_strip.specs.declared.error.StripError.{StripError}
use Rattle.c2_strip.specs.declared.error.StripError.TheVariants.{ReadFault, WriteFault, NoMemory}
use Rattle.c2_strip.specs.declared.error.Stripped.{Stripped}
use Rattle.c2_strip.specs.declared.error.Stripped.TheVariants.{Refused}

-- a last row is that of the box with this range, or that of an `mfra` which follows this box
abbrev pub ends_with : Range → RootBox → Bool
ends_with range last =
    (last.start == range.start) || ((last.start == range.start + range.length) && bytes_eq last.kind mfra_kind)

-- the last of these rows is that of the box with this range, or that of an `mfra` which follows this box
abbrev pub is_last : Range → List RootBox → Bool
is_last range [] = false
is_last range (r ∷ []) = ends_with range r
is_last range (r ∷ s ∷ rs) = is_last range (s ∷ rs)

-- the answer for an error of the container: a refusal, or a fault that says nothing of the file
abbrev pub IsRefusedBy : MediaError → Result Stripped StripError → Type 0
IsRefusedBy e (Ok (Refused f)) = (f ≡ e) × IsSome (refusal e)
IsRefusedBy e (Ok _) = ⊥
IsRefusedBy e (Err ReadFault) = e ≡ media.ReadFault
IsRefusedBy e (Err WriteFault) = ⊥
IsRefusedBy e (Err NoMemory) = e ≡ media.NoMemory
