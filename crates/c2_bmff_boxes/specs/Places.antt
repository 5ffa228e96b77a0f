-- A place among root boxes by their rows.
use Rattle.std.specs.Prelude.{◌≡◌, ℕ, ◌+◌, ◌-◌, ◌<◌, ◌≤◌, ◌^◌, List, [], ◌∷◌, length, take, Option, Ok, Err, if◌then◌else◌}
use Rattle.std.specs.declared.result.Result.{Result}
use Rattle.std.specs.Str.{bytes_eq}
use Rattle.c2_base.specs.declared.media.MediaError.{MediaError}
use Rattle.c2_base.specs.declared.media.MediaError.TheVariants.{BadBox}
use Rattle.c2_spec.specs.Bmff.Writing.{less, mfra_kind}
use Rattle.c2_bmff_boxes.specs.Roots.{skipped_len}
use Rattle.c2_bmff_rows.specs.declared.row.RootBox.{RootBox}

-- the place at a last box, where so many bytes before it are left out: before `mfra`, else behind the box, if it says its size
abbrev pub place_at : RootBox → ℕ → Result ℕ MediaError
place_at last out =
    if bytes_eq last.kind mfra_kind then Ok (last.start - out)
    else if last.to_end then Err (BadBox last.start) else Ok (last.start + last.length - out)

-- the place at the last of these rows
abbrev pub place_behind : ℕ → List RootBox → Result ℕ MediaError
place_behind out [] = Ok 0
place_behind out (r ∷ []) = place_at r out
place_behind out (r ∷ s ∷ rs) = place_behind out (s ∷ rs)

-- The place where the row of this index is left out, if one is given: the place at the last row that stays, before which the row's bytes are
-- left out unless it was the last.
abbrev pub place_less : Option ℕ → List RootBox → Result ℕ MediaError
place_less skip rows =
    place_behind (skipped_len skip (take (length rows - 1) rows)) (less skip rows)

-- ---- for private clauses

-- the place is a number in the file, and so many bytes stand before the last of these rows
abbrev pub HasRoom : ℕ → List RootBox → Type 0
HasRoom out [] = out ≡ 0
HasRoom out (r ∷ []) = (out ≤ r.start) × (r.start + r.length < 2 ^ 64)
HasRoom out (r ∷ s ∷ rs) = HasRoom out (s ∷ rs)
