-- Errors that say nothing of the file.
use Rattle.std.specs.Prelude.{◌≡◌, ℕ, ⊤}
use Rattle.c2_base.specs.Causes.{Rose}
use Rattle.c2_base.specs.declared.media.MediaError.{MediaError}
use Rattle.c2_base.specs.declared.media.MediaError.TheVariants.{ReadFault, NoMemory}

-- a fault comes where the source's count rose; other errors leave the count
abbrev pub IsJpegCaused : ℕ → ℕ → MediaError → Type 0
IsJpegCaused before now ReadFault = Rose before now
IsJpegCaused before now e = now ≡ before

-- this holds, unless the source failed or out of memory is answered
abbrev pub OrJpegFault : MediaError → Type 0 → Type 0
OrJpegFault ReadFault claim = ⊤
OrJpegFault NoMemory claim = ⊤
OrJpegFault e claim = claim
