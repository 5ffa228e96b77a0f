-- Errors that say nothing of the file.
use Rattle.std.proofs.Common.{ℕ, List, IfSome, refl}
use Rattle.c2_base.specs.declared.media.MediaError.{MediaError}
use Rattle.c2_base.specs.declared.media.MediaError.TheVariants.{NotMedia, FileTooLarge, Truncated, BadMarker, BadSegment, BadPacket, TwoStores, BadBox, BadProvenanceBox, StoreTooLarge, TooManyBoxes, ReadFault, NoMemory}
use Rattle.c2_spec.specs.Jpeg.Store.{IsLocated, FirstJpegFault}
use Rattle.c2_spec.specs.Located.{refusal}
use Rattle.c2_jpegseg_segments.specs.Causes.{OrJpegFault}

-- what an error says under one claim, it says under a weaker one
pub or_outside-map : (e : MediaError) (P Q : Type 0) → (P → Q) → OrJpegFault e P → OrJpegFault e Q
or_outside-map ReadFault P Q f h = tt
or_outside-map NoMemory P Q f h = tt
or_outside-map _ P Q f h = f h

-- an error that says something of the file is its first fault
pub refusal_is : (file : List ℕ) (e : MediaError) → OrJpegFault e (FirstJpegFault file e)
    → IfSome (refusal e) (IsLocated file)
refusal_is file NotMedia h = (NotMedia, h, refl)
refusal_is file (FileTooLarge n) h = (FileTooLarge n, h, refl)
refusal_is file (Truncated n) h = (Truncated n, h, refl)
refusal_is file (BadMarker at) h = (BadMarker at, h, refl)
refusal_is file (BadSegment at) h = (BadSegment at, h, refl)
refusal_is file (BadPacket at) h = (BadPacket at, h, refl)
refusal_is file (TwoStores at) h = (TwoStores at, h, refl)
refusal_is file (BadBox at) h = (BadBox at, h, refl)
refusal_is file (BadProvenanceBox at) h = (BadProvenanceBox at, h, refl)
refusal_is file (StoreTooLarge n) h = (StoreTooLarge n, h, refl)
refusal_is file TooManyBoxes h = (TooManyBoxes, h, refl)
refusal_is file ReadFault h = tt
refusal_is file NoMemory h = tt
