-- What an error of either container's reader says of the file.
use Rattle.std.proofs.Common.{◌≡◌, ℕ, ◌<◌, ◌∙◌, subst, arith}
use Rattle.c2_base.specs.Causes.{Rose}
use Rattle.c2_base.specs.declared.limits.TheConstants.{FILE_LEN_LIMIT}
use Rattle.c2_base.specs.declared.media.MediaError.{MediaError}
use Rattle.c2_base.specs.declared.media.MediaError.TheVariants as media
use Rattle.c2_bmff_boxes.specs.Causes.{IsRootsCause, IsStoreCause}
use Rattle.c2_jpegseg_survey.specs.Surveys.{IsSurveyCause}
use Rattle.c2_spec.specs.Jpeg.Store.{IsJpegRefusal}
use Rattle.c2_container.specs.Contained.{IsLocateCause}

-- what an error of the search in a JPEG says of the file
pub jpeg_cause : (len before now : ℕ) (e : MediaError) → IsJpegRefusal len e → IsSurveyCause len before now e
    → IsLocateCause len before now e
jpeg_cause len before now media.NotMedia r h = h
jpeg_cause len before now (media.FileTooLarge n) r h = ((h.0, h.1), h.2)
jpeg_cause len before now (media.Truncated n) r h = ((r, h.0), h.1)
jpeg_cause len before now (media.BadMarker n) r h = ((r, h.0), h.1)
jpeg_cause len before now (media.BadSegment n) r h = ((r, h.0), h.1)
jpeg_cause len before now (media.BadPacket n) r h = ((r, h.0), h.1)
jpeg_cause len before now (media.TwoStores n) r h = ((r, h.0), h.1)
jpeg_cause len before now (media.BadBox n) r h = absurd r
jpeg_cause len before now (media.BadProvenanceBox n) r h = absurd r
jpeg_cause len before now (media.StoreTooLarge n) r h = ((r, h.0), h.1)
jpeg_cause len before now media.TooManyBoxes r h = absurd r
jpeg_cause len before now media.ReadFault r h = h
jpeg_cause len before now media.NoMemory r h = tt

-- what an error of a walk over root boxes says of the file
pub roots_cause : (len before now : ℕ) (e : MediaError) → IsRootsCause len before now e → IsLocateCause len before now e
roots_cause len before now media.NotMedia h = h
roots_cause len before now (media.FileTooLarge n) h = ((h.0, h.1), h.2)
roots_cause len before now (media.Truncated n) h = ((h.0, h.1), h.2)
roots_cause len before now (media.BadMarker n) h = absurd h
roots_cause len before now (media.BadSegment n) h = absurd h
roots_cause len before now (media.BadPacket n) h = absurd h
roots_cause len before now (media.TwoStores n) h = absurd h
roots_cause len before now (media.BadBox n) h = ((h.0, h.1), h.2)
roots_cause len before now (media.BadProvenanceBox n) h = absurd h
roots_cause len before now (media.StoreTooLarge n) h = absurd h
roots_cause len before now media.TooManyBoxes h = ((h.0, h.1), h.2)
roots_cause len before now media.ReadFault h = h
roots_cause len before now media.NoMemory h = tt

-- what an error of C2PA boxes says of the file, after the root boxes were read
pub store_cause : (len mid_len before mid now : ℕ) (e : MediaError) → mid_len ≡ len → mid ≡ before
    → len < FILE_LEN_LIMIT → IsStoreCause mid_len mid now e → IsLocateCause len before now e
store_cause len mid_len before mid now media.NotMedia same count small h = absurd h
store_cause len mid_len before mid now (media.FileTooLarge n) same count small h = absurd h
store_cause len mid_len before mid now (media.Truncated n) same count small h = absurd h
store_cause len mid_len before mid now (media.BadMarker n) same count small h = absurd h
store_cause len mid_len before mid now (media.BadSegment n) same count small h = absurd h
store_cause len mid_len before mid now (media.BadPacket n) same count small h = absurd h
store_cause len mid_len before mid now (media.TwoStores n) same count small h =
    ((omega (arith, h.0, same), small), h.1 ∙ count)
store_cause len mid_len before mid now (media.BadBox n) same count small h = absurd h
store_cause len mid_len before mid now (media.BadProvenanceBox n) same count small h =
    ((omega (arith, h.0, same), small), h.1 ∙ count)
store_cause len mid_len before mid now (media.StoreTooLarge n) same count small h = ((h.0, small), h.2 ∙ count)
store_cause len mid_len before mid now media.TooManyBoxes same count small h = absurd h
store_cause len mid_len before mid now media.ReadFault same count small h = subst (λ (n : ℕ). Rose n now) count h
store_cause len mid_len before mid now media.NoMemory same count small h = tt
