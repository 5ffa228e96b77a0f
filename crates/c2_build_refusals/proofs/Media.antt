-- What the error of a build says that an error of a walk over a media file is.
use Rattle.std.proofs.Common.{ℕ}
use Rattle.c2_base.specs.declared.media.MediaError.{MediaError}
use Rattle.c2_base.specs.declared.media.MediaError.TheVariants as media
use Rattle.c2_bmff_boxes.specs.Causes.{IsBmffCaused, OrBmffFault}
use Rattle.c2_build_refusals.specs.Kinds.{WithoutFault, kind_of, IsReadKind, Effects, media_error_of}

-- the error of a build that a walk's error becomes says what is claimed beside a fault
pub media_said : (claim : Type 0) (e : MediaError) → OrBmffFault e claim → WithoutFault (media_error_of e) claim
media_said claim media.NotMedia h = h
media_said claim (media.FileTooLarge n) h = h
media_said claim (media.Truncated n) h = h
media_said claim (media.BadMarker n) h = h
media_said claim (media.BadSegment n) h = h
media_said claim (media.BadPacket n) h = h
media_said claim (media.TwoStores n) h = h
media_said claim (media.BadBox n) h = h
media_said claim (media.BadProvenanceBox n) h = h
media_said claim (media.StoreTooLarge n) h = h
media_said claim media.TooManyBoxes h = h
media_said claim media.ReadFault h = tt
media_said claim media.NoMemory h = tt

-- the error of a build that a container's error becomes has its cause
pub media_caused : (does : Effects) (before now : ℕ) (e : MediaError) → IsBmffCaused before now e
    → IsReadKind does before now (kind_of (media_error_of e))
media_caused does before now media.NotMedia h = h
media_caused does before now (media.FileTooLarge n) h = h
media_caused does before now (media.Truncated n) h = h
media_caused does before now (media.BadMarker n) h = h
media_caused does before now (media.BadSegment n) h = h
media_caused does before now (media.BadPacket n) h = h
media_caused does before now (media.TwoStores n) h = h
media_caused does before now (media.BadBox n) h = h
media_caused does before now (media.BadProvenanceBox n) h = h
media_caused does before now (media.StoreTooLarge n) h = h
media_caused does before now media.TooManyBoxes h = h
media_caused does before now media.ReadFault h = h
media_caused does before now media.NoMemory h = tt
