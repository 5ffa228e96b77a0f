-- What the errors of a walk over the root boxes of a file say.
use Rattle.std.proofs.Common.{ℕ, List, sym, ◌∙◌, arith}
use Rattle.std.proofs.lemmas.Bool.{false≢true}
use Rattle.c2_base.specs.declared.media.MediaError.{MediaError}
use Rattle.c2_base.specs.declared.media.MediaError.TheVariants as media
use Rattle.c2_bmff_rows.specs.Faults.{FirstRootsFault, not_media, root, too_large}
use Rattle.c2_bmff_boxes.specs.Causes.{IsBmffCaused, IsRootsCause, OrBmffFault}
use Rattle.c2_spec.specs.Bmff.Boxes.{Box, HasRoots}
use Rattle.c2_bmff_binding_front.specs.Digests.{IsUnrefused}
use Rattle.c2_spec.proofs.BmffNoFault.{roots_or_fault}

-- none of the tests on a file fails of one that has root boxes
passes : (file : List ℕ) (roots : List Box) (e : MediaError) → HasRoots file roots → FirstRootsFault file e → ⊥
passes file roots _ has (too_large h) = omega (arith, has.fits, h)
passes file roots _ has (not_media h k) = false≢true (sym k ∙ has.begins)
passes file roots _ has (root fault h k f) = roots_or_fault file roots fault has f

-- an error of the walk over a file with root boxes is a fault, or want of memory
pub walk_unrefused : (file : List ℕ) (e : MediaError) → OrBmffFault e (FirstRootsFault file e) → IsUnrefused e file
walk_unrefused file media.NotMedia h roots has = passes file roots media.NotMedia has h
walk_unrefused file (media.FileTooLarge n) h roots has = passes file roots (media.FileTooLarge n) has h
walk_unrefused file (media.Truncated n) h roots has = passes file roots (media.Truncated n) has h
walk_unrefused file (media.BadMarker n) h roots has = passes file roots (media.BadMarker n) has h
walk_unrefused file (media.BadSegment n) h roots has = passes file roots (media.BadSegment n) has h
walk_unrefused file (media.BadPacket n) h roots has = passes file roots (media.BadPacket n) has h
walk_unrefused file (media.TwoStores n) h roots has = passes file roots (media.TwoStores n) has h
walk_unrefused file (media.BadBox n) h roots has = passes file roots (media.BadBox n) has h
walk_unrefused file (media.BadProvenanceBox n) h roots has = passes file roots (media.BadProvenanceBox n) has h
walk_unrefused file (media.StoreTooLarge n) h roots has = passes file roots (media.StoreTooLarge n) has h
walk_unrefused file media.TooManyBoxes h roots has = passes file roots media.TooManyBoxes has h
walk_unrefused file media.ReadFault h roots has = tt
walk_unrefused file media.NoMemory h roots has = tt

-- the cause of an error of the walk, less what it says of the length
pub walk_caused : (len before now : ℕ) (e : MediaError) → IsRootsCause len before now e → IsBmffCaused before now e
walk_caused len before now media.NotMedia h = h.1
walk_caused len before now (media.FileTooLarge n) h = h.2
walk_caused len before now (media.Truncated n) h = h.2
walk_caused len before now (media.BadMarker n) h = absurd h
walk_caused len before now (media.BadSegment n) h = absurd h
walk_caused len before now (media.BadPacket n) h = absurd h
walk_caused len before now (media.TwoStores n) h = absurd h
walk_caused len before now (media.BadBox n) h = h.2
walk_caused len before now (media.BadProvenanceBox n) h = absurd h
walk_caused len before now (media.StoreTooLarge n) h = absurd h
walk_caused len before now media.TooManyBoxes h = h.2
walk_caused len before now media.ReadFault h = h
walk_caused len before now media.NoMemory h = tt
