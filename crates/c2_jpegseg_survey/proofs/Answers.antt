-- An answer names the one outcome of a file.
use Rattle.c2_jpegseg_segments.proofs.TheLaws.{each_file_is_located_once}
use Rattle.std.proofs.Common.{◌≡◌, ℕ, ◌<◌, List, length, Option, Some, None, IfSome, Result, Ok, Err, subst, ◌∙◌}
use Rattle.c2_base.specs.Causes.{Rose}
use Rattle.c2_base.specs.declared.limits.TheConstants.{FILE_LEN_LIMIT}
use Rattle.c2_base.specs.declared.media.Found.{Found}
use Rattle.c2_base.specs.declared.media.MediaError.{MediaError}
use Rattle.c2_base.specs.declared.media.MediaError.TheVariants.{FileTooLarge, Truncated, BadMarker, BadSegment, BadPacket, TwoStores, BadBox, BadProvenanceBox, StoreTooLarge, TooManyBoxes, ReadFault, NoMemory}
use Rattle.c2_spec.specs.Located.{Located, as_located}
use Rattle.c2_spec.specs.Jpeg.Store.{IsLocated, IsJpegRefusal, FirstJpegFault, SegmentFault, segment}
use Rattle.c2_jpegseg_survey.specs.Answers.{IsFoundOr, IsWalkedOr, IsWalkError}
use Rattle.c2_jpegseg_segments.specs.Causes.{IsJpegCaused}
use Rattle.c2_jpegseg_survey.specs.Surveys.{IsSurveyCause}
use Rattle.c2_jpegseg_segments.proofs.Outside.{or_outside-map, refusal_is}

-- what the search returns is what the file comes to
pub said_is : (file : List ℕ) (r : Result (Option Found) MediaError) → IsFoundOr file r
    → IfSome (as_located r) (IsLocated file)
said_is file (Ok None) h = h
said_is file (Ok (Some f)) h = h
said_is file (Err e) h = refusal_is file e h

-- what the file is as a JPEG is what the search returns
only_one : (file : List ℕ) (x : Option Located) → IfSome x (IsLocated file) → (what : Located)
    → IsLocated file what → IfSome x (λ s. s ≡ what)
only_one file None h what k = tt
only_one file (Some s) h what k = each_file_is_located_once file s what h k

-- what the file is as a JPEG is what the answer of the search says
pub only_said : (file : List ℕ) (r : Result (Option Found) MediaError) → IsFoundOr file r
    → (what : Located) → IsLocated file what → IfSome (as_located r) (λ s. s ≡ what)
only_said file r h = only_one file (as_located r) (said_is file r h)

-- the walk's answer is the search's
pub found_by_walk : (file : List ℕ) (r : Result (Option Found) MediaError) → length file < FILE_LEN_LIMIT
    → IsWalkedOr file r → IsFoundOr file r
found_by_walk file (Ok None) fits h = h
found_by_walk file (Ok (Some f)) fits h = h
found_by_walk file (Err e) fits h = or_outside-map e (SegmentFault file e) (FirstJpegFault file e) (segment e fits) h

-- the walk's errors are the search's
pub cause_of : (len before mid now : ℕ) (e : MediaError) → len < FILE_LEN_LIMIT → mid ≡ before → IsWalkError len e
    → IsJpegCaused mid now e → IsSurveyCause len before now e
cause_of len before mid now (FileTooLarge n) fits same error cause = absurd error
cause_of len before mid now ReadFault fits same error cause = subst (λ n. Rose n now) same cause
cause_of len before mid now NoMemory fits same error cause = cause ∙ same
cause_of len before mid now _ fits same error cause = (fits, cause ∙ same)

-- the walk's errors can be as_located of a file of this length
pub refusal_of : (len : ℕ) (e : MediaError) → IsWalkError len e → IsJpegRefusal len e
refusal_of len (Truncated n) h = h
refusal_of len (BadMarker p) h = h
refusal_of len (BadSegment p) h = h
refusal_of len (BadPacket p) h = h
refusal_of len (TwoStores p) h = h
refusal_of len (StoreTooLarge n) h = h
refusal_of len (BadBox p) h = h
refusal_of len (BadProvenanceBox p) h = h
refusal_of len TooManyBoxes h = h
refusal_of len _ h = tt
