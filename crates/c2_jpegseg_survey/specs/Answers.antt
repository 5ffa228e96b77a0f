-- What a walk and a search return, by cases, for private clauses.
use Rattle.std.specs.Prelude.{◌≡◌, ℕ, ◌<◌, ⊤, List, Option, Some, None, Result, Ok, Err, OnOk, IfOk, IfErr, IfSome}
use Rattle.std.specs.Option.{ForSome}
use Rattle.c2_base.specs.declared.limits.TheConstants.{MAX_STORE_LEN}
use Rattle.c2_base.specs.declared.media.Found.{Found}
use Rattle.c2_base.specs.declared.media.MediaError.{MediaError}
use Rattle.c2_base.specs.declared.media.MediaError.TheVariants.{Truncated, BadMarker, BadSegment, BadPacket, TwoStores, StoreTooLarge, ReadFault, NoMemory}
use Rattle.c2_spec.specs.Jpeg.Store.{EndsWithin, HasSmallStore, HasJpegStore, HasNoJpegStore, SegmentFault, FirstJpegFault}
use Rattle.c2_jpegseg_segments.specs.Causes.{IsJpegCaused, OrJpegFault}

-- what the walk over the segments returns
abbrev pub IsWalkedOr : List ℕ → Result (Option Found) MediaError → Type 0
IsWalkedOr file (Ok None) = HasNoJpegStore file
IsWalkedOr file (Ok (Some f)) = HasJpegStore file f.start f.length f.store
IsWalkedOr file (Err e) = OrJpegFault e (SegmentFault file e)

-- what the whole search returns
abbrev pub IsFoundOr : List ℕ → Result (Option Found) MediaError → Type 0
IsFoundOr file (Ok None) = HasNoJpegStore file
IsFoundOr file (Ok (Some f)) = HasJpegStore file f.start f.length f.store
IsFoundOr file (Err e) = OrJpegFault e (FirstJpegFault file e)

-- the errors of the walk over a file of this size, where its bytes aren't known
abbrev pub IsWalkError : ℕ → MediaError → Type 0
IsWalkError size (Truncated n) = n ≡ size
IsWalkError size (BadMarker p) = p < size
IsWalkError size (BadSegment p) = p < size
IsWalkError size (BadPacket p) = p < size
IsWalkError size (TwoStores p) = p < size
IsWalkError size (StoreTooLarge n) = MAX_STORE_LEN < n
IsWalkError size ReadFault = ⊤
IsWalkError size NoMemory = ⊤
IsWalkError size _ = ⊥

-- What a walk over the segments of a source of `size` bytes returned, whose count of faults went from `before` to `now`.
pub record IsWalk (known : Option (List ℕ)) (size before now : ℕ) (result : Result (Option Found) MediaError) : Type 0 where
  -- without an error the count stays
  pub count : OnOk result (now ≡ before)
  -- an error has the cause that it says
  pub cause : IfErr result (IsJpegCaused before now)
  -- the range of a store ends in the source
  pub within : IfOk result (λ found. IfSome found (EndsWithin size))
  -- a store isn't too large
  pub store : IfOk result (λ found. IfSome found HasSmallStore)
  -- an error says no more than can be said of a file of this size
  pub error : IfErr result (IsWalkError size)
  -- where the bytes are known, this is their store, or the first test that fails
  pub walked : ForSome known (λ file. IsWalkedOr file result)
