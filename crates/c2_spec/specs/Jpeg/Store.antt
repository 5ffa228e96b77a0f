-- The C2PA store of a JPEG file (C2PA Technical Specification 2.x, embedding in JPEG; ITU-T T.81; ISO/IEC 18477-3), and the
-- first test that fails where there is none.
--
-- Both are said of the file's segments as a list. Nothing here reads, keeps or stops.
use Rattle.std.specs.Prelude.{◌≡◌, ◌≢◌, ℕ, ◌+◌, ◌<◌, ◌≤◌, ⊤, true, false, List, [], ◌∷◌, ◌++◌, length, take, Option, Some, None, nat_lt, if◌then◌else◌}
use Rattle.std.specs.List.{flat_map, AllByRecursion}
use Rattle.c2_base.specs.declared.limits.TheConstants.{MAX_STORE_LEN, FILE_LEN_LIMIT}
use Rattle.c2_base.specs.declared.media.Found.{Found}
use Rattle.c2_base.specs.declared.media.MediaError.{MediaError}
use Rattle.c2_base.specs.declared.media.MediaError.TheVariants.{NotMedia, FileTooLarge, Truncated, BadMarker, BadSegment, BadPacket, TwoStores, BadBox, BadProvenanceBox, StoreTooLarge, TooManyBoxes}
use Rattle.c2_spec.specs.Located.{Located, refused, absent, here, refusal}
use Rattle.c2_spec.specs.Jpeg.Segments.{Segment, IsSegment, EndsSegments, HasSegments, MarkerFault, segment_bytes, start_of_image, place_after}
use Rattle.c2_spec.specs.Jpeg.Packets.{Packet, IsPacketRun, packet_in, stated_length, is_store_start, is_stray}

-- no segment begins a store
abbrev pub NoneBegins : List Segment → Type 0
NoneBegins segments = AllByRecursion (λ s. is_store_start s ≡ false) segments

-- Among these segments neighbouring ones hold this store, from `start` on in `len` bytes of the file: they are one run of
-- packets of the length that their header states, and no other segment begins a store or belongs to this one.
pub record HoldsStore (segments : List Segment) (start len : ℕ) (store : List ℕ) : Type 0 where
  pub before : List Segment
  pub first : Segment
  pub others : List Segment
  pub after : List Segment
  pub split : segments ≡ before ++ (first ∷ others ++ after)
  pub starts : is_store_start first ≡ true
  pub is_run : IsPacketRun first others store
  pub whole : length store ≡ stated_length (packet_in first).header
  pub small : length store ≤ MAX_STORE_LEN
  pub none_before : NoneBegins before
  pub none_after : NoneBegins after
  pub no_stray : AllByRecursion (λ s. is_stray (packet_in first).en s ≡ false) after
  pub from : start ≡ place_after before
  pub for : len ≡ length (flat_map segment_bytes (first ∷ others))

-- The file has this store in this range.
pub record HasJpegStore (file : List ℕ) (start len : ℕ) (store : List ℕ) : Type 0 where
  pub fits : length file < FILE_LEN_LIMIT
  pub segments : List Segment
  pub rest : List ℕ
  pub begins : HasSegments file segments rest
  pub ends : EndsSegments rest
  pub holds : HoldsStore segments start len store

-- No segment of the file begins a store.
pub record HasNoJpegStore (file : List ℕ) : Type 0 where
  pub fits : length file < FILE_LEN_LIMIT
  pub segments : List Segment
  pub rest : List ℕ
  pub begins : HasSegments file segments rest
  pub ends : EndsSegments rest
  pub none : NoneBegins segments

-- ---- the first fault

-- The tests on the first packet of a store, at p in the file: a length that the header doesn't fit into (which an LBox of 0 and
-- of 2 to 7 is, too), a store that is too large, a body that is too long.
unfoldable pub first_packet_fault : ℕ → Packet → Option MediaError
first_packet_fault p first =
    if nat_lt (stated_length first.header) (length first.header) then Some (BadPacket p)
    else if nat_lt MAX_STORE_LEN (stated_length first.header) then Some (StoreTooLarge (stated_length first.header))
    else if nat_lt (stated_length first.header) (length first.header + length first.body) then Some (BadPacket p)
    else None

-- These segments end in the packets of a store that isn't whole: one run, of fewer bytes than the header states. A store is
-- said to be open after them.
pub record HoldsPart (segments : List Segment) (first : Segment) (others : List Segment) : Type 0 where
  pub before : List Segment
  pub split : segments ≡ before ++ (first ∷ others)
  pub starts : is_store_start first ≡ true
  pub part : List ℕ
  pub is_run : IsPacketRun first others part
  pub missing : length part < stated_length (packet_in first).header
  pub small : stated_length (packet_in first).header ≤ MAX_STORE_LEN
  pub none_before : NoneBegins before

-- A next packet of this open store: with it the packets are one run, of no more bytes than the header states.
pub record IsNextPacket (first : Segment) (others : List Segment) (s : Segment) : Type 0 where
  pub part : List ℕ
  pub is_run : IsPacketRun first (others ++ s ∷ []) part
  pub fits : length part ≤ stated_length (packet_in first).header

-- Segments without a fault: no store begins among them, or one is open after them, or they hold one.
pub data HaveNoFault (segments : List Segment) : Type 0 where
  none_begins : NoneBegins segments → HaveNoFault segments
  open_after : (first : Segment) (others : List Segment) → HoldsPart segments first others → HaveNoFault segments
  one_held : (start len : ℕ) (store : List ℕ) → HoldsStore segments start len store → HaveNoFault segments

-- The fault of a segment after segments without one: a store begins and fails its own tests; the open store isn't gone on with
-- (a second first packet doesn't either, so it is BadPacket here); after a whole store another begins, or a packet of its number
-- belongs to nothing.
pub data PacketFault (before : List Segment) (s : Segment) : MediaError → Type 0 where
  bad_first : (fault : MediaError) → NoneBegins before → is_store_start s ≡ true
      → first_packet_fault (place_after before) (packet_in s) ≡ Some fault → PacketFault before s fault
  not_next : (first : Segment) (others : List Segment) → HoldsPart before first others
      → (IsNextPacket first others s → ⊥) → PacketFault before s (BadPacket (place_after before))
  second_store : (start len : ℕ) (store : List ℕ) → HoldsStore before start len store
      → is_store_start s ≡ true → PacketFault before s (TwoStores (place_after before))
  stray_packet : (start len : ℕ) (store : List ℕ) (held : HoldsStore before start len store)
      → is_stray (packet_in held.first).en s ≡ true → PacketFault before s (BadPacket (place_after before))

-- What fails after segments without a fault: the next marker and its length, the segment, or the end, where a store is open.
pub data FailsAfter (before : List Segment) (rest : List ℕ) (fault : MediaError) : Type 0 where
  at_marker : MarkerFault (place_after before) rest fault → FailsAfter before rest fault
  at_segment : (s : Segment) (more : List ℕ) → IsSegment s → rest ≡ segment_bytes s ++ more
      → PacketFault before s fault → FailsAfter before rest fault
  at_end : (first : Segment) (others : List Segment) → EndsSegments rest → HoldsPart before first others
      → fault ≡ BadPacket (place_after before) → FailsAfter before rest fault

-- The first fault of the file's segments: those before it have none.
pub record SegmentFault (file : List ℕ) (fault : MediaError) : Type 0 where
  pub before : List Segment
  pub rest : List ℕ
  pub begins : HasSegments file before rest
  pub passing : HaveNoFault before
  pub fails : FailsAfter before rest fault

-- The first fault of the file.
pub data FirstJpegFault (file : List ℕ) : MediaError → Type 0 where
  too_large : FILE_LEN_LIMIT ≤ length file → FirstJpegFault file (FileTooLarge (length file))
  not_media : length file < FILE_LEN_LIMIT → take 2 file ≢ start_of_image → FirstJpegFault file NotMedia
  segment : (fault : MediaError) → length file < FILE_LEN_LIMIT → SegmentFault file fault → FirstJpegFault file fault

-- What a JPEG file comes to.
abbrev pub IsLocated : List ℕ → Located → Type 0
IsLocated file (refused reason n) = (e : MediaError) × FirstJpegFault file e × (refusal e ≡ Some (refused reason n))
IsLocated file absent = HasNoJpegStore file
IsLocated file (here start len store) = HasJpegStore file start len store

-- the range of a store ends within a file of `len` bytes
abbrev pub EndsWithin : ℕ → Found → Type 0
EndsWithin len f = f.start + f.length ≤ len

-- the store has no more bytes than one may have
abbrev pub HasSmallStore : Found → Type 0
HasSmallStore f = length f.store ≤ MAX_STORE_LEN

-- What a refusal can say of a file of `len` bytes whose bytes aren't known: its length, a place in it, or a box length above the
-- largest store's. The refusals of other formats don't come.
abbrev pub IsJpegRefusal : ℕ → MediaError → Type 0
IsJpegRefusal len (Truncated n) = n ≡ len
IsJpegRefusal len (BadMarker p) = p < len
IsJpegRefusal len (BadSegment p) = p < len
IsJpegRefusal len (BadPacket p) = p < len
IsJpegRefusal len (TwoStores p) = p < len
IsJpegRefusal len (StoreTooLarge n) = MAX_STORE_LEN < n
IsJpegRefusal len (BadBox p) = ⊥
IsJpegRefusal len (BadProvenanceBox p) = ⊥
IsJpegRefusal len TooManyBoxes = ⊥
IsJpegRefusal len e = ⊤
