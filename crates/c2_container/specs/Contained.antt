-- What an answer says of a media file as a container of a manifest store.
use Rattle.std.specs.Prelude.{◌≡◌, ℕ, ◌+◌, ◌-◌, ◌*◌, ◌<◌, ◌≤◌, ⊤, true, List, All, length, Option, IfSome, IfOk, IsSome, Ok, Err}
use Rattle.std.specs.declared.result.Result.{Result}
use Rattle.c2_base.specs.Causes.{Rose}
use Rattle.c2_base.specs.declared.limits.TheConstants.{FILE_LEN_LIMIT, MAX_ROOT_BOXES, MAX_STORE_LEN}
use Rattle.c2_base.specs.declared.media.Found.{Found}
use Rattle.c2_base.specs.declared.media.MediaError.{MediaError}
use Rattle.c2_base.specs.declared.media.MediaError.TheVariants.{NotMedia, FileTooLarge, Truncated, BadMarker, BadSegment, BadPacket, TwoStores, BadBox, BadProvenanceBox, StoreTooLarge, TooManyBoxes, ReadFault, NoMemory}
use Rattle.c2_spec.specs.Container.{IsLocated, begins_jpeg, is_bmff}
use Rattle.c2_spec.specs.Located.{Located, refusal, as_located}
use Rattle.c2_bmff_boxes.specs.Roots.{AreRootsOf, FillSource}
use Rattle.c2_jpegseg_survey.specs.Surveys.{HasPacketPoint, less_found, range_of}
use Rattle.c2_jpegseg_survey.specs.declared.surveying.PacketPoint.{PacketPoint}
use Rattle.c2_bmff_rows.specs.Rows.{IsBoxWithin}
use Rattle.c2_container.specs.declared.types.Contained.{Contained}
use Rattle.c2_container.specs.declared.types.Container.{Container}
use Rattle.c2_container.specs.declared.types.Container.TheVariants.{Jpeg, Bmff}

-- what an answer says of the file: nothing where the source failed or memory ran out
abbrev pub said_of : Result Contained MediaError → Option Located
said_of (Ok c) = as_located (Ok c.found)
said_of (Err e) = refusal e

-- the file's container is this: of a BMFF file its root boxes
abbrev pub IsContainerOf : List ℕ → Container → Type 0
IsContainerOf file Jpeg = begins_jpeg file ≡ true
IsContainerOf file (Bmff roots) = (is_bmff file ≡ true) × AreRootsOf file roots

-- what is as_located is what the file is as a container, and nothing else is; the container is its own, and other packets go there in what is left of a
-- JPEG file without its store
pub record IsSaid (file : List ℕ) (r : Result Contained MediaError) : Type 0 where
  pub located : IfSome (said_of r) (IsLocated file)
  pub only : (what : Located) → IsLocated file what → IfSome (said_of r) (λ s. s ≡ what)
  pub container : IfOk r (λ c. IsContainerOf file c.container)
  pub packets : IfOk r (λ c. IfSome c.packets (HasPacketPoint (less_found c.found file)))

-- the root boxes of a container end inside a source of this length
abbrev pub HasRootsInside : ℕ → Container → Type 0
HasRootsInside len Jpeg = ⊤
HasRootsInside len (Bmff roots) = All (IsBoxWithin len) roots

-- the root boxes of a container follow one another from the beginning of a source of this length to its end
abbrev pub FillsSource : ℕ → Container → Type 0
FillsSource len Jpeg = ⊤
FillsSource len (Bmff roots) = FillSource len 0 roots

-- of a JPEG file it is told where other packets go
abbrev pub TellsPackets : Container → Option PacketPoint → Type 0
TellsPackets Jpeg packets = IsSome packets
TellsPackets (Bmff roots) packets = ⊤

-- other packets go to a place in what is left of a source of this length, whose own length is told
pub record IsPointIn (len : ℕ) (found : Option Found) (p : PacketPoint) : Type 0 where
  pub size : p.size ≡ len - (range_of found).length
  pub inside : p.start ≤ p.size

-- the embedded range and the root boxes lie inside a file of this length, which isn't too large; these boxes fill it; the store is no longer
-- than one may be; and the place for other packets lies in what is left
pub record IsWithin (len : ℕ) (c : Contained) : Type 0 where
  pub small : len < FILE_LEN_LIMIT
  pub roots : HasRootsInside len c.container
  pub fill : FillsSource len c.container
  pub range : IfSome c.found (λ f. f.start + f.length ≤ len)
  pub store : IfSome c.found (λ f. length f.store ≤ MAX_STORE_LEN)
  pub tells : TellsPackets c.container c.packets
  pub packets : IfSome c.packets (IsPointIn len c.found)

-- What a refusal says of a source of `len` bytes, also of one whose bytes are unknown: its number is the length, a place in the source, or the
-- length of a store above the largest. A source that is too long is refused for that alone.
abbrev pub IsRefusalOf : ℕ → MediaError → Type 0
IsRefusalOf len (FileTooLarge n) = (n ≡ len) × (FILE_LEN_LIMIT ≤ len)
IsRefusalOf len NotMedia = len < FILE_LEN_LIMIT
IsRefusalOf len (Truncated n) = (n ≡ len) × (len < FILE_LEN_LIMIT)
IsRefusalOf len (BadMarker p) = (p < len) × (len < FILE_LEN_LIMIT)
IsRefusalOf len (BadSegment p) = (p < len) × (len < FILE_LEN_LIMIT)
IsRefusalOf len (BadPacket p) = (p < len) × (len < FILE_LEN_LIMIT)
IsRefusalOf len (TwoStores p) = (p < len) × (len < FILE_LEN_LIMIT)
IsRefusalOf len (BadBox p) = (p < len) × (len < FILE_LEN_LIMIT)
IsRefusalOf len (BadProvenanceBox p) = (p < len) × (len < FILE_LEN_LIMIT)
IsRefusalOf len (StoreTooLarge n) = (MAX_STORE_LEN < n) × (len < FILE_LEN_LIMIT)
IsRefusalOf len TooManyBoxes = (8 * MAX_ROOT_BOXES < len) × (len < FILE_LEN_LIMIT)
IsRefusalOf len ReadFault = ⊥
IsRefusalOf len NoMemory = ⊥

-- the cause of an error, where the source has `len` bytes and its count of faults went from `before` to `now`: a fault comes where the count
-- rose, and a refusal leaves it
abbrev pub IsLocateCause : ℕ → ℕ → ℕ → MediaError → Type 0
IsLocateCause len before now ReadFault = Rose before now
IsLocateCause len before now NoMemory = ⊤
IsLocateCause len before now e = IsRefusalOf len e × (now ≡ before)
