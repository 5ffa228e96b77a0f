-- A run of packets as it is collected, for private clauses.
use Rattle.std.specs.Prelude.{◌≡◌, ◌≤◌, ◌<◌, ◌+◌, ◌-◌, ℕ, ⊤, Bool, true, false, ◌&&◌, nat_le, ◌==◌, List, ◌++◌, length, take, Option, Some, None}
use Rattle.std.specs.Str.{bytes_eq}
use Rattle.c2_base.specs.declared.limits.TheConstants.{MAX_STORE_LEN}
use Rattle.c2_base.specs.declared.media.MediaError.{MediaError}
use Rattle.c2_base.specs.declared.media.MediaError.TheVariants.{BadPacket, TwoStores, StoreTooLarge, NoMemory}
use Rattle.c2_spec.specs.Jpeg.Packets.{Packet, stated_length}
use Rattle.c2_spec.specs.Jpeg.Store.{first_packet_fault}
use Rattle.c2_jpegseg_segments.specs.Causes.{OrJpegFault}
use Rattle.c2_jpegseg_segments.specs.declared.run.Run.{Run}

-- A run as plain values: where its packets begin and end in the file, their number and header, how many there are, how long the
-- store will be, and its bytes so far.
pub record Collected : Type 0 where
  pub start : ℕ
  pub end : ℕ
  pub en : ℕ
  pub header : List ℕ
  pub count : ℕ
  pub total : ℕ
  pub store : List ℕ

-- a run without where it lies in memory
abbrev pub collected : Run → Collected
collected r = record { start = r.start; end = r.end; en = r.en; header = take r.header_len r.store.items; count = r.count; total = r.total; store = r.store.items }

-- the same of the run, if one began
abbrev pub all_collected : Option Run → Option Collected
all_collected None = None
all_collected (Some r) = Some (collected r)

-- A run of a first packet alone.
pub record IsStarted (at end : ℕ) (first : Packet) (run : Collected) : Type 0 where
  pub from : run.start ≡ at
  pub to : run.end ≡ end
  pub en : run.en ≡ first.en
  pub header : run.header ≡ first.header
  pub count : run.count ≡ 1
  pub total : run.total ≡ stated_length first.header
  pub bytes : run.store ≡ first.header ++ first.body
  pub fits : length run.store ≤ run.total
  pub small : run.total ≤ MAX_STORE_LEN

-- how many bytes of the store are missing
abbrev pub missing : Collected → ℕ
missing r = r.total - length r.store

-- the packet goes on with the run: its number and header, the next place, and no more bytes than are missing
unfoldable pub goes_on : Collected → Packet → Bool
goes_on r p =
    (p.en == r.en) && bytes_eq p.header r.header && (p.z == r.count + 1) && nat_le 1 (length p.body)
    && nat_le (length p.body) (missing r)

-- The run with the next packet.
pub record IsContinued (end : ℕ) (next : Packet) (run new : Collected) : Type 0 where
  pub from : new.start ≡ run.start
  pub to : new.end ≡ end
  pub en : new.en ≡ run.en
  pub header : new.header ≡ run.header
  pub count : new.count ≡ run.count + 1
  pub total : new.total ≡ run.total
  pub bytes : new.store ≡ run.store ++ next.body

-- the first test that this packet fails as the first of a store, where it stands at a place
abbrev pub FailsFirst : ℕ → Packet → MediaError → Type 0
FailsFirst at first e = OrJpegFault e (first_packet_fault at first ≡ Some e)

-- the run's last packet ends at a place or before it
abbrev pub EndsBy : ℕ → Option Run → Type 0
EndsBy place None = ⊤
EndsBy place (Some r) = r.end ≤ place

-- the faults of a segment at a place, where the bytes aren't known
abbrev pub IsSegmentError : ℕ → MediaError → Type 0
IsSegmentError at (BadPacket p) = p ≡ at
IsSegmentError at (TwoStores p) = p ≡ at
IsSegmentError at (StoreTooLarge n) = MAX_STORE_LEN < n
IsSegmentError at NoMemory = ⊤
IsSegmentError at _ = ⊥

-- A segment from `at` to `end` is taken into a run, which it may begin, or the run stays.
abbrev pub RunGoes : Bool → ℕ → ℕ → Option Collected → Option Collected → Type 0
RunGoes false at end run new = new ≡ run
RunGoes true at end None (Some new) = (new.start ≡ at) × (new.end ≡ end)
RunGoes true at end (Some run) (Some new) = (new.start ≡ run.start) × (new.end ≡ end) × (length run.store < run.total)
RunGoes true at end run None = ⊥
