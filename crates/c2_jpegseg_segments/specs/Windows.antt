-- What a window knows of its source, for private clauses.
use Rattle.std.specs.Prelude.{◌≡◌, ℕ, ◌+◌, ◌-◌, ◌≤◌, List, Option, Some, length, take, drop, slice_index, vec_len}
use Rattle.std.specs.Option.{ForSome}
use Rattle.c2_base.specs.declared.limits.TheConstants.{PIECE_LEN}
use Rattle.c2_spec.specs.declared.markers.TheConstants.{APP11}
use Rattle.c2_jpegseg_segments.specs.declared.marker.Extent.{Extent}
use Rattle.c2_jpegseg_segments.specs.declared.packet.Packet.{Packet}
use Rattle.c2_jpegseg_segments.specs.declared.window.Window.{Window}
use Rattle.c2_jpegseg_segments.specs.Packets.{PacketOf}

-- the window's bytes are the source's, where they are known
pub record Shows (len : ℕ) (known : Option (List ℕ)) (w : Window) : Type 0 where
  pub size : w.size ≡ len
  pub room : vec_len w.bytes ≡ PIECE_LEN
  pub in_room : w.used ≤ PIECE_LEN
  pub inside : w.from + w.used ≤ len
  pub bytes : ForSome known (λ file. take w.used w.bytes.items ≡ take w.used (drop w.from file))

-- the window has these bytes
pub record Covers (w : Window) (pos count : ℕ) : Type 0 where
  pub in_bytes : w.used ≤ vec_len w.bytes
  pub from : w.from ≤ pos
  pub to : pos + count ≤ w.from + w.used

-- the window has a segment's payload, where that may be a packet
abbrev pub CoversPacket : Window → Extent → Type 0
CoversPacket w e = e.marker ≡ APP11 → Covers w e.body (e.end - e.body)

-- the packet is that of the segment, in any file that the window shows
abbrev pub ShowsPacket : Window → Extent → Option Packet → Type 0
ShowsPacket w e packet = (file : List ℕ) → Shows (length file) (Some file) w → PacketOf file e packet

-- this is the byte of the file at a place, where the file is known
abbrev pub IsByteAt : Option (List ℕ) → ℕ → ℕ → Type 0
IsByteAt known pos byte = ForSome known (λ file. byte ≡ slice_index file pos)

-- the first `count` of these bytes are those of the file from a place on, where the file is known
abbrev pub FilledFrom : Option (List ℕ) → ℕ → ℕ → List ℕ → Type 0
FilledFrom known pos count bytes = ForSome known (λ file. take count bytes ≡ take count (drop pos file))
