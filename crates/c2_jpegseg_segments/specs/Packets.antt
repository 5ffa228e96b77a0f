-- What the packets of the code stand for, for private clauses.
use Rattle.std.specs.Prelude.{◌≡◌, ℕ, ⊤, true, false, List, Option, Some, None, length, take}
use Rattle.std.specs.Int.{w32, from_be_bytes}
use Rattle.c2_spec.specs.Jpeg.Segments.{Segment}
use Rattle.c2_spec.specs.Jpeg.Packets as jpeg
use Rattle.c2_jpegseg_segments.specs.Segments.{segment_of}
use Rattle.c2_jpegseg_segments.specs.declared.marker.Extent.{Extent}
use Rattle.c2_jpegseg_segments.specs.declared.packet.Packet.{Packet}

-- a packet without where it lies in memory
abbrev pub view : Packet → jpeg.Packet
view p = record { en = p.en; z = p.z; header = p.header.now; body = p.body.now }

-- a segment without fill bytes
abbrev pub bare : ℕ → List ℕ → Segment
bare marker payload = record { fill = 0; marker = marker; payload = payload }

-- a whole header: 16 bytes where LBox is 1, otherwise 8
abbrev pub IsHeader : List ℕ → Type 0
IsHeader header = length header ≡ jpeg.packet_header_len (from_be_bytes w32 (take 4 header))

-- The packet that was read is the segment's, if it is one.
abbrev pub Reads : Segment → Option Packet → Type 0
Reads s None = jpeg.is_packet s ≡ false
Reads s (Some p) = (jpeg.is_packet s ≡ true) × (view p ≡ jpeg.packet_in s) × IsHeader p.header.now

-- a packet that was read has a whole header
abbrev pub HasHeader : Option Packet → Type 0
HasHeader None = ⊤
HasHeader (Some p) = IsHeader p.header.now

-- the packet that the segment of an extent is, if it is one
abbrev pub PacketOf : List ℕ → Extent → Option Packet → Type 0
PacketOf file e packet = Reads (segment_of 0 file e) packet
