-- What holds of packets that are written into a file.
use Rattle.std.specs.Prelude.{◌≡◌, ℕ, ◌<◌, ◌^◌, false, List, ◌++◌, length}
use Rattle.std.specs.List.{AllByRecursion}
use Rattle.c2_spec.specs.Jpeg.Segments.{Segment, IsSegment, place_after}
use Rattle.c2_spec.specs.Jpeg.Store.{HoldsStore, NoneBegins}
use Rattle.c2_spec.specs.Jpeg.Writing.{IsPacketStore, packets_of, packets_bytes, segments_len, is_taken}

-- The packets are segments, hold the store between these others, and have as many bytes as was reckoned.
pub record PacketsHold (store : List ℕ) (en : ℕ) (before after : List Segment) : Type 0 where
  pub legal : AllByRecursion IsSegment (packets_of store en)
  pub holds : HoldsStore (before ++ (packets_of store en ++ after)) (place_after before) (length (packets_bytes store en)) store
  pub size : length (packets_bytes store en) ≡ segments_len (length store)

-- Packets hold their store wherever they stand among segments of which none begins a store and, behind them, none has their number.
abbrev pub PacketsHoldTheStore : Type 0
PacketsHoldTheStore = (store : List ℕ) (en : ℕ) (before after : List Segment) → IsPacketStore store → en < 2 ^ 16
    → NoneBegins before → NoneBegins after → is_taken after en ≡ false → PacketsHold store en before after
