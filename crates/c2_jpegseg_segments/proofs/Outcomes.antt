-- What each case of a segment makes of the walk.
use Rattle.std.proofs.Common.{◌≡◌, ℕ, ◌<◌, ◌≤◌, Bool, ◌&&◌, true, false, List, length, Option, Some, None, sym, ap, ◌∙◌, subst}
use Rattle.c2_base.specs.declared.media.MediaError.{MediaError}
use Rattle.c2_base.specs.declared.media.MediaError.TheVariants.{BadPacket, TwoStores}
use Rattle.c2_spec.specs.Jpeg.Segments.{Segment, place_after}
use Rattle.c2_spec.specs.Jpeg.Packets.{packet_in, is_packet, is_store_start, is_stray, is_further_packet, is_first_packet}
use Rattle.c2_spec.specs.Jpeg.Store.{first_packet_fault, PacketFault, IsNextPacket, bad_first, not_next, second_store, stray_packet, SegmentFault}
use Rattle.c2_jpegseg_segments.specs.Runs.{Collected, goes_on}
use Rattle.c2_jpegseg_segments.specs.declared.marker.Extent.{Extent}
use Rattle.c2_jpegseg_segments.specs.declared.packet.Packet.{Packet as Held}
use Rattle.c2_jpegseg_segments.specs.Packets.{view, PacketOf}
use Rattle.c2_jpegseg_segments.specs.Segments.{segment_of, IsExtent}
use Rattle.c2_jpegseg_segments.specs.Runs.{IsStarted, IsContinued}
use Rattle.c2_jpegseg_segments.specs.Walks.{Walks, Stands}
use Rattle.c2_jpegseg_segments.proofs.PacketRuns.{no-packet-next, other-packet-next}
use Rattle.c2_jpegseg_segments.proofs.Steps.{started, continued, passed, part-in, store-in, end-place, advance, refuse}
use Rattle.c2_lemmas.proofs.Each.{each_push}

-- the tests of a segment by those of its packet
no_packet_start : (s : Segment) → is_packet s ≡ false → is_store_start s ≡ false
unfolding is_store_start
no_packet_start s h = ap (λ b. b && is_first_packet (packet_in s)) h

-- a packet begins a store as its test says
packet_start : (s : Segment) (b : Bool) → is_packet s ≡ true → is_first_packet (packet_in s) ≡ b → is_store_start s ≡ b
unfolding is_store_start
packet_start s b h e = ap (λ t. t && is_first_packet (packet_in s)) h ∙ e

-- what is no packet is no stray one
no_packet_stray : (en : ℕ) (s : Segment) → is_packet s ≡ false → is_stray en s ≡ false
unfolding is_stray
no_packet_stray en s h = ap (λ b. b && is_further_packet en (packet_in s)) h

-- a packet is stray as its test says
packet_stray : (en : ℕ) (s : Segment) (b : Bool) → is_packet s ≡ true → is_further_packet en (packet_in s) ≡ b
    → is_stray en s ≡ b
unfolding is_stray
packet_stray en s b h e = ap (λ t. t && is_further_packet en (packet_in s)) h ∙ e

-- no store began: the segment begins none
pass_by : (file : List ℕ) (at : ℕ) (e : Extent) (w : Walks file at None) (x : IsExtent file at e)
    → is_store_start (segment_of x.fill file e) ≡ false → Walks file e.end None
pass_by file at e w x other =
    advance file at None None e w x
    (each_push (λ t. is_store_start t ≡ false) w.segments (segment_of x.fill file e) w.state other)

-- it is no packet
begin_no_packet : (file : List ℕ) (at : ℕ) (e : Extent) (packet : Option Held) → Walks file at None → IsExtent file at e
    → PacketOf file e packet → packet ≡ None → Walks file e.end None
begin_no_packet file at e packet w x reads none =
    pass_by file at e w x (no_packet_start (segment_of x.fill file e) (subst (PacketOf file e) none reads))

-- it is a packet that begins no store
begin_other : (file : List ℕ) (at : ℕ) (e : Extent) (packet : Option Held) (p : Held) → Walks file at None
    → IsExtent file at e → PacketOf file e packet → packet ≡ Some p → is_first_packet (view p) ≡ false
    → Walks file e.end None
begin_other file at e packet p w x reads some other =
    let r : PacketOf file e (Some p) = subst (PacketOf file e) some reads in
    pass_by file at e w x (packet_start (segment_of x.fill file e) false r.0 (ap is_first_packet (sym r.1) ∙ other))

-- a store begins
begin_start : (file : List ℕ) (at : ℕ) (e : Extent) (packet : Option Held) (p : Held) (r : Collected)
    → Walks file at None → IsExtent file at e → PacketOf file e packet → packet ≡ Some p
    → is_first_packet (view p) ≡ true
    → first_packet_fault at (view p) ≡ None → IsStarted at e.end (view p) r → Walks file e.end (Some r)
begin_start file at e packet p r w x reads some first passes k =
    let h : PacketOf file e (Some p) = subst (PacketOf file e) some reads in
    let s : Segment = segment_of x.fill file e in
    let begins : is_store_start s ≡ true = packet_start s true h.0 (ap is_first_packet (sym h.1) ∙ first) in
    advance file at None (Some r) e w x
    (started w.segments s at e.end r w.state begins (subst (λ q. IsStarted at e.end q r) h.1 k) w.place (end-place file at e w.segments w.place x))

-- a store begins, and its first packet fails a test
begin_refused : (file : List ℕ) (at : ℕ) (e : Extent) (packet : Option Held) (p : Held) (fault : MediaError)
    → Walks file at None → IsExtent file at e → PacketOf file e packet → packet ≡ Some p
    → is_first_packet (view p) ≡ true
    → first_packet_fault at (view p) ≡ Some fault → SegmentFault file fault
begin_refused file at e packet p fault w x reads some first fails =
    let h : PacketOf file e (Some p) = subst (PacketOf file e) some reads in
    let s : Segment = segment_of x.fill file e in
    let test : first_packet_fault (place_after w.segments) (packet_in s) ≡ Some fault =
    ap (λ p. first_packet_fault p (packet_in s)) (sym w.place) ∙ ap (first_packet_fault at) (sym h.1) ∙ fails in
    refuse file at None e fault w x
    (bad_first fault w.state (packet_start s true h.0 (ap is_first_packet (sym h.1) ∙ first)) test)

-- a store waits for its next packet
refuse_next : (file : List ℕ) (at : ℕ) (e : Extent) (r : Collected) (w : Walks file at (Some r)) (x : IsExtent file at e)
    → length r.store < r.total
    → (IsNextPacket w.state.first w.state.others (segment_of x.fill file e) → ⊥) → SegmentFault file (BadPacket at)
refuse_next file at e r w x short other =
    refuse file at (Some r) e (BadPacket at) w x
    (subst (λ p. PacketFault w.segments (segment_of x.fill file e) (BadPacket p)) (sym w.place) (not_next _ _ (part-in w.segments r w.state short) other))

-- the segment is no packet
proceed_no_packet : (file : List ℕ) (at : ℕ) (e : Extent) (packet : Option Held) (r : Collected)
    → Walks file at (Some r) → IsExtent file at e → PacketOf file e packet → length r.store < r.total → packet ≡ None
    → SegmentFault file (BadPacket at)
proceed_no_packet file at e packet r w x reads short none =
    refuse_next file at e r w x short
    (no-packet-next w.segments (segment_of x.fill file e) r w.state (subst (PacketOf file e) none reads))

-- it is a packet that does not go on with the store
proceed_other : (file : List ℕ) (at : ℕ) (e : Extent) (packet : Option Held) (p : Held) (r : Collected)
    → Walks file at (Some r) → IsExtent file at e → PacketOf file e packet → length r.store < r.total → packet ≡ Some p
    → goes_on r (view p) ≡ false → SegmentFault file (BadPacket at)
proceed_other file at e packet p r w x reads short some other =
    let h : PacketOf file e (Some p) = subst (PacketOf file e) some reads in
    refuse_next file at e r w x short
    (other-packet-next w.segments (segment_of x.fill file e) r w.state (ap (goes_on r) (sym h.1) ∙ other))

-- it is the next packet
proceed_next : (file : List ℕ) (at : ℕ) (e : Extent) (packet : Option Held) (p : Held) (r new : Collected)
    → Walks file at (Some r) → IsExtent file at e → PacketOf file e packet → length r.store < r.total → packet ≡ Some p
    → goes_on r (view p) ≡ true → IsContinued e.end (view p) r new → Walks file e.end (Some new)
proceed_next file at e packet p r new w x reads short some next k =
    let h : PacketOf file e (Some p) = subst (PacketOf file e) some reads in
    let s : Segment = segment_of x.fill file e in
    let goes : goes_on r (packet_in s) ≡ true = ap (goes_on r) (sym h.1) ∙ next in
    advance file at (Some r) (Some new) e w x
    (continued w.segments s e.end r new w.state short h.0 goes (subst (λ q. IsContinued e.end q r new) h.1 k) (end-place file at e w.segments w.place x))

-- a store is whole
pass_no_packet : (file : List ℕ) (at : ℕ) (e : Extent) (packet : Option Held) (r : Collected) → Walks file at (Some r)
    → IsExtent file at e → PacketOf file e packet → r.total ≤ length r.store → packet ≡ None → Walks file e.end (Some r)
pass_no_packet file at e packet r w x reads whole none =
    let n : PacketOf file e None = subst (PacketOf file e) none reads in
    let s : Segment = segment_of x.fill file e in
    let start : is_store_start s ≡ false = no_packet_start s n in
    let stray : is_stray r.en s ≡ false = no_packet_stray r.en s n in
    advance file at (Some r) (Some r) e w x (passed w.segments s r w.state whole start stray)

-- another store begins
pass_second : (file : List ℕ) (at : ℕ) (e : Extent) (packet : Option Held) (p : Held) (r : Collected)
    → Walks file at (Some r) → IsExtent file at e → PacketOf file e packet → r.total ≤ length r.store → packet ≡ Some p
    → is_first_packet (view p) ≡ true
    → SegmentFault file (TwoStores at)
pass_second file at e packet p r w x reads whole some first =
    let h : PacketOf file e (Some p) = subst (PacketOf file e) some reads in
    let s : Segment = segment_of x.fill file e in
    refuse file at (Some r) e (TwoStores at) w x
    (subst (λ p. PacketFault w.segments s (TwoStores p)) (sym w.place)
    (second_store _ _ _ (store-in w.segments r w.state whole) (packet_start s true h.0 (ap is_first_packet (sym h.1) ∙ first))))

-- a packet of its number belongs to nothing
pass_stray : (file : List ℕ) (at : ℕ) (e : Extent) (packet : Option Held) (p : Held) (r : Collected)
    → Walks file at (Some r) → IsExtent file at e → PacketOf file e packet → r.total ≤ length r.store → packet ≡ Some p
    → is_first_packet (view p) ≡ false
    → is_further_packet r.en (view p) ≡ true → SegmentFault file (BadPacket at)
pass_stray file at e packet p r w x reads whole some first other =
    let h : PacketOf file e (Some p) = subst (PacketOf file e) some reads in
    let s : Segment = segment_of x.fill file e in
    refuse file at (Some r) e (BadPacket at) w x
    (subst (λ p. PacketFault w.segments s (BadPacket p)) (sym w.place)
    (stray_packet _ _ _ (store-in w.segments r w.state whole) (ap (λ en. is_stray en s) (sym w.state.en) ∙ packet_stray r.en s true h.0 (ap (is_further_packet r.en) (sym h.1) ∙ other))))

-- any other packet passes
pass_packet : (file : List ℕ) (at : ℕ) (e : Extent) (packet : Option Held) (p : Held) (r : Collected)
    → Walks file at (Some r) → IsExtent file at e → PacketOf file e packet → r.total ≤ length r.store → packet ≡ Some p
    → is_first_packet (view p) ≡ false
    → is_further_packet r.en (view p) ≡ false → Walks file e.end (Some r)
pass_packet file at e packet p r w x reads whole some first other =
    let h : PacketOf file e (Some p) = subst (PacketOf file e) some reads in
    let s : Segment = segment_of x.fill file e in
    let start : is_store_start s ≡ false = packet_start s false h.0 (ap is_first_packet (sym h.1) ∙ first) in
    let stray : is_stray r.en s ≡ false =
    packet_stray r.en s false h.0 (ap (is_further_packet r.en) (sym h.1) ∙ other) in
    advance file at (Some r) (Some r) e w x (passed w.segments s r w.state whole start stray)

-- The cases, where a segment stands.
pub begin-no_packet : (file : List ℕ) (at end : ℕ) (packet : Option Held) → Stands file at end packet None
    → packet ≡ None → Walks file end None
begin-no_packet file at end packet s none =
    subst (λ n. Walks file n None) s.ends (begin_no_packet file at s.extent packet s.walks s.stands s.packet_is none)

-- a packet that begins no store
pub begin-other : (file : List ℕ) (at end : ℕ) (packet : Option Held) (p : Held) → Stands file at end packet None
    → packet ≡ Some p → is_first_packet (view p) ≡ false → Walks file end None
begin-other file at end packet p s some other =
    subst (λ n. Walks file n None) s.ends
    (begin_other file at s.extent packet p s.walks s.stands s.packet_is some other)

-- a store begins
pub begin-start : (file : List ℕ) (at end : ℕ) (packet : Option Held) (p : Held) (r : Collected)
    → Stands file at end packet None → packet ≡ Some p → is_first_packet (view p) ≡ true
    → first_packet_fault at (view p) ≡ None
    → IsStarted at end (view p) r → Walks file end (Some r)
begin-start file at end packet p r s some first passes k =
    subst (λ n. Walks file n (Some r)) s.ends
    (begin_start file at s.extent packet p r s.walks s.stands s.packet_is some first passes (subst (λ n. IsStarted at n (view p) r) (sym s.ends) k))

-- its first packet fails a test
pub begin-refused : (file : List ℕ) (at end : ℕ) (packet : Option Held) (p : Held) (fault : MediaError)
    → Stands file at end packet None → packet ≡ Some p → is_first_packet (view p) ≡ true
    → first_packet_fault at (view p) ≡ Some fault → SegmentFault file fault
begin-refused file at end packet p fault s some first fails =
    begin_refused file at s.extent packet p fault s.walks s.stands s.packet_is some first fails

-- no packet where a store is open
pub proceed-no_packet : (file : List ℕ) (at end : ℕ) (packet : Option Held) (r : Collected)
    → Stands file at end packet (Some r) → length r.store < r.total → packet ≡ None → SegmentFault file (BadPacket at)
proceed-no_packet file at end packet r s short none =
    proceed_no_packet file at s.extent packet r s.walks s.stands s.packet_is short none

-- a packet that does not go on with it
pub proceed-other : (file : List ℕ) (at end : ℕ) (packet : Option Held) (p : Held) (r : Collected)
    → Stands file at end packet (Some r) → length r.store < r.total → packet ≡ Some p
    → goes_on r (view p) ≡ false → SegmentFault file (BadPacket at)
proceed-other file at end packet p r s short some other =
    proceed_other file at s.extent packet p r s.walks s.stands s.packet_is short some other

-- its next packet
pub proceed-next : (file : List ℕ) (at end : ℕ) (packet : Option Held) (p : Held) (r new : Collected)
    → Stands file at end packet (Some r) → length r.store < r.total → packet ≡ Some p
    → goes_on r (view p) ≡ true → IsContinued end (view p) r new → Walks file end (Some new)
proceed-next file at end packet p r new s short some next k =
    subst (λ n. Walks file n (Some new)) s.ends
    (proceed_next file at s.extent packet p r new s.walks s.stands s.packet_is short some next (subst (λ n. IsContinued n (view p) r new) (sym s.ends) k))

-- no packet after a whole store
pub pass-no_packet : (file : List ℕ) (at end : ℕ) (packet : Option Held) (r : Collected)
    → Stands file at end packet (Some r) → r.total ≤ length r.store → packet ≡ None → Walks file end (Some r)
pass-no_packet file at end packet r s whole none =
    subst (λ n. Walks file n (Some r)) s.ends
    (pass_no_packet file at s.extent packet r s.walks s.stands s.packet_is whole none)

-- another store begins after it
pub pass-second : (file : List ℕ) (at end : ℕ) (packet : Option Held) (p : Held) (r : Collected)
    → Stands file at end packet (Some r) → r.total ≤ length r.store → packet ≡ Some p → is_first_packet (view p) ≡ true
    → SegmentFault file (TwoStores at)
pass-second file at end packet p r s whole some first =
    pass_second file at s.extent packet p r s.walks s.stands s.packet_is whole some first

-- a packet of its number belongs to nothing
pub pass-stray : (file : List ℕ) (at end : ℕ) (packet : Option Held) (p : Held) (r : Collected)
    → Stands file at end packet (Some r) → r.total ≤ length r.store → packet ≡ Some p → is_first_packet (view p) ≡ false
    → is_further_packet r.en (view p) ≡ true → SegmentFault file (BadPacket at)
pass-stray file at end packet p r s whole some first other =
    pass_stray file at s.extent packet p r s.walks s.stands s.packet_is whole some first other

-- any other packet passes
pub pass-packet : (file : List ℕ) (at end : ℕ) (packet : Option Held) (p : Held) (r : Collected)
    → Stands file at end packet (Some r) → r.total ≤ length r.store → packet ≡ Some p → is_first_packet (view p) ≡ false
    → is_further_packet r.en (view p) ≡ false → Walks file end (Some r)
pass-packet file at end packet p r s whole some first other =
    subst (λ n. Walks file n (Some r)) s.ends
    (pass_packet file at s.extent packet p r s.walks s.stands s.packet_is whole some first other)
