-- What holds of each byte of a file holds of each byte of its store.
use Rattle.std.proofs.Common.{◌≡◌, ℕ, ◌+◌, ◌^◌, ◌<◌, true, false, List, [], ◌∷◌, ◌++◌, length, drop, sym, ap, subst}
use Rattle.std.proofs.lemmas.List.Elements.{recursion_from_All, All-from_recursion, All-contains_itself}
use Rattle.std.specs.Int.{w16, to_be_bytes}
use Rattle.std.specs.List.{All, AllByRecursion, Contains, flat_map}
use Rattle.c2_spec.specs.Jpeg.Segments.{Segment, marker_bytes, segment_bytes, is_alone, start_of_image}
use Rattle.c2_spec.specs.Jpeg.Packets.{is_packet, packet_in, packet_header_len, payload_lbox}
use Rattle.c2_spec.specs.Jpeg.Store.{HasJpegStore}
use Rattle.c2_jpegseg_segments.proofs.Markers.{spelled_sized}
use borrow.Author.Tests.{eqb-true}
use Rattle.c2_lemmas.proofs.Bools.{both_true}
use Rattle.c2_lemmas.proofs.Each.{each_append, each_back, each_front}
use Rattle.c2_lemmas.proofs.Parts.{each_drop, each_take}

-- what holds of each element of a list holds of those of each part
flat-each : {X : Type 0} (P : ℕ → Type 0) (f : X → List ℕ) (xs : List X) → AllByRecursion P (flat_map f xs)
    → AllByRecursion (λ x. AllByRecursion P (f x)) xs
flat-each P f [] h = tt
flat-each P f (x ∷ xs) h =
    (each_front P (f x) (flat_map f xs) h, flat-each P f xs (each_back P (f x) (flat_map f xs) h))

-- and what holds of those of each part, of each element of the list
each-flat : {X : Type 0} (P : ℕ → Type 0) (f : X → List ℕ) (xs : List X)
    → AllByRecursion (λ x. AllByRecursion P (f x)) xs → AllByRecursion P (flat_map f xs)
each-flat P f [] h = tt
each-flat P f (x ∷ xs) h = each_append P (f x) (flat_map f xs) h.0 (each-flat P f xs h.1)

-- of two facts on each element follows a third
each-both : {X : Type 0} (P Q R : X → Type 0) (xs : List X) → ((x : X) → P x → Q x → R x) → AllByRecursion P xs
    → AllByRecursion Q xs → AllByRecursion R xs
each-both P Q R [] f h k = tt
each-both P Q R (x ∷ xs) f h k = (f x h.0 k.0, each-both P Q R xs f h.1 k.1)

-- a packet's marker has a length
packet_sized : (s : Segment) → is_packet s ≡ true → is_alone s.marker ≡ false
packet_sized s h =
    let marker : s.marker ≡ 0xEB = eqb-true _ _ (both_true _ _ (both_true _ _ (both_true _ _ h).0).0).0 in
    ap is_alone marker

-- what holds of each byte of a segment holds of its payload's, where it is a packet
packet_payload : (P : ℕ → Type 0) (s : Segment) → AllByRecursion P (segment_bytes s) → is_packet s ≡ true
    → AllByRecursion P s.payload
packet_payload P s h packet =
    let spelled = subst (AllByRecursion P) (spelled_sized s (packet_sized s packet)) h in
    each_back P (to_be_bytes w16 (length s.payload + 2)) s.payload
    (each_back P (marker_bytes s.fill s.marker) (to_be_bytes w16 (length s.payload + 2) ++ s.payload) spelled)

-- so of its header's and its body's
packet_header : (P : ℕ → Type 0) (s : Segment) → AllByRecursion P (segment_bytes s) → is_packet s ≡ true
    → AllByRecursion P (packet_in s).header
packet_header P s h packet =
    each_take P (packet_header_len (payload_lbox s.payload)) (drop 8 s.payload)
    (each_drop P 8 s.payload (packet_payload P s h packet))

-- (the same of its body's)
packet_body : (P : ℕ → Type 0) (s : Segment) → AllByRecursion P (segment_bytes s) → is_packet s ≡ true
    → AllByRecursion P (packet_in s).body
packet_body P s h packet =
    each_drop P (8 + packet_header_len (payload_lbox s.payload)) s.payload (packet_payload P s h packet)

-- and of the store's
store_each : (P : ℕ → Type 0) (file : List ℕ) (start len : ℕ) (store : List ℕ) → HasJpegStore file start len store
    → AllByRecursion P file → AllByRecursion P store
store_each P file start len store has h =
    let held = has.holds in
    let whole = subst (AllByRecursion P) has.begins.bytes h in
    let segments =
    each_back P start_of_image (flat_map segment_bytes has.segments)
    (each_front P (start_of_image ++ flat_map segment_bytes has.segments) has.rest whole) in
    let each =
    subst (AllByRecursion (λ s. AllByRecursion P (segment_bytes s))) held.split
    (flat-each P segment_bytes has.segments segments) in
    let later =
    each_back (λ s. AllByRecursion P (segment_bytes s)) held.before (held.first ∷ held.others ++ held.after) each in
    let run = each_front (λ s. AllByRecursion P (segment_bytes s)) (held.first ∷ held.others) held.after later in
    let bodies =
    each-both (λ s. AllByRecursion P (segment_bytes s)) (λ s. is_packet s ≡ true)
    (λ s. AllByRecursion P (packet_in s).body) (held.first ∷ held.others) (packet_body P) run
    held.is_run.packets in
    subst (AllByRecursion P) (sym held.is_run.bytes)
    (each_append P (packet_in held.first).header (flat_map (λ s. (packet_in s).body) (held.first ∷ held.others)) (packet_header P held.first run.0 held.is_run.packets.0)
    (each-flat P (λ s. (packet_in s).body) (held.first ∷ held.others) bodies))

-- what holds of each byte of a file holds of each byte of its store
store-all : (P : ℕ → Type 0) (file : List ℕ) (start len : ℕ) (store : List ℕ) → HasJpegStore file start len store
    → All P file → All P store
store-all P file start len store has h =
    All-from_recursion P store (store_each P file start len store has (recursion_from_All P file h))

-- The bytes of a file's store are the file's.
pub store-of_the_file : (file : List ℕ) (start len : ℕ) (store : List ℕ) → HasJpegStore file start len store
    → All (Contains file) store
store-of_the_file file start len store has =
    store-all (Contains file) file start len store has (All-contains_itself file)

-- So they are below 2^8 where the file's are.
pub store-bytes : (file : List ℕ) (start len : ℕ) (store : List ℕ) → HasJpegStore file start len store
    → All (λ b. b < 2 ^ 8) file → All (λ b. b < 2 ^ 8) store
store-bytes file start len store has h = store-all (λ b. b < 2 ^ 8) file start len store has h
