-- The bytes of the media in the built file, and the places of its chunks.
use Rattle.std.proofs.Common.{◌≡◌, ℕ, ◌+◌, ◌<◌, ◌≤◌, Bool, cond, ◌&&◌, ◌-◌, List, ◌++◌, length, take, drop, get_or, sym, ap, ◌∙◌, subst, arith, ⊎_elim}
use Rattle.std.specs.Prelude.{Contains, nat_lt}
use Rattle.std.proofs.lemmas.Bool.{cases_lt, le-ltb, lt-leb, lt-ltb}
use Rattle.std.proofs.lemmas.List.{get_or-drop, get_or_append_left, get_or-take, length-drop, length-take-le}
use Rattle.c2_spec.specs.Bmff.Boxes.{box_bytes, boxes_len}
use Rattle.c2_spec.specs.Bmff.Writing.{c2pa_box}
use Rattle.c2_spec.specs.Jumbf.Tree.{tree_bytes}
use Rattle.c2_spec.specs.PutIn.{put_in}
use Rattle.c2_lemmas.proofs.Bytes.{are_bytes, bytes-drop, bytes-take}
use Rattle.c2_bmff_rows.proofs.PathRows.{from_member, to_member}
use Rattle.c2_bmff_chunks.specs.Fields.{Covers, all_fields, field_limit, moved, number_at, number_bytes, overflow_places}
use Rattle.c2_bmff_chunks.specs.Laws.{AreBytes, ChunkStays}
use Rattle.c2_bmff_chunks.specs.Shifted.{IsShifted}
use Rattle.c2_bmff_chunks.specs.Tables.{StandApart, field_len}
use Rattle.c2_bmff_chunks.specs.declared.table.ChunkTable.{ChunkTable}
use Rattle.c2_bmff_chunks.specs.declared.table.Field.{Field}
use Rattle.c2_bmff_chunks.proofs.FieldLemmas.{member_within, number_of, number_told, tables_apart}
use Rattle.c2_bmff_chunks.proofs.ShiftLemmas.{put_in_behind}
use Rattle.c2_bmff_chunks.proofs.TheLaws.{a_shifted_file_has_its_boxes_apart, a_shifted_file_has_its_boxes_behind, chunk_places_stay_true}
use Rattle.c2_new_front_spec.specs.Fronts.{tables_of}
use Rattle.c2_new_front_spec.specs.Meeting.{BytesOfFrontStay, ChunkIsThere, ChunksOfFrontStay, place_in_front}
use Rattle.c2_new_front_spec.proofs.InFront.{place_in}
use Rattle.c2_bmff_chunks.proofs.ShiftLemmas.{held_or_not}

-- each field of a chunk table tells where its byte is
pub front_chunks : ChunksOfFrontStay
front_chunks hash c message media file start len b f v has is from within =
    let piece : List ℕ = box_bytes (c2pa_box (tree_bytes b.store)) in
    let tables : List ChunkTable = tables_of media b.roots in
    let far : boxes_len (take 1 b.roots) ≤ f.at =
    a_shifted_file_has_its_boxes_behind media b.roots f b.movable.bytes b.movable.has_roots b.movable.unrefused has in
    let stays : ChunkStays start piece media b.base tables f v =
    chunk_places_stay_true start piece media b.base tables f v (omega (arith, from, within))
    (ap (λ n. overflow_places start n media tables) (sym b.size) ∙ b.moves)
    (subst (λ n. IsShifted start n tables media b.base) b.size b.shifts) has (omega (arith, far, b.place)) is from within in
    let there : ChunkIsThere media (put_in start piece b.base) (length piece) tables f v =
    record { field = stays.field; byte = stays.byte } in
    subst (λ (x : List ℕ). ChunkIsThere media x len tables f v) (sym b.put)
    (subst (λ n. ChunkIsThere media (put_in start piece b.base) n tables f v) (sym b.size) there)

-- a place before the piece keeps its byte
before_piece : (e i : ℕ) (piece base : List ℕ) → e ≤ length base → i < e
    → get_or (put_in e piece base) i 0 ≡ get_or base i 0
before_piece e i piece base inside h =
    get_or_append_left (take e base) (piece ++ drop e base) 0 i (omega (arith, length-take-le e base inside, h))
    ∙ get_or-take e base i 0 h

-- one after it has its byte behind the piece
behind_piece : (e i : ℕ) (piece base : List ℕ) → e ≤ length base → e ≤ i
    → get_or (put_in e piece base) (i + length piece) 0 ≡ get_or base i 0
behind_piece e i piece base inside h =
    let new : List ℕ = put_in e piece base in
    let there : i + length piece + 0 ≡ i + length piece = omega arith in
    let here : i + 0 ≡ i = omega arith in
    ap (λ k. get_or new k 0) (sym there) ∙ sym (get_or-drop (i + length piece) new 0 0)
    ∙ ap (λ (xs : List ℕ). get_or xs 0 0) (put_in_behind e i piece base inside h) ∙ get_or-drop i base 0 0
    ∙ ap (λ k. get_or base k 0) here

-- ---- bytes in no moved field

-- a number below the first moved place stays
stays_low : (wide : Bool) (from by v : ℕ) → v < from → moved wide from by v ≡ v
stays_low wide from by v h =
    ap (λ (t : Bool). cond (t && nat_lt (v + by) (field_limit wide)) (v + by) v) (lt-leb from v h)

-- the bytes of a field are those of its number
field_bytes : (f : Field) (file : List ℕ) → AreBytes file → f.at + field_len f.wide ≤ length file
    → number_bytes f.wide (number_at f.wide file f.at) ≡ take (field_len f.wide) (drop f.at file)
field_bytes f file bytes inside =
    let n : ℕ = field_len f.wide in
    ap (number_bytes f.wide) (number_of f.wide file f.at)
    ∙ number_told f.wide (take n (drop f.at file))
    (bytes-take n (drop f.at file) (bytes-drop f.at file (are_bytes file bytes)))
    (length-take-le n (drop f.at file) (omega (arith, inside, length-drop f.at file)))

-- a place in a field has one byte where the field has one number
field_byte : (f : Field) (a b : List ℕ) (i : ℕ) → AreBytes a → AreBytes b → f.at + field_len f.wide ≤ length a
    → f.at + field_len f.wide ≤ length b
    → number_at f.wide a f.at ≡ number_at f.wide b f.at → Covers f i → get_or a i 0 ≡ get_or b i 0
field_byte f a b i h k inside inside' e c =
    let n : ℕ = field_len f.wide in
    let same : take n (drop f.at a) ≡ take n (drop f.at b) =
    sym (field_bytes f a h inside) ∙ ap (number_bytes f.wide) e ∙ field_bytes f b k inside' in
    part a ∙ ap (λ (xs : List ℕ). get_or xs (i - f.at) 0) same ∙ sym (part b)
  where
    part : (xs : List ℕ) → get_or xs i 0 ≡ get_or (take (field_len f.wide) (drop f.at xs)) (i - f.at) 0
    part xs =
        let place : f.at + (i - f.at) ≡ i = omega (arith, c.0) in
        ap (λ j. get_or xs j 0) (sym place) ∙ sym (get_or-drop f.at xs (i - f.at) 0)
        ∙ sym (get_or-take (field_len f.wide) (drop f.at xs) (i - f.at) 0 (omega (arith, c.0, c.1)))

-- the shifted media has each byte that lies in no moved field
unmoved_byte : (start len i : ℕ) (tables : List ChunkTable) (media base : List ℕ) → AreBytes media
    → StandApart 0 (length media) tables → IsShifted start len tables media base
    → ((f : Field) → Contains (all_fields tables) f → Covers f i → number_at f.wide media f.at < start)
    → get_or base i 0 ≡ get_or media i 0
unmoved_byte start len i tables media base bytes apart s low =
    let fs : List Field = all_fields tables in
    ⊎_elim
    (λ held.
    let f : Field = held.0 in
    let has : Contains fs f = from_member fs f held.1 in
    let within = member_within 0 (length media) fs f (tables_apart 0 (length media) tables apart) held.1 in
    let number : number_at f.wide base f.at ≡ number_at f.wide media f.at =
    s.fields f has ∙ stays_low f.wide start len (number_at f.wide media f.at) (low f has held.2) in
    field_byte f base media i s.bytes bytes (omega (arith, within.1, s.size)) within.1 number held.2)
    (λ none. s.others i (λ f has. none f (to_member fs f has)))
    (held_or_not fs i)

-- the built file has each byte of the media that lies in no moved field
pub front_bytes : BytesOfFrontStay
front_bytes hash c message media file start len b i within low =
    let piece : List ℕ = box_bytes (c2pa_box (tree_bytes b.store)) in
    let inside : start ≤ length b.base =
    omega (arith, b.place, b.shifts.size, place_in media b.roots b.movable.has_roots) in
    let put : get_or file (place_in_front start len i) 0 ≡ get_or (put_in start piece b.base) (place_in_front start (length piece) i) 0 =
    ap (λ (f : List ℕ). get_or f (place_in_front start len i) 0) b.put ∙ ap (λ n. get_or (put_in start piece b.base) (place_in_front start n i) 0) b.size in
    put ∙ ⊎_elim (λ l. front piece inside l) (λ g. behind piece inside g) (cases_lt i start)
    ∙ unmoved_byte start len i (tables_of media b.roots) media b.base b.movable.bytes
    (a_shifted_file_has_its_boxes_apart media b.roots b.movable.bytes b.movable.has_roots b.movable.unrefused)
    b.shifts low
  where
    front : (piece : List ℕ) → start ≤ length b.base → i < start
        → get_or (put_in start piece b.base) (place_in_front start (length piece) i) 0 ≡ get_or b.base i 0
    front piece inside l =
        ap (λ (t : Bool). get_or (put_in start piece b.base) (cond t i (i + length piece)) 0) (lt-ltb i start l)
        ∙ before_piece start i piece b.base inside l

    behind : (piece : List ℕ) → start ≤ length b.base → start ≤ i
        → get_or (put_in start piece b.base) (place_in_front start (length piece) i) 0 ≡ get_or b.base i 0
    behind piece inside g =
        ap (λ (t : Bool). get_or (put_in start piece b.base) (cond t i (i + length piece)) 0) (le-ltb i start g)
        ∙ behind_piece start i piece b.base inside g
