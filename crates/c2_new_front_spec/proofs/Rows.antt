-- Worked rows: a store with 256 bytes reserved for its message in front of the film of one chunk, whose field tells where its byte is,
-- and what is refused of films like it.
use Rattle.std.proofs.Common.{◌≡◌, ℕ, ◌+◌, ◌-◌, ◌^◌, ◌<◌, true, false, List, [], ◌∷◌, ◌++◌, length, replicate, take, get_or, None, Some, refl, sym, ap, ◌∙◌, arith, bytes_eq, codes, lit<, lit≤}
use Rattle.std.proofs.lemmas.Bool.{and_parts, false≢true, ltb-true}
use Rattle.std.proofs.lemmas.List.Elements.{All-from_recursion}
use Rattle.std.specs.List.{flat_map, list_all, AllByRecursion}
use Rattle.std.specs.Prelude.{nat_lt}
use Rattle.c2_spec.specs.Bmff.Boxes.{Box, IsBox, short, to_end, box_bytes, box_fault, size_fits, uuid_kind}
use Rattle.c2_spec.specs.Bmff.Store.{is_c2pa_box, is_other_box}
use Rattle.c2_spec.specs.Container.{is_bmff}
use Rattle.c2_spec.specs.Cbor.Deterministic.{shortest_head}
use Rattle.c2_spec.specs.Cbor.Item.{dict, no_pairs}
use Rattle.c2_spec.specs.Jumbf.Tree.{Tree}
use Rattle.c2_spec.specs.Located.{absent, here}
use Rattle.c2_spec.specs.declared.digest.Alg.TheVariants.{Sha256}
use Rattle.c2_rules.specs.Rules.{label_kind}
use Rattle.c2_rules.specs.declared.code.Code.TheVariants.{ProfileRedactionUri}
use Rattle.c2_bmff_chunks.specs.Fields.{number_at, overflow_places}
use Rattle.c2_bmff_chunks.specs.Refusals.{shift_refusals}
use Rattle.c2_bmff_chunks.specs.Tables.{chunk_tables}
use Rattle.c2_definition.specs.declared.types.Definition.{Definition}
use Rattle.c2_new_file_spec.specs.Built.{no_digest}
use Rattle.c2_new_file_spec.specs.Fresh.{fresh_content}
use Rattle.c2_new_file_spec.specs.Store.{Content}
use Rattle.c2_new_file_spec.proofs.BuildRows.{actions}
use Rattle.c2_new_file_spec.specs.Films.{bmff_len, bmff_store_size}
use Rattle.c2_new_front_spec.specs.Fronts.{CanBuildFront, IsMovable, front_covered, front_file, moved_media, tables_of}
use Rattle.c2_new_front_spec.specs.InFront.{front_place, open_first}
use Rattle.c2_new_front_spec.specs.Meeting.{front_question}
use Rattle.c2_new_front_spec.specs.Order.{bad_table, bmff_refusals, front_refusals, has_store, not_bmff, offset_table, overflow, plan_refusals, redaction_refused, reserve_too_small}

-- ---- the film

-- a box that says its size in 4 bytes
abbrev boxed : List ℕ → List ℕ → Box
boxed kind payload = record { form = short; kind = kind; payload = payload }

-- the boxes on the path around a chunk table with this count and these fields
abbrev around : List ℕ → Box
around table =
    boxed (codes "moov")
    (box_bytes (boxed (codes "trak") (box_bytes (boxed (codes "mdia") (box_bytes (boxed (codes "minf") (box_bytes (boxed (codes "stbl") (box_bytes (boxed (codes "stco") (0 ∷ 0 ∷ 0 ∷ 0 ∷ table)))))))))))

-- a file type box
abbrev file_type : Box
file_type = boxed (codes "ftyp") (codes "isom" ++ 0 ∷ 0 ∷ 0 ∷ 0 ∷ [])

-- the file type box, those boxes, one byte of media at 84, and further boxes
abbrev film : List ℕ → List Box → List Box
film table others = file_type ∷ around table ∷ boxed (codes "mdat") (0x41 ∷ []) ∷ others

-- a film whose one field has these 4 bytes
abbrev with_field : List ℕ → List Box
with_field field = film (0 ∷ 0 ∷ 0 ∷ 1 ∷ field) []

-- the film whose one field tells 84
abbrev film_q : List Box
film_q = with_field (0 ∷ 0 ∷ 0 ∷ 84 ∷ [])

-- the bytes of a film
abbrev bytes_of : List Box → List ℕ
bytes_of boxes = flat_map box_bytes boxes

-- the film with a field for its byte of media has 85 bytes
q_bytes : length (bytes_of film_q) ≡ 85
q_bytes = refl

-- ---- the file that is built

-- a definition without a title
unfoldable defined : Definition
defined = record {
  label = codes "urn:c2pa:00000000-0000-4000-8000-000000000000";
  instance_id = codes "xmp:iid:sample";
  generator = codes "c2";
  title = None;
  protected = 0xA1 ∷ 0x01 ∷ 0x26 ∷ [];
  reserve = 256;
  assertions = actions ∷ [];
  redact = [];
  alg = Sha256;
}

-- what goes into the store
unfoldable fresh : Content
fresh = fresh_content defined

-- the new file, where each digest is of zero bytes, and so is the message
unfoldable built : List ℕ
built = front_file (no_digest Sha256) fresh (replicate 256 0) (bytes_of film_q) film_q

-- the box of the store is put in at 16
q_place : front_place film_q ≡ 16
q_place = refl

-- the box of the store has 1,220 bytes
q_len : bmff_len fresh 256 ≡ 1220
unfolding fresh defined actions shortest_head
q_len = refl

-- the new file has 1,305 bytes
q_file : length built ≡ 1305
unfolding built fresh defined actions shortest_head chunk_tables box_fault
q_file = refl

-- the field, which is 1,220 places later, holds 1,304
q_field : number_at false built 1292 ≡ 1304
unfolding built fresh defined actions shortest_head chunk_tables box_fault
q_field = refl

-- where the byte of media is
q_byte : get_or built 1304 0 ≡ 0x41
unfolding built fresh defined actions shortest_head chunk_tables box_fault
q_byte = refl

-- a field that holds 15, which is in the file type box, stays
field_low : number_at false (moved_media 1220 (bytes_of (with_field (0 ∷ 0 ∷ 0 ∷ 15 ∷ []))) (with_field (0 ∷ 0 ∷ 0 ∷ 15 ∷ []))) 72 ≡ 15
unfolding chunk_tables box_fault
field_low = refl

-- one that holds 16, where that box ends, is moved
field_first : number_at false (moved_media 1220 (bytes_of (with_field (0 ∷ 0 ∷ 0 ∷ 16 ∷ []))) (with_field (0 ∷ 0 ∷ 0 ∷ 16 ∷ []))) 72 ≡ 1236
unfolding chunk_tables box_fault
field_first = refl

-- what is covered: the places of two boxes in 8 bytes each, and their 69 bytes
q_text : length (front_covered 1220 (bytes_of film_q) film_q) ≡ 85
unfolding chunk_tables box_fault
q_text = refl

-- what is covered begins with the place of the second box in the new file, and the size of that box
q_begin : take 12 (front_covered 1220 (bytes_of film_q) film_q) ≡ 0 ∷ 0 ∷ 0 ∷ 0 ∷ 0 ∷ 0 ∷ 4 ∷ 0xD4 ∷ 0 ∷ 0 ∷ 0 ∷ 60 ∷ []
unfolding chunk_tables box_fault
q_begin = refl

-- what is signed
unfoldable signed : List ℕ
signed =
    (front_question (no_digest Sha256) fresh 256 (bytes_of film_q) film_q (record { protected = 0xA1 ∷ 0x01 ∷ 0x26 ∷ []; unprotected = dict no_pairs; signature = [] })).tbs

-- what is signed has 375 bytes
q_signed : length signed ≡ 375
unfolding signed fresh defined actions shortest_head chunk_tables box_fault
q_signed = refl

-- the first are an array of four, "Signature1", the protected header, no bytes, and the head of the claim's 355
q_first : take 20 signed ≡ 0x84 ∷ 0x6A ∷ codes "Signature1" ++ 0x43 ∷ 0xA1 ∷ 0x01 ∷ 0x26 ∷ 0x40 ∷ 0x59 ∷ 0x01 ∷ 0x63 ∷ []
unfolding signed fresh defined actions shortest_head chunk_tables box_fault
q_first = refl

-- ---- it can be built

-- numbers that pass a test are bytes
are_bytes : (xs : List ℕ) → list_all (λ b. nat_lt b 256) xs ≡ true → AllByRecursion (λ b. b < 2 ^ 8) xs
are_bytes [] e = tt
are_bytes (x ∷ xs) e =
    let both = and_parts (nat_lt x 256) (list_all (λ b. nat_lt b 256) xs) e in
    (ltb-true x 256 both.0, are_bytes xs both.1)

-- a box that isn't of type `uuid`
is_plain : (kind payload : List ℕ) → length kind ≡ 4 → size_fits short (8 + length payload) ≡ true
    → bytes_eq kind uuid_kind ≡ false → IsBox (boxed kind payload)
is_plain kind payload k f u = record { kind = k; fits = f; user_type = λ h. absurd (false≢true (sym u ∙ h)) }

-- the film has these root boxes, and no store
q_movable : IsMovable (bytes_of film_q) film_q
unfolding is_c2pa_box is_other_box shift_refusals box_fault
q_movable = record {
  film = refl;
  bytes = All-from_recursion (λ b. b < 2 ^ 8) (bytes_of film_q) (are_bytes (bytes_of film_q) refl);
  has_roots = record {
    fits = lit< tt;
    begins = refl;
    bytes = refl;
    forms =
        (record { is_box = is_plain _ _ refl refl refl; sized = refl }, (record { is_box = is_plain _ _ refl refl refl; sized = refl }, is_plain _ _ refl refl refl));
    few = lit≤ tt;
  };
  none = (refl, (refl, (refl, tt)));
  closed = refl;
  unrefused = refl;
}

-- the size of its store
q_size : bmff_store_size fresh 256 ≡ 1175
unfolding fresh defined actions shortest_head
q_size = refl

-- no place is too large, where so many bytes are put in
q_moves : overflow_places 16 1220 (bytes_of film_q) (tables_of (bytes_of film_q) film_q) ≡ []
unfolding chunk_tables box_fault
q_moves = refl

-- a store goes in front of the media
q_can : CanBuildFront fresh 256 (bytes_of film_q) film_q
q_can = record {
  movable = q_movable;
  small = omega (arith, q_size);
  fits = omega (arith, q_len, q_bytes);
  few = lit< tt;
  moves = ap (λ n. overflow_places 16 n (bytes_of film_q) (tables_of (bytes_of film_q) film_q)) q_len ∙ q_moves;
}

-- ---- what is refused

-- nothing
q_none : plan_refusals (bytes_of film_q) film_q defined ≡ []
unfolding defined actions shortest_head shift_refusals chunk_tables box_fault
q_none = refl

-- the film whose field holds the greatest number of 4 bytes
abbrev far : List Box → List Box
far others = film (0 ∷ 0 ∷ 0 ∷ 1 ∷ 255 ∷ 255 ∷ 255 ∷ 255 ∷ []) others

-- the film whose field holds the greatest number can't be moved
q_far : plan_refusals (bytes_of (far [])) (far []) defined ≡ overflow 72 ∷ []
unfolding defined actions shortest_head shift_refusals chunk_tables box_fault
q_far = refl

-- a field whose sum is the greatest number of 4 bytes
abbrev last_sum : List Box
last_sum = with_field (0xFF ∷ 0xFF ∷ 0xFB ∷ 0x3B ∷ [])

-- is moved
sum_last : number_at false (moved_media 1220 (bytes_of last_sum) last_sum) 72 ≡ 2 ^ 32 - 1
unfolding chunk_tables box_fault
sum_last = refl

-- the greatest sum that its field holds isn't refused
sum_fits : plan_refusals (bytes_of last_sum) last_sum defined ≡ []
unfolding defined actions shortest_head shift_refusals chunk_tables box_fault
sum_fits = refl

-- one whose sum is 2^32
abbrev next_sum : List Box
next_sum = with_field (0xFF ∷ 0xFF ∷ 0xFB ∷ 0x3C ∷ [])

-- is refused
sum_over : plan_refusals (bytes_of next_sum) next_sum defined ≡ overflow 72 ∷ []
unfolding defined actions shortest_head shift_refusals chunk_tables box_fault
sum_over = refl

-- a table that states two fields and has one
abbrev short_table : List Box
short_table = film (0 ∷ 0 ∷ 0 ∷ 2 ∷ 0 ∷ 0 ∷ 0 ∷ 84 ∷ []) []

-- hasn't its form
q_count : plan_refusals (bytes_of short_table) short_table defined ≡ bad_table 56 ∷ []
unfolding defined actions shortest_head shift_refusals chunk_tables box_fault
q_count = refl

-- the film with that field, and with a root box `meta` at its end
abbrev items : List Box
items = far (boxed (codes "meta") [] ∷ [])

-- the box `meta` at the end is refused, and then the field
q_meta : plan_refusals (bytes_of items) items defined ≡ offset_table 85 ∷ overflow 72 ∷ []
unfolding defined actions shortest_head shift_refusals chunk_tables box_fault
q_meta = refl

-- the definition with a redaction that is no URI
unfoldable redacting : Definition
redacting = record {
  label = defined.label;
  instance_id = defined.instance_id;
  generator = defined.generator;
  title = defined.title;
  protected = defined.protected;
  reserve = defined.reserve;
  assertions = defined.assertions;
  redact = codes "D" ∷ [];
  alg = defined.alg;
}

-- comes before both
q_redacts : plan_refusals (bytes_of items) items redacting ≡ redaction_refused (record { text = codes "D"; code = ProfileRedactionUri }) ∷ offset_table 85 ∷ overflow 72 ∷ []
unfolding redacting defined actions shortest_head shift_refusals chunk_tables box_fault label_kind
q_redacts = refl

-- a file type box that says no size
q_open : open_first (record { form = to_end; kind = codes "ftyp"; payload = [] } ∷ []) ≡ Some 0
q_open = refl

-- the film whose last box says no size
abbrev open_last : List Box
open_last =
    file_type ∷ around (0 ∷ 0 ∷ 0 ∷ 1 ∷ 0 ∷ 0 ∷ 0 ∷ 84 ∷ []) ∷ record
    { form = to_end; kind = codes "mdat"; payload = 0x41 ∷ [] } ∷ []

-- isn't refused
last_open : plan_refusals (bytes_of open_last) open_last defined ≡ []
unfolding defined actions shortest_head shift_refusals chunk_tables box_fault
last_open = refl

-- the boxes after the first can be moved in a film whose last box is open
open_movable : IsMovable (bytes_of open_last) open_last
unfolding is_c2pa_box is_other_box shift_refusals box_fault
open_movable = record {
  film = refl;
  bytes = All-from_recursion (λ b. b < 2 ^ 8) (bytes_of open_last) (are_bytes (bytes_of open_last) refl);
  has_roots = record {
    fits = lit< tt;
    begins = refl;
    bytes = refl;
    forms =
        (record { is_box = is_plain _ _ refl refl refl; sized = refl }, (record { is_box = is_plain _ _ refl refl refl; sized = refl }, record { kind = refl; fits = refl; user_type = λ h. absurd (false≢true h) }));
    few = lit≤ tt;
  };
  none = (refl, (refl, (refl, tt)));
  closed = refl;
  unrefused = refl;
}

-- a message of 311 bytes comes last
q_reserve : front_refusals (bytes_of (far [])) (far []) defined (record { protected = 0xA1 ∷ 0x01 ∷ 0x26 ∷ []; unprotected = dict no_pairs; signature = replicate 300 0 }) ≡ overflow 72 ∷ reserve_too_small 311 ∷ []
unfolding defined actions shortest_head shift_refusals chunk_tables box_fault
q_reserve = refl

-- bytes that begin as a JPEG and as a BMFF file are a JPEG
both_begin : is_bmff (0xFF ∷ 0xD8 ∷ 0 ∷ 0 ∷ codes "ftyp") ≡ false
both_begin = refl

-- a film with a store is refused for that
q_stored : (t : Tree) → bmff_refusals (bytes_of film_q) (here 16 1220 t) ≡ has_store ∷ []
q_stored t = refl

-- a JPEG is no BMFF file, and with a store it is refused for that first
jpeg_stored : (t : Tree) → bmff_refusals (0xFF ∷ 0xD8 ∷ []) (here 2 52 t) ≡ not_bmff ∷ has_store ∷ []
jpeg_stored t = refl

-- a film without a store isn't refused before its root boxes are looked at
q_fresh : bmff_refusals (bytes_of film_q) absent ≡ []
q_fresh = refl
