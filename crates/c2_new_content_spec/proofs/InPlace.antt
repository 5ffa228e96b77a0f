-- Files in their places meet the rules, and less their new ranges they are what they were.
use Rattle.std.proofs.Common.{◌≡◌, ℕ, List, [], ◌∷◌, length, Some, arith, sym, subst}
use Rattle.c2_spec.specs.Bmff.Boxes.{box_bytes}
use Rattle.c2_spec.specs.Bmff.Writing.{built_text, c2pa_box}
use Rattle.c2_spec.specs.Bmff.Writing as bmff
use Rattle.c2_spec.specs.C2pa.Sign1.{question_of}
use Rattle.c2_spec.specs.Jumbf.Tree.{tree_bytes}
use Rattle.c2_spec.specs.PutIn.{put_in, taken_out}
use Rattle.c2_spec.specs.declared.digest.Alg.{Alg}
use Rattle.c2_rules.specs.CheckList.{questions}
use Rattle.c2_new_file_spec.specs.Fresh.{MeetsTheRules}
use Rattle.c2_new_file_spec.specs.Store.{Content, new_alg, new_claim, new_store}
use Rattle.c2_new_file_spec.specs.Films.{new_bmff_binding, bmff_len}
use Rattle.c2_new_file_spec.specs.Meeting.{BaseStays, FreshPlaceMeets, OverPlaceMeets}
use Rattle.c2_new_file_spec.specs.Places.{in_boxes, in_segments}
use Rattle.c2_new_content_spec.specs.Contents.{PlaceFileMeets, CanPutAt, content_len, content_size, content_store}
use Rattle.c2_new_content_spec.specs.Instances.{IsSplitPlace, split_of}
use Rattle.c2_new_file_spec.specs.Built.{HasDigestLen}
use Rattle.c2_new_content_spec.proofs.Contents.{content_meets, fresh_content, over_content, size_fixed, stored_at}
use Rattle.c2_new_content_spec.proofs.Holding.{store_holds}
use Rattle.c2_new_content_spec.proofs.Places.{place_split}
use Rattle.c2_new_content_spec.specs.Splits.{CanHold, HasRoomFor, Split, split_binding, split_file, split_len, split_start, split_piece, split_text}

-- ---- in its place

-- a file in its place is one at a split
pub place_file : PlaceFileMeets
place_file hash c message base bytes (in_segments segments number) parts older digests content can put =
    let at : IsSplitPlace base (in_segments segments number) = place_split base (in_segments segments number) can.place in
    content_meets hash c message base bytes (split_of (in_segments segments number)) parts older digests content
    (record { room = record { split = at.split; room = at.room can.room; small = can.small; fits = can.fits }; free = at.free })
    put
place_file hash c message base bytes (in_boxes roots) parts older digests content can put =
    let alg : Alg = new_alg c.definition in
    let h : List ℕ → List ℕ = hash alg in
    let s : Split = split_of (in_boxes roots) in
    let start : ℕ = bmff.insert_place roots in
    let len : ℕ = bmff_len c (length message) in
    let at : IsSplitPlace base (in_boxes roots) = place_split base (in_boxes roots) can.place in
    let text : split_text base s len ≡ built_text roots = at.text len in
    let same : split_piece s (tree_bytes (content_store h c message base s)) ≡ Some bytes =
    subst (λ (x : List ℕ). Some (box_bytes (c2pa_box (tree_bytes (new_store h c (new_bmff_binding alg (h x)) message)))) ≡ Some bytes) (sym text) put in
    subst
    (λ (x : List ℕ).
    MeetsTheRules hash (put_in start bytes base) start len (new_store h c (new_bmff_binding alg (h x)) message)
    (question_of parts (new_claim h c (new_bmff_binding alg (h x))) ∷ older))
    text
    (content_meets hash c message base bytes s parts older digests content
    (record { room = record { split = at.split; room = at.room can.room; small = can.small; fits = can.fits }; free = at.free }) same)

-- over a file without a store
pub fresh_place : FreshPlaceMeets
fresh_place hash c message base bytes p parts digests is w can spells put =
    place_file hash c message base bytes p parts [] digests (fresh_content hash c message parts is w spells) can put

-- over what is left of one with a store
pub over_place : OverPlaceMeets
over_place hash said media start len old r d c message base bytes p parts digests k w is left can spells put =
    place_file hash c message base bytes p parts (questions r.readings) digests
    (over_content hash said media start len old r d c message parts k w is spells) can put

-- ---- what the file was

-- a store of the size that is known can be held
held : (hash : List ℕ → List ℕ) (c : Content) (s : Split) (len : ℕ) (text message base : List ℕ)
    → HasDigestLen (new_alg c.definition) hash → CanPutAt c (length message) base s
    → CanHold base s (tree_bytes (new_store hash c (split_binding (new_alg c.definition) s len (hash text)) message))
held hash c s len text message base sized can =
    let size : length (tree_bytes (new_store hash c (split_binding (new_alg c.definition) s len (hash text)) message)) ≡ content_size s c (length message) =
    size_fixed hash c s len (hash text) message sized (sized text) in
    record {
      room = subst (HasRoomFor base s) (sym size) can.room;
      free = can.free;
      stored =
          stored_at hash c (split_binding (new_alg c.definition) s len (hash text)) message s
          (omega (arith, size, can.room.small));
    }

-- less the range of such a store it is what it was
left_behind :
    (hash : List ℕ → List ℕ) (c : Content) (s : Split) (len : ℕ) (text message base piece : List ℕ)
    → HasDigestLen (new_alg c.definition) hash → CanPutAt c (length message) base s
    → split_piece s (tree_bytes (new_store hash c (split_binding (new_alg c.definition) s len (hash text)) message)) ≡ Some piece
    → taken_out (split_start s) (content_len s c (length message)) (split_file base s piece) ≡ base
left_behind hash c s len text message base piece sized can put =
    let store : List ℕ =
    tree_bytes (new_store hash c (split_binding (new_alg c.definition) s len (hash text)) message) in
    let size : length store ≡ content_size s c (length message) =
    size_fixed hash c s len (hash text) message sized (sized text) in
    subst (λ n. taken_out (split_start s) (split_len s n) (split_file base s piece) ≡ base) size
    (store_holds base s store piece (held hash c s len text message base sized can) put).left

-- less the range of a new store in its place, a file is what it was
pub base_stays : BaseStays
base_stays hash c message base bytes (in_segments segments number) sized can put =
    let s : Split = split_of (in_segments segments number) in
    let at : IsSplitPlace base (in_segments segments number) = place_split base (in_segments segments number) can.place in
    left_behind hash c s (content_len s c (length message)) base message base bytes sized
    (record { room = record { split = at.split; room = at.room can.room; small = can.small; fits = can.fits }; free = at.free })
    put
base_stays hash c message base bytes (in_boxes roots) sized can put =
    let s : Split = split_of (in_boxes roots) in
    let at : IsSplitPlace base (in_boxes roots) = place_split base (in_boxes roots) can.place in
    subst (λ n. taken_out n (bmff_len c (length message)) (put_in n bytes base) ≡ base) (sym at.start)
    (left_behind hash c s (content_len s c (length message)) (built_text roots) message base bytes sized
    (record { room = record { split = at.split; room = at.room can.room; small = can.small; fits = can.fits }; free = at.free }) put)
