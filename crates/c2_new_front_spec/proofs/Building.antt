-- The built file is the one that its definition asks for, and holds the new store.
use Rattle.c2_new_front_spec.proofs.InFront.{front_found, front_roots, front_told}
use Rattle.c2_bmff_chunks.proofs.TheLaws.{a_shifted_file_has_its_boxes_apart, a_shifted_file_has_its_boxes_roots, a_shifted_file_is_one_once, a_shifted_file_is_one_some}
use Rattle.c2_bmff_insert_spec.proofs.TheLaws.{a_put_store_is_not_covered_some, a_put_store_is_not_covered_text}
use Rattle.std.proofs.Common.{◌≡◌, ℕ, ◌+◌, cond, List, [], ◌∷◌, length, map, Option, Some, None, refl, sym, ap, ap₂, ◌∙◌, subst, arith}
use Rattle.c2_spec.specs.Bmff.Boxes.{Box, HasRoots, SizeForm, box_bytes, is_to_end}
use Rattle.c2_spec.specs.Bmff.Store.{HoldsBmffStore}
use Rattle.c2_spec.specs.Bmff.Writing.{built_text, c2pa_box, c2pa_frame_len}
use Rattle.c2_spec.specs.Digest.{digest_len}
use Rattle.c2_spec.specs.Jumbf.Tree.{Tree, tree_bytes}
use Rattle.c2_spec.specs.PutIn.{put_in, taken_out}
use Rattle.c2_spec.proofs.BmffOneList.{roots_once}
use Rattle.c2_bmff_chunks.specs.Laws.{HasShiftedRoots}
use Rattle.c2_bmff_chunks.specs.Shifted.{IsShifted}
use Rattle.c2_bmff_chunks.specs.declared.table.ChunkTable.{ChunkTable}
use Rattle.c2_bmff_insert_spec.specs.Laws.{HasBuiltCover}
use Rattle.c2_new_file_spec.specs.Built.{HasDigestLen}
use Rattle.c2_new_file_spec.specs.Store.{Content, new_manifest, new_store, new_alg}
use Rattle.c2_new_file_spec.specs.Films.{new_bmff_binding, bmff_len, bmff_store_size}
use Rattle.c2_new_file_spec.proofs.Building.{boxed_store, bmff_fixed}
use Rattle.c2_new_front_spec.specs.Fronts.{CanBuildFront, CoveredTextIsKnown, FrontHasItsStore, IsMovable, OneFront, SomeFront, front_covered, front_file, front_store, moved_media, moved_roots, tables_of}
use Rattle.c2_new_front_spec.specs.InFront.{CanTakeFront, HasFrontRoom, HoldsFrontStore, front_place, front_with, open_first, others_text, put_in_front}
use Rattle.c2_spec.proofs.BmffShared.{c2pa_box_length}

-- ---- the media with moved places

-- the moved media is the media shifted
pub media_shifts : (len : ℕ) (media : List ℕ) (roots : List Box) → IsMovable media roots
    → IsShifted (front_place roots) len (tables_of media roots) media (moved_media len media roots)
media_shifts len media roots m =
    a_shifted_file_is_one_some (front_place roots) len (tables_of media roots) media m.bytes
    (a_shifted_file_has_its_boxes_apart media roots m.bytes m.has_roots m.unrefused)

-- with its root boxes
pub media_roots : (len : ℕ) (media : List ℕ) (roots : List Box) → IsMovable media roots
    → HasShiftedRoots media (moved_media len media roots) roots
media_roots len media roots m =
    a_shifted_file_has_its_boxes_roots (front_place roots) len media (moved_media len media roots) roots m.bytes
    m.has_roots m.unrefused (media_shifts len media roots m)

-- boxes in the same forms are open alike
pub open_by : (xs ys : List Box) → map (λ (b : Box). b.form) xs ≡ map (λ (b : Box). b.form) ys → open_first ys ≡ None
    → open_first xs ≡ None
open_by [] ys e h = refl
open_by (x ∷ xs) [] e h = absurd (cc (e))
open_by (x ∷ xs) (y ∷ ys) e h =
    let same : x.form ≡ y.form = heads x.form y.form (map (λ (b : Box). b.form) xs) (map (λ (b : Box). b.form) ys) e in
    ap (λ (f : SizeForm). cond {A = Option ℕ} (is_to_end f) (Some 0) None) same ∙ h
  where
    heads : (a b : SizeForm) (xs ys : List SizeForm) → a ∷ xs ≡ b ∷ ys → a ≡ b
    heads a b xs ys e = cc (e)

-- ---- the store in it

-- the moved media has room for it
front_room : (c : Content) (reserve : ℕ) (media : List ℕ) (roots : List Box) (size : ℕ)
    → CanBuildFront c reserve media roots → size ≡ bmff_store_size c reserve
    → HasFrontRoom (moved_media (bmff_len c reserve) media roots) (moved_roots (bmff_len c reserve) media roots) size
front_room c reserve media roots size can e =
    let len : ℕ = bmff_len c reserve in
    let boxes : HasShiftedRoots media (moved_media len media roots) roots = media_roots len media roots can.movable in
    let same : length (moved_media len media roots) ≡ length media = (media_shifts len media roots can.movable).size in
    record {
      has_roots = boxes.has_roots;
      closed = open_by (moved_roots len media roots) roots boxes.forms can.movable.closed;
      small = omega (arith, e, can.small);
      fits = omega (arith, e, can.fits, same);
      few = omega (arith, can.few, boxes.count);
    }

-- the moved media can take each store of this content
can_take : (hash : List ℕ → List ℕ) (c : Content) (digest message media : List ℕ) (roots : List Box)
    → HasDigestLen (new_alg c.definition) hash → length digest ≡ digest_len (new_alg c.definition)
    → CanBuildFront c (length message) media roots
    → CanTakeFront (moved_media (bmff_len c (length message)) media roots) (moved_roots (bmff_len c (length message)) media roots)
    (tree_bytes (new_store hash c (new_bmff_binding (new_alg c.definition) digest) message))
can_take hash c digest message media roots h n can =
    let store : Tree = new_store hash c (new_bmff_binding (new_alg c.definition) digest) message in
    let size : length (tree_bytes store) ≡ bmff_store_size c (length message) = bmff_fixed hash c digest message h n in
    record {
      room = front_room c (length message) media roots (length (tree_bytes store)) can size;
      others = (media_roots (bmff_len c (length message)) media roots can.movable).others can.movable.none;
      is_store =
          boxed_store c.carried (new_manifest hash c (new_bmff_binding (new_alg c.definition) digest) message)
          (omega (arith, size, can.small));
    }

-- the size of the new store
pub store_size : (hash : List ℕ → List ℕ) (c : Content) (message media : List ℕ) (roots : List Box)
    → HasDigestLen (new_alg c.definition) hash
    → length (tree_bytes (front_store hash c message media roots)) ≡ bmff_store_size c (length message)
store_size hash c message media roots h =
    bmff_fixed hash c (hash (front_covered (bmff_len c (length message)) media roots)) message h
    (h (front_covered (bmff_len c (length message)) media roots))

-- at the place that it has in the media
place_same : (len : ℕ) (media : List ℕ) (roots : List Box) → IsMovable media roots
    → front_place (moved_roots len media roots) ≡ front_place roots
place_same len media roots m = (media_roots len media roots m).first

-- the new file has the new store
pub front_holds : (hash : List ℕ → List ℕ) (c : Content) (message media : List ℕ) (roots : List Box)
    → HasDigestLen (new_alg c.definition) hash → CanBuildFront c (length message) media roots
    → HoldsFrontStore (moved_media (bmff_len c (length message)) media roots) (moved_roots (bmff_len c (length message)) media roots)
    (tree_bytes (front_store hash c message media roots)) (front_file hash c message media roots)
front_holds hash c message media roots h can =
    let len : ℕ = bmff_len c (length message) in
    let text : List ℕ = front_covered len media roots in
    let base : List ℕ = moved_media len media roots in
    let boxes : List Box = moved_roots len media roots in
    let store : List ℕ = tree_bytes (front_store hash c message media roots) in
    subst (λ (n : ℕ). HoldsFrontStore base boxes store (put_in n (box_bytes (c2pa_box store)) base))
    (place_same len media roots can.movable)
    (front_found base boxes store (can_take hash c (hash text) message media roots h (h text) can))

-- in its range, without which is the moved media
pub front_has : FrontHasItsStore
front_has hash c message media roots h can =
    let len : ℕ = bmff_len c (length message) in
    let held = front_holds hash c message media roots h can in
    let store : List ℕ = tree_bytes (front_store hash c message media roots) in
    let boxes : List Box = front_with store (moved_roots len media roots) in
    let size : c2pa_frame_len + length store ≡ len =
    ap (λ n. c2pa_frame_len + n) (store_size hash c message media roots h) in
    let place : front_place (moved_roots len media roots) ≡ front_place roots =
    place_same len media roots can.movable in
    record {
      store = record {
        roots = boxes;
        has_roots = held.has_roots;
        holds =
            subst (λ n. HoldsBmffStore boxes n len store) place
            (subst (λ n. HoldsBmffStore boxes (front_place (moved_roots len media roots)) n store) size held.holds);
      };
      left =
          ap₂ (λ (n m : ℕ). taken_out n m (front_file hash c message media roots)) (sym place) (sym size) ∙ held.left;
    }

-- ---- the covered text

-- what the exclusions leave of a file with a store of the new store's size
pub front_text_is :
    (c : Content) (reserve : ℕ) (media : List ℕ) (roots : List Box) (store : List ℕ) → IsMovable media roots
    → length store ≡ bmff_store_size c reserve
    → built_text (front_with store (moved_roots (bmff_len c reserve) media roots)) ≡ front_covered (bmff_len c reserve) media roots
front_text_is c reserve media roots store m size =
    let len : ℕ = bmff_len c reserve in
    front_told (moved_media len media roots) (moved_roots len media roots) store
    (media_roots len media roots m).has_roots
    ∙ ap (λ n. others_text (c2pa_frame_len + n) (moved_roots len media roots)) size

-- the covered text of the new file is known before the store
pub front_known : CoveredTextIsKnown
front_known c reserve media roots store can size =
    let len : ℕ = bmff_len c reserve in
    let boxes : List Box = front_with store (moved_roots len media roots) in
    record {
      has_roots = subst (λ n. HasRoots (put_in n (box_bytes (c2pa_box store)) (moved_media len media roots)) boxes) (place_same len media roots can.movable)
          (front_roots (moved_media len media roots) (moved_roots len media roots) store (front_room c reserve media roots (length store) can size));
      text = front_text_is c reserve media roots store can.movable size;
    }

-- ---- one file

-- the file is built so
pub front_is : SomeFront
front_is hash c message media roots h can =
    let len : ℕ = bmff_len c (length message) in
    let t : Tree = front_store hash c message media roots in
    let store : List ℕ = tree_bytes t in
    let file : List ℕ = front_file hash c message media roots in
    let held = front_holds hash c message media roots h can in
    let boxes : List Box = front_with store (moved_roots len media roots) in
    let cover : HasBuiltCover boxes (length file) =
    a_put_store_is_not_covered_some file boxes (length file) held.has_roots in
    let size : length store ≡ bmff_store_size c (length message) = store_size hash c message media roots h in
    let text : built_text boxes ≡ front_covered len media roots =
    front_text_is c (length message) media roots store can.movable size in
    record {
      roots = roots;
      movable = can.movable;
      place = refl;
      moves = can.moves;
      base = moved_media len media roots;
      shifts = media_shifts len media roots can.movable;
      boxes = boxes;
      has_boxes = held.has_roots;
      excluded = cover.excluded;
      text = built_text boxes;
      covers = cover.cover;
      store = t;
      store_is =
          ap (λ (x : List ℕ). new_store hash c (new_bmff_binding (new_alg c.definition) (hash x)) message) (sym text);
      size = sym (c2pa_box_length store ∙ ap (λ n. c2pa_frame_len + n) size);
      put = refl;
    }

-- two media files shifted by the same are one
base_same : (start len n : ℕ) (media base : List ℕ) (rs roots : List Box) → IsMovable media roots → rs ≡ roots
    → start ≡ front_place roots → len ≡ n
    → IsShifted start len (tables_of media rs) media base → base ≡ moved_media n media roots
base_same start len n media base rs roots m same place size shifts =
    let tables : List ChunkTable = tables_of media roots in
    let by_roots : IsShifted start len tables media base =
    subst (λ (bs : List Box). IsShifted start len (tables_of media bs) media base) same shifts in
    let by_place : IsShifted (front_place roots) len tables media base =
    subst (λ k. IsShifted k len tables media base) place by_roots in
    a_shifted_file_is_one_once (front_place roots) n tables media base (moved_media n media roots)
    (a_shifted_file_has_its_boxes_apart media roots m.bytes m.has_roots m.unrefused)
    (subst (λ k. IsShifted (front_place roots) k tables media base) size by_place) (media_shifts n media roots m)

-- no other file is built in front of a media file
pub front_once : OneFront
front_once hash c message media f start len roots h can b =
    let n : ℕ = bmff_len c (length message) in
    let base : List ℕ = moved_media n media roots in
    let moved : List Box = moved_roots n media roots in
    let store : List ℕ = tree_bytes b.store in
    let same : b.roots ≡ roots = roots_once media b.roots roots b.movable.has_roots can.movable.has_roots in
    let place : start ≡ front_place roots = b.place ∙ ap front_place same in
    let take : CanTakeFront base moved store =
    subst (λ (t : Tree). CanTakeFront base moved (tree_bytes t)) (sym b.store_is)
    (can_take hash c (hash b.text) message media roots h (h b.text) can) in
    let own : length store ≡ bmff_store_size c (length message) =
    ap (λ (t : Tree). length (tree_bytes t)) b.store_is ∙ bmff_fixed hash c (hash b.text) message h (h b.text) in
    let size : len ≡ n = b.size ∙ c2pa_box_length store ∙ ap (λ k. c2pa_frame_len + k) own in
    let bases : b.base ≡ base = base_same start len n media b.base b.roots roots can.movable same place size b.shifts in
    let put : f ≡ put_in_front base moved store =
    b.put
    ∙ ap₂ (λ (k : ℕ) (x : List ℕ). put_in k (box_bytes (c2pa_box store)) x)
    (place ∙ sym (place_same n media roots can.movable)) bases in
    let held : HoldsFrontStore base moved store (put_in_front base moved store) =
    front_found base moved store take in
    let boxes : b.boxes ≡ front_with store moved =
    roots_once f b.boxes (front_with store moved) b.has_boxes
    (subst (λ (x : List ℕ). HasRoots x (front_with store moved)) (sym put) held.has_roots) in
    let text : b.text ≡ front_covered n media roots =
    a_put_store_is_not_covered_text f b.boxes (length f) b.excluded b.text b.has_boxes b.covers ∙ ap built_text boxes ∙ front_text_is c (length message) media roots store can.movable own in
    let stores : b.store ≡ front_store hash c message media roots =
    b.store_is
    ∙ ap (λ (x : List ℕ). new_store hash c (new_bmff_binding (new_alg c.definition) (hash x)) message) text in
    let own_put : f ≡ put_in (front_place roots) (box_bytes (c2pa_box store)) base =
    b.put ∙ ap₂ (λ (k : ℕ) (x : List ℕ). put_in k (box_bytes (c2pa_box store)) x) place bases in
    record
    { bytes = own_put ∙ ap (λ (t : Tree). put_in (front_place roots) (box_bytes (c2pa_box (tree_bytes t))) base) stores; place = place; size = size }
