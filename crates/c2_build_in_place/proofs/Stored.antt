-- What crates that build cite of a new file in its place: what is bound, what is put in, how long its store is, and what is left of its media.
use Rattle.std.proofs.Common.{◌≡◌, ◌<◌, ◌≤◌, ◌-◌, ◌^◌, ℕ, List, length, option_map, Some, refl, sym, ap, ◌∙◌, subst, arith}
use Rattle.c2_base.specs.declared.limits.TheConstants.{MAX_STORE_LEN}
use Rattle.c2_spec.specs.Digest.{digest_len, zero_digest}
use Rattle.c2_spec.specs.Jpeg.Writing.{IsPacketStore, packets_bytes}
use Rattle.c2_spec.specs.Jumbf.Tree.{tree_bytes}
use Rattle.c2_spec.specs.PutIn.{put_in}
use Rattle.c2_spec.specs.declared.digest.Alg.{Alg}
use Rattle.c2_new_file_spec.specs.Built.{HasDigestLen, bound_len}
use Rattle.c2_new_file_spec.specs.Store.{Content, data_binding, new_alg, new_manifest, new_store}
use Rattle.c2_new_file_spec.proofs.BuiltLemmas.{packet_store}
use Rattle.c2_without_store.specs.Clears.{cleared, cleared_len}
use Rattle.c2_without_store.specs.Lengths.{cleared_size}
use Rattle.c2_without_store.specs.declared.clearing.Clearing.{Clearing}
use Rattle.c2_new_file_spec.specs.Places.{IsPlace, Place, binding_with, bound_text, in_boxes, in_segments, place_binding, place_file, place_start, put_bytes, range_len}
use Rattle.c2_build_refusals.specs.Refusals.{new_store_len}
use Rattle.c2_build_refusals.specs.InsertPoints.{IsInsertPoint}
use Rattle.c2_build_refusals.specs.declared.types.Draft.{Draft}
use Rattle.c2_build_refusals.specs.declared.types.Put.{Put}
use Rattle.c2_build_refusals.specs.declared.types.InsertPoint.{InsertPoint}
use Rattle.c2_build_parts.specs.Bound.{point_binding, point_store_len}
use Rattle.c2_build_parts.proofs.NewParts.{point_fixed, point_size, point_size_is}
use Rattle.c2_build_writing.specs.Puts.{put_of}
use Rattle.c2_build_in_place.specs.Numbers.{HasLen, IsDraft, IsNumbered, IsPut}
use Rattle.c2_build_in_place.proofs.Numbered.{point_range, point_store}
use Rattle.c2_build_in_place.specs.Writings.{ready_file}
use Rattle.c2_build_in_place.specs.declared.writing.Ready.{Ready}

-- ---- the binding

-- the binding of a point is that of its place
point_with : (alg : Alg) (s : InsertPoint) (p : Place) (start len : ℕ) (digest : List ℕ) → IsInsertPoint s p
    → start ≡ place_start p → point_binding alg s start len digest ≡ binding_with alg p len digest
point_with alg (InsertPoint.Segments at number) (in_segments segments en) start len digest h is =
    ap (λ (n : ℕ). data_binding alg n len digest) is
point_with alg (InsertPoint.Segments at number) (in_boxes roots) start len digest h is = absurd h
point_with alg (InsertPoint.Boxes rows) (in_segments segments en) start len digest h is = absurd h
point_with alg (InsertPoint.Boxes rows) (in_boxes roots) start len digest h is = refl

-- the binding of a new file's numbers is the one of its place
pub same_binding :
    (hash : List ℕ → List ℕ) (c : Content) (base : List ℕ) (alg : Alg) (s : InsertPoint) (f : Draft) (p : Place)
    (digest : List ℕ) (reserve : ℕ)
    → alg ≡ new_alg c.definition → reserve ≡ c.definition.reserve → IsInsertPoint s p → IsNumbered f c p
    → digest ≡ hash (bound_text base p)
    → point_binding alg s f.start f.length digest ≡ place_binding hash c reserve base p
same_binding hash c base alg s f p digest reserve own room point numbers is =
    point_with alg s p f.start f.length digest point numbers.start
    ∙ ap (λ (n : ℕ). binding_with alg p n digest) (numbers.length ∙ ap (range_len p c) (sym room))
    ∙ ap (binding_with alg p (range_len p c reserve)) is
    ∙ ap (λ (a : Alg). binding_with a p (range_len p c reserve) (hash (bound_text base p))) own

-- ---- what is put in

-- what is put in of a store
pub put_is : (put : Put) (p : Place) (store : List ℕ) → IsPut put p → put_bytes p store ≡ Some (put_of put store)
put_is (Put.Packets en) (in_segments segments number) store h = ap (option_map (packets_bytes store)) h
put_is (Put.Packets en) (in_boxes roots) store h = absurd h
put_is Put.Box (in_segments segments number) store h = absurd h
put_is Put.Box (in_boxes roots) store h = refl

-- the file that is ready is the base with it
pub file_is : (media base : List ℕ) (r : Ready) (p : Place) → base ≡ cleared r.clearing media
    → place_start p ≡ r.draft.start → place_file base p (put_of r.draft.put r.store) ≡ ready_file r media
file_is media base r p is start =
    let bytes : List ℕ = put_of r.draft.put r.store in
    ap (λ (n : ℕ). put_in n bytes base) start ∙ ap (put_in r.draft.start bytes) is

-- the store of a new file can go into packets
pub store_packs :
    (hash : List ℕ → List ℕ) (c : Content) (alg : Alg) (s : InsertPoint) (start len : ℕ)
    (digest message store : List ℕ)
    → alg ≡ new_alg c.definition → HasDigestLen alg hash → length digest ≡ digest_len alg
    → length message ≡ c.definition.reserve
    → point_store_len s c ≤ MAX_STORE_LEN
    → store ≡ tree_bytes (new_store hash c (point_binding alg s start len digest) message) → IsPacketStore store
store_packs hash c alg s start len digest message store own digests sized filled small is =
    let tree : List ℕ = tree_bytes (new_store hash c (point_binding alg s start len digest) message) in
    let size : length tree ≡ point_size s c (length message) =
    subst
    (λ (a : Alg). HasDigestLen a hash → length digest ≡ digest_len a → length (tree_bytes (new_store hash c (point_binding a s start len digest) message)) ≡ point_size s c (length message))
    (sym own)
    (point_fixed hash c s start len digest message) digests sized in
    let reserved : point_size s c (length message) ≡ point_store_len s c =
    ap (point_size s c) filled ∙ point_size_is s c in
    subst IsPacketStore (sym is)
    (packet_store c.carried (new_manifest hash c (point_binding alg s start len digest) message) (omega (arith, size, reserved, small)))

-- ---- how long a store is

-- with a blank binding it is as long as its place tells
pub blank_len : (s : InsertPoint) (c : Content)
    → bound_len c (point_binding (new_alg c.definition) s 0 0 (zero_digest (new_alg c.definition))) c.definition.reserve ≡ point_store_len s c
blank_len (InsertPoint.Segments start number) c = refl
blank_len (InsertPoint.Boxes rows) c = refl

-- 64 bits hold that length where they hold it at a place there
pub place_len : (s : InsertPoint) (p : Place) (c : Content) → IsInsertPoint s p → new_store_len p c < 2 ^ 64 - 1
    → HasLen s c
place_len s p c point h = subst (λ (n : ℕ). n < 2 ^ 64 - 1) (point_store s p c point) h

-- ---- the new file

-- the numbers of a draft are those of a new file at its place
pub numbered : (c : Content) (s : InsertPoint) (len : ℕ) (f : Draft) (base : List ℕ) (p : Place) → IsDraft c s len f
    → IsPlace base p → IsInsertPoint s p → IsNumbered f c p
numbered c s len f base p draft at point =
    let fitted = draft.fitted base p at point in
    record { start = fitted.start; put = fitted.put; length = draft.length ∙ sym (point_range s p c point) }

-- ---- what is left of a media file

-- how long a cleared file is
pub cleared_length : (c : Clearing) (file : List ℕ) → length (cleared c file) ≡ cleared_len c (length file)
cleared_length c file = cleared_size c (Some file) (length file) (λ bytes e. let same : file ≡ bytes = cc (e) in ap length (sym same)) (cleared c file) refl
