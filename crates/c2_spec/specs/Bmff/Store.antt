-- The C2PA store of a BMFF file (C2PA Technical Specification 2.x, embedding in BMFF; ISO/IEC 14496-12), and the first test that
-- fails where there is none.
--
-- Both are said of the file's root boxes as a list. Nothing here reads, keeps or stops.
use Rattle.std.specs.Prelude.{◌≡◌, ℕ, ◌^◌, ◌<◌, ◌≤◌, Bool, true, false, not, ◌&&◌, ◌||◌, List, [], ◌∷◌, ◌++◌, length, take, drop, codes, Option, Some, None, nat_le, nat_lt, if◌then◌else◌}
use Rattle.std.specs.List.{AllByRecursion, list_any}
use Rattle.std.specs.Str.{bytes_eq}
use Rattle.c2_base.specs.declared.media.MediaError.{MediaError}
use Rattle.c2_base.specs.declared.media.MediaError.TheVariants.{NotMedia, FileTooLarge, TwoStores, BadProvenanceBox, StoreTooLarge}
use Rattle.c2_spec.specs.Bmff.Boxes.{Box, HasRoots, RootFault, box_len, boxes_len, begins_bmff, uuid_kind}
use Rattle.c2_spec.specs.Jumbf.Faults.{has_head, told_total}
use Rattle.c2_spec.specs.Located.{Located, refused, absent, here, refusal}

-- ---- the C2PA box

-- the user type of the boxes of C2PA
abbrev pub c2pa_user_type : List ℕ
c2pa_user_type =
    0xD8 ∷ 0xFE ∷ 0xC3 ∷ 0xD6 ∷ 0x1B ∷ 0x0E ∷ 0x48 ∷ 0x3C ∷ 0x92 ∷ 0x97 ∷ 0x58 ∷ 0x28 ∷ 0x87 ∷ 0x7E
    ∷ 0xC4 ∷ 0x81 ∷ []

-- a `uuid` box with this user type
unfoldable pub is_c2pa_box : Box → Bool
is_c2pa_box b = bytes_eq b.kind uuid_kind && bytes_eq (take 16 b.payload) c2pa_user_type

-- what stands after the user type: version and flags, a purpose that a zero byte ends, and what the purpose has
abbrev pub content_of : Box → List ℕ
content_of b = drop 16 b.payload

-- version and flags are zero
abbrev pub is_version_zero : List ℕ → Bool
is_version_zero content = bytes_eq (take 4 content) (0 ∷ 0 ∷ 0 ∷ 0 ∷ [])

-- the purpose is `manifest`; a purpose that is cut short is another
abbrev pub is_for_manifest : List ℕ → Bool
is_for_manifest content = bytes_eq (take 9 (drop 4 content)) (codes "manifest" ++ 0 ∷ [])

-- what stands after the purpose `manifest` and the offset of the first Merkle box, which is 8 bytes and passes unread
abbrev pub store_part : List ℕ → List ℕ
store_part content = drop 21 content

-- the offset is there, and a JUMBF box that ends inside the content
abbrev pub has_store_box : List ℕ → Bool
has_store_box content =
    nat_le 21 (length content) && has_head (store_part content)
    && nat_le (told_total (store_part content)) (length (store_part content))

-- the length of that box, and its bytes; those after it are padding
abbrev pub store_len : List ℕ → ℕ
store_len content = told_total (store_part content)

-- the bytes of the store
abbrev pub store_in : List ℕ → List ℕ
store_in content = take (store_len content) (store_part content)

-- the largest store
abbrev pub most_store_bytes : ℕ
most_store_bytes = 33554432

-- a C2PA box for a manifest store
unfoldable pub is_store_box : Box → Bool
is_store_box b = is_c2pa_box b && is_version_zero (content_of b) && is_for_manifest (content_of b)

-- a box that has no part in the store: no C2PA box, or one for another purpose
unfoldable pub is_other_box : Box → Bool
is_other_box b =
    not (is_c2pa_box b) || (is_version_zero (content_of b) && not (is_for_manifest (content_of b)))

-- Among these root boxes one holds this store, from `start` on in `len` bytes of the file, and the others have no part in one.
pub record HoldsBmffStore (roots : List Box) (start len : ℕ) (store : List ℕ) : Type 0 where
  pub before : List Box
  pub holder : Box
  pub after : List Box
  pub split : roots ≡ before ++ holder ∷ after
  pub is_holder : is_store_box holder ≡ true
  pub whole : has_store_box (content_of holder) ≡ true
  pub bytes : store ≡ store_in (content_of holder)
  pub small : length store ≤ most_store_bytes
  pub others_before : AllByRecursion (λ b. is_other_box b ≡ true) before
  pub others_after : AllByRecursion (λ b. is_other_box b ≡ true) after
  pub from : start ≡ boxes_len before
  pub for : len ≡ box_len holder

-- The file has this store in this range.
pub record HasBmffStore (file : List ℕ) (start len : ℕ) (store : List ℕ) : Type 0 where
  pub roots : List Box
  pub has_roots : HasRoots file roots
  pub holds : HoldsBmffStore roots start len store

-- No root box of the file has a part in a store.
pub record HasNoBmffStore (file : List ℕ) : Type 0 where
  pub roots : List Box
  pub has_roots : HasRoots file roots
  pub none : AllByRecursion (λ b. is_other_box b ≡ true) roots

-- ---- the first test that fails

-- the tests on a C2PA box at p with this content, where a store was found before or not
unfoldable pub c2pa_fault : Bool → ℕ → List ℕ → Option MediaError
c2pa_fault found p content =
    if not (is_version_zero content) then Some (BadProvenanceBox p)
    else if not (is_for_manifest content) then None
    else if found then Some (TwoStores p)
    else if not (has_store_box content) then Some (BadProvenanceBox p)
    else if nat_lt most_store_bytes (store_len content)
    then Some (StoreTooLarge (store_len content))
    else None

-- the first test that fails at a root box, after those before it
abbrev pub provenance_fault : List Box → Box → Option MediaError
provenance_fault before b =
    if is_c2pa_box b
    then c2pa_fault (list_any is_store_box before) (boxes_len before) (content_of b)
    else None

-- each box passes its tests
abbrev pub AllRootsPass : List Box → Type 0
AllRootsPass roots =
    (before after : List Box) (b : Box) → roots ≡ before ++ b ∷ after
    → provenance_fault before b ≡ None

-- The first C2PA box of a file that fails, where the walk of the root boxes came to its end.
pub record ProvenanceFault (file : List ℕ) (fault : MediaError) : Type 0 where
  pub roots : List Box
  pub has_roots : HasRoots file roots
  pub before : List Box
  pub bad : Box
  pub after : List Box
  pub split : roots ≡ before ++ bad ∷ after
  pub passing : AllRootsPass before
  pub fails : provenance_fault before bad ≡ Some fault

-- The first test of the file that fails.
pub data FirstBmffFault (file : List ℕ) : MediaError → Type 0 where
  too_large : 2 ^ 62 ≤ length file → FirstBmffFault file (FileTooLarge (length file))
  not_media : length file < 2 ^ 62 → begins_bmff file ≡ false → FirstBmffFault file NotMedia
  root : (fault : MediaError) → length file < 2 ^ 62 → begins_bmff file ≡ true
      → RootFault file fault → FirstBmffFault file fault
  provenance : (fault : MediaError) → ProvenanceFault file fault → FirstBmffFault file fault

-- What a BMFF file comes to.
abbrev pub IsBmffLocated : List ℕ → Located → Type 0
IsBmffLocated file (refused reason n) =
    (e : MediaError) × FirstBmffFault file e × (refusal e ≡ Some (refused reason n))
IsBmffLocated file absent = HasNoBmffStore file
IsBmffLocated file (here start len store) = HasBmffStore file start len store
