-- The file that is built of a BMFF file without a store so that the new store comes right after its file type box (C2PA Technical
-- Specification 2.x, "Embedding manifests into assets" and "BMFF-based hash"; ISO/IEC 14496-12, 8.7.5): the places in its chunk tables
-- from there on are greater by the length of the store's box, and the store's binding holds the digest of what its exclusions leave of
-- the new file.
use Rattle.std.specs.Prelude.{◌≡◌, ℕ, ◌+◌, ◌<◌, ◌≤◌, true, List, [], length, None}
use Rattle.c2_base.specs.declared.limits.TheConstants.{MAX_STORE_LEN, FILE_LEN_LIMIT}
use Rattle.c2_spec.specs.Bmff.Boxes.{Box, HasRoots, box_bytes, most_roots}
use Rattle.c2_spec.specs.Bmff.Cover.{IsBmffCover}
use Rattle.c2_spec.specs.Bmff.Store.{HasBmffStore}
use Rattle.c2_spec.specs.Bmff.Writing.{built_exclusions, built_text, c2pa_box}
use Rattle.c2_spec.specs.Container.{is_bmff}
use Rattle.c2_spec.specs.Jumbf.Tree.{Tree, tree_bytes}
use Rattle.c2_spec.specs.PutIn.{put_in, taken_out}
use Rattle.c2_bmff_rows.specs.Rows.{rows_of}
use Rattle.c2_bmff_chunks.specs.Fields.{overflow_places}
use Rattle.c2_bmff_chunks.specs.Laws.{AreBytes, roots_in}
use Rattle.c2_bmff_chunks.specs.Refusals.{shift_refusals}
use Rattle.c2_bmff_chunks.specs.Shifted.{IsShifted, shifted}
use Rattle.c2_bmff_chunks.specs.Tables.{chunk_tables}
use Rattle.c2_bmff_chunks.specs.declared.table.ChunkTable.{ChunkTable}
use Rattle.c2_new_file_spec.specs.Built.{HasDigestLen, SameFile}
use Rattle.c2_new_file_spec.specs.Store.{Content, new_store, new_alg}
use Rattle.c2_new_file_spec.specs.Films.{AreOthers, new_bmff_binding, bmff_len, bmff_store_size}
use Rattle.c2_new_front_spec.specs.InFront.{front_place, front_with, open_first, others_text}

-- ---- the new file

-- the chunk tables of a media file with these root boxes
abbrev pub tables_of : List ℕ → List Box → List ChunkTable
tables_of media roots = chunk_tables media (rows_of roots)

-- A BMFF file with these root boxes and without a store, whose boxes after the first can be moved: the first box says its size, and
-- nothing is there that stands in the way of moving media data. A file that begins as a JPEG and as a BMFF file is a JPEG, and so isn't
-- one of these.
pub record IsMovable (media : List ℕ) (roots : List Box) : Type 0 where
  pub film : is_bmff media ≡ true
  pub bytes : AreBytes media
  pub has_roots : HasRoots media roots
  pub none : AreOthers roots
  pub closed : open_first roots ≡ None
  pub unrefused : shift_refusals media (rows_of roots) ≡ []

-- The file is this media file with the box of a new store put in after its first root box, in this range, and with the places in its
-- chunk tables moved, each of which fits. The binding holds the digest of what its exclusions leave of the file itself. Here the content
-- and the message may be any, and the file of any size: `IsFrontFile` narrows them to the content of a definition alone, a message of as
-- many bytes as are reserved, and the limits on sizes.
pub record IsFrontBuilt (hash : List ℕ → List ℕ) (c : Content) (message media file : List ℕ) (start len : ℕ) : Type 0 where
  pub roots : List Box
  pub movable : IsMovable media roots
  pub place : start ≡ front_place roots
  pub moves : overflow_places start len media (tables_of media roots) ≡ []
  pub base : List ℕ
  pub shifts : IsShifted start len (tables_of media roots) media base
  pub boxes : List Box
  pub has_boxes : HasRoots file boxes
  pub excluded : List ℕ
  pub text : List ℕ
  pub covers : IsBmffCover boxes (length file) built_exclusions excluded text
  pub store : Tree
  pub store_is : store ≡ new_store hash c (new_bmff_binding (new_alg c.definition) (hash text)) message
  pub size : len ≡ length (box_bytes (c2pa_box (tree_bytes store)))
  pub put : file ≡ put_in start (box_bytes (c2pa_box (tree_bytes store))) base

-- ---- the new file by what is known before its store

-- a media file with these root boxes, with the places in its chunk tables from the end of the first box on greater by so many bytes
abbrev pub moved_media : ℕ → List ℕ → List Box → List ℕ
moved_media len media roots = shifted (front_place roots) len (tables_of media roots) media

-- the root boxes of that file
abbrev pub moved_roots : ℕ → List ℕ → List Box → List Box
moved_roots len media roots = roots_in (moved_media len media roots) roots

-- what the exclusions of the new store's binding leave of the new file, where so many bytes are put in
abbrev pub front_covered : ℕ → List ℕ → List Box → List ℕ
front_covered len media roots = others_text len (moved_roots len media roots)

-- the new store. Its length depends on no digest, so the bytes that its binding binds are known before the store is
abbrev pub front_store : (List ℕ → List ℕ) → Content → List ℕ → List ℕ → List Box → Tree
front_store hash c message media roots =
    new_store hash c (new_bmff_binding (new_alg c.definition) (hash (front_covered (bmff_len c (length message)) media roots))) message

-- the new file: the box of the new store, put in at the end of the first root box of the media with moved places
abbrev pub front_file : (List ℕ → List ℕ) → Content → List ℕ → List ℕ → List Box → List ℕ
front_file hash c message media roots =
    put_in (front_place roots) (box_bytes (c2pa_box (tree_bytes (front_store hash c message media roots))))
    (moved_media (bmff_len c (length message)) media roots)

-- ---- one file is built

-- A media file with these root boxes can take a store of this content after the first of them, with so many bytes for its message: the
-- boxes behind can be moved, each moved place fits into its field, the store isn't too large, nor has the new file too many bytes or
-- root boxes.
pub record CanBuildFront (c : Content) (reserve : ℕ) (media : List ℕ) (roots : List Box) : Type 0 where
  pub movable : IsMovable media roots
  pub small : bmff_store_size c reserve ≤ MAX_STORE_LEN
  pub fits : length media + bmff_len c reserve < FILE_LEN_LIMIT
  pub few : length roots < most_roots
  pub moves : overflow_places (front_place roots) (bmff_len c reserve) media (tables_of media roots) ≡ []

-- Where a media file can take a store of this content, `front_file` is the media with that store built in, and the new range begins
-- right behind the first root box.
abbrev pub SomeFront : Type 0
SomeFront = (hash : List ℕ → List ℕ) (c : Content) (message media : List ℕ) (roots : List Box)
    → HasDigestLen (new_alg c.definition) hash → CanBuildFront c (length message) media roots
    → IsFrontBuilt hash c message media (front_file hash c message media roots) (front_place roots) (bmff_len c (length message))

-- Where a media file can take a store of this content, each file that is the media with that store built in is `front_file`, with the
-- range right behind the first root box.
abbrev pub OneFront : Type 0
OneFront = (hash : List ℕ → List ℕ) (c : Content) (message media f : List ℕ) (start len : ℕ) (roots : List Box)
    → HasDigestLen (new_alg c.definition) hash → CanBuildFront c (length message) media roots
    → IsFrontBuilt hash c message media f start len
    → SameFile f (front_file hash c message media roots) start (front_place roots) len (bmff_len c (length message))

-- ---- the covered text

-- The box of a store with these bytes in it is put into the media with moved places, behind the file type box: the root boxes of the
-- file, and what the exclusions leave of it.
pub record HasCoveredText (c : Content) (reserve : ℕ) (media : List ℕ) (roots : List Box) (store : List ℕ) : Type 0 where
  pub has_roots : HasRoots (put_in (front_place roots) (box_bytes (c2pa_box store)) (moved_media (bmff_len c reserve) media roots))
      (front_with store (moved_roots (bmff_len c reserve) media roots))
  pub text : built_text (front_with store (moved_roots (bmff_len c reserve) media roots)) ≡ front_covered (bmff_len c reserve) media roots

-- All bytes that are as many as those of the new store give these root boxes, and the covered text of the new file.
abbrev pub CoveredTextIsKnown : Type 0
CoveredTextIsKnown = (c : Content) (reserve : ℕ) (media : List ℕ) (roots : List Box) (store : List ℕ)
    → CanBuildFront c reserve media roots → length store ≡ bmff_store_size c reserve → HasCoveredText c reserve media roots store

-- ---- what a reader finds

-- The new file has the new store in the new range, and less that range it is the media with moved places.
pub record HasNewStore (hash : List ℕ → List ℕ) (c : Content) (message media : List ℕ) (roots : List Box) : Type 0 where
  pub store : HasBmffStore (front_file hash c message media roots) (front_place roots) (bmff_len c (length message))
      (tree_bytes (front_store hash c message media roots))
  pub left : taken_out (front_place roots) (bmff_len c (length message)) (front_file hash c message media roots)
      ≡ moved_media (bmff_len c (length message)) media roots

-- Where a media file can take a store of this content, the file `front_file` has that store.
abbrev pub FrontHasItsStore : Type 0
FrontHasItsStore = (hash : List ℕ → List ℕ) (c : Content) (message media : List ℕ) (roots : List Box)
    → HasDigestLen (new_alg c.definition) hash → CanBuildFront c (length message) media roots
    → HasNewStore hash c message media roots
