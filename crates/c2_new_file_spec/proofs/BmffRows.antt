-- Worked films, computed: a definition with one assertion of actions, without a title, and 256 bytes reserved for the message, in a
-- file of 25 bytes, by each algorithm; and the same definition under another label in that file with the C2PA box of the first store, by
-- SHA-256, in the middle.
use Rattle.std.proofs.Common.{◌≡◌, ℕ, List, [], ◌∷◌, ◌++◌, length, replicate, None, refl, codes}
use Rattle.std.specs.Prelude.{Ok, Err}
use Rattle.std.specs.List.{flat_map}
use Rattle.c2_base.specs.declared.media.MediaError.TheVariants.{BadBox}
use Rattle.c2_spec.specs.Bmff.Boxes.{Box, short, to_end, box_bytes, box_len, boxes_len}
use Rattle.c2_spec.specs.Cbor.Deterministic.{shortest_head}
use Rattle.c2_spec.specs.Jumbf.Tree.{Tree, tree_bytes}
use Rattle.c2_spec.specs.Bmff.Writing.{base_roots, built_text, c2pa_box, freed, insert_place, place_without}
use Rattle.c2_definition.specs.declared.types.Definition.{Definition}
use Rattle.c2_definition.specs.declared.types.NewAssertion.{NewAssertion}
use Rattle.c2_new_file_spec.specs.Built.{no_digest}
use Rattle.c2_new_file_spec.specs.Fresh.{fresh_content}
use Rattle.c2_new_file_spec.specs.FreshBoxes.{contents_of, item_box}
use Rattle.c2_new_file_spec.specs.Store.{Content, NamedManifest, assertion_box, new_claim, new_manifest, parent_ingredient}
use Rattle.c2_new_file_spec.proofs.BuildRows.{actions}
use Rattle.c2_new_file_spec.specs.Parents.{IsContentOver}
use Rattle.c2_new_file_spec.specs.Redacting.{boxes_in, redacted_boxes}
use Rattle.c2_new_file_spec.specs.Films.{new_bmff_binding, bmff_file, bmff_len, bmff_store, bmff_store_size}
use Rattle.c2_spec.specs.Digest.{zero_digest}
use Rattle.c2_spec.specs.declared.digest.Alg.{Alg}
use Rattle.c2_spec.specs.declared.digest.Alg.TheVariants.{Sha256, Sha384, Sha512}

-- ---- a file without a store

-- the file type box
abbrev ftyp : Box
ftyp = record { form = short; kind = codes "ftyp"; payload = codes "isom" ++ replicate 4 0 }

-- a box with one byte
abbrev mdat : Box
mdat = record { form = short; kind = codes "mdat"; payload = 0x41 ∷ [] }

-- the root boxes of the file
abbrev film : List Box
film = ftyp ∷ mdat ∷ []

-- the bytes of the file
bmff_bytes : flat_map box_bytes film
    ≡ 0 ∷ 0 ∷ 0 ∷ 0x10 ∷ 0x66 ∷ 0x74 ∷ 0x79 ∷ 0x70 ∷ 0x69 ∷ 0x73 ∷ 0x6F ∷ 0x6D ∷ 0 ∷ 0 ∷ 0 ∷ 0 ∷ 0 ∷ 0 ∷ 0 ∷ 9 ∷ 0x6D
    ∷ 0x64 ∷ 0x61 ∷ 0x74 ∷ 0x41 ∷ []
bmff_bytes = refl

-- a new box goes to the end
bmff_place : place_without None film ≡ Ok 25
bmff_place = refl

-- a new box doesn't go behind a last box that says no size
open_place : place_without None (ftyp ∷ record { form = to_end; kind = codes "mdat"; payload = 0x41 ∷ [] } ∷ []) ≡ Err (BadBox 16)
open_place = refl

-- what is covered: the place of `mdat` in 8 bytes, and its bytes
new_bmff_text : built_text film ≡ 0 ∷ 0 ∷ 0 ∷ 0 ∷ 0 ∷ 0 ∷ 0 ∷ 0x10 ∷ 0 ∷ 0 ∷ 0 ∷ 9 ∷ 0x6D ∷ 0x64 ∷ 0x61 ∷ 0x74 ∷ 0x41 ∷ []
new_bmff_text = refl

-- ---- the store that is built into it

-- the label of a manifest, which ends so
abbrev label : List ℕ → List ℕ
label last = codes "urn:c2pa:00000000-0000-4000-8000-00000000000" ++ last

-- a definition under such a label, by this algorithm
unfoldable defined : Alg → List ℕ → Definition
defined alg last = record {
  label = label last;
  instance_id = codes "xmp:iid:sample";
  generator = codes "c2";
  title = None;
  protected = 0xA1 ∷ 0x01 ∷ 0x26 ∷ [];
  reserve = 256;
  assertions = actions ∷ [];
  redact = [];
  alg = alg;
}

-- the binding by an algorithm, with zeros for the digest
abbrev blank : Alg → NewAssertion
blank alg = new_bmff_binding alg (zero_digest alg)

-- the item of a binding has this length
binding_item : (length (blank Sha256).bytes ≡ 140) × (length (blank Sha384).bytes ≡ 156) × (length (blank Sha512).bytes ≡ 172)
unfolding shortest_head
binding_item = (refl, refl, refl)

-- how long its box is
abbrev box_size : Alg → ℕ
box_size alg = length (tree_bytes (assertion_box (blank alg)))

-- the length of a binding's box
binding_box : (box_size Sha256 ≡ 199) × (box_size Sha384 ≡ 215) × (box_size Sha512 ≡ 231)
unfolding shortest_head
binding_box = (refl, refl, refl)

-- what goes into the store
unfoldable fresh : Alg → Content
fresh alg = fresh_content (defined alg (codes "0"))

-- how long the claim is
abbrev claim_size : Alg → ℕ
claim_size alg = length (new_claim (no_digest alg) (fresh alg) (blank alg))

-- the claim has two digests
claim : (claim_size Sha256 ≡ 355) × (claim_size Sha384 ≡ 387) × (claim_size Sha512 ≡ 419)
unfolding fresh defined actions shortest_head
claim = (refl, refl, refl)

-- the store has one more, that of the binding
store : (bmff_store_size (fresh Sha256) 256 ≡ 1175) × (bmff_store_size (fresh Sha384) 256 ≡ 1223) × (bmff_store_size (fresh Sha512) 256 ≡ 1271)
unfolding fresh defined actions shortest_head
store = (refl, refl, refl)

-- the length of the store's box
store_box : (bmff_len (fresh Sha256) 256 ≡ 1220) × (bmff_len (fresh Sha384) 256 ≡ 1268) × (bmff_len (fresh Sha512) 256 ≡ 1316)
unfolding fresh defined actions shortest_head
store_box = (refl, refl, refl)

-- how long the new file is
abbrev file_size : Alg → ℕ
file_size alg = length (bmff_file (no_digest alg) (fresh alg) (replicate 256 0) (flat_map box_bytes film) film)

-- the length of the new file
file : (file_size Sha256 ≡ 1245) × (file_size Sha384 ≡ 1293) × (file_size Sha512 ≡ 1341)
unfolding fresh defined actions shortest_head
file = (refl, refl, refl)

-- ---- the file with that box in the middle

-- the first store, by SHA-256
unfoldable first : Tree
first = bmff_store (no_digest Sha256) (fresh Sha256) (replicate 256 0) film

-- the box of the first store
abbrev old : Box
old = c2pa_box (tree_bytes first)

-- which is freed where it stands
base : base_roots (ftyp ∷ []) old (mdat ∷ []) ≡ ftyp ∷ freed old ∷ mdat ∷ []
base = refl

-- at this place
old_place : boxes_len (ftyp ∷ []) ≡ 16
old_place = refl

-- in these bytes
old_len : box_len (freed old) ≡ 1220
unfolding first fresh defined actions shortest_head
old_len = refl

-- a new box goes to the end, where the older one is freed
new_place : insert_place (ftyp ∷ freed old ∷ mdat ∷ []) ≡ 1245
unfolding first fresh defined actions shortest_head
new_place = refl

-- the manifest that is carried, and that is the parent
unfoldable manifest : Tree
manifest = new_manifest (no_digest Sha256) (fresh Sha256) (blank Sha256) (replicate 256 0)

-- the signature box of the manifest that is carried
abbrev signature : Tree
signature = item_box (codes "c2cs") (codes "c2pa.signature") (replicate 256 0)

-- the parent
unfoldable parent : NamedManifest
parent = record { label = label (codes "0"); contents = contents_of manifest; signed = contents_of signature }

-- what goes into the new store
unfoldable second : Alg → Content
second alg =
    record
    { definition = defined alg (codes "1"); carried = redacted_boxes [] (boxes_in first); ingredients = parent_ingredient parent ∷ [] }

-- as it is over the first, whatever its own algorithm is
is_over : (alg : Alg) → IsContentOver (defined alg (codes "1")) first (second alg)
unfolding second parent first manifest fresh defined actions shortest_head
is_over alg = record {
  definition = refl;
  carried = refl;
  parent = parent;
  ingredients = refl;
  is_parent =
      record
      { active = manifest; is_active = refl; label = refl; contents = refl; signature = signature; is_signature = refl; signed = refl };
}

-- the length of the second store's box: what is carried keeps its digests, and the new manifest has six of its own
second_box : (bmff_len (second Sha256) 256 ≡ 2792) × (bmff_len (second Sha384) 256 ≡ 2888) × (bmff_len (second Sha512) 256 ≡ 2984)
unfolding second parent first fresh defined actions shortest_head
second_box = (refl, refl, refl)
