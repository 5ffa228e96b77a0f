-- The file that is built of a BMFF file (C2PA Technical Specification 2.x, "Embedding manifests into assets" and "BMFF-based hash"): the
-- C2PA box of the new store is put in, and the store's binding holds the digest of what its exclusions leave of the new file.
use Rattle.std.specs.Prelude.{◌≡◌, ℕ, ◌+◌, ◌<◌, ◌≤◌, true, List, length, replicate, codes, Some, None}
use Rattle.std.specs.List.{AllByRecursion}
use Rattle.c2_base.specs.declared.limits.TheConstants.{MAX_STORE_LEN, FILE_LEN_LIMIT}
use Rattle.c2_spec.specs.Bmff.Boxes.{Box, HasRoots, most_roots}
use Rattle.c2_spec.specs.Bmff.Hash.{BmffHash}
use Rattle.c2_spec.specs.Bmff.Paths.{placed_from}
use Rattle.c2_spec.specs.Bmff.Store.{is_other_box}
use Rattle.c2_spec.specs.Cbor.Deterministic.{deterministic}
use Rattle.c2_spec.specs.Digest.{alg_name, digest_len, zero_digest}
use Rattle.c2_spec.specs.Jumbf.Tree.{Tree, tree_bytes}
use Rattle.c2_bmff_insert_spec.specs.Laws.{file_with}
use Rattle.c2_spec.specs.Bmff.Writing.{IsBmffBase, built_exclusions, built_text, c2pa_frame_len, open_end}
use Rattle.c2_assertion.specs.Written.{bmff_hash_item}
use Rattle.c2_definition.specs.declared.types.NewAssertion.{NewAssertion}
use Rattle.c2_definition.specs.declared.types.Payload.TheVariants as payload
use Rattle.c2_new_file_spec.specs.Built.{HasDigestLen, no_digest}
use Rattle.c2_new_file_spec.specs.Store.{Content, new_store, new_alg}
use Rattle.c2_spec.specs.declared.digest.Alg.{Alg}

-- ---- the binding

-- The BMFF hash of a new file with this digest by an algorithm. It excludes the C2PA boxes, the file type box, and `mfra`.
abbrev pub new_bmff_hash : Alg → List ℕ → BmffHash
new_bmff_hash alg digest = record { exclusions = built_exclusions; alg = Some (alg_name alg); hash = digest }

-- the binding to what these leave of a file
abbrev pub new_bmff_binding : Alg → List ℕ → NewAssertion
new_bmff_binding alg digest = record {
  label = codes "c2pa.hash.bmff.v2";
  kind = payload.Cbor;
  bytes = deterministic (bmff_hash_item (new_bmff_hash alg digest));
}

-- ---- the new file

-- none of these root boxes has a part in a store
abbrev pub AreOthers : List Box → Type 0
AreOthers roots = AllByRecursion (λ (b : Box). is_other_box b ≡ true) roots

-- ---- the same without a circle

-- The new store's length with so many bytes for the signed message. It doesn't depend on digests, so it is that of a store with none.
abbrev pub bmff_store_size : Content → ℕ → ℕ
bmff_store_size c reserve = length (tree_bytes (new_store (no_digest (new_alg c.definition)) c (new_bmff_binding (new_alg c.definition) (zero_digest (new_alg c.definition))) (replicate reserve 0)))

-- the length of the new store's box, which is the new range's
abbrev pub bmff_len : Content → ℕ → ℕ
bmff_len c reserve = c2pa_frame_len + bmff_store_size c reserve

-- the new store over a base of these root boxes: what its exclusions leave of the new file is told by them alone
abbrev pub bmff_store : (List ℕ → List ℕ) → Content → List ℕ → List Box → Tree
bmff_store hash c message roots = new_store hash c (new_bmff_binding (new_alg c.definition) (hash (built_text roots))) message

-- the new file over a base of these root boxes
abbrev pub bmff_file : (List ℕ → List ℕ) → Content → List ℕ → List ℕ → List Box → List ℕ
bmff_file hash c message base roots = file_with base roots (tree_bytes (bmff_store hash c message roots))

-- ---- both are one

-- A base of these root boxes, of which the last isn't open, for a new store with so many bytes for its message: the store isn't too
-- large, nor has the new file too many bytes or too many root boxes.
pub record CanBuildBmff (c : Content) (reserve : ℕ) (base : List ℕ) (roots : List Box) : Type 0 where
  pub has_roots : HasRoots base roots
  pub closed : open_end (placed_from 0 roots) ≡ None
  pub small : bmff_store_size c reserve ≤ MAX_STORE_LEN
  pub fits : length base + bmff_len c reserve < FILE_LEN_LIMIT
  pub few : length roots < most_roots

-- The binding's item has one length for all digests of an algorithm.
abbrev pub BindingHasOneLength : Type 0
BindingHasOneLength = (alg : Alg) (digest : List ℕ) → length digest ≡ digest_len alg
    → length (deterministic (bmff_hash_item (new_bmff_hash alg digest))) ≡ 108 + digest_len alg

-- The length of a new store in a BMFF file doesn't depend on digests.
abbrev pub BmffSizeIsFixed : Type 0
BmffSizeIsFixed = (hash : List ℕ → List ℕ) (c : Content) (digest message : List ℕ)
    → HasDigestLen (new_alg c.definition) hash → length digest ≡ digest_len (new_alg c.definition)
    → length (tree_bytes (new_store hash c (new_bmff_binding (new_alg c.definition) digest) message)) ≡ bmff_store_size c (length message)

-- ---- what a reader finds

-- The base is what is built over when another store is put into the file that is built over it.
abbrev pub BmffBaseIsItsBase : Type 0
BmffBaseIsItsBase = (hash : List ℕ → List ℕ) (c : Content) (message base : List ℕ) (roots : List Box)
    → HasDigestLen (new_alg c.definition) hash → CanBuildBmff c (length message) base roots → AreOthers roots
    → IsBmffBase (bmff_file hash c message base roots) base roots
