-- The file that is built of a JPEG file (C2PA Technical Specification 2.x, "Embedding manifests into assets"): the new store is put
-- in, whose binding holds the place and the length of what is put in, and the digest of what the file has outside it.
use Rattle.std.specs.Prelude.{◌≡◌, ℕ, List, length, replicate}
use Rattle.c2_spec.specs.Digest.{digest_len, zero_digest}
use Rattle.c2_spec.specs.Jpeg.Writing.{segments_len}
use Rattle.c2_spec.specs.Jumbf.Tree.{tree_bytes}
use Rattle.c2_spec.specs.declared.digest.Alg.{Alg}
use Rattle.c2_definition.specs.declared.types.NewAssertion.{NewAssertion}
use Rattle.c2_new_file_spec.specs.Store.{Content, data_binding, new_store, new_alg}

-- ---- the same without a circle

-- each digest by this algorithm is of zero bytes
abbrev pub no_digest : Alg → List ℕ → List ℕ
no_digest alg text = zero_digest alg

-- The new store's length with so many bytes for the signed message. It depends neither on the range nor on digests, so it is that of
-- a store with neither.
abbrev pub store_size : Content → ℕ → ℕ
store_size c reserve = length (tree_bytes (new_store (no_digest (new_alg c.definition)) c (data_binding (new_alg c.definition) 0 0 (zero_digest (new_alg c.definition))) (replicate reserve 0)))

-- The length of a new store with this binding and so many bytes for the signed message; digests beside the binding's don't count.
abbrev pub bound_len : Content → NewAssertion → ℕ → ℕ
bound_len c binding reserve = length (tree_bytes (new_store (no_digest (new_alg c.definition)) c binding (replicate reserve 0)))

-- the new range's length
abbrev pub built_len : Content → ℕ → ℕ
built_len c reserve = segments_len (store_size c reserve)

-- a hash whose digests have the length of this algorithm's
abbrev pub HasDigestLen : Alg → (List ℕ → List ℕ) → Type 0
HasDigestLen alg hash = (text : List ℕ) → length (hash text) ≡ digest_len alg

-- A new store's length depends neither on its range nor on digests.
abbrev pub StoreSizeIsFixed : Type 0
StoreSizeIsFixed = (hash : List ℕ → List ℕ) (c : Content) (start len : ℕ) (digest message : List ℕ)
    → HasDigestLen (new_alg c.definition) hash → length digest ≡ digest_len (new_alg c.definition)
    → length (tree_bytes (new_store hash c (data_binding (new_alg c.definition) start len digest) message)) ≡ store_size c (length message)

-- New stores whose bindings have one label and one size, and whose messages have one length, have one length.
abbrev pub StoreSizesAreSame : Type 0
StoreSizesAreSame = (f g : List ℕ → List ℕ) (c : Content) (a b : NewAssertion) (m n : List ℕ)
    → HasDigestLen (new_alg c.definition) f → HasDigestLen (new_alg c.definition) g → a.label ≡ b.label → length a.bytes ≡ length b.bytes → length m ≡ length n
    → length (tree_bytes (new_store f c a m)) ≡ length (tree_bytes (new_store g c b n))

-- a file and a range in it are these
pub record SameFile (f g : List ℕ) (start at len count : ℕ) : Type 0 where
  pub bytes : f ≡ g
  pub place : start ≡ at
  pub size : len ≡ count
