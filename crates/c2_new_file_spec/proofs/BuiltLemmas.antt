-- The built file is the one that its definition asks for, and holds the new store.
use Rattle.c2_assertion.proofs.TheLaws.{a_written_data_hash_has_one_length_any}
use Rattle.std.proofs.Common.{◌≡◌, ℕ, ◌+◌, ◌≤◌, List, [], ◌∷◌, ◌++◌, length, replicate, Some, refl, sym, ap, ◌∙◌, arith, codes}
use Rattle.std.proofs.lemmas.List.{length-replicate}
use Rattle.std.specs.Int.{w32, to_be_bytes}
use Rattle.c2_base.specs.declared.limits.TheConstants.{MAX_STORE_LEN}
use Rattle.c2_spec.proofs.Digests.{zero_len}
use Rattle.c2_spec.specs.declared.digest.Alg.{Alg}
use Rattle.c2_spec.specs.C2pa.Manifest.{type_uuid}
use Rattle.c2_spec.specs.Cover.{data_text}
use Rattle.c2_spec.specs.Digest.{alg_name, zero_digest}
use Rattle.c2_spec.specs.Jpeg.Writing.{IsPacketStore}
use Rattle.c2_spec.specs.Jumbf.Tree.{Tree, Trees, tree_bytes, trees_bytes, description_bytes}
use Rattle.c2_spec.specs.Jumbf.Writing.{fresh_description}
use Rattle.c2_spec.specs.PutIn.{put_in, taken_out}
use Rattle.c2_spec.proofs.Kept.{kept_around}
use Rattle.c2_new_file_spec.specs.Built.{no_digest, HasDigestLen, StoreSizeIsFixed}
use Rattle.c2_new_file_spec.specs.FreshBoxes.{store_box, trees_then}
use Rattle.c2_new_file_spec.specs.Store.{data_binding, range_at, new_alg}
use Rattle.c2_new_file_spec.proofs.Put.{put_len, put_taken}
use Rattle.c2_new_file_spec.proofs.StoreSize.{same_size, store_len}

-- ---- sizes

-- a digest of zero bytes is as long as any
pub no_digest_len : (alg : Alg) → HasDigestLen alg (no_digest alg)
no_digest_len alg text = zero_len alg

-- a new store's length depends neither on its range nor on digests
pub fixed_size : StoreSizeIsFixed
fixed_size hash c start len digest message h n =
    same_size hash (no_digest (new_alg c.definition)) c (data_binding (new_alg c.definition) start len digest)
    (data_binding (new_alg c.definition) 0 0 (zero_digest (new_alg c.definition))) message
    (replicate (length message) 0) h (no_digest_len (new_alg c.definition)) refl
    (a_written_data_hash_has_one_length_any (Some (alg_name (new_alg c.definition))) digest (zero_digest (new_alg c.definition)) (range_at start len) (range_at 0 0) (n ∙ sym (zero_len (new_alg c.definition))))
    (sym (length-replicate {A = ℕ} (length message) 0))

-- ---- a new store can go into packets

-- a store that isn't too large can be cut into packets
pub packet_store : (carried : Trees) (m : Tree) → length (tree_bytes (store_box carried m)) ≤ MAX_STORE_LEN
    → IsPacketStore (tree_bytes (store_box carried m))
packet_store carried m small =
    let body : List ℕ =
    description_bytes (fresh_description (type_uuid (codes "c2pa")) (codes "c2pa")) ++ trees_bytes
    (trees_then carried m) in
    let size : length (tree_bytes (store_box carried m)) ≡ 8 + length body = omega arith in
    record {
      sized = record { least = omega (arith, store_len carried m); most = small };
      lbox = ap (to_be_bytes w32) (sym size);
      tbox = refl;
      described = refl;
      of_c2pa = refl;
    }

-- ---- the file

-- the text outside what was put in is the base
pub covers_base : (start len : ℕ) (piece base : List ℕ) → start ≤ length base → len ≡ length piece
    → data_text (range_at start len ∷ []) (put_in start piece base) ≡ base
covers_base start len piece base l e =
    kept_around (range_at start len) (put_in start piece base) (omega (arith, l, e, put_len start piece base))
    ∙ ap (λ n. taken_out start n (put_in start piece base)) e ∙ put_taken start piece base l

-- ---- what a reader finds
