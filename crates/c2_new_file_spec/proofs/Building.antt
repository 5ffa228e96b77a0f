-- The built film is the one that its definition asks for, and holds the new store.
use Rattle.c2_new_file_spec.proofs.StoreLaws.{new_stores_have_one_length}
use Rattle.c2_bmff_insert_spec.proofs.TheLaws.{a_put_store_is_found}
use Rattle.std.proofs.Common.{◌≡◌, ℕ, ◌+◌, ◌≤◌, Bool, true, false, cond, not, List, ◌++◌, length, replicate, None, Some, refl, sym, ◌∙◌, arith, codes, lit<}
use Rattle.std.proofs.lemmas.List.{length-replicate}
use Rattle.std.specs.Prelude.{nat_lt}
use Rattle.c2_base.specs.declared.limits.TheConstants.{MAX_STORE_LEN}
use Rattle.c2_spec.specs.Bmff.Boxes.{Box}
use Rattle.c2_spec.specs.C2pa.Manifest.{type_uuid}
use Rattle.c2_spec.specs.Digest.{digest_len, zero_digest}
use Rattle.c2_spec.specs.Jumbf.Faults.{box_head_fault, has_head, told_total}
use Rattle.c2_spec.specs.Jumbf.Tree.{Tree, Trees, boxed, description_bytes, tree_bytes, trees_bytes}
use Rattle.c2_spec.specs.Jumbf.Writing.{fresh_description}
use Rattle.c2_spec.specs.declared.jumbf.JumbfError.TheVariants.{BadHead, Overrun}
use Rattle.c2_spec.specs.declared.kinds.TheConstants.{JUMB}
use Rattle.c2_spec.proofs.JumbfHeads.{IsHeaded, box_headed}
use Rattle.c2_bmff_insert_spec.specs.Laws.{CanTake, HoldsNewStore}
use Rattle.c2_spec.specs.Bmff.Writing.{IsBoxStore, built_text}
use Rattle.c2_new_file_spec.specs.Built.{HasDigestLen, no_digest}
use Rattle.c2_new_file_spec.specs.FreshBoxes.{store_box, trees_then}
use Rattle.c2_new_file_spec.specs.Store.{Content, new_manifest, new_store, new_alg}
use Rattle.c2_new_file_spec.specs.Films.{AreOthers, CanBuildBmff, BmffBaseIsItsBase, BmffSizeIsFixed, new_bmff_binding, bmff_file, bmff_store, bmff_store_size}
use Rattle.c2_new_file_spec.proofs.Items.{binding_len}
use Rattle.c2_spec.specs.declared.digest.Alg.{Alg}
use Rattle.c2_spec.proofs.Digests.{zero_len}

-- ---- sizes

-- the new store in a BMFF file has one length
pub bmff_fixed : BmffSizeIsFixed
bmff_fixed hash c digest message h n =
    let alg : Alg = new_alg c.definition in
    new_stores_have_one_length hash (no_digest alg) c (new_bmff_binding alg digest)
    (new_bmff_binding alg (zero_digest alg)) message (replicate (length message) 0) h (λ text. zero_len alg) refl
    (binding_len alg digest n ∙ sym (binding_len alg (zero_digest alg) (zero_len alg)))
    (sym (length-replicate {A = ℕ} (length message) 0))

-- ---- the store in its box

-- a head without fault is there
good_head : (region : List ℕ) → box_head_fault 0 region ≡ None → has_head region ≡ true
unfolding box_head_fault
good_head region e = go (has_head region) e
  where
    go : (b : Bool)
        → cond (not b) (Some (BadHead 0)) (cond (nat_lt (length region) (told_total region)) (Some (Overrun 0)) None) ≡ None
        → b ≡ true
    go true h = refl
    go false h = absurd (cc (h))

-- a store that isn't too large can go into a C2PA box
pub boxed_store : (carried : Trees) (m : Tree) → length (tree_bytes (store_box carried m)) ≤ MAX_STORE_LEN
    → IsBoxStore (tree_bytes (store_box carried m))
boxed_store carried m small =
    let body : List ℕ =
    description_bytes (fresh_description (type_uuid (codes "c2pa")) (codes "c2pa")) ++ trees_bytes
    (trees_then carried m) in
    let size : length (tree_bytes (store_box carried m)) ≡ 8 + length body = omega arith in
    let head : IsHeaded (boxed JUMB false body) =
    box_headed (record { kind = JUMB; wide = false; payload = body })
    (record { type = lit< tt; total = omega (arith, size, small) }) in
    record { head = good_head (boxed JUMB false body) head.good; whole = head.whole; small = omega (arith, small) }

-- ---- the file

-- the base can take each store of this content
can_take : (hash : List ℕ → List ℕ) (c : Content) (digest message base : List ℕ) (roots : List Box)
    → HasDigestLen (new_alg c.definition) hash → length digest ≡ digest_len (new_alg c.definition)
    → CanBuildBmff c (length message) base roots → AreOthers roots
    → CanTake base roots (tree_bytes (new_store hash c (new_bmff_binding (new_alg c.definition) digest) message))
can_take hash c digest message base roots h n can none =
    let size : length (tree_bytes (new_store hash c (new_bmff_binding (new_alg c.definition) digest) message)) ≡ bmff_store_size c (length message) =
    bmff_fixed hash c digest message h n in
    record {
      has_roots = can.has_roots;
      others = none;
      closed = can.closed;
      is_store =
          boxed_store c.carried (new_manifest hash c (new_bmff_binding (new_alg c.definition) digest) message)
          (omega (arith, size, can.small));
      fits = omega (arith, size, can.fits);
      few = can.few;
    }

-- the new file has the new store
pub bmff_holds : (hash : List ℕ → List ℕ) (c : Content) (message base : List ℕ) (roots : List Box)
    → HasDigestLen (new_alg c.definition) hash → CanBuildBmff c (length message) base roots → AreOthers roots
    → HoldsNewStore base roots (tree_bytes (bmff_store hash c message roots)) (bmff_file hash c message base roots)
bmff_holds hash c message base roots h can none =
    a_put_store_is_found base roots (tree_bytes (bmff_store hash c message roots))
    (can_take hash c (hash (built_text roots)) message base roots h (h (built_text roots)) can none)

-- which is its base
pub bmff_base : BmffBaseIsItsBase
bmff_base hash c message base roots h can none = (bmff_holds hash c message base roots h can none).base_is
