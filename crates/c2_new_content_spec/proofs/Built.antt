-- There is one file that a new store is put into at a split, and it is known before the store.
use Rattle.std.proofs.Common.{◌≡◌, ℕ, ◌≤◌, List, length, refl, sym, ap, ◌∙◌, subst, arith}
use Rattle.std.proofs.lemmas.Option.{same_Some}
use Rattle.c2_base.specs.declared.limits.TheConstants.{MAX_STORE_LEN}
use Rattle.c2_spec.specs.Jumbf.Tree.{Tree, tree_bytes}
use Rattle.c2_spec.specs.declared.digest.Alg.{Alg}
use Rattle.c2_new_file_spec.specs.Store.{new_alg, new_store}
use Rattle.c2_new_content_spec.specs.Built.{FileAtSplitIsOne, FileIsBuiltAt}
use Rattle.c2_new_content_spec.specs.Contents.{content_len, content_size, content_store}
use Rattle.c2_new_content_spec.specs.Holding.{CoversAt}
use Rattle.c2_new_content_spec.specs.Splits.{CanHold, HasRoomFor, IsSplitStore, split_binding, split_file, split_len, split_piece, split_text}
use Rattle.c2_new_content_spec.proofs.Contents.{can_hold, size_fixed, store_size, stored_at}
use Rattle.c2_new_content_spec.proofs.Holding.{text_covered, text_one}

-- the file is built so
pub file_built : FileIsBuiltAt
file_built hash c message base piece s sized can put =
    let t : Tree = content_store hash c message base s in
    let size : length (tree_bytes t) ≡ content_size s c (length message) =
    store_size hash c message base s sized in
    let file : List ℕ = split_file base s piece in
    record {
      text = split_text base s (content_len s c (length message));
      covers = subst (λ n. CoversAt s (split_len s n) file (split_text base s (split_len s n))) size
          (text_covered base s (tree_bytes t) piece (can_hold hash c message base s sized can) put);
      store = t;
      store_is = refl;
      piece = piece;
      is_piece = put;
      size = ap (split_len s) (sym size);
      put = refl;
    }

-- no other file is built at a split
pub file_one : FileAtSplitIsOne
file_one hash c message base piece s file len sized can put b =
    let alg : Alg = new_alg c.definition in
    let n : ℕ = content_len s c (length message) in
    let digest : List ℕ = hash b.text in
    let t : Tree = new_store hash c (split_binding alg s len digest) message in
    let fixed : length (tree_bytes t) ≡ content_size s c (length message) =
    size_fixed hash c s len digest message sized (sized b.text) in
    let size : length (tree_bytes b.store) ≡ content_size s c (length message) =
    ap (λ (x : Tree). length (tree_bytes x)) b.store_is ∙ fixed in
    let count : len ≡ n = b.size ∙ ap (split_len s) size in
    let small : length (tree_bytes t) ≤ MAX_STORE_LEN = omega (arith, fixed, can.room.small) in
    let hold : CanHold base s (tree_bytes b.store) = record {
      room = subst (HasRoomFor base s) (sym size) can.room;
      free = can.free;
      stored = subst (λ (x : Tree). IsSplitStore s (tree_bytes x)) (sym b.store_is)
          (stored_at hash c (split_binding alg s len digest) message s small);
    } in
    let covers : CoversAt s (split_len s (length (tree_bytes b.store))) (split_file base s b.piece) b.text =
    subst (λ k. CoversAt s k (split_file base s b.piece) b.text) b.size
    (subst (λ (f : List ℕ). CoversAt s len f b.text) b.put b.covers) in
    let text : b.text ≡ split_text base s n =
    text_one base s (tree_bytes b.store) b.piece b.text hold b.is_piece covers
    ∙ ap (λ k. split_text base s (split_len s k)) size in
    let store : b.store ≡ content_store hash c message base s =
    b.store_is ∙ ap (λ (x : List ℕ). new_store hash c (split_binding alg s len (hash x)) message) text
    ∙ ap (λ k. new_store hash c (split_binding alg s k (hash (split_text base s n))) message) count in
    let same : b.piece ≡ piece =
    same_Some b.piece piece (sym b.is_piece ∙ ap (λ (x : Tree). split_piece s (tree_bytes x)) store ∙ put) in
    (b.put ∙ ap (split_file base s) same, count)
