-- The binding of a new BMFF file: how long its item is, and that it is read as it was written.
use Rattle.c2_cbor_spec.proofs.TheLaws.{sorting_keeps_the_length}
use Rattle.c2_assertion.proofs.TheLaws.{a_written_bmff_hash_is_read, written_items_are_in_order_bmff, written_items_have_plain_keys_bmff}
use Rattle.std.specs.Prelude.{All}
use Rattle.std.proofs.Common.{◌≡◌, ℕ, ◌+◌, List, [], ◌∷◌, length, Ok, refl, ap, ◌∙◌, subst, arith, codes, length-append, lit<, lit≤}
use Rattle.std.proofs.lemmas.List.Elements.{All-cons, All-nil}
use Rattle.c2_spec.specs.Bmff.Boxes.{ftyp_kind, uuid_kind}
use Rattle.c2_spec.specs.Bmff.Hash.{BmffHash, bmff_hash_of}
use Rattle.c2_spec.specs.Bmff.Store.{c2pa_user_type}
use Rattle.c2_spec.specs.Cbor.Deterministic.{deterministic, preferred, preferred_pairs, shortest_head}
use Rattle.c2_spec.specs.Cbor.Fields.{HasItem}
use Rattle.c2_spec.specs.Cbor.Item.{Item, Pairs, bytes, no_pairs, pair, text}
use Rattle.c2_spec.specs.Digest.{digest_len, alg_name}
use Rattle.c2_spec.specs.declared.digest.Alg.TheVariants.{Sha256, Sha384, Sha512}
use Rattle.c2_spec.specs.Bmff.Writing.{all_of, built_exclusions, mfra_kind}
use Rattle.c2_assertion.specs.ReadBack.{IsReadable}
use Rattle.c2_assertion.specs.Written.{bmff_hash_item, exclusion_item, exclusions_item}
use Rattle.c2_new_file_spec.proofs.GoodItems.{Good, good_read}
use Rattle.c2_new_file_spec.proofs.Spelled.{Fits}
use Rattle.c2_new_file_spec.proofs.Texts.{plain_text, name_utf8}
use Rattle.c2_new_file_spec.specs.Films.{BindingHasOneLength, new_bmff_hash}
use Rattle.c2_spec.specs.declared.digest.Alg.{Alg}
use Rattle.c2_spec.proofs.Digests.{len_bounds}
use Rattle.c2_spec.proofs.CborShared.{length_pair}

-- ---- how long it is

-- the exclusions
exclusions_len : length (preferred (exclusions_item built_exclusions)) ≡ 78
unfolding shortest_head
exclusions_len = refl

-- the name of an algorithm
name_item_len : (alg : Alg) → length (preferred (text (alg_name alg))) ≡ 7
unfolding shortest_head
name_item_len Sha256 = refl
name_item_len Sha384 = refl
name_item_len Sha512 = refl

-- a digest has two bytes before it
head_and_digest : (alg : Alg) → length (shortest_head 2 (digest_len alg)) + digest_len alg ≡ 2 + digest_len alg
unfolding shortest_head
head_and_digest Sha256 = refl
head_and_digest Sha384 = refl
head_and_digest Sha512 = refl

-- the item of a digest has two bytes more than the digest
digest_item_len : (alg : Alg) (digest : List ℕ) → length digest ≡ digest_len alg
    → length (preferred (bytes digest)) ≡ 2 + digest_len alg
digest_item_len alg digest e =
    length-append (shortest_head 2 (length digest)) digest ∙ ap (λ n. length (shortest_head 2 n) + n) e
    ∙ head_and_digest alg

-- the item in its own order
item_len : (alg : Alg) (digest : List ℕ) → length digest ≡ digest_len alg
    → length (preferred (bmff_hash_item (new_bmff_hash alg digest))) ≡ 108 + digest_len alg
unfolding shortest_head
item_len alg digest e =
    let last : Pairs = pair (text (codes "exclusions")) (exclusions_item built_exclusions) no_pairs in
    let more : Pairs = pair (text (codes "hash")) (bytes digest) last in
    omega (
      arith,
      length-append (shortest_head 5 3) (preferred_pairs (pair (text (codes "alg")) (text (alg_name alg)) more)),
      length_pair (text (codes "alg")) (text (alg_name alg)) more,
      length_pair (text (codes "hash")) (bytes digest) last,
      length_pair (text (codes "exclusions")) (exclusions_item built_exclusions) no_pairs,
      name_item_len alg,
      digest_item_len alg digest e,
      exclusions_len,
    )

-- the item of a binding has one length in deterministic order
pub binding_len : BindingHasOneLength
binding_len alg digest e = sorting_keeps_the_length (bmff_hash_item (new_bmff_hash alg digest)) ∙ item_len alg digest e

-- ---- what it is read as

-- the exclusions can be read
all_readable : All IsReadable built_exclusions
all_readable =
    All-cons IsReadable (all_of uuid_kind (record { offset = 8; value = c2pa_user_type } ∷ []))
    (all_of ftyp_kind [] ∷ all_of mfra_kind [] ∷ [])
    (record { path = refl; rest = record { enters = refl; parts = λ e. cc (e) } })
    (All-cons IsReadable (all_of ftyp_kind []) (all_of mfra_kind [] ∷ []) (record { path = refl; rest = record { enters = refl; parts = λ e. cc (e) } })
    (All-cons IsReadable (all_of mfra_kind []) [] (record { path = refl; rest = record { enters = refl; parts = λ e. cc (e) } }) (All-nil IsReadable)))

-- the file type box
ftyp_fits : Fits (exclusion_item (all_of ftyp_kind []))
ftyp_fits = (plain_text (codes "xpath") refl, plain_text (codes "/ftyp") refl, tt)

-- `mfra`
mfra_fits : Fits (exclusion_item (all_of mfra_kind []))
mfra_fits = (plain_text (codes "xpath") refl, plain_text (codes "/mfra") refl, tt)

-- the C2PA boxes
user_fits : Fits (exclusion_item (all_of uuid_kind (record { offset = 8; value = c2pa_user_type } ∷ [])))
user_fits = (
  plain_text (codes "data") refl,
  ((plain_text (codes "value") refl, tt, (plain_text (codes "offset") refl, lit< tt, tt)), tt),
  (plain_text (codes "xpath") refl, plain_text (codes "/uuid") refl, tt),
)

-- the item can be written
good : (alg : Alg) (digest : List ℕ) → Good 64 (bmff_hash_item (new_bmff_hash alg digest))
good alg digest = record {
  fits =
      (plain_text (codes "alg") refl, name_utf8 alg, (plain_text (codes "hash") refl, tt, (plain_text (codes "exclusions") refl, (user_fits, (ftyp_fits, (mfra_fits, tt))), tt)));
  plain = written_items_have_plain_keys_bmff (new_bmff_hash alg digest);
  shallow = lit≤ tt;
}

-- an item that is read as this BMFF hash
pub record IsBmffHash (payload : List ℕ) (h : BmffHash) : Type 0 where
  pub item : Item
  pub has : HasItem payload item
  pub is : bmff_hash_of item ≡ Ok h

-- the binding is read as it was written
pub hash_read : (alg : Alg) (digest : List ℕ) → length digest ≡ digest_len alg
    → IsBmffHash (deterministic (bmff_hash_item (new_bmff_hash alg digest))) (new_bmff_hash alg digest)
hash_read alg digest e =
    let v : Item = bmff_hash_item (new_bmff_hash alg digest) in
    record {
      item = v;
      has =
          subst (HasItem (deterministic v)) (written_items_are_in_order_bmff (new_bmff_hash alg digest))
          (good_read v (good alg digest) (omega (arith, binding_len alg digest e, len_bounds alg)));
      is = (a_written_bmff_hash_is_read (new_bmff_hash alg digest)).1 (lit≤ tt, all_readable);
    }
