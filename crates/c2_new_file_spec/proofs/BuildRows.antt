-- Worked builds, computed: a definition with one assertion of actions, without a title, and 256 bytes reserved for the message.
use Rattle.std.proofs.Common.{◌≡◌, ℕ, false, List, [], ◌∷◌, ◌++◌, length, replicate, None, refl, codes}
use Rattle.std.specs.Prelude.{take}
use Rattle.c2_spec.specs.C2pa.Sign1.{sig_structure}
use Rattle.c2_spec.specs.Cbor.Deterministic.{shortest_head, deterministic}
use Rattle.c2_spec.specs.Jpeg.Writing.{insert_place}
use Rattle.c2_spec.specs.Jumbf.Tree.{none, more, leaf, tree_bytes}
use Rattle.c2_assertion.specs.Written.{ingredient_item}
use Rattle.c2_definition.specs.declared.types.Definition.{Definition}
use Rattle.c2_definition.specs.declared.types.NewAssertion.{NewAssertion}
use Rattle.c2_definition.specs.declared.types.Payload.TheVariants as payload
use Rattle.c2_spec.specs.Digest.{zero_digest}
use Rattle.c2_spec.specs.declared.digest.Alg.{Alg}
use Rattle.c2_spec.specs.declared.digest.Alg.TheVariants.{Sha256, Sha384, Sha512}
use Rattle.c2_new_file_spec.specs.Built.{built_len, no_digest, store_size}
use Rattle.c2_new_file_spec.specs.FreshBoxes.{fresh_box, item_box}
use Rattle.c2_new_file_spec.specs.Store.{Content, NamedManifest, assertion_box, assertion_boxes, data_binding, new_assertions, new_claim, new_manifest, parent_ingredient, written_ingredient}

-- one action: the asset was created
unfoldable pub actions : NewAssertion
actions = record {
  label = codes "c2pa.actions.v2";
  kind = payload.Cbor;
  bytes = 0xA1 ∷ 0x67 ∷ codes "actions" ++ 0x81 ∷ 0xA1 ∷ 0x66 ∷ codes "action" ++ 0x6C ∷ codes "c2pa.created";
}

-- a definition by this algorithm, under a label that ends so
unfoldable defined : Alg → List ℕ → Definition
defined alg last = record {
  label = codes "urn:c2pa:00000000-0000-4000-8000-00000000000" ++ last;
  instance_id = codes "xmp:iid:sample";
  generator = codes "c2";
  title = None;
  protected = 0xA1 ∷ 0x01 ∷ 0x26 ∷ [];
  reserve = 256;
  assertions = actions ∷ [];
  redact = [];
  alg = alg;
}

-- the binding to what stands around so many bytes from place 20 on, with a digest of zero bytes
unfoldable binding : Alg → ℕ → NewAssertion
binding alg len = data_binding alg 20 len (zero_digest alg)

-- ---- over a JPEG without a store

-- what goes into a store by this algorithm
unfoldable fresh : Alg → Content
fresh alg = record { definition = defined alg (codes "0"); carried = none; ingredients = [] }

-- the item of the actions takes 31 bytes
actions_item : length actions.bytes ≡ 31
unfolding actions
actions_item = refl

-- the box of the actions takes 88 bytes
actions_box : length (tree_bytes (assertion_box actions)) ≡ 88
unfolding actions
actions_box = refl

-- the item of the binding takes 100 bytes
binding_item : length (binding Sha256 1141).bytes ≡ 100
unfolding binding shortest_head
binding_item = refl

-- the box of the binding takes 156 bytes
binding_box : length (tree_bytes (assertion_box (binding Sha256 1141))) ≡ 156
unfolding binding shortest_head
binding_box = refl

-- the assertion store takes 293 bytes
assertion_store : length (tree_bytes (fresh_box (codes "c2as") (codes "c2pa.assertions") (assertion_boxes (new_assertions (no_digest Sha256) (fresh Sha256) (binding Sha256 1141))))) ≡ 293
unfolding fresh defined actions binding shortest_head
assertion_store = refl

-- the claim takes 352 bytes
claim : length (new_claim (no_digest Sha256) (fresh Sha256) (binding Sha256 1141)) ≡ 352
unfolding fresh defined actions binding shortest_head
claim = refl

-- the claim box takes 407 bytes
claim_box : length (tree_bytes (item_box (codes "c2cl") (codes "c2pa.claim.v2") (new_claim (no_digest Sha256) (fresh Sha256) (binding Sha256 1141)))) ≡ 407
unfolding fresh defined actions binding shortest_head
claim_box = refl

-- the signature box takes 312 bytes
signature_box : length (tree_bytes (item_box (codes "c2cs") (codes "c2pa.signature") (replicate 256 0))) ≡ 312
signature_box = refl

-- what is signed: its first bytes are an array of four, "Signature1", the protected header, no bytes, and the claim's 352
signed : length (deterministic (sig_structure (defined Sha256 (codes "0")).protected (new_claim (no_digest Sha256) (fresh Sha256) (binding Sha256 1141)))) ≡ 372
unfolding fresh defined actions binding shortest_head
signed = refl

-- the first 20 bytes of what is signed are these
signed_first : take 20 (deterministic (sig_structure (defined Sha256 (codes "0")).protected (new_claim (no_digest Sha256) (fresh Sha256) (binding Sha256 1141)))) ≡ 0x84 ∷ 0x6A ∷ codes "Signature1" ++ 0x43 ∷ 0xA1 ∷ 0x01 ∷ 0x26 ∷ 0x40 ∷ 0x59 ∷ 0x01 ∷ 0x60 ∷ []
unfolding fresh defined actions binding shortest_head
signed_first = refl

-- the manifest takes 1,091 bytes
manifest : length (tree_bytes (new_manifest (no_digest Sha256) (fresh Sha256) (binding Sha256 1141) (replicate 256 0))) ≡ 1091
unfolding fresh defined actions binding shortest_head
manifest = refl

-- the store takes 1,129 bytes
store : store_size (fresh Sha256) 256 ≡ 1129
unfolding fresh defined actions shortest_head
store = refl

-- the new range takes 1,141 bytes
range : built_len (fresh Sha256) 256 ≡ 1141
unfolding fresh defined actions shortest_head
range = refl

-- behind one APP0 segment of 16 bytes and its marker
place : insert_place (record { fill = 0; marker = 0xE0; payload = codes "JFIF" ++ 0 ∷ 1 ∷ 2 ∷ 0 ∷ 0 ∷ 1 ∷ 0 ∷ 1 ∷ 0 ∷ 0 ∷ [] } ∷ []) ≡ 20
place = refl

-- ---- the same by the longer digests

-- the item of the binding takes 116 bytes by SHA-384 and 132 by SHA-512
longer_bindings : (length (binding Sha384 1189).bytes ≡ 116) × (length (binding Sha512 1237).bytes ≡ 132)
unfolding binding shortest_head
longer_bindings = (refl, refl)

-- the claim takes 384 bytes by SHA-384 and 416 by SHA-512
longer_claims : (length (new_claim (no_digest Sha384) (fresh Sha384) (binding Sha384 1189)) ≡ 384)
    × (length (new_claim (no_digest Sha512) (fresh Sha512) (binding Sha512 1237)) ≡ 416)
unfolding fresh defined actions binding shortest_head
longer_claims = (refl, refl)

-- what is signed takes 436 bytes by SHA-512, since it has the claim's 416
signed_by_sha512 : length (deterministic (sig_structure (defined Sha512 (codes "0")).protected (new_claim (no_digest Sha512) (fresh Sha512) (binding Sha512 1237)))) ≡ 436
unfolding fresh defined actions binding shortest_head
signed_by_sha512 = refl

-- the first 20 bytes of what is signed by SHA-512 are these
first_by_sha512 : take 20 (deterministic (sig_structure (defined Sha512 (codes "0")).protected (new_claim (no_digest Sha512) (fresh Sha512) (binding Sha512 1237)))) ≡ 0x84 ∷ 0x6A ∷ codes "Signature1" ++ 0x43 ∷ 0xA1 ∷ 0x01 ∷ 0x26 ∷ 0x40 ∷ 0x59 ∷ 0x01 ∷ 0xA0 ∷ []
unfolding fresh defined actions binding shortest_head
first_by_sha512 = refl

-- the store takes 1,177 bytes by SHA-384 and 1,225 by SHA-512
longer_stores : (store_size (fresh Sha384) 256 ≡ 1177) × (store_size (fresh Sha512) 256 ≡ 1225)
unfolding fresh defined actions shortest_head
longer_stores = (refl, refl)

-- the new range takes 1,189 bytes by SHA-384 and 1,237 by SHA-512
longer_ranges : (built_len (fresh Sha384) 256 ≡ 1189) × (built_len (fresh Sha512) 256 ≡ 1237)
unfolding fresh defined actions shortest_head
longer_ranges = (refl, refl)

-- ---- over a store with one manifest of 1,091 bytes, which is the parent

-- of the parent only the label counts here, since each digest is of zero bytes
unfoldable parent : NamedManifest
parent = record { label = codes "urn:c2pa:00000000-0000-4000-8000-000000000000"; contents = []; signed = [] }

-- what goes into the store over it
unfoldable second : Content
second = record {
  definition = defined Sha256 (codes "1");
  carried = more (leaf (record { kind = 0; wide = false; payload = replicate 1083 0 })) none;
  ingredients = parent_ingredient parent ∷ [];
}

-- the item of the ingredient that the parent is takes 284 bytes
ingredient : length (deterministic (ingredient_item (written_ingredient (no_digest Sha256) (parent_ingredient parent)))) ≡ 284
unfolding parent shortest_head
ingredient = refl

-- the claim takes 443 bytes
second_claim : length (new_claim (no_digest Sha256) second (binding Sha256 2667)) ≡ 443
unfolding second parent defined actions binding shortest_head
second_claim = refl

-- the new manifest takes 1,526 bytes
second_manifest : length (tree_bytes (new_manifest (no_digest Sha256) second (binding Sha256 2667) (replicate 256 0))) ≡ 1526
unfolding second parent defined actions binding shortest_head
second_manifest = refl

-- the store takes 2,655 bytes
second_store : store_size second 256 ≡ 2655
unfolding second parent defined actions shortest_head
second_store = refl

-- the new range takes 2,667 bytes
second_range : built_len second 256 ≡ 2667
unfolding second parent defined actions shortest_head
second_range = refl
