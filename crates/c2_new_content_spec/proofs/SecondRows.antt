-- A worked store over a worked store, computed: the first is of a definition with one assertion of actions, without a title, and 256
-- bytes reserved for the message; the second of the same definition under another label. And a store less a redacted note.
use Rattle.std.proofs.Common.{◌≡◌, ℕ, ◌+◌, List, [], ◌∷◌, ◌++◌, length, replicate, None, refl, codes}
use Rattle.c2_spec.specs.Cbor.Deterministic.{deterministic, shortest_head}
use Rattle.c2_spec.specs.Jumbf.Tree.{Tree, tree_bytes, trees_bytes}
use Rattle.c2_assertion.specs.Written.{ingredient_item}
use Rattle.c2_definition.specs.declared.types.Definition.{Definition}
use Rattle.c2_definition.specs.declared.types.NewAssertion.{NewAssertion}
use Rattle.c2_definition.specs.declared.types.Payload.TheVariants as payload
use Rattle.c2_new_file_spec.specs.Built.{built_len, no_digest, store_size}
use Rattle.c2_new_file_spec.specs.Fresh.{fresh_content}
use Rattle.c2_new_file_spec.specs.FreshBoxes.{contents_of, item_box}
use Rattle.c2_new_file_spec.specs.Store.{Content, NamedManifest, data_binding, new_claim, new_manifest, new_store, parent_ingredient, written_ingredient}
use Rattle.c2_new_file_spec.proofs.BuildRows.{actions}
use Rattle.c2_new_file_spec.specs.Parents.{IsContentOver}
use Rattle.c2_new_file_spec.specs.Redacting.{boxes_in, redacted_boxes}
use Rattle.c2_spec.specs.Digest.{zero_digest}
use Rattle.c2_spec.specs.declared.digest.Alg.TheVariants.{Sha256}

-- the label of a manifest, which ends so
abbrev label : List ℕ → List ℕ
label last = codes "urn:c2pa:00000000-0000-4000-8000-00000000000" ++ last

-- a definition under such a label, with these further assertions
unfoldable defined : List ℕ → List NewAssertion → Definition
defined last more = record {
  label = label last;
  instance_id = codes "xmp:iid:sample";
  generator = codes "c2";
  title = None;
  protected = 0xA1 ∷ 0x01 ∷ 0x26 ∷ [];
  reserve = 256;
  assertions = actions ∷ more;
  redact = [];
  alg = Sha256;
}

-- ---- a store over a store

-- the manifest of the first store, and the store
unfoldable manifest : Tree
manifest =
    new_manifest (no_digest Sha256) (fresh_content (defined (codes "0") []))
    (data_binding Sha256 20 1141 (zero_digest Sha256)) (replicate 256 0)

-- the store of it
unfoldable first : Tree
first =
    new_store (no_digest Sha256) (fresh_content (defined (codes "0") []))
    (data_binding Sha256 20 1141 (zero_digest Sha256)) (replicate 256 0)

-- has so many bytes
first_store : length (tree_bytes first) ≡ 1129
unfolding first defined actions shortest_head
first_store = refl

-- the signature box of the first store's manifest
abbrev signature : Tree
signature = item_box (codes "c2cs") (codes "c2pa.signature") (replicate 256 0)

-- the parent, as it stands in the new store
unfoldable parent : NamedManifest
parent = record { label = label (codes "0"); contents = contents_of manifest; signed = contents_of signature }

-- what goes into a store over it
unfoldable second : Content
second =
    record
    { definition = defined (codes "1") []; carried = redacted_boxes [] (boxes_in first); ingredients = parent_ingredient parent ∷ [] }

-- this goes into it
is_over : IsContentOver (defined (codes "1") []) first second
unfolding second parent first manifest defined actions shortest_head
is_over = record {
  definition = refl;
  carried = refl;
  parent = parent;
  ingredients = refl;
  is_parent =
      record
      { active = manifest; is_active = refl; label = refl; contents = refl; signature = signature; is_signature = refl; signed = refl };
}

-- the carried boxes are the first manifest's bytes
carried : length (trees_bytes second.carried) ≡ 1091
unfolding second first defined actions shortest_head
carried = refl

-- the item of the parent
ingredient : length (deterministic (ingredient_item (written_ingredient (no_digest Sha256) (parent_ingredient parent)))) ≡ 284
unfolding parent shortest_head
ingredient = refl

-- the claim
claim : length (new_claim (no_digest Sha256) second (data_binding Sha256 20 2667 (zero_digest Sha256))) ≡ 443
unfolding second parent defined actions shortest_head
claim = refl

-- the new manifest
second_manifest : length (tree_bytes (new_manifest (no_digest Sha256) second (data_binding Sha256 20 2667 (zero_digest Sha256)) (replicate 256 0))) ≡ 1526
unfolding second parent defined actions shortest_head
second_manifest = refl

-- the new store
second_store : store_size second 256 ≡ 2655
unfolding second parent first defined actions shortest_head
second_store = refl

-- the packets of the new store
second_range : built_len second 256 ≡ 2667
unfolding second parent first defined actions shortest_head
second_range = refl

-- ---- a redacted note

-- a note of four bytes, in a box of 55
unfoldable note : NewAssertion
note = record { label = codes "test.note"; kind = payload.Json; bytes = 0x22 ∷ 0x61 ∷ 0x62 ∷ 0x22 ∷ [] }

-- a store with it
unfoldable noted : Tree
noted =
    new_store (no_digest Sha256) (fresh_content (defined (codes "0") (note ∷ [])))
    (data_binding Sha256 20 1141 (zero_digest Sha256)) (replicate 256 0)

-- the URI of an assertion of the manifest with such a label
abbrev uri : List ℕ → List ℕ → List ℕ
uri last assertion = codes "self#jumbf=/c2pa/" ++ label last ++ codes "/c2pa.assertions/" ++ assertion

-- an assertion that a redaction names is taken out of the manifest that is named
taken : length (trees_bytes (redacted_boxes (uri (codes "0") (codes "test.note") ∷ []) (boxes_in noted))) + 55 ≡ length (trees_bytes (boxes_in noted))
unfolding noted note defined actions shortest_head
taken = refl

-- a redaction takes nothing out of a manifest that it doesn't name
kept : length (trees_bytes (redacted_boxes (uri (codes "1") (codes "test.note") ∷ []) (boxes_in noted))) ≡ length (trees_bytes (boxes_in noted))
unfolding noted note defined actions shortest_head
kept = refl
