-- Worked stores that collect, computed: the first is a store of a definition with one assertion of actions, without a title, and 256
-- bytes reserved for the message; a store of the same definition under another label collects it, over no store and over itself. And
-- what is refused first of two files.
use Rattle.std.proofs.Common.{◌≡◌, ℕ, true, false, Bool, List, [], ◌∷◌, ◌++◌, length, replicate, Option, Some, None, refl, codes, arith}
use Rattle.c2_spec.specs.Cbor.Deterministic.{shortest_head}
use Rattle.c2_spec.specs.Digest.{zero_digest}
use Rattle.c2_spec.specs.Jumbf.Tree.{Tree, none, trees_bytes}
use Rattle.c2_spec.specs.declared.digest.Alg.TheVariants.{Sha256}
use Rattle.c2_rules.specs.declared.answer.Answer.{Answer}
use Rattle.c2_rules.specs.declared.answer.Answer.TheVariants as answers
use Rattle.c2_rules.specs.declared.answer.Failing.{Failing}
use Rattle.c2_rules.specs.declared.answer.Summary.{Summary}
use Rattle.c2_definition.specs.declared.types.Definition.{Definition}
use Rattle.c2_new_file_spec.specs.Built.{built_len, no_digest, store_size}
use Rattle.c2_new_file_spec.specs.Fresh.{fresh_content}
use Rattle.c2_new_file_spec.specs.FreshBoxes.{contents_of, item_box}
use Rattle.c2_new_file_spec.specs.Manifests.{supers_in}
use Rattle.c2_new_file_spec.specs.Store.{Content, NamedManifest, data_binding, new_claim, new_manifest, new_store}
use Rattle.c2_new_file_spec.proofs.BuildRows.{actions}
use Rattle.c2_new_file_spec.specs.Redacting.{boxes_in, redacted_boxes}
use Rattle.c2_collect_spec.specs.Collected.{collected_ingredients}
use Rattle.c2_collect_spec.specs.Order.{FilePair, first_refusal, label_clash, other_refused, pair_refusals, parent_fails}
use Rattle.c2_collect_spec.specs.Sides.{ClashFirst, joined_boxes}

-- the label of a manifest, which ends so
abbrev label : List ℕ → List ℕ
label last = codes "urn:c2pa:00000000-0000-4000-8000-00000000000" ++ last

-- a definition under such a label
unfoldable defined : List ℕ → Definition
defined last = record {
  label = label last;
  instance_id = codes "xmp:iid:sample";
  generator = codes "c2";
  title = None;
  protected = 0xA1 ∷ 0x01 ∷ 0x26 ∷ [];
  reserve = 256;
  assertions = actions ∷ [];
  redact = [];
  alg = Sha256;
}

-- the manifest of the first store, over a file with this digest
unfoldable manifest : List ℕ → Tree
manifest digest =
    new_manifest (no_digest Sha256) (fresh_content (defined (codes "0"))) (data_binding Sha256 20 1141 digest)
    (replicate 256 0)

-- the store of it
unfoldable first : List ℕ → Tree
first digest =
    new_store (no_digest Sha256) (fresh_content (defined (codes "0"))) (data_binding Sha256 20 1141 digest)
    (replicate 256 0)

-- the manifest as an ingredient's
unfoldable named : NamedManifest
named = record {
  label = label (codes "0");
  contents = contents_of (manifest (zero_digest Sha256));
  signed = contents_of (item_box (codes "c2cs") (codes "c2pa.signature") (replicate 256 0));
}

-- all manifests are reached
abbrev all : ℕ → Bool
all i = true

-- ---- over no store

-- what goes into a store that collects it over none
unfoldable alone : Content
alone = record {
  definition = defined (codes "1");
  carried = redacted_boxes [] (joined_boxes none all (boxes_in (first (zero_digest Sha256))));
  ingredients = collected_ingredients (named ∷ []);
}

-- the one manifest of the file is carried
carried : length (trees_bytes alone.carried) ≡ 1091
unfolding alone first defined actions shortest_head
carried = refl

-- the claim
alone_claim : length (new_claim (no_digest Sha256) alone (data_binding Sha256 20 2670 (zero_digest Sha256))) ≡ 443
unfolding alone manifest named defined actions shortest_head
alone_claim = refl

-- the store
alone_store : store_size alone 256 ≡ 2658
unfolding alone first manifest named defined actions shortest_head
alone_store = refl

-- the packets of the store that collects the file over none
alone_range : built_len alone 256 ≡ 2670
unfolding alone first manifest named defined actions shortest_head
alone_range = refl

-- ---- over itself

-- what goes into a store that collects it over itself: the manifest is shared
unfoldable twice : Content
twice = record {
  definition = defined (codes "1");
  carried =
      redacted_boxes []
      (joined_boxes (boxes_in (first (zero_digest Sha256))) all (boxes_in (first (zero_digest Sha256))));
  ingredients = collected_ingredients (named ∷ named ∷ []);
}

-- the shared manifest is carried once
shared : length (trees_bytes twice.carried) ≡ 1091
unfolding twice first defined actions shortest_head
shared = refl

-- the store
twice_store : store_size twice 256 ≡ 3099
unfolding twice first manifest named defined actions shortest_head
twice_store = refl

-- the packets of the store that collects the file over itself
twice_range : built_len twice 256 ≡ 3111
unfolding twice first manifest named defined actions shortest_head
twice_range = refl

-- ---- what isn't joined

-- what isn't reached isn't carried
unreached : length (trees_bytes (joined_boxes none (λ i. false) (boxes_in (first (zero_digest Sha256))))) ≡ 0
unfolding first defined actions shortest_head
unreached = refl

-- a store of the same label over another file clashes at its one manifest
clash : ClashFirst (supers_in (boxes_in (first (zero_digest Sha256)))) all (supers_in (boxes_in (first (replicate 32 1)))) all 0
unfolding first manifest defined actions shortest_head
clash = record {
  here = record {
    is_reached = refl;
    theirs = manifest (replicate 32 1);
    is_theirs = refl;
    place = 0;
    ours = manifest (zero_digest Sha256);
    is_ours = refl;
    label = refl;
    differs = refl;
  };
  earlier = λ j before h. absurd (omega (arith, before));
}

-- ---- what is refused first

-- two files without boxes, of which a check found this
abbrev pair_of : Option Failing → Answer → Option (List ℕ) → FilePair
pair_of failing a clash = record {
  media = record { boxes = none; readings = []; failing = failing; base = [] };
  other = record { answer = a; boxes = none; readings = [] };
  clash = clash;
}

-- a rule of the media's store comes before the other file
parent_first : (f : Failing)
    → first_refusal (pair_refusals (defined (codes "1")) (pair_of (Some f) answers.NoStore None)) ≡ Some (parent_fails f)
parent_first f = refl

-- the other file comes before a clash
other_first : first_refusal (pair_refusals (defined (codes "1")) (pair_of None answers.NoStore (Some (label (codes "0"))))) ≡ Some (other_refused answers.NoStore)
other_first = refl

-- a clash is refused where the other file is valid
clash_first : (s : Summary)
    → first_refusal (pair_refusals (defined (codes "1")) (pair_of None (answers.Valid s) (Some (label (codes "0"))))) ≡ Some (label_clash (label (codes "0")))
clash_first s = refl

-- nothing is refused of both stores where the other file is valid and nothing clashes
none_first : (s : Summary) → pair_refusals (defined (codes "1")) (pair_of None (answers.Valid s) None) ≡ []
unfolding defined
none_first s = refl
