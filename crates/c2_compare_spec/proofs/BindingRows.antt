-- Worked pairs of stores: the first difference of each, that it is real, and its text.
use Rattle.std.proofs.Common.{◌≡◌, ℕ, ◌+◌, Bool, true, false, List, [], ◌∷◌, ◌++◌, map, bytes_eq, Option, Some, None, Ok, codes, refl}
use Rattle.std.proofs.lemmas.Bool.Decides.{not_from_Decides}
use Rattle.std.proofs.lemmas.Slice.Eq.{bytes_eq-Decides}
use Rattle.c2_base.specs.declared.values.Question.{Question}
use Rattle.c2_spec.specs.C2pa.Manifest.{Superbox}
use Rattle.c2_spec.specs.Cbor.Item.{dict, no_pairs}
use Rattle.c2_spec.specs.declared.assertion.Relationship.TheVariants.{ComponentOf}
use Rattle.c2_spec.specs.declared.cbor.Ref.{Ref}
use Rattle.c2_spec.specs.declared.claim.ClaimVersion.TheVariants.{V2}
use Rattle.c2_spec.specs.declared.digest.Alg.{Alg}
use Rattle.c2_spec.specs.declared.digest.Alg.TheVariants.{Sha256}
use Rattle.c2_spec.specs.declared.panel.Verdict.{Verdict}
use Rattle.c2_spec.specs.declared.panel.Verdict.TheVariants.{Approved}
use Rattle.c2_rules.specs.CheckList.{StoreReading, check_list}
use Rattle.c2_rules.specs.Readings.{ReadBox, Reading}
use Rattle.c2_rules.specs.Rules.{label_kind}
use Rattle.c2_rules.specs.Tests.{first_failing}
use Rattle.c2_rules.specs.declared.answer.Failing.{Failing}
use Rattle.c2_rules.specs.declared.parsed.Parsed.TheVariants.{NoItem, Value}
use Rattle.c2_compare_spec.specs.ChainContent.{active_claim}
use Rattle.c2_compare_spec.specs.Deciding.{has_same_content}
use Rattle.c2_compare_spec.specs.Differences.{first_difference}
use Rattle.c2_compare_spec.specs.Evidence.{by_digest, by_signature, ListPair, IsReal}
use Rattle.c2_compare_spec.specs.EvidenceText.{evidence_text}
use Rattle.hex.specs.Hex.{encode_with}

-- ---- stores

-- an entry of an assertion of the claim's own manifest
abbrev entry : List ℕ → Ref
entry label = record { url = codes "self#jumbf=c2pa.assertions/" ++ label; hash = []; alg = None }

-- an assertion box that is no ingredient
abbrev plain_box : List ℕ → List ℕ → ReadBox
plain_box label contents =
    record { boxed = record { label = Some label; contents = contents; item = None }; ingredient = NoItem }

-- the box of a data hash
abbrev data_hash : ReadBox
data_hash = plain_box (codes "c2pa.hash.data") (codes "h")

-- the label of an ingredient
abbrev ingredient_label : List ℕ
ingredient_label = codes "c2pa.ingredient.v3"

-- a reference to this URI
abbrev reference : List ℕ → Ref
reference url = record { url = url; hash = []; alg = None }

-- a reference to the signature of the manifest m, or none
abbrev signed_reference : Bool → Option Ref
signed_reference true = Some (reference (codes "self#jumbf=/c2pa/m/c2pa.signature"))
signed_reference false = None

-- a box that names the manifest m, with a reference to its signature or without
abbrev names_m : Bool → ReadBox
names_m signs = record {
  boxed = record { label = Some ingredient_label; contents = codes "i"; item = None };
  ingredient =
      Value (record {
        relationship = ComponentOf;
        manifest =
            Some (reference (codes "self#jumbf=/c2pa/m"));
        signature = signed_reference signs;
      });
}

-- a signature box with these contents
abbrev signature : List ℕ → Superbox
signature contents = record { label = Some (codes "c2pa.signature"); contents = contents; item = Some [] }

-- a manifest with this label, these contents, claim bytes and signature box, and these entries, redactions
-- and boxes
abbrev manifest : List ℕ → List ℕ → List ℕ → List ℕ → List (List ℕ) → List (List ℕ) → List ReadBox → Reading
manifest label contents claim sign entries redacted boxes = record {
  manifest = record {
    label = Some label;
    contents = contents;
    is_update = false;
    claims = record { label = Some (codes "c2pa.claim.v2"); contents = []; item = Some claim } ∷ [];
    signature = Some (signature sign);
    assertions = [];
  };
  claim = Value (record {
    version = V2;
    signature = codes "self#jumbf=c2pa.signature";
    instance = None;
    alg = None;
    created =
        map entry entries;
    gathered = [];
    redacted = redacted;
  });
  message = Some (record { protected = []; unprotected = dict no_pairs; signature = [] });
  boxes = boxes;
}

-- a store of these manifests, whose binding covers this text
abbrev store : List Reading → List ℕ → StoreReading
store rs text = record {
  readings = rs;
  binding = Some (Ok (record { alg = None; hash = []; in_order = true; excluded = []; text = text }));
}

-- ---- one manifest with a note

-- the label of the manifest
abbrev label : List ℕ
label = codes "urn:c2pa:00000000-0000-4000-8000-000000000000"

-- the contents of the note's box, which end with this payload
abbrev note_contents : List ℕ → List ℕ
note_contents payload =
    0x00 ∷ 0x00 ∷ 0x00 ∷ 0x23 ∷ codes
    "jumdjson" ++ 0x00 ∷ 0x11 ∷ 0x00 ∷ 0x10 ∷ 0x80 ∷ 0x00 ∷ 0x00 ∷ 0xAA ∷ 0x00 ∷ 0x38 ∷ 0x9B ∷ 0x71 ∷ 0x03
    ∷ codes "test.note" ++ 0x00 ∷ 0x00 ∷ 0x00 ∷ 0x00 ∷ 0x0C ∷ codes "json" ++ payload

-- the manifest with this label whose note has this payload
abbrev noted : List ℕ → List ℕ → Reading
noted own payload =
    manifest own (codes "whole") (codes "claim") (codes "s") (codes "c2pa.hash.data" ∷ codes "test.note" ∷ [])
    []
    (data_hash ∷ plain_box (codes "test.note") (note_contents payload) ∷ [])

-- the bytes of the picture, and the same with two of them swapped
abbrev picture : List ℕ
picture =
    0xFF ∷ 0xD8 ∷ 0xFF ∷ 0xE0 ∷ 0x00 ∷ 0x10 ∷ codes
    "JFIF" ++ 0x00 ∷ 0x01 ∷ 0x02 ∷ 0x00 ∷ 0x00 ∷ 0x01 ∷ 0x00 ∷ 0x01 ∷ 0x00 ∷ 0x00 ∷ 0xFF ∷ 0xD9 ∷ []

-- the places 11 and 12 are swapped
abbrev swapped : List ℕ
swapped =
    0xFF ∷ 0xD8 ∷ 0xFF ∷ 0xE0 ∷ 0x00 ∷ 0x10 ∷ codes
    "JFIF" ++ 0x00 ∷ 0x02 ∷ 0x01 ∷ 0x00 ∷ 0x00 ∷ 0x01 ∷ 0x00 ∷ 0x01 ∷ 0x00 ∷ 0x00 ∷ 0xFF ∷ 0xD9 ∷ []

-- the first file, one with another note, one with another picture, and one with both
abbrev file : StoreReading
file = store (noted label (codes "\"ab\"") ∷ []) picture

-- another note
abbrev other_note : StoreReading
other_note = store (noted label (codes "\"ba\"") ∷ []) picture

-- another picture
abbrev other_picture : StoreReading
other_picture = store (noted label (codes "\"ab\"") ∷ []) swapped

-- the pair of the notes
abbrev note_pair : ListPair
note_pair = record {
  bound_by = by_digest (codes "sha256");
  location = codes "self#jumbf=/c2pa/urn:c2pa:00000000-0000-4000-8000-000000000000/c2pa.assertions/test.note";
  left = note_contents (codes "\"ab\"");
  right = note_contents (codes "\"ba\"");
}

-- the pair of the pictures
abbrev picture_pair : ListPair
picture_pair =
    record { bound_by = by_digest (codes "sha256"); location = codes "covered"; left = picture; right = swapped }

-- the notes differ
note_first : first_difference file other_note ≡ Some note_pair
unfolding label_kind
note_first = refl

-- the pictures differ
picture_first : first_difference file other_picture ≡ Some picture_pair
unfolding label_kind
picture_first = refl

-- both the notes and the pictures differ: the note comes first
note_before_picture : first_difference file (store (noted label (codes "\"ba\"") ∷ []) swapped) ≡ Some
    note_pair
unfolding label_kind
note_before_picture = refl

-- a file has no difference to itself
no_difference : first_difference file file ≡ None
unfolding label_kind
no_difference = refl

-- a file has no difference to one whose manifest has another label and other contents
label_unseen : first_difference file
    (store (manifest (codes "n") (codes "other") (codes "claim") (codes "t")
    (codes "c2pa.hash.data" ∷ codes "test.note" ∷ []) []
    (data_hash ∷ plain_box (codes "test.note") (note_contents (codes "\"ab\"")) ∷ []) ∷ []) picture) ≡ None
unfolding label_kind
label_unseen = refl

-- the active claims of both are equal, and those of another file differ
claims_equal : active_claim file.readings ≡ active_claim other_note.readings
claims_equal = refl

-- ---- texts

-- the three lines of the notes
note_text : evidence_text note_pair
    ≡ codes "evidence digest sha256 "
    ++ codes "self#jumbf=/c2pa/urn:c2pa:00000000-0000-4000-8000-000000000000/c2pa.assertions/test.note\n"
    ++ codes "000000236a756d646a736f6e00110010800000aa00389b7103746573742e6e6f7465"
    ++ codes "000000000c6a736f6e22616222\n"
    ++ codes "000000236a756d646a736f6e00110010800000aa00389b7103746573742e6e6f7465"
    ++ codes "000000000c6a736f6e22626122\n"
unfolding encode_with
note_text = refl

-- the three lines of the pictures
picture_text : evidence_text picture_pair
    ≡ codes "evidence digest sha256 covered\nffd8ffe000104a46494600010200000100010000ffd9\n"
    ++ codes "ffd8ffe000104a46494600020100000100010000ffd9\n"
unfolding encode_with
picture_text = refl

-- a control byte in a place is printed as a question mark
control_text : evidence_text
    (record { bound_by = by_digest (codes "sha256"); location = codes "a\n"; left = []; right = 0x0A ∷ [] }) ≡ codes
    "evidence digest sha256 a?\n\n0a\n"
unfolding encode_with
control_text = refl

-- ---- a manifest with the manifest m as its ingredient

-- m, with this claim, signature box and contents, and whether it has its note
abbrev m : List ℕ → List ℕ → List ℕ → List ReadBox → Reading
m claim sign contents more =
    manifest (codes "m") contents claim sign (codes "c2pa.hash.data" ∷ codes "test.note" ∷ []) []
    (data_hash ∷ more)

-- the active manifest, which redacts this in m and refers to its signature or doesn't
abbrev user : List (List ℕ) → Bool → Reading
user redacted signs =
    manifest (codes "A") (codes "whole") (codes "active") (codes "s")
    (codes "c2pa.hash.data" ∷ ingredient_label ∷ []) redacted (data_hash ∷ names_m signs ∷ [])

-- the URI of m's note
abbrev note_uri : List ℕ
note_uri = codes "self#jumbf=/c2pa/m/c2pa.assertions/test.note"

-- m's note
abbrev note : List ℕ → ReadBox
note contents = plain_box (codes "test.note") contents

-- m without its note, which is redacted
abbrev redacting : List ℕ → List ℕ → StoreReading
redacting claim sign = store (m claim sign (codes "m!") [] ∷ user (note_uri ∷ []) true ∷ []) picture

-- equal signature boxes, other claims
abbrev claims_pair : ListPair
claims_pair =
    record {
      bound_by = by_signature (signature (codes "s"));
      location = codes "self#jumbf=/c2pa/m/c2pa.signature";
      left =
          codes "c";
      right = codes "d";
    }

-- the claims of m differ under one signature box
claims_first : first_difference (redacting (codes "c") (codes "s")) (redacting (codes "d") (codes "s")) ≡ Some
    claims_pair
unfolding label_kind
claims_first = refl

-- the four lines of the claims' evidence: the place, the signature box, and the claims
claims_text : evidence_text claims_pair ≡ codes
    "evidence signature self#jumbf=/c2pa/m/c2pa.signature\n73\n63\n64\n"
unfolding encode_with
claims_text = refl

-- where the signature boxes differ as well, they come first
box_before_claims : first_difference (redacting (codes "c") (codes "s")) (redacting (codes "d") (codes "t"))
    ≡ Some (record {
      bound_by = by_digest (codes "sha256");
      location = codes "self#jumbf=/c2pa/m/c2pa.signature";
      left =
          codes "s";
      right = codes "t";
    })
unfolding label_kind
box_before_claims = refl

-- without a reference to the signature m's contents are compared
contents_first : first_difference
    (store (m (codes "c") (codes "s") (codes "x") (note (codes "n") ∷ []) ∷ user [] false ∷ []) picture)
    (store (m (codes "d") (codes "s") (codes "y") (note (codes "n") ∷ []) ∷ user [] false ∷ []) picture)
    ≡ Some (record {
      bound_by = by_digest (codes "sha256");
      location = codes "self#jumbf=/c2pa/m";
      left =
          codes "x";
      right = codes "y";
    })
unfolding label_kind
contents_first = refl

-- with one they aren't, and neither is a box whose label is redacted
redacted_unseen : first_difference
    (store (m (codes "c") (codes "s") (codes "x") (note (codes "n") ∷ []) ∷ user (note_uri ∷ []) true ∷ [])
    picture)
    (store (m (codes "c") (codes "s") (codes "y") (note (codes "o") ∷ []) ∷ user (note_uri ∷ []) true ∷ [])
    picture) ≡ None
unfolding label_kind
redacted_unseen = refl

-- a manifest that isn't reached isn't compared, wherever it stands
unreached_unseen : first_difference
    (store (noted (codes "u") (codes "1") ∷ m (codes "c") (codes "s") (codes "x")
    (note (codes "n") ∷ []) ∷ user [] true ∷ []) picture)
    (store (m (codes "c") (codes "s") (codes "x") (note (codes "n") ∷ []) ∷ noted (codes "v")
    (codes "2") ∷ user [] true ∷ []) picture) ≡ None
unfolding label_kind
unreached_unseen = refl

-- ---- real evidence

-- a hash that gives the sum of a list in one byte
abbrev sum : List ℕ → ℕ
sum [] = 0
sum (b ∷ bs) = b + sum bs

-- as a digest
abbrev weak : Alg → List ℕ → List ℕ
weak alg list = sum list ∷ []

-- every judge approves
abbrev approve : Question → Verdict
approve q = Approved

-- under that hash the pair of the pictures is real
picture_real : IsReal weak approve picture_pair
picture_real = record { alg = Sha256; known = refl; differ = λ e. cc (e); same_digest = refl }

-- ---- such stores are accepted

-- a hash that gives one digest of all lists, as all references of these stores have it
abbrev one_digest : Alg → List ℕ → List ℕ
one_digest alg list = []

-- the first condition that fails of a store
abbrev failing : StoreReading → Option Failing
failing s = first_failing (check_list one_digest approve s)

-- the file holds
file_holds : failing file ≡ None
unfolding label_kind
file_holds = refl

-- the rules of the file with another note hold
other_note_holds : failing other_note ≡ None
unfolding label_kind
other_note_holds = refl

-- the pair of the notes of both files is real under the hash that gives one digest
note_real : IsReal one_digest approve note_pair
note_real = record {
  alg = Sha256;
  known = refl;
  differ = not_from_Decides (bytes_eq note_pair.left note_pair.right)
      (bytes_eq-Decides note_pair.left note_pair.right) refl;
  same_digest = refl;
}

-- the two whose claims differ under one signature hold
redacting_holds : (failing (redacting (codes "c") (codes "s")) ≡ None) × (failing
    (redacting (codes "d") (codes "s")) ≡ None)
unfolding label_kind
redacting_holds = (refl, refl)

-- the active claims of the two stores with one signature box are equal
redacting_claims : active_claim (redacting (codes "c") (codes "s")).readings ≡ active_claim
    (redacting (codes "d") (codes "s")).readings
redacting_claims = refl

-- ---- the order of manifests, and contents as such

-- a box of an ingredient with these contents, which names the manifest m or none
abbrev ingredient_box : List ℕ → Option Ref → ReadBox
ingredient_box contents manifest = record {
  boxed = record { label = Some ingredient_label; contents = contents; item = None };
  ingredient = Value (record { relationship = ComponentOf; manifest = manifest; signature = None });
}

-- m with such a box, and an active manifest with one that names m
abbrev two_boxes : List ℕ → List ℕ → StoreReading
two_boxes lower upper = store (
    manifest (codes "m") (codes "m!") (codes "c") (codes "s") (codes "c2pa.hash.data" ∷ ingredient_label ∷ [])
    []
    (data_hash ∷ ingredient_box lower None ∷ [])
    ∷ manifest (codes "A") (codes "whole") (codes "active") (codes "s")
    (codes "c2pa.hash.data" ∷ ingredient_label ∷ []) []
    (data_hash ∷ ingredient_box upper (Some (reference (codes "self#jumbf=/c2pa/m"))) ∷ [])
    ∷ []) picture

-- both boxes differ: that of the last manifest comes first
last_manifest_first : first_difference (two_boxes (codes "1") (codes "2")) (two_boxes (codes "3") (codes "4"))
    ≡ Some (record {
      bound_by = by_digest (codes "sha256");
      location = codes "self#jumbf=/c2pa/A/c2pa.assertions/c2pa.ingredient.v3";
      left = codes "2";
      right = codes "4";
    })
unfolding label_kind
last_manifest_first = refl

-- chain contents are equal where active manifests have other labels
labels_same : has_same_content file.readings (manifest (codes "n") (codes "other") (codes "claim") (codes "t")
    (codes "c2pa.hash.data" ∷ codes "test.note" ∷ []) []
    (data_hash ∷ plain_box (codes "test.note") (note_contents (codes "\"ab\"")) ∷ []) ∷ []) ≡ true
labels_same = refl

-- chain contents differ where a note does
notes_differ : has_same_content file.readings other_note.readings ≡ false
notes_differ = refl
