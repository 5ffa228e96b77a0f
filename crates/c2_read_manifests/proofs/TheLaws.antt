-- The laws of this crate, for the proofs of the crates above it.
use Rattle.c2_base.specs.declared.values.Question.{Question}
use Rattle.c2_cbor_spec.proofs.TheLaws.{each_list_is_an_item_or_not_one as read_once, each_list_is_an_item_or_not_some as read_or_not}
use Rattle.c2_read_manifests.proofs.Existing.{each_manifest}
use Rattle.c2_read_manifests.proofs.Labels.{labels_differ}
use Rattle.c2_read_manifests.proofs.Messages.{each_question}
use Rattle.c2_read_manifests.proofs.ReadClaims.{claim_read, question_read}
use Rattle.c2_read_manifests.proofs.SomeReading.{item_or, readings_or}
use Rattle.c2_read_manifests.proofs.Unique.{one_claim as one_claim_by, one_list_of_claims as one_list_of_claims_by, one_question as one_question_by}
use Rattle.c2_read_manifests.specs.Existing.{IsHeld}
use Rattle.c2_read_manifests.specs.Held.{IsHeldManifest}
use Rattle.c2_rules.proofs.OneMedia.{one_file_reading}
use Rattle.c2_rules.proofs.OneReading.{one_list_of_readings, one_reading, one_store}
use Rattle.c2_rules.specs.Binding.{IsItemOf, Media}
use Rattle.c2_rules.specs.Chains.{LabelsDiffer}
use Rattle.c2_rules.specs.CheckList.{IsStoreReading, StoreReading}
use Rattle.c2_rules.specs.Claims.{HaveClaims}
use Rattle.c2_rules.specs.Questions.{HasQuestion, IsQuestionOf}
use Rattle.c2_rules.specs.Readings.{AreReadings, IsReading, Reading, claim_in, question_in}
use Rattle.c2_rules.specs.Validated.{IsFileReading}
use Rattle.c2_spec.specs.C2pa.Manifest.{HasClaim, Manifest, Superbox, claim_bytes, manifests_of, store_refusal}
use Rattle.c2_spec.specs.Cbor.Fields.{HasItem, IsUnread}
use Rattle.c2_spec.specs.Cbor.Item.{Item}
use Rattle.c2_spec.specs.Jumbf.Tree.{IsLegalTree, Tree}
use Rattle.c2_spec.specs.declared.cbor.CborError.{CborError}
use Rattle.c2_spec.specs.declared.claim.Claim.{Claim}
use Rattle.std.specs.List.{AllByRecursion}
use Rattle.std.specs.Prelude.{IfSome, List, None, Option, option_and_then, ℕ, ◌≡◌, ◌⊎◌}

-- a manifest has one claim, or none
pub one_claim : (m : Manifest) (c d : Option Claim) → HasClaim m c → HasClaim m d → c ≡ d
one_claim = one_claim_by

-- manifests have one list of claims
pub one_list_of_claims : (ms : List Manifest) (cs ds : List (Option Claim)) → HaveClaims ms cs → HaveClaims ms ds
    → cs ≡ ds
one_list_of_claims = one_list_of_claims_by

-- judges are asked at most one question of a manifest
pub one_question : (m : Manifest) (q r : Question) → HasQuestion m q → HasQuestion m r → q ≡ r
one_question = one_question_by

-- bytes that a program can hold are one legal item, or aren't for one cause, and never both
pub each_list_is_an_item_or_not_some : (s : List ℕ) → IsHeld s
    → ((v : Item) × HasItem s v) ⊎ ((e : CborError) × IsUnread s e)
each_list_is_an_item_or_not_some s h = read_or_not s h.bytes h.short

-- bytes that a program can hold are one legal item, or aren't for one cause, and never both
pub each_list_is_an_item_or_not_one : (s : List ℕ) (v : Item) (e : CborError) → IsHeld s → HasItem s v → IsUnread s e
    → ⊥
each_list_is_an_item_or_not_one s v e h has unread = read_once s h.bytes h.short v e has unread

-- a manifest whose claim bytes a program can hold has a claim or none
pub each_manifest_has_a_claim_or_not : (m : Manifest) → IfSome (claim_bytes m.claims) IsHeld
    → (c : Option Claim) × HasClaim m c
each_manifest_has_a_claim_or_not = each_manifest

-- a manifest whose claim bytes and signature item a program can hold has a question or none
pub each_manifest_has_a_question_or_not : (m : Manifest) → IfSome (claim_bytes m.claims) IsHeld
    → IfSome (option_and_then (λ (b : Superbox). b.item) m.signature) IsHeld
    → (found : Option Question) × IsQuestionOf m found
each_manifest_has_a_question_or_not = each_question

-- what is read of a manifest, of manifests and of a store is one
pub one_reading_manifest : (m : Manifest) (r s : Reading) → IsReading m r → IsReading m s → r ≡ s
one_reading_manifest = one_reading

-- what is read of a manifest, of manifests and of a store is one
pub one_reading_manifests : (ms : List Manifest) (rs ss : List Reading) → AreReadings ms rs → AreReadings ms ss
    → rs ≡ ss
one_reading_manifests = one_list_of_readings

-- what is read of a manifest, of manifests and of a store is one
pub one_reading_store : (m : Media) (ms : List Manifest) (s t : StoreReading) → IsStoreReading m ms s
    → IsStoreReading m ms t → s ≡ t
one_reading_store = one_store

-- the claim of a manifest that was read is its claim, and its question is its question
pub a_reading_is_the_claim_and_the_question_claim : (m : Manifest) (r : Reading) → IsReading m r
    → HasClaim m (claim_in r)
a_reading_is_the_claim_and_the_question_claim = claim_read

-- the claim of a manifest that was read is its claim, and its question is its question
pub a_reading_is_the_claim_and_the_question_question : (m : Manifest) (r : Reading) → IsReading m r
    → IsQuestionOf m (question_in r)
a_reading_is_the_claim_and_the_question_question = question_read

-- the manifests of a store have different labels
pub labels_of_a_store_differ : (t : Tree) (rs : List Reading) → IsLegalTree 1 t → store_refusal t ≡ None
    → AreReadings (manifests_of t) rs → LabelsDiffer rs
labels_of_a_store_differ = labels_differ

-- manifests whose payloads a program can hold are read as something, and so is the payload of a binding
pub each_store_is_read_manifests : (ms : List Manifest) → AllByRecursion IsHeldManifest ms
    → (rs : List Reading) × AreReadings ms rs
each_store_is_read_manifests = readings_or

-- manifests whose payloads a program can hold are read as something, and so is the payload of a binding
pub each_store_is_read_binding : (payload : Option (List ℕ)) → IfSome payload IsHeld
    → (v : Option Item) × IsItemOf payload v
each_store_is_read_binding = item_or

-- what is read of the store of a file is one
pub one_reading_file : (file : List ℕ) (t : Tree) (a b : StoreReading) → IsFileReading file t a → IsFileReading file t b
    → a ≡ b
one_reading_file = one_file_reading one_reading_store
