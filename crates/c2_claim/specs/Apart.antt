-- A claim whose redactions are held apart from its item; for private clauses.
use Rattle.std.specs.Prelude.{◌≡◌, ℕ, Bool, true, false, List, Option, Some, None, Result, Ok, Err, is_some, codes, ⊤}
use Rattle.c2_spec.specs.Cbor.Item.{Item}
use Rattle.c2_spec.specs.Cbor.Lookup.{field_of, ref_of}
use Rattle.c2_spec.specs.Cbor.Fields.{is_map, text_of, text_item, optional_text, list_of, optional_list}
use Rattle.c2_spec.specs.declared.cbor.Ref.{Ref}
use Rattle.c2_spec.specs.declared.claim.Claim.{Claim}
use Rattle.c2_spec.specs.declared.claim.ClaimError.{ClaimError}
use Rattle.c2_spec.specs.declared.claim.ClaimError.TheVariants.{Cbor, Fields, NoMemory}
use Rattle.c2_spec.specs.declared.claim.ClaimField.{ClaimField}
use Rattle.c2_spec.specs.declared.claim.ClaimField.TheVariants.{Alg, Assertions, Created, Gathered, InstanceId, Redacted, Signature}
use Rattle.c2_spec.specs.declared.claim.ClaimVersion.{ClaimVersion}
use Rattle.c2_spec.specs.declared.claim.ClaimVersion.TheVariants.{V1, V2}
use Rattle.c2_spec.proofs.ClaimVersions.{v1_claim_by, v2_claim_by}

-- the redactions of a claim, where they are held apart or stand in its item
abbrev pub redactions_of : Item → Option (List (List ℕ)) → Option (List (List ℕ))
redactions_of v None = optional_list text_item (field_of (codes "redacted_assertions") v)
redactions_of v (Some ts) = Some ts

-- the claim of version 1 that an item is with these redactions
abbrev pub v1_claim_apart : Item → Option (List (List ℕ)) → Result Claim ClaimField
v1_claim_apart v redacted =
    v1_claim_by (is_map v) (text_of (field_of (codes "signature") v)) (list_of ref_of (field_of (codes "assertions") v))
    redacted (optional_text (field_of (codes "alg") v)) (is_some (field_of (codes "created_assertions") v))
    (text_of (field_of (codes "instanceID") v))

-- the claim of version 2 that an item is with these redactions
abbrev pub v2_claim_apart : Item → Option (List (List ℕ)) → Result Claim ClaimField
v2_claim_apart v redacted =
    v2_claim_by (is_map v) (text_of (field_of (codes "instanceID") v)) (text_of (field_of (codes "signature") v))
    (list_of ref_of (field_of (codes "created_assertions") v)) (optional_list ref_of (field_of (codes "gathered_assertions") v))
    redacted (optional_text (field_of (codes "alg") v)) (is_some (field_of (codes "assertions") v))

-- the claim of this version that an item is with these redactions
abbrev pub claim_apart : ClaimVersion → Item → Option (List (List ℕ)) → Result Claim ClaimField
claim_apart V1 v redacted = v1_claim_apart v redacted
claim_apart V2 v redacted = v2_claim_apart v redacted

-- ---- some fields at a time

-- an answer for some fields that come to this: this, or out of memory
abbrev pub AgreesOn : {A : Type 0} → Result A ClaimField → Result A ClaimError → Type 0
AgreesOn expected (Ok x) = expected ≡ Ok x
AgreesOn expected (Err (Cbor e)) = ⊥
AgreesOn expected (Err (Fields f)) = expected ≡ Err f
AgreesOn expected (Err NoMemory) = ⊤

-- the value of a field, or the field, which is refused where it has none
abbrev pub wanted : {A : Type 0} → ClaimField → Option A → Result A ClaimField
wanted f None = Err f
wanted f (Some x) = Ok x

-- both values, or the first field that is refused
abbrev pub both_of : {A B : Type 0} → Result A ClaimField → Result B ClaimField → Result (A × B) ClaimField
both_of (Err f) second = Err f
both_of (Ok x) (Err f) = Err f
both_of (Ok x) (Ok y) = Ok (x, y)

-- these values, unless a field is refused last because it is there
abbrev pub unless : {A : Type 0} → ClaimField → Bool → Result A ClaimField → Result A ClaimField
unless f there (Err g) = Err g
unless f true (Ok x) = Err f
unless f false (Ok x) = Ok x

-- the signature and the assertions of a claim of version 1
abbrev pub v1_own : Item → Result (List ℕ × List Ref) ClaimField
v1_own v =
    both_of (wanted Signature (text_of (field_of (codes "signature") v)))
    (wanted Assertions (list_of ref_of (field_of (codes "assertions") v)))

-- the instance and the signature of a claim of version 2
abbrev pub v2_names : Item → Result (List ℕ × List ℕ) ClaimField
v2_names v =
    both_of (wanted InstanceId (text_of (field_of (codes "instanceID") v)))
    (wanted Signature (text_of (field_of (codes "signature") v)))

-- the created and the gathered assertions of a claim of version 2
abbrev pub v2_lists : Item → Result (List Ref × List Ref) ClaimField
v2_lists v =
    both_of (wanted Created (list_of ref_of (field_of (codes "created_assertions") v)))
    (wanted Gathered (optional_list ref_of (field_of (codes "gathered_assertions") v)))

-- the redactions and the algorithm of a claim, which mustn't have a field under this key
abbrev pub last_fields : ClaimField → List ℕ → Item → Option (List (List ℕ)) → Result (List (List ℕ) × Option (List ℕ)) ClaimField
last_fields f other v redacted =
    unless f (is_some (field_of other v))
    (both_of (wanted Redacted redacted) (wanted Alg (optional_text (field_of (codes "alg") v))))
