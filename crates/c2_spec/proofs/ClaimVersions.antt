-- A claim says its version, and an item is a claim under one version.
use Rattle.std.proofs.Common.{◌≡◌, ℕ, Bool, true, false, List, [], Option, Some, None, Result, Ok, Err, is_some, not, codes, refl, sym, ap, ◌∙◌, if◌then◌else◌}
use Rattle.c2_spec.specs.Cbor.Item.{Item}
use Rattle.c2_spec.specs.Cbor.Lookup.{field_of, ref_of}
use Rattle.c2_spec.specs.Cbor.Fields.{require, is_map, text_of, text_item, optional_text, list_of, optional_list}
use Rattle.c2_spec.specs.C2pa.Claim.{claim_of}
use Rattle.c2_spec.specs.declared.cbor.Ref.{Ref}
use Rattle.c2_spec.specs.declared.claim.Claim.{Claim}
use Rattle.c2_spec.specs.declared.claim.ClaimField.{ClaimField}
use Rattle.c2_spec.specs.declared.claim.ClaimField.TheVariants.{Whole, InstanceId, Signature, Created, Gathered, Redacted, Alg, Assertions}
use Rattle.c2_spec.specs.declared.claim.ClaimVersion.{ClaimVersion}
use Rattle.c2_spec.specs.declared.claim.ClaimVersion.TheVariants.{V1, V2}
use Rattle.c2_lemmas.proofs.Bools.{true_and_false}

-- ---- by fields

-- The claim of version 1 with these fields of an item, or the first that is refused; its instance comes last.
abbrev pub v1_claim_by : Bool → Option (List ℕ) → Option (List Ref) → Option (List (List ℕ)) → Option (Option (List ℕ))
    → Bool → Option (List ℕ) → Result Claim ClaimField
v1_claim_by map a_signature all_created all_redacted an_alg has_created instance =
    if not map then Err Whole
    else require Signature a_signature (λ signature.
    require Assertions all_created (λ created.
    require Redacted all_redacted (λ redacted.
    require Alg an_alg (λ alg.
    if has_created then Err Created
    else Ok (record { version = V1; signature = signature; instance = instance; alg = alg; created = created; gathered = []; redacted = redacted })))))

-- the list of version 2 isn't there
v1_facts : (map : Bool) (s : Option (List ℕ)) (a : Option (List Ref)) (r : Option (List (List ℕ))) (g : Option (Option (List ℕ))) (other : Bool) (i : Option (List ℕ)) (c : Claim)
    → v1_claim_by map s a r g other i ≡ Ok c → (other ≡ false) × (c.version ≡ V1)
v1_facts false s a r g other i c e = absurd (cc (e))
v1_facts true None a r g other i c e = absurd (cc (e))
v1_facts true (Some s) None r g other i c e = absurd (cc (e))
v1_facts true (Some s) (Some a) None g other i c e = absurd (cc (e))
v1_facts true (Some s) (Some a) (Some r) None other i c e = absurd (cc (e))
v1_facts true (Some s) (Some a) (Some r) (Some g) true i c e = absurd (cc (e))
v1_facts true (Some s) (Some a) (Some r) (Some g) false i c e = (refl, says V1 _ c (sym e) refl)
  where
    says : (version : ClaimVersion) (d c : Claim) → ◌≡◌ {A = Result Claim ClaimField} (Ok c) (Ok d)
        → d.version ≡ version → c.version ≡ version
    says version d c e is = let same : c ≡ d = cc (e) in ap (λ (x : Claim). x.version) same ∙ is

-- the claim of version 2 with these fields of an item, or the first that is refused
abbrev pub v2_claim_by : Bool → Option (List ℕ) → Option (List ℕ) → Option (List Ref) → Option (List Ref)
    → Option (List (List ℕ)) → Option (Option (List ℕ)) → Bool → Result Claim ClaimField
v2_claim_by map an_instance a_signature all_created all_gathered all_redacted an_alg has_assertions =
    if not map then Err Whole
    else require InstanceId an_instance (λ instance.
    require Signature a_signature (λ signature.
    require Created all_created (λ created.
    require Gathered all_gathered (λ gathered.
    require Redacted all_redacted (λ redacted.
    require Alg an_alg (λ alg.
    if has_assertions then Err Assertions
    else Ok (record { version = V2; signature = signature; instance = Some instance; alg = alg; created = created; gathered = gathered; redacted = redacted })))))))

-- a claim that is read as version 2 has the list of that version
v2_facts : (map : Bool) (i s : Option (List ℕ)) (a h : Option (List Ref)) (r : Option (List (List ℕ))) (g : Option (Option (List ℕ))) (other : Bool) (c : Claim)
    → v2_claim_by map i s a h r g other ≡ Ok c → (is_some a ≡ true) × (c.version ≡ V2)
v2_facts false i s a h r g other c e = absurd (cc (e))
v2_facts true None s a h r g other c e = absurd (cc (e))
v2_facts true (Some i) None a h r g other c e = absurd (cc (e))
v2_facts true (Some i) (Some s) None h r g other c e = absurd (cc (e))
v2_facts true (Some i) (Some s) (Some a) None r g other c e = absurd (cc (e))
v2_facts true (Some i) (Some s) (Some a) (Some h) None g other c e = absurd (cc (e))
v2_facts true (Some i) (Some s) (Some a) (Some h) (Some r) None other c e = absurd (cc (e))
v2_facts true (Some i) (Some s) (Some a) (Some h) (Some r) (Some g) true c e = absurd (cc (e))
v2_facts true (Some i) (Some s) (Some a) (Some h) (Some r) (Some g) false c e = (refl, says V2 _ c (sym e) refl)
  where
    says : (version : ClaimVersion) (d c : Claim) → ◌≡◌ {A = Result Claim ClaimField} (Ok c) (Ok d)
        → d.version ≡ version → c.version ≡ version
    says version d c e is = let same : c ≡ d = cc (e) in ap (λ (x : Claim). x.version) same ∙ is

-- ---- of an item

-- the list of assertions of version 2
abbrev created_in : Item → Option Item
created_in v = field_of (codes "created_assertions") v

-- a list that was read is there
list_there : {A : Type 0} (read : Item → Option A) (o : Option Item) → is_some (list_of read o) ≡ true
    → is_some o ≡ true
list_there read None e = absurd (cc (e))
list_there read (Some v) e = refl

-- a claim of version 1 hasn't that list
v1_claim : (v : Item) (c : Claim) → claim_of V1 v ≡ Ok c → (is_some (created_in v) ≡ false) × (c.version ≡ V1)
v1_claim v c e =
    v1_facts (is_map v) (text_of (field_of (codes "signature") v)) (list_of ref_of (field_of (codes "assertions") v))
    (optional_list text_item (field_of (codes "redacted_assertions") v)) (optional_text (field_of (codes "alg") v))
    (is_some (created_in v))
    (text_of (field_of (codes "instanceID") v)) c e

-- a claim of version 2 has it
v2_claim : (v : Item) (c : Claim) → claim_of V2 v ≡ Ok c → (is_some (created_in v) ≡ true) × (c.version ≡ V2)
v2_claim v c e =
    let facts =
    v2_facts (is_map v) (text_of (field_of (codes "instanceID") v)) (text_of (field_of (codes "signature") v))
    (list_of ref_of (created_in v))
    (optional_list ref_of (field_of (codes "gathered_assertions") v))
    (optional_list text_item (field_of (codes "redacted_assertions") v))
    (optional_text (field_of (codes "alg") v)) (is_some (field_of (codes "assertions") v)) c e in
    (list_there ref_of (created_in v) facts.0, facts.1)

-- a claim says the version that it was read under
pub says_version : (version : ClaimVersion) (v : Item) (c : Claim) → claim_of version v ≡ Ok c → c.version ≡ version
says_version V1 v c e = (v1_claim v c e).1
says_version V2 v c e = (v2_claim v c e).1

-- an item is a claim under one version
pub one_version : (version other : ClaimVersion) (v : Item) (c d : Claim) → claim_of version v ≡ Ok c
    → claim_of other v ≡ Ok d → version ≡ other
one_version V1 V1 v c d p q = refl
one_version V2 V2 v c d p q = refl
one_version V1 V2 v c d p q = true_and_false (is_some (created_in v)) (v2_claim v d q).0 (v1_claim v c p).0
one_version V2 V1 v c d p q = true_and_false (is_some (created_in v)) (v2_claim v c p).0 (v1_claim v d q).0

-- an item is one claim, under whichever versions it is read
pub one_claim_of : (version other : ClaimVersion) (v : Item) (c d : Claim) → claim_of version v ≡ Ok c
    → claim_of other v ≡ Ok d → c ≡ d
one_claim_of version other v c d p q =
    let same : ◌≡◌ {A = Result Claim ClaimField} (Ok c) (Ok d) =
    sym p ∙ ap (λ w. claim_of w v) (one_version version other v c d p q) ∙ q in
    cc (same)
