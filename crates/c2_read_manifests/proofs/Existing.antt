-- A manifest of bytes that a program can hold has a claim or none.
use Rattle.std.proofs.Common.{◌≡◌, refl, sym, ap, subst, ◌∙◌, ◌⊎◌, inl, inr, ℕ, List, IfSome, Option, Some, None, Result, Ok, Err}
use Rattle.c2_spec.specs.Cbor.Item.{Item}
use Rattle.c2_spec.specs.Cbor.Spelling.{Spells}
use Rattle.c2_spec.specs.C2pa.Claim.{claim_of}
use Rattle.c2_spec.specs.Cbor.Fields.{HasItem, IsUnread}
use Rattle.c2_spec.specs.C2pa.Manifest.{Manifest, HasClaim, claim_bytes, claim_version_of}
use Rattle.c2_spec.specs.declared.cbor.CborError.{CborError}
use Rattle.c2_spec.specs.declared.claim.Claim.{Claim}
use Rattle.c2_spec.specs.declared.claim.ClaimField.{ClaimField}
use Rattle.c2_read_manifests.specs.Existing.{IsHeld}
use Rattle.c2_read_manifests.proofs.TakenLaws.{item_laws}
use Rattle.c2_cbor_spec.proofs.PlainBack.{one_item}

-- without claim bytes there is no claim
none_here : (m : Manifest) → claim_bytes m.claims ≡ None → HasClaim m None
none_here m e bytes c at is = let both = sym e ∙ at in cc (both)

-- claim bytes are one list
same_bytes : (m : Manifest) (a b : List ℕ) → claim_bytes m.claims ≡ Some a → claim_bytes m.claims ≡ Some b → b ≡ a
same_bytes m a b p q = let both = sym q ∙ p in cc (both)

-- claim bytes that aren't an item are no claim
unread_none : (m : Manifest) (b : List ℕ) (e : CborError) → claim_bytes m.claims ≡ Some b → IsHeld b → IsUnread b e
    → HasClaim m None
unread_none m b e at held unread bytes c at_bytes is =
    item_laws.never_both b held is.item e
    (subst (λ (x : List ℕ). HasItem x is.item) (same_bytes m b bytes at at_bytes) is.has) unread

-- claim bytes whose item is refused for a field are no claim
refused_none : (m : Manifest) (b : List ℕ) (v : Item) (f : ClaimField) → claim_bytes m.claims ≡ Some b → HasItem b v
    → claim_of (claim_version_of m.claims) v ≡ Err f → HasClaim m None
refused_none m b v f at has refused bytes c at_bytes is =
    let same : is.item ≡ v =
    one_item is.item v b (subst (Spells is.item) (same_bytes m b bytes at at_bytes) is.has.spelled) has.spelled in
    let both = sym (ap (claim_of (claim_version_of m.claims)) same) ∙ is.is in
    let wrong = sym refused ∙ both in
    cc (wrong)

-- claim bytes that are an item are a claim or none
claim_of_item : (m : Manifest) (b : List ℕ) (v : Item) → claim_bytes m.claims ≡ Some b → HasItem b v
    → (r : Result Claim ClaimField) → claim_of (claim_version_of m.claims) v ≡ r → (c : Option Claim) × HasClaim m c
claim_of_item m b v at has (Ok c) is = (Some c, (b, at, record { item = v; has = has; is = is }))
claim_of_item m b v at has (Err f) is = (None, refused_none m b v f at has is)

-- claim bytes are a claim or none
claim_of_bytes : (m : Manifest) (b : List ℕ) → claim_bytes m.claims ≡ Some b → IsHeld b
    → ((v : Item) × HasItem b v) ⊎ ((e : CborError) × IsUnread b e) → (c : Option Claim) × HasClaim m c
claim_of_bytes m b at held (inl (v, has)) = claim_of_item m b v at has (claim_of (claim_version_of m.claims) v) refl
claim_of_bytes m b at held (inr (e, unread)) = (None, unread_none m b e at held unread)

-- a manifest has a claim or none, by its claim bytes
claim_or : (m : Manifest) (o : Option (List ℕ)) → claim_bytes m.claims ≡ o → IfSome o IsHeld
    → (c : Option Claim) × HasClaim m c
claim_or m None at h = (None, none_here m at)
claim_or m (Some b) at h = claim_of_bytes m b at h (item_laws.each_list b h)

-- a manifest has a claim or none
pub each_manifest : (m : Manifest) → IfSome (claim_bytes m.claims) IsHeld → (c : Option Claim) × HasClaim m c
each_manifest m h = claim_or m (claim_bytes m.claims) refl h
