-- A manifest of lists that a program can hold has a question or none.
use Rattle.c2_sigstruct.proofs.TheLaws.{each_item_is_a_message_or_not}
use Rattle.std.proofs.Common.{◌≡◌, refl, sym, ap, subst, ◌∙◌, ◌⊎◌, inl, inr, ℕ, Bool, true, false, List, IfSome, Option, Some, None}
use Rattle.std.specs.Option.{option_and_then}
use Rattle.c2_base.specs.declared.values.Question.{Question}
use Rattle.c2_spec.specs.Cbor.Item.{Item}
use Rattle.c2_spec.specs.C2pa.Claim.{IsClaim}
use Rattle.c2_spec.specs.Cbor.Fields.{HasItem, IsUnread}
use Rattle.c2_spec.specs.C2pa.Manifest.{Manifest, Superbox, HasClaim, claim_bytes, claim_version_of}
use Rattle.c2_spec.specs.C2pa.Sign1.{SignParts, IsMessage, SpellsMessage, question_of}
use Rattle.c2_spec.specs.C2pa.Uri.{uri_of}
use Rattle.c2_spec.specs.declared.cbor.CborError.{CborError}
use Rattle.c2_spec.specs.declared.claim.Claim.{Claim}
use Rattle.c2_rules.specs.Questions.{HasQuestion, IsQuestionOf, is_signature_uri}
use Rattle.c2_read_manifests.specs.Existing.{IsHeld}
use Rattle.c2_read_manifests.proofs.Existing.{each_manifest}
use Rattle.c2_read_manifests.proofs.TakenLaws.{item_laws}
use Rattle.c2_read_manifests.proofs.Unique.{one_claim}
use Rattle.c2_cbor_spec.proofs.PlainBack.{one_item}

-- ---- whether bytes are a message

-- bytes that are an item are a message or none, as the item is
message_item : (s : List ℕ) (v : Item) → HasItem s v
    → ((p : SignParts) × IsMessage v p) ⊎ ((p : SignParts) → IsMessage v p → ⊥)
    → ((p : SignParts) × SpellsMessage s p) ⊎ ((p : SignParts) → SpellsMessage s p → ⊥)
message_item s v has (inl (p, is)) = inl (p, record { message = v; legal = has.legal; spelled = has.spelled; is = is })
message_item s v has (inr none) =
    inr (λ p h.
    let same : h.message ≡ v = one_item h.message v s h.spelled has.spelled in
    none p (subst (λ (w : Item). IsMessage w p) same h.is))

-- bytes that a program can hold are a message or none
pub message_bytes : (s : List ℕ) → IsHeld s
    → ((p : SignParts) × SpellsMessage s p) ⊎ ((p : SignParts) → SpellsMessage s p → ⊥)
message_bytes s held = by (item_laws.each_list s held)
  where
    by : ((v : Item) × HasItem s v) ⊎ ((e : CborError) × IsUnread s e)
        → ((p : SignParts) × SpellsMessage s p) ⊎ ((p : SignParts) → SpellsMessage s p → ⊥)
    by (inl (v, has)) = message_item s v has (each_item_is_a_message_or_not v)
    by (inr (e, unread)) =
        inr (λ p h. item_laws.never_both s held h.message e (record { legal = h.legal; spelled = h.spelled }) unread)

-- ---- a question or none

-- the item of the signature box
abbrev pub signature_item : Manifest → Option (List ℕ)
signature_item m = option_and_then (λ (b : Superbox). b.item) m.signature

-- without a claim there is no question
without_claim : (m : Manifest) → HasClaim m None → IsQuestionOf m None
without_claim m none q h = none h.bytes h.claim h.has_bytes h.is_claim

-- a question is over the manifest's claim
same_claim_of : (m : Manifest) (b : List ℕ) (c : Claim) → claim_bytes m.claims ≡ Some b
    → IsClaim (claim_version_of m.claims) b c → (q : Question) (h : HasQuestion m q) → Some h.claim ≡ Some c
same_claim_of m b c at is q h = one_claim m (Some h.claim) (Some c) (h.bytes, h.has_bytes, h.is_claim) (b, at, is)

-- a claim that names no signature of its own has no question
other_uri : (m : Manifest) (b : List ℕ) (c : Claim) → claim_bytes m.claims ≡ Some b
    → IsClaim (claim_version_of m.claims) b c → is_signature_uri m (uri_of c.signature) ≡ false → IsQuestionOf m None
other_uri m b c at is no_uri q h =
    let same : h.claim ≡ c = (let both = same_claim_of m b c at is q h in cc (both)) in
    let names = sym (ap (λ (d : Claim). is_signature_uri m (uri_of d.signature)) same) ∙ h.names in
    let wrong = sym no_uri ∙ names in
    cc (wrong)

-- without an item in the signature box there is no question
without_item : (m : Manifest) → signature_item m ≡ None → IsQuestionOf m None
without_item m none q h = let wrong = sym none ∙ h.has_item in cc (wrong)

-- where that item is no message there is no question
no_message : (m : Manifest) (s : List ℕ) → signature_item m ≡ Some s → ((p : SignParts) → SpellsMessage s p → ⊥)
    → IsQuestionOf m None
no_message m s at none q h =
    let same : h.item ≡ s = (let both = sym h.has_item ∙ at in cc (both)) in
    none h.parts (subst (λ (x : List ℕ). SpellsMessage x h.parts) same h.is_message)

-- where the claim names the signature, there is a question or none, as the item is a message or none
by_message : (m : Manifest) (b : List ℕ) (c : Claim) (s : List ℕ) → claim_bytes m.claims ≡ Some b
    → IsClaim (claim_version_of m.claims) b c → is_signature_uri m (uri_of c.signature) ≡ true
    → signature_item m ≡ Some s → ((p : SignParts) × SpellsMessage s p) ⊎ ((p : SignParts) → SpellsMessage s p → ⊥)
    → (found : Option Question) × IsQuestionOf m found
by_message m b c s at is names stored (inl (p, h)) =
    (Some (question_of p b), record { bytes = b; has_bytes = at; claim = c; is_claim = is; names = names; item = s; has_item = stored; parts = p; is_message = h; is = refl })
by_message m b c s at is names stored (inr none) = (None, no_message m s stored none)

-- where the claim names the signature, there is a question or none, by the item of the signature box
by_item : (m : Manifest) (b : List ℕ) (c : Claim) → claim_bytes m.claims ≡ Some b
    → IsClaim (claim_version_of m.claims) b c → is_signature_uri m (uri_of c.signature) ≡ true → (o : Option (List ℕ))
    → signature_item m ≡ o → IfSome o IsHeld → (found : Option Question) × IsQuestionOf m found
by_item m b c at is names None stored held = (None, without_item m stored)
by_item m b c at is names (Some s) stored held = by_message m b c s at is names stored (message_bytes s held)

-- where there is a claim, there is a question or none, whether or not the claim names the signature
by_uri : (m : Manifest) (b : List ℕ) (c : Claim) → claim_bytes m.claims ≡ Some b
    → IsClaim (claim_version_of m.claims) b c → (t : Bool) → is_signature_uri m (uri_of c.signature) ≡ t
    → IfSome (signature_item m) IsHeld → (found : Option Question) × IsQuestionOf m found
by_uri m b c at is true names held = by_item m b c at is names (signature_item m) refl held
by_uri m b c at is false names held = (None, other_uri m b c at is names)

-- there is a question of a manifest or none, whether or not there is a claim
by_claim : (m : Manifest) (c : Option Claim) → HasClaim m c → IfSome (signature_item m) IsHeld
    → (found : Option Question) × IsQuestionOf m found
by_claim m None none held = (None, without_claim m none)
by_claim m (Some c) h held = by_uri m h.0 c h.1 h.2 (is_signature_uri m (uri_of c.signature)) refl held

-- a manifest has a question or none
pub each_question : (m : Manifest) → IfSome (claim_bytes m.claims) IsHeld → IfSome (signature_item m) IsHeld
    → (found : Option Question) × IsQuestionOf m found
each_question m claim held = let own = each_manifest m claim in by_claim m own.0 own.1 held
