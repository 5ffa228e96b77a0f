-- The claim and the question of a manifest are those that were read.
use Rattle.std.proofs.Common.{◌≡◌, ℕ, Bool, true, false, List, Option, Some, None, is_some, option_and_then, refl, sym, ap, ◌∙◌, subst}
use Rattle.std.proofs.lemmas.Option.{same_Some}
use Rattle.c2_base.specs.declared.values.Question.{Question}
use Rattle.c2_spec.specs.C2pa.Claim.{claim_of, IsClaim}
use Rattle.c2_spec.specs.C2pa.Manifest.{Manifest, Superbox, HasClaim, claim_bytes, claim_version_of}
use Rattle.c2_spec.specs.C2pa.Sign1.{SignParts, SpellsMessage, question_of}
use Rattle.c2_spec.specs.C2pa.Uri.{uri_of}
use Rattle.c2_spec.specs.declared.claim.Claim.{Claim}
use Rattle.c2_spec.specs.declared.claim.ClaimVersion.{ClaimVersion}
use Rattle.c2_rules.specs.Questions.{HasQuestion, IsQuestionOf, is_signature_uri}
use Rattle.c2_rules.specs.Readings.{IsParsed, IsMessageOf, Reading, IsReading, value_in, claim_in, names_signature, asked_of, question_in, signature_item}
use Rattle.c2_rules.specs.declared.parsed.Parsed.{Parsed}
use Rattle.c2_rules.specs.declared.parsed.Parsed.TheVariants.{NoItem, NoForm, Value}
use Rattle.c2_lemmas.proofs.Bools.{and_true, both_true}
use Rattle.c2_rules.proofs.OneAnswer.{message_of}
use Rattle.c2_rules.proofs.OneReading.{one_message_of, one_parsed}

-- ---- the claim

-- bytes that are a claim are read as it
as_parsed : (version : ClaimVersion) (s : List ℕ) (c : Claim) → IsClaim version s c
    → IsParsed (claim_of version) (Some s) (Value c)
as_parsed version s c h = (h.item, h.has, h.is)

-- claim bytes are read as their claim
same_claim : (version : ClaimVersion) (o : Option (List ℕ)) (p : Parsed Claim) (bytes : List ℕ) (c : Claim)
    → IsParsed (claim_of version) o p → o ≡ Some bytes → IsClaim version bytes c → p ≡ Value c
same_claim version o p bytes c read at is =
    one_parsed (claim_of version) (Some bytes) p (Value c)
    (subst (λ (x : Option (List ℕ)). IsParsed (claim_of version) x p) at read) (as_parsed version bytes c is)

-- what claim bytes are read as is the claim that they are, or none
claim_parsed : (m : Manifest) (o : Option (List ℕ)) (p : Parsed Claim) → claim_bytes m.claims ≡ o
    → IsParsed (claim_of (claim_version_of m.claims)) o p → HasClaim m (value_in p)
claim_parsed m o NoItem at h = λ bytes c is claim. let wrong : NoItem ≡ Value c = same_claim (claim_version_of m.claims) o NoItem bytes c h (sym at ∙ is) claim in cc (wrong)
claim_parsed m o NoForm at h = λ bytes c is claim. let wrong : NoForm ≡ Value c = same_claim (claim_version_of m.claims) o NoForm bytes c h (sym at ∙ is) claim in cc (wrong)
claim_parsed m None (Value c) at h = absurd h
claim_parsed m (Some bytes) (Value c) at h = (bytes, at, record { item = h.0; has = h.1; is = h.2 })

-- the claim that was read is the claim of the manifest
pub claim_read : (m : Manifest) (r : Reading) → IsReading m r → HasClaim m (claim_in r)
claim_read m r h = claim_parsed m (claim_bytes m.claims) r.claim refl h.claim

-- ---- the question

-- a claim and a message that were read are those that a question speaks of
read_message : (o : Option (List ℕ)) (p : Option SignParts) (bytes : List ℕ) (q : SignParts) → IsMessageOf o p
    → o ≡ Some bytes → SpellsMessage bytes q → p ≡ Some q
read_message o p bytes q read at is =
    one_message_of (Some bytes) p (Some q) (subst (λ (x : Option (List ℕ)). IsMessageOf x p) at read) is

-- where a manifest has a question, it is the one that follows from what was read
only_question : (m : Manifest) (r : Reading) (q : Question) → IsReading m r → HasQuestion m q → question_in r ≡ Some q
only_question m r q h has =
    let claim : r.claim ≡ Value has.claim =
    same_claim (claim_version_of m.claims) (claim_bytes m.claims) r.claim has.bytes has.claim h.claim
    has.has_bytes has.is_claim in
    let message : r.message ≡ Some has.parts =
    read_message (signature_item m) r.message has.item has.parts h.message has.has_item has.is_message in
    let names : names_signature m (Some has.claim) ≡ true =
    and_true (is_some m.signature) (is_signature_uri m (uri_of has.claim.signature))
    (some_box m.signature has.item has.has_item) has.names in
    let named : names_signature r.manifest (claim_in r) ≡ true =
    ap (λ (x : Manifest). names_signature x (claim_in r)) h.same
    ∙ ap (λ (p : Parsed Claim). names_signature m (value_in p)) claim ∙ names in
    let bytes : claim_bytes r.manifest.claims ≡ Some has.bytes =
    ap (λ (x : Manifest). claim_bytes x.claims) h.same ∙ has.has_bytes in
    ap (λ (b : Bool). asked_of b (claim_bytes r.manifest.claims) r.message) named
    ∙ ap (λ (o : Option (List ℕ)). asked_of true o r.message) bytes
    ∙ ap (asked_of true (Some has.bytes)) message
    ∙ ap Some (sym has.is)
  where
    some_box : (o : Option Superbox) (item : List ℕ) → option_and_then (λ (b : Superbox). b.item) o ≡ Some item
        → is_some o ≡ true
    some_box None item e = absurd cc
    some_box (Some b) item e = refl

-- what a question is made of
pub record Asked (names : Bool) (bytes : Option (List ℕ)) (message : Option SignParts) (q : Question) : Type 0 where
  pub named : names ≡ true
  pub claim : List ℕ
  pub has_claim : bytes ≡ Some claim
  pub parts : SignParts
  pub has_parts : message ≡ Some parts
  pub is : q ≡ question_of parts claim

-- a question that is asked has a named signature, claim bytes and a message
asked_from : (names : Bool) (bytes : Option (List ℕ)) (message : Option SignParts) (q : Question)
    → asked_of names bytes message ≡ Some q → Asked names bytes message q
asked_from true (Some b) (Some p) q e =
    record
    { named = refl; claim = b; has_claim = refl; parts = p; has_parts = refl; is = sym (same_Some (question_of p b) q e) }
asked_from true (Some b) None q e = absurd cc
asked_from true None p q e = absurd cc
asked_from false b p q e = absurd cc

-- where a read claim names its signature, the claim bytes are a claim that does
claim_value : (m : Manifest) (p : Parsed Claim) (bytes : List ℕ)
    → IsParsed (claim_of (claim_version_of m.claims)) (claim_bytes m.claims) p → claim_bytes m.claims ≡ Some bytes
    → names_signature m (value_in p) ≡ true
    → (c : Claim) × IsClaim (claim_version_of m.claims) bytes c × (is_signature_uri m (uri_of c.signature) ≡ true)
claim_value m NoItem bytes h at names =
    absurd (let wrong = (both_true (is_some m.signature) false names).1 in cc (wrong))
claim_value m NoForm bytes h at names =
    absurd (let wrong = (both_true (is_some m.signature) false names).1 in cc (wrong))
claim_value m (Value c) bytes h at names =
    let read = subst (λ (x : Option (List ℕ)). IsParsed (claim_of (claim_version_of m.claims)) x (Value c)) at h in
    (c, record { item = read.0; has = read.1; is = read.2 }, (both_true (is_some m.signature) (is_signature_uri m (uri_of c.signature)) names).1)

-- a question that follows from what was read is the manifest's
question_is : (m : Manifest) (r : Reading) (q : Question) → IsReading m r → question_in r ≡ Some q → HasQuestion m q
question_is m r q h e =
    let from = asked_from (names_signature r.manifest (claim_in r)) (claim_bytes r.manifest.claims) r.message q e in
    let bytes : claim_bytes m.claims ≡ Some from.claim =
    ap (λ (x : Manifest). claim_bytes x.claims) (sym h.same) ∙ from.has_claim in
    let names : names_signature m (claim_in r) ≡ true =
    ap (λ (x : Manifest). names_signature x (claim_in r)) (sym h.same) ∙ from.named in
    let claim = claim_value m r.claim from.claim h.claim bytes names in
    let message =
    message_of (signature_item m) from.parts
    (subst (λ (p : Option SignParts). IsMessageOf (signature_item m) p) from.has_parts h.message) in
    record
    { bytes = from.claim; has_bytes = bytes; claim = claim.0; is_claim = claim.1; names = claim.2; item = message.0; has_item = message.1; parts = from.parts; is_message = message.2; is = from.is }

-- what follows from what was read is the question of the manifest, or none
pub question_read : (m : Manifest) (r : Reading) → IsReading m r → IsQuestionOf m (question_in r)
question_read m r h = by (question_in r) refl
  where
    by : (o : Option Question) → question_in r ≡ o → IsQuestionOf m o
    by (Some q) e = question_is m r q h e
    by None e = λ q has. let wrong = sym e ∙ only_question m r q h has in cc (wrong)
