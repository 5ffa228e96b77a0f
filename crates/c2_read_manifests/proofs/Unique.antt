-- A manifest has one claim or none, and judges are asked at most one question of it.
use Rattle.std.proofs.Common.{◌≡◌, ℕ, List, [], ◌∷◌, Option, Some, None, refl, sym, ap, ◌∙◌, subst}
use Rattle.std.specs.Option.{option_and_then}
use Rattle.c2_base.specs.declared.values.Question.{Question}
use Rattle.c2_spec.specs.C2pa.Claim.{claim_of, IsClaim}
use Rattle.c2_spec.specs.C2pa.Manifest.{Manifest, Superbox, HasClaim, claim_bytes, claim_version_of}
use Rattle.c2_spec.specs.C2pa.Sign1.{SignParts, SpellsMessage, question_of}
use Rattle.c2_spec.specs.declared.claim.Claim.{Claim}
use Rattle.c2_spec.specs.declared.claim.ClaimVersion.{ClaimVersion}
use Rattle.c2_rules.specs.Claims.{HaveClaims}
use Rattle.c2_rules.specs.Questions.{HasQuestion}
use Rattle.c2_spec.proofs.OneMessage.{same_message}
use Rattle.c2_cbor_spec.proofs.PlainBack.{one_item}
use Rattle.c2_lemmas.proofs.Options.{one_value}

-- bytes are one claim
pub same_claim : (version : ClaimVersion) (b : List ℕ) (c d : Claim) → IsClaim version b c → IsClaim version b d → c ≡ d
same_claim version b c d p q =
    let same : p.item ≡ q.item = one_item p.item q.item b p.has.spelled q.has.spelled in
    let one : claim_of version p.item ≡ claim_of version q.item = ap (claim_of version) same in
    cc (p.is, q.is, one)

-- two claims that a manifest has are one
same_found : (m : Manifest) (b : List ℕ) (c : Claim) (a : List ℕ) (d : Claim) → claim_bytes m.claims ≡ Some b
    → IsClaim (claim_version_of m.claims) b c → claim_bytes m.claims ≡ Some a → IsClaim (claim_version_of m.claims) a d
    → c ≡ d
same_found m b c a d at_b p at_a q =
    same_claim (claim_version_of m.claims) b c d p
    (subst (λ (x : List ℕ). IsClaim (claim_version_of m.claims) x d) (one_value (claim_bytes m.claims) a b at_a at_b) q)

-- a manifest has one claim, or none
pub one_claim : (m : Manifest) (c d : Option Claim) → HasClaim m c → HasClaim m d → c ≡ d
one_claim m None None p q = refl
one_claim m None (Some d) p q = absurd (p q.0 d q.1 q.2)
one_claim m (Some c) None p q = absurd (q p.0 c p.1 p.2)
one_claim m (Some c) (Some d) p q = ap Some (same_found m p.0 c q.0 d p.1 p.2 q.1 q.2)

-- manifests have one list of claims
pub one_list_of_claims : (ms : List Manifest) (cs ds : List (Option Claim)) → HaveClaims ms cs → HaveClaims ms ds
    → cs ≡ ds
one_list_of_claims [] [] [] p q = refl
one_list_of_claims [] [] (d ∷ ds) p q = absurd q
one_list_of_claims [] (c ∷ cs) ds p q = absurd p
one_list_of_claims (m ∷ ms) [] ds p q = absurd p
one_list_of_claims (m ∷ ms) (c ∷ cs) [] p q = absurd q
one_list_of_claims (m ∷ ms) (c ∷ cs) (d ∷ ds) p q =
    let first : c ≡ d = one_claim m c d p.0 q.0 in
    let rest : cs ≡ ds = one_list_of_claims ms cs ds p.1 q.1 in
    cc (first, rest)

-- ---- one question

-- equal parts and equal claims make one question
same_asked : (p q : SignParts) (a b : List ℕ) → p ≡ q → a ≡ b → question_of p a ≡ question_of q b
same_asked p q a b e f = ap (λ (x : SignParts). question_of x a) e ∙ ap (λ (x : List ℕ). question_of q x) f

-- judges are asked one question of a manifest
pub one_question : (m : Manifest) (q r : Question) → HasQuestion m q → HasQuestion m r → q ≡ r
one_question m q r a b =
    let claim : a.bytes ≡ b.bytes = one_value (claim_bytes m.claims) a.bytes b.bytes a.has_bytes b.has_bytes in
    let item : b.item ≡ a.item =
    one_value (option_and_then (λ (x : Superbox). x.item) m.signature) b.item a.item b.has_item a.has_item in
    let parts : a.parts ≡ b.parts =
    same_message one_item a.item a.parts b.parts a.is_message
    (subst (λ (s : List ℕ). SpellsMessage s b.parts) item b.is_message) in
    a.is ∙ same_asked a.parts b.parts a.bytes b.bytes parts claim ∙ sym b.is
