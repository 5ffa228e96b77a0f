-- What a chain says of the manifests of its store, by what was read of them.
use Rattle.std.proofs.Common.{◌≡◌, ℕ, zero, suc, ◌<◌, List, [], ◌∷◌, length, map, get_or, Option, Some, None, Result, Ok, Err, IfOk, IfSome, slice_get, refl, sym, ap, ap₂, ◌∙◌, subst}
use Rattle.std.proofs.lemmas.Option.{same_Some}
use Rattle.c2_base.specs.declared.values.Question.{Question}
use Rattle.c2_spec.specs.C2pa.Manifest.{Manifest, HasClaim}
use Rattle.c2_spec.specs.declared.claim.Claim.{Claim}
use Rattle.c2_spec.specs.declared.store.ManifestBoxes.{ManifestBoxes}
use Rattle.c2_rules.specs.Chains.{LabelsDiffer}
use Rattle.c2_rules.specs.Claims.{Chained, chained_of, HaveClaims}
use Rattle.std.proofs.lemmas.List.{length-map}
use Rattle.c2_rules.specs.Questions.{HasQuestion, IsQuestionOf}
use Rattle.c2_rules.specs.Readings.{Reading, IsReading, AreReadings, claim_in, question_in}
use Rattle.c2_chain.specs.Kept.{IsChain}
use Rattle.c2_rules.proofs.OneAnswer.{there}

-- ---- all manifests

-- the manifests that readings hold are those that were read
pub same_manifests : (ms : List Manifest) (rs : List Reading) → AreReadings ms rs
    → map (λ (r : Reading). r.manifest) rs ≡ ms
same_manifests [] [] h = refl
same_manifests [] (r ∷ rs) h = absurd h
same_manifests (m ∷ ms) [] h = absurd h
same_manifests (m ∷ ms) (r ∷ rs) h =
    ap₂ (λ (x : Manifest) (xs : List Manifest). x ∷ xs) h.0.same (same_manifests ms rs h.1)

-- manifests that were read have the claims that were read of them, one by one
have_claims : ((m : Manifest) (r : Reading) → IsReading m r → HasClaim m (claim_in r))
    → (ms : List Manifest) (rs : List Reading) → AreReadings ms rs → HaveClaims ms (map claim_in rs)
have_claims law [] [] h = tt
have_claims law [] (r ∷ rs) h = absurd h
have_claims law (m ∷ ms) [] h = absurd h
have_claims law (m ∷ ms) (r ∷ rs) h = (law m r h.0, have_claims law ms rs h.1)

-- the manifests that readings hold have the claims that the readings hold
pub claims_had : ((m : Manifest) (r : Reading) → IsReading m r → HasClaim m (claim_in r))
    → (ms : List Manifest) (rs : List Reading) → AreReadings ms rs
    → HaveClaims (map (λ (r : Reading). r.manifest) rs) (map claim_in rs)
claims_had law ms rs h =
    subst (λ (x : List Manifest). HaveClaims x (map claim_in rs)) (sym (same_manifests ms rs h))
    (have_claims law ms rs h)

-- some manifests with different labels are read as a chain: each reading is of its manifest and holds its claim
pub is_chain : ((m : Manifest) (r : Reading) → IsReading m r → HasClaim m (claim_in r))
    → (ms : List Manifest) (rs : List Reading) → AreReadings ms rs → 0 < length rs → LabelsDiffer rs → IsChain rs
is_chain law ms rs h some differ =
    record
    { some = some; reads = subst (λ (x : List Manifest). AreReadings x rs) (sym (same_manifests ms rs h)) h; claims = claims_had law ms rs h; differ = differ }

-- ---- one of them

-- where manifests have claims one by one, the manifest at a place has the claim at that place
pub claim_had : (ms : List Manifest) (cs : List (Option Claim)) (i : ℕ) (c : Option Claim) → HaveClaims ms cs
    → slice_get cs i ≡ Some c → IfSome (slice_get ms i) (λ m. HasClaim m c)
claim_had [] [] i c h at = tt
claim_had [] (d ∷ cs) i c h at = absurd h
claim_had (m ∷ ms) [] i c h at = absurd h
claim_had (m ∷ ms) (d ∷ cs) zero c h at = subst (λ (x : Option Claim). HasClaim m x) (same_Some d c at) h.0
claim_had (m ∷ ms) (d ∷ cs) (suc i) c h at = claim_had ms cs i c h.1 at

-- where manifests come to readings one by one, the manifest at a place comes to the reading at that place
reading_at : (ms : List Manifest) (rs : List Reading) (i : ℕ) (r : Reading) → AreReadings ms rs
    → slice_get rs i ≡ Some r → IfSome (slice_get ms i) (λ m. IsReading m r)
reading_at [] [] i r h at = tt
reading_at [] (s ∷ rs) i r h at = absurd h
reading_at (m ∷ ms) [] i r h at = absurd h
reading_at (m ∷ ms) (s ∷ rs) zero r h at = subst (λ (x : Reading). IsReading m x) (same_Some s r at) h.0
reading_at (m ∷ ms) (s ∷ rs) (suc i) r h at = reading_at ms rs i r h.1 at

-- what follows from a property of any value follows of the value that may be there
if_some : {A : Type 0} (P Q : A → Type 0) (o : Option A) → ((x : A) → P x → Q x) → IfSome o P → IfSome o Q
if_some {A} P Q None f h = tt
if_some {A} P Q (Some x) f h = f x h

-- an answer that is the question in a reading is the question of the manifest at its place
pub question_had : {E : Type 0} → ((m : Manifest) (r : Reading) → IsReading m r → IsQuestionOf m (question_in r))
    → (ms : List Manifest) (rs : List Reading) (i : ℕ) (r : Reading) (result : Result (Option Question) E)
    → slice_get rs i ≡ Some r → AreReadings ms rs
    → IfOk result (λ q. q ≡ question_in r) → IfOk result (λ found. IfSome (slice_get ms i) (λ m. IsQuestionOf m found))
question_had {E} law ms rs i r (Err e) at h is = tt
question_had {E} law ms rs i r (Ok q) at h is =
    if_some (λ m. IsReading m r) (λ m. IsQuestionOf m q) (slice_get ms i)
    (λ m reading. subst (λ (x : Option Question). IsQuestionOf m x) (sym is) (law m r reading))
    (reading_at ms rs i r h at)

-- a question that a manifest has is the one that is answered
one_had : ((m : Manifest) (q r : Question) → HasQuestion m q → HasQuestion m r → q ≡ r)
    → (m : Manifest) (o : Option Question) (q : Question) → IsQuestionOf m o → HasQuestion m q → o ≡ Some q
one_had one m None q h has = absurd (h q has)
one_had one m (Some p) q h has = ap Some (one m p q h has)

-- where a manifest has a question, that one is answered and no other
pub question_only : {E : Type 0} → ((m : Manifest) (q r : Question) → HasQuestion m q → HasQuestion m r → q ≡ r)
    → (o : Option Manifest) (result : Result (Option Question) E)
    → IfOk result (λ found. IfSome o (λ m. IsQuestionOf m found))
    → IfSome o (λ m. (q : Question) → HasQuestion m q → IfOk result (λ found. found ≡ Some q))
question_only {E} one None result h = tt
question_only {E} one (Some m) (Err e) h = λ q has. tt
question_only {E} one (Some m) (Ok found) h = λ q has. one_had one m found q h has

-- an answer by a manifest's reading is the question in the reading that stands at its place
pub question_value : {E : Type 0} (rs : List Reading) (i : ℕ) (r : Reading) (result : Result (Option Question) E)
    → slice_get rs i ≡ Some r → IfOk result (λ q. q ≡ question_in r)
    → IfOk result (λ found. IfSome (slice_get rs i) (λ x. found ≡ question_in x))
question_value {E} rs i r (Err e) at is = tt
question_value {E} rs i r (Ok q) at is = subst (λ (o : Option Reading). IfSome o (λ x. q ≡ question_in x)) (sym at) is

-- ---- of a chain as one value

-- the claim that a chain keeps at a place is the claim of the manifest at that place
pub claim_of_chain : (v : Chained) (ms : List ManifestBoxes) (rs : List Reading) (i : ℕ) (c : Option Claim)
    → chained_of ms rs ≡ v → IsChain rs → slice_get (map claim_in rs) i ≡ Some c
    → IfSome (slice_get v.manifests i) (λ m. HasClaim m c)
claim_of_chain v ms rs i c is h at =
    subst (λ (x : Chained). IfSome (slice_get x.manifests i) (λ m. HasClaim m c)) is
    (claim_had (map (λ (r : Reading). r.manifest) rs) (map claim_in rs) i c h.claims at)

-- a place within a chain's manifests holds the reading that is fetched there
inside : (v : Chained) (ms : List ManifestBoxes) (rs all : List Reading) (i : ℕ) (r : Reading) → chained_of ms rs ≡ v
    → i < length v.manifests → all ≡ rs → r ≡ get_or all i r → slice_get rs i ≡ Some r
inside v ms rs all i r is lt same at =
    let count : length v.manifests ≡ length rs =
    sym (ap (λ (x : Chained). length x.manifests) is) ∙ length-map rs (λ (x : Reading). x.manifest) in
    there rs all i r (subst (λ (n : ℕ). i < n) count lt) same at

-- what is answered for a place of a chain is the question of the manifest there, or none if it has none
pub question_of_chain : {E : Type 0} → ((m : Manifest) (r : Reading) → IsReading m r → IsQuestionOf m (question_in r))
    → (v : Chained) (ms : List ManifestBoxes) (rs all : List Reading) (i : ℕ) (r : Reading) (result : Result (Option Question) E)
    → chained_of ms rs ≡ v → IsChain rs
    → i < length v.manifests → all ≡ rs → r ≡ get_or all i r → IfOk result (λ q. q ≡ question_in r)
    → IfOk result (λ found. IfSome (slice_get v.manifests i) (λ m. IsQuestionOf m found))
question_of_chain {E} law v ms rs all i r result is h lt same at q =
    subst (λ (x : Chained). IfOk result (λ found. IfSome (slice_get x.manifests i) (λ m. IsQuestionOf m found))) is
    (question_had law (map (λ (x : Reading). x.manifest) rs) rs i r result (inside v ms rs all i r is lt same at) h.reads q)

-- what is answered for a place of a chain is the question in the reading at that place
pub value_of_chain :
    {E : Type 0} (v : Chained) (ms : List ManifestBoxes) (rs all : List Reading) (i : ℕ) (r : Reading)
    (result : Result (Option Question) E)
    → chained_of ms rs ≡ v → i < length v.manifests → all ≡ rs → r ≡ get_or all i r
    → IfOk result (λ q. q ≡ question_in r)
    → IfOk result (λ found. IfSome (slice_get v.readings i) (λ x. found ≡ question_in x))
value_of_chain {E} v ms rs all i r result is lt same at q =
    subst (λ (x : Chained). IfOk result (λ found. IfSome (slice_get x.readings i) (λ y. found ≡ question_in y))) is
    (question_value rs i r result (inside v ms rs all i r is lt same at) q)
