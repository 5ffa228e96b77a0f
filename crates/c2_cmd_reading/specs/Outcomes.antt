-- What a command comes to that reads media files and neither builds nor writes any.
use Rattle.std.specs.Prelude.{◌≡◌, ℕ, List, Some, None}
use Rattle.std.specs.List.{flat_map}
use Rattle.std.specs.declared.option.Option.{Option}
use Rattle.c2_base.specs.declared.values.Question.{Question}
use Rattle.c2_spec.specs.declared.digest.Alg.{Alg}
use Rattle.c2_spec.specs.declared.panel.Verdict.{Verdict}
use Rattle.c2_spec.specs.Located.{Opening, Located}
use Rattle.c2_spec.specs.Container.{IsLocated}
use Rattle.c2_spec.specs.Jumbf.Tree.{Tree}
use Rattle.c2_spec.specs.PutIn.{taken_out}
use Rattle.c2_spec.specs.C2pa.Manifest.{manifests_of}
use Rattle.c2_spec.specs.Judges.Question.{question_digest}
use Rattle.c2_spec.specs.declared.claim.Claim.{Claim}
use Rattle.c2_rules.specs.CheckList.{Asked, all_asked}
use Rattle.c2_rules.specs.Claims.{HaveClaims}
use Rattle.c2_rules.specs.Opened.{IsBoxed, IsOpened}
use Rattle.c2_rules.specs.Readings.{Reading, AreReadings}
use Rattle.c2_rules.specs.Validated.{IsAnswer}
use Rattle.c2_rules.specs.declared.answer.Answer.{Answer as Checked}
use Rattle.c2_compare_spec.specs.Comparison.{IsComparison}
use Rattle.c2_compare_spec.specs.declared.compared.Compared.{Compared}
use Rattle.c2_compare_spec.specs.declared.compared.Compared.TheVariants as compared
use Rattle.c2_cmd_outcome.specs.Outcome.{Outcome, Reports, answered, reports}
use Rattle.c2_cmd_outcome.specs.declared.types.Answer.TheVariants as answer
use Rattle.c2_texts.specs.Show.{show_line}
use Rattle.c2_texts.specs.Stores.{store_refused_line}
use Rattle.c2_texts.specs.Texts.{digest_line, listing, question_line, no_question_line, same_line, different_line, not_accepted_line}
use Rattle.c2_validate.specs.External.{IsExternalAnswer}
use Rattle.c2_validate.specs.declared.external.External.{External}
use Rattle.c2_validate.specs.declared.external.External.TheVariants.{Of, StoreRefused}

-- `digest` of a file with a store in this range, where `hash` gives the digest of a list
abbrev pub IsDigested : (List ℕ → List ℕ) → List ℕ → ℕ → ℕ → List ℕ → Outcome → Type 0
IsDigested hash file start len store expected = expected ≡ reports answer.Done (digest_line start len (hash (taken_out start len file)))

-- the outcome of `digest`: it makes the tests of the container alone
abbrev pub IsDigestOutcome : (List ℕ → List ℕ) → List ℕ → Outcome → Type 0
IsDigestOutcome hash file expected = (l : Located) × IsLocated file l × Reports (IsDigested hash file) l expected

-- `list` over the box tree of a store
abbrev pub IsListing : ℕ → ℕ → Tree → Outcome → Type 0
IsListing start len t expected = expected ≡ reports answer.Done (listing t)

-- the outcome of `list`: it makes the tests of the container, then those of the boxes
abbrev pub IsListOutcome : List ℕ → Outcome → Type 0
IsListOutcome file expected = (what : Opening Tree) × IsBoxed file what × Reports IsListing what expected

-- the outcome of a command that reads the manifests of a store, where `IsExpected` says what it is over the store's box tree: it
-- makes the tests of the container, then those of the boxes, then those of the manifests
abbrev pub IsMediaOutcome : (Tree → Outcome → Type 0) → List ℕ → Outcome → Type 0
IsMediaOutcome IsExpected file expected = (what : Opening Tree) × IsOpened file what × Reports (λ start len t e. IsExpected t e) what expected

-- the outcome of `show` over the box tree of a store whose manifests have these claims
abbrev pub shown : Tree → List (Option Claim) → Outcome
shown t claims = reports answer.Done (show_line (manifests_of t) claims)

-- the outcome of `show` over the box tree of a store, with the claims that its manifests have
abbrev pub IsShown : Tree → Outcome → Type 0
IsShown t expected = (claims : List (Option Claim)) × HaveClaims (manifests_of t) claims × (expected ≡ shown t claims)

-- the line of the manifest with this label: its question and what the panel says of it, or that it has none
abbrev pub verdict_line : (Question → Verdict) → List ℕ → Option Question → List ℕ
verdict_line said label None = no_question_line label
verdict_line said label (Some q) = question_line (question_digest q) label (said q)

-- the lines of these manifests
abbrev pub verdict_lines : (Question → Verdict) → List Asked → List ℕ
verdict_lines said asked = flat_map (λ (a : Asked). verdict_line said a.label a.question) asked

-- `questions` where the manifests of a store are read so: a line for each reached manifest, the last first
abbrev pub questioned : (Question → Verdict) → List Reading → Outcome
questioned said rs = reports answer.Done (verdict_lines said (all_asked rs))

-- the outcome of `questions` over the box tree of a store
abbrev pub IsQuestioned : (Question → Verdict) → Tree → Outcome → Type 0
IsQuestioned said t expected = (rs : List Reading) × AreReadings (manifests_of t) rs × (expected ≡ questioned said rs)

-- the outcome of `validate`
abbrev pub IsValidated : (Alg → List ℕ → List ℕ) → (Question → Verdict) → List ℕ → Outcome → Type 0
IsValidated hash said file expected = (found : Checked) × IsAnswer hash said file found × (expected ≡ answered found)

-- what is reported of what two files come to, where the evidence has this text
abbrev pub compare_outcome : Compared → List ℕ → Outcome
compare_outcome (compared.NotAccepted side a) text = reports answer.NotAccepted (not_accepted_line side a)
compare_outcome compared.DifferentClaims text = reports answer.DifferentClaims different_line
compare_outcome (compared.Evidence kind) text = reports answer.Evidence text
compare_outcome (compared.Same summary) text = reports answer.Done (same_line summary)

-- the outcome of `compare`
abbrev pub IsCompareOutcome : (Alg → List ℕ → List ℕ) → (Question → Verdict) → List ℕ → List ℕ → Outcome → Type 0
IsCompareOutcome hash said first second expected =
    (what : Compared) × (text : List ℕ) × IsComparison hash said first second what text × (expected ≡ compare_outcome what text)

-- ---- an external store

-- what is reported of the answer of the check with an external store
abbrev pub external_outcome : External → Outcome
external_outcome (Of a) = answered a
external_outcome (StoreRefused reason number) = reports answer.Refused (store_refused_line reason number)

-- the outcome of `validate-external`
abbrev pub IsExternalOutcome : (Alg → List ℕ → List ℕ) → (Question → Verdict) → List ℕ → List ℕ → Outcome → Type 0
IsExternalOutcome hash said file store expected = (e : External) × IsExternalAnswer hash said file store e × (expected ≡ external_outcome e)
