-- What the build of a new store into a media file comes to: what is to be signed, the new file, or what is refused first. Known inputs
-- come to one thing: the order of the tests is this project's own choice.
use Rattle.std.specs.Prelude.{◌≡◌, ℕ, List}
use Rattle.std.specs.declared.option.Option.TheVariants.{Some}
use Rattle.std.specs.declared.result.Result.{Result}
use Rattle.std.specs.declared.result.Result.TheVariants.{Ok}
use Rattle.c2_lemmas.specs.Stages.{AsksThen, Then, UnlessSome}
use Rattle.c2_base.specs.declared.values.Question.{Question}
use Rattle.c2_spec.specs.C2pa.Sign1.{SignParts, sig_structure}
use Rattle.c2_spec.specs.Cbor.Deterministic.{deterministic}
use Rattle.c2_spec.specs.Jumbf.Tree.{tree_bytes}
use Rattle.c2_spec.specs.declared.digest.Alg.{Alg}
use Rattle.c2_spec.specs.declared.panel.Verdict.{Verdict}
use Rattle.c2_definition.specs.declared.types.Definition.{Definition}
use Rattle.c2_new_signature.specs.Signed.{IsSigned}
use Rattle.c2_new_file_spec.specs.Store.{new_claim, new_alg}
use Rattle.c2_new_file_spec.specs.Places.{Place, place_binding, place_file, place_start, place_store, put_bytes}
use Rattle.c2_build_refusals.specs.Refusals.{Ground, first_refusal, ground_tests, late_tests, new_range_len}
use Rattle.c2_build_refusals.specs.declared.error.BuildError.{BuildError}
use Rattle.c2_build_refusals.specs.Stages.{IsDefinitionStage, IsGroundStage, IsMediaStage, IsMessageStage, IsPlaceStage, KindAsks, MediaKind}

-- ---- what is built

-- what is signed (RFC 9052, section 4.4): the definition's protected header and the new claim, which binds what the file has outside
-- the new range
abbrev pub signed_bytes : (Alg → List ℕ → List ℕ) → Ground → Place → List ℕ
signed_bytes hash g p =
    deterministic (sig_structure g.content.definition.protected (new_claim (hash (new_alg g.content.definition)) g.content
    (place_binding (hash (new_alg g.content.definition)) g.content g.content.definition.reserve g.base p)))

-- A new file, and the range of its store.
pub record Built : Type 0 where
  pub file : List ℕ
  pub start : ℕ
  pub len : ℕ

-- the file where these bytes are put in at the place
abbrev pub built_of : Ground → Place → List ℕ → Built
built_of g p bytes = record {
  file = place_file g.base p bytes;
  start = place_start p;
  len = new_range_len p g.content;
}

-- the new file, with a message of these parts, padded to the bytes that are reserved
abbrev pub IsBuilt : (Alg → List ℕ → List ℕ) → Ground → Place → SignParts → Result Built BuildError → Type 0
IsBuilt hash g p parts r =
    (message : List ℕ) × IsSigned parts g.content.definition.reserve message
    × ((bytes : List ℕ) × (put_bytes p (tree_bytes (place_store (hash (new_alg g.content.definition)) g.content message g.base p)) ≡ Some bytes)
    × (r ≡ Ok (built_of g p bytes)))

-- ---- the two calls

-- what `plan` comes to over this ground: the bytes to be signed
abbrev pub IsPlannedOn : (Alg → List ℕ → List ℕ) → Ground → Result (List ℕ) BuildError → Type 0
IsPlannedOn hash g =
    Then (IsPlaceStage g.base) (λ p.
    UnlessSome (first_refusal (ground_tests g p)) (λ r. r ≡ Ok (signed_bytes hash g p)))

-- what `plan` comes to over a media file of this kind, with this definition
abbrev pub IsPlannedOver : (Alg → List ℕ → List ℕ) → (Question → Verdict) → List ℕ → MediaKind → Definition
    → Result (List ℕ) BuildError → Type 0
IsPlannedOver hash said media kind d = Then (IsGroundStage hash said media d kind) (IsPlannedOn hash)

-- what `plan` comes to over this media file and this definition file
abbrev pub IsPlanned : (Alg → List ℕ → List ℕ) → (Question → Verdict) → List ℕ → List ℕ
    → Result (List ℕ) BuildError → Type 0
IsPlanned hash said media definition =
    Then (IsMediaStage media) (λ kind.
    Then (IsDefinitionStage definition) (λ d. IsPlannedOver hash said media kind d))

-- what `embed` comes to over this ground, with a message with these parts: the new file
abbrev pub IsEmbeddedOn : (Alg → List ℕ → List ℕ) → SignParts → Ground → Result Built BuildError → Type 0
IsEmbeddedOn hash parts g =
    Then (IsPlaceStage g.base) (λ p.
    UnlessSome (first_refusal (late_tests g parts p)) (IsBuilt hash g p parts))

-- what `embed` comes to over a media file of this kind, with this definition and a message with these parts
abbrev pub IsEmbeddedOver : (Alg → List ℕ → List ℕ) → (Question → Verdict) → List ℕ → MediaKind → Definition
    → SignParts → Result Built BuildError → Type 0
IsEmbeddedOver hash said media kind d parts =
    Then (IsGroundStage hash said media d kind) (IsEmbeddedOn hash parts)

-- what `embed` comes to over this media file, this definition file and this file of a signed message
abbrev pub IsEmbedded : (Alg → List ℕ → List ℕ) → (Question → Verdict) → List ℕ → List ℕ → List ℕ
    → Result Built BuildError → Type 0
IsEmbedded hash said media definition message =
    Then (IsMediaStage media) (λ kind.
    Then (IsDefinitionStage definition) (λ d.
    Then (IsMessageStage d.protected message) (IsEmbeddedOver hash said media kind d)))

-- ---- what is asked

-- what `plan` asks over this media file and this definition file
abbrev pub PlanAsks : (Alg → List ℕ → List ℕ) → (Question → Verdict) → List ℕ → List ℕ → List Question → Type 0
PlanAsks hash said media definition =
    AsksThen (IsMediaStage media) (λ kind.
    AsksThen (IsDefinitionStage definition) (λ d. KindAsks hash said media kind))

-- what `embed` asks over these and this file of a signed message
abbrev pub EmbedAsks : (Alg → List ℕ → List ℕ) → (Question → Verdict) → List ℕ → List ℕ → List ℕ → List Question → Type 0
EmbedAsks hash said media definition message =
    AsksThen (IsMediaStage media) (λ kind.
    AsksThen (IsDefinitionStage definition) (λ d.
    AsksThen (IsMessageStage d.protected message) (λ parts. KindAsks hash said media kind)))
