-- Where no refusal has its condition, each stage of a build comes to a value.
use Rattle.std.proofs.Common.{◌≡◌, Bool, true, false, cond, List, [], ◌∷◌, ◌++◌, ℕ, Option, Some, None, refl, sym, ap, ◌∙◌}
use Rattle.std.specs.Prelude.{Ok}
use Rattle.c2_lemmas.proofs.Stages.{NeverRefuses, comes_out, then_never, unless_some_never, value_never}
use Rattle.c2_base.specs.declared.values.Question.{Question}
use Rattle.c2_spec.specs.C2pa.Sign1.{SignParts}
use Rattle.c2_spec.specs.declared.digest.Alg.{Alg}
use Rattle.c2_spec.specs.declared.panel.Verdict.{Verdict}
use Rattle.c2_rules.specs.CheckList.{check_list}
use Rattle.c2_rules.specs.Tests.{first_failing}
use Rattle.c2_definition.specs.declared.types.Definition.{Definition}
use Rattle.c2_new_file_spec.specs.Places.{Place}
use Rattle.c2_build_plain.specs.Building.{IsBuilt, IsEmbedded, IsEmbeddedOn, IsPlanned, IsPlannedOn, signed_bytes}
use Rattle.c2_build_refusals.specs.Stages.{IsDefinitionStage, IsGroundOver, IsGroundStage, IsMediaStage, IsMessageStage, IsPlaceStage, MediaKind, fresh, fresh_ground, stored}
use Rattle.c2_build_plain.specs.Meeting.{GroundPasses, IsEmbedUnrefused, IsPlanUnrefused, UnrefusedIsEmbedded, UnrefusedIsPlanned}
use Rattle.c2_build_refusals.specs.Refusals.{AllPass, BuildTest, Ground, IsRefusalOf, first_refusal, ground_tests, late_tests, older_tests, redaction_tests, reserve_tests}
use Rattle.c2_build_refusals.specs.declared.error.BuildError.{BuildError}
use Rattle.c2_build_plain.proofs.Drawn.{place_at}
use Rattle.c2_build_refusals.proofs.FirstRefusal.{refusal_is_least}
use Rattle.c2_build_plain.proofs.SomeBuild.{ground_definition, some_embedding, some_plan}
use Rattle.c2_build_refusals.proofs.Stages.{none_fails}

-- ---- tests that pass

-- tests that pass answer no refusal
none_refused : (ts : List BuildTest) → AllPass ts → first_refusal ts ≡ None
none_refused ts pass = by (first_refusal ts) refl (refusal_is_least ts)
  where
    by : (o : Option BuildError) → first_refusal ts ≡ o → IsRefusalOf ts o → first_refusal ts ≡ None
    by None e h = e
    by (Some r) e h =
        let first = h.1 in
        let bad : false ≡ true = sym (pass h.0 first.fault first.at_place) ∙ first.fails in
        absurd (cc (bad))

-- two lists of tests that answer none answer none together
none_together : (xs ys : List BuildTest) → first_refusal xs ≡ None → first_refusal ys ≡ None
    → first_refusal (xs ++ ys) ≡ None
none_together [] ys h k = k
none_together (t ∷ ts) ys h k =
    let one = none_fails t.fails t.refusal (first_refusal ts) h in
    ap (λ (b : Bool). cond b (Some t.refusal) (first_refusal (ts ++ ys))) one.0 ∙ none_together ts ys one.1 k

-- ---- the stages of a build

-- the ground
ground_never : (hash : Alg → List ℕ → List ℕ) (said : Question → Verdict) (media : List ℕ) (d : Definition) (kind : MediaKind)
    → GroundPasses hash said media d kind → NeverRefuses (IsGroundStage hash said media d kind)
ground_never hash said media d fresh pass e h =
    unless_some_never (first_refusal (redaction_tests d [])) (λ r. r ≡ Ok (fresh_ground media d))
    (none_refused (redaction_tests d []) pass) (value_never (fresh_ground media d)) e h
ground_never hash said media d (stored start len t) pass e h =
    let tests : List BuildTest = older_tests d h.0.readings (first_failing (check_list hash said h.0)) in
    unless_some_never (first_refusal tests) (IsGroundOver media d start len t h.0.readings)
    (none_refused tests (pass h.0 h.1)) (λ x k. cc (k.2.2)) e h.2

-- the place
place_never : (base : List ℕ) → NeverRefuses (IsPlaceStage base)
place_never base e h = cc (h.2)

-- the new file
built_never : (hash : Alg → List ℕ → List ℕ) (g : Ground) (p : Place) (parts : SignParts)
    → NeverRefuses (IsBuilt hash g p parts)
built_never hash g p parts e h = cc (h.2.2)

-- a plan
plan_never : (hash : Alg → List ℕ → List ℕ) (said : Question → Verdict) (media definition : List ℕ)
    → IsPlanUnrefused hash said media definition → NeverRefuses (IsPlanned hash said media definition)
plan_never hash said media definition h =
    then_never (IsMediaStage media) _ (λ e m. h.media_passes (e, m)) (λ kind is_media.
    then_never (IsDefinitionStage definition) _ (λ e n. h.definition_passes (e, n)) (λ d is_d.
    let ground = ground_never hash said media d kind (h.ground_passes kind d is_media is_d) in
    then_never (IsGroundStage hash said media d kind) (IsPlannedOn hash) ground (λ g is_g.
    then_never (IsPlaceStage g.base) _ (place_never g.base) (λ p is_p.
    let tests =
    none_refused (ground_tests g p)
    (h.place_passes kind d g p is_media is_d is_g (place_at {base = g.base} {p = p} is_p)) in
    unless_some_never (first_refusal (ground_tests g p)) _ tests (value_never (signed_bytes hash g p))))))

-- a new file is never refused where nothing is refused of its inputs
embed_never : (hash : Alg → List ℕ → List ℕ) (said : Question → Verdict) (media definition message : List ℕ)
    → IsEmbedUnrefused hash said media definition message → NeverRefuses (IsEmbedded hash said media definition message)
embed_never hash said media definition message h =
    let before = h.plan in
    then_never (IsMediaStage media) _ (λ e m. before.media_passes (e, m)) (λ kind is_media.
    then_never (IsDefinitionStage definition) _ (λ e n. before.definition_passes (e, n)) (λ d is_d.
    then_never (IsMessageStage d.protected message) _ (λ e n. h.message_passes (d, is_d, (e, n))) (λ parts is_parts.
    let ground = ground_never hash said media d kind (before.ground_passes kind d is_media is_d) in
    then_never (IsGroundStage hash said media d kind) (IsEmbeddedOn hash parts) ground (λ g is_g.
    then_never (IsPlaceStage g.base) _ (place_never g.base) (λ p is_p.
    let own : g.content.definition ≡ d = ground_definition hash said media d kind g is_g in
    let early =
    none_refused (ground_tests g p)
    (before.place_passes kind d g p is_media is_d is_g (place_at {base = g.base} {p = p} is_p)) in
    let late : first_refusal (reserve_tests g.content.definition parts) ≡ None =
    ap (λ (x : Definition). first_refusal (reserve_tests x parts)) own ∙ none_refused (reserve_tests d parts) (h.reserve_passes d parts is_d is_parts) in
    unless_some_never (first_refusal (late_tests g parts p)) (IsBuilt hash g p parts)
    (none_together (ground_tests g p) (reserve_tests g.content.definition parts) early late) (built_never hash g p parts))))))

-- ---- both calls

-- where nothing is refused, bytes are planned
pub unrefused_plan : UnrefusedIsPlanned
unrefused_plan hash said media definition bytes h =
    let r = some_plan hash said media definition bytes in
    comes_out (IsPlanned hash said media definition) r.0 r.1 (plan_never hash said media definition h)

-- where nothing is refused, a new file is built
pub unrefused_embedding : UnrefusedIsEmbedded
unrefused_embedding hash said media definition message bytes are h =
    let r = some_embedding hash said media definition message bytes are in
    comes_out (IsEmbedded hash said media definition message) r.0 r.1 (embed_never hash said media definition message h)
