-- Told inputs come to one plan and to one new file.
use Rattle.std.proofs.Common.{◌≡◌, ℕ, ◌+◌, List, [], length, sym, ap, ◌∙◌, subst}
use Rattle.std.specs.Prelude.{Ok}
use Rattle.std.proofs.lemmas.Option.{same_Some}
use Rattle.c2_lemmas.specs.Stages.{UnlessSome}
use Rattle.c2_lemmas.proofs.Stages.{IsOne, one_then, one_unless_some}
use Rattle.c2_base.specs.declared.values.Question.{Question}
use Rattle.c2_spec.specs.C2pa.Sign1.{SignParts}
use Rattle.c2_spec.specs.Jumbf.Tree.{Tree, tree_bytes}
use Rattle.c2_spec.specs.declared.digest.Alg.{Alg}
use Rattle.c2_spec.specs.declared.panel.Verdict.{Verdict}
use Rattle.c2_rules.specs.CheckList.{StoreReading, check_list}
use Rattle.c2_rules.specs.Readings.{Reading}
use Rattle.c2_rules.specs.Tests.{first_failing}
use Rattle.c2_read_manifests.proofs.TheLaws.{one_reading_file}
use Rattle.c2_definition.specs.declared.types.Definition.{Definition}
use Rattle.c2_new_signature.proofs.TheLaws.{a_message_fills_its_reserve_or_needs_more}
use Rattle.c2_new_file_spec.specs.Store.{Content, new_alg}
use Rattle.c2_new_file_spec.proofs.FileLaws.{a_place_is_one, what_is_left_is_one}
use Rattle.c2_new_file_spec.proofs.ParentLaws.{what_is_taken_over_is_one_content}
use Rattle.c2_new_file_spec.specs.Places.{Place, place_store, put_bytes}
use Rattle.c2_build_plain.specs.Building.{IsBuilt, IsEmbeddedOn, IsPlannedOn, built_of, signed_bytes}
use Rattle.c2_build_refusals.specs.Stages.{IsDefinitionStage, IsGroundOver, IsGroundStage, IsMediaStage, IsMessageStage, IsPlaceStage, MediaKind, fresh, fresh_ground, stored}
use Rattle.c2_build_plain.specs.Meeting.{OneEmbedding, OnePlan}
use Rattle.c2_build_refusals.specs.Refusals.{Ground, first_refusal, ground_tests, late_tests, older_tests, redaction_tests}
use Rattle.c2_build_refusals.proofs.Inputs.{one_definition, one_media, one_message}
use Rattle.c2_build_refusals.proofs.Passing.{ground_of}

-- ---- stages

-- a place is one
one_place : (base : List ℕ) → IsOne (IsPlaceStage base)
one_place base r s h k = h.2 ∙ ap (λ (p : Place). Ok p) (a_place_is_one base h.0 k.0 h.1 k.1) ∙ sym k.2

-- one new file is built
one_built : (hash : Alg → List ℕ → List ℕ) (g : Ground) (p : Place) (m : SignParts)
    → IsOne (IsBuilt hash g p m)
one_built hash g p m r s h k =
    let message : h.0 ≡ k.0 =
    a_message_fills_its_reserve_or_needs_more.one m g.content.definition.reserve h.0 k.0 h.1 k.1 in
    let store =
    ap
    (λ (x : List ℕ). put_bytes p (tree_bytes (place_store (hash (new_alg g.content.definition)) g.content x g.base p)))
    message in
    let bytes : h.2.0 ≡ k.2.0 = same_Some h.2.0 k.2.0 (sym h.2.1 ∙ store ∙ k.2.1) in
    h.2.2 ∙ ap (λ (b : List ℕ). Ok (built_of g p b)) bytes ∙ sym k.2.2

-- ---- the ground

-- over an older store, what is built over is one
one_over : (media : List ℕ) (d : Definition) (start len : ℕ) (t : Tree) (rs : List Reading)
    → IsOne (IsGroundOver media d start len t rs)
one_over media d start len t rs r s h k =
    h.2.2
    ∙ ap (λ (c : Content). Ok (ground_of h.2.0 c (length rs + 1)))
    (what_is_taken_over_is_one_content d t h.0 k.0 h.1 k.1)
    ∙ ap (λ (b : List ℕ). Ok (ground_of b k.0 (length rs + 1)))
    (what_is_left_is_one media start len h.2.0 k.2.0 h.2.1 k.2.1)
    ∙ sym k.2.2

-- what is built over is one, or what is refused of it
pub one_ground :
    (hash : Alg → List ℕ → List ℕ) (said : Question → Verdict) (media : List ℕ) (d : Definition) (kind : MediaKind)
    → IsOne (IsGroundStage hash said media d kind)
one_ground hash said media d fresh r s h k =
    one_unless_some (first_refusal (redaction_tests d [])) (λ x. x ≡ Ok (fresh_ground media d)) (λ a b p q. p ∙ sym q) r s h
    k
one_ground hash said media d (stored start len t) r s h k =
    one_unless_some (first_refusal (older_tests d h.0.readings (first_failing (check_list hash said h.0))))
    (IsGroundOver media d start len t h.0.readings) (one_over media d start len t h.0.readings) r s
    h.2
    (subst (λ (x : StoreReading). UnlessSome (first_refusal (older_tests d x.readings (first_failing (check_list hash said x)))) (IsGroundOver media d start len t x.readings) s) (one_reading_file media t k.0 h.0 k.1 h.1) k.2)

-- ---- both calls

-- what is planned over a ground is one
one_planned_on : (hash : Alg → List ℕ → List ℕ) (g : Ground) → IsOne (IsPlannedOn hash g)
one_planned_on hash g =
    one_then (IsPlaceStage g.base) _ (one_place g.base) (λ p.
    one_unless_some (first_refusal (ground_tests g p)) (λ r. r ≡ Ok (signed_bytes hash g p)) (λ r s h k. h ∙ sym k))

-- what is built over a ground is one
one_embedded_on : (hash : Alg → List ℕ → List ℕ) (m : SignParts) (g : Ground) → IsOne (IsEmbeddedOn hash m g)
one_embedded_on hash m g =
    one_then (IsPlaceStage g.base) _ (one_place g.base) (λ p.
    one_unless_some (first_refusal (late_tests g m p)) (IsBuilt hash g p m) (one_built hash g p m))

-- a plan is one
pub one_plan : OnePlan
one_plan hash said media definition =
    one_then (IsMediaStage media) _ (one_media media) (λ kind.
    one_then (IsDefinitionStage definition) _ (one_definition definition) (λ d.
    one_then (IsGroundStage hash said media d kind) _ (one_ground hash said media d kind) (one_planned_on hash)))

-- a new file is one
pub one_embedding : OneEmbedding
one_embedding hash said media definition message =
    one_then (IsMediaStage media) _ (one_media media) (λ kind.
    one_then (IsDefinitionStage definition) _ (one_definition definition) (λ d.
    one_then (IsMessageStage d.protected message) _ (one_message d.protected message) (λ m.
    one_then (IsGroundStage hash said media d kind) _ (one_ground hash said media d kind) (one_embedded_on hash m))))
