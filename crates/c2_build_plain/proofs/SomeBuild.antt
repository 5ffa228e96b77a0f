-- Told inputs come to some plan and to some new file, or to what refuses them.
use Rattle.std.proofs.Common.{◌≡◌, ◌⊎◌, inl, inr, ℕ, ◌+◌, ◌^◌, ◌<◌, true, List, [], length, All, Option, Some, None, refl, sym, ap, ◌∙◌, subst, option_map}
use Rattle.std.specs.Prelude.{Ok}
use Rattle.c2_base.specs.declared.values.Question.{Question}
use Rattle.c2_spec.specs.C2pa.Message.{bare_bytes}
use Rattle.c2_spec.specs.C2pa.Sign1.{SignParts}
use Rattle.c2_spec.specs.Jumbf.Tree.{Tree, tree_bytes}
use Rattle.c2_spec.specs.Located.{Opening, here}
use Rattle.c2_spec.specs.declared.digest.Alg.{Alg}
use Rattle.c2_spec.specs.declared.panel.Verdict.{Verdict}
use Rattle.c2_spec.specs.declared.panel.Verdict.TheVariants.{Approved}
use Rattle.c2_rules.specs.CheckList.{StoreReading, check_list}
use Rattle.c2_rules.specs.Tests.{first_failing}
use Rattle.c2_rules.specs.Validated.{IsOpenedAnswer}
use Rattle.c2_opening.proofs.TheLaws.{one_opening_file}
use Rattle.c2_definition.specs.DefinitionFile.{IsWellFormed}
use Rattle.c2_definition.specs.declared.types.Definition.{Definition}
use Rattle.c2_new_signature.proofs.TheLaws.{a_message_fills_its_reserve_or_needs_more, accepted_paddable}
use Rattle.c2_new_signature.specs.Refusals.{reserve_needed}
use Rattle.c2_new_signature.specs.Signed.{IsSigned, NeedsMore}
use Rattle.c2_new_file_spec.proofs.FileLaws.{each_media_has_a_place_fresh, each_media_has_a_place_left, each_media_has_a_place_place}
use Rattle.c2_new_file_spec.proofs.ParentLaws.{a_valid_store_is_carried_some}
use Rattle.c2_new_file_spec.specs.Places.{IsFreePlace, Place, place_store}
use Rattle.c2_build_plain.specs.Building.{IsBuilt, IsEmbeddedOn, IsPlannedOn, built_of, signed_bytes}
use Rattle.c2_build_refusals.specs.Stages.{IsDefinitionStage, IsGroundOver, IsGroundStage, IsMediaStage, IsMessageStage, IsPlaceStage, MediaKind, fresh, fresh_ground, media_stage, stored}
use Rattle.c2_new_signature.specs.Message.{IsMessageRead}
use Rattle.c2_build_plain.specs.Meeting.{SomeEmbedding, SomePlan}
use Rattle.c2_build_refusals.specs.Refusals.{Ground, first_refusal, ground_tests, late_tests, older_tests, redaction_tests, reserve_tests, refuse_if}
use Rattle.c2_build_refusals.proofs.Inputs.{read_formed, some_definition, some_message}
use Rattle.c2_build_refusals.proofs.Passing.{ground_of, is_passable, opened_absent, opened_here, stands_over}
use Rattle.c2_build_plain.proofs.Rooms.{pass_numbers}
use Rattle.c2_build_refusals.proofs.Stages.{none_of_both}
use Rattle.c2_build_refusals.specs.declared.error.BuildError.TheVariants.{BadSignature, ReserveTooSmall}
use Rattle.std.specs.Option.{option_to_list}
use Rattle.c2_new_file_spec.specs.Store.{new_alg}
use Rattle.c2_collect_spec.proofs.Order.{some_bytes}
use Rattle.c2_lemmas.proofs.Stages.{Something, some_then, some_unless_some, stage_value, unless_some_passed}
use Rattle.c2_validate.proofs.TheLaws.{each_file_has_a_check_answer}

-- ---- the media

-- each media file is opened as something
some_media : (Alg → List ℕ → List ℕ) → (media : List ℕ) → All (λ b. b < 2 ^ 8) media
    → Something (IsMediaStage media)
some_media hash media bytes =
    let a = each_file_has_a_check_answer hash (λ q. Approved) media bytes in
    (media_stage a.1.0, (a.1.0, a.1.1, refl))

-- ---- the place

-- what is built over has a free place
pub free_place :
    (hash : Alg → List ℕ → List ℕ) (said : Question → Verdict) (media : List ℕ) (d : Definition) (kind : MediaKind)
    (g : Ground)
    → IsMediaStage media (Ok kind) → IsGroundStage hash said media d kind (Ok g) → (p : Place) × IsFreePlace g.base p
free_place hash said media d fresh g m h =
    let is = unless_some_passed (first_refusal (redaction_tests d [])) (λ r. r ≡ Ok (fresh_ground media d)) g h in
    let same : fresh_ground media d ≡ g = cc (is.1) in
    subst (λ (x : Ground). (p : Place) × IsFreePlace x.base p) same
    (each_media_has_a_place_fresh media (opened_absent media m))
free_place hash said media d (stored start len t) g m h =
    let is =
    unless_some_passed (first_refusal (older_tests d h.0.readings (first_failing (check_list hash said h.0))))
    (IsGroundOver media d start len t h.0.readings) g h.2 in
    let same : ground_of is.1.2.0 is.1.0 (length h.0.readings + 1) ≡ g = cc (is.1.2.2) in
    subst (λ (x : Ground). (p : Place) × IsFreePlace x.base p) same
    (each_media_has_a_place_place media start len t is.1.2.0 (opened_here media start len t m) is.1.2.1)

-- a base with a free place has a place
some_place : (base : List ℕ) → (p : Place) × IsFreePlace base p → Something (IsPlaceStage base)
some_place base h = (Ok h.0, (h.0, h.1.is, refl))

-- ---- the ground

-- something is built over, or something is refused
some_ground :
    (hash : Alg → List ℕ → List ℕ) (said : Question → Verdict) (media : List ℕ) (d : Definition) (kind : MediaKind)
    → All (λ b. b < 2 ^ 8) media → IsMediaStage media (Ok kind) → Something (IsGroundStage hash said media d kind)
some_ground hash said media d fresh bytes m =
    some_unless_some (first_refusal (redaction_tests d [])) (λ r. r ≡ Ok (fresh_ground media d))
    (λ none. (Ok (fresh_ground media d), refl))
some_ground hash said media d (stored start len t) bytes m =
    let opened = opened_here media start len t m in
    let a = each_file_has_a_check_answer hash said media bytes in
    let reads =
    subst (λ (o : Opening Tree). IsOpenedAnswer hash said media o a.0)
    (one_opening_file media a.1.0 (here start len t) a.1.1 opened) a.1.2 in
    let s : StoreReading = reads.0 in
    let over =
    some_unless_some (first_refusal (older_tests d s.readings (first_failing (check_list hash said s)))) (IsGroundOver media d start len t s.readings) (λ none.
    let c =
    a_valid_store_is_carried_some hash said d t s
    (stands_over hash said media d start len t s opened reads.1 (is_passable hash said d s none)) in
    let left = each_media_has_a_place_left media start len t opened in
    (Ok (ground_of left.0 c.0 (length s.readings + 1)), (c.0, c.1, (left.0, left.1, refl)))) in
    (over.0, (s, reads.1, over.1))

-- what goes into the new store has this definition
pub ground_definition :
    (hash : Alg → List ℕ → List ℕ) (said : Question → Verdict) (media : List ℕ) (d : Definition) (kind : MediaKind)
    (g : Ground)
    → IsGroundStage hash said media d kind (Ok g) → g.content.definition ≡ d
ground_definition hash said media d fresh g h =
    let is = unless_some_passed (first_refusal (redaction_tests d [])) (λ r. r ≡ Ok (fresh_ground media d)) g h in
    let same : fresh_ground media d ≡ g = cc (is.1) in
    ap (λ (x : Ground). x.content.definition) (sym same)
ground_definition hash said media d (stored start len t) g h =
    let is =
    unless_some_passed (first_refusal (older_tests d h.0.readings (first_failing (check_list hash said h.0))))
    (IsGroundOver media d start len t h.0.readings) g h.2 in
    let same : ground_of is.1.2.0 is.1.0 (length h.0.readings + 1) ≡ g = cc (is.1.2.2) in
    ap (λ (x : Ground). x.content.definition) (sym same) ∙ is.1.1.definition

-- ---- the message

-- where no test on the reserve fails, a message doesn't need more
no_more : (d : Definition) (p : SignParts) → first_refusal (reserve_tests d p) ≡ None → NeedsMore p d.reserve → ⊥
no_more d p none needs = by (reserve_needed d.reserve (length (bare_bytes p))) needs.1 none
  where
    by : (o : Option ℕ) → o ≡ Some needs.0
        → first_refusal (option_to_list (option_map (λ (n : ℕ). refuse_if true (ReserveTooSmall n)) o)) ≡ None → ⊥
    by None e k = cc (e)
    by (Some n) e k = cc (k)

-- a file is built where no test fails
some_built : (hash : Alg → List ℕ → List ℕ) (bytes : List ℕ) (g : Ground) (p : Place) (m : SignParts)
    → IsMessageRead g.content.definition.protected bytes (Ok m) → IsWellFormed g.content.definition
    → first_refusal (late_tests g m p) ≡ None
    → Something (IsBuilt hash g p m)
some_built hash bytes g p m taken formed none =
    let d : Definition = g.content.definition in
    let both = none_of_both (ground_tests g p) (reserve_tests d m) none in
    by both (a_message_fills_its_reserve_or_needs_more.either bytes m d.reserve
    (accepted_paddable d.protected bytes m d.reserve taken.0 taken.1 formed.most))
  where
    by : (first_refusal (ground_tests g p) ≡ None) × (first_refusal (reserve_tests g.content.definition m) ≡ None)
        → ((message : List ℕ) × IsSigned m g.content.definition.reserve message) ⊎ NeedsMore m g.content.definition.reserve
        → Something (IsBuilt hash g p m)
    by both (inl s) =
        let bytes =
        some_bytes p (pass_numbers g p both.0).room
        (tree_bytes (place_store (hash (new_alg g.content.definition)) g.content s.0 g.base p)) in
        (Ok (built_of g p bytes.0), (s.0, s.1, (bytes.0, bytes.1, refl)))
    by both (inr n) = absurd (no_more g.content.definition m both.1 n)

-- ---- both calls

-- something is planned
pub some_plan : SomePlan
some_plan hash said media definition bytes =
    some_then (IsMediaStage media) _ (some_media hash media bytes) (λ kind is_media.
    some_then (IsDefinitionStage definition) _ (some_definition definition) (λ d is_d.
    some_then (IsGroundStage hash said media d kind) (IsPlannedOn hash) (some_ground hash said media d kind bytes is_media) (λ g is_g.
    some_then (IsPlaceStage g.base) _ (some_place g.base (free_place hash said media d kind g is_media is_g)) (λ p is_p.
    some_unless_some (first_refusal (ground_tests g p)) (λ r. r ≡ Ok (signed_bytes hash g p)) (λ none. (Ok (signed_bytes hash g p), refl))))))

-- something is built
pub some_embedding : SomeEmbedding
some_embedding hash said media definition message bytes are =
    some_then (IsMediaStage media) _ (some_media hash media bytes) (λ kind is_media.
    some_then (IsDefinitionStage definition) _ (some_definition definition) (λ d is_d.
    some_then (IsMessageStage d.protected message) _ (some_message d.protected message are) (λ m is_m.
    some_then (IsGroundStage hash said media d kind) (IsEmbeddedOn hash m) (some_ground hash said media d kind bytes is_media) (λ g is_g.
    some_then (IsPlaceStage g.base) _ (some_place g.base (free_place hash said media d kind g is_media is_g)) (λ p is_p.
    let own : g.content.definition ≡ d = ground_definition hash said media d kind g is_g in
    some_unless_some (first_refusal (late_tests g m p)) (IsBuilt hash g p m) (λ none.
    some_built hash message g p m
    (subst (λ (x : Definition). IsMessageRead x.protected message (Ok m)) (sym own)
    (stage_value BadSignature (IsMessageRead d.protected message) m is_m))
    (subst IsWellFormed (sym own) (read_formed definition d is_d)) none))))))
