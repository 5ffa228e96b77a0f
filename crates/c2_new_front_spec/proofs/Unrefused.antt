-- Where no refusal has its condition, each stage of a build in front comes to a value.
use Rattle.std.proofs.Common.{◌≡◌, ℕ, List, [], subst}
use Rattle.std.specs.Prelude.{Ok}
use Rattle.c2_spec.specs.Bmff.Boxes.{Box, HasRoots}
use Rattle.c2_spec.specs.Jumbf.Tree.{Tree}
use Rattle.c2_spec.specs.Located.{Opening}
use Rattle.c2_spec.specs.declared.digest.Alg.{Alg}
use Rattle.c2_rules.specs.Opened.{IsOpened}
use Rattle.c2_definition.specs.DefinitionFile.{IsDefinition}
use Rattle.c2_new_front_spec.specs.Made.{IsFrontUnrefused, IsPlanUnrefused, UnrefusedIsMade, UnrefusedIsPlanned}
use Rattle.c2_new_front_spec.specs.Order.{bad_definition, bad_signature, bmff_refusals, front_refusals, media_refused, plan_refusals, reserve_refusals}
use Rattle.c2_new_front_spec.specs.Outcomes.{IsDefinitionStage, IsBmffStage, IsFrontMade, IsFrontPlanned, IsMadeIn, IsMadeOver, IsMediaStage, IsMessageStage, IsNewFile, IsPlannedIn, IsPlannedOver}
use Rattle.c2_new_signature.specs.Message.{IsMessageRead}
use Rattle.c2_new_front_spec.specs.Outcomes.{front_signed}
use Rattle.c2_lemmas.proofs.Stages.{NeverRefuses, comes_out, stage_never, stage_value, then_never, unless_never, unless_passed, value_never}
use Rattle.c2_lemmas.proofs.Lists.{none_both}
use Rattle.c2_spec.proofs.Openings.{opening_never, opening_value}
use Rattle.c2_new_front_spec.proofs.SomeOutcome.{some_file, some_plan}

-- ---- the film

-- the root boxes
bmff_never : (media : List ℕ) (what : Opening Tree) → bmff_refusals media what ≡ []
    → NeverRefuses (IsBmffStage media what)
bmff_never media what none =
    unless_never (bmff_refusals media what) (λ r. (roots : List Box) × HasRoots media roots × (r ≡ Ok roots)) none
    (λ e k. cc (k.2))

-- root boxes that passed are the media's
roots_of : (media : List ℕ) (what : Opening Tree) (roots : List Box) → IsBmffStage media what (Ok roots)
    → HasRoots media roots
roots_of media what roots h =
    let p =
    unless_passed (bmff_refusals media what) (λ r. (boxes : List Box) × HasRoots media boxes × (r ≡ Ok boxes))
    roots h in
    let same : p.1.0 ≡ roots = cc (p.1.2) in
    subst (HasRoots media) same p.1.1

-- ---- both calls

-- a plan
plan_never : (hash : Alg → List ℕ → List ℕ) (media definition : List ℕ) → IsPlanUnrefused media definition
    → NeverRefuses (IsFrontPlanned hash media definition)
plan_never hash media definition h =
    then_never (IsMediaStage media) (IsPlannedOver hash media definition)
    (opening_never media_refused (IsOpened media) h.media_passes) (λ what is_media.
    then_never (IsDefinitionStage definition) _
    (stage_never bad_definition (IsDefinition definition) h.definition_passes) (λ d is_d.
    then_never (IsBmffStage media what) (IsPlannedIn hash media d)
    (bmff_never media what (h.bmff_passes what (opening_value media_refused (IsOpened media) what is_media)))
    (λ roots is_bmff_file.
    unless_never (plan_refusals media roots d) (λ r. r ≡ Ok (front_signed hash media roots d))
    (h.plan_passes d roots (stage_value bad_definition (IsDefinition definition) d is_d)
    (roots_of media what roots is_bmff_file)) (value_never (front_signed hash media roots d)))))

-- a new file is never refused where nothing is refused of its inputs
made_never : (hash : Alg → List ℕ → List ℕ) (media definition message : List ℕ)
    → IsFrontUnrefused media definition message → NeverRefuses (IsFrontMade hash media definition message)
made_never hash media definition message h =
    let before : IsPlanUnrefused media definition = h.plan in
    then_never (IsMediaStage media) (IsMadeOver hash media definition message)
    (opening_never media_refused (IsOpened media) before.media_passes) (λ what is_media.
    then_never (IsDefinitionStage definition) _
    (stage_never bad_definition (IsDefinition definition) before.definition_passes) (λ d is_d.
    let defined = stage_value bad_definition (IsDefinition definition) d is_d in
    then_never (IsMessageStage d.protected message) _
    (stage_never bad_signature (IsMessageRead d.protected message) (λ test. h.message_passes d test defined))
    (λ parts is_parts.
    then_never (IsBmffStage media what) (IsMadeIn hash media d parts)
    (bmff_never media what (before.bmff_passes what (opening_value media_refused (IsOpened media) what is_media)))
    (λ roots is_bmff_file.
    let plan : plan_refusals media roots d ≡ [] =
    before.plan_passes d roots defined (roots_of media what roots is_bmff_file) in
    let reserve : reserve_refusals d parts ≡ [] =
    h.reserve_passes d parts defined (stage_value bad_signature (IsMessageRead d.protected message) parts is_parts).1 in
    unless_never (front_refusals media roots d parts) (IsNewFile hash media d parts roots)
    (none_both (plan_refusals media roots d) (reserve_refusals d parts) plan reserve) (λ e k. cc (k.2))))))

-- where nothing is refused, bytes are planned
pub unrefused_plan : UnrefusedIsPlanned
unrefused_plan hash media definition what opened h =
    let r = some_plan hash media definition what opened in
    comes_out (IsFrontPlanned hash media definition) r.0 r.1 (plan_never hash media definition h)

-- where nothing is refused, a new file is made
pub unrefused_made : UnrefusedIsMade
unrefused_made hash media definition message what opened are h =
    let r = some_file hash media definition message what opened are in
    comes_out (IsFrontMade hash media definition message) r.0 r.1 (made_never hash media definition message h)
