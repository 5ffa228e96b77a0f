-- Inputs whose media file is opened as one thing come to one plan and to one new file.
use Rattle.c2_new_signature.proofs.TheLaws.{a_message_fills_its_reserve_or_needs_more, one_message_read}
use Rattle.c2_definition.proofs.TheLaws.{each_definition_is_read_one_way_one}
use Rattle.c2_lemmas.proofs.Stages.{IsOne, one_stage, one_then, one_unless, one_value}
use Rattle.std.proofs.Common.{◌≡◌, ℕ, List, sym, ap, ◌∙◌}
use Rattle.std.specs.Prelude.{Ok}
use Rattle.c2_spec.specs.Bmff.Boxes.{Box, HasRoots}
use Rattle.c2_spec.specs.C2pa.Sign1.{SignParts}
use Rattle.c2_spec.specs.Jumbf.Tree.{Tree}
use Rattle.c2_spec.specs.Located.{Opening}
use Rattle.c2_spec.specs.declared.digest.Alg.{Alg}
use Rattle.c2_spec.proofs.BmffOneList.{roots_once}
use Rattle.c2_rules.specs.Opened.{IsOpened}
use Rattle.c2_definition.specs.DefinitionFile.{IsDefinition}
use Rattle.c2_definition.specs.declared.types.Definition.{Definition}
use Rattle.c2_new_front_spec.specs.Order.{bmff_refusals, front_refusals, plan_refusals}
use Rattle.c2_new_front_spec.specs.Outcomes.{IsDefinitionStage, IsBmffStage, IsMadeIn, IsMadeOver, IsMediaStage, IsMessageStage, IsNewFile, IsPlannedIn, IsPlannedOver}
use Rattle.c2_new_signature.specs.Message.{IsMessageRead}
use Rattle.c2_new_front_spec.specs.Outcomes.{OneFrontMade, OneFrontPlan, definition_stage, front_signed, media_stage, message_stage, new_file}

-- ---- stages

-- a film has one list of root boxes, or is refused for one thing
one_bmff_file : (media : List ℕ) (what : Opening Tree) → IsOne (IsBmffStage media what)
one_bmff_file media what =
    one_unless (bmff_refusals media what) (λ r. (roots : List Box) × HasRoots media roots × (r ≡ Ok roots))
    (λ r s h k. h.2 ∙ ap (λ (x : List Box). Ok x) (roots_once media h.0 k.0 h.1 k.1) ∙ sym k.2)

-- one new file is built
one_made :
    (hash : Alg → List ℕ → List ℕ) (media : List ℕ) (d : Definition) (m : SignParts) (roots : List Box)
    → IsOne (IsNewFile hash media d m roots)
one_made hash media d m roots r s h k =
    h.2
    ∙ ap (λ (x : List ℕ). Ok (new_file hash media roots d x))
    (a_message_fills_its_reserve_or_needs_more.one m d.reserve h.0 k.0 h.1 k.1) ∙ sym k.2

-- ---- both calls

-- a plan is one
pub one_plan : OneFrontPlan
one_plan hash media definition a b once =
    one_then (IsMediaStage media) (IsPlannedOver hash media definition) (one_stage media_stage (IsOpened media) once)
    (λ what.
    one_then (IsDefinitionStage definition) _
    (one_stage definition_stage (IsDefinition definition) (each_definition_is_read_one_way_one definition)) (λ d.
    one_then (IsBmffStage media what) (IsPlannedIn hash media d) (one_bmff_file media what) (λ roots.
    one_unless (plan_refusals media roots d) (λ r. r ≡ Ok (front_signed hash media roots d)) (one_value (front_signed hash media roots d))))) a b

-- a new file is one
pub one_file : OneFrontMade
one_file hash media definition message a b once =
    one_then (IsMediaStage media) (IsMadeOver hash media definition message)
    (one_stage media_stage (IsOpened media) once) (λ what.
    one_then (IsDefinitionStage definition) _
    (one_stage definition_stage (IsDefinition definition) (each_definition_is_read_one_way_one definition)) (λ d.
    one_then (IsMessageStage d.protected message) _
    (one_stage message_stage (IsMessageRead d.protected message)
    (one_message_read d.protected message)) (λ m.
    one_then (IsBmffStage media what) (IsMadeIn hash media d m) (one_bmff_file media what) (λ roots.
    one_unless (front_refusals media roots d m) (IsNewFile hash media d m roots) (one_made hash media d m roots))))) a b
