-- Inputs whose media file is opened as something come to some plan and to some new file, or to what refuses them.
use Rattle.c2_definition.proofs.TheLaws.{definitions_are_well_formed, each_definition_is_read_one_way_some}
use Rattle.c2_new_signature.proofs.TheLaws.{a_message_fills_its_reserve_or_needs_more, accepted_paddable, some_message_read}
use Rattle.c2_lemmas.proofs.Options.{listed_some}
use Rattle.c2_lemmas.proofs.Stages.{Something, some_stage, some_then, some_unless, stage_value}
use Rattle.c2_lemmas.proofs.Lists.{both_none}
use Rattle.std.proofs.Common.{◌≡◌, ◌⊎◌, inl, inr, ℕ, Bool, true, false, cond, List, [], ◌∷◌, length, refl, ap, ◌∙◌, subst}
use Rattle.std.specs.Bool.{MatchBool}
use Rattle.std.specs.Prelude.{Result, Ok}
use Rattle.c2_spec.specs.Bmff.Boxes.{Box, HasRoots}
use Rattle.c2_spec.specs.Bmff.Store.{HasNoBmffStore, IsBmffLocated}
use Rattle.c2_spec.specs.C2pa.Message.{bare_bytes}
use Rattle.c2_spec.specs.C2pa.Sign1.{SignParts}
use Rattle.c2_spec.specs.Container.{IsLocated, is_bmff}
use Rattle.c2_spec.specs.Jpeg.Store as jpeg
use Rattle.c2_spec.specs.Jumbf.Tree.{Tree}
use Rattle.c2_spec.specs.Located.{Opening, refused, absent, here}
use Rattle.c2_spec.specs.declared.digest.Alg.{Alg}
use Rattle.c2_rules.specs.Opened.{IsOpened}
use Rattle.c2_definition.specs.DefinitionFile.{IsDefinition, IsWellFormed}
use Rattle.c2_definition.specs.declared.types.Definition.{Definition}
use Rattle.c2_new_signature.specs.Refusals.{reserve_needed}
use Rattle.c2_new_signature.specs.Signed.{IsSigned, NeedsMore}
use Rattle.c2_new_file_spec.specs.Films.{AreOthers}
use Rattle.c2_new_front_spec.specs.Order.{FrontRefusal, bad_definition, bad_signature, bmff_refusals, front_refusals, not_bmff, plan_refusals, reserve_refusals, reserve_too_small, store_refusals}
use Rattle.c2_new_front_spec.specs.Outcomes.{IsDefinitionStage, IsBmffStage, IsMadeIn, IsMadeOver, IsMediaStage, IsMessageStage, IsNewFile, IsPlannedIn, IsPlannedOver}
use Rattle.c2_new_signature.specs.Message.{IsMessageRead}
use Rattle.c2_new_front_spec.specs.Outcomes.{SomeFrontMade, SomeFrontPlan, definition_stage, front_signed, media_stage, message_stage, new_file}
use Rattle.c2_rules.proofs.OpenedStore.{located_absent}

-- ---- the media

-- a media file that is opened as something comes to something
some_media : (media : List ℕ) (what : Opening Tree) → IsOpened media what → Something (IsMediaStage media)
some_media media what opened = (media_stage what, (what, opened, refl))

-- equal answers have equal values
same_value : (v w : Opening Tree) → ◌≡◌ {A = Result (Opening Tree) FrontRefusal} (Ok v) (Ok w) → w ≡ v
same_value v w e = cc (e)

-- ---- the film

-- what is refused of no BMFF file isn't of one
is_bmff_file : (b : Bool) → cond b [] (not_bmff ∷ []) ≡ [] → b ≡ true
is_bmff_file true e = refl
is_bmff_file false e = absurd (cc (e))

-- a media file that passed, and of which no store is refused, is opened as one without a store
no_store : (media : List ℕ) (what : Opening Tree) → IsMediaStage media (Ok what) → store_refusals what ≡ []
    → IsOpened media absent
no_store media what m none = by m.0 m.1 m.2
  where
    by : (w : Opening Tree) → IsOpened media w → Ok what ≡ media_stage w → IsOpened media absent
    by (refused reason number) o e = absurd (cc (e))
    by absent o e = o
    by (here start len t) o e =
        absurd (let bad = ap store_refusals (same_value what (here start len t) e) ∙ none in cc (bad))

-- Root boxes of a film of which none has a part in a store.
pub record FreeRoots (media : List ℕ) : Type 0 where
  pub film : is_bmff media ≡ true
  pub roots : List Box
  pub has_roots : HasRoots media roots
  pub others : AreOthers roots

-- where nothing is refused of what a media file is opened as, it has such
pub free_roots : (media : List ℕ) (what : Opening Tree) → IsMediaStage media (Ok what) → bmff_refusals media what ≡ []
    → FreeRoots media
free_roots media what m none =
    let both = both_none (cond (is_bmff media) [] (not_bmff ∷ [])) (store_refusals what) none in
    let film : is_bmff media ≡ true = is_bmff_file (is_bmff media) both.0 in
    let opened : IsOpened media absent = no_store media what m both.1 in
    let located : IsLocated media absent = subst (IsLocated media) (located_absent opened.0 opened.2) opened.1 in
    let free : HasNoBmffStore media =
    subst (λ (b : Bool). MatchBool b (IsBmffLocated media absent) (jpeg.IsLocated media absent)) film located in
    record { film = film; roots = free.roots; has_roots = free.has_roots; others = free.none }

-- the stage of root boxes has an outcome
some_bmff : (media : List ℕ) (what : Opening Tree) → IsMediaStage media (Ok what) → Something (IsBmffStage media what)
some_bmff media what m =
    some_unless (bmff_refusals media what) (λ r. (roots : List Box) × HasRoots media roots × (r ≡ Ok roots)) (λ none.
    let free = free_roots media what m none in
    (Ok free.roots, (free.roots, free.has_roots, refl)))

-- ---- the new file

-- a file is built where nothing is refused
some_made :
    (hash : Alg → List ℕ → List ℕ) (media bytes : List ℕ) (d : Definition) (m : SignParts) (roots : List Box)
    → IsMessageRead d.protected bytes (Ok m) → IsWellFormed d
    → front_refusals media roots d m ≡ [] → Something (IsNewFile hash media d m roots)
some_made hash media bytes d m roots taken formed none =
    let both = both_none (plan_refusals media roots d) (reserve_refusals d m) none in
    by both.1
    (a_message_fills_its_reserve_or_needs_more.either bytes m d.reserve
    (accepted_paddable d.protected bytes m d.reserve taken.0 taken.1 formed.most))
  where
    by : reserve_refusals d m ≡ [] → ((message : List ℕ) × IsSigned m d.reserve message) ⊎ NeedsMore m d.reserve
        → Something (IsNewFile hash media d m roots)
    by pass (inl s) = (Ok (new_file hash media roots d s.0), (s.0, s.1, refl))
    by pass (inr n) =
        absurd (listed_some reserve_too_small (reserve_needed d.reserve (length (bare_bytes m))) n.0 n.1 pass)

-- ---- both calls

-- something is planned
pub some_plan : SomeFrontPlan
some_plan hash media definition what opened =
    some_then (IsMediaStage media) (IsPlannedOver hash media definition) (some_media media what opened) (λ kind is_media.
    some_then (IsDefinitionStage definition) _
    (some_stage definition_stage (IsDefinition definition) (each_definition_is_read_one_way_some definition)) (λ d is_d.
    some_then (IsBmffStage media kind) (IsPlannedIn hash media d) (some_bmff media kind is_media) (λ roots is_bmff_file.
    some_unless (plan_refusals media roots d) (λ r. r ≡ Ok (front_signed hash media roots d)) (λ none. (Ok (front_signed hash media roots d), refl)))))

-- something is built
pub some_file : SomeFrontMade
some_file hash media definition message what opened are =
    some_then (IsMediaStage media) (IsMadeOver hash media definition message) (some_media media what opened) (λ kind is_media.
    some_then (IsDefinitionStage definition) _
    (some_stage definition_stage (IsDefinition definition) (each_definition_is_read_one_way_some definition)) (λ d is_d.
    some_then (IsMessageStage d.protected message) _
    (some_stage message_stage (IsMessageRead d.protected message)
    (some_message_read d.protected message are)) (λ m is_m.
    some_then (IsBmffStage media kind) (IsMadeIn hash media d m) (some_bmff media kind is_media) (λ roots is_bmff_file.
    some_unless (front_refusals media roots d m) (IsNewFile hash media d m roots)
    (some_made hash media message d m roots
    (stage_value bad_signature (IsMessageRead d.protected message) m is_m)
    (definitions_are_well_formed definition d (stage_value bad_definition (IsDefinition definition) d is_d)))))))
