-- The stages of a build in front of a BMFF file, by what the steps of a build say of its inputs.
use Rattle.std.proofs.Common.{◌≡◌, inl, inr, ℕ, Bool, true, false, cond, not, ◌&&◌, List, [], ◌∷◌, ◌++◌, refl, ap}
use Rattle.std.specs.Prelude.{Result, Ok, Err}
use Rattle.c2_lemmas.specs.Stages.{Then}
use Rattle.c2_lemmas.proofs.Stages.{stage_error, stage_value, unless_first, unless_passes}
use Rattle.c2_spec.specs.Bmff.Boxes.{Box, HasRoots, begins_bmff}
use Rattle.c2_spec.specs.C2pa.Sign1.{SignParts}
use Rattle.c2_spec.specs.Container.{begins_jpeg, is_bmff}
use Rattle.c2_spec.specs.Jumbf.Tree.{Tree}
use Rattle.c2_spec.specs.Located.{Opening, refused, absent, here}
use Rattle.c2_spec.specs.declared.digest.Alg.{Alg}
use Rattle.c2_rules.specs.Opened.{IsOpened}
use Rattle.c2_definition.specs.DefinitionFile.{IsDefinition}
use Rattle.c2_definition.specs.declared.types.Definition.{Definition}
use Rattle.c2_new_front_spec.specs.Order.{FrontRefusal, bad_definition, bad_signature, bmff_refusals, has_store, media_refused, not_bmff, plan_refusals, reserve_refusals, store_refusals}
use Rattle.c2_new_front_spec.specs.Outcomes.{IsBmffStage, IsMadeIn, IsNewFile, IsPlannedIn, front_signed}
use Rattle.c2_new_signature.specs.Message.{IsMessageRead}
use Rattle.c2_new_front_spec.specs.Outcomes as front
use Rattle.c2_build_refusals.proofs.Outside.{outside_map}
use Rattle.c2_build_refusals.specs.Stages.{IsDefinitionStage, IsMediaStage, IsMessageStage, MediaKind, fresh, media_stage, stored}
use Rattle.c2_build_refusals.specs.declared.error.BuildError.{BuildError}
use Rattle.c2_build_refusals.specs.declared.error.BuildError.TheVariants as build
use Rattle.c2_build_front.proofs.First.{first_behind}
use Rattle.c2_build_front.specs.Errors.{IsAnswerTo, IsRefusedWith}
use Rattle.c2_build_front.specs.Steps.{IsFirstError, IsRefusedOver}

-- ---- the media

-- a media file that isn't refused is opened as what it is
pub opened_as : (media : List ℕ) (kind : MediaKind) → (s : IsMediaStage media (Ok kind))
    → front.IsMediaStage media (Ok s.0)
opened_as media kind s = by s.0 s.1 s.2
  where
    by : (what : Opening Tree) → IsOpened media what
        → ◌≡◌ {A = Result MediaKind BuildError} (Ok kind) (media_stage what) → front.IsMediaStage media (Ok what)
    by (refused reason number) o e = absurd (cc (e))
    by absent o e = (absent, o, refl)
    by (here start len t) o e = (here start len t, o, refl)

-- one that is refused is refused with its error
pub media_error : (media : List ℕ) (e : BuildError) → IsMediaStage media (Err e)
    → IsRefusedWith (front.IsMediaStage media) e
media_error media e s = by s.0 s.1 s.2
  where
    by : (what : Opening Tree) → IsOpened media what → ◌≡◌ {A = Result MediaKind BuildError} (Err e) (media_stage what)
        → IsRefusedWith (front.IsMediaStage media) e
    by (refused reason number) o same = (media_refused reason number, (refused reason number, o, refl), cc (same))
    by absent o same = absurd (cc (same))
    by (here start len t) o same = absurd (cc (same))

-- ---- the definition and the message

-- a definition is one
pub defined_as : (file : List ℕ) (d : Definition) → IsDefinitionStage file (Ok d) → front.IsDefinitionStage file (Ok d)
defined_as file d s = (Ok d, stage_value build.BadDefinition (IsDefinition file) d s, refl)

-- a definition file that is refused is refused with its error
pub definition_error : (file : List ℕ) (e : BuildError) → IsDefinitionStage file (Err e)
    → IsRefusedWith (front.IsDefinitionStage file) e
definition_error file e s =
    let f = stage_error build.BadDefinition (IsDefinition file) e s in
    (bad_definition f.0, (Err f.0, f.1, refl), f.2)

-- a message is one
pub message_as : (protected bytes : List ℕ) (p : SignParts) → IsMessageStage protected bytes (Ok p)
    → front.IsMessageStage protected bytes (Ok p)
message_as protected bytes p s = (Ok p, stage_value build.BadSignature (IsMessageRead protected bytes) p s, refl)

-- a message that is refused is refused with its error
pub message_error : (protected bytes : List ℕ) (e : BuildError) → IsMessageStage protected bytes (Err e)
    → IsRefusedWith (front.IsMessageStage protected bytes) e
message_error protected bytes e s =
    let f = stage_error build.BadSignature (IsMessageRead protected bytes) e s in
    (bad_signature f.0, (Err f.0, f.1, refl), f.2)

-- ---- one stage after the other

-- a stage that refuses
pub refused_first :
    {A B : Type 0} (First : Result A FrontRefusal → Type 0) (Next : A → Result B FrontRefusal → Type 0) (e : BuildError)
    → IsRefusedWith First e → IsRefusedWith (Then First Next) e
refused_first First Next e h = (h.0, record { first = Err h.0; is_first = h.1; next = refl }, h.2)

-- what is refused behind a stage that passed
pub refused_next :
    {A B : Type 0} (First : Result A FrontRefusal → Type 0) (Next : A → Result B FrontRefusal → Type 0) (a : A)
    (e : BuildError)
    → First (Ok a) → IsRefusedWith (Next a) e → IsRefusedWith (Then First Next) e
refused_next First Next a e first h = (h.0, record { first = Ok a; is_first = first; next = h.1 }, h.2)

-- an answer behind a stage that passed
pub answer_next :
    {A B : Type 0} (First : Result A FrontRefusal → Type 0) (Next : A → Result B FrontRefusal → Type 0) (a : A)
    (r : Result B BuildError)
    → First (Ok a) → IsAnswerTo (Next a) r → IsAnswerTo (Then First Next) r
answer_next First Next a (Ok b) first h = record { first = Ok a; is_first = first; next = h }
answer_next First Next a (Err e) first h = outside_map e (refused_next First Next a e first) h

-- ---- the film

-- a JPEG file is no BMFF file
pub jpeg_first : (media : List ℕ) (what : Opening Tree) → begins_jpeg media ≡ true
    → IsFirstError (bmff_refusals media what) build.NotBmff
jpeg_first media what jpeg =
    let none : is_bmff media ≡ false = ap (λ (b : Bool). not b && begins_bmff media) jpeg in
    (not_bmff, store_refusals what, ap (λ (b : Bool). cond b [] (not_bmff ∷ []) ++ store_refusals what) none, refl)

-- nothing is refused of a BMFF file for its form
bmff_form : (media : List ℕ) → is_bmff media ≡ true → cond (is_bmff media) [] (not_bmff ∷ []) ≡ []
bmff_form media film = ap (λ (b : Bool). cond b [] (not_bmff ∷ [])) film

-- one with a store has it already
pub store_first : (media : List ℕ) (what : Opening Tree) (start len : ℕ) (t : Tree) → is_bmff media ≡ true
    → ◌≡◌ {A = Result MediaKind BuildError} (Ok (stored start len t)) (media_stage what)
    → IsFirstError (bmff_refusals media what) build.HasStore
store_first media (refused reason number) start len t film e = absurd (cc (e))
store_first media absent start len t film e = absurd (cc (e))
store_first media (here at n old) start len t film e =
    first_behind (cond (is_bmff media) [] (not_bmff ∷ [])) (has_store ∷ []) build.HasStore (bmff_form media film)
    (has_store, [], refl, refl)

-- nothing is refused of a BMFF file without a store
pub bmff_passes : (media : List ℕ) (what : Opening Tree) → is_bmff media ≡ true
    → ◌≡◌ {A = Result MediaKind BuildError} (Ok fresh) (media_stage what) → bmff_refusals media what ≡ []
bmff_passes media (refused reason number) film e = absurd (cc (e))
bmff_passes media absent film e = ap (λ (xs : List FrontRefusal). xs ++ []) (bmff_form media film)
bmff_passes media (here at n old) film e = absurd (cc (e))

-- what is refused of the film or of a plan over it is refused with its error, of whatever comes behind
pub refused_over : {A : Type 0} (media : List ℕ) (what : Opening Tree) (d : Definition) (e : BuildError) (Next : List Box → Result A FrontRefusal → Type 0)
    → ((roots : List Box) (refusal : FrontRefusal) (others : List FrontRefusal) → plan_refusals media roots d ≡ refusal ∷ others → Next roots (Err refusal))
    → IsRefusedOver media what d e → IsRefusedWith (Then (IsBmffStage media what) Next) e
refused_over {A} media what d e Next plan (inl h) =
    refused_first (IsBmffStage media what) Next e
    (h.0, unless_first (bmff_refusals media what) (λ r. (roots : List Box) × HasRoots media roots × (r ≡ Ok roots)) h.0 h.1 h.2, h.3)
refused_over {A} media what d e Next plan (inr h) =
    refused_next (IsBmffStage media what) Next h.0 e
    (unless_passes (bmff_refusals media what) (λ r. (roots : List Box) × HasRoots media roots × (r ≡ Ok roots)) (Ok h.0) h.2 (h.0, h.1, refl))
    (h.3.0, plan h.0 h.3.0 h.3.1 h.3.2, h.3.3)

-- a plan refuses it
pub planned_refuses :
    (hash : Alg → List ℕ → List ℕ) (media : List ℕ) (d : Definition) (roots : List Box) (refusal : FrontRefusal)
    (others : List FrontRefusal)
    → plan_refusals media roots d ≡ refusal ∷ others → IsPlannedIn hash media d roots (Err refusal)
planned_refuses hash media d roots refusal others is =
    unless_first (plan_refusals media roots d) (λ r. r ≡ Ok (front_signed hash media roots d)) refusal others is

-- a build refuses a media file of which a plan is refused
pub made_refuses :
    (hash : Alg → List ℕ → List ℕ) (media : List ℕ) (d : Definition) (parts : SignParts) (roots : List Box)
    (refusal : FrontRefusal) (others : List FrontRefusal)
    → plan_refusals media roots d ≡ refusal ∷ others → IsMadeIn hash media d parts roots (Err refusal)
made_refuses hash media d parts roots refusal others is =
    unless_first (plan_refusals media roots d ++ reserve_refusals d parts) (IsNewFile hash media d parts roots) refusal
    (others ++ reserve_refusals d parts) (ap (λ (xs : List FrontRefusal). xs ++ reserve_refusals d parts) is)
