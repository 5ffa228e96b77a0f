-- The inputs of a build, from the stages of any build to those of one that collects, and what comes behind them.
use Rattle.c2_opening.proofs.TheLaws.{one_opening_file}
use Rattle.c2_definition.proofs.TheLaws.{each_definition_is_read_one_way_one}
use Rattle.c2_new_signature.proofs.TheLaws.{one_message_read}
use Rattle.std.proofs.Common.{◌≡◌, ℕ, List, [], refl, subst}
use Rattle.std.specs.Prelude.{Result, Ok, Err}
use Rattle.c2_lemmas.specs.Stages.{AskedBehind, AsksThen, Then}
use Rattle.c2_lemmas.proofs.Stages.{IsOne, one_stage, stage_error, stage_value}
use Rattle.c2_base.specs.declared.values.Question.{Question}
use Rattle.c2_spec.specs.C2pa.Sign1.{SignParts}
use Rattle.c2_spec.specs.Jumbf.Tree.{Tree}
use Rattle.c2_spec.specs.Located.{Opening, absent, here, refused}
use Rattle.c2_spec.specs.declared.digest.Alg.{Alg}
use Rattle.c2_rules.specs.Opened.{IsOpened}
use Rattle.c2_definition.specs.DefinitionFile.{IsDefinition}
use Rattle.c2_definition.specs.declared.types.Definition.{Definition}
use Rattle.c2_collect_spec.specs.Order.{CollectRefusal, bad_definition, bad_signature, media_refused}
use Rattle.c2_collect_spec.specs.Outcomes.{NewFile}
use Rattle.c2_collect_spec.specs.Outcomes as collect
use Rattle.c2_build_refusals.specs.Stages.{IsDefinitionStage, IsMediaStage, IsMessageStage, MediaKind, fresh, media_stage, stored}
use Rattle.c2_new_signature.specs.Message.{IsMessageRead}
use Rattle.c2_build_refusals.specs.declared.error.BuildError.{BuildError}
use Rattle.c2_build_refusals.specs.declared.error.BuildError.TheVariants.{BadDefinition, BadSignature}
use Rattle.c2_build_refusals.proofs.Outside.{outside_map}
use Rattle.c2_build_refusals.proofs.Passing.{opened_absent, opened_here}
use Rattle.c2_build_drafts.specs.declared.ready.DraftedBuild.{DraftedBuild}
use Rattle.c2_build_collect_base.specs.Errors.{IsAnswerTo, IsRefusedWith}
use Rattle.c2_build_collect_base.specs.Grounds.{opening_of}
use Rattle.c2_build_collect.specs.Steps.{IsBuildFor}

-- ---- the media

-- a media file of a kind is opened so
pub opened_kind : (media : List ℕ) (kind : MediaKind) → IsMediaStage media (Ok kind) → IsOpened media (opening_of kind)
opened_kind media fresh h = opened_absent media h
opened_kind media (stored start len t) h = opened_here media start len t h

-- a media file of a kind passes the stage of collected builds as opened so
pub opened_as : (media : List ℕ) (kind : MediaKind) → IsMediaStage media (Ok kind)
    → collect.IsMediaStage media (Ok (opening_of kind))
opened_as media fresh h = (absent, opened_absent media h, refl)
opened_as media (stored start len t) h = (here start len t, opened_here media start len t h, refl)

-- one that is refused is refused with its error
pub media_error : (media : List ℕ) (e : BuildError) → IsMediaStage media (Err e)
    → IsRefusedWith (collect.IsMediaStage media) e
media_error media e s = by s.0 s.1 s.2
  where
    by : (what : Opening Tree) → IsOpened media what → ◌≡◌ {A = Result MediaKind BuildError} (Err e) (media_stage what)
        → IsRefusedWith (collect.IsMediaStage media) e
    by (refused reason number) o same = (media_refused reason number, (refused reason number, o, refl), cc (same))
    by absent o same = absurd (cc (same))
    by (here start len t) o same = absurd (cc (same))

-- a media file is one thing to a build that collects
pub one_media : (media : List ℕ) → IsOne (collect.IsMediaStage media)
one_media media = one_stage collect.media_stage (IsOpened media) (one_opening_file media)

-- ---- the definition

-- a definition is one
pub defined_as : (file : List ℕ) (d : Definition) → IsDefinitionStage file (Ok d)
    → collect.IsDefinitionStage file (Ok d)
defined_as file d s = (Ok d, stage_value BadDefinition (IsDefinition file) d s, refl)

-- a definition file that is refused is refused with its error
pub definition_error : (file : List ℕ) (e : BuildError) → IsDefinitionStage file (Err e)
    → IsRefusedWith (collect.IsDefinitionStage file) e
definition_error file e s =
    let f = stage_error BadDefinition (IsDefinition file) e s in
    (bad_definition f.0, (Err f.0, f.1, refl), f.2)

-- a definition file is one thing to a build that collects
pub one_definition : (file : List ℕ) → IsOne (collect.IsDefinitionStage file)
one_definition file =
    one_stage collect.definition_stage (IsDefinition file) (each_definition_is_read_one_way_one file)

-- ---- the message

-- a message is one
pub message_as : (protected bytes : List ℕ) (p : SignParts) → IsMessageStage protected bytes (Ok p)
    → collect.IsMessageStage protected bytes (Ok p)
message_as protected bytes p s = (Ok p, stage_value BadSignature (IsMessageRead protected bytes) p s, refl)

-- a message that is refused is refused with its error
pub message_error : (protected bytes : List ℕ) (e : BuildError) → IsMessageStage protected bytes (Err e)
    → IsRefusedWith (collect.IsMessageStage protected bytes) e
message_error protected bytes e s =
    let f = stage_error BadSignature (IsMessageRead protected bytes) e s in
    (bad_signature f.0, (Err f.0, f.1, refl), f.2)

-- a message is one thing to a build that collects
pub one_signed : (protected bytes : List ℕ) → IsOne (collect.IsMessageStage protected bytes)
one_signed protected bytes =
    one_stage collect.message_stage (IsMessageRead protected bytes) (one_message_read protected bytes)

-- ---- one stage after the other

-- a stage that refuses
pub refused_first :
    {A B : Type 0} (First : Result A CollectRefusal → Type 0) (Next : A → Result B CollectRefusal → Type 0)
    (e : BuildError)
    → IsRefusedWith First e → IsRefusedWith (Then First Next) e
refused_first First Next e h = (h.0, record { first = Err h.0; is_first = h.1; next = refl }, h.2)

-- what is refused behind a stage that passed
pub refused_next :
    {A B : Type 0} (First : Result A CollectRefusal → Type 0) (Next : A → Result B CollectRefusal → Type 0) (a : A)
    (e : BuildError)
    → First (Ok a) → IsRefusedWith (Next a) e → IsRefusedWith (Then First Next) e
refused_next First Next a e first h = (h.0, record { first = Ok a; is_first = first; next = h.1 }, h.2)

-- an answer behind a stage that passed
pub answer_next :
    {A B : Type 0} (First : Result A CollectRefusal → Type 0) (Next : A → Result B CollectRefusal → Type 0) (a : A)
    (r : Result B BuildError)
    → First (Ok a) → IsAnswerTo (Next a) r → IsAnswerTo (Then First Next) r
answer_next First Next a (Ok b) first h = record { first = Ok a; is_first = first; next = h }
answer_next First Next a (Err e) first h = outside_map e (refused_next First Next a e first) h

-- what is drafted behind a stage that passed
pub build_next :
    {A : Type 0} (hash : Alg → List ℕ → List ℕ) (media : List ℕ) (First : Result A CollectRefusal → Type 0)
    (Next : A → Result NewFile CollectRefusal → Type 0) (a : A) (r : Result DraftedBuild BuildError)
    → First (Ok a) → IsBuildFor hash media (Next a) r
    → IsBuildFor hash media (Then First Next) r
build_next hash media First Next a (Ok b) first h =
    record
    { ground = h.ground; over = h.over; made = λ bytes put. record { first = Ok a; is_first = first; next = h.made bytes put } }
build_next hash media First Next a (Err e) first h = outside_map e (refused_next First Next a e first) h

-- ---- questions

-- nothing is asked behind a stage that refuses
pub asks_none :
    {A : Type 0} (First : Result A CollectRefusal → Type 0) (Asks : A → List Question → Type 0) (e : BuildError)
    (qs : List Question)
    → IsOne First → IsRefusedWith First e → AsksThen First Asks qs → qs ≡ []
asks_none {A} First Asks e qs one is h =
    subst (λ (r : Result A CollectRefusal). AskedBehind r Asks qs) (one h.first (Err is.0) h.is_first is.1) h.asks
