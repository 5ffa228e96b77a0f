-- What is asked behind stages: one list where each stage comes to one thing, and a list where each comes to something.
use Rattle.c2_build_plain.proofs.SomeBuild.{some_embedding, some_plan}
use Rattle.c2_validate.proofs.TheLaws.{each_file_has_a_check_asks, one_check_asks}
use Rattle.std.proofs.Common.{ℕ, ◌<◌, ◌^◌, List, [], refl, sym, ◌∙◌}
use Rattle.std.specs.Prelude.{All}
use Rattle.c2_lemmas.proofs.Asks.{IsOneList, SomeList, one_asked, some_asked}
use Rattle.c2_base.specs.declared.values.Question.{Question}
use Rattle.c2_spec.specs.declared.digest.Alg.{Alg}
use Rattle.c2_spec.specs.declared.panel.Verdict.{Verdict}
use Rattle.c2_build_plain.specs.Asked.{OneEmbedAsks, OnePlanAsks, SomeEmbedAsks, SomePlanAsks}
use Rattle.c2_build_refusals.specs.Stages.{IsDefinitionStage, IsMediaStage, IsMessageStage, KindAsks, MediaKind, fresh, stored}
use Rattle.c2_build_refusals.proofs.Inputs.{one_definition, one_media, one_message}

-- ---- one list

-- a media file of one kind asks one list
one_kind : (hash : Alg → List ℕ → List ℕ) (said : Question → Verdict) (media : List ℕ) (kind : MediaKind)
    → IsOneList (KindAsks hash said media kind)
one_kind hash said media fresh ps qs h k = h ∙ sym k
one_kind hash said media (stored start len t) ps qs h k = one_check_asks hash said media ps qs h k

-- what `plan` asks is one list
pub one_plan_asks : OnePlanAsks
one_plan_asks hash said media definition =
    one_asked (IsMediaStage media) _ (one_media media) (λ kind is.
    one_asked (IsDefinitionStage definition) _ (one_definition definition) (λ d read. one_kind hash said media kind))

-- what `embed` asks is one list
pub one_embed_asks : OneEmbedAsks
one_embed_asks hash said media definition message =
    one_asked (IsMediaStage media) _ (one_media media) (λ kind is.
    one_asked (IsDefinitionStage definition) _ (one_definition definition) (λ d read.
    one_asked (IsMessageStage d.protected message) _ (one_message d.protected message) (λ parts told. one_kind hash said media kind)))

-- ---- a list

-- a media file of each kind asks a list
some_kind : (hash : Alg → List ℕ → List ℕ) (said : Question → Verdict) (media : List ℕ) (kind : MediaKind)
    → All (λ b. b < 2 ^ 8) media → SomeList (KindAsks hash said media kind)
some_kind hash said media fresh held = ([], refl)
some_kind hash said media (stored start len t) held = each_file_has_a_check_asks hash said media held

-- `plan` asks a list
pub some_plan_asks : SomePlanAsks
some_plan_asks hash said media definition held =
    let r = some_plan hash said media definition held in
    some_asked (IsMediaStage media) _ _ r.0 r.1 (λ kind x is h.
    some_asked (IsDefinitionStage definition) _ _ x h (λ d y read k. some_kind hash said media kind held))

-- `embed` asks a list
pub some_embed_asks : SomeEmbedAsks
some_embed_asks hash said media definition message held bytes =
    let r = some_embedding hash said media definition message held bytes in
    some_asked (IsMediaStage media) _ _ r.0 r.1 (λ kind x is h.
    some_asked (IsDefinitionStage definition) _ _ x h (λ d y read k.
    some_asked (IsMessageStage d.protected message) _ _ y k (λ parts z told l. some_kind hash said media kind held)))
