-- What is asked of two files behind stages: one list where each stage comes to one thing, and a list where each comes to something.
use Rattle.c2_collect_spec.proofs.TheLaws.{each_collected_build_comes_to_something_made, each_collected_build_comes_to_something_plan}
use Rattle.c2_validate.proofs.TheLaws.{each_file_has_a_check_answer, each_file_has_a_check_asks, one_check_asks}
use Rattle.c2_opening.proofs.TheLaws.{one_opening_file}
use Rattle.std.proofs.Common.{◌≡◌, ℕ, ◌<◌, ◌^◌, List, ◌++◌, refl, sym, ap₂, ◌∙◌, subst}
use Rattle.std.specs.Prelude.{All, Result}
use Rattle.c2_lemmas.specs.Stages.{Then}
use Rattle.c2_lemmas.proofs.Asks.{IsOneList, SomeList, one_asked, some_asked}
use Rattle.c2_base.specs.declared.values.Question.{Question}
use Rattle.c2_spec.specs.Jumbf.Tree.{Tree}
use Rattle.c2_spec.specs.Located.{Opening}
use Rattle.c2_spec.specs.declared.digest.Alg.{Alg}
use Rattle.c2_spec.specs.declared.panel.Verdict.{Verdict}
use Rattle.c2_rules.specs.CheckList.{check_asks}
use Rattle.c2_rules.specs.Opened.{IsOpened}
use Rattle.c2_rules.specs.Validated.{CheckAsks, OpenedAsks}
use Rattle.c2_collect_spec.specs.Order.{CollectRefusal, MediaFile}
use Rattle.c2_collect_spec.specs.Outcomes.{HasCheck, IsDefinitionStage, IsMediaStage, IsMessageStage, IsParentStage, PairAsks}
use Rattle.c2_collect_spec.proofs.SomeOutcome.{opened_as}
use Rattle.c2_build_collect.specs.Asked.{OneCollectAsks, OneCollectPlanAsks, SomeCollectAsks, SomeCollectPlanAsks}
use Rattle.c2_build_collect.proofs.Stages.{one_definition, one_media, one_signed}
use Rattle.c2_collect_spec.proofs.OneOutcome.{one_parent}

-- ---- one list

-- what is asked of two files is one list, where the media is opened so
one_pair :
    (hash : Alg → List ℕ → List ℕ) (said : Question → Verdict) (media other : List ℕ) (what : Opening Tree)
    → IsOpened media what → IsOneList (PairAsks hash said media other what)
one_pair hash said media other what opened ps qs h k =
    let own : h.of_media ≡ k.of_media =
    one_check_asks hash said media h.of_media k.of_media (what, opened, h.media_asks) (what, opened, k.media_asks) in
    let theirs : h.of_other ≡ k.of_other =
    one_asked (IsParentStage hash said media what) (λ m. CheckAsks hash said other) (one_parent hash said media what) (λ m is. one_check_asks hash said other) h.of_other k.of_other h.other_asks k.other_asks in
    h.are ∙ ap₂ (λ (x y : List Question). x ++ y) own theirs ∙ sym k.are

-- what `plan_collect` asks is one list
pub one_plan_asks : OneCollectPlanAsks
one_plan_asks hash said media definition other =
    one_asked (IsMediaStage media) _ (one_media media) (λ what is.
    one_asked (IsDefinitionStage definition) _ (one_definition definition) (λ d read. one_pair hash said media other what (opened_as media what is)))

-- what `embed_collect` asks is one list
pub one_embed_asks : OneCollectAsks
one_embed_asks hash said media definition message other =
    one_asked (IsMediaStage media) _ (one_media media) (λ what is.
    one_asked (IsDefinitionStage definition) _ (one_definition definition) (λ d read.
    one_asked (IsMessageStage d.protected message) _ (one_signed d.protected message) (λ parts told. one_pair hash said media other what (opened_as media what is))))

-- ---- a list

-- what is asked of a file is asked over what it is opened as
opened_asks :
    (hash : Alg → List ℕ → List ℕ) (said : Question → Verdict) (file : List ℕ) (what : Opening Tree)
    (qs : List Question)
    → IsOpened file what → CheckAsks hash said file qs → OpenedAsks (check_asks hash said) what qs
opened_asks hash said file what qs is h =
    subst (λ (w : Opening Tree). OpenedAsks (check_asks hash said) w qs) (one_opening_file file h.0 what h.1 is) h.2

-- a list is asked of two files, where the media's part comes to something
some_pair :
    {A B : Type 0} (hash : Alg → List ℕ → List ℕ) (said : Question → Verdict)
    (media other : List ℕ) (what : Opening Tree)
    → IsOpened media what → All (λ b. b < 2 ^ 8) media → All (λ b. b < 2 ^ 8) other
    → (Next : MediaFile → Result A CollectRefusal → Type 0) (Last : A → Result B CollectRefusal → Type 0) (r : Result B CollectRefusal)
    → Then (Then (IsParentStage hash said media what) Next) Last r → SomeList (PairAsks hash said media other what)
some_pair hash said media other what is held told Next Last r h =
    let own = each_file_has_a_check_asks hash said media held in
    let theirs =
    some_asked (IsParentStage hash said media what) Next (λ m. CheckAsks hash said other) h.first h.is_first
    (λ m x first next. each_file_has_a_check_asks hash said other told) in
    (own.0 ++ theirs.0, record { of_media = own.0; media_asks = opened_asks hash said media what own.0 is own.1; of_other = theirs.0; other_asks = theirs.1; are = refl })

-- each file has a check
pub has_check : (hash : Alg → List ℕ → List ℕ) (said : Question → Verdict) (file : List ℕ)
    → All (λ b. b < 2 ^ 8) file → HasCheck hash said file
has_check hash said file held =
    let a = each_file_has_a_check_answer hash said file held in
    record { once = λ v w p q. one_opening_file file v w p q; answer = a.0; is = a.1 }

-- `plan_collect` asks a list
pub some_plan_asks : SomeCollectPlanAsks
some_plan_asks hash said media definition other held told =
    let r =
    each_collected_build_comes_to_something_plan hash said media definition other (has_check hash said media held)
    (has_check hash said other told) in
    some_asked (IsMediaStage media) _ _ r.0 r.1 (λ what x is h.
    some_asked (IsDefinitionStage definition) _ _ x h (λ d y read k. some_pair hash said media other what (opened_as media what is) held told _ _ y k))

-- `embed_collect` asks a list
pub some_embed_asks : SomeCollectAsks
some_embed_asks hash said media definition message other held told bytes =
    let r =
    each_collected_build_comes_to_something_made hash said media definition message other (has_check hash said media held)
    (has_check hash said other told) bytes in
    some_asked (IsMediaStage media) _ _ r.0 r.1 (λ what x is h.
    some_asked (IsDefinitionStage definition) _ _ x h (λ d y read k.
    some_asked (IsMessageStage d.protected message) _ _ y k (λ parts z signed l. some_pair hash said media other what (opened_as media what is) held told _ _ z l)))
