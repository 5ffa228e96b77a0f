-- What judges are asked behind stages is one list where each stage comes to one thing, and a list where each comes to something.
use Rattle.c2_read_manifests.proofs.TheLaws.{one_reading_manifests}
use Rattle.c2_definition.proofs.TheLaws.{each_definition_is_read_one_way_one}
use Rattle.c2_new_signature.proofs.TheLaws.{one_message_read}
use Rattle.c2_lemmas.specs.Stages.{AsksThen}
use Rattle.c2_lemmas.proofs.Asks.{IsOneList, SomeList, one_asked, some_asked}
use Rattle.c2_lemmas.proofs.Stages.{one_stage}
use Rattle.std.proofs.Common.{◌≡◌, ℕ, List, [], ◌++◌, refl, sym, ap, ◌∙◌, subst}
use Rattle.std.specs.Prelude.{Ok}
use Rattle.c2_base.specs.declared.values.Question.{Question}
use Rattle.c2_spec.specs.C2pa.Manifest.{manifests_of}
use Rattle.c2_spec.specs.Jumbf.Tree.{Tree}
use Rattle.c2_spec.specs.Located.{Opening, absent, here, refused}
use Rattle.c2_spec.specs.declared.digest.Alg.{Alg}
use Rattle.c2_spec.specs.declared.panel.Verdict.{Verdict}
use Rattle.c2_rules.specs.CheckList.{check_asks}
use Rattle.c2_rules.specs.Opened.{IsOpened}
use Rattle.c2_rules.specs.Readings.{Reading}
use Rattle.c2_rules.specs.Validated.{CheckAsks, OpenedAsks}
use Rattle.c2_definition.specs.DefinitionFile.{IsDefinition}
use Rattle.c2_collect_spec.specs.Asked.{OneCollectAsks, OneCollectPlanAsks, SomeCollectAsks, SomeCollectPlanAsks}
use Rattle.c2_collect_spec.specs.Outcomes.{HasCheck, IsDefinitionStage, IsMediaStage, IsMessageStage, IsOpenedOnce, IsParentStage}
use Rattle.c2_new_signature.specs.Message.{IsMessageRead}
use Rattle.c2_collect_spec.specs.Outcomes.{PairAsks, definition_stage, media_stage, message_stage}
use Rattle.c2_collect_spec.proofs.OneOutcome.{one_parent}
use Rattle.c2_collect_spec.proofs.SomeOutcome.{answer_over, opened_as, some_file, some_plan}

-- ---- one list

-- what is asked over what a file is opened as is one list
one_opened : (asks : List Reading → List Question) (what : Opening Tree) → IsOneList (OpenedAsks asks what)
one_opened asks (refused reason number) ps qs h k = h ∙ sym k
one_opened asks absent ps qs h k = h ∙ sym k
one_opened asks (here start len t) ps qs h k =
    h.2 ∙ ap asks (one_reading_manifests (manifests_of t) h.0 k.0 h.1 k.1) ∙ sym k.2

-- what the check of a file asks is one list
one_check : (hash : Alg → List ℕ → List ℕ) (said : Question → Verdict) (file : List ℕ) → IsOpenedOnce file
    → IsOneList (CheckAsks hash said file)
one_check hash said file once ps qs h k =
    one_opened (check_asks hash said) k.0 ps qs
    (subst (λ (w : Opening Tree). OpenedAsks (check_asks hash said) w ps) (once h.0 k.0 h.1 k.1) h.2) k.2

-- what is asked of both files is one list
one_pair : (hash : Alg → List ℕ → List ℕ) (said : Question → Verdict) (media other : List ℕ) (what : Opening Tree)
    → IsOpenedOnce other
    → IsOneList (PairAsks hash said media other what)
one_pair hash said media other what once ps qs h k =
    let own : h.of_media ≡ k.of_media =
    one_opened (check_asks hash said) what h.of_media k.of_media h.media_asks k.media_asks in
    let theirs : h.of_other ≡ k.of_other =
    one_asked (IsParentStage hash said media what) (λ m. CheckAsks hash said other)
    (one_parent hash said media what)
    (λ m is. one_check hash said other once) h.of_other k.of_other h.other_asks k.other_asks in
    h.are ∙ ap (λ (xs : List Question). xs ++ h.of_other) own ∙ ap (λ (xs : List Question). k.of_media ++ xs) theirs
    ∙ sym k.are

-- what a plan asks is one list
pub one_plan_asks : OneCollectPlanAsks
one_plan_asks hash said media definition other ps qs once again =
    one_asked (IsMediaStage media) _ (one_stage media_stage (IsOpened media) once) (λ what is.
    one_asked (IsDefinitionStage definition) _
    (one_stage definition_stage (IsDefinition definition) (each_definition_is_read_one_way_one definition)) (λ d read.
    one_pair hash said media other what again)) ps qs

-- what a build asks is one list
pub one_asks : OneCollectAsks
one_asks hash said media definition message other ps qs once again =
    one_asked (IsMediaStage media) _ (one_stage media_stage (IsOpened media) once) (λ what is.
    one_asked (IsDefinitionStage definition) _
    (one_stage definition_stage (IsDefinition definition) (each_definition_is_read_one_way_one definition)) (λ d read.
    one_asked (IsMessageStage d.protected message) _
    (one_stage message_stage (IsMessageRead d.protected message)
    (one_message_read d.protected message)) (λ m told.
    one_pair hash said media other what again))) ps qs

-- ---- a list

-- a list is asked over what a file is opened as
some_opened : (hash : Alg → List ℕ → List ℕ) (said : Question → Verdict) (file : List ℕ) (what : Opening Tree)
    → HasCheck hash said file → IsOpened file what
    → SomeList (OpenedAsks (check_asks hash said) what)
some_opened hash said file (refused reason number) c opened = ([], refl)
some_opened hash said file absent c opened = ([], refl)
some_opened hash said file (here start len t) c opened =
    let reads = answer_over hash said file (here start len t) c opened in
    (check_asks hash said reads.0.readings, (reads.0.readings, reads.1.reads.each, refl))

-- the check of a file asks a list
some_check : (hash : Alg → List ℕ → List ℕ) (said : Question → Verdict) (file : List ℕ) → HasCheck hash said file
    → SomeList (CheckAsks hash said file)
some_check hash said file c = let some = some_opened hash said file c.is.0 c c.is.1 in (some.0, (c.is.0, c.is.1, some.1))

-- where both files have a check, both together ask a list
some_pair : (hash : Alg → List ℕ → List ℕ) (said : Question → Verdict) (media other : List ℕ) (what : Opening Tree)
    → HasCheck hash said media → HasCheck hash said other
    → IsMediaStage media (Ok what)
    → SomeList (AsksThen (IsParentStage hash said media what) (λ m. CheckAsks hash said other))
    → SomeList (PairAsks hash said media other what)
some_pair hash said media other what own theirs is asked =
    let first = some_opened hash said media what own (opened_as media what is) in (
      first.0 ++ asked.0,
      record { of_media = first.0; media_asks = first.1; of_other = asked.0; other_asks = asked.1; are = refl },
    )

-- a plan asks a list
pub some_plan_asks : SomeCollectPlanAsks
some_plan_asks hash said media definition other own theirs =
    let r = some_plan hash said media definition other own theirs in
    some_asked (IsMediaStage media) _ _ r.0 r.1 (λ what x is_media h.
    some_asked (IsDefinitionStage definition) _ _ x h (λ d y is_d k.
    some_pair hash said media other what own theirs is_media
    (some_asked (IsParentStage hash said media what) _ _ k.first k.is_first (λ m z is_m n. some_check hash said other theirs))))

-- a build asks a list
pub some_asks : SomeCollectAsks
some_asks hash said media definition message other own theirs are =
    let r = some_file hash said media definition message other own theirs are in
    some_asked (IsMediaStage media) _ _ r.0 r.1 (λ what x is_media h.
    some_asked (IsDefinitionStage definition) _ _ x h (λ d y is_d k.
    some_asked (IsMessageStage d.protected message) _ _ y k (λ parts z is_parts n.
    some_pair hash said media other what own theirs is_media
    (some_asked (IsParentStage hash said media what) _ _ n.first n.is_first (λ m v is_m o. some_check hash said other theirs)))))
