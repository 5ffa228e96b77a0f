use Rattle.c2_cmd_collect.proofs.TheLaws.{one_collect_outcome_outcome}
use Rattle.c2_cmd_building.proofs.TheLaws.{one_building_outcome_outcome}
use Rattle.c2_cmd_reading.proofs.TheLaws.{one_reading_outcome_outcome}
use Rattle.c2_cmd_front.proofs.TheLaws.{one_front_outcome_plan}
use Rattle.c2_cmd_building.proofs.TheLaws.{a_built_file_is_restored}
use Rattle.std.proofs.Common.{map, ℕ, List, [], refl, sym, ap, subst, inl, inr}
use Rattle.std.specs.Prelude.{IfOk, unwrap_or}
use Rattle.std.proofs.lemmas.Bool.{false≢true}
use Rattle.c2_base.specs.declared.values.Question.{Question}
use Rattle.c2_cmd_building.specs.Building.{PlanAsks}
use Rattle.c2_cmd_collect.specs.Answers as collect
use Rattle.c2_cmd_collect.specs.Answers.{embed_effects}
use Rattle.c2_cmd_collect.specs.Outcomes.{IsEmbedCollectOutcome, IsPlanCollectOutcome}
use Rattle.c2_cmd_collect.specs.Grounds.{ground_effects}
use Rattle.c2_collect_spec.specs.Outcomes.{CollectAsks, CollectPlanAsks}
use Rattle.c2_build_refusals.specs.Stages.{IsDefinitionRefused, IsMediaRefused}
use Rattle.c2_cmd_building.specs.Outcomes.{IsEmbedOutcome, IsPlanOutcome, IsSampleOutcome}
use Rattle.c2_compare.specs.Comparing.{IsNotAccepted}
use Rattle.c2_cmd_extract.specs.Outcomes.{IsExtractOutcome}
use Rattle.c2_cmd_front.specs.Outcomes.{IsEmbedFrontOutcome, IsPlanFrontOutcome}
use Rattle.c2_cmd_outcome.specs.Reply.{Replies, outcome_of}
use Rattle.c2_cmd_reading.specs.Outcomes.{IsCompareOutcome, IsDigestOutcome, IsExternalOutcome, IsListOutcome, IsMediaOutcome, IsQuestioned, IsShown, IsValidated}
use Rattle.c2_rules.specs.Validated.{AreQuestions, CheckAsks}
use Rattle.c2_cmd_building.specs.Sample.{SampleAsks}
use Rattle.c2_sidecar.specs.Checking.{IsRefusedFile}
use Rattle.c2_spec.specs.Judges.Panel.{panel_says}
use Rattle.c2_cmd_strip.specs.Outcomes.{IsStripOutcome}
use Rattle.c2_validate.specs.External.{ExternalAsks}
use Rattle.c2_usage.specs.CommandLine.{is_out}
use Rattle.c2_cmd_written_spec.specs.Builds.{IsRefusedBy, embedded_outcome, tbs_outcome}
use Rattle.c2_cmd_written_spec.proofs.Left.{built_words}
use Rattle.c2_usage.specs.declared.types.Command.TheVariants as command
use Rattle.c2_cmd.specs.Outcome.{digest_alg, names, pieces_in}
use Rattle.c2_cmd.specs.Sources.{the_fourth, the_second, the_third}
use Rattle.c2_cmd.proofs.Causing.{caused_collected, caused_collecting, caused_compare, caused_copying, caused_embed, caused_media, caused_memory, caused_panel, caused_reading, caused_sample, caused_sources, caused_usage, caused_writing}
use Rattle.c2_cmd.proofs.Commands.{begins_filed, early_by, held, left_where_known, media_told, message_due, message_left, other_due, other_left, replies_copied, replies_filed, replies_heard}
use Rattle.c2_cmd.proofs.Commands.{replies_media, replies_memory, replies_silent, replies_to, replies_unheard, replies_usage, source_told, takes_none, told, unnamed_by}
use Rattle.c2_cmd.proofs.Keeping.{begun_report, idle_memory, idle_out, idle_panel, idle_report, undue, unused_by, unused_idle, written_out}
use Rattle.c2_cmd.proofs.Leaving.{read_all, read_media, read_none, read_pair, read_three, read_two}
use Rattle.c2_cmd.proofs.Unfiled.{compare_unfiled, digest_unfiled, external_unfiled, list_unfiled, plan_collect_unfiled, plan_front_unfiled, plan_unfiled, questions_unfiled, sample_unfiled, show_unfiled, validate_unfiled}
use Rattle.c2_cmd.proofs.run_command.reply_to.Goals as goal

-- ---- where the sources are known

-- the reply to `digest` is the call's
pub returns-in-Digest-clause-known : goal.returns-in-Digest-clause-known
returns-in-Digest-clause-known g c known =
    let hash = g.H.Hashing.digest_of (digest_alg c.in-Ok.found) in
    replies_to c.in-Ok.found command.Digest c.in-Ok.ensures c.in-Digest.is
    (replies_silent (IsDigestOutcome hash) (g.A.Source.known c.args.media.now) _ _ (media_told c.in-Ok.found command.Digest c.in-Ok.ensures c.in-Digest.is refl known)
    (one_reading_outcome_outcome.digest hash) (digest_unfiled hash) tt refl
    c.reply_to_digest.ensures.media.cause
    (subst (λ alg. IfOk c.reply_to_digest.result (Replies (IsDigestOutcome (g.H.Hashing.digest_of alg))
    (g.A.Source.known c.args.media.now))) c.digest_alg.ensures c.reply_to_digest.ensures.reply))

-- the reply to `list` is
pub returns-in-List-clause-known : goal.returns-in-List-clause-known
returns-in-List-clause-known g c known =
    replies_to c.in-Ok.found command.List c.in-Ok.ensures c.in-List.is
    (replies_silent IsListOutcome (g.A.Source.known c.args.media.now) _ _ (media_told c.in-Ok.found command.List c.in-Ok.ensures c.in-List.is refl known)
    one_reading_outcome_outcome.list list_unfiled tt refl c.reply_to_list.ensures.media.cause
    c.reply_to_list.ensures.reply)

-- the reply to `show` is
pub returns-in-Show-clause-known : goal.returns-in-Show-clause-known
returns-in-Show-clause-known g c known =
    replies_to c.in-Ok.found command.Show c.in-Ok.ensures c.in-Show.is
    (replies_silent (IsMediaOutcome IsShown) (g.A.Source.known c.args.media.now) _ _ (media_told c.in-Ok.found command.Show c.in-Ok.ensures c.in-Show.is refl known)
    one_reading_outcome_outcome.show show_unfiled tt refl c.reply_to_show.ensures.media.cause
    c.reply_to_show.ensures.reply)

-- the reply to `questions` is, and so are the questions
pub returns-in-Questions-clause-known : goal.returns-in-Questions-clause-known
returns-in-Questions-clause-known g c known =
    let said = panel_says (map (λ j. (goal.Judge-dyn g (j.vtable, j.value)).says j.value) c.args.judges.now.items) in
    replies_to c.in-Ok.found command.Questions c.in-Ok.ensures c.in-Questions.is
    (replies_media (IsMediaOutcome (IsQuestioned said)) (λ file said. AreQuestions file) (g.A.Source.known c.args.media.now)
    (media_told c.in-Ok.found command.Questions c.in-Ok.ensures c.in-Questions.is refl known) (one_reading_outcome_outcome.questions said)
    (questions_unfiled said) tt c.reply_to_questions.ensures.reply c.reply_to_questions.ensures.panel)

-- the reply to `validate` is, and so are the questions
pub returns-in-Validate-clause-known : goal.returns-in-Validate-clause-known
returns-in-Validate-clause-known g c known =
    let said = panel_says (map (λ j. (goal.Judge-dyn g (j.vtable, j.value)).says j.value) c.args.judges.now.items) in
    replies_to c.in-Ok.found command.Validate c.in-Ok.ensures c.in-Validate.is
    (replies_media (IsValidated g.H.Hashing.digest_of said) (λ file said. CheckAsks g.H.Hashing.digest_of said file)
    (g.A.Source.known c.args.media.now) (media_told c.in-Ok.found command.Validate c.in-Ok.ensures c.in-Validate.is refl known)
    (one_reading_outcome_outcome.validate g.H.Hashing.digest_of said)
    (validate_unfiled g.H.Hashing.digest_of said) tt c.reply_to_validate.ensures.reply c.reply_to_validate.ensures.panel)

-- the reply to `compare` is, behind the evidence
pub returns-in-Compare-clause-known : goal.returns-in-Compare-clause-known
returns-in-Compare-clause-known g c known =
    let said = panel_says (map (λ j. (goal.Judge-dyn g (j.vtable, j.value)).says j.value) c.args.judges.now.items) in
    let some = media_told c.in-Ok.found command.Compare c.in-Ok.ensures c.in-Compare.is refl known in
    let due = source_told the_second c.in-Ok.found command.Compare c.in-Ok.ensures c.in-Compare.is refl known
    (λ n. held (IsNotAccepted g.H.Hashing.digest_of said) (g.A.Source.known c.args.media.now) n) in
    let a = unwrap_or (g.A.Source.known c.args.media.now) [] in
    let b = unwrap_or (g.B.Source.known c.args.second.now) [] in
    replies_to c.in-Ok.found command.Compare c.in-Ok.ensures c.in-Compare.is
    (record {
      reply = c.reply_to_compare.ensures.reply a (told (g.A.Source.known c.args.media.now) some) b due;
      file = takes_none (IsCompareOutcome g.H.Hashing.digest_of said a b) _ c.reply_to_compare.result
          (compare_unfiled g.H.Hashing.digest_of said a b);
      met = λ whole. tt;
      asked = λ qs asks. c.reply_to_compare.ensures.panel.asked qs
          (record { file = a; is_file = told (g.A.Source.known c.args.media.now) some; other = b; is_other = due; asks = asks });
      unasked = λ none. c.reply_to_compare.ensures.panel.unasked
          (record { file = a; is_file = told (g.A.Source.known c.args.media.now) some; other = b; is_other = due; asks = none });
    })

-- the reply to `validate-external` is
pub returns-in-ValidateExternal-clause-known : goal.returns-in-ValidateExternal-clause-known
returns-in-ValidateExternal-clause-known g c known =
    let said = panel_says (map (λ j. (goal.Judge-dyn g (j.vtable, j.value)).says j.value) c.args.judges.now.items) in
    let some = media_told c.in-Ok.found command.ValidateExternal c.in-Ok.ensures c.in-ValidateExternal.is refl known in
    let due =
    source_told the_second c.in-Ok.found command.ValidateExternal c.in-Ok.ensures c.in-ValidateExternal.is refl
    known
    (λ n. held IsRefusedFile (g.A.Source.known c.args.media.now) n) in
    let a = unwrap_or (g.A.Source.known c.args.media.now) [] in
    let b = unwrap_or (g.B.Source.known c.args.second.now) [] in
    replies_to c.in-Ok.found command.ValidateExternal c.in-Ok.ensures c.in-ValidateExternal.is
    (replies_heard (IsExternalOutcome g.H.Hashing.digest_of said a b) (ExternalAsks g.H.Hashing.digest_of b a said)
    (one_reading_outcome_outcome.external g.H.Hashing.digest_of said a b)
    (external_unfiled g.H.Hashing.digest_of said a b) tt
    (c.reply_to_validate_external.ensures.reply a (told (g.A.Source.known c.args.media.now) some) b due)
    c.reply_to_validate_external.ensures.panel
    (λ qs asks. record { file = a; is_file = told (g.A.Source.known c.args.media.now) some; store = b; is_store = due; asks = asks }))

-- the reply to `plan` is
pub returns-in-Plan-clause-known : goal.returns-in-Plan-clause-known
returns-in-Plan-clause-known g c known =
    let said = panel_says (map (λ j. (goal.Judge-dyn g (j.vtable, j.value)).says j.value) c.args.judges.now.items) in
    let some = media_told c.in-Ok.found command.Plan c.in-Ok.ensures c.in-Plan.is refl known in
    let due = source_told the_second c.in-Ok.found command.Plan c.in-Ok.ensures c.in-Plan.is refl known
    (λ n. held IsMediaRefused (g.A.Source.known c.args.media.now) n) in
    let a = unwrap_or (g.A.Source.known c.args.media.now) [] in
    let b = unwrap_or (g.B.Source.known c.args.second.now) [] in
    replies_to c.in-Ok.found command.Plan c.in-Ok.ensures c.in-Plan.is
    (replies_heard (IsPlanOutcome g.H.Hashing.digest_of said a b) (PlanAsks g.H.Hashing.digest_of said a b)
    (one_building_outcome_outcome.plan g.H.Hashing.digest_of said a b) (plan_unfiled g.H.Hashing.digest_of said a b) tt
    (c.reply_to_plan.ensures.reply a (told (g.A.Source.known c.args.media.now) some) b due)
    c.reply_to_plan.ensures.panel
    (λ qs asks. inl (record { file = a; is_file = told (g.A.Source.known c.args.media.now) some; bytes = b; is_bytes = due; asks = asks })))

-- the reply to `embed` is, its file is the outcome's, and meets what is promised of it
pub returns-in-Embed-clause-known : goal.returns-in-Embed-clause-known
returns-in-Embed-clause-known g c known =
    let said = panel_says (map (λ j. (goal.Judge-dyn g (j.vtable, j.value)).says j.value) c.args.judges.now.items) in
    let some = media_told c.in-Ok.found command.Embed c.in-Ok.ensures c.in-Embed.is refl known in
    let due = source_told the_second c.in-Ok.found command.Embed c.in-Ok.ensures c.in-Embed.is refl known
    (λ n. held IsMediaRefused (g.A.Source.known c.args.media.now) n) in
    let due_too = source_told the_third c.in-Ok.found command.Embed c.in-Ok.ensures c.in-Embed.is refl known
    (λ n. message_due IsMediaRefused IsDefinitionRefused (g.A.Source.known c.args.media.now) (g.B.Source.known c.args.second.now) n) in
    let a = unwrap_or (g.A.Source.known c.args.media.now) [] in
    let b = unwrap_or (g.B.Source.known c.args.second.now) [] in
    let m = unwrap_or (g.C.Source.known c.args.third.now) [] in
    let made = c.reply_to_embed.ensures.made a (told (g.A.Source.known c.args.media.now) some) b due m due_too in
    replies_to c.in-Ok.found command.Embed c.in-Ok.ensures c.in-Embed.is
    (record {
      reply = begins_filed (IsEmbedOutcome g.H.Hashing.digest_of said a b m) _ c.reply_to_embed.result made.made.stands;
      file = made.made.takes;
      met = λ whole built is. record {
        meets = made.meets whole built is;
        restores = λ none.
            a_built_file_is_restored g.H.Hashing.digest_of said a b m built (made.meets whole built is) none;
      };
      asked = λ qs asks. c.reply_to_embed.ensures.panel.asked qs
          (inl (record {
            file = a;
            is_file = told (g.A.Source.known c.args.media.now) some;
            bytes = b;
            is_bytes = due;
            signed = m;
            is_signed = due_too;
            asks = asks;
          }));
      unasked = λ none. c.reply_to_embed.ensures.panel.unasked
          (inl (record {
            file = a;
            is_file = told (g.A.Source.known c.args.media.now) some;
            bytes = b;
            is_bytes = due;
            signed = m;
            is_signed = due_too;
            asks = none;
          }));
    })

-- the reply to `sample` is
pub returns-in-Sample-clause-known : goal.returns-in-Sample-clause-known
returns-in-Sample-clause-known g c known =
    let said = panel_says (map (λ j. (goal.Judge-dyn g (j.vtable, j.value)).says j.value) c.args.judges.now.items) in
    let n = pieces_in c.in-Ok.found in
    replies_to c.in-Ok.found command.Sample c.in-Ok.ensures c.in-Sample.is
    (replies_heard (IsSampleOutcome g.H.Hashing.digest_of said n) (SampleAsks g.H.Hashing.digest_of said n)
    (one_building_outcome_outcome.sample g.H.Hashing.digest_of said n) (sample_unfiled g.H.Hashing.digest_of said n) tt
    (subst (λ (m : ℕ). IfOk c.reply_to_sample.result
    (λ reply. IsSampleOutcome g.H.Hashing.digest_of said m (outcome_of reply))) c.unwrap_or.ensures
    c.reply_to_sample.ensures.reply) c.reply_to_sample.ensures.panel
    (λ qs asks. subst (λ (m : ℕ). SampleAsks g.H.Hashing.digest_of said m qs) (sym c.unwrap_or.ensures) asks))

-- the reply to `strip` is, and its file is the outcome's
pub returns-in-Strip-clause-known : goal.returns-in-Strip-clause-known
returns-in-Strip-clause-known g c known =
    replies_to c.in-Ok.found command.Strip c.in-Ok.ensures c.in-Strip.is
    (replies_copied IsStripOutcome (g.A.Source.known c.args.media.now) _ _ (media_told c.in-Ok.found command.Strip c.in-Ok.ensures c.in-Strip.is refl known) tt refl
    c.reply_to_strip.ensures.media.cause c.reply_to_strip.ensures.made)

-- so are those of `extract`
pub returns-in-Extract-clause-known : goal.returns-in-Extract-clause-known
returns-in-Extract-clause-known g c known =
    replies_to c.in-Ok.found command.Extract c.in-Ok.ensures c.in-Extract.is
    (replies_copied IsExtractOutcome (g.A.Source.known c.args.media.now) _ _ (media_told c.in-Ok.found command.Extract c.in-Ok.ensures c.in-Extract.is refl known) tt refl
    c.reply_to_extract.ensures.media.cause c.reply_to_extract.ensures.made)

-- the reply to `plan-front` is
pub returns-in-PlanFront-clause-known : goal.returns-in-PlanFront-clause-known
returns-in-PlanFront-clause-known g c known =
    let some = media_told c.in-Ok.found command.PlanFront c.in-Ok.ensures c.in-PlanFront.is refl known in
    let due = source_told the_second c.in-Ok.found command.PlanFront c.in-Ok.ensures c.in-PlanFront.is refl known
    (λ n. held IsMediaRefused (g.A.Source.known c.args.media.now) n) in
    let a = unwrap_or (g.A.Source.known c.args.media.now) [] in
    let b = unwrap_or (g.B.Source.known c.args.second.now) [] in
    replies_to c.in-Ok.found command.PlanFront c.in-Ok.ensures c.in-PlanFront.is
    (replies_unheard (IsPlanFrontOutcome g.H.Hashing.digest_of a b) _ _
    (one_front_outcome_plan g.H.Hashing.digest_of a b) (plan_front_unfiled g.H.Hashing.digest_of a b) tt refl
    c.reply_to_plan_front.ensures.sources.media.cause
    (c.reply_to_plan_front.ensures.reply a (told (g.A.Source.known c.args.media.now) some) b due))

-- the reply to `embed-front` is, its file is the outcome's, and meets what is promised of it
pub returns-in-EmbedFront-clause-known : goal.returns-in-EmbedFront-clause-known
returns-in-EmbedFront-clause-known g c known =
    let some = media_told c.in-Ok.found command.EmbedFront c.in-Ok.ensures c.in-EmbedFront.is refl known in
    let due = source_told the_second c.in-Ok.found command.EmbedFront c.in-Ok.ensures c.in-EmbedFront.is refl known
    (λ n. held IsMediaRefused (g.A.Source.known c.args.media.now) n) in
    let due_too = source_told the_third c.in-Ok.found command.EmbedFront c.in-Ok.ensures c.in-EmbedFront.is refl known
    (λ n. message_due IsMediaRefused IsDefinitionRefused (g.A.Source.known c.args.media.now) (g.B.Source.known c.args.second.now) n) in
    let a = unwrap_or (g.A.Source.known c.args.media.now) [] in
    let b = unwrap_or (g.B.Source.known c.args.second.now) [] in
    let m = unwrap_or (g.C.Source.known c.args.third.now) [] in
    let made = c.reply_to_embed_front.ensures.made a (told (g.A.Source.known c.args.media.now) some) b due m due_too in
    replies_to c.in-Ok.found command.EmbedFront c.in-Ok.ensures c.in-EmbedFront.is
    (replies_filed (IsEmbedFrontOutcome g.H.Hashing.digest_of a b m) _ _ made.made made.meets refl
    c.reply_to_embed_front.ensures.sources.media.cause)

-- the reply to `plan-collect` is
pub returns-in-PlanCollect-clause-known : goal.returns-in-PlanCollect-clause-known
returns-in-PlanCollect-clause-known g c known =
    let said = panel_says (map (λ j. (goal.Judge-dyn g (j.vtable, j.value)).says j.value) c.args.judges.now.items) in
    let some = media_told c.in-Ok.found command.PlanCollect c.in-Ok.ensures c.in-PlanCollect.is refl known in
    let due = source_told the_second c.in-Ok.found command.PlanCollect c.in-Ok.ensures c.in-PlanCollect.is refl known
    (λ n. held IsMediaRefused (g.A.Source.known c.args.media.now) n) in
    let due_too =
    source_told the_fourth c.in-Ok.found command.PlanCollect c.in-Ok.ensures c.in-PlanCollect.is refl known
    (λ n. message_due (collect.IsNotAccepted g.H.Hashing.digest_of said) IsDefinitionRefused (g.A.Source.known c.args.media.now) (g.B.Source.known c.args.second.now) n) in
    let a = unwrap_or (g.A.Source.known c.args.media.now) [] in
    let b = unwrap_or (g.B.Source.known c.args.second.now) [] in
    let o = unwrap_or (g.D.Source.known c.args.fourth.now) [] in
    replies_to c.in-Ok.found command.PlanCollect c.in-Ok.ensures c.in-PlanCollect.is
    (replies_heard (IsPlanCollectOutcome g.H.Hashing.digest_of said a b o) (CollectPlanAsks g.H.Hashing.digest_of said a b o)
    (one_collect_outcome_outcome.plan g.H.Hashing.digest_of said a b o)
    (plan_collect_unfiled g.H.Hashing.digest_of said a b o) tt
    (c.reply_to_plan_collect.ensures.reply a (told (g.A.Source.known c.args.media.now) some) b due o due_too)
    c.reply_to_plan_collect.ensures.panel
    (λ qs asks. inl (record {
      file = a;
      is_file = told (g.A.Source.known c.args.media.now) some;
      bytes = b;
      is_bytes = due;
      others = o;
      is_others = due_too;
      asks = asks;
    })))

-- the reply to `embed-collect` is, its file is the outcome's, and meets what is promised of it
pub returns-in-EmbedCollect-clause-known : goal.returns-in-EmbedCollect-clause-known
returns-in-EmbedCollect-clause-known g c known =
    let said = panel_says (map (λ j. (goal.Judge-dyn g (j.vtable, j.value)).says j.value) c.args.judges.now.items) in
    let some = media_told c.in-Ok.found command.EmbedCollect c.in-Ok.ensures c.in-EmbedCollect.is refl known in
    let due = source_told the_second c.in-Ok.found command.EmbedCollect c.in-Ok.ensures c.in-EmbedCollect.is refl known
    (λ n. held IsMediaRefused (g.A.Source.known c.args.media.now) n) in
    let due_too =
    source_told the_third c.in-Ok.found command.EmbedCollect c.in-Ok.ensures c.in-EmbedCollect.is refl known
    (λ n. message_due IsMediaRefused IsDefinitionRefused (g.A.Source.known c.args.media.now) (g.B.Source.known c.args.second.now) n) in
    let due_last =
    source_told the_fourth c.in-Ok.found command.EmbedCollect c.in-Ok.ensures c.in-EmbedCollect.is refl known
    (λ n. other_due (collect.IsNotAccepted g.H.Hashing.digest_of said) IsDefinitionRefused (g.A.Source.known c.args.media.now) (g.B.Source.known c.args.second.now)
    (g.C.Source.known c.args.third.now) n) in
    let a = unwrap_or (g.A.Source.known c.args.media.now) [] in
    let b = unwrap_or (g.B.Source.known c.args.second.now) [] in
    let m = unwrap_or (g.C.Source.known c.args.third.now) [] in
    let o = unwrap_or (g.D.Source.known c.args.fourth.now) [] in
    let made =
    c.reply_to_embed_collect.ensures.made a (told (g.A.Source.known c.args.media.now) some) b due m due_too o
    due_last in
    let asked : (qs : List Question) → CollectAsks g.H.Hashing.digest_of said a b m o qs
    → collect.AsksEmbedded g.H.Hashing.digest_of (g.A.Source.known c.args.media.now) (g.B.Source.known c.args.second.now) (g.C.Source.known c.args.third.now)
    (g.D.Source.known c.args.fourth.now) said qs
    = λ qs asks. inl (record {
      file = a;
      is_file = told (g.A.Source.known c.args.media.now) some;
      bytes = b;
      is_bytes = due;
      signed = m;
      is_signed = due_too;
      others = o;
      is_others = due_last;
      asks = asks;
    }) in
    replies_to c.in-Ok.found command.EmbedCollect c.in-Ok.ensures c.in-EmbedCollect.is
    (record {
      reply =
          begins_filed (IsEmbedCollectOutcome g.H.Hashing.digest_of said a b m o) _ c.reply_to_embed_collect.result
          made.made.stands;
      file = made.made.takes;
      met = made.meets;
      asked = λ qs asks. c.reply_to_embed_collect.ensures.panel.asked qs (asked qs asks);
      unasked = λ none. c.reply_to_embed_collect.ensures.panel.unasked (asked [] none);
    })

-- the reply to words that fit no command is the usage line
pub returns-in-Err-Usage-clause-known : goal.returns-in-Err-Usage-clause-known
returns-in-Err-Usage-clause-known g c known =
    let fits = c.in-Err-Usage.ensures in
    replies_usage (rw c.in-Err-Usage.field-0-is at fits) refl c.usage_reply.ensures.reply c.usage_reply.ensures.memory

-- there is none where memory ran out before
pub returns-in-Err-NoMemory-clause-known : goal.returns-in-Err-NoMemory-clause-known
returns-in-Err-NoMemory-clause-known g c known = replies_memory refl

-- ---- whose fault it is

-- `digest`
pub returns-in-Digest-clause-cause : goal.returns-in-Digest-clause-cause
returns-in-Digest-clause-cause g c =
    caused_media c.reply_to_digest.result c.in-Ok.found command.Digest c.in-Ok.ensures c.in-Digest.is
    refl
    c.reply_to_digest.ensures.words c.reply_to_digest.ensures.media.cause

-- `list`
pub returns-in-List-clause-cause : goal.returns-in-List-clause-cause
returns-in-List-clause-cause g c =
    caused_media c.reply_to_list.result c.in-Ok.found command.List c.in-Ok.ensures c.in-List.is
    refl
    c.reply_to_list.ensures.words c.reply_to_list.ensures.media.cause

-- `show`
pub returns-in-Show-clause-cause : goal.returns-in-Show-clause-cause
returns-in-Show-clause-cause g c =
    caused_media c.reply_to_show.result c.in-Ok.found command.Show c.in-Ok.ensures c.in-Show.is
    refl
    c.reply_to_show.ensures.words c.reply_to_show.ensures.media.cause

-- `questions`
pub returns-in-Questions-clause-cause : goal.returns-in-Questions-clause-cause
returns-in-Questions-clause-cause g c =
    caused_panel c.reply_to_questions.result c.in-Ok.found command.Questions c.in-Ok.ensures c.in-Questions.is
    refl refl
    c.reply_to_questions.ensures.words c.reply_to_questions.ensures.media.cause c.reply_to_questions.ensures.panel.cause

-- `validate`
pub returns-in-Validate-clause-cause : goal.returns-in-Validate-clause-cause
returns-in-Validate-clause-cause g c =
    caused_panel c.reply_to_validate.result c.in-Ok.found command.Validate c.in-Ok.ensures c.in-Validate.is
    refl refl
    c.reply_to_validate.ensures.words c.reply_to_validate.ensures.media.cause c.reply_to_validate.ensures.panel.cause

-- `compare`
pub returns-in-Compare-clause-cause : goal.returns-in-Compare-clause-cause
returns-in-Compare-clause-cause g c =
    caused_compare c.reply_to_compare.result c.in-Ok.found command.Compare c.in-Ok.ensures c.in-Compare.is
    refl refl refl
    c.reply_to_compare.ensures.words c.reply_to_compare.ensures.media.cause
    c.reply_to_compare.ensures.report.writes.cause c.reply_to_compare.ensures.panel.cause

-- `plan`
pub returns-in-Plan-clause-cause : goal.returns-in-Plan-clause-cause
returns-in-Plan-clause-cause g c =
    caused_reading c.reply_to_plan.result c.in-Ok.found command.Plan c.in-Ok.ensures c.in-Plan.is
    refl refl refl
    c.reply_to_plan.ensures.words c.reply_to_plan.ensures.sources.media.cause c.reply_to_plan.ensures.panel.cause

-- `validate-external`
pub returns-in-ValidateExternal-clause-cause : goal.returns-in-ValidateExternal-clause-cause
returns-in-ValidateExternal-clause-cause g c =
    caused_reading c.reply_to_validate_external.result c.in-Ok.found command.ValidateExternal c.in-Ok.ensures c.in-ValidateExternal.is
    refl refl refl
    c.reply_to_validate_external.ensures.words c.reply_to_validate_external.ensures.media.cause
    c.reply_to_validate_external.ensures.panel.cause

-- `embed`
pub returns-in-Embed-clause-cause : goal.returns-in-Embed-clause-cause
returns-in-Embed-clause-cause g c =
    caused_embed c.reply_to_embed.result c.in-Ok.found command.Embed c.in-Ok.ensures c.in-Embed.is
    refl refl refl refl refl
    c.reply_to_embed.ensures.words c.reply_to_embed.ensures.sources.media.cause
    c.reply_to_embed.ensures.out.writes.cause c.reply_to_embed.ensures.panel.cause

-- `sample`
pub returns-in-Sample-clause-cause : goal.returns-in-Sample-clause-cause
returns-in-Sample-clause-cause g c =
    caused_sample c.reply_to_sample.result c.in-Ok.found command.Sample c.in-Ok.ensures c.in-Sample.is
    refl
    c.reply_to_sample.ensures.words c.reply_to_sample.ensures.fault c.reply_to_sample.ensures.panel.cause

-- `strip`
pub returns-in-Strip-clause-cause : goal.returns-in-Strip-clause-cause
returns-in-Strip-clause-cause g c =
    caused_copying c.reply_to_strip.result c.in-Ok.found command.Strip c.in-Ok.ensures c.in-Strip.is
    refl refl
    c.reply_to_strip.ensures.words c.reply_to_strip.ensures.media.cause c.reply_to_strip.ensures.writes.cause

-- `extract`
pub returns-in-Extract-clause-cause : goal.returns-in-Extract-clause-cause
returns-in-Extract-clause-cause g c =
    caused_copying c.reply_to_extract.result c.in-Ok.found command.Extract c.in-Ok.ensures c.in-Extract.is
    refl refl
    c.reply_to_extract.ensures.words c.reply_to_extract.ensures.media.cause c.reply_to_extract.ensures.writes.cause

-- `plan-front`
pub returns-in-PlanFront-clause-cause : goal.returns-in-PlanFront-clause-cause
returns-in-PlanFront-clause-cause g c =
    caused_sources c.reply_to_plan_front.result c.in-Ok.found command.PlanFront c.in-Ok.ensures c.in-PlanFront.is
    refl refl
    c.reply_to_plan_front.ensures.words c.reply_to_plan_front.ensures.sources.media.cause

-- `embed-front`
pub returns-in-EmbedFront-clause-cause : goal.returns-in-EmbedFront-clause-cause
returns-in-EmbedFront-clause-cause g c =
    caused_writing c.reply_to_embed_front.result c.in-Ok.found command.EmbedFront c.in-Ok.ensures c.in-EmbedFront.is
    refl refl refl refl
    c.reply_to_embed_front.ensures.words c.reply_to_embed_front.ensures.sources.media.cause
    c.reply_to_embed_front.ensures.out.writes.cause

-- `plan-collect`
pub returns-in-PlanCollect-clause-cause : goal.returns-in-PlanCollect-clause-cause
returns-in-PlanCollect-clause-cause g c =
    caused_collecting c.reply_to_plan_collect.result c.in-Ok.found command.PlanCollect c.in-Ok.ensures c.in-PlanCollect.is
    refl refl refl refl
    (built_words (IsRefusedBy ground_effects) tbs_outcome c.reply_to_plan_collect.result (λ bytes. refl) c.reply_to_plan_collect.ensures.within)
    c.reply_to_plan_collect.ensures.sources.media.cause c.reply_to_plan_collect.ensures.panel.cause

-- `embed-collect`
pub returns-in-EmbedCollect-clause-cause : goal.returns-in-EmbedCollect-clause-cause
returns-in-EmbedCollect-clause-cause g c =
    caused_collected c.reply_to_embed_collect.result c.in-Ok.found command.EmbedCollect c.in-Ok.ensures c.in-EmbedCollect.is
    refl refl refl refl refl refl
    (built_words (IsRefusedBy embed_effects) embedded_outcome c.reply_to_embed_collect.result (λ range. refl) c.reply_to_embed_collect.ensures.ends.within)
    c.reply_to_embed_collect.ensures.sources.media.cause c.reply_to_embed_collect.ensures.ends.out.writes.cause
    c.reply_to_embed_collect.ensures.panel.cause

-- words that fit no command
pub returns-in-Err-Usage-clause-cause : goal.returns-in-Err-Usage-clause-cause
returns-in-Err-Usage-clause-cause g c =
    let fits = c.in-Err-Usage.ensures in
    caused_usage c.usage_reply.result (rw c.in-Err-Usage.field-0-is at fits) c.usage_reply.ensures.memory

-- out of memory
pub returns-in-Err-NoMemory-clause-cause : goal.returns-in-Err-NoMemory-clause-cause
returns-in-Err-NoMemory-clause-cause g c = caused_memory

-- ---- what it doesn't use

-- `digest`
pub returns-in-Digest-clause-unused : goal.returns-in-Digest-clause-unused
returns-in-Digest-clause-unused g c =
    unused_by c.in-Ok.found command.Digest c.in-Ok.ensures c.in-Digest.is (inl refl)
    (record { second = λ un. refl; third = λ un. refl; fourth = λ un. refl; out = λ un. refl; judges = λ un. refl })

-- `list`
pub returns-in-List-clause-unused : goal.returns-in-List-clause-unused
returns-in-List-clause-unused g c =
    unused_by c.in-Ok.found command.List c.in-Ok.ensures c.in-List.is (inl refl)
    (record { second = λ un. refl; third = λ un. refl; fourth = λ un. refl; out = λ un. refl; judges = λ un. refl })

-- `show`
pub returns-in-Show-clause-unused : goal.returns-in-Show-clause-unused
returns-in-Show-clause-unused g c =
    unused_by c.in-Ok.found command.Show c.in-Ok.ensures c.in-Show.is (inl refl)
    (record { second = λ un. refl; third = λ un. refl; fourth = λ un. refl; out = λ un. refl; judges = λ un. refl })

-- `questions`
pub returns-in-Questions-clause-unused : goal.returns-in-Questions-clause-unused
returns-in-Questions-clause-unused g c =
    unused_by c.in-Ok.found command.Questions c.in-Ok.ensures c.in-Questions.is (inl refl)
    (record { second = λ un. refl; third = λ un. refl; fourth = λ un. refl; out = λ un. refl; judges = λ none. absurd (false≢true (sym none)) })

-- `validate`
pub returns-in-Validate-clause-unused : goal.returns-in-Validate-clause-unused
returns-in-Validate-clause-unused g c =
    unused_by c.in-Ok.found command.Validate c.in-Ok.ensures c.in-Validate.is (inl refl)
    (record { second = λ un. refl; third = λ un. refl; fourth = λ un. refl; out = λ un. refl; judges = λ none. absurd (false≢true (sym none)) })

-- `compare`
pub returns-in-Compare-clause-unused : goal.returns-in-Compare-clause-unused
returns-in-Compare-clause-unused g c =
    let said = panel_says (map (λ j. (goal.Judge-dyn g (j.vtable, j.value)).says j.value) c.args.judges.now.items) in
    unused_by c.in-Ok.found command.Compare c.in-Ok.ensures c.in-Compare.is (inl refl)
    (record { second = undue (left_where_known (IsNotAccepted g.H.Hashing.digest_of said) (g.A.Source.known c.args.media.now) _ c.reply_to_compare.ensures.not_due); third = λ un. refl; fourth = λ un. refl; out = λ un. refl; judges = λ none. absurd (false≢true (sym none)) })

-- `plan`
pub returns-in-Plan-clause-unused : goal.returns-in-Plan-clause-unused
returns-in-Plan-clause-unused g c =
    unused_by c.in-Ok.found command.Plan c.in-Ok.ensures c.in-Plan.is (inl refl)
    (record { second = undue (left_where_known IsMediaRefused (g.A.Source.known c.args.media.now) _ c.reply_to_plan.ensures.not_due); third = λ un. refl; fourth = λ un. refl; out = λ un. refl; judges = λ none. absurd (false≢true (sym none)) })

-- `validate-external`
pub returns-in-ValidateExternal-clause-unused : goal.returns-in-ValidateExternal-clause-unused
returns-in-ValidateExternal-clause-unused g c =
    unused_by c.in-Ok.found command.ValidateExternal c.in-Ok.ensures c.in-ValidateExternal.is (inl refl)
    (record { second = undue (left_where_known IsRefusedFile (g.A.Source.known c.args.media.now) _ c.reply_to_validate_external.ensures.not_due); third = λ un. refl; fourth = λ un. refl; out = λ un. refl; judges = λ none. absurd (false≢true (sym none)) })

-- `embed`
pub returns-in-Embed-clause-unused : goal.returns-in-Embed-clause-unused
returns-in-Embed-clause-unused g c =
    unused_by c.in-Ok.found command.Embed c.in-Ok.ensures c.in-Embed.is (inl refl)
    (record {
      second =
          undue
          (left_where_known IsMediaRefused (g.A.Source.known c.args.media.now) _ c.reply_to_embed.ensures.not_due.definition_unread);
      third = undue (message_left IsMediaRefused IsDefinitionRefused (g.A.Source.known c.args.media.now) (g.B.Source.known c.args.second.now) _
          c.reply_to_embed.ensures.not_due.message_unread_first c.reply_to_embed.ensures.not_due.message_unread);
      fourth = λ un. refl;
      out = λ none. absurd (false≢true (sym none));
      judges = λ none. absurd (false≢true (sym none));
    })

-- `sample`
pub returns-in-Sample-clause-unused : goal.returns-in-Sample-clause-unused
returns-in-Sample-clause-unused g c =
    unused_by c.in-Ok.found command.Sample c.in-Ok.ensures c.in-Sample.is (inr refl)
    (record { second = λ un. refl; third = λ un. refl; fourth = λ un. refl; out = λ un. refl; judges = λ none. absurd (false≢true (sym none)) })

-- `strip`
pub returns-in-Strip-clause-unused : goal.returns-in-Strip-clause-unused
returns-in-Strip-clause-unused g c =
    unused_by c.in-Ok.found command.Strip c.in-Ok.ensures c.in-Strip.is (inl refl)
    (record { second = λ un. refl; third = λ un. refl; fourth = λ un. refl; out = λ none. absurd (false≢true (sym none)); judges = λ un. refl })

-- `extract`
pub returns-in-Extract-clause-unused : goal.returns-in-Extract-clause-unused
returns-in-Extract-clause-unused g c =
    unused_by c.in-Ok.found command.Extract c.in-Ok.ensures c.in-Extract.is (inl refl)
    (record { second = λ un. refl; third = λ un. refl; fourth = λ un. refl; out = λ none. absurd (false≢true (sym none)); judges = λ un. refl })

-- `plan-front`
pub returns-in-PlanFront-clause-unused : goal.returns-in-PlanFront-clause-unused
returns-in-PlanFront-clause-unused g c =
    unused_by c.in-Ok.found command.PlanFront c.in-Ok.ensures c.in-PlanFront.is (inl refl)
    (record { second = undue (left_where_known IsMediaRefused (g.A.Source.known c.args.media.now) _ c.reply_to_plan_front.ensures.not_due); third = λ un. refl; fourth = λ un. refl; out = λ un. refl; judges = λ un. refl })

-- `embed-front`
pub returns-in-EmbedFront-clause-unused : goal.returns-in-EmbedFront-clause-unused
returns-in-EmbedFront-clause-unused g c =
    unused_by c.in-Ok.found command.EmbedFront c.in-Ok.ensures c.in-EmbedFront.is (inl refl)
    (record {
      second =
          undue
          (left_where_known IsMediaRefused (g.A.Source.known c.args.media.now) _ c.reply_to_embed_front.ensures.not_due.definition_unread);
      third = undue (message_left IsMediaRefused IsDefinitionRefused (g.A.Source.known c.args.media.now) (g.B.Source.known c.args.second.now) _
          c.reply_to_embed_front.ensures.not_due.message_unread_first c.reply_to_embed_front.ensures.not_due.message_unread);
      fourth = λ un. refl;
      out = λ none. absurd (false≢true (sym none));
      judges = λ un. refl;
    })

-- `plan-collect`
pub returns-in-PlanCollect-clause-unused : goal.returns-in-PlanCollect-clause-unused
returns-in-PlanCollect-clause-unused g c =
    let said = panel_says (map (λ j. (goal.Judge-dyn g (j.vtable, j.value)).says j.value) c.args.judges.now.items) in
    unused_by c.in-Ok.found command.PlanCollect c.in-Ok.ensures c.in-PlanCollect.is (inl refl)
    (record {
      second =
          undue
          (left_where_known IsMediaRefused (g.A.Source.known c.args.media.now) _ c.reply_to_plan_collect.ensures.not_due.definition_unread);
      third = λ un. refl;
      fourth = undue (message_left (collect.IsNotAccepted g.H.Hashing.digest_of said) IsDefinitionRefused (g.A.Source.known c.args.media.now) (g.B.Source.known c.args.second.now) _
          c.reply_to_plan_collect.ensures.not_due.other_unread_first c.reply_to_plan_collect.ensures.not_due.other_unread);
      out = λ un. refl;
      judges = λ none. absurd (false≢true (sym none));
    })

-- `embed-collect`
pub returns-in-EmbedCollect-clause-unused : goal.returns-in-EmbedCollect-clause-unused
returns-in-EmbedCollect-clause-unused g c =
    let said = panel_says (map (λ j. (goal.Judge-dyn g (j.vtable, j.value)).says j.value) c.args.judges.now.items) in
    unused_by c.in-Ok.found command.EmbedCollect c.in-Ok.ensures c.in-EmbedCollect.is (inl refl)
    (record {
      second =
          undue
          (left_where_known IsMediaRefused (g.A.Source.known c.args.media.now) _ c.reply_to_embed_collect.ensures.not_due.inputs.definition_unread);
      third = undue (message_left IsMediaRefused IsDefinitionRefused (g.A.Source.known c.args.media.now) (g.B.Source.known c.args.second.now) _
          c.reply_to_embed_collect.ensures.not_due.inputs.message_unread_first c.reply_to_embed_collect.ensures.not_due.inputs.message_unread);
      fourth = undue (other_left (collect.IsNotAccepted g.H.Hashing.digest_of said) IsDefinitionRefused (g.A.Source.known c.args.media.now) (g.B.Source.known c.args.second.now)
          (g.C.Source.known c.args.third.now) _ c.reply_to_embed_collect.ensures.not_due.other_unread_first
          c.reply_to_embed_collect.ensures.not_due.other_unread_then c.reply_to_embed_collect.ensures.not_due.other_unread);
      out = λ none. absurd (false≢true (sym none));
      judges = λ none. absurd (false≢true (sym none));
    })

-- words that fit no command
pub returns-in-Err-Usage-clause-unused : goal.returns-in-Err-Usage-clause-unused
returns-in-Err-Usage-clause-unused g c = unused_idle refl refl refl refl refl refl

-- out of memory
pub returns-in-Err-NoMemory-clause-unused : goal.returns-in-Err-NoMemory-clause-unused
returns-in-Err-NoMemory-clause-unused g c = unused_idle refl refl refl refl refl refl

-- ---- what is left of each object

-- by `digest`
pub returns-in-Digest-clause-leaves : goal.returns-in-Digest-clause-leaves
returns-in-Digest-clause-leaves g c = record {
  sources = read_media c.reply_to_digest.ensures.media;
  out = idle_out _ _ _ _ _ _ (unnamed_by is_out _ c.in-Ok.found command.Digest c.in-Ok.ensures c.in-Digest.is refl);
  report = idle_report _ _ _ _ _ _;
  judges = idle_panel _ _;
}

-- by `list`
pub returns-in-List-clause-leaves : goal.returns-in-List-clause-leaves
returns-in-List-clause-leaves g c = record {
  sources = read_media c.reply_to_list.ensures.media;
  out = idle_out _ _ _ _ _ _ (unnamed_by is_out _ c.in-Ok.found command.List c.in-Ok.ensures c.in-List.is refl);
  report = idle_report _ _ _ _ _ _;
  judges = idle_panel _ _;
}

-- by `show`
pub returns-in-Show-clause-leaves : goal.returns-in-Show-clause-leaves
returns-in-Show-clause-leaves g c = record {
  sources = read_media c.reply_to_show.ensures.media;
  out = idle_out _ _ _ _ _ _ (unnamed_by is_out _ c.in-Ok.found command.Show c.in-Ok.ensures c.in-Show.is refl);
  report = idle_report _ _ _ _ _ _;
  judges = idle_panel _ _;
}

-- by `questions`
pub returns-in-Questions-clause-leaves : goal.returns-in-Questions-clause-leaves
returns-in-Questions-clause-leaves g c = record {
  sources = read_media c.reply_to_questions.ensures.media;
  out =
      idle_out _ _ _ _ _ _ (unnamed_by is_out _ c.in-Ok.found command.Questions c.in-Ok.ensures c.in-Questions.is refl);
  report = idle_report _ _ _ _ _ _;
  judges = c.reply_to_questions.ensures.panel.stays;
}

-- by `validate`
pub returns-in-Validate-clause-leaves : goal.returns-in-Validate-clause-leaves
returns-in-Validate-clause-leaves g c = record {
  sources = read_media c.reply_to_validate.ensures.media;
  out =
      idle_out _ _ _ _ _ _ (unnamed_by is_out _ c.in-Ok.found command.Validate c.in-Ok.ensures c.in-Validate.is refl);
  report = idle_report _ _ _ _ _ _;
  judges = c.reply_to_validate.ensures.panel.stays;
}

-- by `compare`
pub returns-in-Compare-clause-leaves : goal.returns-in-Compare-clause-leaves
returns-in-Compare-clause-leaves g c = record {
  sources = read_two c.reply_to_compare.ensures.media c.reply_to_compare.ensures.second;
  out =
      idle_out _ _ _ _ _ _ (unnamed_by is_out _ c.in-Ok.found command.Compare c.in-Ok.ensures c.in-Compare.is refl);
  report = begun_report _ _ _ _ _ _ _ c.reply_to_compare.result c.reply_to_compare.ensures.report.writes
      c.reply_to_compare.ensures.report.judged
      (early_by _ c.in-Ok.found command.Compare c.in-Ok.ensures c.in-Compare.is refl);
  judges = c.reply_to_compare.ensures.panel.stays;
}

-- by `plan`
pub returns-in-Plan-clause-leaves : goal.returns-in-Plan-clause-leaves
returns-in-Plan-clause-leaves g c = record {
  sources = read_two c.reply_to_plan.ensures.sources.media c.reply_to_plan.ensures.sources.definition;
  out = idle_out _ _ _ _ _ _ (unnamed_by is_out _ c.in-Ok.found command.Plan c.in-Ok.ensures c.in-Plan.is refl);
  report = idle_report _ _ _ _ _ _;
  judges = c.reply_to_plan.ensures.panel.stays;
}

-- by `validate-external`
pub returns-in-ValidateExternal-clause-leaves : goal.returns-in-ValidateExternal-clause-leaves
returns-in-ValidateExternal-clause-leaves g c = record {
  sources = read_two c.reply_to_validate_external.ensures.media c.reply_to_validate_external.ensures.second;
  out =
      idle_out _ _ _ _ _ _ (unnamed_by is_out _ c.in-Ok.found command.ValidateExternal c.in-Ok.ensures c.in-ValidateExternal.is refl);
  report = idle_report _ _ _ _ _ _;
  judges = c.reply_to_validate_external.ensures.panel.stays;
}

-- by `embed`
pub returns-in-Embed-clause-leaves : goal.returns-in-Embed-clause-leaves
returns-in-Embed-clause-leaves g c = record {
  sources = read_three c.reply_to_embed.ensures.sources.media c.reply_to_embed.ensures.sources.definition
      c.reply_to_embed.ensures.sources.message;
  out = written_out c.reply_to_embed.ensures.out.writes c.reply_to_embed.ensures.out.ends;
  report = idle_report _ _ _ _ _ _;
  judges = c.reply_to_embed.ensures.panel.stays;
}

-- by `sample`
pub returns-in-Sample-clause-leaves : goal.returns-in-Sample-clause-leaves
returns-in-Sample-clause-leaves g c = record {
  sources = read_none;
  out = idle_out _ _ _ _ _ _ (unnamed_by is_out _ c.in-Ok.found command.Sample c.in-Ok.ensures c.in-Sample.is refl);
  report = idle_report _ _ _ _ _ _;
  judges = c.reply_to_sample.ensures.panel.stays;
}

-- by `strip`
pub returns-in-Strip-clause-leaves : goal.returns-in-Strip-clause-leaves
returns-in-Strip-clause-leaves g c = record {
  sources = read_media c.reply_to_strip.ensures.media;
  out = written_out c.reply_to_strip.ensures.writes c.reply_to_strip.ensures.ends;
  report = idle_report _ _ _ _ _ _;
  judges = idle_panel _ _;
}

-- by `extract`
pub returns-in-Extract-clause-leaves : goal.returns-in-Extract-clause-leaves
returns-in-Extract-clause-leaves g c = record {
  sources = read_media c.reply_to_extract.ensures.media;
  out = written_out c.reply_to_extract.ensures.writes c.reply_to_extract.ensures.ends;
  report = idle_report _ _ _ _ _ _;
  judges = idle_panel _ _;
}

-- by `plan-front`
pub returns-in-PlanFront-clause-leaves : goal.returns-in-PlanFront-clause-leaves
returns-in-PlanFront-clause-leaves g c = record {
  sources = read_two c.reply_to_plan_front.ensures.sources.media c.reply_to_plan_front.ensures.sources.definition;
  out =
      idle_out _ _ _ _ _ _ (unnamed_by is_out _ c.in-Ok.found command.PlanFront c.in-Ok.ensures c.in-PlanFront.is refl);
  report = idle_report _ _ _ _ _ _;
  judges = idle_panel _ _;
}

-- by `embed-front`
pub returns-in-EmbedFront-clause-leaves : goal.returns-in-EmbedFront-clause-leaves
returns-in-EmbedFront-clause-leaves g c = record {
  sources =
      read_three c.reply_to_embed_front.ensures.sources.media c.reply_to_embed_front.ensures.sources.definition
      c.reply_to_embed_front.ensures.sources.message;
  out = written_out c.reply_to_embed_front.ensures.out.writes c.reply_to_embed_front.ensures.out.ends;
  report = idle_report _ _ _ _ _ _;
  judges = idle_panel _ _;
}

-- by `plan-collect`
pub returns-in-PlanCollect-clause-leaves : goal.returns-in-PlanCollect-clause-leaves
returns-in-PlanCollect-clause-leaves g c = record {
  sources =
      read_pair c.reply_to_plan_collect.ensures.sources.media c.reply_to_plan_collect.ensures.sources.definition
      c.reply_to_plan_collect.ensures.sources.other;
  out =
      idle_out _ _ _ _ _ _ (unnamed_by is_out _ c.in-Ok.found command.PlanCollect c.in-Ok.ensures c.in-PlanCollect.is refl);
  report = idle_report _ _ _ _ _ _;
  judges = c.reply_to_plan_collect.ensures.panel.stays;
}

-- by `embed-collect`
pub returns-in-EmbedCollect-clause-leaves : goal.returns-in-EmbedCollect-clause-leaves
returns-in-EmbedCollect-clause-leaves g c = record {
  sources =
      read_all c.reply_to_embed_collect.ensures.sources.media c.reply_to_embed_collect.ensures.sources.definition
      c.reply_to_embed_collect.ensures.sources.message c.reply_to_embed_collect.ensures.sources.other;
  out = written_out c.reply_to_embed_collect.ensures.ends.out.writes c.reply_to_embed_collect.ensures.ends.out.ends;
  report = idle_report _ _ _ _ _ _;
  judges = c.reply_to_embed_collect.ensures.panel.stays;
}

-- by words that fit no command
pub returns-in-Err-Usage-clause-leaves : goal.returns-in-Err-Usage-clause-leaves
returns-in-Err-Usage-clause-leaves g c =
    let fits = c.in-Err-Usage.ensures in
    record {
      sources = read_none;
      out = idle_out _ _ _ _ _ _ (ap (names is_out) (rw c.in-Err-Usage.field-0-is at fits));
      report = idle_report _ _ _ _ _ _;
      judges = idle_panel _ _;
    }

-- where memory ran out before
pub returns-in-Err-NoMemory-clause-leaves : goal.returns-in-Err-NoMemory-clause-leaves
returns-in-Err-NoMemory-clause-leaves g c = record {
  sources = read_none;
  out = idle_memory _ _ _ _ _;
  report = idle_report _ _ _ _ _ _;
  judges = idle_panel _ _;
}
