-- Where no refusal has its condition, each stage comes to a value, and so do a plan and a build.
use Rattle.std.proofs.Common.{◌≡◌, ℕ, List, [], ◌++◌, subst}
use Rattle.std.specs.Prelude.{Ok}
use Rattle.c2_base.specs.declared.values.Question.{Question}
use Rattle.c2_spec.specs.Jumbf.Tree.{Tree}
use Rattle.c2_spec.specs.Located.{Opening}
use Rattle.c2_spec.specs.declared.digest.Alg.{Alg}
use Rattle.c2_spec.specs.declared.panel.Verdict.{Verdict}
use Rattle.c2_rules.specs.Opened.{IsOpened}
use Rattle.c2_definition.specs.DefinitionFile.{IsDefinition}
use Rattle.c2_definition.specs.declared.types.Definition.{Definition}
use Rattle.c2_collect_spec.specs.Made.{IsCollectPlanUnrefused, IsCollectUnrefused, UnrefusedIsCollectMade, UnrefusedIsCollectPlanned}
use Rattle.c2_collect_spec.specs.Order.{FilePair, IsFilePair, MediaFile, OtherFile}
use Rattle.c2_collect_spec.specs.Order.{bad_definition, bad_signature, joined_refusals, media_refused, other_refusals, parent_refusals, reserve_refusals}
use Rattle.c2_collect_spec.specs.Outcomes.{CollectGround, IsCollectMade, IsCollectPlanned, IsDefinitionStage, IsGroundStage, IsJoinedStage, IsMadeOn, IsMadeOver, IsMediaStage}
use Rattle.c2_new_signature.specs.Message.{IsMessageRead}
use Rattle.c2_collect_spec.specs.Outcomes.{IsMessageStage, IsNewFile, IsOtherStage, IsPairStage, IsParentStage, IsPlannedOn, IsPlannedOver}
use Rattle.c2_collect_spec.specs.Outcomes.{ground_refusals, ground_signed, pair_of}
use Rattle.c2_lemmas.proofs.Stages.{NeverRefuses, comes_out, stage_never, stage_value, then_never, unless_never, value_never}
use Rattle.c2_lemmas.proofs.Lists.{none_both}
use Rattle.c2_spec.proofs.Openings.{opening_never}
use Rattle.c2_collect_spec.proofs.SomeOutcome.{IsMediaPassed, IsOtherPassed, defined_of, media_passed, opened_as, other_passed, pair_passed, some_file, some_plan}

-- ---- both files

-- the media's store
parent_never : (hash : Alg → List ℕ → List ℕ) (said : Question → Verdict) (media definition other : List ℕ) (what : Opening Tree)
    → IsCollectPlanUnrefused hash said media definition other → IsMediaStage media (Ok what)
    → NeverRefuses (IsParentStage hash said media what)
parent_never hash said media definition other what h is_media e k =
    unless_never (parent_refusals k.0) (λ s. s ≡ Ok k.0) (h.parent_passes what k.0 (opened_as media what is_media) k.1)
    (value_never k.0) e k.2

-- the other file is never refused where nothing is refused of the inputs
other_never : (hash : Alg → List ℕ → List ℕ) (said : Question → Verdict) (media definition other : List ℕ)
    → IsCollectPlanUnrefused hash said media definition other → NeverRefuses (IsOtherStage hash said other)
other_never hash said media definition other h e k =
    unless_never (other_refusals k.2.0.answer) (λ s. s ≡ Ok k.2.0) (h.other_passes k.0 k.2.0 k.1 k.2.1)
    (value_never k.2.0) e k.2.2

-- both stores together are never refused where nothing is refused of the inputs
joined_never : (hash : Alg → List ℕ → List ℕ) (said : Question → Verdict) (media definition other : List ℕ) (what : Opening Tree) (d : Definition) (m : MediaFile) (o : OtherFile)
    → IsCollectPlanUnrefused hash said media definition other → IsMediaStage media (Ok what)
    → IsDefinition definition (Ok d)
    → IsMediaPassed hash said media what m → IsOtherPassed hash said other o → NeverRefuses (IsJoinedStage d m o)
joined_never hash said media definition other what d m o h is_media defined own theirs e k =
    let pair : IsFilePair hash said media other (pair_of m o k.0) = record {
      opened = what;
      is_opened = opened_as media what is_media;
      is_media = own.is;
      found = theirs.found;
      is_found = theirs.opened;
      is_other = theirs.is;
      is_clash = k.1;
    } in
    unless_never (joined_refusals d (pair_of m o k.0)) (λ s. s ≡ Ok (pair_of m o k.0))
    (h.joined_passes d (pair_of m o k.0) defined pair) (value_never (pair_of m o k.0)) e k.2

-- both files are never refused where nothing is refused of their inputs
pair_never : (hash : Alg → List ℕ → List ℕ) (said : Question → Verdict) (media definition other : List ℕ) (what : Opening Tree) (d : Definition)
    → IsCollectPlanUnrefused hash said media definition other → IsMediaStage media (Ok what)
    → IsDefinition definition (Ok d)
    → NeverRefuses (IsPairStage hash said media other what d)
pair_never hash said media definition other what d h is_media defined =
    then_never (IsParentStage hash said media what) _ (parent_never hash said media definition other what h is_media) (λ m is_m.
    then_never (IsOtherStage hash said other) (IsJoinedStage d m) (other_never hash said media definition other h) (λ o is_o.
    joined_never hash said media definition other what d m o h is_media defined (media_passed hash said media what m is_m) (other_passed hash said other o is_o)))

-- ---- what is built

-- what a new file is built of
ground_never : (d : Definition) (p : FilePair) → NeverRefuses (IsGroundStage d p)
ground_never d p e h = cc (h.2.2)

-- what a new file is built of is of both files
ground_pair : (d : Definition) (p : FilePair) (g : CollectGround) → IsGroundStage d p (Ok g) → p ≡ g.pair
ground_pair d p g h = let e = h.2.2 in cc (e)

-- nothing is refused of a new file
file_none : (hash : Alg → List ℕ → List ℕ) (said : Question → Verdict) (media definition other : List ℕ) (what : Opening Tree) (d : Definition) (p : FilePair) (g : CollectGround)
    → IsCollectPlanUnrefused hash said media definition other → IsMediaStage media (Ok what)
    → IsDefinition definition (Ok d)
    → IsPairStage hash said media other what d (Ok p) → IsGroundStage d p (Ok g) → ground_refusals d g ≡ []
file_none hash said media definition other what d p g h is_media defined is_p is_g =
    let same : p ≡ g.pair = ground_pair d p g is_g in
    h.file_passes d g defined
    (subst (IsFilePair hash said media other) same (pair_passed hash said media other what d p is_media is_p).is_pair)
    (subst (λ (q : FilePair). IsGroundStage d q (Ok g)) same is_g)

-- ---- both calls

-- a plan
plan_never : (hash : Alg → List ℕ → List ℕ) (said : Question → Verdict) (media definition other : List ℕ)
    → IsCollectPlanUnrefused hash said media definition other
    → NeverRefuses (IsCollectPlanned hash said media definition other)
plan_never hash said media definition other h =
    then_never (IsMediaStage media) _ (opening_never media_refused (IsOpened media) h.media_passes) (λ what is_media.
    then_never (IsDefinitionStage definition) _
    (stage_never bad_definition (IsDefinition definition) h.definition_passes) (λ d is_d.
    let defined = defined_of definition d is_d in
    then_never (IsPairStage hash said media other what d) (IsPlannedOver hash d) (pair_never hash said media definition other what d h is_media defined) (λ p is_p.
    then_never (IsGroundStage d p) (IsPlannedOn hash d) (ground_never d p) (λ g is_g.
    unless_never (ground_refusals d g) (λ r. r ≡ Ok (ground_signed hash d g))
    (file_none hash said media definition other what d p g h is_media defined is_p is_g) (value_never (ground_signed hash d g))))))

-- a new file is never refused where nothing is refused of its inputs
made_never : (hash : Alg → List ℕ → List ℕ) (said : Question → Verdict) (media definition message other : List ℕ)
    → IsCollectUnrefused hash said media definition message other
    → NeverRefuses (IsCollectMade hash said media definition message other)
made_never hash said media definition message other h =
    then_never (IsMediaStage media) _ (opening_never media_refused (IsOpened media) h.plan.media_passes)
    (λ what is_media.
    then_never (IsDefinitionStage definition) _
    (stage_never bad_definition (IsDefinition definition) h.plan.definition_passes) (λ d is_d.
    let defined = defined_of definition d is_d in
    then_never (IsMessageStage d.protected message) _
    (stage_never bad_signature (IsMessageRead d.protected message) (λ test. h.message_passes d test defined))
    (λ parts is_parts.
    then_never (IsPairStage hash said media other what d) (IsMadeOver hash d parts) (pair_never hash said media definition other what d h.plan is_media defined) (λ p is_p.
    then_never (IsGroundStage d p) (IsMadeOn hash d parts) (ground_never d p) (λ g is_g.
    let ground = file_none hash said media definition other what d p g h.plan is_media defined is_p is_g in
    let reserve = h.reserve_passes d parts defined
    (stage_value bad_signature (IsMessageRead d.protected message) parts is_parts).1 in
    unless_never (ground_refusals d g ++ reserve_refusals d parts) (IsNewFile hash d parts g)
    (none_both (ground_refusals d g) (reserve_refusals d parts) ground reserve) (λ e k. cc (k.2.2)))))))

-- where nothing is refused, bytes are planned
pub unrefused_plan : UnrefusedIsCollectPlanned
unrefused_plan hash said media definition other own theirs h =
    let r = some_plan hash said media definition other own theirs in
    comes_out (IsCollectPlanned hash said media definition other) r.0 r.1
    (plan_never hash said media definition other h)

-- where nothing is refused, a new file is made
pub unrefused_made : UnrefusedIsCollectMade
unrefused_made hash said media definition message other own theirs are h =
    let r = some_file hash said media definition message other own theirs are in
    comes_out (IsCollectMade hash said media definition message other) r.0 r.1
    (made_never hash said media definition message other h)
