-- Two files whose checks answer something come to some plan and to some new file, or to what refuses them.
use Rattle.c2_collect_spec.proofs.Contents.{some_collects}
use Rattle.c2_definition.proofs.TheLaws.{definitions_are_well_formed, each_definition_is_read_one_way_some}
use Rattle.c2_new_signature.proofs.TheLaws.{a_message_fills_its_reserve_or_needs_more, accepted_paddable, some_message_read}
use Rattle.c2_new_file_spec.proofs.FileLaws.{each_media_has_a_place_fresh, each_media_has_a_place_left, each_media_has_a_place_place}
use Rattle.c2_lemmas.proofs.Options.{listed_some}
use Rattle.c2_lemmas.proofs.Stages.{Something, passed, some_stage, some_then, some_unless, stage_value, unless_passed}
use Rattle.c2_lemmas.proofs.Lists.{both_none, none_both}
use Rattle.c2_spec.proofs.Openings.{opening_value}
use Rattle.std.proofs.Common.{◌≡◌, ◌⊎◌, inl, inr, ℕ, ◌+◌, List, [], ◌++◌, length, Option, None, refl, sym, subst}
use Rattle.std.specs.Prelude.{Result, Ok}
use Rattle.c2_base.specs.declared.values.Question.{Question}
use Rattle.c2_spec.specs.C2pa.Message.{bare_bytes}
use Rattle.c2_spec.specs.C2pa.Sign1.{SignParts}
use Rattle.c2_spec.specs.Jumbf.Tree as jumbf
use Rattle.c2_spec.specs.Jumbf.Tree.{Tree, tree_bytes}
use Rattle.c2_spec.specs.Located.{Opening, absent, here, refused}
use Rattle.c2_spec.specs.declared.digest.Alg.{Alg}
use Rattle.c2_spec.specs.declared.panel.Verdict.{Verdict}
use Rattle.c2_spec.specs.declared.reason.Reason.{Reason}
use Rattle.c2_rules.specs.Chains.{is_reached}
use Rattle.c2_rules.specs.CheckList.{check_list, store_answer}
use Rattle.c2_rules.specs.Opened.{IsOpened}
use Rattle.c2_rules.specs.Tests.{first_failing}
use Rattle.c2_rules.specs.Validated.{IsOpenedAnswer}
use Rattle.c2_rules.specs.declared.answer.Answer.TheVariants as answers
use Rattle.c2_definition.specs.DefinitionFile.{IsDefinition, IsWellFormed}
use Rattle.c2_definition.specs.declared.types.Definition.{Definition}
use Rattle.c2_new_signature.specs.Refusals.{reserve_needed}
use Rattle.c2_new_signature.specs.Signed.{IsSigned, NeedsMore}
use Rattle.c2_new_file_spec.specs.Manifests.{supers_in}
use Rattle.c2_new_file_spec.specs.Store.{new_alg}
use Rattle.c2_new_file_spec.specs.Redacting.{boxes_in}
use Rattle.c2_new_file_spec.specs.Places.{HasRoom, IsFreePlace, Place, place_store}
use Rattle.c2_collect_spec.specs.Order.{CollectRefusal, FilePair, IsFilePair, IsMediaFile, IsOtherFile, IsValidAnswer, MediaFile, OtherFile}
use Rattle.c2_collect_spec.specs.Order.{bad_definition, bad_signature, joined_refusals, media_refused, other_refusals, pair_readings, pair_refusals, parent_refusals, reserve_refusals, reserve_too_small}
use Rattle.c2_collect_spec.specs.Outcomes.{CollectGround, HasCheck, IsDefinitionStage, IsGroundStage, IsJoinedStage, IsMadeOn, IsMadeOver, IsMediaStage, IsMessageStage}
use Rattle.c2_new_signature.specs.Message.{IsMessageRead}
use Rattle.c2_collect_spec.specs.Outcomes.{IsNewFile, IsOtherStage, IsPairStage, IsParentStage, IsPlannedOn, IsPlannedOver, SomeCollectMade, SomeCollectPlan, ground_signed}
use Rattle.c2_collect_spec.specs.Outcomes.{definition_stage, ground_refusals, media_stage, message_stage, new_file, pair_of}
use Rattle.c2_collect_spec.proofs.Clashes.{some_clash}
use Rattle.c2_collect_spec.proofs.Order.{file_fits, other_store, pair_collects, some_bytes, valid_answer}

-- ---- the media

-- a media file whose check answers something comes to something
some_media : (hash : Alg → List ℕ → List ℕ) (said : Question → Verdict) (media : List ℕ) → HasCheck hash said media
    → Something (IsMediaStage media)
some_media hash said media c = (media_stage c.is.0, (c.is.0, c.is.1, refl))

-- equal answers have equal values
same_value : (v w : Opening Tree) → ◌≡◌ {A = Result (Opening Tree) CollectRefusal} (Ok v) (Ok w) → w ≡ v
same_value v w e = cc (e)

-- a media file that passed is opened so
pub opened_as : (media : List ℕ) (what : Opening Tree) → IsMediaStage media (Ok what) → IsOpened media what
opened_as media what m = opening_value media_refused (IsOpened media) what m

-- a refused file didn't pass
refused_not : (media : List ℕ) (reason : Reason) (number : ℕ) {P : Type 0}
    → IsMediaStage media (Ok (refused reason number)) → P
refused_not media reason number {P} m = absurd (by m.0 m.2)
  where
    by : (w : Opening Tree)
        → ◌≡◌ {A = Result (Opening Tree) CollectRefusal} (Ok (refused reason number)) (media_stage w) → ⊥
    by (refused a n) e = cc (e)
    by absent e = let bad = same_value (refused reason number) absent e in cc (bad)
    by (here start len t) e = let bad = same_value (refused reason number) (here start len t) e in cc (bad)

-- what the check of a file that is opened so answers
pub answer_over :
    (hash : Alg → List ℕ → List ℕ) (said : Question → Verdict) (file : List ℕ) (what : Opening Tree)
    (c : HasCheck hash said file)
    → IsOpened file what
    → IsOpenedAnswer hash said file what c.answer
answer_over hash said file what c opened =
    subst (λ (w : Opening Tree). IsOpenedAnswer hash said file w c.answer) (c.once c.is.0 what c.is.1 opened) c.is.2

-- a media file that passed is something to a new store
some_media_file :
    (hash : Alg → List ℕ → List ℕ) (said : Question → Verdict) (media : List ℕ) (what : Opening Tree)
    → HasCheck hash said media → IsMediaStage media (Ok what)
    → (m : MediaFile) × IsMediaFile hash said media what m
some_media_file hash said media (refused reason number) c m = refused_not media reason number m
some_media_file hash said media absent c m =
    (record { boxes = jumbf.none; readings = []; failing = None; base = media }, refl)
some_media_file hash said media (here start len t) c m =
    let opened : IsOpened media (here start len t) = opened_as media (here start len t) m in
    let reads = answer_over hash said media (here start len t) c opened in
    let left = each_media_has_a_place_left media start len t opened in (
      record { boxes = boxes_in t; readings = reads.0.readings; failing = first_failing (check_list hash said reads.0); base = left.0 },
      record { reading = reads.0; reads = reads.1; boxes = refl; readings = refl; failing = refl; left = left.1 },
    )

-- what is left of it has a free place
pub free_place :
    (hash : Alg → List ℕ → List ℕ) (said : Question → Verdict) (media : List ℕ) (what : Opening Tree) (m : MediaFile)
    → IsOpened media what
    → IsMediaFile hash said media what m → (p : Place) × IsFreePlace m.base p
free_place hash said media (refused reason number) m opened is = absurd is
free_place hash said media absent m opened is =
    subst (λ (x : MediaFile). (p : Place) × IsFreePlace x.base p) (sym is) (each_media_has_a_place_fresh media opened)
free_place hash said media (here start len t) m opened is =
    each_media_has_a_place_place media start len t m.base opened is.left

-- ---- the other file

-- what another file is to a new store, once it is opened so
some_other_file : (hash : Alg → List ℕ → List ℕ) (said : Question → Verdict) (other : List ℕ) (found : Opening Tree)
    → HasCheck hash said other → IsOpened other found
    → (o : OtherFile) × IsOtherFile hash said other found o
some_other_file hash said other (refused reason number) c opened =
    (record { answer = answers.Refused reason number; boxes = jumbf.none; readings = [] }, refl)
some_other_file hash said other absent c opened =
    (record { answer = answers.NoStore; boxes = jumbf.none; readings = [] }, refl)
some_other_file hash said other (here start len t) c opened =
    let reads = answer_over hash said other (here start len t) c opened in (
      record { answer = store_answer hash said (length other) start len reads.0; boxes = boxes_in t; readings = reads.0.readings },
      record { reading = reads.0; reads = reads.1; answer = refl; boxes = refl; readings = refl },
    )

-- ---- both files

-- What is known of another file that passed.
pub record IsOtherPassed (hash : Alg → List ℕ → List ℕ) (said : Question → Verdict) (other : List ℕ) (o : OtherFile) : Type 0 where
  pub found : Opening Tree
  pub opened : IsOpened other found
  pub is : IsOtherFile hash said other found o
  pub valid : IsValidAnswer o.answer
  pub none : other_refusals o.answer ≡ []

-- this much is known of another file that passed
pub other_passed : (hash : Alg → List ℕ → List ℕ) (said : Question → Verdict) (other : List ℕ) (o : OtherFile)
    → IsOtherStage hash said other (Ok o) → IsOtherPassed hash said other o
other_passed hash said other o h =
    let p = unless_passed (other_refusals h.2.0.answer) (λ s. s ≡ Ok h.2.0) o h.2.2 in
    let same : h.2.0 ≡ o = cc (p.1) in
    let none : other_refusals o.answer ≡ [] = subst (λ (x : OtherFile). other_refusals x.answer ≡ []) same p.0 in
    record
    { found = h.0; opened = h.1; is = subst (IsOtherFile hash said other h.0) same h.2.1; valid = valid_answer o.answer none; none = none }

-- What is known of a media file that passed.
pub record IsMediaPassed (hash : Alg → List ℕ → List ℕ) (said : Question → Verdict) (media : List ℕ) (what : Opening Tree) (m : MediaFile) : Type 0 where
  pub is : IsMediaFile hash said media what m
  pub none : parent_refusals m ≡ []

-- this much is known of a media file that passed
pub media_passed :
    (hash : Alg → List ℕ → List ℕ) (said : Question → Verdict) (media : List ℕ) (what : Opening Tree) (m : MediaFile)
    → IsParentStage hash said media what (Ok m) → IsMediaPassed hash said media what m
media_passed hash said media what m h =
    let p = unless_passed (parent_refusals h.0) (λ s. s ≡ Ok h.0) m h.2 in
    let same : h.0 ≡ m = cc (p.1) in
    record
    { is = subst (IsMediaFile hash said media what) same h.1; none = subst (λ (x : MediaFile). parent_refusals x ≡ []) same p.0 }

-- both files have an outcome
some_pair : (hash : Alg → List ℕ → List ℕ) (said : Question → Verdict) (media other : List ℕ) (what : Opening Tree) (d : Definition)
    → HasCheck hash said media → HasCheck hash said other → IsMediaStage media (Ok what)
    → Something (IsPairStage hash said media other what d)
some_pair hash said media other what d own theirs is_media =
    some_then (IsParentStage hash said media what) _ parent (λ m is_m.
    some_then (IsOtherStage hash said other) (IsJoinedStage d m) found (λ o is_o. joined m o (other_passed hash said other o is_o)))
  where
    parent : Something (IsParentStage hash said media what)
    parent =
        let m = some_media_file hash said media what own is_media in
        let r = some_unless (parent_refusals m.0) (λ s. s ≡ Ok m.0) (λ none. (Ok m.0, refl)) in
        (r.0, (m.0, m.1, r.1))

    found : Something (IsOtherStage hash said other)
    found =
        let o = some_other_file hash said other theirs.is.0 theirs theirs.is.1 in
        let r = some_unless (other_refusals o.0.answer) (λ s. s ≡ Ok o.0) (λ none. (Ok o.0, refl)) in
        (r.0, (theirs.is.0, theirs.is.1, (o.0, o.1, r.1)))

    joined : (m : MediaFile) (o : OtherFile) → IsOtherPassed hash said other o → Something (IsJoinedStage d m o)
    joined m o p =
        let store =
        other_store hash said other p.found o p.opened p.is p.valid in
        let clash =
        some_clash (supers_in m.boxes) (is_reached m.readings) (supers_in o.boxes) (is_reached o.readings)
        store.rooted.stores in
        let r =
        some_unless (joined_refusals d (pair_of m o clash.0)) (λ s. s ≡ Ok (pair_of m o clash.0))
        (λ none. (Ok (pair_of m o clash.0), refl)) in
        (r.0, (clash.0, clash.1, r.1))

-- What is known of two files that passed.
pub record IsPairPassed (hash : Alg → List ℕ → List ℕ) (said : Question → Verdict) (media other : List ℕ) (what : Opening Tree) (d : Definition) (p : FilePair) : Type 0 where
  pub is_media : IsMediaFile hash said media what p.media
  pub is_pair : IsFilePair hash said media other p
  pub none : pair_refusals d p ≡ []

-- this much is known of two files that passed
pub pair_passed :
    (hash : Alg → List ℕ → List ℕ) (said : Question → Verdict) (media other : List ℕ) (what : Opening Tree)
    (d : Definition) (p : FilePair)
    → IsMediaStage media (Ok what)
    → IsPairStage hash said media other what d (Ok p) → IsPairPassed hash said media other what d p
pair_passed hash said media other what d p is_media h =
    let one = passed (IsParentStage hash said media what) _ p h in
    let two = passed (IsOtherStage hash said other) (IsJoinedStage d one.value) p one.next in
    let m = media_passed hash said media what one.value one.first in
    let o = other_passed hash said other two.value two.first in
    let clash : Option (List ℕ) = two.next.0 in
    let three =
    unless_passed (joined_refusals d (pair_of one.value two.value clash))
    (λ s. s ≡ Ok (pair_of one.value two.value clash)) p two.next.2 in
    let same : pair_of one.value two.value clash ≡ p = cc (three.1) in
    subst (IsPairPassed hash said media other what d) same
    (record {
      is_media = m.is;
      is_pair = record {
        opened = what;
        is_opened = opened_as media what is_media;
        is_media = m.is;
        found = o.found;
        is_found = o.opened;
        is_other = o.is;
        is_clash = two.next.1;
      };
      none = none_both (parent_refusals one.value) _ m.none
          (none_both (other_refusals two.value.answer) (joined_refusals d (pair_of one.value two.value clash)) o.none three.0);
    })

-- ---- the definition and the message

-- a definition that passed is that of its file
pub defined_of : (file : List ℕ) (d : Definition) → IsDefinitionStage file (Ok d) → IsDefinition file (Ok d)
defined_of file d h = stage_value bad_definition (IsDefinition file) d h

-- ---- what is built

-- what is built of is there
some_ground : (hash : Alg → List ℕ → List ℕ) (said : Question → Verdict) (media other : List ℕ) (what : Opening Tree) (d : Definition) (p : FilePair)
    → IsMediaStage media (Ok what) → IsPairPassed hash said media other what d p → Something (IsGroundStage d p)
some_ground hash said media other what d p is_media h =
    let can = pair_collects hash said d media other p h.is_pair h.none in
    let c =
    some_collects hash d p.media.boxes p.other.boxes p.media.readings p.other.readings can.can in
    let place = free_place hash said media what p.media (opened_as media what is_media) h.is_media in
    (Ok (record { pair = p; content = c.0; place = place.0 }), (c.0, c.1, (place.0, place.1.is, refl)))

-- a file is built where nothing is refused
some_made :
    (hash : Alg → List ℕ → List ℕ) (bytes : List ℕ) (d : Definition) (m : SignParts) (g : CollectGround)
    → IsMessageRead d.protected bytes (Ok m) → IsWellFormed d
    → ground_refusals d g ++ reserve_refusals d m ≡ [] → Something (IsNewFile hash d m g)
some_made hash bytes d m g taken formed none =
    let both = both_none (ground_refusals d g) (reserve_refusals d m) none in
    let fit = file_fits g.pair.media.base g.content d.reserve (length (pair_readings g.pair) + 1) g.place both.0 in
    by both.1 fit.room
    (a_message_fills_its_reserve_or_needs_more.either bytes m d.reserve
    (accepted_paddable d.protected bytes m d.reserve taken.0 taken.1 formed.most))
  where
    by : reserve_refusals d m ≡ [] → HasRoom g.place
        → ((message : List ℕ) × IsSigned m d.reserve message) ⊎ NeedsMore m d.reserve → Something (IsNewFile hash d m g)
    by pass room (inl s) =
        let put =
        some_bytes g.place room
        (tree_bytes (place_store (hash (new_alg d)) g.content s.0 g.pair.media.base g.place)) in
        (Ok (new_file g (length s.0) put.0), (s.0, s.1, (put.0, put.1, refl)))
    by pass room (inr n) =
        absurd (listed_some reserve_too_small (reserve_needed d.reserve (length (bare_bytes m))) n.0 n.1 pass)

-- ---- both calls

-- something is planned
pub some_plan : SomeCollectPlan
some_plan hash said media definition other own theirs =
    some_then (IsMediaStage media) _ (some_media hash said media own) (λ what is_media.
    some_then (IsDefinitionStage definition) _
    (some_stage definition_stage (IsDefinition definition) (each_definition_is_read_one_way_some definition)) (λ d is_d.
    some_then (IsPairStage hash said media other what d) (IsPlannedOver hash d) (some_pair hash said media other what d own theirs is_media) (λ p is_p.
    some_then (IsGroundStage d p) (IsPlannedOn hash d) (some_ground hash said media other what d p is_media (pair_passed hash said media other what d p is_media is_p)) (λ g is_g.
    some_unless (ground_refusals d g) (λ r. r ≡ Ok (ground_signed hash d g)) (λ none. (Ok (ground_signed hash d g), refl))))))

-- something is built
pub some_file : SomeCollectMade
some_file hash said media definition message other own theirs are =
    some_then (IsMediaStage media) _ (some_media hash said media own) (λ what is_media.
    some_then (IsDefinitionStage definition) _
    (some_stage definition_stage (IsDefinition definition) (each_definition_is_read_one_way_some definition)) (λ d is_d.
    some_then (IsMessageStage d.protected message) _
    (some_stage message_stage (IsMessageRead d.protected message)
    (some_message_read d.protected message are)) (λ m is_m.
    some_then (IsPairStage hash said media other what d) (IsMadeOver hash d m) (some_pair hash said media other what d own theirs is_media) (λ p is_p.
    some_then (IsGroundStage d p) (IsMadeOn hash d m) (some_ground hash said media other what d p is_media (pair_passed hash said media other what d p is_media is_p)) (λ g is_g.
    some_unless (ground_refusals d g ++ reserve_refusals d m) (IsNewFile hash d m g)
    (some_made hash message d m g
    (stage_value bad_signature (IsMessageRead d.protected message) m is_m)
    (definitions_are_well_formed definition d (defined_of definition d is_d))))))))
