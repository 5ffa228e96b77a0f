-- Two files that are opened as one thing each come to one plan and to one new file.
use Rattle.c2_read_manifests.proofs.TheLaws.{one_reading_file}
use Rattle.c2_definition.proofs.TheLaws.{each_definition_is_read_one_way_one}
use Rattle.c2_new_signature.proofs.TheLaws.{a_message_fills_its_reserve_or_needs_more, one_message_read}
use Rattle.c2_new_file_spec.proofs.FileLaws.{a_place_is_one, what_is_left_is_one}
use Rattle.c2_collect_spec.proofs.Contents.{content_one}
use Rattle.c2_lemmas.specs.Stages.{Unless}
use Rattle.c2_lemmas.proofs.Stages.{IsOne, one_stage, one_then, one_unless, one_value}
use Rattle.std.proofs.Common.{◌≡◌, ℕ, List, ◌++◌, length, Option, sym, ap, ◌∙◌, subst}
use Rattle.std.specs.Prelude.{Result, Ok}
use Rattle.std.proofs.lemmas.Option.{same_Some}
use Rattle.c2_base.specs.declared.values.Question.{Question}
use Rattle.c2_spec.specs.C2pa.Sign1.{SignParts}
use Rattle.c2_spec.specs.Jumbf.Tree.{Tree, Trees}
use Rattle.c2_spec.specs.Located.{Opening, absent, here, refused}
use Rattle.c2_spec.specs.declared.digest.Alg.{Alg}
use Rattle.c2_spec.specs.declared.panel.Verdict.{Verdict}
use Rattle.c2_rules.specs.Chains.{is_reached}
use Rattle.c2_rules.specs.CheckList.{StoreReading, check_list, store_answer}
use Rattle.c2_rules.specs.Opened.{IsOpened}
use Rattle.c2_rules.specs.Readings.{Reading}
use Rattle.c2_rules.specs.Tests.{first_failing}
use Rattle.c2_rules.specs.declared.answer.Answer.{Answer}
use Rattle.c2_rules.specs.declared.answer.Failing.{Failing}
use Rattle.c2_definition.specs.DefinitionFile.{IsDefinition}
use Rattle.c2_definition.specs.declared.types.Definition.{Definition}
use Rattle.c2_new_file_spec.specs.Manifests.{supers_in}
use Rattle.c2_new_file_spec.specs.Store.{Content}
use Rattle.c2_new_file_spec.specs.Redacting.{boxes_in}
use Rattle.c2_new_file_spec.specs.Places.{Place}
use Rattle.c2_collect_spec.specs.Order.{CollectRefusal, FilePair, IsMediaFile, IsOtherFile, MediaFile, OtherFile, joined_refusals, other_refusals, parent_refusals, reserve_refusals}
use Rattle.c2_collect_spec.specs.Outcomes.{CollectGround, IsDefinitionStage, IsGroundStage, IsJoinedStage, IsMadeOn, IsMediaStage, IsMessageStage, IsNewFile, IsOpenedOnce}
use Rattle.c2_new_signature.specs.Message.{IsMessageRead}
use Rattle.c2_collect_spec.specs.Outcomes.{IsOtherStage, IsPutIn, IsPairStage, IsParentStage, IsPlannedOn, OneCollectMade, OneCollectPlan, ground_signed, definition_stage}
use Rattle.c2_collect_spec.specs.Outcomes.{ground_refusals, media_stage, message_stage, new_file, pair_of}
use Rattle.c2_collect_spec.proofs.Clashes.{one_clash}

-- ---- both files

-- a media file of these
abbrev media_with : Trees → List Reading → Option Failing → List ℕ → MediaFile
media_with boxes rs failing base = record { boxes = boxes; readings = rs; failing = failing; base = base }

-- what a media file with this store, read so, is to a new store
abbrev media_in : (Alg → List ℕ → List ℕ) → (Question → Verdict) → Tree → StoreReading → List ℕ → MediaFile
media_in hash said t s base = media_with (boxes_in t) s.readings (first_failing (check_list hash said s)) base

-- a media file that is opened so is one thing to a new store
pub one_media_file :
    (hash : Alg → List ℕ → List ℕ) (said : Question → Verdict) (file : List ℕ) (what : Opening Tree) (m n : MediaFile)
    → IsMediaFile hash said file what m
    → IsMediaFile hash said file what n → m ≡ n
one_media_file hash said file (refused reason number) m n h k = absurd h
one_media_file hash said file absent m n h k = h ∙ sym k
one_media_file hash said file (here start len t) m n h k =
    let reading : h.reading ≡ k.reading = one_reading_file file t h.reading k.reading h.reads k.reads in
    let base : m.base ≡ n.base = what_is_left_is_one file start len m.base n.base h.left k.left in
    let boxes : m.boxes ≡ n.boxes = h.boxes ∙ sym k.boxes in
    let readings : m.readings ≡ n.readings =
    h.readings ∙ ap (λ (s : StoreReading). s.readings) reading ∙ sym k.readings in
    let failing : m.failing ≡ n.failing =
    h.failing ∙ ap (λ (s : StoreReading). first_failing (check_list hash said s)) reading ∙ sym k.failing in
    ap (λ (x : Trees). media_with x m.readings m.failing m.base) boxes
    ∙ ap (λ (x : List Reading). media_with n.boxes x m.failing m.base) readings
    ∙ ap (λ (x : Option Failing). media_with n.boxes n.readings x m.base) failing
    ∙ ap (media_with n.boxes n.readings n.failing) base

-- another file of these
abbrev other_with : Answer → Trees → List Reading → OtherFile
other_with answer boxes rs = record { answer = answer; boxes = boxes; readings = rs }

-- another file is read in one way
pub one_other_file :
    (hash : Alg → List ℕ → List ℕ) (said : Question → Verdict) (file : List ℕ) (what : Opening Tree) (o p : OtherFile)
    → IsOtherFile hash said file what o
    → IsOtherFile hash said file what p → o ≡ p
one_other_file hash said file (refused reason number) o p h k = h ∙ sym k
one_other_file hash said file absent o p h k = h ∙ sym k
one_other_file hash said file (here start len t) o p h k =
    let reading : h.reading ≡ k.reading = one_reading_file file t h.reading k.reading h.reads k.reads in
    let answer : o.answer ≡ p.answer =
    h.answer ∙ ap (store_answer hash said (length file) start len) reading ∙ sym k.answer in
    let boxes : o.boxes ≡ p.boxes = h.boxes ∙ sym k.boxes in
    let readings : o.readings ≡ p.readings =
    h.readings ∙ ap (λ (s : StoreReading). s.readings) reading ∙ sym k.readings in
    ap (λ (x : Answer). other_with x o.boxes o.readings) answer
    ∙ ap (λ (x : Trees). other_with p.answer x o.readings) boxes
    ∙ ap (other_with p.answer p.boxes) readings

-- the media's part comes to one thing
pub one_parent :
    (hash : Alg → List ℕ → List ℕ) (said : Question → Verdict) (media : List ℕ) (what : Opening Tree)
    → IsOne (IsParentStage hash said media what)
one_parent hash said media what r s h k =
    let same : k.0 ≡ h.0 = one_media_file hash said media what k.0 h.0 k.1 h.1 in
    one_unless (parent_refusals h.0) (λ x. x ≡ Ok h.0) (one_value h.0) r s h.2
    (subst (λ (m : MediaFile). Unless (parent_refusals m) (λ x. x ≡ Ok m) s) same k.2)

-- what the other file is, once it is opened
record IsOtherOpened (hash : Alg → List ℕ → List ℕ) (said : Question → Verdict) (other : List ℕ) (found : Opening Tree) (r : Result OtherFile CollectRefusal) : Type 0 where
  file : OtherFile
  is : IsOtherFile hash said other found file
  unless : Unless (other_refusals file.answer) (λ x. x ≡ Ok file) r

-- the stage of the other file has one outcome
one_other : (hash : Alg → List ℕ → List ℕ) (said : Question → Verdict) (other : List ℕ) → IsOpenedOnce other
    → IsOne (IsOtherStage hash said other)
one_other hash said other once r s h k =
    let opened : IsOtherOpened hash said other h.0 s =
    subst (λ (found : Opening Tree). IsOtherOpened hash said other found s) (once k.0 h.0 k.1 h.1) (record { file = k.2.0; is = k.2.1; unless = k.2.2 }) in
    let same : opened.file ≡ h.2.0 = one_other_file hash said other h.0 opened.file h.2.0 opened.is h.2.1 in
    one_unless (other_refusals h.2.0.answer) (λ x. x ≡ Ok h.2.0) (one_value h.2.0) r s h.2.2
    (subst (λ (o : OtherFile). Unless (other_refusals o.answer) (λ x. x ≡ Ok o) s) same opened.unless)

-- the stage of both files together has one outcome
one_joined : (d : Definition) (m : MediaFile) (o : OtherFile) → IsOne (IsJoinedStage d m o)
one_joined d m o r s h k =
    let same : k.0 ≡ h.0 =
    one_clash (supers_in m.boxes) (is_reached m.readings) (supers_in o.boxes) (is_reached o.readings) k.0 h.0 k.1
    h.1 in
    one_unless (joined_refusals d (pair_of m o h.0)) (λ x. x ≡ Ok (pair_of m o h.0)) (one_value (pair_of m o h.0)) r s
    h.2
    (subst (λ (c : Option (List ℕ)). Unless (joined_refusals d (pair_of m o c)) (λ x. x ≡ Ok (pair_of m o c)) s) same k.2)

-- the three stages of both files have one outcome
one_pair :
    (hash : Alg → List ℕ → List ℕ) (said : Question → Verdict) (media other : List ℕ) (what : Opening Tree) (d : Definition)
    → IsOpenedOnce other
    → IsOne (IsPairStage hash said media other what d)
one_pair hash said media other what d once =
    one_then (IsParentStage hash said media what) _ (one_parent hash said media what) (λ m.
    one_then (IsOtherStage hash said other) (IsJoinedStage d m) (one_other hash said other once) (one_joined d m))

-- ---- what is built

-- what a new file is built of
abbrev ground_of : FilePair → Content → Place → CollectGround
ground_of p c place = record { pair = p; content = c; place = place }

-- what a new file is built of is one
one_ground : (d : Definition) (p : FilePair) → IsOne (IsGroundStage d p)
one_ground d p r s h k =
    let content : h.0 ≡ k.0 =
    content_one d p.media.boxes p.other.boxes p.media.readings p.other.readings h.0 k.0 h.1 k.1 in
    let place : h.2.0 ≡ k.2.0 = a_place_is_one p.media.base h.2.0 k.2.0 h.2.1 k.2.1 in
    h.2.2 ∙ ap (λ (c : Content). Ok (ground_of p c h.2.0)) content ∙ ap (λ (q : Place). Ok (ground_of p k.0 q)) place
    ∙ sym k.2.2

-- one new file is built
one_made : (hash : Alg → List ℕ → List ℕ) (d : Definition) (m : SignParts) (g : CollectGround)
    → IsOne (IsNewFile hash d m g)
one_made hash d m g r s h k =
    let message : h.0 ≡ k.0 = a_message_fills_its_reserve_or_needs_more.one m d.reserve h.0 k.0 h.1 k.1 in
    let bytes : h.2.0 ≡ k.2.0 = same_put h.0 k.0 h.2.0 k.2.0 message h.2.1 k.2.1 in
    h.2.2 ∙ ap (λ (x : List ℕ). Ok (new_file g (length x) h.2.0)) message
    ∙ ap (λ (b : List ℕ). Ok (new_file g (length k.0) b)) bytes ∙ sym k.2.2
  where
    same_put : (a b x y : List ℕ) → a ≡ b → IsPutIn hash d g a x → IsPutIn hash d g b y → x ≡ y
    same_put a b x y e f q = same_Some x y (sym (subst (λ (n : List ℕ). IsPutIn hash d g n x) e f) ∙ q)

-- ---- both calls

-- a plan is one
pub one_plan : OneCollectPlan
one_plan hash said media definition other a b once again =
    one_then (IsMediaStage media) _ (one_stage media_stage (IsOpened media) once) (λ what.
    one_then (IsDefinitionStage definition) _
    (one_stage definition_stage (IsDefinition definition) (each_definition_is_read_one_way_one definition)) (λ d.
    one_then (IsPairStage hash said media other what d) _ (one_pair hash said media other what d again) (λ p.
    one_then (IsGroundStage d p) (IsPlannedOn hash d) (one_ground d p) (λ g.
    one_unless (ground_refusals d g) (λ r. r ≡ Ok (ground_signed hash d g)) (one_value (ground_signed hash d g)))))) a b

-- a new file is one
pub one_file : OneCollectMade
one_file hash said media definition message other a b once again =
    one_then (IsMediaStage media) _ (one_stage media_stage (IsOpened media) once) (λ what.
    one_then (IsDefinitionStage definition) _
    (one_stage definition_stage (IsDefinition definition) (each_definition_is_read_one_way_one definition)) (λ d.
    one_then (IsMessageStage d.protected message) _
    (one_stage message_stage (IsMessageRead d.protected message)
    (one_message_read d.protected message)) (λ m.
    one_then (IsPairStage hash said media other what d) _ (one_pair hash said media other what d again) (λ p.
    one_then (IsGroundStage d p) (IsMadeOn hash d m) (one_ground d p) (λ g.
    one_unless (ground_refusals d g ++ reserve_refusals d m) (IsNewFile hash d m g) (one_made hash d m g)))))) a b
