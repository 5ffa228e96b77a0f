-- A file that a build comes to whose new store collects from two files meets all that is said of it.
use Rattle.c2_collect_spec.proofs.Collecting.{all_approved}
use Rattle.c2_collect_spec.proofs.Whole.{each_meets}
use Rattle.c2_definition.proofs.TheLaws.{definitions_are_well_formed}
use Rattle.c2_new_signature.proofs.TheLaws.{accepted_messages_can_be_padded}
use Rattle.c2_lemmas.proofs.Stages.{passed, stage_value, then_next, unless_passed, unless_passes}
use Rattle.c2_lemmas.proofs.Lists.{both_none}
use Rattle.c2_new_file_spec.proofs.FileLaws.{a_place_is_one}
use Rattle.c2_new_content_spec.proofs.OverLaws.{a_valid_store_is_approved}
use Rattle.c2_new_content_spec.proofs.SplitLaws.{a_file_at_a_split_keeps_its_bytes_left}
use Rattle.std.proofs.Common.{◌≡◌, ◌⊎◌, inl, inr, ⊎_elim, ℕ, ◌+◌, ◌<◌, ◌≤◌, List, [], ◌∷◌, ◌++◌, length, Option, None, Contains, refl, sym, ap, ◌∙◌, subst, arith}
use Rattle.std.specs.Prelude.{Result, Ok}
use Rattle.std.specs.List.{AllByRecursion}
use Rattle.c2_base.specs.declared.limits.TheConstants.{MAX_STORE_LEN, FILE_LEN_LIMIT}
use Rattle.c2_base.specs.declared.values.Question.{Question}
use Rattle.c2_base.specs.declared.values.Range.{Range}
use Rattle.c2_spec.specs.C2pa.Sign1.{SignParts}
use Rattle.c2_spec.specs.Jumbf.Tree.{Tree}
use Rattle.c2_spec.specs.Located.{Opening, absent, here, refused}
use Rattle.c2_spec.specs.PutIn.{taken_out}
use Rattle.c2_spec.specs.declared.digest.Alg.{Alg}
use Rattle.c2_spec.specs.declared.panel.Verdict.{Verdict}
use Rattle.c2_rules.specs.CheckList.{AreApproved, StoreReading, answer_of, check_list, questions, summary_of}
use Rattle.c2_rules.specs.Opened.{IsOpened}
use Rattle.c2_rules.specs.Readings.{Reading}
use Rattle.c2_rules.specs.Tests.{first_failing}
use Rattle.c2_rules.specs.Validated.{IsAnswer}
use Rattle.c2_rules.specs.declared.answer.Answer.TheVariants as answers
use Rattle.c2_rules.specs.declared.answer.Summary.{Summary}
use Rattle.c2_rules.proofs.FirstLemmas.{all_hold, none_fails}
use Rattle.c2_definition.specs.declared.types.Definition.{Definition}
use Rattle.c2_new_signature.specs.Signed.{IsSigned}
use Rattle.c2_new_file_spec.specs.Store.{Content, range_at}
use Rattle.c2_new_file_spec.specs.Places.{IsFreePlace, IsPlace, Place, place_start, range_len, store_len}
use Rattle.c2_new_content_spec.specs.Kept.{KeepsBytes, KeepsOutside}
use Rattle.c2_collect_spec.specs.Collected.{CollectsFrom, IsOfEither}
use Rattle.c2_collect_spec.specs.Files.{collected_signed}
use Rattle.c2_collect_spec.specs.Made.{HasTextsIn, IsAskedBy, MadeCollectedMeets, embedded_range}
use Rattle.c2_collect_spec.specs.Order.{CanCollectPair, CollectRefusal, FilePair, IsCollectedFile, IsMediaFile, IsOtherFile, IsValidAnswer, MediaFile, OtherFile}
use Rattle.c2_collect_spec.specs.Order.{bad_signature, pair_readings, reserve_refusals}
use Rattle.c2_collect_spec.specs.Outcomes.{CollectGround, IsCollectMade, IsCollectPlanned, IsDefinitionStage, IsGroundStage, IsMadeOn, IsMadeOver, IsMediaStage, IsMessageStage, IsNewFile}
use Rattle.c2_new_signature.specs.Message.{IsMessageRead}
use Rattle.c2_collect_spec.specs.Outcomes.{IsPairStage, IsPlannedOn, IsPlannedOver, IsPutIn, NewFile, ground_refusals, ground_signed, new_file}
use Rattle.c2_collect_spec.specs.Stores.{IsAcceptedFile}
use Rattle.c2_collect_spec.specs.Whole.{MeetsCollected, pair_questions}
use Rattle.c2_collect_spec.proofs.Order.{file_fits, none_failing, pair_collects}
use Rattle.c2_collect_spec.proofs.SomeOutcome.{IsPairPassed, defined_of, free_place, opened_as, pair_passed}

-- ---- what is known

-- What is known of a build that comes to a file, where the new file is built of this.
record IsMadeOf (hash : Alg → List ℕ → List ℕ) (d : Definition) (parts : SignParts) (b : NewFile) (g : CollectGround) : Type 0 where
  unrefused : ground_refusals d g ≡ []
  padded : List ℕ
  filled : IsSigned parts d.reserve padded
  bytes : List ℕ
  put : IsPutIn hash d g padded bytes
  same : b ≡ new_file g (length padded) bytes

-- What a new file is built of, in its parts.
abbrev ground_with : FilePair → Content → Place → CollectGround
ground_with pair c place = record { pair = pair; content = c; place = place }

-- What is known of it.
record IsGround (d : Definition) (pair : FilePair) (content : Content) (place : Place) : Type 0 where
  collects : CollectsFrom d pair.media.boxes pair.other.boxes pair.media.readings pair.other.readings content
  is_place : IsPlace pair.media.base place

-- What is known of a build that comes to a file.
record Known (hash : Alg → List ℕ → List ℕ) (said : Question → Verdict) (media definition message other : List ℕ) (b : NewFile) : Type 0 where
  what : Opening Tree
  is_media : IsMediaStage media (Ok what)
  d : Definition
  is_d : IsDefinitionStage definition (Ok d)
  parts : SignParts
  is_parts : IsMessageStage d.protected message (Ok parts)
  pair : FilePair
  is_pair : IsPairStage hash said media other what d (Ok pair)
  content : Content
  place : Place
  ground : IsGround d pair content place
  made : IsMadeOf hash d parts b (ground_with pair content place)

-- what passed the tests of the new file
made_of : (hash : Alg → List ℕ → List ℕ) (d : Definition) (parts : SignParts) (b : NewFile) (g : CollectGround)
    → IsMadeOn hash d parts g (Ok b) → IsMadeOf hash d parts b g
made_of hash d parts b g h =
    let p = unless_passed (ground_refusals d g ++ reserve_refusals d parts) (IsNewFile hash d parts g) b h in
    let none = both_none (ground_refusals d g) (reserve_refusals d parts) p.0 in
    record { unrefused = none.0; padded = p.1.0; filled = p.1.1; bytes = p.1.2.0; put = p.1.2.1; same = cc (p.1.2.2) }

-- equal answers have equal values
same_value : (g k : CollectGround) → ◌≡◌ {A = Result CollectGround CollectRefusal} (Ok g) (Ok k) → g ≡ k
same_value g k e = cc (e)

-- this much is known of a build that comes to a file
known :
    (hash : Alg → List ℕ → List ℕ) (said : Question → Verdict) (media definition message other : List ℕ) (b : NewFile)
    → IsCollectMade hash said media definition message other (Ok b)
    → Known hash said media definition message other b
known hash said media definition message other b h =
    let one = passed (IsMediaStage media) _ b h in
    let two = passed (IsDefinitionStage definition) _ b one.next in
    let d : Definition = two.value in
    let three = passed (IsMessageStage d.protected message) _ b two.next in
    let four = passed (IsPairStage hash said media other one.value d) (IsMadeOver hash d three.value) b three.next in
    let five = passed (IsGroundStage d four.value) (IsMadeOn hash d three.value) b four.next in
    let c : Content = five.first.0 in
    let place : Place = five.first.2.0 in
    record {
      what = one.value;
      is_media = one.first;
      d = d;
      is_d = two.first;
      parts = three.value;
      is_parts = three.first;
      pair = four.value;
      is_pair = four.first;
      content = c;
      place = place;
      ground = record { collects = five.first.1; is_place = five.first.2.1 };
      made =
          subst (IsMadeOf hash d three.value b) (same_value five.value (ground_with four.value c place) five.first.2.2)
          (made_of hash d three.value b five.value five.next);
    }

-- what is signed of the file is what is planned
planned_of : (hash : Alg → List ℕ → List ℕ) (said : Question → Verdict) (media definition message other : List ℕ) (b : NewFile) (k : Known hash said media definition message other b)
    → IsCollectPlanned hash said media definition other (Ok (ground_signed hash k.d (ground_with k.pair k.content k.place)))
planned_of hash said media definition message other b k =
    let g : CollectGround = ground_with k.pair k.content k.place in
    let r : Result (List ℕ) CollectRefusal = Ok (ground_signed hash k.d g) in
    then_next (IsMediaStage media) _ k.what r k.is_media
    (then_next (IsDefinitionStage definition) _ k.d r k.is_d
    (then_next (IsPairStage hash said media other k.what k.d) (IsPlannedOver hash k.d) k.pair r k.is_pair
    (then_next (IsGroundStage k.d k.pair) (IsPlannedOn hash k.d) g r (k.content, k.ground.collects, (k.place, k.ground.is_place, refl))
    (unless_passes (ground_refusals k.d g) (λ x. x ≡ Ok (ground_signed hash k.d g)) r k.made.unrefused refl))))

-- ---- the judges

-- judges approve the questions of the media's store, of which no rule fails
media_approved :
    (hash : Alg → List ℕ → List ℕ) (said : Question → Verdict) (file : List ℕ) (what : Opening Tree) (m : MediaFile)
    → IsMediaFile hash said file what m
    → m.failing ≡ None → AreApproved said (questions m.readings)
media_approved hash said file (refused reason number) m is none = absurd is
media_approved hash said file absent m is none =
    subst (λ (x : MediaFile). AreApproved said (questions x.readings)) (sym is) tt
media_approved hash said file (here start len t) m is none =
    subst (λ (rs : List Reading). AreApproved said (questions rs)) (sym is.readings)
    (a_valid_store_is_approved hash said is.reading
    (all_hold (check_list hash said is.reading) (sym is.failing ∙ none)))

-- judges approve the questions of the other file, which is valid
other_approved :
    (hash : Alg → List ℕ → List ℕ) (said : Question → Verdict) (file : List ℕ) (what : Opening Tree) (o : OtherFile)
    → IsOtherFile hash said file what o
    → IsValidAnswer o.answer → AreApproved said (questions o.readings)
other_approved hash said file (refused reason number) o is valid =
    let bad : answers.Refused reason number ≡ answers.Valid valid.0 =
    sym (ap (λ (x : OtherFile). x.answer) is) ∙ valid.1 in absurd (cc (bad))
other_approved hash said file absent o is valid =
    let bad : answers.NoStore ≡ answers.Valid valid.0 =
    sym (ap (λ (x : OtherFile). x.answer) is) ∙ valid.1 in absurd (cc (bad))
other_approved hash said file (here start len t) o is valid =
    let none =
    none_failing (summary_of (length file) start len is.reading) valid.0
    (first_failing (check_list hash said is.reading)) (sym is.answer ∙ valid.1) in
    subst (λ (rs : List Reading). AreApproved said (questions rs)) (sym is.readings)
    (a_valid_store_is_approved hash said is.reading (all_hold (check_list hash said is.reading) none))

-- ---- the questions

-- a question of the media's store is asked of the media file
media_asks :
    (hash : Alg → List ℕ → List ℕ) (said : Question → Verdict) (file : List ℕ) (what : Opening Tree) (m : MediaFile)
    → IsOpened file what → IsMediaFile hash said file what m
    → (q : Question) → Contains (questions m.readings) q → IsAskedBy file q
media_asks hash said file (refused reason number) m opened is q held = absurd is
media_asks hash said file absent m opened is q held =
    (questions m.readings, (absent, opened, ap (λ (x : MediaFile). questions x.readings) is), held)
media_asks hash said file (here start len t) m opened is q held =
    (questions m.readings, (here start len t, opened, (is.reading.readings, is.reads.reads.each, ap questions is.readings)), held)

-- a question of the other file's store is asked of the other file
other_asks :
    (hash : Alg → List ℕ → List ℕ) (said : Question → Verdict) (file : List ℕ) (what : Opening Tree) (o : OtherFile)
    → IsOpened file what → IsOtherFile hash said file what o
    → (q : Question) → Contains (questions o.readings) q → IsAskedBy file q
other_asks hash said file (refused reason number) o opened is q held =
    (questions o.readings, (refused reason number, opened, ap (λ (x : OtherFile). questions x.readings) is), held)
other_asks hash said file absent o opened is q held =
    (questions o.readings, (absent, opened, ap (λ (x : OtherFile). questions x.readings) is), held)
other_asks hash said file (here start len t) o opened is q held =
    (questions o.readings, (here start len t, opened, (is.reading.readings, is.reads.reads.each, ap questions is.readings)), held)

-- each question of either store is asked of one of the files
all_asked : (media other : List ℕ) (old_rs other_rs : List Reading)
    → ((q : Question) → Contains (questions old_rs) q → IsAskedBy media q)
    → ((q : Question) → Contains (questions other_rs) q → IsAskedBy other q) → (qs : List Question)
    → AllByRecursion (IsOfEither old_rs other_rs) qs
    → AllByRecursion (λ (q : Question). IsAskedBy media q ⊎ IsAskedBy other q) qs
all_asked media other old_rs other_rs own theirs [] h = tt
all_asked media other old_rs other_rs own theirs (q ∷ qs) h =
    (⊎_elim (λ c. inl (own q c)) (λ c. inr (theirs q c)) h.0, all_asked media other old_rs other_rs own theirs qs h.1)

-- ---- the file

-- The file is that of the definition's new store, with this content.
record IsBuiltOf (hash : Alg → List ℕ → List ℕ) (d : Definition) (pair : FilePair) (parts : SignParts) (p : Place) (content : Content) (file : List ℕ) : Type 0 where
  is : IsCollectedFile hash d pair parts p file
  same : is.content ≡ content

-- the new file is that of the definition's new store, with this content
built_of :
    (hash : Alg → List ℕ → List ℕ) (said : Question → Verdict) (media definition message other : List ℕ) (b : NewFile)
    → HasTextsIn definition
    → (k : Known hash said media definition message other b) → IsPairPassed hash said media other k.what k.d k.pair
    → IsBuiltOf hash k.d k.pair k.parts k.place k.content b.file
built_of hash said media definition message other b texts k p =
    let d : Definition = k.d in
    let base : List ℕ = k.pair.media.base in
    let x : Content = k.content in
    let defined = defined_of definition d k.is_d in
    let taken = stage_value bad_signature (IsMessageRead d.protected message) k.parts k.is_parts in
    let collects : CanCollectPair hash d k.pair =
    pair_collects hash said d media other k.pair p.is_pair p.none in
    let free = free_place hash said media k.what k.pair.media (opened_as media k.what k.is_media) p.is_media in
    let fit = file_fits base x d.reserve (length (pair_readings k.pair) + 1) k.place k.made.unrefused in
    let count = fit.few in
    let built : IsCollectedFile hash d k.pair k.parts k.place b.file = record {
      own = (accepted_messages_can_be_padded d.protected message k.parts taken.0 taken.1).own;
      collects = collects;
      content = k.content;
      collected = record {
        can = collects.can;
        few = omega (arith, count);
        written = record { formed = definitions_are_well_formed definition d defined; texts = texts d defined };
        content = k.ground.collects;
      };
      message = k.made.padded;
      signed = k.made.filled;
      can = record {
        place = subst (IsFreePlace base) (a_place_is_one base free.0 k.place free.1.is k.ground.is_place) free.1;
        room = fit.room;
        small = subst (λ n. store_len k.place x n ≤ MAX_STORE_LEN) (sym k.made.filled.filled) fit.small;
        fits = subst (λ n. length base + range_len k.place x n < FILE_LEN_LIMIT) (sym k.made.filled.filled) fit.fits;
      };
      bytes = k.made.bytes;
      put = k.made.put;
      is = ap (λ (f : NewFile). f.file) k.made.same;
    } in
    record { is = built; same = refl }

-- what is left of a media file has all bytes outside the range of its store
base_keeps :
    (hash : Alg → List ℕ → List ℕ) (said : Question → Verdict) (media : List ℕ) (what : Opening Tree) (m : MediaFile)
    → IsOpened media what
    → IsMediaFile hash said media what m → KeepsOutside media (embedded_range what) m.base
base_keeps hash said media (refused reason number) m opened is = absurd is
base_keeps hash said media absent m opened is =
    subst (λ (x : MediaFile). KeepsOutside media None x.base) (sym is)
    (record { freed = None; only = inl refl; same = refl })
base_keeps hash said media (here start len t) m opened is =
    a_file_at_a_split_keeps_its_bytes_left media start len t m.base opened is.left

-- the new file less its range has all bytes of the media outside the range of its store
file_keeps : (media : List ℕ) (old : Option Range) (base file : List ℕ) (start at len count : ℕ)
    → KeepsOutside media old base
    → taken_out start len file ≡ base → at ≡ start → count ≡ len → KeepsBytes media old file (range_at at count)
file_keeps media old base file start at len count h is same_start same_len =
    subst (KeepsOutside media old)
    (sym (ap (λ n. taken_out n count file) same_start ∙ ap (λ n. taken_out start n file) same_len ∙ is)) h

-- the check of an accepted file answers that it is valid
accepted_answer : (hash : Alg → List ℕ → List ℕ) (said : Question → Verdict) (file : List ℕ) (start len : ℕ) (t : Tree) (s : StoreReading)
    → IsAcceptedFile hash said file start len t s
    → (summary : Summary) × IsAnswer hash said file (answers.Valid summary)
accepted_answer hash said file start len t s h =
    let summary : Summary = summary_of (length file) start len s in (
      summary,
      (
        here start len t,
        h.opened,
        (s, h.reads, sym (ap (answer_of summary) (none_fails (check_list hash said s) h.valid))),
      ),
    )

-- a file that collects meets all that is said of it
pub made_meets : MadeCollectedMeets
made_meets hash said media definition message other b digests texts h = record {
  new = k.d;
  defined = defined_of definition k.d k.is_d;
  parts = k.parts;
  spelled = (stage_value bad_signature (IsMessageRead k.d.protected message) k.parts k.is_parts).1;
  pair = k.pair;
  read = p.is_pair;
  place = k.place;
  built = built.is;
  meets = met;
  start = start;
  len = len;
  signed = subst (λ (x : List ℕ). IsCollectPlanned hash said media definition other (Ok x))
      (sym (met.signed ∙ ap (λ (c : Content). collected_signed hash k.d c k.pair.media.base k.place) built.same))
      (planned_of hash said media definition message other b k);
  asked = all_asked media other k.pair.media.readings k.pair.other.readings
      (media_asks hash said media k.what k.pair.media (opened_as media k.what k.is_media) p.is_media)
      (other_asks hash said other p.is_pair.found k.pair.other p.is_pair.is_found p.is_pair.is_other) (pair_questions k.pair) met.either;
  approved = all_approved hash said k.pair.media.boxes k.pair.other.boxes k.pair.media.readings k.pair.other.readings built.is.collects.can.joins
      (media_approved hash said media k.what k.pair.media p.is_media built.is.collects.media)
      (other_approved hash said other p.is_pair.found k.pair.other p.is_pair.is_other built.is.collects.other);
  kept = file_keeps media (embedded_range p.is_pair.opened) k.pair.media.base b.file (place_start k.place) b.start met.len b.len
      (base_keeps hash said media p.is_pair.opened k.pair.media p.is_pair.is_opened p.is_pair.is_media) met.base start len;
  accepted = λ others approved.
      let a = met.accepted others approved in
      accepted_answer hash others b.file (place_start k.place) met.len met.store a.0 a.1;
}
  where
    k : Known hash said media definition message other b
    k = known hash said media definition message other b h

    p : IsPairPassed hash said media other k.what k.d k.pair
    p = pair_passed hash said media other k.what k.d k.pair k.is_media k.is_pair

    built : IsBuiltOf hash k.d k.pair k.parts k.place k.content b.file
    built = built_of hash said media definition message other b texts k p

    met : MeetsCollected hash k.d built.is.content built.is.message k.pair k.place b.file
    met = each_meets hash k.d k.pair k.parts k.place b.file digests built.is

    start : b.start ≡ place_start k.place
    start = ap (λ (f : NewFile). f.start) k.made.same

    len : b.len ≡ met.len
    len = ap (λ (f : NewFile). f.len) k.made.same ∙ ap (λ n. range_len k.place k.content n) k.made.filled.filled
        ∙ ap (λ (c : Content). range_len k.place c k.d.reserve) (sym built.same) ∙ sym met.range
