-- What a new file meets.
use Rattle.std.proofs.Common.{◌≡◌, ℕ, ◌+◌, ◌<◌, ◌≤◌, List, [], ◌∷◌, length, true, Option, Some, None, refl, sym, ap, ◌∙◌, subst, arith}
use Rattle.std.specs.Prelude.{Ok, Result, option_map}
use Rattle.c2_base.specs.declared.limits.TheConstants.{FILE_LEN_LIMIT, MAX_MANIFESTS, MAX_STORE_LEN}
use Rattle.c2_base.specs.declared.values.Question.{Question}
use Rattle.c2_spec.specs.C2pa.Manifest.{manifests_of}
use Rattle.c2_spec.specs.C2pa.Message.{padded_read}
use Rattle.c2_spec.specs.C2pa.Sign1.{SignParts, SpellsMessage, sig_structure}
use Rattle.c2_spec.specs.Cbor.Deterministic.{deterministic}
use Rattle.c2_spec.specs.Jumbf.Tree.{Tree, tree_bytes}
use Rattle.c2_spec.specs.Located.{absent, here}
use Rattle.c2_spec.specs.PutIn.{taken_out}
use Rattle.c2_spec.specs.declared.digest.Alg.{Alg}
use Rattle.c2_spec.specs.declared.panel.Verdict.{Verdict}
use Rattle.c2_rules.specs.CheckList.{AreApproved, IsValid, answer_of, check_list, questions, summary_of}
use Rattle.c2_rules.specs.Tests.{first_failing}
use Rattle.c2_rules.specs.Validated.{AreQuestions, IsAnswer}
use Rattle.c2_rules.specs.declared.answer.Answer.TheVariants as answer
use Rattle.c2_rules.specs.declared.answer.Failing.{Failing}
use Rattle.c2_rules.specs.declared.answer.Summary.{Summary}
use Rattle.c2_rules.proofs.FirstLemmas.{none_fails as no_failing}
use Rattle.c2_pad.specs.Fill.{fill_pairs}
use Rattle.c2_definition.specs.DefinitionFile.{IsDefinition}
use Rattle.c2_definition.specs.declared.types.Definition.{Definition}
use Rattle.c2_new_signature.proofs.TheLaws.{accepted_messages_can_be_padded}
use Rattle.c2_new_signature.specs.Signed.{IsSigned}
use Rattle.c2_lemmas.proofs.Stages.{passed, stage_value, then_next, unless_some_passed, unless_some_passes}
use Rattle.c2_new_file_spec.specs.Fresh.{GivesDigests, IsFresh, MeetsTheRules, fresh_content}
use Rattle.c2_new_file_spec.specs.Store.{Content, new_claim, new_alg}
use Rattle.c2_new_file_spec.specs.Written.{CanBeWritten}
use Rattle.c2_new_file_spec.proofs.FileLaws.{a_place_is_one}
use Rattle.c2_new_file_spec.proofs.ParentLaws.{redactions_that_pass_may_be_made_none}
use Rattle.c2_new_file_spec.specs.Parents.{IsContentOver}
use Rattle.c2_new_file_spec.specs.Refusing.{redaction_refusal}
use Rattle.c2_new_file_spec.specs.declared.refused.RefusedRedaction.{RefusedRedaction}
use Rattle.c2_new_content_spec.proofs.OverLaws.{a_valid_store_is_approved}
use Rattle.c2_new_content_spec.proofs.SplitLaws.{a_base_stays, a_file_built_in_its_place_meets_the_rules_fresh, a_file_built_in_its_place_meets_the_rules_over}
use Rattle.c2_new_file_spec.specs.Bases.{IsLeft}
use Rattle.c2_new_file_spec.specs.Meeting.{CanSucceedAt}
use Rattle.c2_new_file_spec.specs.Places.{CanPut, IsFreePlace, IsPlace, Place, place_binding, place_file, place_question, place_start, place_store, put_bytes, range_len, store_len}
use Rattle.c2_build_plain.specs.Building.{Built, IsBuilt, IsEmbedded, IsEmbeddedOn, IsPlanned, IsPlannedOn, built_of, signed_bytes}
use Rattle.c2_build_refusals.specs.Stages.{HasTextsIn, IsDefinitionStage, IsGroundOver, IsGroundStage, IsMediaStage, IsMessageStage, IsPlaceStage, MediaKind, fresh, fresh_ground, stored}
use Rattle.c2_new_signature.specs.Message.{IsMessageRead}
use Rattle.c2_build_plain.specs.Meeting.{BuiltFileMeets, BuiltMeets, KeepsBytes}
use Rattle.c2_build_refusals.specs.Refusals.{Ground, first_refusal, ground_tests, late_tests, new_range_len, older_tests, redaction_tests, refuse_if, reserve_tests}
use Rattle.c2_build_refusals.specs.declared.error.BuildError.{BuildError}
use Rattle.c2_build_refusals.specs.declared.error.BuildError.TheVariants.{BadDefinition, BadSignature, RedactionRefused}
use Rattle.c2_build_refusals.proofs.Stages.{none_of_both}
use Rattle.c2_rules.proofs.Approving.{approved_is_valid}
use Rattle.c2_build_plain.proofs.Kept.{ground_keeps}
use Rattle.c2_build_refusals.proofs.Passing.{ground_of, is_passable, opened_absent, opened_here}
use Rattle.c2_build_plain.proofs.Rooms.{pass_numbers}
use Rattle.c2_build_plain.proofs.SomeBuild.{free_place, ground_definition}
use Rattle.c2_build_refusals.proofs.Inputs.{read_formed}
use Rattle.std.specs.Option.{option_to_list}

-- ---- what passed

-- What is known of a build that comes to a file.
record Known (hash : Alg → List ℕ → List ℕ) (said : Question → Verdict) (media definition message : List ℕ) (b : Built) : Type 0 where
  d : Definition
  is_d : IsDefinitionStage definition (Ok d)
  parts : SignParts
  is_parts : IsMessageStage d.protected message (Ok parts)
  kind : MediaKind
  is_media : IsMediaStage media (Ok kind)
  ground : Ground
  is_ground : IsGroundStage hash said media d kind (Ok ground)
  place : Place
  is_place : IsPlace ground.base place
  numbers : first_refusal (ground_tests ground place) ≡ None
  signed : List ℕ
  is_signed : IsSigned parts ground.content.definition.reserve signed
  bytes : List ℕ
  put : put_bytes place
      (tree_bytes (place_store (hash (new_alg ground.content.definition)) ground.content signed ground.base place))
      ≡ Some bytes
  same : b ≡ built_of ground place bytes

-- this much is known of a build that comes to a file
known : (hash : Alg → List ℕ → List ℕ) (said : Question → Verdict) (media definition message : List ℕ) (b : Built)
    → IsEmbedded hash said media definition message (Ok b) → Known hash said media definition message b
known hash said media definition message b h =
    let one = passed (IsMediaStage media) _ b h in
    let two = passed (IsDefinitionStage definition) _ b one.next in
    let three = passed (IsMessageStage two.value.protected message) _ b two.next in
    let four =
    passed (IsGroundStage hash said media two.value one.value) (IsEmbeddedOn hash three.value) b three.next in
    let g : Ground = four.value in
    let five = passed (IsPlaceStage g.base) _ b four.next in
    let six =
    unless_some_passed (first_refusal (late_tests g three.value five.value)) (IsBuilt hash g five.value three.value) b
    five.next in
    let none = none_of_both (ground_tests g five.value) (reserve_tests g.content.definition three.value) six.0 in
    let at : five.first.0 ≡ five.value = cc (five.first.2) in
    record {
      d = two.value;
      is_d = two.first;
      parts = three.value;
      is_parts = three.first;
      kind = one.value;
      is_media = one.first;
      ground = g;
      is_ground = four.first;
      place = five.value;
      is_place = subst (IsPlace g.base) at five.first.1;
      numbers = none.0;
      signed = six.1.0;
      is_signed = six.1.1;
      bytes = six.1.2.0;
      put = six.1.2.1;
      same = cc (six.1.2.2);
    }

-- ---- what the file meets

-- a file that meets all but the verdicts is valid where its questions are approved
accepted_if :
    (hash : Alg → List ℕ → List ℕ) (file : List ℕ) (start len : ℕ) (t : Tree) (qs : List Question)
    → MeetsTheRules hash file start len t qs → (others : Question → Verdict) → AreApproved others qs
    → (s : Summary) × IsAnswer hash others file (answer.Valid s)
accepted_if hash file start len t qs m others approved =
    let asked : AreApproved others (questions m.reading.readings) = subst (AreApproved others) (sym m.asks) approved in
    let valid : IsValid hash others m.reading =
    approved_is_valid hash others (manifests_of t) m.reading m.reads.reads.each m.holds asked in
    let none : first_failing (check_list hash others m.reading) ≡ None =
    no_failing (check_list hash others m.reading) valid in
    let summary : Summary = summary_of (length file) start len m.reading in
    (summary, (here start len t, m.opened, (m.reading, m.reads, sym (ap (λ (o : Option Failing). answer_of summary o) none))))

-- what is signed of the file is what is planned
planned_of :
    (hash : Alg → List ℕ → List ℕ) (said : Question → Verdict) (media definition message : List ℕ) (b : Built)
    (k : Known hash said media definition message b)
    → IsPlanned hash said media definition (Ok (signed_bytes hash k.ground k.place))
planned_of hash said media definition message b k =
    let r : Result (List ℕ) BuildError = Ok (signed_bytes hash k.ground k.place) in
    then_next (IsMediaStage media) _ k.kind r k.is_media
    (then_next (IsDefinitionStage definition) _ k.d r k.is_d
    (then_next (IsGroundStage hash said media k.d k.kind) (IsPlannedOn hash) k.ground r k.is_ground
    (then_next (IsPlaceStage k.ground.base) _ k.place r (k.place, k.is_place, refl)
    (unless_some_passes (first_refusal (ground_tests k.ground k.place)) (λ x. x ≡ Ok (signed_bytes hash k.ground k.place)) r k.numbers refl))))

-- the bytes that the new question is about are those
same_signed : (hash : Alg → List ℕ → List ℕ) (g : Ground) (p : Place) (message : List ℕ) (parts : SignParts)
    → parts.protected ≡ g.content.definition.protected → length message ≡ g.content.definition.reserve
    → signed_bytes hash g p ≡ (place_question (hash (new_alg g.content.definition)) g.content (length message) g.base p parts).tbs
same_signed hash g p message parts protected filled =
    ap
    (λ (n : ℕ). deterministic (sig_structure g.content.definition.protected (new_claim (hash (new_alg g.content.definition)) g.content (place_binding (hash (new_alg g.content.definition)) g.content n g.base p))))
    (sym filled)
    ∙ ap
    (λ (x : List ℕ). deterministic (sig_structure x (new_claim (hash (new_alg g.content.definition)) g.content (place_binding (hash (new_alg g.content.definition)) g.content (length message) g.base p))))
    (sym protected)

-- ---- by the media

-- The file that is built over a ground meets the rules but that on the verdict on its message, and asks the new question and then these,
-- which are those of the media and are approved.
record MeetsOver (hash : Alg → List ℕ → List ℕ) (said : Question → Verdict) (media : List ℕ) (g : Ground) (p : Place) (bytes message : List ℕ) (read : SignParts) : Type 0 where
  older : List Question
  asked : AreQuestions media older
  approved : AreApproved said older
  meets : MeetsTheRules hash (place_file g.base p bytes) (place_start p) (range_len p g.content (length message)) (place_store (hash (new_alg g.content.definition)) g.content message g.base p)
      (place_question (hash (new_alg g.content.definition)) g.content (length message) g.base p read ∷ older)

-- a definition none of whose redactions is refused without a store has none
no_redactions : (d : Definition) → first_refusal (redaction_tests d []) ≡ None → d.redact ≡ []
no_redactions d h = by d.redact refl
  where
    by : (texts : List (List ℕ)) → d.redact ≡ texts → d.redact ≡ []
    by [] e = e
    by (t ∷ ts) e =
        let refused =
        ap (λ (xs : List (List ℕ)). redaction_refusal d.label [] xs) e
        ∙ redactions_that_pass_may_be_made_none d.label t ts in
        let bad : first_refusal (option_to_list (option_map (λ (r : RefusedRedaction). refuse_if true (RedactionRefused r.text r.code)) (Some _))) ≡ None =
        subst
        (λ (o : Option RefusedRedaction). first_refusal (option_to_list (option_map (λ (r : RefusedRedaction). refuse_if true (RedactionRefused r.text r.code)) o)) ≡ None) refused h in
        absurd (cc (bad))

-- over each ground
met_over :
    (hash : Alg → List ℕ → List ℕ) (said : Question → Verdict) (media : List ℕ) (d : Definition) (kind : MediaKind)
    (g : Ground) (p : Place) (bytes message : List ℕ) (read : SignParts)
    → GivesDigests hash → IsMediaStage media (Ok kind) → IsGroundStage hash said media d kind (Ok g) → CanBeWritten d
    → g.manifests ≤ MAX_MANIFESTS → CanPut g.content (length message) g.base p
    → SpellsMessage message read
    → put_bytes p (tree_bytes (place_store (hash (new_alg g.content.definition)) g.content message g.base p)) ≡ Some bytes
    → MeetsOver hash said media g p bytes message read
met_over hash said media d fresh g p bytes message read digests m h w few can spelled put =
    let is = unless_some_passed (first_refusal (redaction_tests d [])) (λ r. r ≡ Ok (fresh_ground media d)) g h in
    let same : g ≡ fresh_ground media d = cc (is.1) in
    let own : g.content ≡ fresh_content d = ap (λ (x : Ground). x.content) same in
    record {
      older = [];
      asked = (absent, opened_absent media m, refl);
      approved = tt;
      meets =
          a_file_built_in_its_place_meets_the_rules_fresh hash g.content message g.base bytes p read digests
          (subst IsFresh (sym own) (record { carried = refl; ingredients = refl; redact = no_redactions d is.0 }))
          (subst (λ (c : Content). CanBeWritten c.definition) (sym own) w) can spelled put;
    }
met_over hash said media d (stored start len t) g p bytes message read digests m h w few can spelled put =
    let opened = opened_here media start len t m in
    let s = h.0 in
    let is =
    unless_some_passed (first_refusal (older_tests d s.readings (first_failing (check_list hash said s))))
    (IsGroundOver media d start len t s.readings) g h.2 in
    let pass = is_passable hash said d s is.0 in
    let same : ground_of is.1.2.0 is.1.0 (length s.readings + 1) ≡ g = cc (is.1.2.2) in
    let base : is.1.2.0 ≡ g.base = ap (λ (x : Ground). x.base) same in
    let count : length s.readings + 1 ≡ g.manifests = ap (λ (x : Ground). x.manifests) same in
    let content : is.1.0 ≡ g.content = ap (λ (x : Ground). x.content) same in
    let over : IsContentOver d t g.content = subst (IsContentOver d t) content is.1.1 in
    let left : IsLeft media start len g.base = subst (IsLeft media start len) base is.1.2.1 in
    let succeed : CanSucceedAt hash said media start len t s d =
    record
    { opened = opened; reads = h.1; valid = pass.valid; label = pass.label; redactions = pass.redactions; few = omega (arith, count, few) } in
    record {
      older = questions s.readings;
      asked = (here start len t, opened, (s.readings, h.1.reads.each, refl));
      approved = a_valid_store_is_approved hash said s pass.valid;
      meets =
          a_file_built_in_its_place_meets_the_rules_over hash said media start len t s d g.content message g.base bytes
          p read digests succeed w over left can spelled put;
    }

-- ---- all of it

-- the place of a ground is free
free_at :
    (hash : Alg → List ℕ → List ℕ) (said : Question → Verdict) (media definition message : List ℕ) (b : Built)
    (k : Known hash said media definition message b)
    → IsFreePlace k.ground.base k.place
free_at hash said media definition message b k =
    let free = free_place hash said media k.d k.kind k.ground k.is_media k.is_ground in
    subst (IsFreePlace k.ground.base) (a_place_is_one k.ground.base free.0 k.place free.1.is k.is_place) free.1

-- a file that is built meets all of it
meets_of :
    (hash : Alg → List ℕ → List ℕ) (said : Question → Verdict) (media definition message : List ℕ) (b : Built)
    → GivesDigests hash → HasTextsIn definition → (k : Known hash said media definition message b)
    → BuiltMeets hash said media definition message (built_of k.ground k.place k.bytes)
meets_of hash said media definition message b digests texts k =
    let d : Definition = k.d in
    let g : Ground = k.ground in
    let p : Place = k.place in
    let c : Content = g.content in
    let own : c.definition ≡ d = ground_definition hash said media d k.kind g k.is_ground in
    let numbers = pass_numbers g p k.numbers in
    let filled : length k.signed ≡ c.definition.reserve = k.is_signed.filled in
    let small : store_len p c (length k.signed) ≤ MAX_STORE_LEN =
    subst (λ (n : ℕ). store_len p c n ≤ MAX_STORE_LEN) (sym filled) numbers.small in
    let fits : length g.base + range_len p c (length k.signed) < FILE_LEN_LIMIT =
    subst (λ (n : ℕ). length g.base + range_len p c n < FILE_LEN_LIMIT) (sym filled) numbers.fits in
    let can : CanPut c (length k.signed) g.base p =
    record
    { place = free_at hash said media definition message b k; room = numbers.room; small = small; fits = fits } in
    let read : SignParts = padded_read k.parts (fill_pairs k.is_signed.fill) in
    let defined = stage_value BadDefinition (IsDefinition definition) d k.is_d in
    let writable : CanBeWritten d =
    record { formed = read_formed definition d k.is_d; texts = texts d defined } in
    let met =
    met_over hash said media d k.kind g p k.bytes k.signed read digests k.is_media k.is_ground writable
    numbers.few can k.is_signed.spelled k.put in
    let taken = stage_value BadSignature (IsMessageRead d.protected message) k.parts k.is_parts in
    let header : read.protected ≡ c.definition.protected =
    (accepted_messages_can_be_padded d.protected message k.parts taken.0 taken.1).own
    ∙ ap (λ (x : Definition). x.protected) (sym own) in
    let q : Question = place_question (hash (new_alg c.definition)) c (length k.signed) g.base p read in
    let store : Tree = place_store (hash (new_alg c.definition)) c k.signed g.base p in
    let meets : MeetsTheRules hash (place_file g.base p k.bytes) (place_start p) (new_range_len p c) store (q ∷ met.older) =
    subst (λ (n : ℕ). MeetsTheRules hash (place_file g.base p k.bytes) (place_start p) (range_len p c n) store (q ∷ met.older)) filled met.meets in
    let stays =
    a_base_stays (hash (new_alg c.definition)) c k.signed g.base k.bytes p
    (λ text. (digests (new_alg c.definition) text).sized) can k.put in
    let less : taken_out (place_start p) (new_range_len p c) (place_file g.base p k.bytes) ≡ g.base =
    subst (λ (n : ℕ). taken_out (place_start p) (range_len p c n) (place_file g.base p k.bytes) ≡ g.base) filled stays in
    record {
      store = store;
      question = q;
      older = met.older;
      written = record {
        new = d;
        defined = defined;
        kind = k.kind;
        opened = k.is_media;
        ground = g;
        grounded = k.is_ground;
        parts = k.parts;
        spelled = taken.1;
        padded = k.signed;
        filled = subst (λ (n : ℕ). IsSigned k.parts n k.signed) (ap (λ (x : Definition). x.reserve) own) k.is_signed;
        place = p;
        placed = k.is_place;
        is = refl;
      };
      meets = meets;
      signed =
          subst (λ (x : List ℕ). IsPlanned hash said media definition (Ok x))
          (same_signed hash g p k.signed read header filled) (planned_of hash said media definition message b k);
      asked = met.asked;
      approved = met.approved;
      begins = refl;
      base = less;
      kept =
          subst (KeepsBytes media k.kind) (sym less)
          (ground_keeps hash said media d k.kind g k.is_media k.is_ground);
      accepted =
          accepted_if hash (place_file g.base p k.bytes) (place_start p) (new_range_len p c) store
          (q ∷ met.older) meets;
    }

-- what is written meets all of it
pub built_meets : BuiltFileMeets
built_meets hash said media definition message b digests texts h =
    let k = known hash said media definition message b h in
    subst (BuiltMeets hash said media definition message) (sym k.same)
    (meets_of hash said media definition message b digests texts k)
