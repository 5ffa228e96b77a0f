-- What is refused of two files and of a new file that collects from them, and what can be built.
use Rattle.c2_new_signature.proofs.TheLaws.{a_message_fills_its_reserve_or_needs_more}
use Rattle.std.proofs.Common.{◌≡◌, ℕ, ◌+◌, ◌<◌, ◌≤◌, Bool, true, false, cond, List, [], ◌∷◌, length, Option, Some, None, option_map, refl, sym, ap, ◌∙◌, subst, ⊎_elim, arith}
use Rattle.std.specs.Prelude.{is_none, nat_le, nat_lt}
use Rattle.std.specs.Option.{option_to_list}
use Rattle.std.proofs.lemmas.Bool.{le-ltb, leb-false, lt-leb, ltb-false}
use Rattle.c2_base.specs.declared.limits.TheConstants.{FILE_LEN_LIMIT, MAX_MANIFESTS, MAX_ROOT_BOXES, MAX_STORE_LEN}
use Rattle.c2_base.specs.declared.values.Question.{Question}
use Rattle.c2_spec.specs.Bmff.Paths.{placed_from}
use Rattle.c2_spec.specs.Bmff.Writing.{open_end}
use Rattle.c2_spec.specs.C2pa.Message.{bare_bytes}
use Rattle.c2_spec.specs.C2pa.Sign1.{SignParts}
use Rattle.c2_spec.specs.Jumbf.Tree.{Tree, Trees, tree_bytes}
use Rattle.c2_spec.specs.Located.{Opening, absent, here, refused}
use Rattle.c2_spec.specs.declared.digest.Alg.{Alg}
use Rattle.c2_spec.specs.declared.panel.Verdict.{Verdict}
use Rattle.c2_spec.specs.declared.reason.Reason.TheVariants.{FileTooLarge, TooManyBoxes}
use Rattle.c2_rules.specs.Chains.{is_reached}
use Rattle.c2_rules.specs.CheckList.{answer_of, check_list, summary_of}
use Rattle.c2_rules.specs.Opened.{IsOpened}
use Rattle.c2_rules.specs.Readings.{Reading}
use Rattle.c2_rules.specs.Tests.{first_failing}
use Rattle.c2_rules.specs.declared.answer.Answer.{Answer}
use Rattle.c2_rules.specs.declared.answer.Answer.TheVariants as answers
use Rattle.c2_rules.specs.declared.answer.Failing.{Failing}
use Rattle.c2_rules.specs.declared.answer.Summary.{Summary}
use Rattle.c2_rules.proofs.FirstLemmas.{all_hold}
use Rattle.c2_chain_spec.specs.Joined.{has_manifest}
use Rattle.c2_chain_spec.specs.Rooted.{is_reached_from, last_roots}
use Rattle.c2_definition.specs.declared.types.Definition.{Definition}
use Rattle.c2_new_signature.specs.Refusals.{reserve_needed}
use Rattle.c2_new_signature.specs.Signed.{IsSigned}
use Rattle.c2_new_file_spec.specs.Manifests.{supers_in}
use Rattle.c2_new_file_spec.specs.Store.{Content, new_alg}
use Rattle.c2_new_file_spec.specs.Places.{CanPut, HasRoom, Place, in_boxes, in_segments, place_file, place_store, put_bytes, range_len, store_len}
use Rattle.c2_collect_spec.specs.Order.{CanCollectPair, CollectRefusal, FilePair, IsCollectedFile, IsMediaFile, IsOtherFile, IsValidAnswer, MediaFile, OtherFile}
use Rattle.c2_collect_spec.specs.Order.{CollectablePairIsUnrefused, CollectedIsNotRefused, NothingRefusedIsCollected, UnrefusedPairCollects}
use Rattle.c2_collect_spec.specs.Order.{box_refusals, collected_refusals, file_refusals, label_refusals, other_refusals}
use Rattle.c2_collect_spec.specs.Order.{pair_readings, pair_refusals, pair_roots, place_refusals, reserve_refusals, size_refusals}
use Rattle.c2_collect_spec.specs.Order.{label_clash, label_taken, media_refused, no_instance, open_box, parent_fails, redaction_refused, reserve_too_small, store_too_large, too_many_manifests}
use Rattle.c2_collect_spec.specs.Refusals.{redaction_refusal_by}
use Rattle.c2_collect_spec.specs.Sides.{DoNotClash, IsClash}
use Rattle.c2_collect_spec.specs.Stores.{IsAcceptedFile, IsRootedStore}
use Rattle.c2_collect_spec.proofs.Contents.{content_one}
use Rattle.c2_collect_spec.proofs.Stores.{accepted_rooted, none_rooted}
use Rattle.c2_lemmas.proofs.Options.{never_some}
use Rattle.c2_lemmas.proofs.Lists.{both_none, none_both}

-- ---- lists of refusals

-- nothing comes of nothing alone
pub none_told : {A : Type 0} (f : A → CollectRefusal) (o : Option A) → option_to_list (option_map f o) ≡ [] → o ≡ None
none_told f None e = refl
none_told f (Some a) e = absurd (cc (e))

-- nothing comes of nothing
told_none : {A : Type 0} (f : A → CollectRefusal) (o : Option A) → o ≡ None → option_to_list (option_map f o) ≡ []
told_none f o e = ap (λ p. option_to_list (option_map f p)) e

-- a test that passes
pub test_false : (b : Bool) (r : CollectRefusal) → cond b (r ∷ []) [] ≡ [] → b ≡ false
test_false true r e = absurd (cc (e))
test_false false r e = refl

-- a test that passes refuses nothing
test_none : (b : Bool) (r : CollectRefusal) → b ≡ false → cond b (r ∷ []) [] ≡ []
test_none b r e = ap (λ (t : Bool). cond t (r ∷ []) []) e

-- ---- the other file

-- the other file is valid where nothing of it is refused
pub valid_answer : (a : Answer) → other_refusals a ≡ [] → IsValidAnswer a
valid_answer (answers.Valid summary) e = (summary, refl)
valid_answer (answers.Failing failing) e = absurd (cc (e))
valid_answer (answers.Refused reason number) e = absurd (cc (e))
valid_answer answers.NoStore e = absurd (cc (e))

-- nothing of the other file is refused where it is valid
answer_none : (a : Answer) → IsValidAnswer a → other_refusals a ≡ []
answer_none a h = ap other_refusals h.1

-- no condition fails where the answer is that the file is valid
pub none_failing : (summary s : Summary) (o : Option Failing) → answer_of summary o ≡ answers.Valid s → o ≡ None
none_failing summary s None e = refl
none_failing summary s (Some failing) e = absurd (cc (e))

-- what is known of the other file, where it is valid
pub record IsOtherStore (hash : Alg → List ℕ → List ℕ) (o : OtherFile) : Type 0 where
  pub rooted : IsRootedStore hash o.boxes o.readings (last_roots o.readings)
  pub some : 0 < length o.readings

-- the store of another file that is valid can be joined
pub other_store :
    (hash : Alg → List ℕ → List ℕ) (said : Question → Verdict) (file : List ℕ) (what : Opening Tree) (o : OtherFile)
    → IsOpened file what → IsOtherFile hash said file what o → IsValidAnswer o.answer → IsOtherStore hash o
other_store hash said file (refused reason number) o opened is valid =
    let bad : answers.Refused reason number ≡ answers.Valid valid.0 =
    sym (ap (λ (x : OtherFile). x.answer) is) ∙ valid.1 in absurd (cc (bad))
other_store hash said file absent o opened is valid =
    let bad : answers.NoStore ≡ answers.Valid valid.0 =
    sym (ap (λ (x : OtherFile). x.answer) is) ∙ valid.1 in absurd (cc (bad))
other_store hash said file (here start len t) o opened is valid =
    let none =
    none_failing (summary_of (length file) start len is.reading) valid.0
    (first_failing (check_list hash said is.reading)) (sym is.answer ∙ valid.1) in
    let accepted : IsAcceptedFile hash said file start len t is.reading =
    record { opened = opened; reads = is.reads; valid = all_hold (check_list hash said is.reading) none } in
    let k = accepted_rooted hash said file start len t is.reading accepted in
    record {
      rooted = subst (λ (rs : List Reading). IsRootedStore hash o.boxes rs (last_roots rs)) (sym is.readings)
          (subst (λ (x : Trees). IsRootedStore hash x is.reading.readings (last_roots is.reading.readings)) (sym is.boxes) k.0);
      some = subst (λ (rs : List Reading). 0 < length rs) (sym is.readings) k.1;
    }

-- ---- the media file

-- the media's store can be joined, where no rule of it fails; where there is none, no boxes can
pub media_store :
    (hash : Alg → List ℕ → List ℕ) (said : Question → Verdict) (file : List ℕ) (what : Opening Tree) (m : MediaFile)
    → IsOpened file what → IsMediaFile hash said file what m → m.failing ≡ None
    → IsRootedStore hash m.boxes m.readings (last_roots m.readings)
media_store hash said file (refused reason number) m opened is none = absurd is
media_store hash said file absent m opened is none =
    subst (λ (x : MediaFile). IsRootedStore hash x.boxes x.readings (last_roots x.readings)) (sym is) (none_rooted hash)
media_store hash said file (here start len t) m opened is none =
    let accepted : IsAcceptedFile hash said file start len t is.reading =
    record { opened = opened; reads = is.reads; valid = all_hold (check_list hash said is.reading) (sym is.failing ∙ none) } in
    let k = accepted_rooted hash said file start len t is.reading accepted in
    subst (λ (rs : List Reading). IsRootedStore hash m.boxes rs (last_roots rs)) (sym is.readings)
    (subst (λ (x : Trees). IsRootedStore hash x is.reading.readings (last_roots is.reading.readings)) (sym is.boxes) k.0)

-- ---- both files

-- two stores don't clash where no label is told
no_clash : (olds : List Tree) (was : ℕ → Bool) (others : List Tree) (reached : ℕ → Bool) (o : Option (List ℕ))
    → IsClash olds was others reached o → o ≡ None → DoNotClash olds was others reached
no_clash olds was others reached None h e = h
no_clash olds was others reached (Some label) h e = absurd (cc (e))

-- no label is told where two stores don't clash
clash_none : (olds : List Tree) (was : ℕ → Bool) (others : List Tree) (reached : ℕ → Bool) (o : Option (List ℕ))
    → IsClash olds was others reached o → DoNotClash olds was others reached → o ≡ None
clash_none olds was others reached None h apart = refl
clash_none olds was others reached (Some label) h apart = absurd (apart h.place h.first.here)

-- a new store may collect from two files of which nothing is refused
pub pair_collects : UnrefusedPairCollects
pair_collects hash said d media other p is e =
    let parent = both_none (option_to_list (option_map parent_fails p.media.failing)) _ e in
    let found = both_none (other_refusals p.other.answer) _ parent.1 in
    let clash = both_none (option_to_list (option_map label_clash p.clash)) _ found.1 in
    let label = both_none (label_refusals d.label (pair_readings p)) _ clash.1 in
    let failing : p.media.failing ≡ None = none_told parent_fails p.media.failing parent.0 in
    let valid : IsValidAnswer p.other.answer = valid_answer p.other.answer found.0 in
    let o : IsOtherStore hash p.other =
    other_store hash said other is.found p.other is.is_found is.is_other valid in
    record {
      media = failing;
      other = valid;
      can = record {
        joins = record {
          old_store = media_store hash said media is.opened p.media is.is_opened is.is_media failing;
          other_store = o.rooted;
          some = o.some;
          apart =
              no_clash (supers_in p.media.boxes) (is_reached p.media.readings) (supers_in p.other.boxes)
              (is_reached p.other.readings) p.clash is.is_clash (none_told label_clash p.clash clash.0);
        };
        label = test_false (has_manifest (pair_readings p) d.label) (label_taken d.label) label.0;
        redactions =
            none_told redaction_refused
            (redaction_refusal_by (is_reached_from (pair_readings p) (pair_roots p)) d.label (pair_readings p) d.redact)
            label.1;
      };
    }

-- nothing is refused of two files from which a new store may collect
pub pair_unrefused : CollectablePairIsUnrefused
pair_unrefused hash said d media other p is h =
    let clash : p.clash ≡ None =
    clash_none (supers_in p.media.boxes) (is_reached p.media.readings) (supers_in p.other.boxes) (is_reached p.other.readings) p.clash is.is_clash h.can.joins.apart in
    none_both (option_to_list (option_map parent_fails p.media.failing)) _
    (told_none parent_fails p.media.failing h.media)
    (none_both (other_refusals p.other.answer) _ (answer_none p.other.answer h.other)
    (none_both (option_to_list (option_map label_clash p.clash)) _ (told_none label_clash p.clash clash)
    (none_both (label_refusals d.label (pair_readings p)) _ (test_none (has_manifest (pair_readings p) d.label) (label_taken d.label) h.can.label)
    (told_none redaction_refused (redaction_refusal_by (is_reached_from (pair_readings p) (pair_roots p)) d.label (pair_readings p) d.redact) h.can.redactions))))

-- ---- the new file

-- What is known of a new file of which nothing is refused.
pub record Fits (base : List ℕ) (c : Content) (reserve manifests : ℕ) (p : Place) : Type 0 where
  pub room : HasRoom p
  pub few : manifests ≤ MAX_MANIFESTS
  pub small : store_len p c reserve ≤ MAX_STORE_LEN
  pub fits : length base + range_len p c reserve < FILE_LEN_LIMIT

-- a place has room where neither test on it alone fails
has_room : (p : Place) → place_refusals p ≡ [] → box_refusals p ≡ [] → HasRoom p
has_room (in_segments segments None) h k = absurd (cc (h))
has_room (in_segments segments (Some en)) h k = (en, refl)
has_room (in_boxes roots) h k =
    (none_told open_box (open_end (placed_from 0 roots)) h, leb-false MAX_ROOT_BOXES (length roots) (test_false (nat_le MAX_ROOT_BOXES (length roots)) (media_refused TooManyBoxes MAX_ROOT_BOXES) k))

-- nothing of a place alone is refused where it has room
place_none : (p : Place) → HasRoom p → place_refusals p ≡ []
place_none (in_segments segments number) h = ap (λ o. cond (is_none o) (no_instance ∷ []) []) h.1
place_none (in_boxes roots) h = told_none open_box (open_end (placed_from 0 roots)) h.0

-- nothing of the root boxes of a place is refused where it has room
box_none : (p : Place) → HasRoom p → box_refusals p ≡ []
box_none (in_segments segments number) h = refl
box_none (in_boxes roots) h =
    test_none (nat_le MAX_ROOT_BOXES (length roots)) (media_refused TooManyBoxes MAX_ROOT_BOXES)
    (lt-leb MAX_ROOT_BOXES (length roots) h.1)

-- a new file fits where nothing of it is refused
pub file_fits : (base : List ℕ) (c : Content) (reserve manifests : ℕ) (p : Place)
    → file_refusals base c reserve manifests p ≡ []
    → Fits base c reserve manifests p
file_fits base c reserve manifests p e =
    let store : ℕ = store_len p c reserve in
    let file : ℕ = length base + range_len p c reserve in
    let place = both_none (place_refusals p) _ e in
    let sizes = both_none (size_refusals manifests store file) _ place.1 in
    let few = both_none (cond (nat_lt MAX_MANIFESTS manifests) (too_many_manifests manifests ∷ []) []) _ sizes.0 in
    let small = both_none (cond (nat_lt MAX_STORE_LEN store) (store_too_large store ∷ []) []) _ few.1 in
    record {
      room = has_room p place.0 sizes.1;
      few =
          ltb-false MAX_MANIFESTS manifests
          (test_false (nat_lt MAX_MANIFESTS manifests) (too_many_manifests manifests) few.0);
      small = ltb-false MAX_STORE_LEN store (test_false (nat_lt MAX_STORE_LEN store) (store_too_large store) small.0);
      fits =
          leb-false FILE_LEN_LIMIT file
          (test_false (nat_le FILE_LEN_LIMIT file) (media_refused FileTooLarge file) small.1);
    }

-- nothing of a new file is refused where it fits
file_none : (base : List ℕ) (c : Content) (reserve manifests : ℕ) (p : Place) → Fits base c reserve manifests p
    → file_refusals base c reserve manifests p ≡ []
file_none base c reserve manifests p h =
    let store : ℕ = store_len p c reserve in
    let file : ℕ = length base + range_len p c reserve in
    let sizes : size_refusals manifests store file ≡ [] =
    none_both (cond (nat_lt MAX_MANIFESTS manifests) (too_many_manifests manifests ∷ []) []) _
    (test_none (nat_lt MAX_MANIFESTS manifests) (too_many_manifests manifests) (le-ltb MAX_MANIFESTS manifests h.few))
    (none_both (cond (nat_lt MAX_STORE_LEN store) (store_too_large store ∷ []) []) _ (test_none (nat_lt MAX_STORE_LEN store) (store_too_large store) (le-ltb MAX_STORE_LEN store h.small))
    (test_none (nat_le FILE_LEN_LIMIT file) (media_refused FileTooLarge file) (lt-leb FILE_LEN_LIMIT file h.fits))) in
    none_both (place_refusals p) _ (place_none p h.room)
    (none_both (size_refusals manifests store file) (box_refusals p) sizes (box_none p h.room))

-- something is put in where there is room
pub some_bytes : (p : Place) → HasRoom p → (store : List ℕ) → (bytes : List ℕ) × (put_bytes p store ≡ Some bytes)
some_bytes (in_segments segments None) h store = absurd (cc (h.1))
some_bytes (in_segments segments (Some en)) h store = (_, refl)
some_bytes (in_boxes roots) h store = (_, refl)

-- ---- the message

-- ---- all of it

-- where nothing is refused, the file is built with a message that fills what is reserved for it
pub nothing_refused : NothingRefusedIsCollected
nothing_refused hash said media other d parts pair c p h e =
    let both = both_none (pair_refusals d pair) _ e in
    let file = both_none (collected_refusals d pair c p) (reserve_refusals d parts) both.1 in
    let needed : Option ℕ = reserve_needed d.reserve (length (bare_bytes parts)) in
    let enough : needed ≡ None = none_told reserve_too_small needed file.1 in
    let k : CanCollectPair hash d pair = pair_collects hash said d media other pair h.read both.0 in
    let f : Fits base c d.reserve (length (pair_readings pair) + 1) p =
    file_fits base c d.reserve (length (pair_readings pair) + 1) p file.0 in
    ⊎_elim (λ s. made k f s) (λ n. absurd (let bad = sym enough ∙ n.1 in cc (bad)))
    (a_message_fills_its_reserve_or_needs_more.either h.bytes parts d.reserve h.paddable)
  where
    base : List ℕ
    base = pair.media.base

    made : CanCollectPair hash d pair → Fits base c d.reserve (length (pair_readings pair) + 1) p
        → (message : List ℕ) × IsSigned parts d.reserve message
        → (file : List ℕ) × IsCollectedFile hash d pair parts p file
    made k f s =
        let count = f.few in
        let bytes = some_bytes p f.room (tree_bytes (place_store (hash (new_alg d)) c s.0 base p)) in (
          place_file base p bytes.0,
          record {
            own = h.own;
            collects = k;
            content = c;
            collected = record { can = k.can; few = omega (arith, count); written = h.written; content = h.content };
            message = s.0;
            signed = s.1;
            can = record {
              place = h.place;
              room = f.room;
              small = subst (λ n. store_len p c n ≤ MAX_STORE_LEN) (sym s.1.filled) f.small;
              fits = subst (λ n. length base + range_len p c n < FILE_LEN_LIMIT) (sym s.1.filled) f.fits;
            };
            bytes = bytes.0;
            put = bytes.1;
            is = refl;
          },
        )

-- nothing of the new file is refused where it is built
pub file_unrefused : (hash : Alg → List ℕ → List ℕ) (d : Definition) (pair : FilePair) (parts : SignParts) (p : Place) (file : List ℕ) (b : IsCollectedFile hash d pair parts p file)
    → collected_refusals d pair b.content p ≡ []
file_unrefused hash d pair parts p file b =
    let x : Content = b.content in
    let base : List ℕ = pair.media.base in
    let can : CanPut x d.reserve base p = subst (λ n. CanPut x n base p) b.signed.filled b.can in
    let count = b.collected.few in
    file_none base x d.reserve (length (pair_readings pair) + 1) p
    (record { room = can.room; few = omega (arith, count); small = can.small; fits = can.fits })

-- nothing of the message of a new file is refused where the file is built
pub reserve_unrefused :
    (hash : Alg → List ℕ → List ℕ) (d : Definition) (pair : FilePair) (parts : SignParts) (p : Place) (file : List ℕ)
    → IsCollectedFile hash d pair parts p file → reserve_refusals d parts ≡ []
reserve_unrefused hash d pair parts p file b =
    let needed : Option ℕ = reserve_needed d.reserve (length (bare_bytes parts)) in
    told_none reserve_too_small needed
    (never_some needed
    (λ n e. a_message_fills_its_reserve_or_needs_more.never_both parts d.reserve b.message b.signed (n, e)))

-- nothing at all is refused where a file is built
pub built_unrefused : CollectedIsNotRefused
built_unrefused hash said media other d parts pair c p file h b =
    let same : b.content ≡ c =
    content_one d pair.media.boxes pair.other.boxes pair.media.readings pair.other.readings b.content c b.collected.content h.content in
    none_both (pair_refusals d pair) _ (pair_unrefused hash said d media other pair h.read b.collects)
    (none_both (collected_refusals d pair c p) (reserve_refusals d parts)
    (subst (λ (g : Content). collected_refusals d pair g p ≡ []) same (file_unrefused hash d pair parts p file b))
    (reserve_unrefused hash d pair parts p file b))
