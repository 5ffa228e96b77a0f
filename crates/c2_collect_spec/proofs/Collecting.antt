-- The new store over the joined boxes of two stores meets the rules; what it asks, and what is reached in it.
use Rattle.c2_read_manifests.proofs.TheLaws.{one_reading_manifests}
use Rattle.c2_chain_spec.proofs.ChainLaws.{chains_join}
use Rattle.c2_new_content_spec.proofs.ContentLaws.{a_gathered_store_meets_the_rules_meets, a_gathered_store_meets_the_rules_reaches}
use Rattle.c2_new_file_spec.proofs.ParentLaws.{a_redacted_store_is_read_less}
use Rattle.std.proofs.Common.{◌≡◌, inl, inr, ⊎_elim, ℕ, zero, suc, ◌+◌, ◌-◌, ◌<◌, ◌≤◌, Bool, true, false, cond, List, [], ◌∷◌, length, Option, Some, None, Contains, slice_get, refl, sym, ap, ◌∙◌, subst, arith, length-append}
use Rattle.std.specs.Prelude.{not, option_to_list}
use Rattle.std.specs.List.{AllByRecursion, AllZip}
use Rattle.std.proofs.lemmas.Bool.{cases_eq, cases_lt}
use Rattle.std.proofs.lemmas.Option.{slice_get_within}
use Rattle.c2_base.specs.declared.values.Question.{Question}
use Rattle.c2_spec.specs.C2pa.Manifest.{manifests_of}
use Rattle.c2_spec.specs.C2pa.Sign1.{SignParts}
use Rattle.c2_spec.specs.Jumbf.Tree.{Trees}
use Rattle.c2_spec.specs.declared.digest.Alg.{Alg}
use Rattle.c2_spec.specs.declared.panel.Verdict.TheVariants.{Approved}
use Rattle.c2_rules.specs.Chains.{is_reached}
use Rattle.c2_rules.specs.CheckList.{question_at, questions, questions_of}
use Rattle.c2_rules.specs.Readings.{Reading, question_in}
use Rattle.c2_rules.specs.Tests.{downward}
use Rattle.c2_rules.proofs.ListLemmas.{contains_head}
use Rattle.c2_chain_spec.specs.Joined.{JoinIs, has_manifest, is_carried, joined, picked}
use Rattle.c2_chain_spec.specs.Rooted.{is_reached_from, last_roots}
use Rattle.c2_chain_spec.proofs.Joining as joining
use Rattle.c2_chain_spec.proofs.Places.{contains_left, contains_right, from_right, get_left, picked_of}
use Rattle.c2_definition.specs.declared.types.Definition.{Definition}
use Rattle.c2_definition.specs.declared.types.NewAssertion.{NewAssertion}
use Rattle.c2_new_file_spec.specs.Manifests.{supers_in}
use Rattle.c2_new_file_spec.specs.Store.{Content, NamedManifest, NewIngredient, new_alg, new_store}
use Rattle.c2_new_file_spec.specs.Written.{AreIngredients, CanBeWritten}
use Rattle.c2_new_file_spec.specs.Less.{IsReadLess}
use Rattle.c2_new_file_spec.specs.Redacting.{redacted_boxes}
use Rattle.c2_new_content_spec.specs.Gathered.{IsOverRoots, ReachesRoots}
use Rattle.c2_new_content_spec.specs.Taken.{IsRoot, IsTakenFrom, question_from, questions_from}
use Rattle.c2_collect_spec.specs.Collected.{CanJoin, CollectedStoreMeets, CollectedStoreReaches, CollectsFrom, IsCollected, IsNamedAt, IsOfEither, IsStored, JoinedIsReached, JoinedReaches}
use Rattle.c2_collect_spec.specs.Collected.{QuestionsAreApproved, QuestionsAreOfEither, ReachesCollected, WasReached, collected_boxes, collected_ingredients, collected_readings, collected_roots}
use Rattle.c2_collect_spec.specs.Collected.WasReached.{in_media, in_other}
use Rattle.c2_collect_spec.specs.Stores.{IsRootedStore}
use Rattle.c2_collect_spec.proofs.Contents.{apart_from, ingredients_ok, ingredients_zip, joined_store, roots_are, same_reached, two_roots}
use Rattle.c2_collect_spec.proofs.Stores.{none_clashes, taken_less}
use Rattle.c2_lemmas.proofs.Bools.{both_true}
use Rattle.c2_lemmas.proofs.Each.{each_append, member_of}
use Rattle.c2_lemmas.proofs.Options.{some_at}

-- ---- the store

-- what the new store is: over the joined chain, with an ingredient for each of its roots
record IsMade (hash : Alg → List ℕ → List ℕ) (old_rs other_rs : List Reading) (c : Content) (binding : NewAssertion) (message : List ℕ) (p : SignParts) : Type 0 where
  left : List Reading
  over : IsOverRoots hash c binding message p (collected_roots old_rs other_rs) (collected_readings old_rs other_rs)
      left

-- the new store is over the joined chain, with an ingredient for each of its roots
made :
    (hash : Alg → List ℕ → List ℕ) (d : Definition) (old other : Trees) (old_rs other_rs : List Reading) (c : Content)
    (binding : NewAssertion) (message : List ℕ) (p : SignParts)
    → IsCollected hash d old other old_rs other_rs c → IsStored hash c binding message p
    → IsMade hash old_rs other_rs c binding message p
made hash d old other old_rs other_rs c binding message p is stored =
    let js : List Reading = collected_readings old_rs other_rs in
    let roots : List ℕ = collected_roots old_rs other_rs in
    let boxes : Trees = collected_boxes old other other_rs in
    let from : CollectsFrom d old other old_rs other_rs c = is.content in
    let s : IsRootedStore hash boxes js roots = joined_store hash old other old_rs other_rs is.can.joins in
    let k : IsReadLess d.redact boxes js =
    a_redacted_store_is_read_less d.redact boxes js s.legal s.stores s.reads in
    let taken : IsTakenFrom hash d (redacted_boxes d.redact boxes) roots js k.ss =
    taken_less hash d boxes js roots k s is.can.label is.few is.can.redactions in
    let zips : AllZip (λ (g : NewIngredient) root. IsRoot js k.ss g.of root) (collected_ingredients from.named) roots =
    ingredients_zip (IsRoot js k.ss) from.named roots (two_roots old_rs other_rs)
    (roots_are hash d.redact boxes roots js from.named roots k s.rooted s.rooted.within
    (subst (λ (x : Trees). AllZip (λ (q : NamedManifest) root. IsNamedAt q (supers_in x) root) from.named roots) from.carried from.are)) in
    record {
      left = k.ss;
      over = record {
        written = subst CanBeWritten (sym from.definition) is.written;
        ingredients = subst AreIngredients (sym from.ingredients) (ingredients_ok from.named);
        known = stored.known;
        fits = stored.fits;
        spells = stored.spells;
        taken = subst (λ (x : Definition). IsTakenFrom hash x c.carried roots js k.ss) (sym from.definition)
            (subst (λ (x : Trees). IsTakenFrom hash d x roots js k.ss) (sym from.carried) taken);
        named =
            subst (λ (gs : List NewIngredient). AllZip (λ (g : NewIngredient) root. IsRoot js k.ss g.of root) gs roots)
            (sym from.ingredients) zips;
      };
    }

-- the new store meets the rules
pub collected_meets : CollectedStoreMeets
collected_meets hash d old other old_rs other_rs c binding message p is stored =
    let m : IsMade hash old_rs other_rs c binding message p =
    made hash d old other old_rs other_rs c binding message p is stored in
    a_gathered_store_meets_the_rules_meets hash c binding message p (collected_roots old_rs other_rs)
    (collected_readings old_rs other_rs) m.left m.over

-- ---- what is reached

-- two chains that may be joined join to one
joins : (hash : Alg → List ℕ → List ℕ) (old other : Trees) (old_rs other_rs : List Reading)
    → CanJoin hash old other old_rs other_rs
    → JoinIs hash old_rs (last_roots old_rs) other_rs (last_roots other_rs) (collected_readings old_rs other_rs)
joins hash old other old_rs other_rs can =
    subst (λ f. JoinIs hash old_rs (last_roots old_rs) other_rs (last_roots other_rs) (joined old_rs f other_rs))
    (sym (same_reached other_rs))
    (chains_join hash old_rs other_rs (last_roots old_rs) (last_roots other_rs) can.old_store.rooted can.other_store.rooted
    (none_clashes hash old other old_rs other_rs (last_roots old_rs) (last_roots other_rs) can.old_store can.other_store (apart_from hash old other old_rs other_rs can)))

-- a manifest that is carried
record IsCarriedFrom (other_rs : List Reading) (i : ℕ) (r : Reading) : Type 0 where
  place : ℕ
  is_reached : is_reached other_rs place ≡ true
  stands : slice_get other_rs place ≡ Some r

-- each behind the media's is one
carried_from : (old_rs other_rs : List Reading) (i : ℕ) (r : Reading) → length old_rs ≤ i
    → slice_get (collected_readings old_rs other_rs) i ≡ Some r → IsCarriedFrom other_rs i r
carried_from old_rs other_rs i r le is =
    let cs : List Reading = picked (is_carried old_rs (is_reached other_rs)) 0 other_rs in
    let from =
    picked_of (is_carried old_rs (is_reached other_rs)) (i - length old_rs) other_rs r
    (from_right old_rs cs i r le is) in
    record
    { place = from.0; is_reached = (both_true (is_reached other_rs from.0) (not (has_manifest old_rs _)) from.2).0; stands = from.1 }

-- a manifest that is reached in the other store stands somewhere in the joined chain
stood : (hash : Alg → List ℕ → List ℕ) (old other : Trees) (old_rs other_rs : List Reading)
    → CanJoin hash old other old_rs other_rs
    → (place : ℕ) (r : Reading) → is_reached other_rs place ≡ true → slice_get other_rs place ≡ Some r
    → (i : ℕ) × (slice_get (collected_readings old_rs other_rs) i ≡ Some r)
stood hash old other old_rs other_rs can place r e is =
    let apart =
    none_clashes hash old other old_rs other_rs (last_roots old_rs) (last_roots other_rs) can.old_store
    can.other_store (apart_from hash old other old_rs other_rs can) in
    let found =
    (joining.joins hash old_rs other_rs (last_roots old_rs) (last_roots other_rs) can.old_store.rooted can.other_store.rooted apart).stands
    place r (sym (ap (λ f. f place) (same_reached other_rs)) ∙ e) is in
    subst (λ f. (i : ℕ) × (slice_get (joined old_rs f other_rs) i ≡ Some r)) (sym (same_reached other_rs))
    (found.0, found.1)

-- this is reached in the joined chain
pub joined_reaches : JoinedIsReached
joined_reaches hash old other old_rs other_rs can =
    record { each = λ i lt. (to i lt, from i); media = media; carried = carried; stands = stands }
  where
    js : List Reading
    js = collected_readings old_rs other_rs

    is_in : ℕ → Bool
    is_in = is_reached_from js (collected_roots old_rs other_rs)

    j : JoinIs hash old_rs (last_roots old_rs) other_rs (last_roots other_rs) js
    j = joins hash old other old_rs other_rs can

    media : (i : ℕ) → i < length old_rs → is_in i ≡ is_reached old_rs i
    media i lt = j.reached.front i lt ∙ sym (ap (λ f. f i) (same_reached old_rs))

    found : (place i : ℕ) (r : Reading) → is_reached other_rs place ≡ true → slice_get other_rs place ≡ Some r
        → slice_get js i ≡ Some r
        → is_in i ≡ true
    found place i r e is at = j.reached.carried place i r (sym (ap (λ f. f place) (same_reached other_rs)) ∙ e) is at

    carried : (i : ℕ) → length old_rs ≤ i → i < length js → is_in i ≡ true
    carried i le lt =
        let at = some_at js i lt in
        let from : IsCarriedFrom other_rs i at.0 = carried_from old_rs other_rs i at.0 le at.1 in
        found from.place i at.0 from.is_reached from.stands at.1

    stands : (place : ℕ) (r : Reading) → is_reached other_rs place ≡ true → slice_get other_rs place ≡ Some r
        → (i : ℕ) × (slice_get js i ≡ Some r) × (is_in i ≡ true)
    stands place r e is =
        let at = stood hash old other old_rs other_rs can place r e is in (at.0, at.1, found place at.0 r e is at.1)

    to : (i : ℕ) → i < length js → is_in i ≡ true → WasReached old_rs other_rs i
    to i lt e = ⊎_elim (λ own. in_media own (sym (media i own) ∙ e))
        (λ le.
        let at = some_at js i lt in
        let k : IsCarriedFrom other_rs i at.0 = carried_from old_rs other_rs i at.0 le at.1 in
        in_other k.place at.0 k.is_reached k.stands at.1) (cases_lt i (length old_rs))

    from : (i : ℕ) → WasReached old_rs other_rs i → is_in i ≡ true
    from i (in_media lt e) = media i lt ∙ e
    from i (in_other place r e is at) = found place i r e is at

-- what is reached of older places is so by another test that says the same of them
older_reaches : (old_rs other_rs : List Reading) (f g : ℕ → Bool)
    → ((i : ℕ) → i < length (collected_readings old_rs other_rs) → g i ≡ f i) → JoinedReaches old_rs other_rs f
    → JoinedReaches old_rs other_rs g
older_reaches old_rs other_rs f g same k =
    let js : List Reading = collected_readings old_rs other_rs in
    let cs : List Reading = picked (is_carried old_rs (is_reached other_rs)) 0 other_rs in
    let front : length js ≡ length old_rs + length cs = length-append old_rs cs in
    record {
      each = λ i lt. let e = k.each i lt in (λ h. e.0 (sym (same i lt) ∙ h), λ h. same i lt ∙ e.1 h);
      media = λ i lt. same i (omega (arith, front, lt)) ∙ k.media i lt;
      carried = λ i le lt. same i lt ∙ k.carried i le lt;
      stands = λ place r e is.
          let at = k.stands place r e is in (at.0, at.1, same at.0 (slice_get_within js at.0 r at.1) ∙ at.2);
    }

-- the new manifest, what was reached in the first store and all that is carried are reached in the new store
pub collected_reaches : CollectedStoreReaches
collected_reaches hash d old other old_rs other_rs c binding message p all is stored reads =
    let js : List Reading = collected_readings old_rs other_rs in
    let roots : List ℕ = collected_roots old_rs other_rs in
    let m : IsMade hash old_rs other_rs c binding message p =
    made hash d old other old_rs other_rs c binding message p is stored in
    let g = a_gathered_store_meets_the_rules_reaches hash c binding message p roots js m.left m.over in
    let r : ReachesRoots js roots g.0 = g.2 in
    let k : JoinedReaches old_rs other_rs (is_reached_from js roots) =
    joined_reaches hash old other old_rs other_rs is.can.joins in
    subst (ReachesCollected old_rs other_rs)
    (one_reading_manifests (manifests_of (new_store (hash (new_alg c.definition)) c binding message)) g.0 all g.1 reads)
    (record { count = r.count; new = r.new; older = older_reaches old_rs other_rs (is_reached_from js roots) (is_reached g.0) r.older k })

-- ---- questions

-- what holds at each place holds of all
all_places : (P : Question → Type 0) (f : ℕ → List Question) (n : ℕ) → ((i : ℕ) → i < n → AllByRecursion P (f i))
    → AllByRecursion P (downward f n)
all_places P f zero h = tt
all_places P f (suc n) h =
    each_append P (f n) (downward f n) (h n (omega arith)) (all_places P f n (λ i lt. h i (omega (arith, lt))))

-- what is asked at a place is asked
in_places : (f : ℕ → List Question) (n i : ℕ) (q : Question) → i < n → Contains (f i) q → Contains (downward f n) q
in_places f zero i q lt c = absurd (omega arith)
in_places f (suc n) i q lt c =
    ⊎_elim (λ same. contains_left (f n) (downward f n) q (subst (λ k. Contains (f k) q) same c))
    (λ other. contains_right (f n) (downward f n) q (in_places f n i q (omega (arith, lt, other)) c)) (cases_eq i n)

-- the question of a manifest that is reached is asked
asked : (rs : List Reading) (i : ℕ) (r : Reading) (q : Question) → is_reached rs i ≡ true → slice_get rs i ≡ Some r
    → question_in r ≡ Some q → Contains (questions rs) q
asked rs i r q reached is asks = in_places (question_at rs) (length rs) i q (slice_get_within rs i r is)
    (subst (λ b. Contains (cond b (questions_of (slice_get rs i)) []) q) (sym reached)
    (subst (λ o. Contains (questions_of o) q) (sym is) (subst (λ o. Contains (option_to_list o) q) (sym asks) (contains_head q []))))

-- each question of the joined chain is one of either
pub of_either : QuestionsAreOfEither
of_either hash old other old_rs other_rs can =
    all_places (IsOfEither old_rs other_rs) (question_from js roots) (length js)
    (λ i lt. go i (is_reached_from js roots i) (slice_get js i) refl refl)
  where
    js : List Reading
    js = collected_readings old_rs other_rs

    roots : List ℕ
    roots = collected_roots old_rs other_rs

    cs : List Reading
    cs = picked (is_carried old_rs (is_reached other_rs)) 0 other_rs

    from : (i : ℕ) (r : Reading) (q : Question) → question_in r ≡ Some q → is_reached_from js roots i ≡ true
        → slice_get js i ≡ Some r → IsOfEither old_rs other_rs q
    from i r q asks reached is =
        ⊎_elim
        (λ lt. inl (asked old_rs i r q (sym ((joined_reaches hash old other old_rs other_rs can).media i lt) ∙ reached) (sym (get_left old_rs cs i lt) ∙ is) asks))
        (λ le. let k : IsCarriedFrom other_rs i r = carried_from old_rs other_rs i r le is in inr (asked other_rs k.place r q k.is_reached k.stands asks)) (cases_lt i (length old_rs))

    one : (i : ℕ) (r : Reading) (o : Option Question) → question_in r ≡ o → is_reached_from js roots i ≡ true
        → slice_get js i ≡ Some r → AllByRecursion (IsOfEither old_rs other_rs) (option_to_list o)
    one i r None asks reached is = tt
    one i r (Some q) asks reached is = (from i r q asks reached is, tt)

    go : (i : ℕ) (b : Bool) (o : Option Reading) → is_reached_from js roots i ≡ b → slice_get js i ≡ o
        → AllByRecursion (IsOfEither old_rs other_rs) (cond b (questions_of o) [])
    go i false o e f = tt
    go i true None e f = tt
    go i true (Some r) e f = one i r (question_in r) refl e f

-- what holds of the questions of both holds of each that is of either
each_of_either : (P : Question → Type 0) (old_rs other_rs : List Reading) (qs : List Question)
    → AllByRecursion P (questions old_rs) → AllByRecursion P (questions other_rs)
    → AllByRecursion (IsOfEither old_rs other_rs) qs
    → AllByRecursion P qs
each_of_either P old_rs other_rs [] a b h = tt
each_of_either P old_rs other_rs (q ∷ qs) a b h =
    (⊎_elim (λ own. member_of P (questions old_rs) q a own) (λ other. member_of P (questions other_rs) q b other) h.0, each_of_either P old_rs other_rs qs a b h.1)

-- judges who approve the questions of both stores approve those of the joined chain
pub all_approved : QuestionsAreApproved
all_approved hash said old other old_rs other_rs can a b =
    each_of_either (λ q. said q ≡ Approved) old_rs other_rs
    (questions_from (collected_readings old_rs other_rs) (collected_roots old_rs other_rs)) a b
    (of_either hash old other old_rs other_rs can)
