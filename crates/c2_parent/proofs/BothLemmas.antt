-- Two stores joined, by what is looked up of each: whether a manifest has a label, and which redaction is refused first.
use Rattle.std.proofs.Common.{◌≡◌, ◌⊎◌, inl, inr, ⊎_elim, ℕ, ◌+◌, ◌<◌, Bool, true, false, not, ◌||◌, ◌&&◌, List, [], ◌∷◌, ◌++◌, length, get_or, take, drop, Option, Some, None, slice_get, option_map, Contains, refl, sym, ap, ◌∙◌, Result, Ok, Err, IfOk, bytes_eq}
use Rattle.std.specs.List.{list_any}
use Rattle.std.specs.Option.{option_or}
use Rattle.std.specs.Prelude.{unwrap_or}
use Rattle.std.proofs.lemmas.Bool.{false≢true}
use Rattle.std.proofs.lemmas.Option.{same_Some, slice_get_within}
use Rattle.std.proofs.lemmas.Slice.Eq.{bytes_eq-Decides}
use Rattle.c2_spec.specs.C2pa.Uri.{PlainUri, assertion, uri_of}
use Rattle.c2_rules.specs.Chains.{LabelsDiffer, is_reached, label_in, names_assertion, passes_some, place_of}
use Rattle.c2_rules.specs.Ingredients.{assertion_uri}
use Rattle.c2_rules.specs.Readings.{Reading}
use Rattle.c2_rules.specs.Rules.{label_kind, names_own, redacted_tests, redaction_tests, uri_tests}
use Rattle.c2_rules.specs.Tests.{first_failing, test}
use Rattle.c2_rules.specs.declared.answer.Failing.{Failing}
use Rattle.c2_rules.specs.declared.code.Code.{Code}
use Rattle.c2_rules.specs.declared.code.Code.TheVariants.{ProfileRedactionTarget, ProfileIngredientSignature}
use Rattle.c2_rules.proofs.ListLemmas.{from_any, from_below, from_passes, in_any, in_below, or_left}
use Rattle.c2_rules.proofs.ReachLemmas.{placed, place_is}
use Rattle.c2_chain_spec.specs.Joined.{is_carried, picked}
use Rattle.c2_chain_spec.proofs.Places.{contains_either, contains_left, contains_right, get_left, picked_at, picked_of}
use Rattle.c2_new_file_spec.specs.Refusing.{any_reached, has_manifest, is_target, names_unsigned, new_claim_uri, redaction_refusal, refused_by}
use Rattle.c2_new_file_spec.specs.declared.refused.RefusedRedaction.{RefusedRedaction}
use Rattle.c2_collect_spec.specs.Collected.{JoinedReaches, WasReached, in_media, in_other, collected_readings}
use Rattle.c2_collect_spec.specs.Refusals.{any_reached_by, entry_tests_by, has_target_by, has_unsigned_by, redaction_refusal_by, refusal_after_by}
use Rattle.c2_collect_spec.proofs.Accepted.{refusals_standing}
use Rattle.c2_parent.specs.Both.{IsCodeOfBoth, IsFirstRefusedOfBoth, PassBothSoFar, later_in_both}
use Rattle.c2_parent.specs.Named.{AreNamed, is_among}
use Rattle.c2_parent.specs.Refused.{any_so, assertion_of, code_of}
use Rattle.c2_parent.specs.declared.named.Named.{Named}
use Rattle.c2_parent.proofs.RefusedLemmas.{code_append, failing_of, named_more, no_failing, passed_text, two, unsigned_eq}
use Rattle.c2_lemmas.proofs.Bools.{and_true, both_true, or_cases, or_second, same_test}
use Rattle.c2_lemmas.proofs.Each.{at_contains, contains_at}
use Rattle.c2_lemmas.proofs.Lists.{drop_first}

-- ---- labels

-- what is carried of the other store
abbrev carried_of : List Reading → List Reading → List Reading
carried_of olds others = picked (is_carried olds (is_reached others)) 0 others

-- a manifest has this label
abbrev labelled : List ℕ → Reading → Bool
labelled l r = bytes_eq (label_in r) l

-- A manifest that is reached has this label.
record IsReachedLabel (others : List Reading) (label : List ℕ) : Type 0 where
  place : ℕ
  own : Reading
  at_place : slice_get others place ≡ Some own
  reaches : is_reached others place ≡ true
  named : label_in own ≡ label

-- a label of the first store is one of the joined manifests
pub front_joined : (olds others : List Reading) (l : List ℕ) → has_manifest olds l ≡ true
    → has_manifest (collected_readings olds others) l ≡ true
front_joined olds others l e =
    let f = from_any (labelled l) olds e in
    in_any (labelled l) (olds ++ carried_of olds others) f.0 (contains_left olds (carried_of olds others) f.0 f.1) f.2

-- a label that is reached in the other store is one of the joined manifests
reached_joined : (olds others : List Reading) (l : List ℕ) → IsReachedLabel others l
    → has_manifest (collected_readings olds others) l ≡ true
reached_joined olds others l k = by (has_manifest olds (label_in k.own)) refl
  where
    by : (b : Bool) → has_manifest olds (label_in k.own) ≡ b → has_manifest (collected_readings olds others) l ≡ true
    by true e = front_joined olds others l (ap (has_manifest olds) (sym k.named) ∙ e)
    by false e =
        let q =
        picked_at (is_carried olds (is_reached others)) k.place others k.own k.at_place
        (and_true (is_reached others k.place) (not (has_manifest olds (label_in k.own))) k.reaches (ap not e)) in
        in_any (labelled l) (olds ++ carried_of olds others) k.own
        (contains_right olds (carried_of olds others) k.own (contains_at (carried_of olds others) q.0 k.own q.1))
        ((bytes_eq-Decides (label_in k.own) l).1 k.named)

-- a label of the joined manifests is one of these
joined_either : (olds others : List Reading) (l : List ℕ) → has_manifest (collected_readings olds others) l ≡ true
    → (has_manifest olds l ≡ true) ⊎ IsReachedLabel others l
joined_either olds others l e =
    let f = from_any (labelled l) (olds ++ carried_of olds others) e in
    ⊎_elim (λ c. inl (in_any (labelled l) olds f.0 c f.2)) (λ c. inr (from f.0 c f.2))
    (contains_either olds (carried_of olds others) f.0 f.1)
  where
    from : (r : Reading) → Contains (carried_of olds others) r → labelled l r ≡ true → IsReachedLabel others l
    from r c e =
        let q = at_contains (carried_of olds others) r c in
        let i = picked_of (is_carried olds (is_reached others)) q.0 others r q.1 in
        let h = both_true (is_reached others i.0) (not (has_manifest olds (label_in r))) i.2 in
        record { place = i.0; own = r; at_place = i.1; reaches = h.0; named = (bytes_eq-Decides (label_in r) l).0 e }

-- the joined manifests have the label that a test says of the other store, where the first has it not
joined_label : (olds others : List Reading) (l : List ℕ) (b : Bool) → has_manifest olds l ≡ false
    → (b ≡ true → IsReachedLabel others l) → (IsReachedLabel others l → b ≡ true)
    → b ≡ has_manifest (collected_readings olds others) l
joined_label olds others l b free from to =
    same_test b (has_manifest (collected_readings olds others) l) (λ e. reached_joined olds others l (from e))
    (λ e. ⊎_elim (λ h. absurd (false≢true (sym free ∙ h))) to (joined_either olds others l e))

-- where a manifest with a label stands, it is the only one
reached_there : (others : List Reading) (l : List ℕ) → LabelsDiffer others → (k : IsReachedLabel others l)
    → place_of others l ≡ Some k.place
reached_there others l differ k = ap (place_of others) (sym k.named) ∙ place_is others k.place k.own differ k.at_place

-- a manifest with this label is reached or isn't
pub reached_at : (others : List Reading) (l : List ℕ) (i : ℕ) (b : Bool) → LabelsDiffer others
    → place_of others l ≡ Some i → b ≡ is_reached others i → b ≡ has_manifest (collected_readings [] others) l
reached_at others l i b differ place e =
    joined_label [] others l b refl
    (λ h. let q = placed others l i place in record { place = i; own = q.0; at_place = q.1; reaches = sym e ∙ h; named = q.2 })
    (λ k. e ∙ ap (is_reached others) (same_Some i k.place (sym place ∙ reached_there others l differ k)) ∙ k.reaches)

-- no manifest has it
pub reached_nowhere : (others : List Reading) (l : List ℕ) → LabelsDiffer others → place_of others l ≡ None
    → false ≡ has_manifest (collected_readings [] others) l
reached_nowhere others l differ place =
    joined_label [] others l false refl (λ e. absurd (false≢true e)) (λ k. absurd (let wrong : None ≡ Some k.place = sym place ∙ reached_there others l differ k in cc (wrong)))

-- where the first store doesn't have a label, the joined manifests have it where what is carried of the other alone has
pub joined_back : (olds others : List Reading) (l : List ℕ) (b : Bool) → has_manifest olds l ≡ false
    → b ≡ has_manifest (collected_readings [] others) l → b ≡ has_manifest (collected_readings olds others) l
joined_back olds others l b free e =
    joined_label olds others l b free
    (λ h. ⊎_elim (λ (no_one : false ≡ true). absurd (false≢true no_one)) (λ k. k) (joined_either [] others l (sym e ∙ h)))
    (λ k. e ∙ reached_joined [] others l k)

-- ---- what is reached of both

-- A manifest that is reached passes a test.
record Met (reached : ℕ → Bool) (passes : Reading → Bool) (rs : List Reading) : Type 0 where
  place : ℕ
  own : Reading
  at_place : slice_get rs place ≡ Some own
  reaches : reached place ≡ true
  does : passes own ≡ true

-- where one does, it stands somewhere
met : (reached : ℕ → Bool) (passes : Reading → Bool) (rs : List Reading) → any_reached_by reached passes rs ≡ true
    → Met reached passes rs
met reached passes rs e =
    let k = from_below (λ i. reached i && passes_some passes (slice_get rs i)) (length rs) e in
    let h = both_true (reached k.0) (passes_some passes (slice_get rs k.0)) k.2 in
    let x = from_passes passes (slice_get rs k.0) h.1 in
    record { place = k.0; own = x.0; at_place = x.1; reaches = h.0; does = x.2 }

-- where a reached manifest passes, some reached manifest does
meets : (reached : ℕ → Bool) (passes : Reading → Bool) (rs : List Reading) (i : ℕ) (r : Reading)
    → slice_get rs i ≡ Some r → reached i ≡ true → passes r ≡ true → any_reached_by reached passes rs ≡ true
meets reached passes rs i r at is does =
    in_below (λ i. reached i && passes_some passes (slice_get rs i)) (length rs) i (slice_get_within rs i r at)
    (and_true (reached i) (passes_some passes (slice_get rs i)) is (ap (passes_some passes) at ∙ does))

-- a manifest that is reached of the joined ones passes where one that is reached in the one store or in the other does
pub joined_any : (olds others : List Reading) (is_in : ℕ → Bool) (passes : Reading → Bool)
    → JoinedReaches olds others is_in
    → any_reached_by is_in passes (collected_readings olds others) ≡ (any_reached passes olds || any_reached passes others)
joined_any olds others is_in passes h = same_test (any_reached_by is_in passes all) (any_reached passes olds || any_reached passes others) to from
  where
    all : List Reading
    all = collected_readings olds others

    by : (m : Met is_in passes all) → WasReached olds others m.place
        → (any_reached passes olds || any_reached passes others) ≡ true
    by m (in_media lt is) =
        or_left (any_reached passes olds) (any_reached passes others)
        (meets (is_reached olds) passes olds m.place m.own (sym (get_left olds (carried_of olds others) m.place lt) ∙ m.at_place) is m.does)
    by m (in_other place r is at there) =
        let same : m.own ≡ r = same_Some m.own r (sym m.at_place ∙ there) in
        or_second (any_reached passes olds) (any_reached passes others)
        (meets (is_reached others) passes others place r at is (ap passes (sym same) ∙ m.does))

    to : any_reached_by is_in passes all ≡ true → (any_reached passes olds || any_reached passes others) ≡ true
    to e = let m = met is_in passes all e in by m ((h.each m.place (slice_get_within all m.place m.own m.at_place)).0 m.reaches)

    from_media : any_reached passes olds ≡ true → any_reached_by is_in passes all ≡ true
    from_media e =
        let m = met (is_reached olds) passes olds e in
        let lt = slice_get_within olds m.place m.own m.at_place in
        meets is_in passes all m.place m.own (get_left olds (carried_of olds others) m.place lt ∙ m.at_place)
        (h.media m.place lt ∙ m.reaches) m.does

    from_other : any_reached passes others ≡ true → any_reached_by is_in passes all ≡ true
    from_other e =
        let m = met (is_reached others) passes others e in
        let s = h.stands m.place m.own m.reaches m.at_place in
        meets is_in passes all s.0 m.own s.1 s.2 m.does

    from : (any_reached passes olds || any_reached passes others) ≡ true → any_reached_by is_in passes all ≡ true
    from e = ⊎_elim from_media from_other (or_cases (any_reached passes olds) (any_reached passes others) e)

-- ---- one redaction

-- what the rules on redactions say of a text, by what its URI is
pub redaction_code : (own text l : List ℕ) (o : Option (List ℕ)) (k : Option Code)
    → uri_of text ≡ Some (record { manifest = o; target = assertion l })
    → k ≡ code_of (redacted_tests (names_own own o) (label_kind l) (assertion_uri (unwrap_or o own) l))
    → k ≡ code_of (redaction_tests own (new_claim_uri own) text)
redaction_code own text l o k e f =
    f ∙ sym (ap (λ (u : Option PlainUri). code_of (uri_tests own (new_claim_uri own) u)) e)

-- one that a rule on redactions refuses
pub rule_refuses : (own text : List ℕ) (olds others : List Reading) (before : List (List ℕ)) (code : Code)
    → Some code ≡ code_of (redaction_tests own (new_claim_uri own) text)
    → IsCodeOfBoth own olds others before text (Some code)
rule_refuses own text olds others before code e is_in j =
    let all = collected_readings olds others in
    let rules = redaction_tests own (new_claim_uri own) text in
    let later =
    test (not (has_target_by is_in all before text)) ProfileRedactionTarget text ∷ test
    (has_unsigned_by is_in all text) ProfileIngredientSignature text ∷ [] in
    sym (code_append rules later ∙ ap (λ (o : Option Code). option_or o (code_of later)) (sym e))

-- one that none refuses
pub later_refuses : (own text m l : List ℕ) (olds others : List Reading) (before : List (List ℕ)) (code : Option Code)
    → uri_of text ≡ Some (assertion_of m l) → code_of (redaction_tests own (new_claim_uri own) text) ≡ None
    → code ≡ later_in_both olds others before m l → IsCodeOfBoth own olds others before text code
later_refuses own text m l olds others before code names passes e is_in j =
    let all = collected_readings olds others in
    let rules = redaction_tests own (new_claim_uri own) text in
    let u : Option PlainUri = Some (assertion_of m l) in
    let later =
    λ (x y : Bool). code_of (test (not x) ProfileRedactionTarget text ∷ test y ProfileIngredientSignature text ∷ []) in
    let named : Reading → Bool = λ (r : Reading). list_any (names_unsigned u) r.boxes in
    let found : Reading → Bool = is_target before u in
    let signs : any_reached_by is_in named all ≡ (any_reached named olds || any_reached named others) =
    joined_any olds others is_in named j in
    let targets : any_reached_by is_in found all ≡ (any_reached found olds || any_reached found others) =
    joined_any olds others is_in found j in
    e
    ∙ sym (code_append rules (test (not (has_target_by is_in all before text)) ProfileRedactionTarget text ∷ test (has_unsigned_by is_in all text) ProfileIngredientSignature text ∷ [])
    ∙ ap
    (λ (o : Option Code). option_or o (later (has_target_by is_in all before text) (has_unsigned_by is_in all text)))
    passes
    ∙ ap
    (λ (o : Option PlainUri). later (any_reached_by is_in (is_target before o) all) (any_reached_by is_in (λ (r : Reading). list_any (names_unsigned o) r.boxes) all))
    names
    ∙ ap (λ (x : Bool). later x (any_reached_by is_in named all)) targets
    ∙ ap (λ (y : Bool). later (any_reached found olds || any_reached found others) y) signs
    ∙ ap (λ (y : Bool). later (any_reached found olds || any_reached found others) (y || any_reached named others))
    (sym (unsigned_eq olds m l))
    ∙ ap (λ (y : Bool). later (any_reached found olds || any_reached found others) (any_so olds m (length olds) || y))
    (sym (unsigned_eq others m l))
    ∙ two (any_reached found olds || any_reached found others) (any_so olds m (length olds) || any_so others m (length others)) text)

-- ---- one redaction after the other

-- the refusal of what is left is that of the next redaction, or of those after it
split_both :
    (own : List ℕ) (olds others : List Reading) (redacts : List (List ℕ)) (k : ℕ) (before : Named) (text : List ℕ)
    (o : Option Failing) (is_in : ℕ → Bool)
    → PassBothSoFar own olds others redacts k before → k < length redacts → text ≡ get_or redacts k text
    → JoinedReaches olds others is_in
    → first_failing (entry_tests_by is_in own (collected_readings olds others) (take k redacts) text) ≡ o
    → redaction_refusal_by is_in own (collected_readings olds others) redacts ≡ option_or (option_map (refused_by text) o) (refusal_after_by is_in own (collected_readings olds others) (take k redacts ++ text ∷ []) (drop (k + 1) redacts))
split_both own olds others redacts k before text o is_in h lt e j f =
    let all = collected_readings olds others in
    h.rest is_in j ∙ ap (refusal_after_by is_in own all (take k redacts)) (drop_first redacts k text lt e)
    ∙ ap
    (λ (x : Option Failing). option_or (option_map (refused_by text) x) (refusal_after_by is_in own all (take k redacts ++ text ∷ []) (drop (k + 1) redacts)))
    f

-- what is said of a text is said of one that is equal
pub same_text : (own : List ℕ) (olds others : List Reading) (before : Named) (asked text : List ℕ) (o : Option Code)
    → asked ≡ text → ((made : List (List ℕ)) → AreNamed made before → IsCodeOfBoth own olds others made asked o)
    → (made : List (List ℕ)) → AreNamed made before → IsCodeOfBoth own olds others made text o
same_text own olds others before asked text o e say =
    λ made h is_in j. say made h is_in j
    ∙ ap (λ (x : List ℕ). code_of (entry_tests_by is_in own (collected_readings olds others) made x)) e

-- one that isn't refused is passed
pub both_more :
    (own : List ℕ) (olds others : List Reading) (redacts : List (List ℕ)) (k : ℕ) (before after : Named) (text : List ℕ)
    (o : Option Code)
    → PassBothSoFar own olds others redacts k before → k < length redacts → text ≡ get_or redacts k text
    → ((made : List (List ℕ)) → AreNamed made before → IsCodeOfBoth own olds others made text o) → o ≡ None
    → ((m l : List ℕ) → is_among after m l ≡ (is_among before m l || names_assertion m l (uri_of text)))
    → PassBothSoFar own olds others redacts (k + 1) after
both_more own olds others redacts k before after text o h lt e say isnt add = record {
  named = named_more redacts k before after text h.named lt e add;
  rest = λ is_in j.
      split_both own olds others redacts k before text None is_in h lt e j
      (no_failing (first_failing (entry_tests_by is_in own (collected_readings olds others) (take k redacts) text)) (sym (say (take k redacts) h.named is_in j) ∙ isnt))
      ∙ ap (λ (xs : List (List ℕ)). refusal_after_by is_in own (collected_readings olds others) xs (drop (k + 1) redacts)) (sym (passed_text redacts k text lt e));
}

-- one that is ends them
pub both_ends :
    {E : Type 0} (own : List ℕ) (olds others : List Reading) (redacts : List (List ℕ)) (k : ℕ) (before : Named)
    (text given : List ℕ) (o : Option Code) (code : Code) (r : Result (Option RefusedRedaction) E)
    → PassBothSoFar own olds others redacts k before → k < length redacts
    → text ≡ get_or redacts k text
    → ((made : List (List ℕ)) → AreNamed made before → IsCodeOfBoth own olds others made text o) → o ≡ Some code
    → given ≡ text
    → IfOk r (λ found. found ≡ Some (record { text = given; code = code }))
    → IfOk r (IsFirstRefusedOfBoth own olds others redacts)
both_ends own olds others redacts k before text given o code (Err x) h lt e say is same ok = ok
both_ends own olds others redacts k before text given o code (Ok found) h lt e say is same ok = λ is_in j.
    let f =
    failing_of (first_failing (entry_tests_by is_in own (collected_readings olds others) (take k redacts) text))
    code (sym (say (take k redacts) h.named is_in j) ∙ is) in
    ok ∙ ap (λ (x : List ℕ). Some (record { text = x; code = code })) same
    ∙ ap (λ (x : Code). Some (record { text = text; code = x })) (sym f.2)
    ∙ sym (split_both own olds others redacts k before text (Some f.0) is_in h lt e j f.1)

-- at the start none is passed
pub both_start : (own : List ℕ) (olds others : List Reading) (redacts : List (List ℕ)) (before : Named)
    → ((m l : List ℕ) → is_among before m l ≡ false) → PassBothSoFar own olds others redacts 0 before
both_start own olds others redacts before h = record { named = record { says = h }; rest = λ is_in j. refl }

-- at the end all are
pub both_end : (own : List ℕ) (olds others : List Reading) (redacts : List (List ℕ)) (k : ℕ) (before : Named)
    → PassBothSoFar own olds others redacts k before → drop k redacts ≡ []
    → IsFirstRefusedOfBoth own olds others redacts None
both_end own olds others redacts k before h e is_in j =
    sym (h.rest is_in j ∙ ap (refusal_after_by is_in own (collected_readings olds others) (take k redacts)) e)

-- ---- what is carried where there is no other store

-- refusals are the same where the same tests pass
same_refusals : (r s : ℕ → Bool) (own : List ℕ) (xs ys : List Reading) (before redacts : List (List ℕ))
    → ((passes : Reading → Bool) → any_reached_by r passes xs ≡ any_reached_by s passes ys)
    → refusal_after_by r own xs before redacts ≡ refusal_after_by s own ys before redacts
same_refusals r s own xs ys before [] same = refl
same_refusals r s own xs ys before (text ∷ others) same =
    ap
    (λ (o : Option Failing). option_or (option_map (refused_by text) o) (refusal_after_by r own xs (before ++ text ∷ []) others))
    first
    ∙ ap (option_or (option_map (refused_by text) (first_failing (entry_tests_by s own ys before text))))
    (same_refusals r s own xs ys (before ++ text ∷ []) others same)
  where
    tests : Bool → Bool → Option Failing
    tests x y =
        first_failing
        (redaction_tests own (new_claim_uri own) text ++ (test (not x) ProfileRedactionTarget text ∷ test y ProfileIngredientSignature text ∷ []))

    first : first_failing (entry_tests_by r own xs before text) ≡ first_failing (entry_tests_by s own ys before text)
    first = ap (λ (x : Bool). tests x (has_unsigned_by r xs text)) (same (is_target before (uri_of text)))
        ∙ ap (λ (y : Bool). tests (has_target_by s ys before text) y)
        (same (λ (q : Reading). list_any (names_unsigned (uri_of text)) q.boxes))

-- what is refused over one store is refused over what is carried of it
pub carried_refused : (own : List ℕ) (others : List Reading) (redacts : List (List ℕ)) (found : Option RefusedRedaction)
    → found ≡ redaction_refusal own others redacts → IsFirstRefusedOfBoth own [] others redacts found
carried_refused own others redacts found e is_in j =
    e ∙ sym (refusals_standing own others redacts)
    ∙ same_refusals (is_reached others) is_in own others (collected_readings [] others) [] redacts
    (λ passes. sym (joined_any [] others is_in passes j))

-- what is answered over one store is answered over what is carried of it
pub carried_answers :
    {E : Type 0} (own : List ℕ) (others : List Reading) (redacts : List (List ℕ))
    (r : Result (Option RefusedRedaction) E)
    → IfOk r (λ found. found ≡ redaction_refusal own others redacts)
    → IfOk r (IsFirstRefusedOfBoth own [] others redacts)
carried_answers own others redacts (Err x) ok = ok
carried_answers own others redacts (Ok found) ok = carried_refused own others redacts found ok
