-- Which redaction is refused, by what is looked up.
use Rattle.std.proofs.Common.{◌≡◌, ℕ, zero, suc, ◌+◌, ◌<◌, ◌≤◌, Bool, true, false, cond, not, ◌&&◌, ◌||◌, List, [], ◌∷◌, ◌++◌, length, get_or, take, drop, Option, Some, None, is_some, slice_get, option_copied, option_map, refl, sym, ap, ◌∙◌, arith, Result, Ok, Err, IfOk}
use Rattle.std.specs.Prelude.{bytes_eq, filter, find}
use Rattle.std.specs.List.{list_any}
use Rattle.std.specs.Prelude.{position, unwrap_or}
use Rattle.std.proofs.lemmas.Iterator.Adapters.{position_from-zero}
use Rattle.std.specs.Option.{option_or}
use Rattle.std.proofs.lemmas.List.{drop_more, take_more}
use Rattle.std.proofs.lemmas.Option.{slice_get-get_or}
use Rattle.std.proofs.lemmas.Slice.Eq.{bytes_eq-Decides}
use denote.Ref.{Bor}
use Rattle.c2_spec.specs.C2pa.Manifest.{is_given}
use Rattle.c2_spec.specs.C2pa.Uri.{PlainUri, assertion, target_view, uri_of, uri_view}
use Rattle.c2_spec.specs.declared.uri.Target.{Target}
use Rattle.c2_spec.specs.declared.uri.Target.TheVariants.{Assertion}
use Rattle.c2_spec.specs.declared.uri.Uri.{Uri}
use Rattle.c2_spec.specs.declared.assertion.Kind.{Kind}
use Rattle.c2_rules.specs.Chains.{LabelsDiffer, is_reached, label_in, named_in, names_assertion, passes_some, place_of}
use Rattle.c2_rules.specs.Readings.{ReadBox, Reading}
use Rattle.c2_rules.specs.Ingredients.{assertion_uri}
use Rattle.c2_rules.specs.Rules.{is_labelled, label_kind, names_own, redacted_tests}
use Rattle.c2_rules.specs.Tests.{Test, first_failing, test}
use Rattle.c2_rules.specs.declared.answer.Failing.{Failing}
use Rattle.c2_rules.specs.declared.code.Code.{Code}
use Rattle.c2_rules.specs.declared.code.Code.TheVariants.{ProfileRedactionTarget, ProfileIngredientSignature}
use Rattle.c2_rules.proofs.ListLemmas.{from_below, in_below}
use Rattle.c2_rules.proofs.ReachLemmas.{placed, place_is}
use Rattle.c2_rules.proofs.TestLemmas.{first_failing_append}
use Rattle.c2_chain_spec.specs.Older.{has_signature, is_kept}
use Rattle.c2_new_file_spec.specs.Redacting.{takes_out}
use Rattle.c2_new_file_spec.specs.Refusing.{any_reached, entry_tests, has_assertion, is_target, kept_boxes, names_unsigned, redaction_refusal, refusal_after, refused_by}
use Rattle.c2_new_file_spec.specs.declared.refused.RefusedRedaction.{RefusedRedaction}
use Rattle.c2_parent.specs.Named.{AreNamed}
use Rattle.c2_parent.specs.Named as named
use Rattle.c2_parent.specs.Refused.{PassSoFar, any_so, assertion_of, code_of, later_code, still_there, unsigned_in, uri_entry_tests}
use Rattle.c2_parent.specs.declared.named.Named.{Named}
use Rattle.c2_lemmas.proofs.Bools.{and_false, and_true_is, both_true, same_test}
use Rattle.c2_lemmas.proofs.Lists.{some_position}

-- ---- a box that is still there

-- a label that is this one is taken out just where this one is
same_out : (out : List ℕ → Bool) (l : List ℕ) (o : Option (List ℕ)) → is_given o l ≡ true
    → not (passes_some out o) ≡ not (out l)
same_out out l None e = absurd (cc (e))
same_out out l (Some k) e = ap (λ (x : List ℕ). not (out x)) ((bytes_eq-Decides k l).0 e)

-- a box with this label is left where there was one, and its label isn't taken out
pub kept_find : (out : List ℕ → Bool) (l : List ℕ) (bs : List ReadBox)
    → is_some (find (is_labelled l) (filter (is_kept out) bs)) ≡ (is_some (find (is_labelled l) bs) && not (out l))
kept_find out l [] = refl
kept_find out l (b ∷ bs) = go (is_kept out b) (is_labelled l b) refl (same_out out l b.boxed.label) (kept_find out l bs)
  where
    go : (k q : Bool) → is_labelled l b ≡ q → (q ≡ true → k ≡ not (out l))
        → is_some (find (is_labelled l) (filter (is_kept out) bs)) ≡ (is_some (find (is_labelled l) bs) && not (out l))
        → is_some (find (is_labelled l) (cond k (b ∷ filter (is_kept out) bs) (filter (is_kept out) bs))) ≡ (is_some (cond q (Some b) (find (is_labelled l) bs)) && not (out l))
    go true true e h ih =
        ap (λ (x : Bool). is_some (cond x (Some b) (find (is_labelled l) (filter (is_kept out) bs)))) e ∙ h refl
    go true false e h ih =
        ap (λ (x : Bool). is_some (cond x (Some b) (find (is_labelled l) (filter (is_kept out) bs)))) e ∙ ih
    go false true e h ih =
        ih ∙ ap (λ (x : Bool). is_some (find (is_labelled l) bs) && x) (sym (h refl))
        ∙ and_false (is_some (find (is_labelled l) bs)) ∙ h refl
    go false false e h ih = ih

-- what is taken out of this manifest is what is named before
taken : (redacts : List (List ℕ)) (before : Named) (m l : List ℕ) (r : Reading) → AreNamed redacts before
    → m ≡ label_in r → takes_out redacts (label_in r) l ≡ named.is_among before m l
taken redacts before m l r h e = ap (λ (x : List ℕ). takes_out redacts x l) (sym e) ∙ sym (h.says m l)

-- a box that is named before isn't there any more
pub named_gone : (redacts : List (List ℕ)) (before : Named) (m l : List ℕ) (r : Reading) → AreNamed redacts before
    → m ≡ label_in r → named.is_among before m l ≡ true → false ≡ is_some (find (is_labelled l) (kept_boxes redacts r))
named_gone redacts before m l r h e is =
    sym
    (kept_find (takes_out redacts (label_in r)) l r.boxes ∙ ap (λ (x : Bool). is_some (find (is_labelled l) r.boxes) && not x) (taken redacts before m l r h e ∙ is) ∙ and_false (is_some (find (is_labelled l) r.boxes)))

-- another one is, if it was
pub unnamed_there : (redacts : List (List ℕ)) (before : Named) (m l : List ℕ) (r : Reading) (found : Option ReadBox)
    → AreNamed redacts before → m ≡ label_in r → named.is_among before m l ≡ false
    → found ≡ find (is_labelled l) r.boxes → is_some found ≡ is_some (find (is_labelled l) (kept_boxes redacts r))
unnamed_there redacts before m l r found h e isnt f =
    ap is_some f ∙ and_true_is (is_some (find (is_labelled l) r.boxes))
    ∙ sym
    (kept_find (takes_out redacts (label_in r)) l r.boxes ∙ ap (λ (x : Bool). is_some (find (is_labelled l) r.boxes) && not x) (taken redacts before m l r h e ∙ isnt))

-- ---- the manifest

-- a manifest at a place that passes
record Passing (rs : List Reading) (before : List (List ℕ)) (m l : List ℕ) (i : ℕ) : Type 0 where
  own : Reading
  at_place : slice_get rs i ≡ Some own
  label : m ≡ label_in own
  reached : is_reached rs i ≡ true
  has : has_assertion before own l ≡ true

-- what passes at a place, by what stands there
passing : (rs : List Reading) (before : List (List ℕ)) (m l : List ℕ) (i : ℕ) (o : Option Reading) → slice_get rs i ≡ o
    → is_reached rs i ≡ true
    → passes_some (λ (r : Reading). bytes_eq m (label_in r) && has_assertion before r l) o ≡ true
    → Passing rs before m l i
passing rs before m l i None at is e = absurd (cc (e))
passing rs before m l i (Some r) at is e = let h = both_true (bytes_eq m (label_in r)) (has_assertion before r l) e in record { own = r; at_place = at; label = (bytes_eq-Decides m (label_in r)).0 h.0; reached = is; has = h.1 }

-- where a target is still there, some place passes
found_passing : (rs : List Reading) (before : List (List ℕ)) (m l : List ℕ) → still_there rs before m l ≡ true
    → (i : ℕ) × Passing rs before m l i
found_passing rs before m l e =
    let k =
    from_below
    (λ i. is_reached rs i && passes_some (λ (r : Reading). bytes_eq m (label_in r) && has_assertion before r l) (slice_get rs i))
    (length rs) e in
    let h =
    both_true (is_reached rs k.0)
    (passes_some (λ (r : Reading). bytes_eq m (label_in r) && has_assertion before r l) (slice_get rs k.0))
    k.2 in
    (k.0, passing rs before m l k.0 (slice_get rs k.0) refl h.0 h.1)

-- no manifest has this label
pub not_there : (rs : List Reading) (before : List (List ℕ)) (m l : List ℕ) → LabelsDiffer rs → place_of rs m ≡ None
    → false ≡ still_there rs before m l
not_there rs before m l differ none = same_test false (still_there rs before m l) (λ e. absurd (cc (e))) (λ e.
    let p = found_passing rs before m l e in
    let at : place_of rs m ≡ Some p.0 = ap (place_of rs) p.1.label ∙ place_is rs p.0 p.1.own differ p.1.at_place in
    absurd (let wrong : None ≡ Some p.0 = sym none ∙ at in cc (wrong)))

-- what stands at a place is within the list
within : (rs : List Reading) (i : ℕ) (r : Reading) → slice_get rs i ≡ Some r → i < length rs
within [] i r e = absurd (cc (e))
within (x ∷ xs) zero r e = omega arith
within (x ∷ xs) (suc i) r e = let h = within xs i r e in omega (arith, h)

-- the one with this label is at this place
pub there_at : (rs : List Reading) (before : List (List ℕ)) (m l : List ℕ) (i : ℕ) (r : Reading) → LabelsDiffer rs
    → place_of rs m ≡ Some i → slice_get rs i ≡ Some r
    → still_there rs before m l ≡ (is_reached rs i && has_assertion before r l)
there_at rs before m l i r differ place at = same_test (still_there rs before m l) (is_reached rs i && has_assertion before r l)
    (λ e.
    let p = found_passing rs before m l e in
    let same : Some p.0 ≡ Some i =
    sym (ap (place_of rs) p.1.label ∙ place_is rs p.0 p.1.own differ p.1.at_place) ∙ place in
    let index : p.0 ≡ i = cc (same) in
    let owns : Some p.1.own ≡ Some r = sym p.1.at_place ∙ ap (slice_get rs) index ∙ at in
    let own : p.1.own ≡ r = cc (owns) in
    ap (λ (k : ℕ). is_reached rs k && has_assertion before r l) (sym index)
    ∙ ap (λ (x : Reading). is_reached rs p.0 && has_assertion before x l) (sym own)
    ∙ ap (λ (x : Bool). x && has_assertion before p.1.own l) p.1.reached ∙ p.1.has)
    (λ e.
    let h = both_true (is_reached rs i) (has_assertion before r l) e in
    let q = placed rs m i place in
    let owns : Some q.0 ≡ Some r = sym q.1 ∙ at in
    let own : q.0 ≡ r = cc (owns) in
    let label : m ≡ label_in r = sym q.2 ∙ ap label_in own in
    let one : bytes_eq m (label_in r) ≡ true = (bytes_eq-Decides m (label_in r)).1 label in
    in_below
    (λ k. is_reached rs k && passes_some (λ (x : Reading). bytes_eq m (label_in x) && has_assertion before x l) (slice_get rs k))
    (length rs) i (within rs i r at)
    (ap (λ (b : Bool). b && passes_some (λ (x : Reading). bytes_eq m (label_in x) && has_assertion before x l) (slice_get rs i)) h.0
    ∙ ap (passes_some (λ (x : Reading). bytes_eq m (label_in x) && has_assertion before x l)) at ∙ ap (λ (b : Bool). b && has_assertion before r l) one ∙ h.1))

-- ---- codes

-- a function of the first of two, else of the second
or_map : (f : Failing → Code) (o p : Option Failing)
    → option_map f (option_or o p) ≡ option_or (option_map f o) (option_map f p)
or_map f None p = refl
or_map f (Some x) p = refl

-- the code of two lists of tests is that of the first, else of the second
pub code_append : (xs ys : List Test) → code_of (xs ++ ys) ≡ option_or (code_of xs) (code_of ys)
code_append xs ys =
    ap (option_map (λ (f : Failing). f.code)) (first_failing_append xs ys)
    ∙ or_map (λ (f : Failing). f.code) (first_failing xs) (first_failing ys)

-- a box names a manifest without its signature, told in two ways
names_eq : (m l : List ℕ) (b : ReadBox)
    → passes_some (bytes_eq m) (unsigned_in b) ≡ names_unsigned (Some (assertion_of m l)) b
names_eq m l b = go (has_signature b) (named_in b)
  where
    go : (s : Bool) (n : Option (List ℕ))
        → passes_some (bytes_eq m) (cond s None n) ≡ (passes_some (is_given (Some m)) n && not s)
    go true None = refl
    go true (Some x) = sym (and_false (bytes_eq m x))
    go false None = refl
    go false (Some x) = and_true_is (bytes_eq m x)

-- whether a box of a reached manifest names a manifest without its signature, told in two ways
pub unsigned_eq : (rs : List Reading) (m l : List ℕ)
    → any_so rs m (length rs) ≡ any_reached (λ (r : Reading). list_any (names_unsigned (Some (assertion_of m l))) r.boxes) rs
unsigned_eq rs m l = λ i. any_reached (λ (r : Reading). list_any (λ (b : ReadBox). names_eq m l b i) r.boxes) rs

-- the code of the two tests over the store
pub two : (x y : Bool) (text : List ℕ)
    → code_of (test (not x) ProfileRedactionTarget text ∷ test y ProfileIngredientSignature text ∷ []) ≡ cond (not x) (Some ProfileRedactionTarget) (cond y (Some ProfileIngredientSignature) None)
two true true text = refl
two true false text = refl
two false y text = refl

-- the tests of an assertion: the rules on redactions, then those over the store
pub assertion_tests : (own : List ℕ) (rs : List Reading) (before : List (List ℕ)) (text m l : List ℕ)
    → code_of (uri_entry_tests own rs before text (Some (assertion_of m l))) ≡ option_or (code_of (redacted_tests (bytes_eq m own) (label_kind l) (assertion_uri m l))) (later_code rs before m l)
assertion_tests own rs before text m l =
    let rules = redacted_tests (bytes_eq m own) (label_kind l) (assertion_uri m l) in
    let x = any_reached (is_target before (Some (assertion_of m l))) rs in
    let y = any_reached (λ (r : Reading). list_any (names_unsigned (Some (assertion_of m l))) r.boxes) rs in
    code_append rules (test (not x) ProfileRedactionTarget text ∷ test y ProfileIngredientSignature text ∷ [])
    ∙ ap (option_or (code_of rules))
    (two x y text ∙ ap (λ (b : Bool). cond (not x) (Some ProfileRedactionTarget) (cond b (Some ProfileIngredientSignature) None)) (sym (unsigned_eq rs m l)))

-- one that fails a rule on redactions
pub rule_fails : (own : List ℕ) (rs : List Reading) (before : List (List ℕ)) (text m l : List ℕ) (o : Option Code)
    (code : Code) → o ≡ code_of (redacted_tests (bytes_eq m own) (label_kind l) (assertion_uri m l)) → o ≡ Some code
    → Some code ≡ code_of (uri_entry_tests own rs before text (Some (assertion_of m l)))
rule_fails own rs before text m l o code e f =
    sym
    (assertion_tests own rs before text m l ∙ ap (λ (x : Option Code). option_or x (later_code rs before m l)) (sym e ∙ f))

-- one that fails none of them
pub rules_pass : (own : List ℕ) (rs : List Reading) (before : List (List ℕ)) (text m l : List ℕ) (o r : Option Code)
    → o ≡ code_of (redacted_tests (bytes_eq m own) (label_kind l) (assertion_uri m l)) → o ≡ None
    → r ≡ later_code rs before m l → r ≡ code_of (uri_entry_tests own rs before text (Some (assertion_of m l)))
rules_pass own rs before text m l o r e f g =
    g
    ∙ sym
    (assertion_tests own rs before text m l ∙ ap (λ (x : Option Code). option_or x (later_code rs before m l)) (sym e ∙ f))

-- ---- one redaction after the other

-- a code is that of a failing test
pub failing_of : (o : Option Failing) (code : Code) → option_map (λ (f : Failing). f.code) o ≡ Some code
    → (f : Failing) × (o ≡ Some f) × (f.code ≡ code)
failing_of None code e = absurd (cc (e))
failing_of (Some f) code e = let same : f.code ≡ code = cc (e) in (f, refl, same)

-- the refusal of what is left is that of the next redaction, or of those after it
split_at : (own : List ℕ) (rs : List Reading) (redacts : List (List ℕ)) (k : ℕ) (before : Named) (text : List ℕ)
    → PassSoFar own rs redacts k before → k < length redacts → text ≡ get_or redacts k text
    → redaction_refusal own rs redacts ≡ option_or (option_map (refused_by text) (first_failing (entry_tests own rs (take k redacts) text))) (refusal_after own rs (take k redacts ++ text ∷ []) (drop (k + 1) redacts))
split_at own rs redacts k before text h lt e =
    h.rest
    ∙ ap (refusal_after own rs (take k redacts))
    (drop_more redacts k text lt ∙ ap (λ (x : List ℕ). x ∷ drop (k + 1) redacts) (sym e))

-- what was passed has it then
pub passed_text : (redacts : List (List ℕ)) (k : ℕ) (text : List ℕ) → k < length redacts → text ≡ get_or redacts k text
    → take (k + 1) redacts ≡ take k redacts ++ text ∷ []
passed_text redacts k text lt e = take_more redacts k text lt ∙ ap (λ (x : List ℕ). take k redacts ++ x ∷ []) (sym e)

-- a label that one of them takes out more
one_more : (m l text : List ℕ) (xs : List (List ℕ))
    → takes_out (xs ++ text ∷ []) m l ≡ (takes_out xs m l || names_assertion m l (uri_of text))
one_more m l text [] = go (names_assertion m l (uri_of text))
  where
    go : (b : Bool) → (b || false) ≡ b
    go true = refl
    go false = refl
one_more m l text (x ∷ xs) = go (names_assertion m l (uri_of x)) (one_more m l text xs)
  where
    go : (b : Bool) → takes_out (xs ++ text ∷ []) m l ≡ (takes_out xs m l || names_assertion m l (uri_of text))
        → (b || takes_out (xs ++ text ∷ []) m l) ≡ ((b || takes_out xs m l) || names_assertion m l (uri_of text))
    go true h = refl
    go false h = h

-- what the redactions name that were passed, with one more
pub named_more : (redacts : List (List ℕ)) (k : ℕ) (before after : Named) (text : List ℕ) → AreNamed (take k redacts) before
    → k < length redacts → text ≡ get_or redacts k text
    → ((m l : List ℕ) → named.is_among after m l ≡ (named.is_among before m l || names_assertion m l (uri_of text)))
    → AreNamed (take (k + 1) redacts) after
named_more redacts k before after text h lt e add = record {
  says = λ m l.
      add m l ∙ ap (λ (b : Bool). b || names_assertion m l (uri_of text)) (h.says m l)
      ∙ sym (one_more m l text (take k redacts))
      ∙ ap (λ (xs : List (List ℕ)). takes_out xs m l) (sym (passed_text redacts k text lt e));
}

-- no failing has no code
pub no_failing : (o : Option Failing) → option_map (λ (f : Failing). f.code) o ≡ None → o ≡ None
no_failing None e = refl
no_failing (Some f) e = absurd (cc (e))

-- one that isn't refused is passed
pub pass_more :
    (own : List ℕ) (rs : List Reading) (redacts : List (List ℕ)) (k : ℕ) (before after : Named) (text : List ℕ)
    (o : Option Code)
    → PassSoFar own rs redacts k before → k < length redacts → text ≡ get_or redacts k text
    → ((made : List (List ℕ)) → AreNamed made before → o ≡ code_of (entry_tests own rs made text)) → o ≡ None
    → ((m l : List ℕ) → named.is_among after m l ≡ (named.is_among before m l || names_assertion m l (uri_of text)))
    → PassSoFar own rs redacts (k + 1) after
pass_more own rs redacts k before after text o h lt e say isnt add = record {
  named = named_more redacts k before after text h.named lt e add;
  rest =
      split_at own rs redacts k before text h lt e
      ∙ ap
      (λ (x : Option Failing). option_or (option_map (refused_by text) x) (refusal_after own rs (take k redacts ++ text ∷ []) (drop (k + 1) redacts)))
      (no_failing (first_failing (entry_tests own rs (take k redacts) text)) (sym (say (take k redacts) h.named) ∙ isnt))
      ∙ ap (λ (xs : List (List ℕ)). refusal_after own rs xs (drop (k + 1) redacts)) (sym (passed_text redacts k text lt e));
}

-- one that is
pub pass_ends :
    {E : Type 0} (own : List ℕ) (rs : List Reading) (redacts : List (List ℕ)) (k : ℕ) (before : Named) (text : List ℕ)
    (o : Option Code) (code : Code) (r : Result (Option RefusedRedaction) E)
    → PassSoFar own rs redacts k before → k < length redacts → text ≡ get_or redacts k text
    → ((made : List (List ℕ)) → AreNamed made before → o ≡ code_of (entry_tests own rs made text)) → o ≡ Some code
    → IfOk r (λ found. found ≡ Some (record { text = text; code = code }))
    → IfOk r (λ found. found ≡ redaction_refusal own rs redacts)
pass_ends {E = E} own rs redacts k before text o code r h lt e say is ok =
    let f =
    failing_of (first_failing (entry_tests own rs (take k redacts) text)) code
    (sym (say (take k redacts) h.named) ∙ is) in
    let refused : redaction_refusal own rs redacts ≡ Some (record { text = text; code = code }) =
    split_at own rs redacts k before text h lt e
    ∙ ap
    (λ (x : Option Failing). option_or (option_map (refused_by text) x) (refusal_after own rs (take k redacts ++ text ∷ []) (drop (k + 1) redacts)))
    f.1
    ∙ ap (λ (x : Code). Some (record { text = text; code = x })) f.2 in
    by r refused ok
  where
    by : (x : Result (Option RefusedRedaction) E)
        → redaction_refusal own rs redacts ≡ Some (record { text = text; code = code })
        → IfOk x (λ found. found ≡ Some (record { text = text; code = code }))
        → IfOk x (λ found. found ≡ redaction_refusal own rs redacts)
    by (Ok found) refused ok = ok ∙ sym refused
    by (Err e) refused ok = ok

-- ---- a target by its place

-- the place of a manifest is one of them
pub place_within : (rs : List Reading) (m : List ℕ) (i : ℕ) → place_of rs m ≡ Some i → i < length rs
place_within rs m i e = let q = placed rs m i e in within rs i q.0 q.1

-- whether a manifest that is reached has the assertion still
pub still_here : (rs targets : List Reading) (redacts : List (List ℕ)) (m l : List ℕ) (i : ℕ) (r : Reading) (b : Bool)
    → LabelsDiffer rs → targets ≡ rs → place_of rs m ≡ Some i → r ≡ get_or targets i r → is_reached rs i ≡ true
    → (m ≡ label_in r → b ≡ has_assertion redacts r l) → b ≡ still_there rs redacts m l
still_here rs targets redacts m l i r b differ same place at is h =
    let q = placed rs m i place in
    let own : slice_get rs i ≡ Some r =
    slice_get-get_or rs i r (place_within rs m i place)
    ∙ ap Some (sym (at ∙ ap (λ (xs : List Reading). get_or xs i r) same)) in
    let owns : Some q.0 ≡ Some r = sym q.1 ∙ own in
    let one : q.0 ≡ r = cc (owns) in
    h (sym q.2 ∙ ap label_in one)
    ∙ sym (there_at rs redacts m l i r differ place own ∙ ap (λ (x : Bool). x && has_assertion redacts r l) is)

-- another can't be a target
pub unreached : (rs : List Reading) (redacts : List (List ℕ)) (m l : List ℕ) (i : ℕ) → LabelsDiffer rs
    → place_of rs m ≡ Some i → is_reached rs i ≡ false → false ≡ still_there rs redacts m l
unreached rs redacts m l i differ place isnt =
    let q = placed rs m i place in
    sym (there_at rs redacts m l i q.0 differ place q.1 ∙ ap (λ (x : Bool). x && has_assertion redacts q.0 l) isnt)

-- a copied value is there where it is
pub copied_some : {A : Type 0} (o : Option (Bor A)) → is_some (option_copied o) ≡ is_some o
copied_some None = refl
copied_some (Some x) = refl

-- ---- the rest

-- the code of an assertion's kind, by equal inputs
pub kind_is : (b c : Bool) (k j : Kind) (uri : List ℕ) (o : Option Code)
    → ((u : List ℕ) → o ≡ code_of (redacted_tests b k u)) → b ≡ c → k ≡ j → o ≡ code_of (redacted_tests c j uri)
kind_is b c k j uri o h e f =
    h uri ∙ ap (λ (x : Bool). code_of (redacted_tests x k uri)) e
    ∙ ap (λ (x : Kind). code_of (redacted_tests c x uri)) f

-- without an older store what a URI names isn't there
pub lone_tests : (own text l : List ℕ) (o : Option (List ℕ)) (k : Option Code)
    → uri_of text ≡ Some (record { manifest = o; target = assertion l })
    → k ≡ code_of (redacted_tests (names_own own o) (label_kind l) (assertion_uri (unwrap_or o own) l))
    → option_or k (Some ProfileRedactionTarget) ≡ code_of (entry_tests own [] [] text)
lone_tests own text l o k e f =
    let u : PlainUri = record { manifest = o; target = assertion l } in
    let rules = redacted_tests (names_own own o) (label_kind l) (assertion_uri (unwrap_or o own) l) in
    ap (λ (x : Option Code). option_or x (Some ProfileRedactionTarget)) f
    ∙ sym
    (code_append rules (test (not (any_reached (is_target [] (Some u)) [])) ProfileRedactionTarget text ∷ test (any_reached (λ (r : Reading). list_any (names_unsigned (Some u)) r.boxes) []) ProfileIngredientSignature text ∷ []))
    ∙ ap (λ (x : Option PlainUri). code_of (uri_entry_tests own [] [] text x)) (sym e)

-- the first redaction is refused there
pub lone_refused : (own : List ℕ) (text : List ℕ) (others : List (List ℕ)) (code : Code)
    → Some code ≡ code_of (entry_tests own [] [] text)
    → Some (record { text = text; code = code }) ≡ redaction_refusal own [] (text ∷ others)
lone_refused own text others code e =
    let f = failing_of (first_failing (entry_tests own [] [] text)) code (sym e) in
    sym
    (ap (λ (x : Option Failing). option_or (option_map (refused_by text) x) (refusal_after own [] (text ∷ []) others)) f.1 ∙ ap (λ (x : Code). Some (record { text = text; code = x })) f.2)

-- a place is found where there is one
pub some_place : {X : Type 0} (p : X → Bool) (xs : List X) → is_some (position p xs) ≡ list_any p xs
some_place p xs = ap is_some (position_from-zero p xs) ∙ some_position p 0 xs

-- the view of the URI of an assertion in a manifest
pub view_is : (manifest : Option (Bor (List ℕ))) (target : Target) (given label : Bor (List ℕ)) → manifest ≡ Some given
    → target ≡ Assertion label
    → Some (assertion_of given.now label.now) ≡ Some (record { manifest = option_map (λ (x : Bor (List ℕ)). x.now) manifest; target = target_view target })
view_is manifest target given label e f =
    ap
    (λ (m : Option (Bor (List ℕ))). Some (record { manifest = option_map (λ (x : Bor (List ℕ)). x.now) m; target = target_view (Assertion label) }))
    (sym e)
    ∙ ap
    (λ (t : Target). Some (record { manifest = option_map (λ (x : Bor (List ℕ)). x.now) manifest; target = target_view t }))
    (sym f)

-- the view of the URI of an assertion
pub assertion_view : (u : Uri) (label : Bor (List ℕ)) → u.target ≡ Assertion label
    → uri_view u ≡ record { manifest = option_map (λ (x : Bor (List ℕ)). x.now) u.manifest; target = assertion label.now }
assertion_view u label e = ap (λ (t : Target). uri_view (record { manifest = u.manifest; target = t })) e

-- a refusal with the same text
pub same_refused : {E : Type 0} (given text : List ℕ) (code : Code) (r : Result (Option RefusedRedaction) E)
    → given ≡ text → IfOk r (λ found. found ≡ Some (record { text = given; code = code }))
    → IfOk r (λ found. found ≡ Some (record { text = text; code = code }))
same_refused given text code (Ok found) e h = h ∙ ap (λ (x : List ℕ). Some (record { text = x; code = code })) e
same_refused given text code (Err f) e h = h

-- a list with something in it begins with that
first_is : (xs : List (List ℕ)) (x : List ℕ) → 1 ≤ length xs → x ≡ get_or xs 0 x
    → (others : List (List ℕ)) × (xs ≡ x ∷ others)
first_is [] x l e = absurd (omega arith)
first_is (y ∷ ys) x l e = (ys, ap (λ (z : List ℕ). z ∷ ys) (sym e))

-- without an older store it is the first that is refused
pub lone_ends :
    {E : Type 0} (own : List ℕ) (redacts : List (List ℕ)) (first tested given : List ℕ) (code : Code)
    (r : Result (Option RefusedRedaction) E)
    → 1 ≤ length redacts → first ≡ get_or redacts 0 first → given ≡ first → tested ≡ first
    → Some code ≡ code_of (entry_tests own [] [] tested)
    → IfOk r (λ found. found ≡ Some (record { text = given; code = code }))
    → IfOk r (λ found. found ≡ redaction_refusal own [] redacts)
lone_ends own redacts first tested given code (Ok found) l at e f say h =
    let list = first_is redacts first l at in
    h ∙ ap (λ (x : List ℕ). Some (record { text = x; code = code })) e
    ∙ lone_refused own first list.0 code (say ∙ ap (λ (x : List ℕ). code_of (entry_tests own [] [] x)) f)
    ∙ ap (redaction_refusal own []) (sym list.1)
lone_ends own redacts first tested given code (Err x) l at e f say h = h
