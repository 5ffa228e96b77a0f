-- What follows where the rules of a manifest hold: what is redacted in it is what it lacks, and what its ingredients name stands
-- earlier. And what makes them hold again elsewhere.
use Rattle.std.proofs.Common.{◌≡◌, ◌⊎◌, inl, inr, ⊎_elim, ℕ, ◌+◌, ◌<◌, Bool, true, false, not, ◌&&◌, ◌||◌, cond, List, [], ◌∷◌, ◌++◌, filter, Option, Some, None, slice_get, Contains, refl, sym, ap, ◌∙◌, subst}
use Rattle.std.specs.Prelude.{is_none, is_some}
use Rattle.std.specs.List.{AllByRecursion, list_any}
use Rattle.std.specs.Option.{option_map_or}
use Rattle.std.proofs.lemmas.Bool.{cases_lt, le-ltb, true≢false, false≢true, both_ways}
use Rattle.c2_spec.specs.C2pa.Assertion.{kind_of}
use Rattle.c2_spec.specs.C2pa.Manifest.{Manifest, is_given}
use Rattle.c2_spec.specs.declared.assertion.Ingredient.{Ingredient}
use Rattle.c2_spec.specs.declared.assertion.Kind.{Kind}
use Rattle.c2_spec.specs.declared.assertion.Kind.TheVariants as kinds
use Rattle.c2_spec.specs.declared.cbor.Ref.{Ref}
use Rattle.c2_spec.specs.declared.digest.Alg.{Alg}
use Rattle.c2_spec.proofs.GivenLabels.{given_is, is_given_back}
use Rattle.c2_rules.specs.Chains.{entry_label, label_in, named_by, named_in, passes_some, place_of}
use Rattle.c2_rules.specs.Ingredients.{assertion_uri, is_ingredient, is_ingredient_kind, is_ingredient_label}
use Rattle.c2_rules.specs.Readings.{ReadBox, Reading, entries_in, redactions_in, value_in}
use Rattle.c2_rules.specs.Rules.{binding_tests, box_test, box_with, claim_tests, claim_uri, entry_tests, form_tests, ingredient_tests, kind_tests, labelled_tests, lists_label, order_tests, parsed_tests, redaction_tests, rest_tests, unjudged_tests}
use Rattle.c2_rules.specs.Rules as rule
use Rattle.c2_rules.specs.Seen.{Seen, Standing, earlier_standing, later, missing, touched, whole}
use Rattle.c2_rules.specs.Tests.{AllHold, Test, each, over_all, test}
use Rattle.c2_rules.specs.declared.code.Code.TheVariants.{ProfileAssertionUri}
use Rattle.c2_rules.specs.declared.parsed.Parsed.{Parsed}
use Rattle.c2_rules.specs.declared.parsed.Parsed.TheVariants.{NoItem, NoForm, Value}
use Rattle.c2_rules.proofs.ListLemmas.{contains_cons, contains_none}
use Rattle.c2_rules.proofs.Conditions.{Holds}
use Rattle.c2_chain_spec.specs.Older.{Alike, StaysAlike, has_signature, is_kept}
use Rattle.c2_chain_spec.specs.Rooted.{ReadsKinds, lists_passing, place_standing_by, seen_by, standing_by, touched_by}
use Rattle.c2_chain_spec.proofs.Places.{all_members}
use Rattle.c2_chain_spec.proofs.OlderRules.{without_boxes}
use Rattle.c2_lemmas.proofs.Bools.{or_cases, or_second}
use Rattle.c2_lemmas.proofs.Each.{member_of}

-- ---- lists of tests

-- what holds of two lists in a row holds of the first
pub front : (xs ys : List Test) → AllByRecursion Holds (xs ++ ys) → AllByRecursion Holds xs
front [] ys h = tt
front (x ∷ xs) ys h = (h.0, front xs ys h.1)

-- what holds of two lists in a row holds of the second
pub back : (xs ys : List Test) → AllByRecursion Holds (xs ++ ys) → AllByRecursion Holds ys
back [] ys h = h
back (x ∷ xs) ys h = back xs ys h.1

-- what holds of each box holds of a box
of_box : (f : ReadBox → List Test) (k : ℕ) (bs : List ReadBox) (b : ReadBox) → Contains bs b
    → AllByRecursion Holds (each (λ k b. f b) k bs) → AllByRecursion Holds (f b)
of_box f k [] b c h = absurd (contains_none b c)
of_box f k (x ∷ xs) b c h =
    by (λ more. of_box f (k + 1) xs b more (back (f x) (each (λ k b. f b) (k + 1) xs) h)) (contains_cons x b xs c)
  where
    by : (Contains xs b → AllByRecursion Holds (f b)) → (x ≡ b) ⊎ Contains xs b → AllByRecursion Holds (f b)
    by rest (inl same) = subst (λ y. AllByRecursion Holds (f y)) same (front (f x) (each (λ k b. f b) (k + 1) xs) h)
    by rest (inr more) = rest more

-- ---- what is redacted

-- what is redacted where no box is, and isn't where one is
by_box : (a : Bool) (o : Option ReadBox) → (a && is_some o) ≡ false → (not a && is_none o) ≡ false → a ≡ is_none o
by_box true None e f = refl
by_box true (Some x) e f = absurd (true≢false e)
by_box false None e f = absurd (true≢false f)
by_box false (Some x) e f = refl

-- a label that one of these entries lists is redacted exactly where no box has it
entry_lacks : (hash : Alg → List ℕ → List ℕ) (s : Seen) (label : List ℕ) (k : ℕ) (es : List Ref)
    → AllByRecursion Holds (each (entry_tests hash s) k es) → lists_label s.own.manifest es label ≡ true
    → s.is_redacted label ≡ is_none (box_with s.own label)
entry_lacks hash s label k [] h e = absurd (false≢true e)
entry_lacks hash s label k (x ∷ xs) h e =
    ⊎_elim
    (λ own. here (given_is (entry_label s.own.manifest x) label own) (front (entry_tests hash s k x) (each (entry_tests hash s) (k + 1) xs) h))
    (λ more. entry_lacks hash s label (k + 1) xs (back (entry_tests hash s k x) (each (entry_tests hash s) (k + 1) xs) h) more)
    (or_cases (is_given (entry_label s.own.manifest x) label) (lists_label s.own.manifest xs label) e)
  where
    here : entry_label s.own.manifest x ≡ Some label → AllByRecursion Holds (entry_tests hash s k x)
        → s.is_redacted label ≡ is_none (box_with s.own label)
    here is g =
        let t =
        subst
        (λ o. AllByRecursion Holds (option_map_or (λ (l : List ℕ). labelled_tests hash s (Rattle.std.specs.Prelude.take k (entries_in s.own)) x l (assertion_uri (label_in s.own) l)) o (test true ProfileAssertionUri (claim_uri s.own) ∷ []))) is g in
        by_box (s.is_redacted label) (box_with s.own label) t.1.1.1.0 t.1.1.1.1.0

-- the parts of the rules after the verdict
record Parts (hash : Alg → List ℕ → List ℕ) (s : Seen) : Type 0 where
  entries : AllByRecursion Holds (each (entry_tests hash s) 0 (entries_in s.own))
  forms : AllByRecursion Holds (each (λ k b. form_tests s b) 0 s.own.boxes)

-- the parts of the rules after the verdict hold where all do
parts : (hash : Alg → List ℕ → List ℕ) (s : Seen) → AllByRecursion Holds (unjudged_tests hash s) → Parts hash s
parts hash s h =
    let v8 : List Test = each (λ k b. ingredient_tests hash s b) 0 s.own.boxes in
    let v9 : List Test = each (entry_tests hash s) 0 (entries_in s.own) in
    let v10 : List Test = over_all (λ k b. box_test s.own b) 0 s.own.boxes in
    let v11 : List Test =
    each (λ k text. redaction_tests (label_in s.own) (claim_uri s.own) text) 0 (redactions_in s.own) in
    let v12 : List Test = binding_tests s in
    let v13 : List Test = each (λ k b. form_tests s b) 0 s.own.boxes in
    let h1 = back (claim_tests s.own) (rest_tests hash s) h in
    let h2 = back v8 (v9 ++ (v10 ++ (v11 ++ (v12 ++ v13)))) h1 in
    let h3 = back v9 (v10 ++ (v11 ++ (v12 ++ v13))) h2 in
    let h4 = back v10 (v11 ++ (v12 ++ v13)) h3 in
    let h5 = back v11 (v12 ++ v13) h4 in
    record { entries = front v9 (v10 ++ (v11 ++ (v12 ++ v13))) h2; forms = back v12 v13 h5 }

-- a label that the claim lists is redacted exactly where there is no box of it
pub lacks_redacted : (hash : Alg → List ℕ → List ℕ) (s : Seen) (label : List ℕ)
    → AllByRecursion Holds (unjudged_tests hash s) → lists_label s.own.manifest (entries_in s.own) label ≡ true
    → s.is_redacted label ≡ is_none (box_with s.own label)
lacks_redacted hash s label h e = entry_lacks hash s label 0 (entries_in s.own) (parts hash s h).entries e

-- ---- what is named

-- the kind of an ingredient
kind_is : (k : Kind) → is_ingredient_kind k ≡ true → k ≡ kinds.Ingredient
kind_is kinds.Ingredient e = refl
kind_is kinds.DataHash e = absurd (false≢true e)
kind_is kinds.BmffHash e = absurd (false≢true e)
kind_is kinds.OtherHash e = absurd (false≢true e)
kind_is kinds.IngredientOther e = absurd (false≢true e)
kind_is kinds.Actions e = absurd (false≢true e)
kind_is kinds.Cloud e = absurd (false≢true e)
kind_is kinds.Ordinary e = absurd (false≢true e)

-- what is named stands so that its order is accepted
order_ok : (standing : List ℕ → Standing) (uri : List ℕ) (p : Parsed Ingredient) (label : List ℕ)
    → named_by (value_in p) ≡ Some label → AllByRecursion Holds (parsed_tests standing uri p)
    → AllByRecursion Holds (order_tests uri (standing label))
order_ok standing uri NoItem label n h = absurd (cc (n))
order_ok standing uri NoForm label n h = absurd (cc (n))
order_ok standing uri (Value g) label n h =
    subst (λ o. AllByRecursion Holds (option_map_or (λ (l : List ℕ). order_tests uri (standing l)) o [])) n h

-- by the label of the box
form_ok : (standing : List ℕ → Standing) (own : List ℕ) (p : Parsed Ingredient) (o : Option (List ℕ)) (label : List ℕ)
    → is_ingredient_label o ≡ true → named_by (value_in p) ≡ Some label
    → AllByRecursion Holds (option_map_or (λ (l : List ℕ). kind_tests standing (assertion_uri own l) p (rule.label_kind l)) o [])
    → (uri : List ℕ) × AllByRecursion Holds (order_tests uri (standing label))
unfolding rule.label_kind
form_ok standing own p None label i n h = absurd (false≢true i)
form_ok standing own p (Some l) label i n h =
    (assertion_uri own l, order_ok standing (assertion_uri own l) p label n (subst (λ k. AllByRecursion Holds (kind_tests standing (assertion_uri own l) p k)) (kind_is (kind_of l) i) h))

-- a manifest that stands earlier
pub record IsBefore (rs : List Reading) (i : ℕ) (label : List ℕ) : Type 0 where
  pub place : ℕ
  pub is : place_of rs label ≡ Some place
  pub earlier : place < i

-- what stands so that its order is accepted stands earlier
before_ok : (reached : ℕ → Bool) (rs : List Reading) (i : ℕ) (label uri : List ℕ)
    → AllByRecursion Holds (order_tests uri (standing_by reached rs i label)) → IsBefore rs i label
before_ok reached rs i label uri h = go (place_of rs label) refl h
  where
    go : (o : Option ℕ) → place_of rs label ≡ o
        → AllByRecursion Holds (order_tests uri (place_standing_by reached rs i o)) → IsBefore rs i label
    go None e g = absurd (true≢false g.0)
    go (Some m) e g =
        ⊎_elim (λ lt. record { place = m; is = e; earlier = lt })
        (λ le. absurd (true≢false (subst (λ b. AllByRecursion Holds (order_tests uri (cond b (earlier_standing (touched_by reached rs m) (slice_get rs m)) later))) (le-ltb m i le) g).0))
        (cases_lt m i)

-- what a box of a manifest names stands earlier, where its rules hold
pub named_before : (hash : Alg → List ℕ → List ℕ) (reached : ℕ → Bool) (rs : List Reading) (i : ℕ) (r : Reading)
    (b : ReadBox) (label : List ℕ)
    → ReadsKinds r → AllByRecursion Holds (unjudged_tests hash (seen_by reached rs i r))
    → Contains r.boxes b → named_in b ≡ Some label → IsBefore rs i label
named_before hash reached rs i r b label kinds_ok h c n =
    let s : Seen = seen_by reached rs i r in
    let forms = of_box (λ b. form_tests s b) 0 r.boxes b c (parts hash s h).forms in
    let ingredient : is_ingredient b.boxed ≡ true = kind (is_ingredient b.boxed) refl in
    let ok = form_ok s.standing (label_in r) b.ingredient b.boxed.label label ingredient n forms in
    before_ok reached rs i label ok.0 ok.1
  where
    kind : (x : Bool) → is_ingredient b.boxed ≡ x → is_ingredient b.boxed ≡ true
    kind true e = e
    kind false e =
        absurd
        (cc (sym (ap named_by (member_of (λ (b : ReadBox). is_ingredient b.boxed ≡ false → value_in b.ingredient ≡ None) r.boxes b kinds_ok c e)) ∙ n))

-- ---- tests that agree on what is listed

-- labels of entries that pass are the same
pub lists_same : (m : Manifest) (f g : List ℕ → Bool) (es : List Ref)
    → ((label : List ℕ) → lists_label m es label ≡ true → f label ≡ g label)
    → list_any (λ (e : Ref). passes_some f (entry_label m e)) es ≡ list_any (λ (e : Ref). passes_some g (entry_label m e)) es
lists_same m f g [] same = refl
lists_same m f g (e ∷ es) same =
    ap (λ b. b || list_any (λ (e : Ref). passes_some f (entry_label m e)) es) (here (entry_label m e) refl)
    ∙ ap (λ b. passes_some g (entry_label m e) || b)
    (lists_same m f g es (λ label more. same label (or_second (is_given (entry_label m e) label) (lists_label m es label) more)))
  where
    here : (o : Option (List ℕ)) → entry_label m e ≡ o → passes_some f o ≡ passes_some g o
    here None is = refl
    here (Some label) is =
        same label
        (Rattle.c2_rules.proofs.ListLemmas.or_left (is_given (entry_label m e) label) (lists_label m es label) (is_given_back (entry_label m e) label is))

-- a manifest is touched in both chains or in neither, where its entries pass alike
pub passing_same : (r : Reading) (f g : List ℕ → Bool)
    → ((label : List ℕ) → lists_label r.manifest (entries_in r) label ≡ true → f label ≡ g label)
    → lists_passing f (Some r) ≡ lists_passing g (Some r)
passing_same r f g same = lists_same r.manifest f g (entries_in r) same

-- ---- seen again

-- none is taken out
abbrev none_out : List ℕ → Bool
none_out label = false

-- where nothing is taken out, each box is kept
box_kept : (b : ReadBox) → is_kept none_out b ≡ true
box_kept b = go b.boxed.label
  where
    go : (o : Option (List ℕ)) → not (passes_some none_out o) ≡ true
    go None = refl
    go (Some l) = refl

-- where nothing is taken out, all boxes are kept
boxes_kept : (bs : List ReadBox) → filter (is_kept none_out) bs ≡ bs
boxes_kept [] = refl
boxes_kept (b ∷ bs) =
    ap (λ x. cond x (b ∷ filter (is_kept none_out) bs) (filter (is_kept none_out) bs)) (box_kept b)
    ∙ ap (λ (zs : List ReadBox). b ∷ zs) (boxes_kept bs)

-- what stands the same stands alike
alike_same : (signed : Bool) (s t : Standing) → t ≡ s → Alike signed s t
alike_same signed missing t e = inl e
alike_same signed later t e = e
alike_same signed (touched c) t e = e
alike_same signed (whole c own) t e = inl e

-- A manifest is seen again, no longer as the active one: of the labels that its claim lists the same are redacted, and what its
-- ingredients name stands the same.
pub record SeenAgain (was now : Seen) : Type 0 where
  pub own : now.own ≡ was.own
  pub active : now.is_active ≡ false
  pub redacted : (label : List ℕ) → lists_label was.own.manifest (entries_in was.own) label ≡ true
      → now.is_redacted label ≡ was.is_redacted label
  pub standing : (b : ReadBox) (label : List ℕ) → Contains was.own.boxes b → named_in b ≡ Some label
      → now.standing label ≡ was.standing label

-- the rules of a manifest that is seen again hold again
pub hold_again : (hash : Alg → List ℕ → List ℕ) (was now : Seen) → SeenAgain was now
    → AllHold (unjudged_tests hash was) → AllHold (unjudged_tests hash now)
hold_again hash was now h k = without_boxes hash none_out was now (record {
  contents = was.own.manifest.contents;
  assertions = was.own.manifest.assertions;
  own = h.own
      ∙ ap
      (λ (bs : List ReadBox). record { manifest = was.own.manifest; claim = was.own.claim; message = was.own.message; boxes = bs })
      (sym (boxes_kept was.own.boxes));
  active = h.active;
  redacted = h.redacted;
  boxes = all_members (StaysAlike none_out was.standing now.standing) was.own.boxes (λ b c. record {
    alike = λ label n. alike_same (has_signature b) (was.standing label) (now.standing label) (h.standing b label c n);
    no_kind = λ e. absurd (both_ways (is_kept none_out b) e (box_kept b));
    silent = λ e. absurd (both_ways (is_kept none_out b) e (box_kept b));
  });
}) k
