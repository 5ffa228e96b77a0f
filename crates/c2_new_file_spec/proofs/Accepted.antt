-- Redactions of which none is refused may be made.
use Rattle.std.proofs.Common.{◌≡◌, ⊎_elim, ℕ, ◌+◌, ◌<◌, Bool, true, false, not, ◌&&◌, cond, List, [], ◌∷◌, ◌++◌, length, Option, Some, None, slice_get, refl, sym, ap, ◌∙◌, subst, bytes_eq}
use Rattle.std.specs.Prelude.{nat_lt, option_map, option_and_then}
use Rattle.std.specs.List.{AllByRecursion, list_any}
use Rattle.std.specs.Option.{option_map_or, option_or}
use Rattle.std.proofs.lemmas.Bool.{or_parts, both_ways, not-false, true≢false, false≢true, false_from_ne_true}
use Rattle.std.proofs.lemmas.Option.{same_Some, slice_get_within}
use Rattle.std.proofs.lemmas.Slice.Eq.{bytes_eq-Decides}
use Rattle.c2_spec.specs.C2pa.Assertion.{kind_of}
use Rattle.c2_spec.specs.C2pa.Manifest.{is_given}
use Rattle.c2_spec.specs.C2pa.Uri.{PlainUri, PlainTarget, whole, assertion, signature, other, uri_of}
use Rattle.c2_spec.specs.declared.assertion.Kind.{Kind}
use Rattle.c2_spec.specs.declared.assertion.Kind.TheVariants as kinds
use Rattle.c2_rules.specs.Chains.{any_below, assertion_label, child_of, is_reached, label_in, named_in, names_assertion, passes_some, place_before, place_of}
use Rattle.c2_rules.specs.Ingredients.{is_ingredient, is_ingredient_kind, is_ingredient_label}
use Rattle.c2_rules.specs.Readings.{ReadBox, Reading, entries_in}
use Rattle.c2_rules.specs.Rules.{is_any_ingredient, lists_label, redaction_tests, target_tests, uri_tests}
use Rattle.c2_rules.specs.Rules as rule
use Rattle.c2_rules.specs.Tests.{each, first_failing}
use Rattle.c2_rules.specs.declared.answer.Failing.{Failing}
use Rattle.c2_rules.specs.declared.code.Code.TheVariants.{ProfileRedactionTarget}
use Rattle.c2_rules.proofs.ListLemmas.{from_below, from_passes, in_below}
use Rattle.c2_rules.proofs.ReachLemmas.{placed}
use Rattle.c2_rules.proofs.TestLemmas.{first_failing_append}
use Rattle.c2_chain_spec.specs.Older.{has_signature, is_kept}
use Rattle.c2_rules.proofs.Conditions.{Holds, all_hold, none_holds}
use Rattle.c2_new_file_spec.specs.Carrying.{FirstIsRefused, RedactionsAreAccepted}
use Rattle.c2_new_file_spec.specs.Less.{SignsTaken}
use Rattle.c2_new_file_spec.specs.Redacting.{takes_out}
use Rattle.c2_new_file_spec.specs.Refusing.{entry_tests, has_assertion, has_target, has_unsigned, is_target, names_unsigned, new_claim_uri, refusal_after, refused_by}
use Rattle.c2_lemmas.proofs.Bools.{both_true, or_cases}
use Rattle.c2_lemmas.proofs.Each.{each_append, each_back, each_front}
use Rattle.c2_lemmas.proofs.Options.{map_none, none_first}
use Rattle.c2_spec.proofs.GivenLabels.{given_is}

-- ---- an entry that isn't refused

-- what an entry passes, where it stands behind some
record IsFine (own : List ℕ) (rs : List Reading) (text : List ℕ) : Type 0 where
  rules : AllByRecursion Holds (redaction_tests own (new_claim_uri own) text)
  before : List (List ℕ)
  target : has_target rs before text ≡ true
  signed : has_unsigned rs text ≡ false

-- where none is refused, each entry passes
fine_each : (own : List ℕ) (rs : List Reading) (before texts : List (List ℕ)) → refusal_after own rs before texts ≡ None
    → AllByRecursion (IsFine own rs) texts
fine_each own rs before [] e = tt
fine_each own rs before (text ∷ texts) e =
    let parts =
    none_first (option_map (refused_by text) (first_failing (entry_tests own rs before text)))
    (refusal_after own rs (before ++ text ∷ []) texts) e in
    let all : AllByRecursion Holds (entry_tests own rs before text) =
    none_holds (entry_tests own rs before text)
    (map_none (refused_by text) (first_failing (entry_tests own rs before text)) parts.0) in
    let back = each_back Holds (redaction_tests own (new_claim_uri own) text) _ all in
    (record { rules = each_front Holds (redaction_tests own (new_claim_uri own) text) _ all; before = before; target = not-false (has_target rs before text) back.0; signed = back.1.0 }, fine_each own rs (before ++ text ∷ []) texts parts.1)

-- where no redaction is refused, the rules on redactions hold of each
rules_each : (own : List ℕ) (rs : List Reading) (k : ℕ) (texts : List (List ℕ)) → AllByRecursion (IsFine own rs) texts
    → AllByRecursion Holds (each (λ k text. redaction_tests own (new_claim_uri own) text) k texts)
rules_each own rs k [] h = tt
rules_each own rs k (text ∷ texts) h =
    each_append Holds (redaction_tests own (new_claim_uri own) text)
    (each (λ k text. redaction_tests own (new_claim_uri own) text) (k + 1) texts) h.0.rules
    (rules_each own rs (k + 1) texts h.1)

-- ---- the entry that takes a label out

-- the target of that label
pub target_is : (t : PlainTarget) (l : List ℕ) → assertion_label t ≡ Some l → t ≡ assertion l
target_is whole l e = absurd (cc (e))
target_is (assertion o) l e = ap assertion (same_Some o l e)
target_is signature l e = absurd (cc (e))
target_is (other p) l e = absurd (cc (e))

-- the one URI that names an assertion
pub named_uri : (m l : List ℕ) (u : Option PlainUri) → names_assertion m l u ≡ true
    → u ≡ Some (record { manifest = Some m; target = assertion l })
named_uri m l None e = absurd (false≢true e)
named_uri m l (Some u) e =
    let both = both_true (is_given u.manifest m) (is_given (assertion_label u.target) l) e in
    ap (λ (o : Option (List ℕ)). Some (record { manifest = o; target = u.target })) (given_is u.manifest m both.0)
    ∙ ap (λ (t : PlainTarget). Some (record { manifest = Some m; target = t }))
    (target_is u.target l (given_is (assertion_label u.target) l both.1))

-- an entry that takes this label out of this manifest
record Takes (own : List ℕ) (rs : List Reading) (m l : List ℕ) : Type 0 where
  text : List ℕ
  fine : IsFine own rs text
  uri : uri_of text ≡ Some (record { manifest = Some m; target = assertion l })

-- there is one, where the label is taken out
takes : (own : List ℕ) (rs : List Reading) (m l : List ℕ) (texts : List (List ℕ)) → AllByRecursion (IsFine own rs) texts
    → takes_out texts m l ≡ true → Takes own rs m l
takes own rs m l [] h e = absurd (false≢true e)
takes own rs m l (text ∷ texts) h e =
    ⊎_elim (λ here. record { text = text; fine = h.0; uri = named_uri m l (uri_of text) here })
    (λ later. takes own rs m l texts h.1 later)
    (or_cases (names_assertion m l (uri_of text)) (takes_out texts m l) e)

-- ---- kinds

-- a kind that is none of ingredients
pub no_kind : (k : Kind) → is_any_ingredient k ≡ false → is_ingredient_kind k ≡ false
no_kind kinds.DataHash e = refl
no_kind kinds.BmffHash e = refl
no_kind kinds.OtherHash e = refl
no_kind kinds.Ingredient e = absurd (true≢false e)
no_kind kinds.IngredientOther e = refl
no_kind kinds.Actions e = refl
no_kind kinds.Cloud e = refl
no_kind kinds.Ordinary e = refl

-- what is taken out is no ingredient
taken_kind : (own : List ℕ) (rs : List Reading) (m l : List ℕ) → Takes own rs m l
    → is_ingredient_kind (kind_of l) ≡ false
unfolding rule.label_kind
taken_kind own rs m l t =
    let tests : AllByRecursion Holds (target_tests own (new_claim_uri own) (Some m) (assertion l)) =
    subst (λ u. AllByRecursion Holds (uri_tests own (new_claim_uri own) u)) t.uri t.fine.rules in
    no_kind (kind_of l) tests.1.1.1.0

-- a box that isn't kept is no ingredient
no_ingredient : (own : List ℕ) (rs : List Reading) (texts : List (List ℕ)) (m : List ℕ) (b : ReadBox)
    → AllByRecursion (IsFine own rs) texts → is_kept (takes_out texts m) b ≡ false → is_ingredient b.boxed ≡ false
no_ingredient own rs texts m b h e = go b.boxed.label (not-false (passes_some (takes_out texts m) b.boxed.label) e)
  where
    go : (o : Option (List ℕ)) → passes_some (takes_out texts m) o ≡ true → is_ingredient_label o ≡ false
    go None g = absurd (false≢true g)
    go (Some l) g = taken_kind own rs m l (takes own rs m l texts h g)

-- what holds of any box holds of each
pub each_box : (P : ReadBox → Type 0) (bs : List ReadBox) → ((b : ReadBox) → P b) → AllByRecursion P bs
each_box P [] h = tt
each_box P (b ∷ bs) h = (h b, each_box P bs h)

-- ---- the manifest that loses a box

-- the reached manifest of which a label is taken out
record IsTargetAt (rs : List Reading) (m l : List ℕ) : Type 0 where
  place : ℕ
  reading : Reading
  is : slice_get rs place ≡ Some reading
  reached : is_reached rs place ≡ true
  label : label_in reading ≡ m
  listed : lists_label reading.manifest (entries_in reading) l ≡ true

-- the reached manifest of which a label is taken out is there
target_at : (own : List ℕ) (rs : List Reading) (m l : List ℕ) → Takes own rs m l → IsTargetAt rs m l
target_at own rs m l t =
    let before : List (List ℕ) = t.fine.before in
    let found =
    from_below (λ i. is_reached rs i && passes_some (is_target before (uri_of t.text)) (slice_get rs i))
    (length rs) t.fine.target in
    let both =
    both_true (is_reached rs found.0) (passes_some (is_target before (uri_of t.text)) (slice_get rs found.0))
    found.2 in
    let at = from_passes (is_target before (uri_of t.text)) (slice_get rs found.0) both.1 in
    let named : is_target before (Some (record { manifest = Some m; target = assertion l })) at.0 ≡ true =
    sym (ap (λ u. is_target before u at.0) t.uri) ∙ at.2 in
    let parts = both_true (bytes_eq m (label_in at.0)) (has_assertion before at.0 l) named in
    record {
      place = found.0;
      reading = at.0;
      is = at.1;
      reached = both.0;
      label = sym ((bytes_eq-Decides m (label_in at.0)).0 parts.0);
      listed = (both_true (lists_label at.0.manifest (entries_in at.0) l) _ parts.1).0;
    }

-- ---- signatures

-- what passes nowhere doesn't pass here
pub below_false : (f : ℕ → Bool) (n i : ℕ) → any_below f n ≡ false → i < n → f i ≡ false
below_false f n i e lt = false_from_ne_true (f i) (λ t. both_ways (any_below f n) e (in_below f n i lt t))

-- the label of the child that a box names
pub child_label : (rs : List Reading) (i m : ℕ) (b : ReadBox) (c : Reading) → child_of rs i b ≡ Some m
    → slice_get rs m ≡ Some c → named_in b ≡ Some (label_in c)
child_label rs i m b c e f = go (named_in b) refl e
  where
    before : (o : Option ℕ) → place_before i o ≡ Some m → o ≡ Some m
    before None g = absurd (cc (g))
    before (Some k) g = by_test (nat_lt k i) g
      where
        by_test : (x : Bool) → cond x (Some k) None ≡ Some m → ◌≡◌ {A = Option ℕ} (Some k) (Some m)
        by_test true h = h
        by_test false h = absurd (cc (h))

    go : (o : Option (List ℕ)) → named_in b ≡ o → place_before i (option_and_then (place_of rs) o) ≡ Some m
        → named_in b ≡ Some (label_in c)
    go None g h = absurd (cc (h))
    go (Some lab) g h =
        let at = placed rs lab m (before (place_of rs lab) h) in
        g ∙ ap Some (sym at.2 ∙ ap label_in (same_Some at.0 c (sym at.1 ∙ f)))

-- no text names this box's manifest where the box lacks a signature
abbrev pub BoxFine : List (List ℕ) → ReadBox → Type 0
BoxFine texts b = AllByRecursion (λ (text : List ℕ). names_unsigned (uri_of text) b ≡ false) texts

-- none of these boxes lacks a signature
pub none_unsigned : (u : Option PlainUri) (bs : List ReadBox) → list_any (names_unsigned u) bs ≡ false
    → AllByRecursion (λ (b : ReadBox). names_unsigned u b ≡ false) bs
none_unsigned u [] e = tt
none_unsigned u (b ∷ bs) e = let parts = or_parts (names_unsigned u b) (list_any (names_unsigned u) bs) e in (parts.0, none_unsigned u bs parts.1)

-- none of the boxes of a reached manifest lacks a signature, of one text
signed_boxes : (rs : List Reading) (i : ℕ) (r : Reading) (text : List ℕ) → is_reached rs i ≡ true
    → slice_get rs i ≡ Some r → has_unsigned rs text ≡ false
    → AllByRecursion (λ (b : ReadBox). names_unsigned (uri_of text) b ≡ false) r.boxes
signed_boxes rs i r text reached is h =
    let f : Reading → Bool = λ (x : Reading). list_any (names_unsigned (uri_of text)) x.boxes in
    let at : (is_reached rs i && passes_some f (slice_get rs i)) ≡ false =
    below_false (λ k. is_reached rs k && passes_some f (slice_get rs k)) (length rs) i h
    (slice_get_within rs i r is) in
    none_unsigned (uri_of text) r.boxes
    (sym (ap (λ x. x && passes_some f (slice_get rs i)) reached ∙ ap (passes_some f) is) ∙ at)

-- box by box, of one more text
pub add_text : (text : List ℕ) (texts : List (List ℕ)) (bs : List ReadBox)
    → AllByRecursion (λ (b : ReadBox). names_unsigned (uri_of text) b ≡ false) bs → AllByRecursion (BoxFine texts) bs
    → AllByRecursion (BoxFine (text ∷ texts)) bs
add_text text texts [] h k = tt
add_text text texts (b ∷ bs) h k = ((h.0, k.0), add_text text texts bs h.1 k.1)

-- each box of a reached manifest is fine with all texts
boxes_fine : (own : List ℕ) (rs : List Reading) (i : ℕ) (r : Reading) (texts : List (List ℕ))
    → AllByRecursion (IsFine own rs) texts → is_reached rs i ≡ true → slice_get rs i ≡ Some r
    → AllByRecursion (BoxFine texts) r.boxes
boxes_fine own rs i r [] h reached is = each_box (BoxFine []) r.boxes (λ b. tt)
boxes_fine own rs i r (text ∷ texts) h reached is =
    add_text text texts r.boxes (signed_boxes rs i r text reached is h.0.signed)
    (boxes_fine own rs i r texts h.1 reached is)

-- the text that takes a label out of the child that a box names
box_signed : (m l : List ℕ) (b : ReadBox) (texts : List (List ℕ)) → named_in b ≡ Some m → BoxFine texts b
    → takes_out texts m l ≡ true → has_signature b ≡ true
box_signed m l b [] n h t = absurd (false≢true t)
box_signed m l b (text ∷ texts) n h t = ⊎_elim (λ here.
    let uri = named_uri m l (uri_of text) here in
    let names : passes_some (is_given (Some m)) (named_in b) ≡ true =
    ap (passes_some (is_given (Some m))) n ∙ (bytes_eq-Decides m m).1 refl in
    let lacks : (passes_some (is_given (Some m)) (named_in b) && not (has_signature b)) ≡ false =
    sym (ap (λ u. names_unsigned u b) uri) ∙ h.0 in
    not-false (has_signature b) (sym (ap (λ x. x && not (has_signature b)) names) ∙ lacks)) (λ later. box_signed m l b texts n h.1 later) (or_cases (names_assertion m l (uri_of text)) (takes_out texts m l) t)

-- each box names a signature where something is taken out of its child
pub all_signed : (rs : List Reading) (i : ℕ) (texts : List (List ℕ)) (bs : List ReadBox)
    → AllByRecursion (BoxFine texts) bs → AllByRecursion (SignsTaken texts rs i) bs
all_signed rs i texts [] h = tt
all_signed rs i texts (b ∷ bs) h =
    ((λ m c label child is taken. box_signed (label_in c) label b texts (child_label rs i m b c child is) h.0 taken), all_signed rs i texts bs h.1)

-- ---- all of them

-- redactions of which none is refused may be made
pub accepted : RedactionsAreAccepted
accepted own rs texts differ e =
    let fine = fine_each own rs [] texts e in
    record {
      can = record {
        kinds =
            λ i r is. each_box (λ b. is_kept (takes_out texts (label_in r)) b ≡ false → is_ingredient b.boxed ≡ false) r.boxes (λ b f. no_ingredient own rs texts (label_in r) b fine f);
        reached = λ i r label is taken. let t = target_at own rs (label_in r) label (takes own rs (label_in r) label texts fine taken) in subst (λ k. is_reached rs k ≡ true) (differ t.place i t.reading r t.is is t.label) t.reached;
        listed = λ i r label is taken.
            let t = target_at own rs (label_in r) label (takes own rs (label_in r) label texts fine taken) in
            let same : t.reading ≡ r =
            same_Some t.reading r (sym t.is ∙ ap (slice_get rs) (differ t.place i t.reading r t.is is t.label) ∙ is) in
            subst (λ (x : Reading). lists_label x.manifest (entries_in x) label ≡ true) same t.listed;
        signed = λ i r reached is. all_signed rs i texts r.boxes (boxes_fine own rs i r texts fine reached is);
      };
      rules = all_hold _ (rules_each own rs 0 texts fine);
    }

-- ---- without an older store

-- the first is refused by a rule, or since nothing is there
pub first_refused : FirstIsRefused
first_refused own text others =
    ap (λ (o : Option Failing). option_or (option_map (refused_by text) o) (refusal_after own [] (text ∷ []) others))
    (first_failing_append (redaction_tests own (new_claim_uri own) text) _)
    ∙ go (first_failing (redaction_tests own (new_claim_uri own) text))
  where
    go : (o : Option Failing)
        → option_or (option_map (refused_by text) (option_or o (Some (record { code = ProfileRedactionTarget; uri = text })))) (refusal_after own [] (text ∷ []) others)
        ≡ Some (record { text = text; code = option_map_or (λ (f : Failing). f.code) o ProfileRedactionTarget })
    go None = refl
    go (Some f) = refl
