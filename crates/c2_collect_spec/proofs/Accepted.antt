-- Redactions of a chain of which none is refused may be made.
use Rattle.std.proofs.Common.{◌≡◌, ⊎_elim, ℕ, ◌+◌, Bool, true, false, ◌&&◌, List, [], ◌∷◌, ◌++◌, length, Option, Some, None, slice_get, refl, sym, ap, ◌∙◌, subst, bytes_eq}
use Rattle.std.specs.Prelude.{option_map}
use Rattle.std.specs.List.{AllByRecursion, list_any}
use Rattle.std.specs.Option.{option_or}
use Rattle.std.proofs.lemmas.Bool.{not-false, false≢true}
use Rattle.std.proofs.lemmas.Option.{same_Some, slice_get_within}
use Rattle.std.proofs.lemmas.Slice.Eq.{bytes_eq-Decides}
use Rattle.c2_spec.specs.C2pa.Assertion.{kind_of}
use Rattle.c2_spec.specs.C2pa.Uri.{assertion, uri_of}
use Rattle.c2_spec.specs.declared.assertion.Kind.TheVariants as kinds
use Rattle.c2_rules.specs.Chains.{is_reached, label_in, names_assertion, passes_some}
use Rattle.c2_rules.specs.Ingredients.{is_ingredient, is_ingredient_kind, is_ingredient_label}
use Rattle.c2_rules.specs.Readings.{ReadBox, Reading, entries_in}
use Rattle.c2_rules.specs.Rules.{lists_label, redaction_tests, target_tests, uri_tests}
use Rattle.c2_rules.specs.Rules as rule
use Rattle.c2_rules.specs.Tests.{each, first_failing}
use Rattle.c2_rules.proofs.ListLemmas.{from_below, from_passes}
use Rattle.c2_chain_spec.specs.Older.{is_kept}
use Rattle.c2_rules.proofs.Conditions.{Holds, all_hold, none_holds}
use Rattle.c2_new_file_spec.specs.Redacting.{takes_out}
use Rattle.c2_new_file_spec.specs.Refusing.{entry_tests, has_assertion, is_target, names_unsigned, new_claim_uri, refusal_after, refused_by}
use Rattle.c2_collect_spec.specs.Refusals.{RedactionsAreAcceptedBy, RefusalsAreStanding, entry_tests_by, has_target_by, has_unsigned_by, refusal_after_by}
use Rattle.c2_lemmas.proofs.Bools.{both_true, or_cases}
use Rattle.c2_lemmas.proofs.Each.{each_append, each_back, each_front}
use Rattle.c2_lemmas.proofs.Options.{map_none, none_first}
use Rattle.c2_new_file_spec.proofs.Accepted.{BoxFine, add_text, all_signed, below_false, each_box, named_uri, no_kind, none_unsigned}

-- ---- an entry that isn't refused

-- what an entry passes, where it stands behind some
record IsFine (reached : ℕ → Bool) (own : List ℕ) (rs : List Reading) (text : List ℕ) : Type 0 where
  rules : AllByRecursion Holds (redaction_tests own (new_claim_uri own) text)
  before : List (List ℕ)
  target : has_target_by reached rs before text ≡ true
  signed : has_unsigned_by reached rs text ≡ false

-- where none is refused, each entry passes
fine_each : (reached : ℕ → Bool) (own : List ℕ) (rs : List Reading) (before texts : List (List ℕ))
    → refusal_after_by reached own rs before texts ≡ None → AllByRecursion (IsFine reached own rs) texts
fine_each reached own rs before [] e = tt
fine_each reached own rs before (text ∷ texts) e =
    let parts =
    none_first (option_map (refused_by text) (first_failing (entry_tests_by reached own rs before text)))
    (refusal_after_by reached own rs (before ++ text ∷ []) texts) e in
    let all : AllByRecursion Holds (entry_tests_by reached own rs before text) =
    none_holds (entry_tests_by reached own rs before text)
    (map_none (refused_by text) (first_failing (entry_tests_by reached own rs before text)) parts.0) in
    let back = each_back Holds (redaction_tests own (new_claim_uri own) text) _ all in
    (record { rules = each_front Holds (redaction_tests own (new_claim_uri own) text) _ all; before = before; target = not-false (has_target_by reached rs before text) back.0; signed = back.1.0 }, fine_each reached own rs (before ++ text ∷ []) texts parts.1)

-- where no redaction is refused, the rules on redactions hold of each
rules_each : (reached : ℕ → Bool) (own : List ℕ) (rs : List Reading) (k : ℕ) (texts : List (List ℕ))
    → AllByRecursion (IsFine reached own rs) texts
    → AllByRecursion Holds (each (λ k text. redaction_tests own (new_claim_uri own) text) k texts)
rules_each reached own rs k [] h = tt
rules_each reached own rs k (text ∷ texts) h =
    each_append Holds (redaction_tests own (new_claim_uri own) text)
    (each (λ k text. redaction_tests own (new_claim_uri own) text) (k + 1) texts) h.0.rules
    (rules_each reached own rs (k + 1) texts h.1)

-- ---- the entry that takes a label out

-- an entry that takes this label out of this manifest
record Takes (reached : ℕ → Bool) (own : List ℕ) (rs : List Reading) (m l : List ℕ) : Type 0 where
  text : List ℕ
  fine : IsFine reached own rs text
  uri : uri_of text ≡ Some (record { manifest = Some m; target = assertion l })

-- there is one, where the label is taken out
takes : (reached : ℕ → Bool) (own : List ℕ) (rs : List Reading) (m l : List ℕ) (texts : List (List ℕ))
    → AllByRecursion (IsFine reached own rs) texts → takes_out texts m l ≡ true → Takes reached own rs m l
takes reached own rs m l [] h e = absurd (false≢true e)
takes reached own rs m l (text ∷ texts) h e =
    ⊎_elim (λ here. record { text = text; fine = h.0; uri = named_uri m l (uri_of text) here })
    (λ later. takes reached own rs m l texts h.1 later)
    (or_cases (names_assertion m l (uri_of text)) (takes_out texts m l) e)

-- ---- kinds

-- what is taken out is no ingredient
taken_kind : (reached : ℕ → Bool) (own : List ℕ) (rs : List Reading) (m l : List ℕ) → Takes reached own rs m l
    → is_ingredient_kind (kind_of l) ≡ false
unfolding rule.label_kind
taken_kind reached own rs m l t =
    let tests : AllByRecursion Holds (target_tests own (new_claim_uri own) (Some m) (assertion l)) =
    subst (λ u. AllByRecursion Holds (uri_tests own (new_claim_uri own) u)) t.uri t.fine.rules in
    no_kind (kind_of l) tests.1.1.1.0

-- a box that isn't kept is no ingredient
no_ingredient : (reached : ℕ → Bool) (own : List ℕ) (rs : List Reading) (texts : List (List ℕ)) (m : List ℕ) (b : ReadBox)
    → AllByRecursion (IsFine reached own rs) texts → is_kept (takes_out texts m) b ≡ false
    → is_ingredient b.boxed ≡ false
no_ingredient reached own rs texts m b h e = go b.boxed.label (not-false (passes_some (takes_out texts m) b.boxed.label) e)
  where
    go : (o : Option (List ℕ)) → passes_some (takes_out texts m) o ≡ true → is_ingredient_label o ≡ false
    go None g = absurd (false≢true g)
    go (Some l) g = taken_kind reached own rs m l (takes reached own rs m l texts h g)

-- ---- the manifest that loses a box

-- the reached manifest of which a label is taken out
record IsTargetAt (reached : ℕ → Bool) (rs : List Reading) (m l : List ℕ) : Type 0 where
  place : ℕ
  reading : Reading
  is : slice_get rs place ≡ Some reading
  is_reached : reached place ≡ true
  label : label_in reading ≡ m
  listed : lists_label reading.manifest (entries_in reading) l ≡ true

-- the reached manifest of which a label is taken out is there
target_at : (reached : ℕ → Bool) (own : List ℕ) (rs : List Reading) (m l : List ℕ) → Takes reached own rs m l
    → IsTargetAt reached rs m l
target_at reached own rs m l t =
    let before : List (List ℕ) = t.fine.before in
    let found =
    from_below (λ i. reached i && passes_some (is_target before (uri_of t.text)) (slice_get rs i)) (length rs) t.fine.target in
    let both =
    both_true (reached found.0) (passes_some (is_target before (uri_of t.text)) (slice_get rs found.0)) found.2 in
    let at = from_passes (is_target before (uri_of t.text)) (slice_get rs found.0) both.1 in
    let named : is_target before (Some (record { manifest = Some m; target = assertion l })) at.0 ≡ true =
    sym (ap (λ u. is_target before u at.0) t.uri) ∙ at.2 in
    let parts = both_true (bytes_eq m (label_in at.0)) (has_assertion before at.0 l) named in
    record {
      place = found.0;
      reading = at.0;
      is = at.1;
      is_reached = both.0;
      label = sym ((bytes_eq-Decides m (label_in at.0)).0 parts.0);
      listed = (both_true (lists_label at.0.manifest (entries_in at.0) l) _ parts.1).0;
    }

-- ---- signatures

-- none of the boxes of a reached manifest lacks a signature, of one text
signed_boxes : (reached : ℕ → Bool) (rs : List Reading) (i : ℕ) (r : Reading) (text : List ℕ) → reached i ≡ true
    → slice_get rs i ≡ Some r → has_unsigned_by reached rs text ≡ false
    → AllByRecursion (λ (b : ReadBox). names_unsigned (uri_of text) b ≡ false) r.boxes
signed_boxes reached rs i r text there is h =
    let f : Reading → Bool = λ (x : Reading). list_any (names_unsigned (uri_of text)) x.boxes in
    let at : (reached i && passes_some f (slice_get rs i)) ≡ false =
    below_false (λ k. reached k && passes_some f (slice_get rs k)) (length rs) i h (slice_get_within rs i r is) in
    none_unsigned (uri_of text) r.boxes
    (sym (ap (λ x. x && passes_some f (slice_get rs i)) there ∙ ap (passes_some f) is) ∙ at)

-- each box of a reached manifest is fine with all texts
boxes_fine : (reached : ℕ → Bool) (own : List ℕ) (rs : List Reading) (i : ℕ) (r : Reading) (texts : List (List ℕ))
    → AllByRecursion (IsFine reached own rs) texts → reached i ≡ true → slice_get rs i ≡ Some r
    → AllByRecursion (BoxFine texts) r.boxes
boxes_fine reached own rs i r [] h there is = each_box (BoxFine []) r.boxes (λ b. tt)
boxes_fine reached own rs i r (text ∷ texts) h there is =
    add_text text texts r.boxes (signed_boxes reached rs i r text there is h.0.signed)
    (boxes_fine reached own rs i r texts h.1 there is)

-- ---- all of them

-- redactions of which none is refused may be made
pub accepted : RedactionsAreAcceptedBy
accepted reached own rs texts differ e =
    let fine = fine_each reached own rs [] texts e in
    record {
      can = record {
        kinds =
            λ i r is. each_box (λ b. is_kept (takes_out texts (label_in r)) b ≡ false → is_ingredient b.boxed ≡ false) r.boxes (λ b f. no_ingredient reached own rs texts (label_in r) b fine f);
        reached = λ i r label is taken. let t = target_at reached own rs (label_in r) label (takes reached own rs (label_in r) label texts fine taken) in subst (λ k. reached k ≡ true) (differ t.place i t.reading r t.is is t.label) t.is_reached;
        listed = λ i r label is taken.
            let t =
            target_at reached own rs (label_in r) label (takes reached own rs (label_in r) label texts fine taken) in
            let same : t.reading ≡ r =
            same_Some t.reading r (sym t.is ∙ ap (slice_get rs) (differ t.place i t.reading r t.is is t.label) ∙ is) in
            subst (λ (x : Reading). lists_label x.manifest (entries_in x) label ≡ true) same t.listed;
        signed = λ i r there is. all_signed rs i texts r.boxes (boxes_fine reached own rs i r texts fine there is);
      };
      rules = all_hold _ (rules_each reached own rs 0 texts fine);
    }

-- ---- one store

-- what is refused of what is reached in a store is what is refused of the store, entry by entry
refusals_same : (own : List ℕ) (rs : List Reading) (before redacts : List (List ℕ))
    → refusal_after_by (is_reached rs) own rs before redacts ≡ refusal_after own rs before redacts
refusals_same own rs before [] = refl
refusals_same own rs before (text ∷ others) =
    ap (λ o. option_or (option_map (refused_by text) (first_failing (entry_tests own rs before text))) o)
    (refusals_same own rs (before ++ text ∷ []) others)

-- what is refused of what is reached in a store is what is refused of the store
pub refusals_standing : RefusalsAreStanding
refusals_standing own rs redacts = refusals_same own rs [] redacts
