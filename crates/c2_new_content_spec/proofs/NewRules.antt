-- The rules of a new manifest hold, apart from the verdict on its message.
use Rattle.std.specs.Prelude.{◌==◌, filter, find, filter_map, nat_lt, is_none, is_some, not, ◌&&◌, ◌||◌}
use Rattle.std.proofs.Common.{◌≡◌, ◌≢◌, ℕ, ◌+◌, ◌≤◌, Bool, true, false, cond, List, [], ◌∷◌, ◌++◌, length, map, take, Some, refl, sym, ap, ◌∙◌, subst, append-nil, append_assoc, length-append, bytes_eq}
use Rattle.std.specs.List.{AllByRecursion, cons_option}
use Rattle.std.specs.declared.option.Option.{Option}
use Rattle.std.specs.Option.{option_map_or}
use Rattle.std.proofs.lemmas.Bool.{and_left, and_right, not_from_true, false_from_ne_true, or_left, or_right, or_from, le-ltb}
use Rattle.std.proofs.lemmas.Slice.Eq.{bytes_eq-Decides}
use Rattle.c2_spec.proofs.Digests.{named_back}
use Rattle.c2_spec.specs.Digest.{alg_name}
use Rattle.c2_spec.specs.C2pa.Assertion.{kind_of}
use Rattle.c2_spec.specs.C2pa.Manifest.{Manifest, is_given}
use Rattle.c2_spec.specs.C2pa.Sign1.{SignParts}
use Rattle.c2_spec.specs.declared.assertion.Ingredient.{Ingredient}
use Rattle.c2_spec.specs.declared.cbor.Ref.{Ref}
use Rattle.c2_spec.specs.declared.digest.Alg.{Alg}
use Rattle.c2_rules.specs.Chains.{entry_label, label_in, own_assertion}
use Rattle.c2_rules.specs.Ingredients.{assertion_uri}
use Rattle.c2_rules.specs.Questions.{is_signature_in}
use Rattle.c2_rules.specs.Readings.{ReadBox, Reading, entries_in, redactions_in, names_signature}
use Rattle.c2_rules.specs.Rules.{claim_tests, rest_tests, unjudged_tests, ingredient_tests, entry_tests, labelled_tests, box_test, redaction_tests, form_tests, standard_tests, hash_kind_test}
use Rattle.c2_rules.specs.Rules.{lists_label, is_labelled, box_with, box_has_digest, is_cloud, is_other_hash, is_binding, labels_in, bindings_in, has_other_hash, parents_in, claim_uri, has_digest_by}
use Rattle.c2_rules.specs.Rules as rule
use Rattle.c2_rules.specs.Seen.{Seen, Standing}
use Rattle.c2_rules.specs.Tests.{test, each, over_all}
use Rattle.c2_rules.specs.declared.code.Code.TheVariants.{ProfileAssertionUri}
use Rattle.c2_rules.specs.declared.parsed.Parsed.{Parsed}
use Rattle.c2_rules.specs.declared.parsed.Parsed.TheVariants.{Value}
use Rattle.c2_claim.specs.Written.{claim_from}
use Rattle.c2_claim.specs.declared.writing.ClaimParts.{ClaimParts}
use Rattle.c2_definition.specs.declared.types.NewAssertion.{NewAssertion}
use Rattle.c2_new_file_spec.specs.FreshBoxes.{contents_of}
use Rattle.c2_new_file_spec.specs.Store.{entry_of, assertion_box}
use Rattle.c2_new_file_spec.specs.Written.{written_assertion, written_manifest}
use Rattle.c2_rules.proofs.Conditions.{Holds}
use Rattle.c2_new_file_spec.proofs.Labels.{IsLabelText}
use Rattle.c2_new_file_spec.proofs.WrittenStore.{DiffersFrom, AreDifferent}
use Rattle.c2_new_content_spec.proofs.Uris.{own_assertion_read, signature_read}
use Rattle.c2_lemmas.proofs.Each.{each_append, each_back, each_front}
use Rattle.c2_lemmas.proofs.Lists.{same_bytes}

-- ---- bytes

-- bytes that differ aren't equal by the test
other_bytes : (a b : List ℕ) → (a ≡ b → ⊥) → bytes_eq a b ≡ false
other_bytes a b h = false_from_ne_true (bytes_eq a b) (λ e. h ((bytes_eq-Decides a b).0 e))

-- ---- what a new manifest is read as

-- the box of a new assertion, where `ingredient` says what each is read as
abbrev pub new_box : (NewAssertion → Parsed Ingredient) → NewAssertion → ReadBox
new_box ingredient a = record { boxed = written_assertion a; ingredient = ingredient a }

-- the boxes of new assertions
abbrev pub new_boxes : (NewAssertion → Parsed Ingredient) → List NewAssertion → List ReadBox
new_boxes ingredient as_ = map (new_box ingredient) as_

-- the references to them
abbrev pub entries_of : (List ℕ → List ℕ) → List NewAssertion → List Ref
entries_of hash as_ = map (entry_of hash) as_

-- what a claim is made of beside the label and the entries
pub record Said : Type 0 where
  pub instance : List ℕ
  pub generator : List ℕ
  pub title : Option (List ℕ)
  pub alg : Alg
  pub redacted : List (List ℕ)

-- the parts of a claim with this label, what it says beside that, and the references to these assertions
abbrev pub new_parts : (List ℕ → List ℕ) → List ℕ → Said → List NewAssertion → ClaimParts
new_parts hash label said as_ =
    record
    { label = label; instance = said.instance; generator = said.generator; title = said.title; alg = alg_name said.alg; entries = entries_of hash as_; redacted = said.redacted }

-- a manifest with this label, these assertions and this claim, as it is read; its message has these parts
abbrev pub new_reading : (List ℕ → List ℕ) → (NewAssertion → Parsed Ingredient) → List ℕ → Said → List NewAssertion
    → List ℕ → List ℕ → SignParts → Reading
new_reading hash ingredient label said as_ claim message p = record {
  manifest = written_manifest label as_ claim message;
  claim = Value (claim_from (new_parts hash label said as_));
  message = Some p;
  boxes = new_boxes ingredient as_;
}

-- ---- the lists of entries and boxes

-- of the references to assertions, the first ones are those to the assertions in front
take_entries : (hash : List ℕ → List ℕ) (pre others : List NewAssertion)
    → take (length pre) (entries_of hash (pre ++ others)) ≡ entries_of hash pre
take_entries hash [] others = refl
take_entries hash (a ∷ pre) others = ap (λ (es : List Ref). entry_of hash a ∷ es) (take_entries hash pre others)

-- a label that can stand in a URI, with a kind that no rule refuses
pub record IsListed (a : NewAssertion) : Type 0 where
  pub text : IsLabelText a.label
  pub no_cloud : is_cloud (kind_of a.label) ≡ false
  pub no_other : is_other_hash (kind_of a.label) ≡ false

-- the reference to a new assertion is read as one to its label
label_read : (m : Manifest) (hash : List ℕ → List ℕ) (a : NewAssertion) → IsListed a
    → entry_label m (entry_of hash a) ≡ Some a.label
label_read m hash a h = ap (own_assertion m.label) (own_assertion_read a.label h.text)

-- where a label differs from those of a list, it differs from that of any member
differs_from : (label : List ℕ) (pre : List NewAssertion) (a : NewAssertion) (others : List NewAssertion)
    → DiffersFrom label (pre ++ a ∷ others) → a.label ≢ label
differs_from label [] a others h = h.0
differs_from label (x ∷ pre) a others h = differs_from label pre a others h.1

-- an entry before another has another label
none_before :
    (m : Manifest) (hash : List ℕ → List ℕ) (pre : List NewAssertion) (a : NewAssertion) (others : List NewAssertion)
    → AllByRecursion IsListed pre → AreDifferent (pre ++ a ∷ others)
    → lists_label m (entries_of hash pre) a.label ≡ false
none_before m hash [] a others h d = refl
none_before m hash (x ∷ pre) a others h d =
    or_from (is_given (entry_label m (entry_of hash x)) a.label) (lists_label m (entries_of hash pre) a.label)
    (ap (λ o. is_given o a.label) (label_read m hash x h.0) ∙ other_bytes x.label a.label (λ e. differs_from x.label pre a others d.0 (sym e)))
    (none_before m hash pre a others h.1 d.1)

-- the references to assertions list the label of each of them
lists_it :
    (m : Manifest) (hash : List ℕ → List ℕ) (pre : List NewAssertion) (a : NewAssertion) (others : List NewAssertion)
    → AllByRecursion IsListed (pre ++ a ∷ others) → lists_label m (entries_of hash (pre ++ a ∷ others)) a.label ≡ true
lists_it m hash [] a others h =
    or_left (is_given (entry_label m (entry_of hash a)) a.label) (lists_label m (entries_of hash others) a.label)
    (ap (λ o. is_given o a.label) (label_read m hash a h.0) ∙ same_bytes a.label)
lists_it m hash (x ∷ pre) a others h =
    or_right (is_given (entry_label m (entry_of hash x)) a.label)
    (lists_label m (entries_of hash (pre ++ a ∷ others)) a.label) (lists_it m hash pre a others h.1)

-- the first box with an assertion's label is that assertion's, where the labels differ
pub box_found :
    (ingredient : NewAssertion → Parsed Ingredient) (pre : List NewAssertion) (a : NewAssertion)
    (others : List NewAssertion)
    → AreDifferent (pre ++ a ∷ others)
    → find (is_labelled a.label) (new_boxes ingredient (pre ++ a ∷ others)) ≡ Some (new_box ingredient a)
box_found ingredient [] a others d =
    ap (λ b. cond b (Some (new_box ingredient a)) (find (is_labelled a.label) (new_boxes ingredient others)))
    (same_bytes a.label)
box_found ingredient (x ∷ pre) a others d =
    ap
    (λ b. cond b (Some (new_box ingredient x)) (find (is_labelled a.label) (new_boxes ingredient (pre ++ a ∷ others))))
    (other_bytes x.label a.label (λ e. differs_from x.label pre a others d.0 (sym e)))
    ∙ box_found ingredient pre a others d.1

-- the labels that the entries list
listed_labels : (m : Manifest) (hash : List ℕ → List ℕ) (as_ : List NewAssertion) → AllByRecursion IsListed as_
    → filter_map (entry_label m) (entries_of hash as_) ≡ map (λ (a : NewAssertion). a.label) as_
listed_labels m hash [] h = refl
listed_labels m hash (a ∷ others) h =
    ap (λ o. cons_option o (filter_map (entry_label m) (entries_of hash others))) (label_read m hash a h.0)
    ∙ ap (λ (ls : List (List ℕ)). a.label ∷ ls) (listed_labels m hash others h.1)

-- ---- the rules

-- what the rules see of the new manifest, which is the active one
abbrev pub new_seen : Reading → (List ℕ → Bool) → (List ℕ → Standing) → Seen
new_seen r redacted standing = record { own = r; is_active = true; is_redacted = redacted; standing = standing }

-- the claim names its signature
pub own_names :
    (hash : List ℕ → List ℕ) (label : List ℕ) (said : Said) (as_ : List NewAssertion) (claim message : List ℕ)
    → IsLabelText label
    → names_signature (written_manifest label as_ claim message) (Some (claim_from (new_parts hash label said as_))) ≡ true
own_names hash label said as_ claim message u =
    ap (is_signature_in (Some label)) (signature_read label u) ∙ ap (λ b. b && true) (same_bytes label)

-- the rules on the claim and its signature hold of a new manifest
claim_rules :
    (hash : List ℕ → List ℕ) (ingredient : NewAssertion → Parsed Ingredient) (label : List ℕ) (said : Said)
    (as_ : List NewAssertion) (claim message : List ℕ) (p : SignParts)
    → IsLabelText label
    → AllByRecursion Holds (claim_tests (new_reading hash ingredient label said as_ claim message p))
claim_rules hash ingredient label said as_ claim message p u =
    (refl, (refl, (refl, (refl, (refl, (not_from_true (names_signature (written_manifest label as_ claim message) (Some (claim_from (new_parts hash label said as_)))) (own_names hash label said as_ claim message u), (refl, tt)))))))

-- the entries, the first of which has place `k`
entries_hold : (hash : Alg → List ℕ → List ℕ) (ingredient : NewAssertion → Parsed Ingredient) (label : List ℕ) (said : Said) (pre rest : List NewAssertion) (claim message : List ℕ) (p : SignParts) (redacted : List ℕ → Bool)
    (standing : List ℕ → Standing) (as_ : List NewAssertion) (k : ℕ)
    → as_ ≡ pre ++ rest → k ≡ length pre → AllByRecursion IsListed as_ → AreDifferent as_
    → ((l : List ℕ) → redacted l ≡ false)
    → AllByRecursion Holds (each (entry_tests hash (new_seen (new_reading (hash said.alg) ingredient label said as_ claim message p) redacted standing)) k (entries_of (hash said.alg) rest))
unfolding rule.label_kind
entries_hold hash ingredient label said pre [] claim message p redacted standing as_ k e n listed different free = tt
entries_hold hash ingredient label said pre (a ∷ rest) claim message p redacted standing as_ k e n listed different free =
    let r : Reading = new_reading (hash said.alg) ingredient label said as_ claim message p in
    let s : Seen = new_seen r redacted standing in
    let here : AllByRecursion IsListed (pre ++ a ∷ rest) = subst (AllByRecursion IsListed) e listed in
    let apart : AreDifferent (pre ++ a ∷ rest) = subst AreDifferent e different in
    let own : IsListed a = (each_back IsListed pre (a ∷ rest) here).0 in
    let entry : Ref = entry_of (hash said.alg) a in
    let before : take k (entries_in r) ≡ entries_of (hash said.alg) pre =
    ap (take k) (append-nil (entries_of (hash said.alg) as_)) ∙ ap (λ (x : List NewAssertion). take k (entries_of (hash said.alg) x)) e ∙ ap (λ j. take j (entries_of (hash said.alg) (pre ++ a ∷ rest))) n ∙ take_entries (hash said.alg) pre (a ∷ rest) in
    let found : box_with r a.label ≡ Some (new_box ingredient a) =
    ap (λ (x : List NewAssertion). find (is_labelled a.label) (new_boxes ingredient x)) e
    ∙ box_found ingredient pre a rest apart in
    let uri : List ℕ = assertion_uri label a.label in
    let tests : entry_tests hash s k entry ≡ labelled_tests hash s (entries_of (hash said.alg) pre) entry a.label uri =
    ap
    (λ o. option_map_or (λ (l : List ℕ). labelled_tests hash s (take k (entries_in r)) entry l (assertion_uri (label_in s.own) l)) o (test true ProfileAssertionUri (claim_uri r) ∷ []))
    (label_read r.manifest (hash said.alg) a own)
    ∙ ap (λ (x : List Ref). labelled_tests hash s x entry a.label uri) before in
    let text : List ℕ = contents_of (assertion_box a) in
    let digest : box_has_digest hash r entry (Some (new_box ingredient a)) ≡ true =
    ap (λ o. has_digest_by hash o text (hash said.alg text)) (named_back said.alg) ∙ same_bytes (hash said.alg text) in
    let holds : AllByRecursion Holds (labelled_tests hash s (entries_of (hash said.alg) pre) entry a.label uri) = (
      none_before r.manifest (hash said.alg) pre a rest (each_front IsListed pre (a ∷ rest) here) apart,
      (
        own.no_cloud,
        (
          ap (λ o. not (is_some o)) (named_back said.alg),
          (
            and_left (redacted a.label) (is_some (box_with r a.label)) (free a.label),
            (
              and_right (not (redacted a.label)) (is_none (box_with r a.label)) (ap is_none found),
              (and_right (not (redacted a.label)) (not (box_has_digest hash r entry (box_with r a.label))) (ap (λ o. not (box_has_digest hash r entry o)) found ∙ not_from_true (box_has_digest hash r entry (Some (new_box ingredient a))) digest), tt),
            ),
          ),
        ),
      ),
    ) in
    let others =
    entries_hold hash ingredient label said (pre ++ a ∷ []) rest claim message p redacted standing as_ (k + 1)
    (e ∙ sym (append_assoc pre (a ∷ []) rest)) (ap (λ j. j + 1) n ∙ sym (length-append pre (a ∷ []))) listed
    different free in
    each_append Holds (entry_tests hash s k entry) (each (entry_tests hash s) (k + 1) (entries_of (hash said.alg) rest))
    (subst (AllByRecursion Holds) (sym tests) holds) others

-- the boxes, each of which an entry lists
boxes_listed : (hash : List ℕ → List ℕ) (ingredient : NewAssertion → Parsed Ingredient) (label : List ℕ) (said : Said) (pre rest : List NewAssertion) (claim message : List ℕ) (p : SignParts) (as_ : List NewAssertion) (k : ℕ)
    → as_ ≡ pre ++ rest → AllByRecursion IsListed as_
    → AllByRecursion Holds (over_all (λ k b. box_test (new_reading hash ingredient label said as_ claim message p) b) k (new_boxes ingredient rest))
boxes_listed hash ingredient label said pre [] claim message p as_ k e listed = tt
boxes_listed hash ingredient label said pre (a ∷ rest) claim message p as_ k e listed =
    let r : Reading = new_reading hash ingredient label said as_ claim message p in
    let is : lists_label r.manifest (entries_in r) a.label ≡ true =
    ap (λ (x : List Ref). lists_label r.manifest x a.label) (append-nil (entries_of hash as_))
    ∙ ap (λ (x : List NewAssertion). lists_label r.manifest (entries_of hash x) a.label) e
    ∙ lists_it r.manifest hash pre a rest (subst (AllByRecursion IsListed) e listed) in
    (not_from_true (lists_label r.manifest (entries_in r) a.label) is, boxes_listed hash ingredient label said (pre ++ a ∷ []) rest claim message p as_ (k + 1) (e ∙ sym (append_assoc pre (a ∷ []) rest)) listed)

-- no entry is a binding of another kind
no_other_kind : (s : Seen) (k : ℕ) (as_ : List NewAssertion) → AllByRecursion IsListed as_
    → AllByRecursion Holds (over_all (hash_kind_test s) k (map (λ (a : NewAssertion). a.label) as_))
unfolding rule.label_kind
no_other_kind s k [] h = tt
no_other_kind s k (a ∷ others) h =
    (and_right s.is_active (is_other_hash (kind_of a.label)) h.0.no_other, no_other_kind s (k + 1) others h.1)

-- the labels of new assertions, and those of their bindings
abbrev pub labels_of : List NewAssertion → List (List ℕ)
labels_of as_ = map (λ (a : NewAssertion). a.label) as_

-- the labels of new assertions that are bindings of a known kind
abbrev pub bindings_of : List NewAssertion → List (List ℕ)
bindings_of as_ = filter (λ (label : List ℕ). is_binding (kind_of label)) (labels_of as_)

-- what is asked of the boxes that may be ingredients, and of redactions
pub record RestHolds (hash : Alg → List ℕ → List ℕ) (s : Seen) : Type 0 where
  pub children : AllByRecursion Holds (each (λ k b. ingredient_tests hash s b) 0 s.own.boxes)
  pub forms : AllByRecursion Holds (each (λ k b. form_tests s b) 0 s.own.boxes)
  pub redactions : AllByRecursion Holds
      (each (λ k text. redaction_tests (label_in s.own) (claim_uri s.own) text) 0 (redactions_in s.own))
  pub parents : length (parents_in s.own) ≤ 1

-- the manifest has this one binding
pub own_bindings : (hash : List ℕ → List ℕ) (ingredient : NewAssertion → Parsed Ingredient) (label : List ℕ) (said : Said) (as_ : List NewAssertion) (claim message : List ℕ) (p : SignParts) (binding : List ℕ)
    → AllByRecursion IsListed as_ → bindings_of as_ ≡ binding ∷ []
    → bindings_in (new_reading hash ingredient label said as_ claim message p) ≡ binding ∷ []
unfolding rule.label_kind
own_bindings hash ingredient label said as_ claim message p binding listed one =
    let r : Reading = new_reading hash ingredient label said as_ claim message p in
    let labels : labels_in r ≡ labels_of as_ =
    ap (filter_map (entry_label r.manifest)) (append-nil (entries_of hash as_))
    ∙ listed_labels r.manifest hash as_ listed in
    ap (filter (λ (label : List ℕ). is_binding (kind_of label))) labels ∙ one

-- all rules but the verdict, for a manifest that is the active one and in which nothing is redacted
pub own_rules : (hash : Alg → List ℕ → List ℕ) (ingredient : NewAssertion → Parsed Ingredient) (label : List ℕ) (said : Said) (as_ : List NewAssertion) (claim message : List ℕ) (p : SignParts) (redacted : List ℕ → Bool) (standing : List ℕ → Standing) (binding : List ℕ)
    → IsLabelText label → AllByRecursion IsListed as_ → AreDifferent as_ → ((l : List ℕ) → redacted l ≡ false)
    → bindings_of as_ ≡ binding ∷ []
    → RestHolds hash (new_seen (new_reading (hash said.alg) ingredient label said as_ claim message p) redacted standing)
    → AllByRecursion Holds (unjudged_tests hash (new_seen (new_reading (hash said.alg) ingredient label said as_ claim message p) redacted standing))
unfolding rule.label_kind
own_rules hash ingredient label said as_ claim message p redacted standing binding u listed different free one rest =
    let h : List ℕ → List ℕ = hash said.alg in
    let r : Reading = new_reading h ingredient label said as_ claim message p in
    let s : Seen = new_seen r redacted standing in
    let es : entries_in r ≡ entries_of h as_ = append-nil (entries_of h as_) in
    let labels : labels_in r ≡ labels_of as_ =
    ap (filter_map (entry_label r.manifest)) es ∙ listed_labels r.manifest h as_ listed in
    let bindings : bindings_in r ≡ binding ∷ [] =
    ap (filter (λ (label : List ℕ). is_binding (kind_of label))) labels ∙ one in
    let entries : AllByRecursion Holds (each (entry_tests hash s) 0 (entries_in r)) =
    subst (λ (x : List Ref). AllByRecursion Holds (each (entry_tests hash s) 0 x)) (sym es) (entries_hold hash ingredient label said [] as_ claim message p redacted standing as_ 0 refl refl listed different free) in
    let kinds_hold : AllByRecursion Holds (over_all (hash_kind_test s) 0 (labels_in r)) =
    subst (λ (x : List (List ℕ)). AllByRecursion Holds (over_all (hash_kind_test s) 0 x)) (sym labels)
    (no_other_kind s 0 as_ listed) in
    let standard : AllByRecursion Holds (standard_tests s) =
    each_append Holds (over_all (hash_kind_test s) 0 (labels_in r)) _ kinds_hold
    (ap (λ (x : List (List ℕ)). (length x == 0) && (true || not (has_other_hash r))) bindings, (ap (λ (x : List (List ℕ)). nat_lt 1 (length x)) bindings, (le-ltb 1 (length (parents_in r)) rest.parents, tt))) in
    each_append Holds (claim_tests r) (rest_tests hash s) (claim_rules h ingredient label said as_ claim message p u)
    (each_append Holds _ _ rest.children (each_append Holds _ _ entries (each_append Holds _ _ (boxes_listed h ingredient label said [] as_ claim message p as_ 0 refl listed)
    (each_append Holds _ _ rest.redactions (each_append Holds _ _ standard rest.forms)))))
