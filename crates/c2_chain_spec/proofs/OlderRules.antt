-- The rules of a manifest that a later one leaves behind: where they held, they hold.
use Rattle.std.proofs.Common.{◌≡◌, inl, inr, ℕ, ◌+◌, Bool, true, false, not, ◌&&◌, ◌||◌, cond, List, [], ◌∷◌, ◌++◌, length, take, Option, Some, None, refl, sym, ap, ◌∙◌, subst}
use Rattle.std.specs.Prelude.{◌==◌, nat_lt, filter, find, is_some, is_none, option_and_then}
use Rattle.std.specs.List.{AllByRecursion}
use Rattle.std.specs.Option.{option_map_or}
use Rattle.std.proofs.lemmas.Bool.{and_left, and_right, not_from_true, both_ways, or_left, or_right}
use Rattle.c2_spec.specs.C2pa.Assertion.{manifest_named}
use Rattle.c2_spec.specs.C2pa.Manifest.{Superbox, is_given}
use Rattle.c2_spec.specs.declared.assertion.Ingredient.{Ingredient}
use Rattle.c2_spec.specs.declared.assertion.Kind.{Kind}
use Rattle.c2_spec.specs.declared.assertion.Kind.TheVariants as kinds
use Rattle.c2_spec.specs.declared.cbor.Ref.{Ref}
use Rattle.c2_spec.specs.declared.digest.Alg.{Alg}
use Rattle.c2_spec.proofs.GivenLabels.{given_is, is_given_back}
use Rattle.c2_rules.specs.Chains.{label_in, named_by, named_in, entry_label, passes_some}
use Rattle.c2_rules.specs.Ingredients.{is_ingredient, assertion_uri}
use Rattle.c2_rules.specs.Readings.{ReadBox, Reading, entries_in, redactions_in, value_in}
use Rattle.c2_rules.specs.Rules.{claim_tests, rest_tests, unjudged_tests, ingredient_tests, child_tests}
use Rattle.c2_rules.specs.Rules.{reference_tests, standing_tests, entry_tests, labelled_tests, box_test}
use Rattle.c2_rules.specs.Rules.{redaction_tests, binding_tests, update_tests, standard_tests, hash_kind_test}
use Rattle.c2_rules.specs.Rules.{form_tests, kind_tests, parsed_tests, order_tests, is_labelled, box_with}
use Rattle.c2_rules.specs.Rules.{box_has_digest, labels_in, bindings_in, has_other_hash, parents_in, reads_parent}
use Rattle.c2_rules.specs.Rules.{is_parent, is_one_parent, ingredients_in, is_wrong_signature, assertion_box_uri}
use Rattle.c2_rules.specs.Rules.{claim_uri, label_kind, is_other_hash, lists_label}
use Rattle.c2_rules.specs.Seen.{Seen, Standing, missing, later, touched, whole}
use Rattle.c2_rules.specs.Tests.{Test, test, each, over_all, AllHold}
use Rattle.c2_rules.specs.declared.code.Code.TheVariants.{ProfileAssertionUri}
use Rattle.c2_rules.specs.declared.parsed.Parsed.{Parsed}
use Rattle.c2_rules.specs.declared.parsed.Parsed.TheVariants.{NoItem, NoForm, Value}
use Rattle.c2_rules.proofs.Conditions.{Holds, all_each, all_hold}
use Rattle.c2_chain_spec.specs.Older.{is_kept, thinned, has_signature, Alike, StaysAlike, Loses, inactive}
use Rattle.c2_lemmas.proofs.Bools.{or_neither}
use Rattle.c2_lemmas.proofs.Each.{each_append, each_back, each_front}

-- ---- lists of tests over kept boxes

-- where the rules on every box held, they hold on the kept boxes, if on each box they go on to hold
each_kept : (f g : ReadBox → List Test) (keep : ReadBox → Bool) (P : ReadBox → Type 0) (bs : List ReadBox) (k j : ℕ)
    → ((b : ReadBox) → P b → AllByRecursion Holds (f b) → AllByRecursion Holds (g b)) → AllByRecursion P bs
    → AllByRecursion Holds (each (λ k b. f b) k bs) → AllByRecursion Holds (each (λ k b. g b) j (filter keep bs))
each_kept f g keep P [] k j step p h = tt
each_kept f g keep P (b ∷ bs) k j step p h =
    go (keep b) (step b p.0 (each_front Holds (f b) (each (λ k b. f b) (k + 1) bs) h))
    (each_kept f g keep P bs (k + 1) (j + 1) step p.1 (each_back Holds (f b) (each (λ k b. f b) (k + 1) bs) h))
    (each_kept f g keep P bs (k + 1) j step p.1 (each_back Holds (f b) (each (λ k b. f b) (k + 1) bs) h))
  where
    go : (x : Bool) → AllByRecursion Holds (g b) → AllByRecursion Holds (each (λ k b. g b) (j + 1) (filter keep bs))
        → AllByRecursion Holds (each (λ k b. g b) j (filter keep bs))
        → AllByRecursion Holds (each (λ k b. g b) j (cond x (b ∷ filter keep bs) (filter keep bs)))
    go true own more_of same = each_append Holds (g b) (each (λ k b. g b) (j + 1) (filter keep bs)) own more_of
    go false own more_of same = same

-- a rule that holds on every box holds on the boxes that are kept
over_kept : (t : ReadBox → Test) (keep : ReadBox → Bool) (bs : List ReadBox) (k j : ℕ)
    → AllByRecursion Holds (over_all (λ k b. t b) k bs)
    → AllByRecursion Holds (over_all (λ k b. t b) j (filter keep bs))
over_kept t keep [] k j h = tt
over_kept t keep (b ∷ bs) k j h = go (keep b) (over_kept t keep bs (k + 1) (j + 1) h.1) (over_kept t keep bs (k + 1) j h.1)
  where
    go : (x : Bool) → AllByRecursion Holds (over_all (λ k b. t b) (j + 1) (filter keep bs))
        → AllByRecursion Holds (over_all (λ k b. t b) j (filter keep bs))
        → AllByRecursion Holds (over_all (λ k b. t b) j (cond x (b ∷ filter keep bs) (filter keep bs)))
    go true more_of same = (h.0, more_of)
    go false more_of same = same

-- ---- ingredients

-- what is there isn't missing
none_from_some : {A : Type 0} (o : Option A) → is_some o ≡ true → is_none o ≡ false
none_from_some None e = absurd (cc (e))
none_from_some (Some x) e = refl

-- the rules on a manifest that an ingredient refers to hold as they did, where it stands alike
named_alike :
    (hash : Alg → List ℕ → List ℕ) (r : Reading) (uri : List ℕ) (manifest : Ref) (sign : Option Ref) (s t : Standing)
    → Alike (is_some sign) s t → AllByRecursion Holds (standing_tests hash r uri manifest sign s)
    → AllByRecursion Holds (standing_tests hash r uri manifest sign t)
named_alike hash r uri manifest sign missing t (inl e) h =
    subst (λ x. AllByRecursion Holds (standing_tests hash r uri manifest sign x)) (sym e) tt
named_alike hash r uri manifest sign missing t (inr e) h =
    subst (λ x. AllByRecursion Holds (standing_tests hash r uri manifest sign x)) (sym e) tt
named_alike hash r uri manifest sign later t e h =
    subst (λ x. AllByRecursion Holds (standing_tests hash r uri manifest sign x)) (sym e) tt
named_alike hash r uri manifest sign (touched c) t e h =
    subst (λ x. AllByRecursion Holds (standing_tests hash r uri manifest sign x)) (sym e) h
named_alike hash r uri manifest sign (whole c own) t (inl e) h =
    subst (λ x. AllByRecursion Holds (standing_tests hash r uri manifest sign x)) (sym e) h
named_alike hash r uri manifest sign (whole c own) t (inr e) h =
    subst (λ x. AllByRecursion Holds (standing_tests hash r uri manifest sign x)) (sym e.0)
    (h.0, (or_neither (is_none sign) (is_wrong_signature hash r sign c) (none_from_some sign e.1) h.1.0, tt))

-- the standings of what a box may name
abbrev pub BoxAlike : (List ℕ → Standing) → (List ℕ → Standing) → ReadBox → Type 0
BoxAlike before after b =
    (label : List ℕ) → named_in b ≡ Some label → Alike (has_signature b) (before label) (after label)

-- an ingredient's tests by what it is read as
child_alike : (hash : Alg → List ℕ → List ℕ) (s t : Seen) (uri : List ℕ) (o : Option Ingredient)
    → ((u : List ℕ) (m : Ref) (sign : Option Ref) (x : Standing) → standing_tests hash t.own u m sign x ≡ standing_tests hash s.own u m sign x)
    → ((label : List ℕ) → named_by o ≡ Some label → Alike (passes_some (λ (g : Ingredient). is_some g.signature) o) (s.standing label) (t.standing label))
    → AllByRecursion Holds (option_map_or (child_tests hash s uri) o [])
    → AllByRecursion Holds (option_map_or (child_tests hash t uri) o [])
child_alike hash s t uri None same a h = tt
child_alike hash s t uri (Some g) same a h = by_manifest g.manifest refl
  where
    by_label : (m : Ref) (o : Option (List ℕ)) → g.manifest ≡ Some m → manifest_named m.url ≡ o
        → AllByRecursion Holds (option_map_or
        (λ (label : List ℕ). standing_tests hash s.own uri m g.signature (s.standing label)) o [])
        → AllByRecursion Holds (option_map_or
        (λ (label : List ℕ). standing_tests hash t.own uri m g.signature (t.standing label)) o [])
    by_label m None e f k = tt
    by_label m (Some label) e f k =
        let named : named_by (Some g) ≡ Some label =
        ap (option_and_then (λ (ref : Ref). manifest_named ref.url)) e ∙ f in
        subst (AllByRecursion Holds) (sym (same uri m g.signature (t.standing label)))
        (named_alike hash s.own uri m g.signature (s.standing label) (t.standing label) (a label named) k)

    by_manifest : (o : Option Ref) → g.manifest ≡ o
        → AllByRecursion Holds (option_map_or (reference_tests hash t uri g.signature) g.manifest [])
    by_manifest None e =
        subst (λ o. AllByRecursion Holds (option_map_or (reference_tests hash t uri g.signature) o [])) (sym e) tt
    by_manifest (Some m) e =
        let old : AllByRecursion Holds (reference_tests hash s uri g.signature m) =
        subst (λ o. AllByRecursion Holds (option_map_or (reference_tests hash s uri g.signature) o [])) e h in
        subst (λ o. AllByRecursion Holds (option_map_or (reference_tests hash t uri g.signature) o [])) (sym e)
        (by_label m (manifest_named m.url) e refl old)

-- the forms: what is named is there and earlier, before and after
order_alike : (uri : List ℕ) (signed : Bool) (s t : Standing) → Alike signed s t
    → AllByRecursion Holds (order_tests uri s) → AllByRecursion Holds (order_tests uri t)
order_alike uri signed missing t a h = absurd (Rattle.std.proofs.lemmas.Bool.true≢false h.0)
order_alike uri signed later t a h = absurd (Rattle.std.proofs.lemmas.Bool.true≢false h.0)
order_alike uri signed (touched c) t e h = subst (λ x. AllByRecursion Holds (order_tests uri x)) (sym e) tt
order_alike uri signed (whole c own) t (inl e) h = subst (λ x. AllByRecursion Holds (order_tests uri x)) (sym e) tt
order_alike uri signed (whole c own) t (inr e) h = subst (λ x. AllByRecursion Holds (order_tests uri x)) (sym e.0) tt

-- the rules on the form of an ingredient hold as they did, where the manifest that it names stands alike
parsed_alike : (uri : List ℕ) (before after : List ℕ → Standing) (signed : Bool) (p : Parsed Ingredient)
    → ((label : List ℕ) → named_by (value_in p) ≡ Some label → Alike signed (before label) (after label))
    → AllByRecursion Holds (parsed_tests before uri p) → AllByRecursion Holds (parsed_tests after uri p)
parsed_alike uri before after signed NoItem a h = h
parsed_alike uri before after signed NoForm a h = h
parsed_alike uri before after signed (Value g) a h = go (named_by (Some g)) refl h
  where
    go : (o : Option (List ℕ)) → named_by (Some g) ≡ o
        → AllByRecursion Holds (option_map_or (λ (label : List ℕ). order_tests uri (before label)) o [])
        → AllByRecursion Holds (option_map_or (λ (label : List ℕ). order_tests uri (after label)) o [])
    go None e k = tt
    go (Some label) e k = order_alike uri signed (before label) (after label) (a label e) k

-- the rules on the form of a box by its kind hold as they did, where the manifest it names stands alike
kind_alike : (uri : List ℕ) (before after : List ℕ → Standing) (signed : Bool) (p : Parsed Ingredient) (k : Kind)
    → ((label : List ℕ) → named_by (value_in p) ≡ Some label → Alike signed (before label) (after label))
    → AllByRecursion Holds (kind_tests before uri p k) → AllByRecursion Holds (kind_tests after uri p k)
kind_alike uri before after signed p kinds.DataHash a h = tt
kind_alike uri before after signed p kinds.BmffHash a h = tt
kind_alike uri before after signed p kinds.OtherHash a h = tt
kind_alike uri before after signed p kinds.Ingredient a h = parsed_alike uri before after signed p a h
kind_alike uri before after signed p kinds.IngredientOther a h = h
kind_alike uri before after signed p kinds.Actions a h = tt
kind_alike uri before after signed p kinds.Cloud a h = tt
kind_alike uri before after signed p kinds.Ordinary a h = tt

-- the rules on the form of a box hold as they did, with a label or without, where what it names stands alike
form_alike : (own : List ℕ) (before after : List ℕ → Standing) (b : ReadBox) (o : Option (List ℕ))
    → BoxAlike before after b
    → AllByRecursion Holds (option_map_or (λ (label : List ℕ). kind_tests before (assertion_uri own label) b.ingredient (label_kind label)) o [])
    → AllByRecursion Holds (option_map_or (λ (label : List ℕ). kind_tests after (assertion_uri own label) b.ingredient (label_kind label)) o [])
form_alike own before after b None a h = tt
form_alike own before after b (Some label) a h =
    kind_alike (assertion_uri own label) before after (has_signature b) b.ingredient (label_kind label) a h

-- ---- entries

-- a box with a label that is taken out isn't kept
labelled_lost : (out : List ℕ → Bool) (label : List ℕ) (b : ReadBox) → out label ≡ true → is_labelled label b ≡ true
    → is_kept out b ≡ false
labelled_lost out label b taken is =
    ap (λ o. not (passes_some (out) o)) (given_is b.boxed.label label is) ∙ not_from_true (out label) taken

-- a box with a label that isn't taken out is kept
labelled_kept : (out : List ℕ → Bool) (label : List ℕ) (b : ReadBox) → out label ≡ false → is_labelled label b ≡ true
    → is_kept out b ≡ true
labelled_kept out label b free is = ap (λ o. not (passes_some (out) o)) (given_is b.boxed.label label is) ∙ ap not free

-- under a label that is taken out, no box is found among those that are kept
find_lost : (out : List ℕ → Bool) (label : List ℕ) (bs : List ReadBox) → out label ≡ true
    → find (is_labelled label) (filter (is_kept out) bs) ≡ None
find_lost out label [] taken = refl
find_lost out label (b ∷ bs) taken = go (is_kept out b) (is_labelled label b) refl refl (find_lost out label bs taken)
  where
    go : (x y : Bool) → is_kept out b ≡ x → is_labelled label b ≡ y
        → find (is_labelled label) (filter (is_kept out) bs) ≡ None
        → find (is_labelled label) (cond x (b ∷ filter (is_kept out) bs) (filter (is_kept out) bs)) ≡ None
    go false y e f more_of = more_of
    go true true e f more_of = absurd (both_ways (is_kept out b) (labelled_lost out label b taken f) e)
    go true false e f more_of =
        ap (λ z. cond z (Some b) (find (is_labelled label) (filter (is_kept out) bs))) f ∙ more_of

-- under a label that isn't taken out, the same box is found among those that are kept as among all
find_kept : (out : List ℕ → Bool) (label : List ℕ) (bs : List ReadBox) → out label ≡ false
    → find (is_labelled label) (filter (is_kept out) bs) ≡ find (is_labelled label) bs
find_kept out label [] free = refl
find_kept out label (b ∷ bs) free = go (is_kept out b) (is_labelled label b) refl refl (find_kept out label bs free)
  where
    go : (x y : Bool) → is_kept out b ≡ x → is_labelled label b ≡ y
        → find (is_labelled label) (filter (is_kept out) bs) ≡ find (is_labelled label) bs
        → find (is_labelled label) (cond x (b ∷ filter (is_kept out) bs) (filter (is_kept out) bs)) ≡ cond (is_labelled label b) (Some b) (find (is_labelled label) bs)
    go true y e f more_of = ap (λ o. cond (is_labelled label b) (Some b) o) more_of
    go false true e f more_of = absurd (both_ways (is_kept out b) e (labelled_kept out label b free f))
    go false false e f more_of = more_of ∙ ap (λ z. cond z (Some b) (find (is_labelled label) bs)) (sym f)

-- ---- filters

-- where no box that is taken out is picked, the picked boxes are the same among the kept as among all
filter_lost : (p keep : ReadBox → Bool) (P : ReadBox → Type 0) (bs : List ReadBox)
    → ((b : ReadBox) → P b → keep b ≡ false → p b ≡ false) → AllByRecursion P bs
    → filter p (filter keep bs) ≡ filter p bs
filter_lost p keep P [] h k = refl
filter_lost p keep P (b ∷ bs) h k = go (keep b) refl (filter_lost p keep P bs h k.1)
  where
    go : (x : Bool) → keep b ≡ x → filter p (filter keep bs) ≡ filter p bs
        → filter p (cond x (b ∷ filter keep bs) (filter keep bs)) ≡ cond (p b) (b ∷ filter p bs) (filter p bs)
    go true e more_of = ap (λ (zs : List ReadBox). cond (p b) (b ∷ zs) zs) more_of
    go false e more_of = more_of ∙ ap (λ z. cond z (b ∷ filter p bs) (filter p bs)) (sym (h b k.0 e))

-- what isn't so together with something that is, isn't so
and_true : (x : Bool) → (x && true) ≡ false → x ≡ false
and_true true e = e
and_true false e = e

-- the rule on a missing binding, once the manifest is no longer the active one
no_longer : (x act y : Bool) → (x && (act || y)) ≡ false → (x && (false || y)) ≡ false
no_longer x true y e = and_left x (false || y) (and_true x e)
no_longer x false y e = e

-- the rule on kinds of hashes that aren't supported holds of every manifest but the active one
kinds_free : (s : Seen) (k : ℕ) (labels : List (List ℕ)) → s.is_active ≡ false
    → AllByRecursion Holds (over_all (hash_kind_test s) k labels)
kinds_free s k [] e = tt
kinds_free s k (label ∷ labels) e =
    (and_left s.is_active (is_other_hash (label_kind label)) e, kinds_free s (k + 1) labels e)

-- ---- all of them

-- a manifest as it is seen: its reading, whether it is active, what is redacted, and how others stand
abbrev pub old_seen : Reading → Bool → (List ℕ → Bool) → (List ℕ → Standing) → Seen
old_seen r act red standing = record { own = r; is_active = act; is_redacted = red; standing = standing }

-- the rules on an entry of the claim hold once redacted boxes are taken out, if they held before
entry_holds : (hash : Alg → List ℕ → List ℕ) (out : List ℕ → Bool) (r : Reading) (contents : List ℕ)
    (assertions : List Superbox) (act : Bool) (red red' : List ℕ → Bool) (before after : List ℕ → Standing) (k : ℕ)
    (e : Ref) → ((l : List ℕ) → entry_label r.manifest e ≡ Some l → red' l ≡ (out l || red l))
    → AllByRecursion Holds (entry_tests hash (old_seen r act red before) k e)
    → AllByRecursion Holds (entry_tests hash (old_seen (thinned out contents assertions r) false red' after) k e)
entry_holds hash out r contents assertions act red red' before after k e more_red h = go (entry_label r.manifest e) refl h
  where
    y : Reading
    y = thinned out contents assertions r

    by_label : (label : List ℕ) → red' label ≡ (out label || red label)
        → AllByRecursion Holds (labelled_tests hash (old_seen r act red before) (take k (entries_in r)) e label
        (assertion_uri (label_in r) label)) → (x : Bool) → out label ≡ x
        → AllByRecursion Holds (labelled_tests hash (old_seen y false red' after) (take k (entries_in r)) e label
        (assertion_uri (label_in r) label))
    by_label label more g true taken =
        let now : red' label ≡ true = more ∙ ap (λ b. b || red label) taken in
        let gone : box_with y label ≡ None = find_lost out label r.boxes taken in (
          g.0,
          (
            g.1.0,
            (
              g.1.1.0,
              (
                and_right (red' label) (is_some (box_with y label)) (ap is_some gone),
                (and_left (not (red' label)) (is_none (box_with y label)) (not_from_true (red' label) now), (and_left (not (red' label)) (not (box_has_digest hash y e (box_with y label))) (not_from_true (red' label) now), tt)),
              ),
            ),
          ),
        )
    by_label label more g false free =
        let now : red' label ≡ red label = more ∙ ap (λ b. b || red label) free in
        let box : box_with y label ≡ box_with r label = find_kept out label r.boxes free in (
          g.0,
          (
            g.1.0,
            (
              g.1.1.0,
              (
                ap (λ b. b && is_some (box_with y label)) now ∙ ap (λ o. red label && is_some o) box ∙ g.1.1.1.0,
                (
                  ap (λ b. not b && is_none (box_with y label)) now ∙ ap (λ o. not (red label) && is_none o) box ∙ g.1.1.1.1.0,
                  (ap (λ b. not b && not (box_has_digest hash y e (box_with y label))) now ∙ ap (λ o. not (red label) && not (box_has_digest hash r e o)) box ∙ g.1.1.1.1.1.0, tt),
                ),
              ),
            ),
          ),
        )

    go : (o : Option (List ℕ)) → entry_label r.manifest e ≡ o
        → AllByRecursion Holds (option_map_or (λ (label : List ℕ). labelled_tests hash (old_seen r act red before) (take k (entries_in r)) e label (assertion_uri (label_in r) label)) o (test true ProfileAssertionUri (claim_uri r) ∷ []))
        → AllByRecursion Holds (option_map_or (λ (label : List ℕ). labelled_tests hash (old_seen y false red' after) (take k (entries_in r)) e label (assertion_uri (label_in r) label)) o (test true ProfileAssertionUri (claim_uri y) ∷ []))
    go None f g = g
    go (Some label) f g = by_label label (more_red label f) g (out label) refl

-- the rules on all entries of the claim hold once redacted boxes are taken out, if they held before
entries_thin : (hash : Alg → List ℕ → List ℕ) (out : List ℕ → Bool) (r : Reading) (contents : List ℕ)
    (assertions : List Superbox) (act : Bool) (red red' : List ℕ → Bool) (before after : List ℕ → Standing) (k : ℕ)
    (es : List Ref) → ((l : List ℕ) → lists_label r.manifest es l ≡ true → red' l ≡ (out l || red l))
    → AllByRecursion Holds (each (entry_tests hash (old_seen r act red before)) k es)
    → AllByRecursion Holds (each (entry_tests hash (old_seen (thinned out contents assertions r) false red' after)) k es)
entries_thin hash out r contents assertions act red red' before after k [] more_red h = tt
entries_thin hash out r contents assertions act red red' before after k (e ∷ es) more_red h =
    let s : Seen = old_seen r act red before in
    let t : Seen = old_seen (thinned out contents assertions r) false red' after in
    each_append Holds (entry_tests hash t k e) (each (entry_tests hash t) (k + 1) es)
    (entry_holds hash out r contents assertions act red red' before after k e
    (λ l is. more_red l (or_left (is_given (entry_label r.manifest e) l) (lists_label r.manifest es l)
    (is_given_back (entry_label r.manifest e) l is)))
    (each_front Holds (entry_tests hash s k e) (each (entry_tests hash s) (k + 1) es) h))
    (entries_thin hash out r contents assertions act red red' before after (k + 1) es (λ l more. more_red l (or_right (is_given (entry_label r.manifest e) l) (lists_label r.manifest es l) more)) (each_back Holds (entry_tests hash s k e) (each (entry_tests hash s) (k + 1) es) h))

-- the rules on bindings and parents hold once redacted boxes are taken out, if they held before
bindings_thin :
    (out : List ℕ → Bool) (r : Reading) (contents : List ℕ) (assertions : List Superbox) (act : Bool)
    (red red' : List ℕ → Bool) (before after : List ℕ → Standing)
    → AllByRecursion (StaysAlike out before after) r.boxes
    → AllByRecursion Holds (binding_tests (old_seen r act red before))
    → AllByRecursion Holds (binding_tests (old_seen (thinned out contents assertions r) false red' after))
bindings_thin out r contents assertions act red red' before after lost h = go r.manifest.is_update h
  where
    y : Reading
    y = thinned out contents assertions r

    parents : parents_in y ≡ parents_in r
    parents =
        filter_lost reads_parent (is_kept out) (StaysAlike out before after) r.boxes
        (λ b l e. ap is_parent (l.silent e)) lost

    ingredients : ingredients_in y ≡ ingredients_in r
    ingredients =
        filter_lost (λ (b : ReadBox). is_ingredient b.boxed) (is_kept out) (StaysAlike out before after) r.boxes
        (λ b l e. l.no_kind e) lost

    standard : AllByRecursion Holds (standard_tests (old_seen r act red before))
        → AllByRecursion Holds (standard_tests (old_seen y false red' after))
    standard g =
        let k = each_back Holds (over_all (hash_kind_test (old_seen r act red before)) 0 (labels_in r)) _ g in
        each_append Holds (over_all (hash_kind_test (old_seen y false red' after)) 0 (labels_in y)) _
        (kinds_free (old_seen y false red' after) 0 (labels_in y) refl)
        (no_longer (length (bindings_in r) == 0) act (not (has_other_hash r)) k.0, (k.1.0, (ap (λ (x : List ReadBox). nat_lt 1 (length x)) parents ∙ k.1.1.0, tt)))

    go : (b : Bool) → AllByRecursion Holds (cond b (update_tests r) (standard_tests (old_seen r act red before)))
        → AllByRecursion Holds (cond b (update_tests y) (standard_tests (old_seen y false red' after)))
    go true g = (g.0, (ap (λ (x : List ReadBox). not (is_one_parent x)) ingredients ∙ g.1.0, tt))
    go false g = standard g

-- all rules but the verdict's hold of a manifest that lost redacted boxes and is no longer active, as before
pub thin_rules : (hash : Alg → List ℕ → List ℕ) (out : List ℕ → Bool) (r : Reading) (contents : List ℕ) (assertions : List Superbox) (act : Bool) (red red' : List ℕ → Bool) (before after : List ℕ → Standing)
    → ((l : List ℕ) → lists_label r.manifest (entries_in r) l ≡ true → red' l ≡ (out l || red l))
    → AllByRecursion (StaysAlike out before after) r.boxes
    → AllByRecursion Holds (unjudged_tests hash (old_seen r act red before))
    → AllByRecursion Holds (unjudged_tests hash (old_seen (thinned out contents assertions r) false red' after))
thin_rules hash out r contents assertions act red red' before after more_red lost h =
    let s : Seen = old_seen r act red before in
    let y : Reading = thinned out contents assertions r in
    let t : Seen = old_seen y false red' after in
    let keep : ReadBox → Bool = is_kept out in
    let v8 : List Test = each (λ k b. ingredient_tests hash s b) 0 r.boxes in
    let v9 : List Test = each (entry_tests hash s) 0 (entries_in r) in
    let v10 : List Test = over_all (λ k b. box_test r b) 0 r.boxes in
    let v11 : List Test = each (λ k text. redaction_tests (label_in r) (claim_uri r) text) 0 (redactions_in r) in
    let v12 : List Test = binding_tests s in
    let v13 : List Test = each (λ k b. form_tests s b) 0 r.boxes in
    let h0 = each_front Holds (claim_tests r) (rest_tests hash s) h in
    let h1 = each_back Holds (claim_tests r) (rest_tests hash s) h in
    let g8 = each_front Holds v8 (v9 ++ (v10 ++ (v11 ++ (v12 ++ v13)))) h1 in
    let h2 = each_back Holds v8 (v9 ++ (v10 ++ (v11 ++ (v12 ++ v13)))) h1 in
    let g9 = each_front Holds v9 (v10 ++ (v11 ++ (v12 ++ v13))) h2 in
    let h3 = each_back Holds v9 (v10 ++ (v11 ++ (v12 ++ v13))) h2 in
    let g10 = each_front Holds v10 (v11 ++ (v12 ++ v13)) h3 in
    let h4 = each_back Holds v10 (v11 ++ (v12 ++ v13)) h3 in
    let g11 = each_front Holds v11 (v12 ++ v13) h4 in
    let h5 = each_back Holds v11 (v12 ++ v13) h4 in
    let g12 = each_front Holds v12 v13 h5 in
    let g13 = each_back Holds v12 v13 h5 in
    each_append Holds (claim_tests y) (rest_tests hash t) h0
    (each_append Holds _ _ (each_kept (ingredient_tests hash s) (ingredient_tests hash t) keep (StaysAlike out before after) r.boxes 0 0 (λ b l k. child_alike hash s t (assertion_box_uri r b.boxed.label) (value_in b.ingredient) (λ u m sign x. refl) l.alike k) lost g8)
    (each_append Holds _ _ (entries_thin hash out r contents assertions act red red' before after 0 (entries_in r) more_red g9)
    (each_append Holds _ _ (over_kept (box_test r) keep r.boxes 0 0 g10)
    (each_append Holds _ _ g11
    (each_append Holds _ _ (bindings_thin out r contents assertions act red red' before after lost g12)
    (each_kept (form_tests s) (form_tests t) keep (StaysAlike out before after) r.boxes 0 0 (λ b l k. form_alike (label_in r) before after b b.boxed.label l.alike k) lost g13))))))

-- ---- the laws

-- what is seen now, written out
seen_now : (out : List ℕ → Bool) (was now : Seen) (h : Loses out was now)
    → now ≡ old_seen (thinned out h.contents h.assertions was.own) false now.is_redacted now.standing
seen_now out was now h = ap (λ (r : Reading). record { own = r; is_active = now.is_active; is_redacted = now.is_redacted; standing = now.standing }) h.own
    ∙ ap
    (λ (b : Bool). record { own = thinned out h.contents h.assertions was.own; is_active = b; is_redacted = now.is_redacted; standing = now.standing })
    h.active

-- where all rules of a manifest but the verdict's held, they hold once it lost boxes that are redacted
pub without_boxes : (hash : Alg → List ℕ → List ℕ) (out : List ℕ → Bool) (was now : Seen) → Loses out was now
    → AllHold (unjudged_tests hash was) → AllHold (unjudged_tests hash now)
without_boxes hash out was now h k =
    subst (λ (s : Seen). AllHold (unjudged_tests hash s)) (sym (seen_now out was now h))
    (all_hold (unjudged_tests hash (old_seen (thinned out h.contents h.assertions was.own) false now.is_redacted now.standing))
    (thin_rules hash out was.own h.contents h.assertions was.is_active was.is_redacted now.is_redacted was.standing now.standing h.redacted h.boxes (all_each (unjudged_tests hash was) k)))

-- ---- no longer the active one

-- the rules on bindings and parents hold of a manifest that is no longer active, if they held before
inactive_bindings : (s : Seen) → AllByRecursion Holds (binding_tests s)
    → AllByRecursion Holds (binding_tests (inactive s))
inactive_bindings s h = go s.own.manifest.is_update h
  where
    go : (b : Bool) → AllByRecursion Holds (cond b (update_tests s.own) (standard_tests s))
        → AllByRecursion Holds (cond b (update_tests s.own) (standard_tests (inactive s)))
    go true g = g
    go false g =
        let k = each_back Holds (over_all (hash_kind_test s) 0 (labels_in s.own)) _ g in
        each_append Holds (over_all (hash_kind_test (inactive s)) 0 (labels_in s.own)) _
        (kinds_free (inactive s) 0 (labels_in s.own) refl)
        (no_longer (length (bindings_in s.own) == 0) s.is_active (not (has_other_hash s.own)) k.0, k.1)

-- the rules but the verdict's hold in turn of a manifest that is no longer active, if they held before
inactive_rules : (hash : Alg → List ℕ → List ℕ) (s : Seen) → AllByRecursion Holds (unjudged_tests hash s)
    → AllByRecursion Holds (unjudged_tests hash (inactive s))
inactive_rules hash s h =
    let v8 : List Test = each (λ k b. ingredient_tests hash s b) 0 s.own.boxes in
    let v9 : List Test = each (entry_tests hash s) 0 (entries_in s.own) in
    let v10 : List Test = over_all (λ k b. box_test s.own b) 0 s.own.boxes in
    let v11 : List Test =
    each (λ k text. redaction_tests (label_in s.own) (claim_uri s.own) text) 0 (redactions_in s.own) in
    let v12 : List Test = binding_tests s in
    let v13 : List Test = each (λ k b. form_tests s b) 0 s.own.boxes in
    let h0 = each_front Holds (claim_tests s.own) (rest_tests hash s) h in
    let h1 = each_back Holds (claim_tests s.own) (rest_tests hash s) h in
    let g8 = each_front Holds v8 (v9 ++ (v10 ++ (v11 ++ (v12 ++ v13)))) h1 in
    let h2 = each_back Holds v8 (v9 ++ (v10 ++ (v11 ++ (v12 ++ v13)))) h1 in
    let g9 = each_front Holds v9 (v10 ++ (v11 ++ (v12 ++ v13))) h2 in
    let h3 = each_back Holds v9 (v10 ++ (v11 ++ (v12 ++ v13))) h2 in
    let g10 = each_front Holds v10 (v11 ++ (v12 ++ v13)) h3 in
    let h4 = each_back Holds v10 (v11 ++ (v12 ++ v13)) h3 in
    let g11 = each_front Holds v11 (v12 ++ v13) h4 in
    let h5 = each_back Holds v11 (v12 ++ v13) h4 in
    let g12 = each_front Holds v12 v13 h5 in
    let g13 = each_back Holds v12 v13 h5 in
    each_append Holds (claim_tests s.own) (rest_tests hash (inactive s)) h0
    (each_append Holds v8 _ g8 (each_append Holds v9 _ g9 (each_append Holds v10 _ g10 (each_append Holds v11 _ g11 (each_append Holds (binding_tests (inactive s)) v13 (inactive_bindings s g12) g13)))))

-- where all rules of a manifest but the verdict's hold, they hold once it is no longer the active one
pub when_inactive : (hash : Alg → List ℕ → List ℕ) (s : Seen) → AllHold (unjudged_tests hash s)
    → AllHold (unjudged_tests hash (inactive s))
when_inactive hash s h =
    all_hold (unjudged_tests hash (inactive s)) (inactive_rules hash s (all_each (unjudged_tests hash s) h))
