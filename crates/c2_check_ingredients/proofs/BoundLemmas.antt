-- The rules on bindings and parents, by what was counted.
use Rattle.std.proofs.Common.{◌≡◌, ℕ, Bool, true, false, cond, List, ◌++◌, length, map, filter, Option, Some, None, Result, Ok, Err, IfOk, slice_get, Bor, sym, ap, ap₂, ◌∙◌, subst}
use Rattle.std.specs.List.{list_any}
use Rattle.std.proofs.lemmas.List.{length-map}
use Rattle.c2_rules.specs.Chains.{label_in}
use Rattle.c2_rules.specs.Ingredients.{is_ingredient, assertion_uri}
use Rattle.c2_rules.specs.Readings.{ReadBox, Reading}
use Rattle.c2_rules.specs.Rules.{label_kind, is_hash, is_other_hash, reads_parent, is_one_parent, labels_in, bindings_in, standard_tests, binding_tests}
use Rattle.c2_rules.specs.Rules as rules
use Rattle.c2_rules.specs.Seen.{Seen}
use Rattle.c2_rules.specs.Tests.{Test, first_failing}
use Rattle.c2_rules.specs.declared.answer.Failing.{Failing}
use Rattle.c2_rules.specs.declared.code.Code.TheVariants.{UnsupportedHashKind}
use Rattle.c2_rules.proofs.TestLemmas.{part_passes}
use Rattle.c2_check_ingredients.specs.Counts.{count_tests, parent_tests, number_tests, bound_tests, update_tests}
use Rattle.c2_check_ingredients.proofs.LabelLemmas.{any_now}

-- what fails first of a list of conditions fails first of an equal list
same_tests : {E : Type 0} (ts us : List Test) (o : Result (Option Failing) E) → ts ≡ us
    → IfOk o (λ found. found ≡ first_failing ts) → IfOk o (λ found. found ≡ first_failing us)
same_tests {E} ts us o e h = subst (λ (xs : List Test). IfOk o (λ found. found ≡ first_failing xs)) e h

-- an update fails by whether a hash and one parent were found as it does by its labels and boxes
pub update_is :
    {E : Type 0} (r : Reading) (labels : List (Bor (List ℕ))) (bs : List ReadBox) (hash one : Bool)
    (o : Result (Option Failing) E)
    → hash ≡ list_any (λ l. is_hash (label_kind l.now)) labels → bs ≡ r.boxes
    → one ≡ is_one_parent (filter (λ (b : ReadBox). is_ingredient b.boxed) bs)
    → IfOk o (λ found. found ≡ first_failing (parent_tests r hash one))
    → IfOk o (λ found. found ≡ first_failing (update_tests r (map (λ x. x.now) labels)))
update_is r labels bs hash one o h same p rest =
    same_tests (parent_tests r hash one) (update_tests r (map (λ x. x.now) labels)) o
    (ap₂ (parent_tests r) (h ∙ any_now (λ l. is_hash (label_kind l)) labels) (p ∙ ap (λ (xs : List ReadBox). is_one_parent (filter (λ (b : ReadBox). is_ingredient b.boxed) xs)) same))
    rest

-- a manifest fails by what was counted as it does by its labels, its bindings and its boxes themselves
pub numbers_are : {E : Type 0} (s : Seen) (labels bindings : List (Bor (List ℕ))) (bs : List ReadBox)
    (active other : Bool) (parents : ℕ) (o : Result (Option Failing) E) → active ≡ s.is_active
    → other ≡ list_any (λ l. is_other_hash (label_kind l.now)) labels → bs ≡ s.own.boxes
    → parents ≡ length (filter reads_parent bs)
    → IfOk o (λ found. found ≡ first_failing (count_tests s.own active (length bindings) other
    (slice_get (map (λ x. x.now) bindings) 1) parents))
    → IfOk o (λ found. found ≡ first_failing (number_tests s (map (λ x. x.now) labels) (map (λ x. x.now) bindings)))
numbers_are s labels bindings bs active other parents o a b same d rest =
    let names : List (List ℕ) = map (λ x. x.now) labels in
    let known : List (List ℕ) = map (λ x. x.now) bindings in
    let second : Option (List ℕ) = slice_get known 1 in
    let is_other : List ℕ → Bool = λ l. is_other_hash (label_kind l) in
    same_tests (count_tests s.own active (length bindings) other second parents) (number_tests s names known) o
    (ap₂ (λ (x y : Bool). count_tests s.own x (length bindings) y second parents) a (b ∙ any_now is_other labels)
    ∙ ap₂ (λ (n k : ℕ). count_tests s.own s.is_active n (list_any is_other names) second k)
    (sym (length-map bindings (λ (x : Bor (List ℕ)). x.now)))
    (d ∙ ap (λ (xs : List ReadBox). length (filter reads_parent xs)) same)) rest

-- a part passes, and the rest decides
pub goes_on : {E : Type 0} (xs ys : List Test) (p : Option Failing) (o : Result (Option Failing) E) → p ≡ None
    → p ≡ first_failing xs → IfOk o (λ found. found ≡ first_failing ys)
    → IfOk o (λ found. found ≡ first_failing (xs ++ ys))
goes_on xs ys p (Ok found) none here rest = part_passes xs ys found (sym none ∙ here) rest
goes_on xs ys p (Err e) none here rest = tt

-- in an update the rules on bindings and parents are those of an update over the labels its entries list
update_here : (s : Seen) → s.own.manifest.is_update ≡ true → update_tests s.own (labels_in s.own) ≡ binding_tests s
update_here s is = sym (ap (λ (b : Bool). cond b (rules.update_tests s.own) (standard_tests s)) is)

-- in a manifest that is no update the rules on bindings and parents are those on its labels and bindings
standard_here : (s : Seen) → s.own.manifest.is_update ≡ false
    → bound_tests s (labels_in s.own) (bindings_in s.own) ≡ binding_tests s
standard_here s is = sym (ap (λ (b : Bool). cond b (rules.update_tests s.own) (standard_tests s)) is)

-- what fails first of an update by its listed labels fails first of its rules on bindings and parents
pub binds_update : {E : Type 0} (s : Seen) (b : Bool) (labels : List (List ℕ)) (o : Result (Option Failing) E)
    → b ≡ true → b ≡ s.own.manifest.is_update → labels ≡ labels_in s.own
    → IfOk o (λ found. found ≡ first_failing (update_tests s.own labels))
    → IfOk o (λ found. found ≡ first_failing (binding_tests s))
binds_update s b labels o is same listed rest =
    same_tests (update_tests s.own labels) (binding_tests s) o
    (ap (update_tests s.own) listed ∙ update_here s (sym same ∙ is)) rest

-- what fails first by listed labels and bindings does so of the binding rules of a manifest that's no update
pub binds_standard :
    {E : Type 0} (s : Seen) (b : Bool) (labels bindings : List (List ℕ)) (o : Result (Option Failing) E) → b ≡ false
    → b ≡ s.own.manifest.is_update → labels ≡ labels_in s.own
    → bindings ≡ filter (λ (l : List ℕ). rules.is_binding (label_kind l)) labels
    → IfOk o (λ found. found ≡ first_failing (bound_tests s labels bindings))
    → IfOk o (λ found. found ≡ first_failing (binding_tests s))
binds_standard s b labels bindings o is same listed kept rest =
    same_tests (bound_tests s labels bindings) (binding_tests s) o
    (ap₂ (bound_tests s) listed (kept ∙ ap (λ (xs : List (List ℕ)). filter (λ (l : List ℕ). rules.is_binding (label_kind l)) xs) listed) ∙ standard_here s (sym same ∙ is))
    rest

-- at the assertion with this label in the manifest itself
pub at_label : {E : Type 0} (o : Result (Option Failing) E) (r : Reading) (own name : List ℕ) → own ≡ label_in r
    → IfOk o (λ found. found ≡ Some (record { code = UnsupportedHashKind; uri = assertion_uri own name }))
    → IfOk o (λ found. found ≡ Some (record { code = UnsupportedHashKind; uri = assertion_uri (label_in r) name }))
at_label {E} o r own name same h =
    subst
    (λ (l : List ℕ). IfOk o (λ found. found ≡ Some (record { code = UnsupportedHashKind; uri = assertion_uri l name })))
    same h
