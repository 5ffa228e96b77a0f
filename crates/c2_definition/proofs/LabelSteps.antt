-- Labels that differ, looked up from the last assertion on.
use Rattle.std.proofs.Common.{◌≡◌, ℕ, zero, suc, ◌+◌, ◌<◌, ◌≤◌, Bool, true, false, not, ◌&&◌, List, [], ◌∷◌, length, drop, get_or, refl, sym, ap, ◌∙◌}
use Rattle.std.specs.List.{list_any}
use Rattle.std.proofs.lemmas.Bool.{and_parts, both_ways, false_from_ne_true}
use Rattle.c2_label_index.specs.Labels.{is_among}
use Rattle.c2_label_index.specs.declared.labels.Labels.{Labels}
use Rattle.c2_definition.specs.declared.types.NewAssertion.{NewAssertion}
use Rattle.c2_definition.specs.DefinitionFile.{has_label, labels_differ}
use Rattle.c2_lemmas.proofs.Lists.{drop_first}

-- the labels from a place on differ, and a set has just these
pub record Behind (list : List NewAssertion) (i : ℕ) (behind : Labels) : Type 0 where
  pub within : i ≤ length list
  pub kept : (other : List ℕ) → is_among behind other ≡ list_any (has_label other) (drop i list)
  pub differ : labels_differ (drop i list) ≡ true

-- labels differ from a place on where they differ behind it and none there is the one at it
differ_from : (list : List NewAssertion) (i : ℕ) (a : NewAssertion) (found : Bool) → i < length list
    → a ≡ get_or list i a
    → found ≡ list_any (has_label a.label) (drop (i + 1) list) → labels_differ (drop (i + 1) list) ≡ true
    → labels_differ (drop i list) ≡ (not found && true)
differ_from list i a found lt at is behind =
    ap labels_differ (drop_first list i a lt at) ∙ ap (λ b. not b && labels_differ (drop (i + 1) list)) (sym is)
    ∙ ap (λ b. not found && b) behind

-- labels that all differ do so from each place on
differ_behind : (list : List NewAssertion) (i : ℕ) → labels_differ list ≡ true → labels_differ (drop i list) ≡ true
differ_behind [] zero h = h
differ_behind [] (suc i) h = refl
differ_behind (a ∷ more) zero h = h
differ_behind (a ∷ more) (suc i) h =
    differ_behind more i (and_parts (not (list_any (has_label a.label) more)) (labels_differ more) h).1

-- labels don't all differ where one is found again behind its place
pub same_here : (list : List NewAssertion) (i : ℕ) (a : NewAssertion) (found : Bool) → i < length list
    → a ≡ get_or list i a
    → found ≡ list_any (has_label a.label) (drop (i + 1) list) → labels_differ (drop (i + 1) list) ≡ true → found ≡ true
    → false ≡ labels_differ list
same_here list i a found lt at is behind one =
    let not_here : labels_differ (drop i list) ≡ false =
    differ_from list i a found lt at is behind ∙ ap (λ b. not b && true) one in
    sym
    (false_from_ne_true (labels_differ list) (λ all. both_ways (labels_differ (drop i list)) not_here (differ_behind list i all)))
