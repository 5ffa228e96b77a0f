-- The boxes of assertions, one after the other, and the references to them: one turn of a loop, and its end.
use Rattle.std.proofs.Common.{◌≡◌, ℕ, ◌+◌, ◌<◌, ◌≤◌, List, [], ◌∷◌, ◌++◌, length, get_or, drop, map, refl, sym, ap, ◌∙◌, append_assoc, append-nil}
use Rattle.std.proofs.lemmas.List.{drop_all, map-append}
use Rattle.c2_spec.specs.Jumbf.Tree.{tree_bytes, trees_bytes}
use Rattle.c2_definition.specs.declared.types.NewAssertion.{NewAssertion}
use Rattle.c2_new_file_spec.specs.Store.{assertion_box, assertion_boxes}
use Rattle.c2_lemmas.proofs.Lists.{drop_first}

-- the boxes of two lists, one after the other
pub boxes_over : (xs ys : List NewAssertion)
    → trees_bytes (assertion_boxes xs) ++ trees_bytes (assertion_boxes ys) ≡ trees_bytes (assertion_boxes (xs ++ ys))
boxes_over [] ys = refl
boxes_over (x ∷ xs) ys =
    append_assoc (tree_bytes (assertion_box x)) (trees_bytes (assertion_boxes xs)) (trees_bytes (assertion_boxes ys))
    ∙ ap (λ (b : List ℕ). tree_bytes (assertion_box x) ++ b) (boxes_over xs ys)

-- with the boxes that are left there are all, after a box as before it
pub boxes_step : (all : List NewAssertion) (i : ℕ) (a : NewAssertion) (before after whole : List ℕ) → i < length all
    → a ≡ get_or all i a → after ≡ before ++ tree_bytes (assertion_box a)
    → before ++ trees_bytes (assertion_boxes (drop i all)) ≡ whole
    → after ++ trees_bytes (assertion_boxes (drop (i + 1) all)) ≡ whole
boxes_step all i a before after whole lt is grown h =
    ap (λ (x : List ℕ). x ++ trees_bytes (assertion_boxes (drop (i + 1) all))) grown
    ∙ append_assoc before (tree_bytes (assertion_box a)) (trees_bytes (assertion_boxes (drop (i + 1) all)))
    ∙ ap (λ (d : List NewAssertion). before ++ trees_bytes (assertion_boxes d)) (sym (drop_first all i a lt is)) ∙ h

-- with what is still to be made of each there is all, after a member as before it
pub made_step : {A B : Type 0} (f : A → B) (all : List A) (i : ℕ) (a : A) (before after whole : List B) → i < length all
    → a ≡ get_or all i a → after ≡ before ++ f a ∷ []
    → before ++ map f (drop i all) ≡ whole → after ++ map f (drop (i + 1) all) ≡ whole
made_step f all i a before after whole lt is grown h =
    ap (λ x. x ++ map f (drop (i + 1) all)) grown
    ∙ append_assoc before (f a ∷ []) (map f (drop (i + 1) all))
    ∙ ap (λ d. before ++ map f d) (sym (drop_first all i a lt is)) ∙ h

-- at the end no boxes are left
pub boxes_end : (all : List NewAssertion) (i : ℕ) (out whole : List ℕ) → length all ≤ i
    → out ++ trees_bytes (assertion_boxes (drop i all)) ≡ whole → out ≡ whole
boxes_end all i out whole le h =
    sym (append-nil out)
    ∙ ap (λ (d : List NewAssertion). out ++ trees_bytes (assertion_boxes d)) (sym (drop_all i all le)) ∙ h

-- at the end nothing is left to be made
pub made_end : {A B : Type 0} (f : A → B) (all : List A) (i : ℕ) (out whole : List B) → length all ≤ i
    → out ++ map f (drop i all) ≡ whole → out ≡ whole
made_end f all i out whole le h = sym (append-nil out) ∙ ap (λ d. out ++ map f d) (sym (drop_all i all le)) ∙ h

-- the boxes of three lists, as a list grows by them
pub three_boxes :
    (all further : List NewAssertion) (b : NewAssertion) (defined last : List NewAssertion) (v0 v1 v2 v3 : List ℕ)
    → v0 ≡ [] → defined ≡ all → last ≡ b ∷ [] → v1 ≡ v0 ++ trees_bytes (assertion_boxes defined)
    → v2 ≡ v1 ++ trees_bytes (assertion_boxes further) → v3 ≡ v2 ++ trees_bytes (assertion_boxes last)
    → v3 ≡ trees_bytes (assertion_boxes (all ++ (further ++ b ∷ [])))
three_boxes all further b defined last v0 v1 v2 v3 h0 ed el h1 h2 h3 =
    let first : v1 ≡ trees_bytes (assertion_boxes all) =
    h1 ∙ ap (λ (x : List ℕ). x ++ trees_bytes (assertion_boxes defined)) h0
    ∙ ap (λ (d : List NewAssertion). trees_bytes (assertion_boxes d)) ed in
    let two : v2 ≡ trees_bytes (assertion_boxes (all ++ further)) =
    h2 ∙ ap (λ (x : List ℕ). x ++ trees_bytes (assertion_boxes further)) first ∙ boxes_over all further in
    h3 ∙ ap (λ (x : List ℕ). x ++ trees_bytes (assertion_boxes last)) two
    ∙ ap
    (λ (l : List NewAssertion). trees_bytes (assertion_boxes (all ++ further)) ++ trees_bytes (assertion_boxes l))
    el
    ∙ boxes_over (all ++ further) (b ∷ [])
    ∙ ap (λ (l : List NewAssertion). trees_bytes (assertion_boxes l)) (append_assoc all further (b ∷ []))

-- what is made of each of three lists, as a list grows by it
pub three_made :
    {A B : Type 0} (f : A → B) (all further : List A) (b : A) (defined last : List A) (v0 v1 v2 v3 : List B) → v0 ≡ []
    → defined ≡ all → last ≡ b ∷ [] → v1 ≡ v0 ++ map f defined
    → v2 ≡ v1 ++ map f further → v3 ≡ v2 ++ map f last → v3 ≡ map f (all ++ (further ++ b ∷ []))
three_made f all further b defined last v0 v1 v2 v3 h0 ed el h1 h2 h3 =
    h3
    ∙ ap (λ x. x ++ map f last)
    (h2 ∙ ap (λ x. x ++ map f further) (h1 ∙ ap (λ x. x ++ map f defined) h0 ∙ ap (map f) ed))
    ∙ ap (λ l. (map f all ++ map f further) ++ map f l) el
    ∙ append_assoc (map f all) (map f further) (map f (b ∷ []))
    ∙ ap (λ x. map f all ++ x) (sym (map-append f further (b ∷ []))) ∙ sym (map-append f all (further ++ b ∷ []))
