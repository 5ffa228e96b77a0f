-- One box more of those in a box: what is counted, and what is appended.
use Rattle.std.proofs.Common.{◌≡◌, ℕ, ◌+◌, ◌<◌, ◌≤◌, Bool, true, false, cond, ◌||◌, List, [], ◌++◌, length, refl, sym, ap, ◌∙◌, subst, append_assoc, append-nil, length-append, arith}
use Rattle.c2_spec.specs.Jumbf.Tree.{Tree, Trees, leaf, super, none, more, tree_bytes, trees_bytes}
use Rattle.c2_spec.specs.Jumbf.Boxes.{AnyBox, node, index_after, box_at, any_bytes, any_label}
use Rattle.c2_rules.specs.Chains.{passes_some}
use Rattle.c2_parent.specs.Boxes.{AreFrom, ToCome, any_boxes, changed, child_of, is_any_store, lost, lost_in_store, redacted_any, thin_rest}
use Rattle.c2_new_file_spec.specs.Manifests.{is_assertion_store}
use Rattle.c2_new_file_spec.specs.Redacting.{without, thin_store, thin_boxes, boxes_in, redacted_box, redacted_boxes}
use Rattle.c2_parent.proofs.Walking.{Next, next}

-- what is left to come where the next box is passed, and something else holds
on : (t : Tree) (at end to : ℕ) (Was Holds : Trees → Type 0) (n : Next t at end Was) → to ≡ index_after t at
    → Holds n.others → ToCome t to end Holds
on t at end to Was Holds n e h =
    record { boxes = n.others; are = subst (λ k. AreFrom t k end n.others) (sym e) n.are; holds = h }

-- what a box has of its own is told by the tree that it is
told : {X : Type 0} (F : AnyBox → X) (t : Tree) (at : ℕ) (u : Tree) → (box_at t at).box ≡ node u
    → F (box_at t at).box ≡ F (node u)
told F t at u e = ap F e

-- ---- counting

-- one box more is counted where its label is taken out
pub lost_step : (t : Tree) (at end to len more_len all : ℕ) (out : List ℕ → Bool)
    → ToCome t at end (λ r. len + lost out r ≡ all) → at < end
    → more_len ≡ len + cond (passes_some out (any_label (box_at t at).box)) (length (any_bytes (box_at t at).box)) 0
    → to ≡ index_after t at → ToCome t to end (λ r. more_len + lost out r ≡ all)
lost_step t at end to len more_len all out h l e f =
    let n = next t at end _ h l in
    let own = told (λ b. cond (passes_some out (any_label b)) (length (any_bytes b)) 0) t at n.first n.box in
    on t at end to (λ r. len + lost out r ≡ all) (λ r. more_len + lost out r ≡ all) n f (omega (arith, e, own, n.holds))

-- as many as one box has are at most all
pub lost_some : (t : Tree) (at end len all : ℕ) (out : List ℕ → Bool) → ToCome t at end (λ r. len + lost out r ≡ all)
    → at < end
    → len + cond (passes_some out (any_label (box_at t at).box)) (length (any_bytes (box_at t at).box)) 0 ≤ all
lost_some t at end len all out h l =
    let n = next t at end _ h l in
    let own = told (λ b. cond (passes_some out (any_label b)) (length (any_bytes b)) 0) t at n.first n.box in
    omega (arith, own, n.holds)

-- a box that is no assertion store is passed
pub store_step : (t : Tree) (at end to all : ℕ) (out : List ℕ → Bool) → ToCome t at end (λ r. lost_in_store out r ≡ all)
    → at < end → is_any_store (box_at t at).box ≡ false → to ≡ index_after t at
    → ToCome t to end (λ r. lost_in_store out r ≡ all)
store_step t at end to all out h l isnt f =
    let n = next t at end _ h l in
    let own : is_assertion_store n.first ≡ false = sym (told is_any_store t at n.first n.box) ∙ isnt in
    on t at end to (λ r. lost_in_store out r ≡ all) (λ r. lost_in_store out r ≡ all) n f
    (sym (ap (λ b. cond b (lost out (boxes_in n.first)) (lost_in_store out n.others)) own) ∙ n.holds)

-- the first one is
pub store_here : (t : Tree) (at end all : ℕ) (out : List ℕ → Bool) → ToCome t at end (λ r. lost_in_store out r ≡ all)
    → at < end → is_any_store (box_at t at).box ≡ true → lost out (any_boxes (box_at t at).box) ≡ all
store_here t at end all out h l is =
    let n = next t at end _ h l in
    let own : is_assertion_store n.first ≡ true = sym (told is_any_store t at n.first n.box) ∙ is in
    told (λ b. lost out (any_boxes b)) t at n.first n.box
    ∙ sym (ap (λ b. cond b (lost out (boxes_in n.first)) (lost_in_store out n.others)) own) ∙ n.holds

-- ---- appending

-- what is appended and what is left still make the whole, after some more bytes were appended
pub moved : (o1 o2 own rest all target : List ℕ) → o1 ++ all ≡ target → all ≡ own ++ rest → o2 ≡ o1 ++ own
    → o2 ++ rest ≡ target
moved o1 o2 own rest all target h e f = ap (λ x. x ++ rest) f ∙ append_assoc o1 own rest ∙ ap (λ x. o1 ++ x) (sym e) ∙ h

-- a box is appended unless its label is taken out
pub kept_step : (t : Tree) (at end to : ℕ) (o1 o2 target : List ℕ) (out : List ℕ → Bool)
    → ToCome t at end (λ r. o1 ++ trees_bytes (without out r) ≡ target) → at < end
    → o2 ≡ o1 ++ cond (passes_some out (any_label (box_at t at).box)) [] (any_bytes (box_at t at).box)
    → to ≡ index_after t at → ToCome t to end (λ r. o2 ++ trees_bytes (without out r) ≡ target)
kept_step t at end to o1 o2 target out h l e f =
    let n = next t at end _ h l in
    let own = told (λ b. cond (passes_some out (any_label b)) [] (any_bytes b)) t at n.first n.box in
    on t at end to (λ r. o1 ++ trees_bytes (without out r) ≡ target) (λ r. o2 ++ trees_bytes (without out r) ≡ target) n
    f
    (moved o1 o2 (cond (passes_some out (any_label (node n.first))) [] (tree_bytes n.first)) (trees_bytes (without out n.others)) (trees_bytes (without out (more n.first n.others))) target n.holds (go (passes_some out (any_label (node n.first))) n.first n.others)
    (e ∙ ap (λ x. o1 ++ x) own))
  where
    go : (b : Bool) (u : Tree) (us : Trees)
        → trees_bytes (cond b (without out us) (more u (without out us))) ≡ cond b [] (tree_bytes u) ++ trees_bytes (without out us)
    go true u us = refl
    go false u us = refl

-- the first assertion store is appended less what is taken out, and each other box as it stands
pub thin_step : (t : Tree) (at end to : ℕ) (o1 o2 target : List ℕ) (out : List ℕ → Bool) (met now : Bool)
    → ToCome t at end (λ r. o1 ++ trees_bytes (thin_rest met out r) ≡ target) → at < end
    → o2 ≡ o1 ++ any_bytes (child_of met out (box_at t at).box) → now ≡ (met || is_any_store (box_at t at).box)
    → to ≡ index_after t at → ToCome t to end (λ r. o2 ++ trees_bytes (thin_rest now out r) ≡ target)
thin_step t at end to o1 o2 target out met now h l e g f =
    let n = next t at end _ h l in
    let own : any_bytes (child_of met out (box_at t at).box) ≡ any_bytes (child_of met out (node n.first)) =
    told (λ b. any_bytes (child_of met out b)) t at n.first n.box in
    let then : now ≡ (met || is_assertion_store n.first) =
    g ∙ ap (λ b. met || b) (told is_any_store t at n.first n.box) in
    on t at end to (λ r. o1 ++ trees_bytes (thin_rest met out r) ≡ target)
    (λ r. o2 ++ trees_bytes (thin_rest now out r) ≡ target) n f
    (moved o1 o2 (any_bytes (child_of met out (node n.first))) (trees_bytes (thin_rest now out n.others)) (trees_bytes (thin_rest met out (more n.first n.others))) target n.holds
    (split met n.first n.others ∙ ap (λ b. any_bytes (child_of met out (node n.first)) ++ trees_bytes (thin_rest b out n.others)) (sym then)) (e ∙ ap (λ x. o1 ++ x) own))
  where
    store : (u : Tree) → any_bytes (changed (without out) (node u)) ≡ tree_bytes (thin_store out u)
    store (leaf b) = refl
    store (super wide d us) = refl

    first : (b : Bool) (u : Tree) (us : Trees)
        → trees_bytes (cond b (more (thin_store out u) us) (more u (thin_boxes out us))) ≡ any_bytes (cond b (changed (without out) (node u)) (node u)) ++ trees_bytes (thin_rest b out us)
    first true u us = ap (λ x. x ++ trees_bytes us) (sym (store u))
    first false u us = refl

    split : (m : Bool) (u : Tree) (us : Trees)
        → trees_bytes (thin_rest m out (more u us)) ≡ any_bytes (child_of m out (node u)) ++ trees_bytes (thin_rest (m || is_assertion_store u) out us)
    split true u us = refl
    split false u us = first (is_assertion_store u) u us

-- ---- manifests

-- a manifest less what is redacted, as a box with an index and as a tree
pub redacted_is : (redacts : List (List ℕ)) (u : Tree)
    → any_bytes (redacted_any redacts (node u)) ≡ tree_bytes (redacted_box redacts u)
redacted_is redacts (leaf b) = refl
redacted_is redacts (super wide d us) = refl

-- one manifest more is counted
pub count_step : (t : Tree) (at end to len more_len all : ℕ) (redacts : List (List ℕ))
    → ToCome t at end (λ r. len + length (trees_bytes (redacted_boxes redacts r)) ≡ all) → at < end
    → more_len ≡ len + length (any_bytes (redacted_any redacts (box_at t at).box)) → to ≡ index_after t at
    → ToCome t to end (λ r. more_len + length (trees_bytes (redacted_boxes redacts r)) ≡ all)
count_step t at end to len more_len all redacts h l e f =
    let n = next t at end _ h l in
    let own =
    ap length (told (λ b. any_bytes (redacted_any redacts b)) t at n.first n.box ∙ redacted_is redacts n.first) in
    on t at end to (λ r. len + length (trees_bytes (redacted_boxes redacts r)) ≡ all)
    (λ r. more_len + length (trees_bytes (redacted_boxes redacts r)) ≡ all) n f
    (omega (arith, e, own, n.holds, length-append (tree_bytes (redacted_box redacts n.first)) (trees_bytes (redacted_boxes redacts n.others))))

-- a tree takes an index at least
pub count_some : (t : Tree) (at end len all : ℕ) (redacts : List (List ℕ))
    → ToCome t at end (λ r. len + length (trees_bytes (redacted_boxes redacts r)) ≡ all) → at < end
    → len + length (any_bytes (redacted_any redacts (box_at t at).box)) ≤ all
count_some t at end len all redacts h l =
    let n = next t at end _ h l in
    let own =
    ap length (told (λ b. any_bytes (redacted_any redacts b)) t at n.first n.box ∙ redacted_is redacts n.first) in
    omega
    (arith, own, n.holds, length-append (tree_bytes (redacted_box redacts n.first)) (trees_bytes (redacted_boxes redacts n.others)))

-- one is appended
pub carried_step : (t : Tree) (at end to : ℕ) (o1 o2 target : List ℕ) (redacts : List (List ℕ))
    → ToCome t at end (λ r. o1 ++ trees_bytes (redacted_boxes redacts r) ≡ target) → at < end
    → o2 ≡ o1 ++ any_bytes (redacted_any redacts (box_at t at).box) → to ≡ index_after t at
    → ToCome t to end (λ r. o2 ++ trees_bytes (redacted_boxes redacts r) ≡ target)
carried_step t at end to o1 o2 target redacts h l e f =
    let n = next t at end _ h l in
    let own = told (λ b. any_bytes (redacted_any redacts b)) t at n.first n.box ∙ redacted_is redacts n.first in
    on t at end to (λ r. o1 ++ trees_bytes (redacted_boxes redacts r) ≡ target)
    (λ r. o2 ++ trees_bytes (redacted_boxes redacts r) ≡ target) n f
    (moved o1 o2 (tree_bytes (redacted_box redacts n.first)) (trees_bytes (redacted_boxes redacts n.others)) (trees_bytes (redacted_boxes redacts (more n.first n.others))) target n.holds refl (e ∙ ap (λ x. o1 ++ x) own))

-- at the end all was appended
pub nothing_left : (met : Bool) (out : List ℕ → Bool) (o target : List ℕ)
    → o ++ trees_bytes (thin_rest met out none) ≡ target → o ≡ target
nothing_left true out o target h = sym (append-nil o) ∙ h
nothing_left false out o target h = sym (append-nil o) ∙ h
