-- A child by its number, and the child with a label, are found from one child to the next.
use Rattle.std.proofs.Common.{◌≡◌, ℕ, zero, suc, ◌+◌, ◌-◌, ◌<◌, ◌≤◌, true, false, List, [], ◌∷◌, ◌++◌, length, get_or, drop, Option, Some, None, refl, sym, ap, ◌∙◌, subst, append_assoc, arith, length-append}
use Rattle.std.proofs.lemmas.List.{length-drop, drop-drop, get_or_at, append-nil}
use Rattle.std.proofs.lemmas.Option.{slice_get_past}
use Rattle.std.specs.List.{slice_get, Contains, AllByRecursion}
use Rattle.std.proofs.lemmas.Slice.Eq.{bytes_eq-Decides}
use borrow.Author.Tests.{both_ways}
use Rattle.c2_spec.specs.Jumbf.Tree.{Tree}
use Rattle.c2_spec.specs.Jumbf.Boxes.{tree_count, box_at, child_indices, index_after, any_label}
use Rattle.c2_spec.proofs.JumbfChildren.{Chain, chain_of, chain_more, chain_end}
use Rattle.c2_jumbf.specs.Labels.{is_label}
use Rattle.c2_lemmas.proofs.Each.{each_push}

-- The children that are still to come, after some were passed.
pub record AtChild (t : Tree) (i n end at : ℕ) : Type 0 where
  pub end_is : end ≡ index_after t i
  pub rest : List ℕ
  pub left : drop n (child_indices t i) ≡ rest
  pub chain : Chain t end at rest

-- before the first child all children are still to come, the first of them at the next index
pub child_start : (t : Tree) (i end : ℕ) → i < tree_count t → end ≡ index_after t i → AtChild t i 0 end (i + 1)
child_start t i end l e =
    record
    { end_is = e; rest = child_indices t i; left = refl; chain = subst (λ k. Chain t k (i + 1) (child_indices t i)) (sym e) (chain_of t i l) }

-- before the end there is a box of the tree
pub child_inside : (t : Tree) (i n end at : ℕ) → AtChild t i n end at → at < end → at < tree_count t
child_inside t i n end at h l = (chain_more t end at h.rest h.chain l).2.1.1.0

-- after one more child the next is at the index after its last descendant
pub child_next : (t : Tree) (i n end at next : ℕ) → AtChild t i n end at → at < end → next ≡ index_after t at
    → AtChild t i (n + 1) end next
child_next t i n end at next h l e =
    let m = chain_more t end at h.rest h.chain l in
    record {
      end_is = h.end_is;
      rest = m.0;
      left = sym (drop-drop 1 n (child_indices t i)) ∙ ap (drop 1) (h.left ∙ m.1);
      chain = subst (λ k. Chain t end k m.0) (sym e) m.2.1.1.1.1.1;
    }

-- a list of which nothing is left after some places has nothing at later ones
none_left : (n k : ℕ) (xs : List ℕ) → drop n xs ≡ [] → n ≤ k → slice_get xs k ≡ None
none_left n k xs e l = let m : length xs - n ≡ 0 = sym (length-drop n xs) ∙ ap length e in slice_get_past xs k (omega (arith, m, l))

-- at the end there is no child with this number
pub child_out : (t : Tree) (i n end at k : ℕ) → AtChild t i n end at → end ≤ at → n ≤ k
    → None ≡ slice_get (child_indices t i) k
child_out t i n end at k h out l =
    sym (none_left n k (child_indices t i) (h.left ∙ chain_end t end at h.rest h.chain out) l)

-- the first of what is left of a list is the member at that place
get_left : (k x : ℕ) (xs rest : List ℕ) → drop k xs ≡ x ∷ rest → slice_get xs k ≡ Some x
get_left zero x [] rest e = absurd (cc (e))
get_left zero x (y ∷ xs) rest e = ap Some (cc (e))
get_left (suc k) x [] rest e = absurd (cc (e))
get_left (suc k) x (y ∷ xs) rest e = get_left k x xs rest e

-- before the end the child with this number is here
pub child_here : (t : Tree) (i end at k : ℕ) → AtChild t i k end at → at < end
    → Some at ≡ slice_get (child_indices t i) k
child_here t i end at k h l = let m = chain_more t end at h.rest h.chain l in sym (get_left k at (child_indices t i) m.0 (h.left ∙ m.1))

-- The children that were passed haven't the label.
abbrev Unlabelled : Tree → List ℕ → ℕ → Type 0
Unlabelled t label k = is_label label (any_label (box_at t k).box) ≡ false

-- no child that was passed has the label, and the others are still to come
pub record Sought (t : Tree) (i end : ℕ) (label : List ℕ) (at : ℕ) : Type 0 where
  pub end_is : end ≡ index_after t i
  pub before : List ℕ
  pub rest : List ℕ
  pub split : child_indices t i ≡ before ++ rest
  pub chain : Chain t end at rest
  pub others : AllByRecursion (Unlabelled t label) before

-- before the first child none was passed
pub sought_start : (t : Tree) (i end : ℕ) (label : List ℕ) → i < tree_count t → end ≡ index_after t i
    → Sought t i end label (i + 1)
sought_start t i end label l e =
    record
    { end_is = e; before = []; rest = child_indices t i; split = refl; chain = subst (λ k. Chain t k (i + 1) (child_indices t i)) (sym e) (chain_of t i l); others = tt }

-- before the end there is a box of the tree, which ends by that end with all inside it
pub sought_inside : (t : Tree) (i end : ℕ) (label : List ℕ) (at : ℕ) → Sought t i end label at → at < end
    → (at < tree_count t) × (at < index_after t at) × (index_after t at ≤ end)
sought_inside t i end label at h l = let m = chain_more t end at h.rest h.chain l in (m.2.1.1.0, m.2.1.1.1.0, m.2.1.1.1.1.0)

-- a child without the label is passed
pub sought_next : (t : Tree) (i end : ℕ) (label : List ℕ) (at next : ℕ) → Sought t i end label at → at < end
    → is_label label (any_label (box_at t at).box) ≡ false → next ≡ index_after t at → Sought t i end label next
sought_next t i end label at next h l other e =
    let m = chain_more t end at h.rest h.chain l in
    record {
      end_is = h.end_is;
      before = h.before ++ at ∷ [];
      rest = m.0;
      split = h.split ∙ ap (λ (x : List ℕ). h.before ++ x) m.1 ∙ sym (append_assoc h.before (at ∷ []) m.0);
      chain = subst (λ k. Chain t end k m.0) (sym e) m.2.1.1.1.1.1;
      others = each_push (Unlabelled t label) h.before at h.others other;
    }

-- a label that passes as this one is this one
same_label : (label : List ℕ) (o : Option (List ℕ)) → is_label label o ≡ true → o ≡ Some label
same_label label None e = absurd (cc (e))
same_label label (Some t) e = ap Some ((bytes_eq-Decides t label).0 e)

-- this label passes as itself
label_same : (label : List ℕ) (o : Option (List ℕ)) → o ≡ Some label → is_label label o ≡ true
label_same label o e = ap (is_label label) e ∙ (bytes_eq-Decides label label).1 refl

-- a child with the label is a child of the box, and has the label
pub sought_here : (t : Tree) (i end : ℕ) (label : List ℕ) (at : ℕ) → Sought t i end label at → at < end
    → is_label label (any_label (box_at t at).box) ≡ true
    → Contains (child_indices t i) at × (any_label (box_at t at).box ≡ Some label)
sought_here t i end label at h l same =
    let m = chain_more t end at h.rest h.chain l in
    let whole : child_indices t i ≡ h.before ++ at ∷ m.0 = h.split ∙ ap (λ (x : List ℕ). h.before ++ x) m.1 in
    let n : length (child_indices t i) ≡ length h.before + suc (length m.0) =
    ap length whole ∙ length-append h.before (at ∷ m.0) in
    ((length h.before, omega (arith, n), ap (λ (x : List ℕ). get_or x (length h.before) at) whole ∙ get_or_at h.before at m.0 at (length h.before) refl), same_label label (any_label (box_at t at).box) same)

-- none of the boxes that were passed has the label
none_among : (t : Tree) (label : List ℕ) (xs : List ℕ) (n k : ℕ) → n < length xs → get_or xs n k ≡ k
    → AllByRecursion (Unlabelled t label) xs → any_label (box_at t k).box ≡ Some label → ⊥
none_among t label [] n k l e h same = omega (arith, l)
none_among t label (x ∷ xs) zero k l e h same =
    both_ways _ (subst (Unlabelled t label) e h.0) (label_same label (any_label (box_at t k).box) same)
none_among t label (x ∷ xs) (suc n) k l e h same = none_among t label xs n k (omega arith) e h.1 same

-- at the end no child has the label
pub sought_none : (t : Tree) (i end : ℕ) (label : List ℕ) (at : ℕ) → Sought t i end label at → end ≤ at → (k : ℕ)
    → Contains (child_indices t i) k → any_label (box_at t k).box ≡ Some label → ⊥
sought_none t i end label at h out k among same =
    let whole : child_indices t i ≡ h.before =
    h.split ∙ ap (λ (x : List ℕ). h.before ++ x) (chain_end t end at h.rest h.chain out) ∙ append-nil h.before in
    none_among t label h.before among.0 k (omega (arith, among.1, ap length whole))
    (ap (λ (x : List ℕ). get_or x among.0 k) (sym whole) ∙ among.2) h.others same
