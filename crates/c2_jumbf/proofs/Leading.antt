-- Labels lead to one box: siblings with one label are one.
use Rattle.std.proofs.Common.{◌≡◌, ℕ, zero, suc, ◌+◌, ◌<◌, List, [], ◌∷◌, length, get_or, drop, map, Some, None, refl, sym, ap, ◌∙◌, subst, arith}
use Rattle.std.proofs.lemmas.List.{drop_all, get_or-map, length-map}
use Rattle.std.specs.List.{Contains}
use Rattle.c2_spec.specs.Jumbf.Tree.{Tree, IsLegalTree}
use Rattle.c2_spec.specs.Jumbf.Boxes.{tree_count, box_at, any_label, child_indices, LabelsLead, index_after}
use Rattle.c2_spec.proofs.JumbfChildren.{Chain, chain_of, label_at, distinct_children}
use Rattle.c2_spec.proofs.DistinctLabels.{distinct_at}
use Rattle.c2_lemmas.proofs.Lists.{drop_first}

-- the label at a place among the children is the label of that child
label_of_place : (t : Tree) (cs : List ℕ) (n k : ℕ) → n < length cs → get_or cs n k ≡ k
    → get_or (map (label_at t) cs) n None ≡ label_at t k
label_of_place t cs n k l e = get_or-map (label_at t) cs n k None l ∙ ap (label_at t) e

-- A label is that of one child.
pub child_once : (t : Tree) (i : ℕ) (label : List ℕ) (j k : ℕ) → i < tree_count t → IsLegalTree 1 t
    → Contains (child_indices t i) j → Contains (child_indices t i) k → any_label (box_at t j).box ≡ Some label
    → any_label (box_at t k).box ≡ Some label → j ≡ k
child_once t i label j k l h a b p q =
    let cs : List ℕ = child_indices t i in
    let size : length (map (label_at t) cs) ≡ length cs = length-map cs (label_at t) in
    let same : a.0 ≡ b.0 =
    distinct_at label (map (label_at t) cs) a.0 b.0 (distinct_children t i l h) (omega (arith, size, a.1))
    (omega (arith, size, b.1)) (label_of_place t cs a.0 j a.1 a.2 ∙ p)
    (label_of_place t cs b.0 k b.1 b.2 ∙ q) in
    sym a.2 ∙ other cs a.0 j k a.1 ∙ ap (λ n. get_or cs n k) same ∙ b.2
  where
    other : (xs : List ℕ) (n d e : ℕ) → n < length xs → get_or xs n d ≡ get_or xs n e
    other [] n d e l = absurd (omega (arith, l))
    other (x ∷ xs) zero d e l = refl
    other (x ∷ xs) (suc n) d e l = other xs n d e (omega arith)

-- what a chain of children meets is a box of the tree
chain_within : (t : Tree) (end i : ℕ) (cs : List ℕ) (n k : ℕ) → Chain t end i cs → n < length cs → get_or cs n k ≡ k
    → k < tree_count t
chain_within t end i [] n k h l e = absurd (omega (arith, l))
chain_within t end i (c ∷ cs) zero k h l e = omega (arith, sym h.0 ∙ e, h.1.1.0)
chain_within t end i (c ∷ cs) (suc n) k h l e = chain_within t end (index_after t i) cs n k h.1.1.1.1.1 (omega arith) e

-- a child is a box of the tree
pub child_within : (t : Tree) (i k : ℕ) → i < tree_count t → Contains (child_indices t i) k → k < tree_count t
child_within t i k l a = chain_within t (index_after t i) (i + 1) (child_indices t i) a.0 k (chain_of t i l) a.1 a.2

-- Labels lead to one box.
pub lead_once : (labels : List (List ℕ)) (t : Tree) (i j k : ℕ) → i < tree_count t → IsLegalTree 1 t
    → LabelsLead t i labels j → LabelsLead t i labels k → j ≡ k
lead_once [] t i j k l h a b = a ∙ sym b
lead_once (label ∷ labels) t i j k l h a b =
    let same : a.0 ≡ b.0 = child_once t i label a.0 b.0 l h a.1 b.1 a.2 b.2 in
    lead_once labels t b.0 j k (child_within t i b.0 l b.1) h (subst (λ m. LabelsLead t m labels j) same a.3) b.3

-- Some labels of a path were followed to a box.
pub record Walked (t : Tree) (start : ℕ) (all : List (List ℕ)) (n at : ℕ) : Type 0 where
  pub inside : at < tree_count t
  pub down : (j : ℕ) → LabelsLead t at (drop n all) j → LabelsLead t start all j
  pub up : (j : ℕ) → LabelsLead t start all j → LabelsLead t at (drop n all) j

-- with one more label the box is the child with that label
pub walked_next : (t : Tree) (start : ℕ) (all : List (List ℕ)) (n at k : ℕ) (label : List ℕ) → Walked t start all n at
    → IsLegalTree 1 t → (n < length all) × (label ≡ get_or all n label)
    → Contains (child_indices t at) k × (any_label (box_at t k).box ≡ Some label) → Walked t start all (n + 1) k
walked_next t start all n at k label w h turn found =
    let front : drop n all ≡ label ∷ drop (n + 1) all = drop_first all n label turn.0 turn.1 in
    record {
      inside = child_within t at k w.inside found.0;
      down =
          λ j lead. w.down j (subst (λ (x : List (List ℕ)). LabelsLead t at x j) (sym front) (k, found.0, found.1, lead));
      up = λ j lead.
          let a : LabelsLead t at (label ∷ drop (n + 1) all) j =
          subst (λ (x : List (List ℕ)). LabelsLead t at x j) front (w.up j lead) in
          subst (λ m. LabelsLead t m (drop (n + 1) all) j) (child_once t at label a.0 k w.inside h a.1 found.0 a.2 found.1) a.3;
    }

-- where no child has the next label, the path leads nowhere
pub walked_none : (t : Tree) (start : ℕ) (all : List (List ℕ)) (n at : ℕ) (label : List ℕ) → Walked t start all n at
    → (n < length all) × (label ≡ get_or all n label)
    → ((k : ℕ) → Contains (child_indices t at) k → any_label (box_at t k).box ≡ Some label → ⊥) → (j : ℕ)
    → LabelsLead t start all j → ⊥
walked_none t start all n at label w turn nothing j lead =
    let a : LabelsLead t at (label ∷ drop (n + 1) all) j =
    subst (λ (x : List (List ℕ)). LabelsLead t at x j) (drop_first all n label turn.0 turn.1) (w.up j lead) in
    nothing a.0 a.1 a.2

-- where all labels were followed, the path leads to this box
pub walked_end : (t : Tree) (start : ℕ) (all : List (List ℕ)) (n at : ℕ) → Walked t start all n at → n ≡ length all
    → LabelsLead t start all at
walked_end t start all n at w e =
    w.down at (subst (λ (x : List (List ℕ)). LabelsLead t at x at) (sym (drop_all n all (omega (arith, e)))) refl)

-- what is found is the one box that the labels lead to
pub only_lead : (t : Tree) (start : ℕ) (all : List (List ℕ)) (at : ℕ) → start < tree_count t → IsLegalTree 1 t
    → LabelsLead t start all at → (j : ℕ) → LabelsLead t start all j → Some at ≡ Some j
only_lead t start all at l h found j lead = ap Some (lead_once all t start at j l h found lead)
