-- The children of a box are met from one index to the index after it.
use Rattle.std.proofs.Common.{◌≡◌, ℕ, zero, suc, ◌+◌, ◌-◌, ◌<◌, ◌≤◌, List, [], ◌∷◌, ◌++◌, length, get_or, drop, map, Option, Some, None, slice_get, refl, sym, ap, ◌∙◌, subst, append_assoc, arith}
use Rattle.std.specs.List.{AllByRecursion}
use Rattle.std.proofs.lemmas.List.{get_or-drop, length-drop, drop-drop, drop_at}
use Rattle.c2_spec.specs.Jumbf.Tree.{description_bytes, head_len, Tree, Trees, leaf, super, none, more, tree_bytes, tree_label, tree_labels, AreDistinctLabels, IsLegalTree}
use Rattle.c2_spec.specs.Jumbf.Boxes.{AnyBox, node, described, IndexedBox, tree_count, trees_count, any_count, index_after, boxes_from, boxes_from_all, boxes_of, box_at, indices_from, children_of, child_indices, any_label, IsLegalBox}
use Rattle.c2_spec.proofs.JumbfBoxes.{length-boxes, own_boxes, inner_boxes, box_stands, box_index, box_inside, count_is, some_box}

-- These indices are met from a box to the index after it, up to an end.
abbrev pub Chain : Tree → ℕ → ℕ → List ℕ → Type 0
Chain t end i [] = i ≡ end
Chain t end i (c ∷ cs) =
    (c ≡ i)
    × ((i < end) × ((i < tree_count t) × ((i < index_after t i) × ((index_after t i ≤ end) × Chain t end (index_after t i) cs))))

-- the root as a box with an index
abbrev first_box : Tree → IndexedBox
first_box t = record { index = 0; place = 0; depth = 1; box = node t }

-- the first box from an index on
pub front_box_is : (t : Tree) (i : ℕ) (b : IndexedBox) (rest : List IndexedBox) → drop i (boxes_of t) ≡ b ∷ rest
    → (box_at t i ≡ b) × (i < tree_count t)
front_box_is t i b rest e =
    let n : length (boxes_of t) - i ≡ suc (length rest) = sym (length-drop i (boxes_of t)) ∙ ap length e in
    let z : i + 0 ≡ i = omega arith in
    (sym (get_or-drop i (boxes_of t) 0 (first_box t) ∙ ap (λ k. get_or (boxes_of t) k (first_box t)) z) ∙ ap (λ (x : List IndexedBox). get_or x 0 (first_box t)) e, omega (arith, n, count_is t))

-- the boxes of a tree begin with the tree itself
pub head_of : (u : Tree) (at depth i : ℕ)
    → (rest : List IndexedBox) × (boxes_from at depth i u ≡ record { index = i; place = at; depth = depth; box = node u } ∷ rest)
head_of (leaf b) at depth i = ([], refl)
head_of (super wide d us) at depth i = (_, refl)

-- a tree has one box at least
pub count_some : (u : Tree) → 1 ≤ tree_count u
count_some u = omega (arith, some_box u)

-- the indices of trees side by side are met one after the other
chain_all : (us : Trees) (t : Tree) (at depth i : ℕ) (rest : List IndexedBox)
    → drop i (boxes_of t) ≡ boxes_from_all at depth i us ++ rest → Chain t (i + trees_count us) i (indices_from i us)
chain_all none t at depth i rest e = let z : i ≡ i + 0 = omega arith in z
chain_all (more u us) t at depth i rest e =
    let h : (more_boxes : List IndexedBox) × (boxes_from at depth i u ≡ record { index = i; place = at; depth = depth; box = node u } ∷ more_boxes) =
    head_of u at depth i in
    let whole : drop i (boxes_of t) ≡ boxes_from at depth i u ++ (boxes_from_all (at + length (tree_bytes u)) depth (i + tree_count u) us ++ rest) =
    e
    ∙ append_assoc (boxes_from at depth i u)
    (boxes_from_all (at + length (tree_bytes u)) depth (i + tree_count u) us) rest in
    let f = front_box_is t i (record { index = i; place = at; depth = depth; box = node u })
    (h.0 ++ (boxes_from_all (at + length (tree_bytes u)) depth (i + tree_count u) us ++ rest))
    (whole ∙ ap (λ (x : List IndexedBox). x ++ (boxes_from_all (at + length (tree_bytes u)) depth (i + tree_count u)
    us ++ rest)) h.1) in
    let after : index_after t i ≡ i + tree_count u = ap (λ b. i + any_count b.box) f.0 in
    let next : drop (i + tree_count u) (boxes_of t) ≡ boxes_from_all (at + length (tree_bytes u)) depth (i + tree_count u) us ++ rest =
    sym (drop-drop (tree_count u) i (boxes_of t)) ∙ ap (drop (tree_count u)) whole ∙ drop_at (boxes_from at depth i u) (boxes_from_all (at + length (tree_bytes u)) depth (i + tree_count u) us ++ rest) (tree_count u) (length-boxes u at depth i) in
    let tail : Chain t (i + tree_count u + trees_count us) (i + tree_count u) (indices_from (i + tree_count u) us) =
    chain_all us t (at + length (tree_bytes u)) depth (i + tree_count u) rest next in
    let end : i + tree_count u + trees_count us ≡ i + (tree_count u + trees_count us) = omega arith in
    let chain : Chain t (i + (tree_count u + trees_count us)) (index_after t i) (indices_from (i + tree_count u) us) =
    subst (λ k. Chain t (i + (tree_count u + trees_count us)) k (indices_from (i + tree_count u) us)) (sym after)
    (subst (λ k. Chain t k (i + tree_count u) (indices_from (i + tree_count u) us)) end tail) in
    (refl, (omega (arith, count_some u), (f.1, (omega (arith, after, count_some u), (omega (arith, after), chain)))))

-- the children of a box
pub chain_of : (t : Tree) (i : ℕ) → i < tree_count t → Chain t (index_after t i) (i + 1) (child_indices t i)
chain_of t i l = go (box_at t i).box refl
  where
    s : (rest : List IndexedBox) × (drop i (boxes_of t) ≡ own_boxes (box_at t i) ++ rest)
    s = box_inside t i l

    end_is : (b : AnyBox) → (box_at t i).box ≡ b → index_after t i ≡ i + any_count b
    end_is b is = ap (λ x. i + any_count x) is

    lone : (b : AnyBox) → (box_at t i).box ≡ b → any_count b ≡ 1 → children_of i b ≡ []
        → Chain t (index_after t i) (i + 1) (children_of i (box_at t i).box)
    lone b is one childless =
        subst (λ (x : List ℕ). Chain t (index_after t i) (i + 1) x) (sym (ap (children_of i) is ∙ childless))
        (sym (end_is b is ∙ ap (λ n. i + n) one))

    go : (b : AnyBox) → (box_at t i).box ≡ b → Chain t (index_after t i) (i + 1) (children_of i (box_at t i).box)
    go (node (leaf b)) is = lone (node (leaf b)) is refl refl
    go (described d) is = lone (described d) is refl refl
    go (node (super wide d us)) is = subst (λ (x : List ℕ). Chain t (index_after t i) (i + 1) x) (sym (ap (children_of i) is)) whole
      where
        place : ℕ
        place = (box_at t i).place + head_len wide

        deeper : ℕ
        deeper = (box_at t i).depth + 1

        behind : List IndexedBox
        behind = boxes_from_all (place + length (description_bytes d)) deeper ((box_at t i).index + 2) us ++ s.0

        there : drop i (boxes_of t) ≡ inner_boxes (box_at t i).index (box_at t i).place (box_at t i).depth
            (node (super wide d us)) ++ s.0
        there = s.1 ∙ ap (λ b. inner_boxes (box_at t i).index (box_at t i).place (box_at t i).depth b ++ s.0) is

        second : drop (i + 1) (boxes_of t) ≡ record
            { index = (box_at t i).index + 1; place = place; depth = deeper; box = described d } ∷ behind
        second = sym (drop-drop 1 i (boxes_of t)) ∙ ap (drop 1) there

        third : drop (i + 2) (boxes_of t) ≡ boxes_from_all (place + length (description_bytes d)) deeper (i + 2) us
            ++ s.0
        third =
            sym (drop-drop 2 i (boxes_of t)) ∙ ap (drop 2) there
            ∙ ap (λ n. boxes_from_all (place + length (description_bytes d)) deeper (n + 2) us ++ s.0) (box_index t i l)

        f : (box_at t (i + 1) ≡ record { index = (box_at t i).index + 1; place = place; depth = deeper; box = described d })
            × (i + 1 < tree_count t)
        f =
            front_box_is t (i + 1)
            (record { index = (box_at t i).index + 1; place = place; depth = deeper; box = described d }) behind
            second

        next : index_after t (i + 1) ≡ i + 2
        next = ap (λ b. i + 1 + any_count b.box) f.0 ∙ (let e : i + 1 + 1 ≡ i + 2 = omega arith in e)

        end : index_after t i ≡ i + (2 + trees_count us)
        end = end_is (node (super wide d us)) is

        tail : Chain t (i + 2 + trees_count us) (i + 2) (indices_from (i + 2) us)
        tail = chain_all us t (place + length (description_bytes d)) deeper (i + 2) s.0 third

        end_too : i + 2 + trees_count us ≡ index_after t i
        end_too = omega (arith, end)

        chain : Chain t (index_after t i) (index_after t (i + 1)) (indices_from (i + 2) us)
        chain =
            subst (λ k. Chain t (index_after t i) k (indices_from (i + 2) us)) (sym next)
            (subst (λ k. Chain t k (i + 2) (indices_from (i + 2) us)) end_too tail)

        whole : Chain t (index_after t i) (i + 1) ((i + 1) ∷ indices_from (i + 2) us)
        whole = (refl, (omega (arith, end), (f.1, (omega (arith, next), (omega (arith, next, end), chain)))))

-- a chain with more to come, and one at its end
pub chain_more : (t : Tree) (end i : ℕ) (cs : List ℕ) → Chain t end i cs → i < end
    → (rest : List ℕ) × (cs ≡ i ∷ rest) × Chain t end i (i ∷ rest)
chain_more t end i [] h l = absurd (omega (arith, h))
chain_more t end i (c ∷ cs) h l = (cs, ap (λ n. n ∷ cs) h.0, (refl, h.1))

-- at the end of a chain no child is left
pub chain_end : (t : Tree) (end i : ℕ) (cs : List ℕ) → Chain t end i cs → end ≤ i → cs ≡ []
chain_end t end i [] h l = refl
chain_end t end i (c ∷ cs) h l = absurd (omega (arith, h.1.0))

-- what a chain meets are boxes of the tree
chain_inside : (t : Tree) (end i : ℕ) (cs : List ℕ) → Chain t end i cs → AllByRecursion (λ j. j < tree_count t) cs
chain_inside t end i [] h = tt
chain_inside t end i (c ∷ cs) h =
    (subst (λ j. j < tree_count t) (sym h.0) h.1.1.0, chain_inside t end (index_after t i) cs h.1.1.1.1.1)

-- the children of a box are boxes of the tree
pub children_inside : (t : Tree) (i : ℕ) → i < tree_count t → AllByRecursion (λ j. j < tree_count t) (child_indices t i)
children_inside t i l = chain_inside t (index_after t i) (i + 1) (child_indices t i) (chain_of t i l)

-- what holds of each child holds of the child at a place
child_at : (P : ℕ → Type 0) (xs : List ℕ) (k j : ℕ) → AllByRecursion P xs → Some j ≡ slice_get xs k → P j
child_at P [] k j h e = absurd (cc (e))
child_at P (x ∷ xs) zero j h e = let same : x ≡ j = cc (e) in subst P same h.0
child_at P (x ∷ xs) (suc k) j h e = child_at P xs k j h.1 e

-- the child at a place is a box of the tree
pub child_inside : (t : Tree) (i k j : ℕ) → i < tree_count t → Some j ≡ slice_get (child_indices t i) k
    → j < tree_count t
child_inside t i k j l e = child_at (λ n. n < tree_count t) (child_indices t i) k j (children_inside t i l) e

-- ---- labels

-- the labels of boxes by their indices
abbrev pub label_at : Tree → ℕ → Option (List ℕ)
label_at t k = any_label (box_at t k).box

-- the label of a tree as a box is its label
node_label : (u : Tree) → any_label (node u) ≡ tree_label u
node_label (leaf b) = refl
node_label (super wide d us) = refl

-- the labels at the indices of trees side by side are the labels of these trees
labels_all : (us : Trees) (t : Tree) (at depth i : ℕ) (rest : List IndexedBox)
    → drop i (boxes_of t) ≡ boxes_from_all at depth i us ++ rest → map (label_at t) (indices_from i us) ≡ tree_labels us
labels_all none t at depth i rest e = refl
labels_all (more u us) t at depth i rest e =
    let h : (others : List IndexedBox) × (boxes_from at depth i u ≡ record { index = i; place = at; depth = depth; box = node u } ∷ others) =
    head_of u at depth i in
    let whole : drop i (boxes_of t) ≡ boxes_from at depth i u ++ (boxes_from_all (at + length (tree_bytes u)) depth (i + tree_count u) us ++ rest) =
    e
    ∙ append_assoc (boxes_from at depth i u)
    (boxes_from_all (at + length (tree_bytes u)) depth (i + tree_count u) us) rest in
    let f = front_box_is t i (record { index = i; place = at; depth = depth; box = node u })
    (h.0 ++ (boxes_from_all (at + length (tree_bytes u)) depth (i + tree_count u) us ++ rest))
    (whole ∙ ap (λ (x : List IndexedBox). x ++ (boxes_from_all (at + length (tree_bytes u)) depth (i + tree_count u)
    us ++ rest)) h.1) in
    let next : drop (i + tree_count u) (boxes_of t) ≡ boxes_from_all (at + length (tree_bytes u)) depth (i + tree_count u) us ++ rest =
    sym (drop-drop (tree_count u) i (boxes_of t)) ∙ ap (drop (tree_count u)) whole ∙ drop_at (boxes_from at depth i u) (boxes_from_all (at + length (tree_bytes u)) depth (i + tree_count u) us ++ rest) (tree_count u) (length-boxes u at depth i) in
    ap (λ o. o ∷ map (label_at t) (indices_from (i + tree_count u) us)) (ap (λ b. any_label b.box) f.0 ∙ node_label u)
    ∙ ap (λ (x : List (Option (List ℕ))). tree_label u ∷ x)
    (labels_all us t (at + length (tree_bytes u)) depth (i + tree_count u) rest next)

-- The labels of a box's children are distinct.
pub distinct_children : (t : Tree) (i : ℕ) → i < tree_count t → IsLegalTree 1 t
    → AreDistinctLabels (map (label_at t) (child_indices t i))
distinct_children t i l h = go (box_at t i).box refl
  where
    s : (rest : List IndexedBox) × (drop i (boxes_of t) ≡ own_boxes (box_at t i) ++ rest)
    s = box_inside t i l

    go : (b : AnyBox) → (box_at t i).box ≡ b → AreDistinctLabels (map (label_at t) (children_of i (box_at t i).box))
    go (node (leaf b)) is = subst (λ c. AreDistinctLabels (map (label_at t) (children_of i c))) (sym is) tt
    go (described d) is = subst (λ c. AreDistinctLabels (map (label_at t) (children_of i c))) (sym is) tt
    go (node (super wide d us)) is = subst (λ c. AreDistinctLabels (map (label_at t) (children_of i c))) (sym is) (subst AreDistinctLabels (sym labels) (tt, legal.4))
      where
        legal : IsLegalTree (box_at t i).depth (super wide d us)
        legal = subst (IsLegalBox (box_at t i).depth) is (box_stands t i l h).legal

        place : ℕ
        place = (box_at t i).place + head_len wide

        deeper : ℕ
        deeper = (box_at t i).depth + 1

        there : drop i (boxes_of t) ≡ inner_boxes (box_at t i).index (box_at t i).place (box_at t i).depth
            (node (super wide d us)) ++ s.0
        there = s.1 ∙ ap (λ b. inner_boxes (box_at t i).index (box_at t i).place (box_at t i).depth b ++ s.0) is

        third : drop (i + 2) (boxes_of t) ≡ boxes_from_all (place + length (description_bytes d)) deeper (i + 2) us
            ++ s.0
        third =
            sym (drop-drop 2 i (boxes_of t)) ∙ ap (drop 2) there
            ∙ ap (λ n. boxes_from_all (place + length (description_bytes d)) deeper (n + 2) us ++ s.0) (box_index t i l)

        second : box_at t (i + 1) ≡ record
            { index = (box_at t i).index + 1; place = place; depth = deeper; box = described d }
        second =
            (front_box_is t (i + 1) (record { index = (box_at t i).index + 1; place = place; depth = deeper; box = described d }) (boxes_from_all (place + length (description_bytes d)) deeper ((box_at t i).index + 2) us ++ s.0) (sym (drop-drop 1 i (boxes_of t)) ∙ ap (drop 1) there)).0

        labels : map (label_at t) ((i + 1) ∷ indices_from (i + 2) us) ≡ None ∷ tree_labels us
        labels =
            ap (λ o. o ∷ map (label_at t) (indices_from (i + 2) us)) (ap (λ b. any_label b.box) second)
            ∙ ap (λ (x : List (Option (List ℕ))). None ∷ x)
            (labels_all us t (place + length (description_bytes d)) deeper (i + 2) s.0 third)
