-- The boxes in a box are met from one index to the index after it, each as the tree that it is.
use Rattle.std.proofs.Common.{◌≡◌, ◌≢◌, ℕ, ◌+◌, ◌<◌, ◌≤◌, ◌^◌, true, false, List, ◌∷◌, ◌++◌, length, drop, is_some, refl, sym, ap, ◌∙◌, subst, append_assoc, arith}
use Rattle.std.proofs.lemmas.List.{drop-drop, drop_at}
use Rattle.c2_spec.specs.Jumbf.Tree.{Tree, Trees, leaf, super, none, more, FitsHead, IsLegalTree, description_bytes, head_len, tree_bytes}
use Rattle.c2_spec.specs.Jumbf.Boxes.{AnyBox, IndexedBox, node, described, tree_count, trees_count, any_count, index_after, boxes_from, boxes_from_all, boxes_of, box_at, any_bytes, any_contents, any_kind, any_uuid, any_wide, IsLegalBox}
use Rattle.c2_spec.proofs.JumbfBoxes.{length-boxes, own_boxes, inner_boxes, box_stands, box_index, box_inside}
use Rattle.c2_spec.proofs.JumbfChildren.{front_box_is}
use Rattle.c2_parent.specs.Boxes.{AreFrom, ToCome, any_boxes, front_bytes}
use Rattle.c2_spec.proofs.JumbfChildren.{count_some, head_of}

-- the root is the box with index 0
pub root_box : (t : Tree) → (box_at t 0).box ≡ node t
root_box (leaf b) = refl
root_box (super wide d us) = refl

-- a box has nothing inside it, or two indices at least
counts : (b : AnyBox) → any_count b ≡ 1 → any_boxes b ≡ none
counts (node (leaf b)) e = refl
counts (node (super wide d us)) e = absurd (omega (arith, e))
counts (described d) e = refl

-- the boxes of a box without any, from the index after it
pub from_end : (t : Tree) (i at : ℕ) → at ≡ index_after t i → index_after t i ≡ i + 1
    → AreFrom t at (index_after t i) (any_boxes (box_at t i).box)
from_end t i at here e =
    let empty : any_boxes (box_at t i).box ≡ none = counts (box_at t i).box (omega (arith, e)) in
    subst (AreFrom t at (index_after t i)) (sym empty)
    (record { place = 0; depth = 0; others = drop at (boxes_of t); stand = refl; last = omega (arith, here) })

-- the boxes of a box behind its description
pub from_inside : (t : Tree) (i at : ℕ) → i < tree_count t → at ≡ i + 2 → index_after t i ≢ i + 1
    → AreFrom t at (index_after t i) (any_boxes (box_at t i).box)
from_inside t i at l here ne = go (box_at t i).box refl
  where
    s : (rest : List IndexedBox) × (drop i (boxes_of t) ≡ own_boxes (box_at t i) ++ rest)
    s = box_inside t i l

    one : (b : AnyBox) → (box_at t i).box ≡ b → any_count b ≡ 1
        → AreFrom t at (index_after t i) (any_boxes (box_at t i).box)
    one b is e = absurd (ne (ap (λ x. i + any_count x) is ∙ ap (λ n. i + n) e))

    go : (b : AnyBox) → (box_at t i).box ≡ b → AreFrom t at (index_after t i) (any_boxes (box_at t i).box)
    go (node (leaf b)) is = one (node (leaf b)) is refl
    go (described d) is = one (described d) is refl
    go (node (super wide d us)) is =
        let there : drop i (boxes_of t) ≡ inner_boxes (box_at t i).index (box_at t i).place (box_at t i).depth (node (super wide d us)) ++ s.0 =
        s.1 ∙ ap (λ b. inner_boxes (box_at t i).index (box_at t i).place (box_at t i).depth b ++ s.0) is in
        let third : drop (i + 2) (boxes_of t) ≡ boxes_from_all ((box_at t i).place + head_len wide + length (description_bytes d)) ((box_at t i).depth + 1) (i + 2) us ++ s.0 =
        sym (drop-drop 2 i (boxes_of t)) ∙ ap (drop 2) there ∙ ap (λ n. boxes_from_all ((box_at t i).place + head_len wide + length (description_bytes d)) ((box_at t i).depth + 1) (n + 2) us ++ s.0) (box_index t i l) in
        let end : index_after t i ≡ i + 2 + trees_count us =
        ap (λ x. i + any_count x) is
        ∙ (let e : i + (2 + trees_count us) ≡ i + 2 + trees_count us = omega arith in e) in
        let are : AreFrom t (i + 2) (index_after t i) us =
        record
        { place = (box_at t i).place + head_len wide + length (description_bytes d); depth = (box_at t i).depth + 1; others = s.0; stand = third; last = end } in
        subst (λ x. AreFrom t at (index_after t i) (any_boxes x)) (sym is)
        (subst (λ k. AreFrom t k (index_after t i) us) (sym here) are)

-- The box that comes next, and those after it.
pub record Next (t : Tree) (at end : ℕ) (Holds : Trees → Type 0) : Type 0 where
  pub first : Tree
  pub others : Trees
  pub inside : at < tree_count t
  pub box : (box_at t at).box ≡ node first
  pub past : at < index_after t at
  pub bound : index_after t at ≤ end
  pub are : AreFrom t (index_after t at) end others
  pub holds : Holds (more first others)

-- the next box, by the boxes that are still to come
next_of : (t : Tree) (at end : ℕ) (Holds : Trees → Type 0) (boxes : Trees) → AreFrom t at end boxes → Holds boxes
    → at < end → Next t at end Holds
next_of t at end Holds none h holds l = absurd (omega (arith, h.last, l))
next_of t at end Holds (more u us) h holds l =
    let own = boxes_from h.place h.depth at u in
    let behind = boxes_from_all (h.place + length (tree_bytes u)) h.depth (at + tree_count u) us in
    let front : (others : List IndexedBox) × (own ≡ record { index = at; place = h.place; depth = h.depth; box = node u } ∷ others) =
    head_of u h.place h.depth at in
    let whole : drop at (boxes_of t) ≡ own ++ (behind ++ h.others) = h.stand ∙ append_assoc own behind h.others in
    let f =
    front_box_is t at (record { index = at; place = h.place; depth = h.depth; box = node u })
    (front.0 ++ (behind ++ h.others))
    (whole ∙ ap (λ (x : List IndexedBox). x ++ (behind ++ h.others)) front.1) in
    let after : index_after t at ≡ at + tree_count u = ap (λ b. at + any_count b.box) f.0 in
    let next : drop (at + tree_count u) (boxes_of t) ≡ behind ++ h.others =
    sym (drop-drop (tree_count u) at (boxes_of t)) ∙ ap (drop (tree_count u)) whole ∙ drop_at own (behind ++ h.others) (tree_count u) (length-boxes u h.place h.depth at) in
    let are : AreFrom t (at + tree_count u) end us =
    record
    { place = h.place + length (tree_bytes u); depth = h.depth; others = h.others; stand = next; last = omega (arith, h.last) } in
    record {
      first = u;
      others = us;
      inside = f.1;
      box = ap (λ b. b.box) f.0;
      past = omega (arith, after, count_some u);
      bound = omega (arith, after, h.last);
      are = subst (λ k. AreFrom t k end us) (sym after) are;
      holds = holds;
    }

-- before the end there is a box
pub next : (t : Tree) (at end : ℕ) (Holds : Trees → Type 0) → ToCome t at end Holds → at < end → Next t at end Holds
next t at end Holds h l = next_of t at end Holds h.boxes h.are h.holds l

-- nothing is left at the end
nothing : (t : Tree) (at end : ℕ) (Holds : Trees → Type 0) (boxes : Trees) → AreFrom t at end boxes → Holds boxes
    → end ≤ at → Holds none
nothing t at end Holds none h holds l = holds
nothing t at end Holds (more u us) h holds l = absurd (omega (arith, h.last, l, count_some u))

-- at the end no box is left
pub no_more_boxes : (t : Tree) (at end : ℕ) (Holds : Trees → Type 0) → ToCome t at end Holds → end ≤ at → Holds none
no_more_boxes t at end Holds h l = nothing t at end Holds h.boxes h.are h.holds l

-- ---- a box and its header

-- a box's header can tell its length
fits_of : (depth : ℕ) (b : AnyBox) → IsLegalBox depth b → FitsHead (any_kind b) (any_wide b) (length (any_contents b))
fits_of depth (node (leaf b)) h = h.0
fits_of depth (node (super wide d us)) h = h.2
fits_of depth (described d) h = h.fits

-- the header of each box of a tree can tell its length
pub box_fits : (t : Tree) (i : ℕ) → i < tree_count t → IsLegalTree 1 t
    → FitsHead (any_kind (box_at t i).box) (any_wide (box_at t i).box) (length (any_contents (box_at t i).box))
box_fits t i l h = fits_of (box_at t i).depth (box_at t i).box (box_stands t i l h).legal

-- by its form, in one number
pub long_fits : (kind len : ℕ) → FitsHead kind true len → 16 + len < 2 ^ 64
long_fits kind len h = h.total

-- a box with a short header has fewer than 2^32 bytes
pub short_fits : (kind len : ℕ) → FitsHead kind false len → 8 + len < 2 ^ 32
short_fits kind len h = h.total

-- The description of a superbox is the box after it.
pub record HasFront (t : Tree) (i : ℕ) : Type 0 where
  pub inside : i + 1 < tree_count t
  pub front : any_bytes (box_at t (i + 1)).box ≡ front_bytes (box_at t i).box

-- the description of each superbox of a tree is the box after it
pub has_front : (t : Tree) (i : ℕ) → i < tree_count t → is_some (any_uuid (box_at t i).box) ≡ true → HasFront t i
has_front t i l some = go (box_at t i).box refl
  where
    s : (rest : List IndexedBox) × (drop i (boxes_of t) ≡ own_boxes (box_at t i) ++ rest)
    s = box_inside t i l

    go : (b : AnyBox) → (box_at t i).box ≡ b → HasFront t i
    go (node (leaf b)) is = let e : is_some (any_uuid (node (leaf b))) ≡ true = ap (λ x. is_some (any_uuid x)) (sym is) ∙ some in absurd (cc (e))
    go (described d) is = let e : is_some (any_uuid (described d)) ≡ true = ap (λ x. is_some (any_uuid x)) (sym is) ∙ some in absurd (cc (e))
    go (node (super wide d us)) is =
        let own : IndexedBox =
        record
        { index = (box_at t i).index + 1; place = (box_at t i).place + head_len wide; depth = (box_at t i).depth + 1; box = described d } in
        let behind =
        boxes_from_all ((box_at t i).place + head_len wide + length (description_bytes d))
        ((box_at t i).depth + 1) ((box_at t i).index + 2) us ++ s.0 in
        let there : drop i (boxes_of t) ≡ inner_boxes (box_at t i).index (box_at t i).place (box_at t i).depth (node (super wide d us)) ++ s.0 =
        s.1 ∙ ap (λ b. inner_boxes (box_at t i).index (box_at t i).place (box_at t i).depth b ++ s.0) is in
        let second : drop (i + 1) (boxes_of t) ≡ own ∷ behind = sym (drop-drop 1 i (boxes_of t)) ∙ ap (drop 1) there in
        let f = front_box_is t (i + 1) own behind second in
        record { inside = f.1; front = ap (λ b. any_bytes b.box) f.0 ∙ ap front_bytes (sym is) }
