-- The lines of `list`.
use Rattle.std.proofs.Common.{◌≡◌, refl, sym, ◌∙◌, ap, ℕ, ◌+◌, ◌<◌, List, [], ◌∷◌, ◌++◌, length, take, arith}
use Rattle.std.proofs.lemmas.Grind.{flat_map-append}
use Rattle.std.proofs.lemmas.List.{take_more, take_all, append-nil, length-append}
use Rattle.std.specs.List.{flat_map}
use Rattle.c2_spec.specs.Jumbf.Tree.{Tree, Trees, leaf, super, none, more, tree_bytes, head_len, description_bytes}
use Rattle.c2_spec.specs.Jumbf.Boxes.{box_at, boxes_of, boxes_from, boxes_from_all, tree_count, trees_count}
use Rattle.c2_texts.specs.Texts.{box_line, listing}
use Rattle.c2_spec.proofs.JumbfBoxes.{count_is}

-- a tree has as many boxes as it takes indices
mutual
  length-boxes : (at depth i : ℕ) (t : Tree) → length (boxes_from at depth i t) ≡ tree_count t
  length-boxes at depth i (leaf b) = refl
  length-boxes at depth i (super wide d boxes) =
      let rest = length-all (at + head_len wide + length (description_bytes d)) (depth + 1) (i + 2) boxes in
      omega (arith, rest)

  length-all : (at depth i : ℕ) (ts : Trees) → length (boxes_from_all at depth i ts) ≡ trees_count ts
  length-all at depth i none = refl
  length-all at depth i (more t ts) =
      let first = length-boxes at depth i t in
      let rest = length-all (at + length (tree_bytes t)) depth (i + tree_count t) ts in
      let both =
      length-append (boxes_from at depth i t)
      (boxes_from_all (at + length (tree_bytes t)) depth (i + tree_count t) ts) in
      omega (arith, first, rest, both)

-- one line more
pub lines_more : (t : Tree) (i : ℕ) (before after : List ℕ) → i < tree_count t
    → before ≡ flat_map box_line (take i (boxes_of t)) → after ≡ before ++ box_line (box_at t i)
    → after ≡ flat_map box_line (take (i + 1) (boxes_of t))
lines_more t i before after below b a =
    let boxes : take (i + 1) (boxes_of t) ≡ take i (boxes_of t) ++ box_at t i ∷ [] =
    take_more (boxes_of t) i _ (rw (count_is t) below) in
    let lines : flat_map box_line (take i (boxes_of t) ++ box_at t i ∷ []) ≡ flat_map box_line (take i (boxes_of t)) ++ flat_map box_line (box_at t i ∷ []) =
    flat_map-append box_line (take i (boxes_of t)) (box_at t i ∷ []) in
    let one : flat_map box_line (box_at t i ∷ []) ≡ box_line (box_at t i) = append-nil (box_line (box_at t i)) in
    a ∙ ap (λ l. l ++ box_line (box_at t i)) b
    ∙ sym
    (ap (λ bs. flat_map box_line bs) boxes ∙ lines ∙ ap (λ l. flat_map box_line (take i (boxes_of t)) ++ l) one)

-- all lines
pub lines_whole : (t : Tree) (i : ℕ) (text : List ℕ) → i ≡ tree_count t → text ≡ flat_map box_line (take i (boxes_of t))
    → text ≡ listing t
lines_whole t i text end is =
    is ∙ ap (λ bs. flat_map box_line bs) (take_all i (boxes_of t) (let same = count_is t in omega (arith, same, end)))
