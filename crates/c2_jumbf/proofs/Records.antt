-- The record that a tree's type keeps of each box is the record of the box of that index.
use Rattle.std.proofs.Common.{◌≡◌, ℕ, ◌+◌, ◌-◌, ◌<◌, ◌≤◌, List, length, get_or, take, drop, sym, ap, ◌∙◌, subst, arith}
use Rattle.std.proofs.lemmas.List.{get_or-map, length-map}
use Rattle.c2_spec.specs.Jumbf.Tree.{Tree, tree_bytes, IsLegalTree}
use Rattle.c2_spec.specs.Jumbf.Boxes.{tree_count, boxes_of, box_at, any_bytes}
use Rattle.c2_spec.proofs.JumbfBoxes.{within, count_is, box_ends, box_bytes_are}
use Rattle.c2_jumbf.specs.declared.rows.Row.{Row}
use Rattle.c2_jumbf.specs.Flat.{row_of}
use Rattle.c2_jumbf.specs.Parsed.{IsParsed}

-- The record of an index, as the tree's type keeps it.
row_is : (bytes : List ℕ) (all : List Row) (p : IsParsed bytes all) (i : ℕ) (d : Row) → i < tree_count p.tree
    → get_or all i d ≡ row_of (box_at p.tree i)
row_is bytes all p i d l =
    ap (λ (x : List Row). get_or x i d) p.rows_are ∙ get_or-map row_of (boxes_of p.tree) i _ d (within p.tree i l)

-- the record at an index is that of the box at this index
pub row_here : (bytes : List ℕ) (all : List Row) (p : IsParsed bytes all) (t : Tree) (i : ℕ) (d : Row) → p.tree ≡ t
    → i < tree_count t → get_or all i d ≡ row_of (box_at t i)
row_here bytes all p t i d same l =
    row_is bytes all p i d (subst (λ u. i < tree_count u) (sym same) l) ∙ ap (λ u. row_of (box_at u i)) same

-- there are as many records as boxes
pub rows_count : (bytes : List ℕ) (all : List Row) (p : IsParsed bytes all) (t : Tree) → p.tree ≡ t
    → length all ≡ tree_count t
rows_count bytes all p t same =
    ap length p.rows_are ∙ length-map (boxes_of p.tree) row_of ∙ count_is p.tree ∙ ap tree_count same

-- the tree of the records is legal
pub legal_here : (bytes : List ℕ) (all : List Row) (p : IsParsed bytes all) (t : Tree) → p.tree ≡ t → IsLegalTree 1 t
legal_here bytes all p t same = subst (IsLegalTree 1) same p.spells.legal

-- the bytes are those of the tree
pub bytes_here : (bytes : List ℕ) (all : List Row) (p : IsParsed bytes all) (t : Tree) → p.tree ≡ t
    → bytes ≡ tree_bytes t
bytes_here bytes all p t same = p.spells.whole ∙ ap tree_bytes same

-- the row of an index ends within the bytes
pub row_ends : (bytes : List ℕ) (all : List Row) (p : IsParsed bytes all) (t : Tree) (i : ℕ) (r : Row) → p.tree ≡ t
    → i < tree_count t → r ≡ row_of (box_at t i) → r.place + r.total ≤ length bytes
row_ends bytes all p t i r same l is =
    subst (λ x. x.place + x.total ≤ length bytes) (sym is)
    (box_ends bytes t i (bytes_here bytes all p t same) l (legal_here bytes all p t same))

-- the bytes from a record's place to its end are the box
pub row_bytes : (bytes : List ℕ) (all : List Row) (p : IsParsed bytes all) (t : Tree) (i : ℕ) (r : Row) → p.tree ≡ t
    → i < tree_count t → r ≡ row_of (box_at t i)
    → take (r.place + r.total - r.place) (drop r.place bytes) ≡ any_bytes (box_at t i).box
row_bytes bytes all p t i r same l is =
    let n : r.place + r.total - r.place ≡ r.total = omega arith in
    ap (λ k. take k (drop r.place bytes)) n ∙ ap (λ (x : Row). take x.total (drop x.place bytes)) is
    ∙ box_bytes_are bytes t i (bytes_here bytes all p t same) l (legal_here bytes all p t same)
