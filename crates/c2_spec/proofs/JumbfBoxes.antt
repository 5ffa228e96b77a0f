-- The boxes of a tree (JUMBF, ISO/IEC 19566-5) by their indices: how many there are, where each is, and what is inside it.
use Rattle.std.proofs.Common.{◌≡◌, ℕ, zero, suc, ◌+◌, ◌-◌, ◌<◌, ◌≤◌, Bool, true, false, List, [], ◌∷◌, ◌++◌, length, get_or, take, drop, refl, sym, ap, ◌∙◌, subst, append_assoc, arith, lit<, lit≤, length-append}
use Rattle.std.specs.Int.{w32, to_be_bytes}
use Rattle.std.proofs.lemmas.List.{drop-drop, drop_at, length-drop, append-nil, take_at}
use Rattle.std.specs.List.{AllByRecursion}
use Rattle.std.proofs.lemmas.List.Elements.{All-get_or, All-from_recursion}
use Rattle.c2_spec.specs.declared.kinds.TheConstants.{JUMB, JUMD}
use Rattle.c2_spec.specs.Jumbf.Tree.{description_bytes, Tree, Trees, leaf, super, none, more, tree_bytes, trees_bytes, head_len, head_bytes, boxed, description_payload, IsLegalTree, AreLegalTrees}
use Rattle.c2_spec.specs.Jumbf.Boxes.{AnyBox, node, described, IndexedBox, tree_count, trees_count, boxes_from, boxes_from_all, boxes_of, box_at, any_count, index_after, IsLegalBox, any_bytes, any_wide, any_kind, any_contents}
use Rattle.c2_lemmas.proofs.Each.{each_append}

-- as many boxes as are counted
mutual
  pub length-boxes : (t : Tree) (at depth i : ℕ) → length (boxes_from at depth i t) ≡ tree_count t
  length-boxes (leaf b) at depth i = refl
  length-boxes (super wide d boxes) at depth i = let e : length (boxes_from_all (at + head_len wide + length (description_bytes d)) (depth + 1) (i + 2) boxes) ≡ trees_count boxes = length-boxes_all boxes _ (depth + 1) (i + 2) in omega (arith, e)

  -- as many boxes as are counted, of trees side by side
  pub length-boxes_all : (ts : Trees) (at depth i : ℕ) → length (boxes_from_all at depth i ts) ≡ trees_count ts
  length-boxes_all none at depth i = refl
  length-boxes_all (more t ts) at depth i =
      length-append (boxes_from at depth i t)
      (boxes_from_all (at + length (tree_bytes t)) depth (i + tree_count t) ts)
      ∙ ap (λ n. n + length (boxes_from_all (at + length (tree_bytes t)) depth (i + tree_count t) ts))
      (length-boxes t at depth i) ∙ ap (λ n. tree_count t + n)
      (length-boxes_all ts (at + length (tree_bytes t)) depth (i + tree_count t))

-- A box is at its place in the bytes, and is legal.
pub record Stands (bytes : List ℕ) (b : IndexedBox) : Type 0 where
  pub rest : List ℕ
  pub there : drop b.place bytes ≡ any_bytes b.box ++ rest
  pub legal : IsLegalBox b.depth b.box

-- without its header a box is its payload and what follows
cut_head : (kind : ℕ) (wide : Bool) (payload rest : List ℕ)
    → drop (head_len wide) (boxed kind wide payload ++ rest) ≡ payload ++ rest
cut_head kind true payload rest = refl
cut_head kind false payload rest = refl

mutual
  -- each box of a tree is at its place in the bytes that hold the tree, and is legal
  stand : (t : Tree) (bytes rest : List ℕ) (at depth i : ℕ) → drop at bytes ≡ tree_bytes t ++ rest → IsLegalTree depth t
      → AllByRecursion (Stands bytes) (boxes_from at depth i t)
  stand (leaf b) bytes rest at depth i e h = (record { rest = rest; there = e; legal = h }, tt)
  stand (super wide d us) bytes rest at depth i e h =
      let first : drop (at + head_len wide) bytes ≡ description_bytes d ++ (trees_bytes us ++ rest) =
      sym (drop-drop (head_len wide) at bytes) ∙ ap (drop (head_len wide)) e ∙ cut_head JUMB wide (description_bytes d ++ trees_bytes us) rest ∙ append_assoc (description_bytes d) (trees_bytes us) rest in
      let second : drop (at + head_len wide + length (description_bytes d)) bytes ≡ trees_bytes us ++ rest =
      sym (drop-drop (length (description_bytes d)) (at + head_len wide) bytes) ∙ ap (drop (length (description_bytes d))) first ∙ drop_at (description_bytes d) (trees_bytes us ++ rest) (length (description_bytes d)) refl in
      (record { rest = rest; there = e; legal = h }, (record { rest = trees_bytes us ++ rest; there = first; legal = h.1 }, stand_all us bytes rest (at + head_len wide + length (description_bytes d)) (depth + 1) (i + 2) second h.3))

  -- each box of trees side by side is at its place in the bytes that hold the trees, and is legal
  stand_all : (ts : Trees) (bytes rest : List ℕ) (at depth i : ℕ) → drop at bytes ≡ trees_bytes ts ++ rest
      → AreLegalTrees depth ts → AllByRecursion (Stands bytes) (boxes_from_all at depth i ts)
  stand_all none bytes rest at depth i e h = tt
  stand_all (more t ts) bytes rest at depth i e h =
      let whole : drop at bytes ≡ tree_bytes t ++ (trees_bytes ts ++ rest) =
      e ∙ append_assoc (tree_bytes t) (trees_bytes ts) rest in
      let behind : drop (at + length (tree_bytes t)) bytes ≡ trees_bytes ts ++ rest =
      sym (drop-drop (length (tree_bytes t)) at bytes) ∙ ap (drop (length (tree_bytes t))) whole
      ∙ drop_at (tree_bytes t) (trees_bytes ts ++ rest) (length (tree_bytes t)) refl in
      each_append (Stands bytes) (boxes_from at depth i t)
      (boxes_from_all (at + length (tree_bytes t)) depth (i + tree_count t) ts)
      (stand t bytes (trees_bytes ts ++ rest) at depth i whole h.0)
      (stand_all ts bytes rest (at + length (tree_bytes t)) depth (i + tree_count t) behind h.1)

-- The boxes of a list are numbered from an index on.
abbrev Numbered : ℕ → List IndexedBox → Type 0
Numbered i [] = Unit {0}
Numbered i (b ∷ bs) = (b.index ≡ i) × Numbered (i + 1) bs

-- two lists that are numbered one after the other are numbered together
numbered-append : (i : ℕ) (xs ys : List IndexedBox) → Numbered i xs → Numbered (i + length xs) ys
    → Numbered i (xs ++ ys)
numbered-append i [] ys h k = let e : i + 0 ≡ i = omega arith in subst (λ n. Numbered n ys) e k
numbered-append i (x ∷ xs) ys h k = let e : i + suc (length xs) ≡ i + 1 + length xs = omega arith in (h.0, numbered-append (i + 1) xs ys h.1 (subst (λ n. Numbered n ys) e k))

mutual
  -- the boxes of a tree are numbered from an index on
  numbered : (t : Tree) (at depth i j : ℕ) → i ≡ j → Numbered j (boxes_from at depth i t)
  numbered (leaf b) at depth i j e = (e, tt)
  numbered (super wide d us) at depth i j e =
      (e, (ap (λ n. n + 1) e, numbered_all us (at + head_len wide + length (description_bytes d)) (depth + 1) (i + 2) (j + 1 + 1) (omega (arith, e))))

  -- the boxes of trees side by side are numbered from an index on
  numbered_all : (ts : Trees) (at depth i j : ℕ) → i ≡ j → Numbered j (boxes_from_all at depth i ts)
  numbered_all none at depth i j e = tt
  numbered_all (more t ts) at depth i j e =
      numbered-append j (boxes_from at depth i t)
      (boxes_from_all (at + length (tree_bytes t)) depth (i + tree_count t) ts) (numbered t at depth i j e)
      (numbered_all ts (at + length (tree_bytes t)) depth (i + tree_count t) (j + length (boxes_from at depth i t))
      (omega (arith, e, length-boxes t at depth i)))

-- the box at a place of a numbered list has the index of that place
numbered_at : (i k : ℕ) (xs : List IndexedBox) (d : IndexedBox) → k < length xs → Numbered i xs
    → (get_or xs k d).index ≡ i + k
numbered_at i k [] d l h = absurd (omega arith)
numbered_at i zero (x ∷ xs) d l h = h.0 ∙ (let e : i ≡ i + 0 = omega arith in e)
numbered_at i (suc k) (x ∷ xs) d l h =
    numbered_at (i + 1) k xs d (omega arith) h.1 ∙ (let e : i + 1 + k ≡ i + suc k = omega arith in e)

-- Behind each box stand those inside it.
abbrev pub inner_boxes : ℕ → ℕ → ℕ → AnyBox → List IndexedBox
inner_boxes i at depth (node t) = boxes_from at depth i t
inner_boxes i at depth (described d) = record { index = i; place = at; depth = depth; box = described d } ∷ []

-- a box and those inside it, as they follow in the list of all boxes
abbrev pub own_boxes : IndexedBox → List IndexedBox
own_boxes b = inner_boxes b.index b.place b.depth b.box

-- each box of a list is followed by those inside it
abbrev Nested : List IndexedBox → Type 0
Nested [] = Unit {0}
Nested (b ∷ bs) = ((rest : List IndexedBox) × (b ∷ bs ≡ own_boxes b ++ rest)) × Nested bs

mutual
  -- in the list of a tree's boxes each is followed by those inside it
  nested : (t : Tree) (at depth i : ℕ) (rest : List IndexedBox) → Nested rest → Nested (boxes_from at depth i t ++ rest)
  nested (leaf b) at depth i rest h = ((rest, refl), h)
  nested (super wide d us) at depth i rest h =
      ((rest, refl), ((boxes_from_all (at + head_len wide + length (description_bytes d)) (depth + 1) (i + 2) us ++ rest, refl), nested_all us (at + head_len wide + length (description_bytes d)) (depth + 1) (i + 2) rest h))

  -- in the list of the boxes of trees side by side each is followed by those inside it
  nested_all : (ts : Trees) (at depth i : ℕ) (rest : List IndexedBox) → Nested rest
      → Nested (boxes_from_all at depth i ts ++ rest)
  nested_all none at depth i rest h = h
  nested_all (more t ts) at depth i rest h =
      subst Nested
      (sym (append_assoc (boxes_from at depth i t) (boxes_from_all (at + length (tree_bytes t)) depth (i + tree_count t) ts) rest))
      (nested t at depth i (boxes_from_all (at + length (tree_bytes t)) depth (i + tree_count t) ts ++ rest) (nested_all ts (at + length (tree_bytes t)) depth (i + tree_count t) rest h))

-- from each place of such a list on come a box and those inside it
nested_at : (xs : List IndexedBox) (k : ℕ) (d : IndexedBox) → k < length xs → Nested xs
    → (rest : List IndexedBox) × (drop k xs ≡ own_boxes (get_or xs k d) ++ rest)
nested_at [] k d l h = absurd (omega arith)
nested_at (x ∷ xs) zero d l h = h.0
nested_at (x ∷ xs) (suc k) d l h = nested_at xs k d (omega arith) h.1

-- The box of an index.
pub count_is : (t : Tree) → length (boxes_of t) ≡ tree_count t
count_is t = length-boxes t 0 1 0

-- an index of a tree is one of its list of boxes
pub within : (t : Tree) (i : ℕ) → i < tree_count t → i < length (boxes_of t)
within t i l = omega (arith, l, count_is t)

-- the box at an index is at its place in the tree's bytes, and is legal
pub box_stands : (t : Tree) (i : ℕ) → i < tree_count t → IsLegalTree 1 t → Stands (tree_bytes t) (box_at t i)
box_stands t i l h =
    let all = stand t (tree_bytes t) [] 0 1 0 (sym (append-nil (tree_bytes t))) h in
    All-get_or (Stands (tree_bytes t)) (boxes_of t) i _ (within t i l)
    (All-from_recursion (Stands (tree_bytes t)) (boxes_of t) all)

-- the box at an index has this index
pub box_index : (t : Tree) (i : ℕ) → i < tree_count t → (box_at t i).index ≡ i
box_index t i l =
    numbered_at 0 i (boxes_of t) _ (within t i l) (numbered t 0 1 0 0 refl) ∙ (let e : 0 + i ≡ i = omega arith in e)

-- the boxes from an index on begin with its box and those inside it
pub box_inside : (t : Tree) (i : ℕ) → i < tree_count t
    → (rest : List IndexedBox) × (drop i (boxes_of t) ≡ own_boxes (box_at t i) ++ rest)
box_inside t i l =
    nested_at (boxes_of t) i _ (within t i l) (subst Nested (append-nil (boxes_of t)) (nested t 0 1 0 [] tt))

-- a tree has a box
pub some_box : (t : Tree) → 0 < tree_count t
some_box (leaf b) = lit< tt
some_box (super wide d us) = omega arith

-- a box takes an index, and those inside it the next ones, within the tree's
own_count : (b : IndexedBox) → length (own_boxes b) ≡ any_count b.box
own_count b = go b.box
  where
    go : (x : AnyBox) → length (inner_boxes b.index b.place b.depth x) ≡ any_count x
    go (node t) = length-boxes t b.place b.depth b.index
    go (described d) = refl

-- the index after a box's last descendant is greater than its own
pub after_past : (t : Tree) (i : ℕ) → i < index_after t i
after_past t i = go (box_at t i).box
  where
    go : (b : AnyBox) → i < i + any_count b
    go (node u) = omega (arith, some_box u)
    go (described d) = omega arith

-- the index after a box's last descendant is at most the number of boxes
pub after_within : (t : Tree) (i : ℕ) → i < tree_count t → index_after t i ≤ tree_count t
after_within t i l =
    let s = box_inside t i l in
    let own = own_boxes (box_at t i) in
    let left : length (boxes_of t) - i ≡ length own + length s.0 =
    sym (length-drop i (boxes_of t)) ∙ ap length s.1 ∙ length-append own s.0 in
    omega (arith, left, own_count (box_at t i), count_is t, l)

-- a box is as long as its header and its payload
boxed_long : (kind : ℕ) (wide : Bool) (payload : List ℕ)
    → length (boxed kind wide payload) ≡ head_len wide + length payload
boxed_long kind true payload = omega arith
boxed_long kind false payload = omega arith

-- the length of a box, and what stands behind its header
pub any_size : (b : AnyBox) → length (any_bytes b) ≡ head_len (any_wide b) + length (any_contents b)
any_size (node (leaf b)) = boxed_long b.kind b.wide b.payload
any_size (node (super wide d us)) = boxed_long JUMB wide (description_bytes d ++ trees_bytes us)
any_size (described d) = boxed_long JUMD d.wide (description_payload d)

-- a header has 8 bytes at least
pub head_size : (w : Bool) → 8 ≤ head_len w
head_size true = lit≤ tt
head_size false = lit≤ tt

-- a box is its head and its contents
pub any_split : (b : AnyBox) → (head : List ℕ) × (any_bytes b ≡ head ++ any_contents b)
any_split (node (leaf b)) = (head_bytes b.kind b.wide (length b.payload), refl)
any_split (node (super wide d us)) = (head_bytes JUMB wide (length (description_bytes d ++ trees_bytes us)), refl)
any_split (described d) = (head_bytes JUMD d.wide (length (description_payload d)), refl)

-- without its header a box is its contents
pub any_behind : (b : AnyBox) → drop (head_len (any_wide b)) (any_bytes b) ≡ any_contents b
any_behind b =
    let s = any_split b in
    let n : length s.0 ≡ head_len (any_wide b) =
    omega (arith, ap length s.1, length-append s.0 (any_contents b), any_size b) in
    subst (λ k. drop k (any_bytes b) ≡ any_contents b) n
    (ap (drop (length s.0)) s.1 ∙ drop_at s.0 (any_contents b) (length s.0) refl)

-- bytes 4 to 7 of a box are its type
boxed_kind : (kind : ℕ) (wide : Bool) (payload : List ℕ)
    → get_or (boxed kind wide payload) 4 0 ∷ get_or (boxed kind wide payload) 5 0 ∷ get_or (boxed kind wide payload) 6 0 ∷ get_or (boxed kind wide payload) 7 0 ∷ [] ≡ to_be_bytes w32 kind
boxed_kind kind true payload = refl
boxed_kind kind false payload = refl

-- bytes 4 to 7 of any box of a tree are its type
pub any_kind_bytes : (b : AnyBox)
    → get_or (any_bytes b) 4 0 ∷ get_or (any_bytes b) 5 0 ∷ get_or (any_bytes b) 6 0 ∷ get_or (any_bytes b) 7 0 ∷ [] ≡ to_be_bytes w32 (any_kind b)
any_kind_bytes (node (leaf b)) = boxed_kind b.kind b.wide b.payload
any_kind_bytes (node (super wide d us)) = boxed_kind JUMB wide (description_bytes d ++ trees_bytes us)
any_kind_bytes (described d) = boxed_kind JUMD d.wide (description_payload d)

-- the box's bytes as they are borrowed
pub box_ends : (bytes : List ℕ) (t : Tree) (i : ℕ) → bytes ≡ tree_bytes t → i < tree_count t → IsLegalTree 1 t
    → (box_at t i).place + length (any_bytes (box_at t i).box) ≤ length bytes
box_ends bytes t i same l h =
    let s : Stands (tree_bytes t) (box_at t i) = box_stands t i l h in
    let n : length (tree_bytes t) - (box_at t i).place ≡ length (any_bytes (box_at t i).box) + length s.rest =
    sym (length-drop (box_at t i).place (tree_bytes t)) ∙ ap length s.there
    ∙ length-append (any_bytes (box_at t i).box) s.rest in
    omega (arith, n, ap length same, any_size (box_at t i).box, head_size (any_wide (box_at t i).box))

-- the bytes at a box's place, as many as it has, are the box
pub box_bytes_are : (bytes : List ℕ) (t : Tree) (i : ℕ) → bytes ≡ tree_bytes t → i < tree_count t → IsLegalTree 1 t
    → take (length (any_bytes (box_at t i).box)) (drop (box_at t i).place bytes) ≡ any_bytes (box_at t i).box
box_bytes_are bytes t i same l h =
    let s : Stands (tree_bytes t) (box_at t i) = box_stands t i l h in
    ap (λ (x : List ℕ). take (length (any_bytes (box_at t i).box)) (drop (box_at t i).place x)) same
    ∙ ap (take (length (any_bytes (box_at t i).box))) s.there
    ∙ take_at (any_bytes (box_at t i).box) s.rest (length (any_bytes (box_at t i).box)) refl

-- a box is no shorter than its header
pub any_long : (b : AnyBox) → head_len (any_wide b) ≤ length (any_bytes b)
any_long b = omega (arith, any_size b)

-- a box has 8 bytes at least
pub any_least : (b : AnyBox) → 8 ≤ length (any_bytes b)
any_least b = omega (arith, any_size b, head_size (any_wide b))
