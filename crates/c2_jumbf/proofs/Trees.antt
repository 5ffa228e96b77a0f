-- Trees that stand side by side, and their records.
use Rattle.std.proofs.Common.{◌≡◌, ◌⊎◌, inl, inr, ℕ, ◌+◌, ◌-◌, ◌<◌, ◌≤◌, List, [], ◌∷◌, ◌++◌, length, drop, map, Option, refl, sym, ap, ◌∙◌, subst, append_assoc, arith, length-append}
use Rattle.std.proofs.lemmas.List.{length-drop, append-nil, drop-drop, drop_all, length-map, map-append}
use Rattle.c2_spec.specs.declared.jumbf.JumbfError.{JumbfError}
use Rattle.c2_spec.specs.declared.jumbf.JumbfError.TheVariants.{DuplicateLabel, NoMemory}
use Rattle.c2_spec.specs.Jumbf.Tree.{Tree, Trees, none, more, tree_bytes, trees_bytes, tree_label, tree_labels, IsLegalTree, AreLegalTrees, AreDistinctLabels, IsNewLabel}
use Rattle.c2_spec.specs.Jumbf.Faults.{TreeFault}
use Rattle.c2_spec.specs.Jumbf.Boxes.{IndexedBox, tree_count, trees_count, boxes_from, boxes_from_all}
use Rattle.c2_spec.proofs.JumbfBoxes.{length-boxes_all}
use Rattle.c2_jumbf.specs.declared.rows.Row.{Row}
use Rattle.c2_jumbf.specs.Labels.{Mark, own_marks, NoneRepeats, IsFirstRepeated, IsFirstFault}
use Rattle.c2_jumbf.specs.Flat.{row_of, rows, rows_all, IsTreeAt, AreTreesIn, FaultAt, ChildFault}
use Rattle.c2_jumbf.proofs.LabelMarks.{Stand, stand_none, stand_more, none_more, first_more}

-- one more tree at the end
pub push_tree : Trees → Tree → Trees
push_tree none t = more t none
push_tree (more s ts) t = more s (push_tree ts t)

-- one more tree adds its bytes at the end
pub spelled-push : (ts : Trees) (t : Tree) → trees_bytes (push_tree ts t) ≡ trees_bytes ts ++ tree_bytes t
unfolding push_tree
spelled-push none t = append-nil (tree_bytes t)
spelled-push (more s ts) t =
    ap (λ (x : List ℕ). tree_bytes s ++ x) (spelled-push ts t)
    ∙ sym (append_assoc (tree_bytes s) (trees_bytes ts) (tree_bytes t))

-- one more tree adds its label at the end
pub labels-push : (ts : Trees) (t : Tree) → tree_labels (push_tree ts t) ≡ tree_labels ts ++ tree_label t ∷ []
unfolding push_tree
labels-push none t = refl
labels-push (more s ts) t = ap (λ (x : List (Option (List ℕ))). tree_label s ∷ x) (labels-push ts t)

-- legal trees stay so with one more legal tree
pub legal-push : (depth : ℕ) (ts : Trees) (t : Tree) → AreLegalTrees depth ts → IsLegalTree depth t
    → AreLegalTrees depth (push_tree ts t)
unfolding push_tree
legal-push depth none t h k = (k, tt)
legal-push depth (more s ts) t h k = (h.0, legal-push depth ts t h.1 k)

-- trees have as many records as boxes
pub length-rows_all : (ts : Trees) (at depth i : ℕ) → length (rows_all at depth i ts) ≡ trees_count ts
length-rows_all ts at depth i = length-map (boxes_from_all at depth i ts) row_of ∙ length-boxes_all ts at depth i

-- one more tree adds its boxes at the end
boxes-push : (ts : Trees) (t : Tree) (at depth i : ℕ)
    → boxes_from_all at depth i (push_tree ts t) ≡ boxes_from_all at depth i ts ++ boxes_from (at + length (trees_bytes ts)) depth (i + trees_count ts) t
unfolding push_tree
boxes-push none t at depth i = let a : at ≡ at + 0 = omega arith in let b : i ≡ i + 0 = omega arith in append-nil (boxes_from at depth i t) ∙ ap (λ n. boxes_from n depth i t) a ∙ ap (λ n. boxes_from (at + 0) depth n t) b
boxes-push (more s ts) t at depth i =
    let l : length (tree_bytes s ++ trees_bytes ts) ≡ length (tree_bytes s) + length (trees_bytes ts) =
    length-append (tree_bytes s) (trees_bytes ts) in
    let a : at + length (tree_bytes s) + length (trees_bytes ts) ≡ at + length (tree_bytes s ++ trees_bytes ts) =
    omega (arith, l) in
    let b : i + tree_count s + trees_count ts ≡ i + (tree_count s + trees_count ts) = omega arith in
    ap (λ (x : List IndexedBox). boxes_from at depth i s ++ x) (boxes-push ts t (at + length (tree_bytes s)) depth (i + tree_count s) ∙ ap (λ n. boxes_from_all (at + length (tree_bytes s)) depth (i + tree_count s) ts ++ boxes_from n depth (i + tree_count s + trees_count ts) t) a
    ∙ ap (λ n. boxes_from_all (at + length (tree_bytes s)) depth (i + tree_count s) ts ++ boxes_from (at + length (tree_bytes s ++ trees_bytes ts)) depth n t) b)
    ∙ sym
    (append_assoc (boxes_from at depth i s) (boxes_from_all (at + length (tree_bytes s)) depth (i + tree_count s) ts) (boxes_from (at + length (tree_bytes s ++ trees_bytes ts)) depth (i + (tree_count s + trees_count ts)) t))

-- one more tree adds its records at the end
rows-push : (ts : Trees) (t : Tree) (at depth i : ℕ)
    → rows_all at depth i (push_tree ts t) ≡ rows_all at depth i ts ++ rows (at + length (trees_bytes ts)) depth (i + trees_count ts) t
rows-push ts t at depth i =
    ap (map row_of) (boxes-push ts t at depth i)
    ∙ map-append row_of (boxes_from_all at depth i ts)
    (boxes_from (at + length (trees_bytes ts)) depth (i + trees_count ts) t)

-- The trees before a place of the payload, and the labels that are kept of them.
pub record Filled (depth at : ℕ) (payload : List ℕ) (from : ℕ) (ms : List Mark) (old new : List Row) : Type 0 where
  pub trees : Trees
  pub legal : AreLegalTrees depth trees
  pub inside : from ≤ length payload
  pub bytes : payload ≡ trees_bytes trees ++ drop from payload
  pub size : from ≡ length (trees_bytes trees)
  pub stand : Stand ms (tree_labels trees) (at + from)
  pub twice : (p : ℕ) → IsFirstRepeated ms p → ChildFault depth at payload (DuplicateLabel p)
  pub added : new ≡ old ++ rows_all at depth (length old) trees

-- without a mark no label was there before
none_twice : {P : Type 0} (ms : List Mark) (p : ℕ) → ms ≡ [] → IsFirstRepeated ms p → P
none_twice ms p e f = let l : length ms ≡ 0 = ap length e in absurd (omega (arith, l, f.has_later.1))

-- at the start of a payload there is no tree
pub filled_none : (depth at : ℕ) (payload : List ℕ) (ms : List Mark) (old : List Row) → ms ≡ []
    → Filled depth at payload 0 ms old old
filled_none depth at payload ms old e = record {
  trees = none;
  legal = tt;
  inside = omega arith;
  bytes = refl;
  size = refl;
  stand = stand_none ms (at + 0) e;
  twice = λ p f. none_twice ms p e f;
  added = sym (append-nil old);
}

-- a fault of the tree at the place is one of the payload, where the labels before it are distinct
fault_here :
    (depth at : ℕ) (payload : List ℕ) (from : ℕ) (ms : List Mark) (old new : List Row) (e : JumbfError)
    (f : Filled depth at payload from ms old new)
    → from < length payload → AreDistinctLabels (tree_labels f.trees)
    → TreeFault (tree_labels f.trees) depth (at + from) (drop from payload) e → ChildFault depth at payload e
fault_here depth at payload from ms old new e f some distinct fails =
    let place : at + from ≡ at + length payload - length (drop from payload) =
    omega (arith, length-drop from payload) in
    record {
      trees = f.trees;
      rest = drop from payload;
      legal = f.legal;
      distinct = distinct;
      bytes = f.bytes;
      some = omega (arith, length-drop from payload);
      fails = subst (λ p. TreeFault (tree_labels f.trees) depth p (drop from payload) e) place fails;
    }

-- the first label that was there before, where the tree at the place has this label
twice_here :
    (depth at : ℕ) (payload : List ℕ) (from : ℕ) (ms next : List Mark) (old new : List Row) (label : Option (List ℕ))
    (p : ℕ) (f : Filled depth at payload from ms old new)
    → from < length payload
    → next ≡ ms ++ own_marks (at + from) label
    → ((earlier : List (Option (List ℕ))) → (IsNewLabel label earlier → ⊥) → TreeFault earlier depth (at + from) (drop from payload) (DuplicateLabel (at + from)))
    → IsFirstRepeated next p → ChildFault depth at payload (DuplicateLabel p)
twice_here depth at payload from ms next old new label p f some marked duplicate first =
    first_more ms (tree_labels f.trees) (at + from) f.stand label (λ q. ChildFault depth at payload (DuplicateLabel q))
    p f.twice
    (λ distinct old_label. fault_here depth at payload from ms old new (DuplicateLabel (at + from)) f some distinct (duplicate (tree_labels f.trees) old_label))
    (subst (λ x. IsFirstRepeated x p) marked first)

-- with one more tree the payload is filled up to that tree's end
pub filled_more : (depth at : ℕ) (payload : List ℕ) (from total : ℕ) (ms next : List Mark) (old new newer : List Row)
    → (f : Filled depth at payload from ms old new) → from < length payload → 0 < total
    → total ≤ length (drop from payload)
    → IsTreeAt depth (at + from) (drop from payload) total ms next new newer
    → Filled depth at payload (from + total) next old newer
filled_more depth at payload from total ms next old new newer f some least fits t =
    let there : drop total (drop from payload) ≡ drop (from + total) payload = drop-drop total from payload in
    let place : at + from ≡ at + length (trees_bytes f.trees) = omega (arith, f.size) in
    let l : length (trees_bytes f.trees ++ tree_bytes t.tree) ≡ length (trees_bytes f.trees) + length (tree_bytes t.tree) =
    length-append (trees_bytes f.trees) (tree_bytes t.tree) in
    let p : length (trees_bytes (push_tree f.trees t.tree)) ≡ length (trees_bytes f.trees ++ tree_bytes t.tree) =
    ap length (spelled-push f.trees t.tree) in
    let n : length new ≡ length old + trees_count f.trees =
    ap length f.added ∙ length-append old (rows_all at depth (length old) f.trees)
    ∙ ap (λ k. length old + k) (length-rows_all f.trees at depth (length old)) in
    let stand : Stand (ms ++ own_marks (at + from) (tree_label t.tree)) (tree_labels f.trees ++ tree_label t.tree ∷ []) (at + (from + total)) =
    stand_more ms (tree_labels f.trees) (at + from) f.stand (tree_label t.tree) (at + (from + total))
    (omega (arith, least)) in
    record {
      trees = push_tree f.trees t.tree;
      legal = legal-push depth f.trees t.tree f.legal t.legal;
      inside = omega (arith, fits, length-drop from payload, f.inside);
      bytes = f.bytes ∙ ap (λ (x : List ℕ). trees_bytes f.trees ++ x) (t.bytes ∙ ap (λ (x : List ℕ). tree_bytes t.tree ++ x) there) ∙ sym (append_assoc (trees_bytes f.trees) (tree_bytes t.tree) (drop (from + total) payload))
          ∙ ap (λ (x : List ℕ). x ++ drop (from + total) payload) (sym (spelled-push f.trees t.tree));
      size = omega (arith, f.size, t.size, l, p);
      stand =
          subst (λ x. Stand next x (at + (from + total))) (sym (labels-push f.trees t.tree))
          (subst (λ x. Stand x (tree_labels f.trees ++ tree_label t.tree ∷ []) (at + (from + total))) (sym t.marked) stand);
      twice =
          λ q first. twice_here depth at payload from ms next old new (tree_label t.tree) q f some t.marked t.duplicate first;
      added = t.added ∙ ap (λ (x : List Row). x ++ rows (at + from) depth (length new) t.tree) f.added ∙ ap (λ k. (old ++ rows_all at depth (length old) f.trees) ++ rows k depth (length new) t.tree) place
          ∙ ap
          (λ k. (old ++ rows_all at depth (length old) f.trees) ++ rows (at + length (trees_bytes f.trees)) depth k t.tree)
          n
          ∙ append_assoc old (rows_all at depth (length old) f.trees)
          (rows (at + length (trees_bytes f.trees)) depth (length old + trees_count f.trees) t.tree)
          ∙ ap (λ (x : List Row). old ++ x) (sym (rows-push f.trees t.tree at depth (length old)));
    }

-- a payload that is filled to its end, with no label twice, is trees
pub filled_all : (depth at : ℕ) (payload : List ℕ) (from : ℕ) (ms : List Mark) (old new : List Row)
    → Filled depth at payload from ms old new → length payload ≤ from → NoneRepeats ms
    → AreTreesIn depth at payload old new
filled_all depth at payload from ms old new f all none_again = record {
  trees = f.trees;
  legal = f.legal;
  distinct = f.stand.distinct none_again;
  added = f.added;
  bytes =
      f.bytes ∙ ap (λ (x : List ℕ). trees_bytes f.trees ++ x) (drop_all from payload all)
      ∙ append-nil (trees_bytes f.trees);
}

-- a fault of the next tree, where no label is there twice, and the first label that is
filled_fault : (depth at : ℕ) (payload : List ℕ) (from : ℕ) (ms next : List Mark) (old new : List Row) (e : JumbfError)
    → Filled depth at payload from ms old new → from < length payload
    → FaultAt depth (at + from) (drop from payload) ms next e → NoneRepeats next → ChildFault depth at payload e
filled_fault depth at payload from ms next old new e f some x none_again =
    let d = none_more ms (tree_labels f.trees) (at + from) f.stand x.label (subst NoneRepeats x.marked none_again) in
    fault_here depth at payload from ms old new e f some d.0 (x.inside (tree_labels f.trees) d.1)

-- where a fault follows, a label that was there before is told in its place
filled_twice :
    (depth at : ℕ) (payload : List ℕ) (from : ℕ) (ms next : List Mark) (old new : List Row) (e : JumbfError) (p : ℕ)
    → Filled depth at payload from ms old new → from < length payload
    → FaultAt depth (at + from) (drop from payload) ms next e → IsFirstRepeated next p
    → ChildFault depth at payload (DuplicateLabel p)
filled_twice depth at payload from ms next old new e p f some x first =
    twice_here depth at payload from ms next old new x.label p f some x.marked x.duplicate first

-- where a fault follows, the one that is answered is a fault of the children
pub filled_first :
    (depth at : ℕ) (payload : List ℕ) (from : ℕ) (ms next : List Mark) (old new : List Row) (e r : JumbfError)
    → Filled depth at payload from ms old new → from < length payload
    → (e ≡ NoMemory) ⊎ FaultAt depth (at + from) (drop from payload) ms next e → IsFirstFault next e r
    → (r ≡ NoMemory) ⊎ ChildFault depth at payload r
filled_first depth at payload from ms next old new e r f some x (IsFirstFault.out_of_memory m is) = inl is
filled_first depth at payload from ms next old new e r f some (inl m) (IsFirstFault.own n is) = inl (is ∙ m)
filled_first depth at payload from ms next old new e r f some (inr x) (IsFirstFault.own n is) =
    inr (subst (ChildFault depth at payload) (sym is) (filled_fault depth at payload from ms next old new e f some x n))
filled_first depth at payload from ms next old new e r f some (inl m) (IsFirstFault.label p other first is) =
    absurd (other m)
filled_first depth at payload from ms next old new e r f some (inr x) (IsFirstFault.label p other first is) =
    inr
    (subst (ChildFault depth at payload) (sym is) (filled_twice depth at payload from ms next old new e p f some x first))
