-- Boxes by their heads, once they are read whole.
use Rattle.std.proofs.Common.{◌≡◌, ◌≢◌, ℕ, ◌+◌, ◌-◌, ◌^◌, ◌<◌, ◌≤◌, List, [], ◌∷◌, ◌++◌, length, get_or, take, drop, set, refl, sym, ap, ◌∙◌, subst, append_assoc, arith, length-append}
use Rattle.std.proofs.lemmas.List.{length-drop, drop-take, set_at, length-take-le, get_or_at, append-nil}
use Rattle.c2_spec.specs.declared.kinds.TheConstants.{JUMB}
use Rattle.c2_spec.specs.declared.jumbf.JumbfError.{JumbfError}
use Rattle.c2_spec.specs.Jumbf.Tree.{Description, Tree, leaf, super, tree_bytes, trees_bytes, description_bytes, tree_labels, FitsHead, head_len, boxed}
use Rattle.c2_spec.specs.Jumbf.Faults.{tells_wide, told_kind, told_total, told_payload, TreeFault, OpensSuperbox}
use Rattle.c2_spec.specs.Jumbf.Boxes.{trees_count}
use Rattle.c2_jumbf.specs.declared.rows.Row.{Row}
use Rattle.c2_jumbf.specs.declared.front.Front.{Front}
use Rattle.c2_jumbf.specs.Heads.{IsHead}
use Rattle.c2_jumbf.specs.Labels.{Mark}
use Rattle.c2_jumbf.specs.Flat.{rows, rows_all, IsTreeAt, AreTreesIn, ChildFault, FaultAt, Opened}
use Rattle.c2_jumbf.proofs.HeadLaws.{front_fits, front_whole}
use Rattle.c2_lemmas.proofs.Bytes.{AreBytes}
use Rattle.c2_jumbf.proofs.Trees.{length-rows_all}

-- the length that a header states is that of the tree there
total_size : (region : List ℕ) (h : Front) (t : Tree) → IsHead region h → region ≡ tree_bytes t ++ drop h.total region
    → h.total ≡ length (tree_bytes t)
total_size region h t k e =
    let sizes : length region ≡ length (tree_bytes t) + length (drop h.total region) =
    ap length e ∙ length-append (tree_bytes t) (drop h.total region) in
    omega (arith, sizes, length-drop h.total region, k.inside)

-- A box that is no superbox.
pub leaf_tree : (region : List ℕ) (h : Front) (ms : List Mark) (depth at : ℕ) (old : List Row) → AreBytes region
    → length region < 2 ^ 64 → IsHead region h → h.kind ≢ JUMB
    → IsTreeAt depth at region h.total ms ms old (old ++ record { place = at; total = h.total; after = length old + 1; header = h.header; depth = depth } ∷ [])
leaf_tree region h ms depth at old bytes small k other =
    let t : Tree = leaf (record { kind = told_kind region; wide = tells_wide region; payload = told_payload region }) in
    let whole : region ≡ tree_bytes t ++ drop h.total region = front_whole region h bytes k in
    let size : h.total ≡ length (tree_bytes t) = total_size region h t k whole in
    record {
      tree = t;
      legal = (front_fits region h bytes small k, λ e. other (k.kind ∙ e));
      bytes = whole;
      size = size;
      marked = sym (append-nil ms);
      duplicate = λ earlier never. absurd (never tt);
      added = ap (λ n. old ++ record { place = at; total = h.total; after = length old + 1; header = n; depth = depth } ∷ []) k.header
          ∙ ap (λ n. old ++ record { place = at; total = n; after = length old + 1; header = head_len (tells_wide region); depth = depth } ∷ []) size;
    }

-- The part of the payload behind the description.
children_are : (region : List ℕ) (h : Front) (from : ℕ) → h.header + from ≤ h.total
    → drop (h.header + from) (take h.total region) ≡ take (h.total - (h.header + from)) (drop (h.header + from) region)
children_are region h from le =
    let e : h.total ≡ h.header + from + (h.total - (h.header + from)) = omega arith in
    ap (λ n. drop (h.header + from) (take n region)) e
    ∙ drop-take (h.header + from) (h.total - (h.header + from)) region

-- A superbox, once its children are read.
pub super_tree : (region : List ℕ) (h : Front) (before after : List Mark) (depth at from : ℕ) (old mid new : List Row)
    → AreBytes region → length region < 2 ^ 64 → IsHead region h → h.kind ≡ JUMB
    → Opened depth at region h before after old mid from
    → AreTreesIn (depth + 1) (at + h.header + from) (take (h.total - (h.header + from)) (drop (h.header + from) region)) mid new
    → IsTreeAt depth at region h.total before after old (set new (length old) (record { place = at; total = h.total; after = length new; header = h.header; depth = depth }))
super_tree region h before after depth at from old mid new bytes small k kind o t =
    record {
      tree = tree;
      legal = (o.deep, o.legal, fits, t.legal, t.distinct);
      bytes = whole;
      size = size;
      marked = o.marked;
      duplicate = o.duplicate;
      added = written;
    }
  where
    d : Description
    d = o.description

    tree : Tree
    tree = super (tells_wide region) d t.trees

    content : told_payload region ≡ description_bytes d ++ trees_bytes t.trees
    content = o.bytes ∙ ap (λ (x : List ℕ). description_bytes d ++ x) (children_are region h from o.inside ∙ t.bytes)

    fits : FitsHead JUMB (tells_wide region) (length (description_bytes d ++ trees_bytes t.trees))
    fits =
        subst (λ (x : List ℕ). FitsHead JUMB (tells_wide region) (length x)) content
        (subst (λ n. FitsHead n (tells_wide region) (length (told_payload region))) (sym k.kind ∙ kind) (front_fits region h bytes small k))

    whole : region ≡ tree_bytes tree ++ drop h.total region
    whole =
        front_whole region h bytes k
        ∙ ap (λ n. boxed n (tells_wide region) (told_payload region) ++ drop h.total region) (sym k.kind ∙ kind)
        ∙ ap (λ (x : List ℕ). boxed JUMB (tells_wide region) x ++ drop h.total region) content

    size : h.total ≡ length (tree_bytes tree)
    size = total_size region h tree k whole

    own : ℕ → ℕ → ℕ → Row
    own header total after = record { place = at; total = total; after = after; header = header; depth = depth }

    second : ℕ → ℕ → Row
    second header total =
        record
        { place = at + header; total = total; after = length old + 1 + 1; header = head_len d.wide; depth = depth + 1 }

    below : List Row
    below = rows_all (at + h.header + from) (depth + 1) (length mid) t.trees

    spread : new ≡ old ++ own h.header h.total (length old) ∷ second h.header from ∷ below
    spread =
        t.added ∙ ap (λ (x : List Row). x ++ below) o.added
        ∙ append_assoc old (own h.header h.total (length old) ∷ second h.header from ∷ []) below

    mid_length : length mid ≡ length old + 2
    mid_length = ap length o.added ∙ length-append old (own h.header h.total (length old) ∷ second h.header from ∷ [])

    new_length : length new ≡ length old + (2 + trees_count t.trees)
    new_length = let a : length new ≡ length mid + length below = ap length t.added ∙ length-append mid below in omega (arith, a, mid_length, length-rows_all t.trees (at + h.header + from) (depth + 1) (length mid))

    written : set new (length old) (own h.header h.total (length new)) ≡ old ++ rows at depth (length old) tree
    written = ap (λ (x : List Row). set x (length old) (own h.header h.total (length new))) spread
        ∙ set_at old (own h.header h.total (length old)) (second h.header from ∷ below)
        (own h.header h.total (length new)) (length old) refl
        ∙ ap (λ n. old ++ own h.header h.total n ∷ second h.header from ∷ below) new_length
        ∙ ap (λ n. old ++ own h.header n (length old + (2 + trees_count t.trees)) ∷ second h.header from ∷ below) size
        ∙ ap
        (λ n. old ++ own h.header (length (tree_bytes tree)) (length old + (2 + trees_count t.trees)) ∷ second h.header n ∷ rows_all (at + h.header + n) (depth + 1) (length mid) t.trees)
        o.size
        ∙ ap
        (λ n. old ++ own n (length (tree_bytes tree)) (length old + (2 + trees_count t.trees)) ∷ second n (length (description_bytes d)) ∷ rows_all (at + n + length (description_bytes d)) (depth + 1) (length mid) t.trees)
        k.header
        ∙ ap (λ n. old ++ own (head_len (tells_wide region)) (length (tree_bytes tree))
        (length old + (2 + trees_count t.trees)) ∷ second (head_len (tells_wide region)) (length (description_bytes d))
        ∷ rows_all (at + head_len (tells_wide region) + length (description_bytes d)) (depth + 1) n t.trees) mid_length

-- A fault among the children is a fault of the superbox.
pub super_fault :
    (region : List ℕ) (h : Front) (before after : List Mark) (depth at from : ℕ) (old mid : List Row) (e : JumbfError)
    → IsHead region h → h.kind ≡ JUMB
    → Opened depth at region h before after old mid from
    → ChildFault (depth + 1) (at + h.header + from) (take (h.total - (h.header + from)) (drop (h.header + from) region)) e
    → FaultAt depth at region before after e
super_fault region h before after depth at from old mid e k kind o f =
    let n : length (take (h.total - (h.header + from)) (drop (h.header + from) region)) ≡ h.total - (h.header + from) =
    length-take-le _ _ (omega (arith, length-drop (h.header + from) region, k.inside)) in
    let split : length (take (h.total - (h.header + from)) (drop (h.header + from) region)) ≡ length (trees_bytes f.trees) + length f.rest =
    ap length f.bytes ∙ length-append (trees_bytes f.trees) f.rest in
    let place : at + h.header + from + length (take (h.total - (h.header + from)) (drop (h.header + from) region)) - length f.rest ≡ at + told_total region - length f.rest =
    omega (arith, n, split, o.inside, k.total) in
    let fails : TreeFault (tree_labels f.trees) (depth + 1) (at + told_total region - length f.rest) f.rest e =
    subst (λ p. TreeFault (tree_labels f.trees) (depth + 1) p f.rest e) place f.fails in
    let children = children_are region h from o.inside ∙ f.bytes in
    let opens : OpensSuperbox depth region o.description (trees_bytes f.trees ++ f.rest) = record {
      superbox = record { head = k.good; kind = sym k.kind ∙ kind; deep = o.deep };
      description = o.legal;
      payload = o.bytes ∙ ap (λ (x : List ℕ). description_bytes o.description ++ x) children;
    } in
    record
    { label = o.description.label; marked = o.marked; inside = λ earlier new. TreeFault.inside o.description f.trees f.rest opens new f.legal f.distinct f.some fails; duplicate = o.duplicate }

-- A superbox whose record the code has written is a tree.
pub super_written :
    (region : List ℕ) (h : Front) (before after : List Mark) (depth at from : ℕ) (old mid new : List Row) (x : Row)
    (i n : ℕ)
    → AreBytes region → length region < 2 ^ 64 → IsHead region h → h.kind ≡ JUMB
    → Opened depth at region h before after old mid from
    → AreTreesIn (depth + 1) (at + h.header + from) (take (h.total - (h.header + from)) (drop (h.header + from) region)) mid new
    → x ≡ get_or new i x → i ≡ length old → n ≡ length new
    → IsTreeAt depth at region h.total before after old (set new i (record { place = x.place; total = x.total; after = n; header = x.header; depth = x.depth }))
super_written region h before after depth at from old mid new x i n bytes small k kind o t read index size =
    subst (λ r. IsTreeAt depth at region h.total before after old r) (sym same)
    (super_tree region h before after depth at from old mid new bytes small k kind o t)
  where
    own : Row
    own = record { place = at; total = h.total; after = length old; header = h.header; depth = depth }

    rest : List Row
    rest =
        record
        { place = at + h.header; total = from; after = length old + 1 + 1; header = head_len o.description.wide; depth = depth + 1 }
        ∷ rows_all (at + h.header + from) (depth + 1) (length mid) t.trees

    spread : new ≡ old ++ own ∷ rest
    spread = t.added ∙ ap (λ (y : List Row). y ++ rows_all (at + h.header + from) (depth + 1) (length mid) t.trees)
        o.added ∙ append_assoc old (own ∷ record {
          place = at + h.header;
          total = from;
          after = length old + 1 + 1;
          header = head_len o.description.wide;
          depth = depth + 1;
        } ∷ [])
        (rows_all (at + h.header + from) (depth + 1) (length mid) t.trees)

    is : x ≡ own
    is =
        read ∙ ap (λ j. get_or new j x) index ∙ ap (λ (y : List Row). get_or y (length old) x) spread
        ∙ get_or_at old own rest x (length old) refl

    same : set new i (record { place = x.place; total = x.total; after = n; header = x.header; depth = x.depth }) ≡ set
        new (length old) (record { place = at; total = h.total; after = length new; header = h.header; depth = depth })
    same = ap (λ j. set new j (record { place = x.place; total = x.total; after = n; header = x.header; depth = x.depth })) index
        ∙ ap
        (λ (y : Row). set new (length old) (record { place = y.place; total = y.total; after = n; header = y.header; depth = y.depth }))
        is
        ∙ ap
        (λ j. set new (length old) (record { place = at; total = h.total; after = j; header = h.header; depth = depth }))
        size

-- A leaf with the record as the code pushes it.
pub leaf_pushed : (region : List ℕ) (h : Front) (ms : List Mark) (depth at i : ℕ) (old new : List Row) → AreBytes region
    → length region < 2 ^ 64 → IsHead region h → h.kind ≢ JUMB
    → new ≡ old ++ record { place = at; total = h.total; after = i + 1; header = h.header; depth = depth } ∷ []
    → i ≡ length old → IsTreeAt depth at region h.total ms ms old new
leaf_pushed region h ms depth at i old new bytes small k other pushed index =
    subst (λ r. IsTreeAt depth at region h.total ms ms old r)
    (sym (pushed ∙ ap (λ j. old ++ record { place = at; total = h.total; after = j + 1; header = h.header; depth = depth } ∷ []) index))
    (leaf_tree region h ms depth at old bytes small k other)
