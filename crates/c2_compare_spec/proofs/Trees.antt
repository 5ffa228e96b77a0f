-- What is seen of a superbox follows from its contents: superboxes with equal contents, in one tree or in
-- two, are seen alike, whichever width their headers have, and so are the manifests that they are.
use Rattle.std.proofs.Common.{◌≡◌, ℕ, ◌+◌, ◌<◌, Bool, true, false, cond, List, [], ◌∷◌, ◌++◌, map, Option, Some, None, length, drop, is_some, codes, slice_get, refl, sym, ap, ◌∙◌, subst, append_assoc}
use Rattle.std.specs.List.{AllZip, filter, find}
use Rattle.std.specs.Option.{option_and_then, option_map}
use Rattle.std.proofs.lemmas.List.{drop-drop, drop_at}
use Rattle.c2_spec.specs.Jumbf.Tree.{Description, description_bytes, Tree, Trees, leaf, super, none, more, tree_bytes, trees_bytes, IsLegalTree, head_len}
use Rattle.c2_spec.specs.Jumbf.Boxes.{AnyBox, node, described, IndexedBox, tree_count, boxes_from, boxes_from_all, boxes_of, box_at, any_uuid, any_label, any_contents, indices_from, children_of, child_indices, IsLegalBox}
use Rattle.c2_spec.specs.C2pa.Manifest.{has_type, is_named, is_superbox, superboxes, inside, claims_in, signature_in, assertion_store_in, manifest_boxes, Superbox, cbor_contents, item_at, superbox_at, Manifest, manifest_at}
use Rattle.c2_spec.proofs.JumbfBoxes.{length-boxes, inner_boxes, own_boxes, box_stands, box_index, box_inside}
use Rattle.c2_spec.proofs.JumbfChildren.{front_box_is, head_of}
use Rattle.c2_spec.proofs.JumbfOneTree.{description_once, trees_once}

-- ---- a tree at an index

-- This tree stands at an index of a tree.
pub record Stands (t : Tree) (i : ℕ) (u : Tree) : Type 0 where
  pub inside : i < tree_count t
  pub box : (box_at t i).box ≡ node u

-- in a legal tree it is legal
pub legal_at : (t : Tree) (i : ℕ) (u : Tree) → IsLegalTree 1 t → Stands t i u
    → IsLegalTree (box_at t i).depth u
legal_at t i u legal s = subst (IsLegalBox (box_at t i).depth) s.box (box_stands t i s.inside legal).legal

-- trees stand side by side, the first of them at an index
abbrev AllStand : Tree → ℕ → Trees → Type 0
AllStand t k none = Unit {0}
AllStand t k (more v vs) = Stands t k v × AllStand t (k + tree_count v) vs

-- by the list of all boxes from that index on
all_stand : (us : Trees) (t : Tree) (at depth k : ℕ) (rest : List IndexedBox)
    → drop k (boxes_of t) ≡ boxes_from_all at depth k us ++ rest → AllStand t k us
all_stand none t at depth k rest e = tt
all_stand (more u us) t at depth k rest e =
    let first : IndexedBox = record { index = k; place = at; depth = depth; box = node u } in
    let next : ℕ = at + length (tree_bytes u) in
    let h : (own : List IndexedBox) × (boxes_from at depth k
    u ≡ record { index = k; place = at; depth = depth; box = node u } ∷ own) =
    head_of u at depth k in
    let whole : drop k (boxes_of t) ≡ boxes_from at depth k
    u ++ (boxes_from_all (at + length (tree_bytes u)) depth (k + tree_count u) us ++ rest) =
    e ∙ append_assoc (boxes_from at depth k u)
    (boxes_from_all (at + length (tree_bytes u)) depth (k + tree_count u) us) rest in
    let f = front_box_is t k first (h.0 ++ (boxes_from_all next depth (k + tree_count u) us ++ rest))
    (whole ∙ ap (λ (x : List IndexedBox). x ++ (boxes_from_all next depth (k + tree_count u) us ++ rest))
    h.1) in
    let behind : drop (k + tree_count u) (boxes_of t) ≡ boxes_from_all (at + length (tree_bytes u)) depth
    (k + tree_count u) us ++ rest =
    sym (drop-drop (tree_count u) k (boxes_of t)) ∙ ap (drop (tree_count u)) whole
    ∙ drop_at (boxes_from at depth k u) (boxes_from_all next depth (k + tree_count u) us ++ rest)
    (tree_count u) (length-boxes u at depth k) in (
      record { inside = f.1; box = ap (λ (b : IndexedBox). b.box) f.0 },
      all_stand us t next depth
          (k + tree_count u) rest behind,
    )

-- What stands in a superbox: first its description, then the further boxes.
record HasInside (t : Tree) (i : ℕ) (d : Description) (us : Trees) : Type 0 where
  pub description : (box_at t (i + 1)).box ≡ described d
  pub kids : AllStand t (i + 2) us
  pub indices : child_indices t i ≡ (i + 1) ∷ indices_from (i + 2) us

-- a superbox that stands at an index has its description and its further boxes behind it
has_inside : (t : Tree) (i : ℕ) (w : Bool) (d : Description) (us : Trees) → Stands t i (super w d us)
    → HasInside t i d us
has_inside t i w d us s = record {
  description = ap (λ (b : IndexedBox). b.box) second;
  kids = all_stand us t (place + length (description_bytes d)) deeper (i + 2) all.0 third;
  indices = ap (children_of i) s.box;
}
  where
    all : (rest : List IndexedBox) × (drop i (boxes_of t) ≡ own_boxes (box_at t i) ++ rest)
    all = box_inside t i s.inside

    place : ℕ
    place = (box_at t i).place + head_len w

    deeper : ℕ
    deeper = (box_at t i).depth + 1

    there : drop i (boxes_of t) ≡ inner_boxes (box_at t i).index (box_at t i).place (box_at t i).depth
        (node (super w d us)) ++ all.0
    there = all.1 ∙ ap (λ b. inner_boxes (box_at t i).index (box_at t i).place (box_at t i).depth b ++ all.0)
        s.box

    second : box_at t (i + 1) ≡ record {
      index = (box_at t i).index + 1;
      place = place;
      depth = deeper;
      box =
          described d;
    }
    second =
        (front_box_is t (i + 1)
        (record { index = (box_at t i).index + 1; place = place; depth = deeper; box = described d })
        (boxes_from_all (place + length (description_bytes d)) deeper ((box_at t i).index + 2) us ++ all.0)
        (sym (drop-drop 1 i (boxes_of t)) ∙ ap (drop 1) there)).0

    third : drop (i + 2) (boxes_of t) ≡ boxes_from_all (place + length (description_bytes d)) deeper (i + 2)
        us ++ all.0
    third =
        sym (drop-drop 2 i (boxes_of t)) ∙ ap (drop 2) there
        ∙ ap (λ n. boxes_from_all (place + length (description_bytes d)) deeper (n + 2) us ++ all.0)
        (box_index t i s.inside)

-- ---- the same tree at two indices

-- One tree stands at an index of a tree, and at an index of another.
pub record SameTree (t u : Tree) (i j : ℕ) : Type 0 where
  pub tree : Tree
  pub first : Stands t i tree
  pub second : Stands u j tree

-- the boxes of one tree at an index of each of two trees are one
same_box : (t u : Tree) (i j : ℕ) → SameTree t u i j → (box_at t i).box ≡ (box_at u j).box
same_box t u i j s = s.first.box ∙ sym s.second.box

-- trees that stand side by side in two trees are the same, one by one
same_trees : (t u : Tree) (us : Trees) (k l : ℕ) → AllStand t k us → AllStand u l us
    → AllZip (SameTree t u) (indices_from k us) (indices_from l us)
same_trees t u none k l h g = tt
same_trees t u (more v vs) k l h g = (
  record { tree = v; first = h.0; second = g.0 },
  same_trees t u vs (k + tree_count v) (l + tree_count v)
      h.1 g.1,
)

-- two lists of the same trees, and one more of each that passes or not
same_more : (t u : Tree) (i j : ℕ) (is js : List ℕ) (b c : Bool) → b ≡ c → SameTree t u i j
    → AllZip (SameTree t u) is js
    → AllZip (SameTree t u) (cond b (i ∷ is) is) (cond c (j ∷ js) js)
same_more t u i j is js true true e one rest = (one, rest)
same_more t u i j is js false false e one rest = rest
same_more t u i j is js true false e one rest = absurd (cc (e))
same_more t u i j is js false true e one rest = absurd (cc (e))

-- of two lists of the same trees, the members that pass a test on boxes are the same trees
same_filtered : (t u : Tree) (p : AnyBox → Bool) (is js : List ℕ) → AllZip (SameTree t u) is js
    → AllZip (SameTree t u) (filter (λ i. p (box_at t i).box) is) (filter (λ j. p (box_at u j).box) js)
same_filtered t u p [] [] h = tt
same_filtered t u p [] (j ∷ js) h = absurd h
same_filtered t u p (i ∷ is) [] h = absurd h
same_filtered t u p (i ∷ is) (j ∷ js) h =
    same_more t u i j (filter (λ k. p (box_at t k).box) is) (filter (λ k. p (box_at u k).box) js)
    (p (box_at t i).box) (p (box_at u j).box)
    (ap p (same_box t u i j h.0)) h.0 (same_filtered t u p is js h.1)

-- boxes at two places that may be missing are both there and the same, or neither is there
abbrev SameOption : Tree → Tree → Option ℕ → Option ℕ → Type 0
SameOption t u None None = Unit {0}
SameOption t u None (Some j) = ⊥
SameOption t u (Some i) None = ⊥
SameOption t u (Some i) (Some j) = SameTree t u i j

-- the first of two lists that passes, by whether the first members do
same_first : (t u : Tree) (i j : ℕ) (o p : Option ℕ) (b c : Bool) → b ≡ c → SameTree t u i j
    → SameOption t u o p
    → SameOption t u (cond b (Some i) o) (cond c (Some j) p)
same_first t u i j o p true true e one rest = one
same_first t u i j o p false false e one rest = rest
same_first t u i j o p true false e one rest = absurd (cc (e))
same_first t u i j o p false true e one rest = absurd (cc (e))

-- the first that passes a test on boxes is the same
same_found : (t u : Tree) (p : AnyBox → Bool) (is js : List ℕ) → AllZip (SameTree t u) is js
    → SameOption t u (find (λ i. p (box_at t i).box) is) (find (λ j. p (box_at u j).box) js)
same_found t u p [] [] h = tt
same_found t u p [] (j ∷ js) h = absurd h
same_found t u p (i ∷ is) [] h = absurd h
same_found t u p (i ∷ is) (j ∷ js) h =
    same_first t u i j (find (λ k. p (box_at t k).box) is) (find (λ k. p (box_at u k).box) js)
    (p (box_at t i).box) (p (box_at u j).box)
    (ap p (same_box t u i j h.0)) h.0 (same_found t u p is js h.1)

-- ---- inside two superboxes with the same description and the same boxes

-- the superboxes of a superbox are among its further boxes
superboxes_are : (t : Tree) (i : ℕ) (d : Description) (us : Trees) → HasInside t i d us
    → superboxes t i ≡ filter (is_superbox t) (indices_from (i + 2) us)
superboxes_are t i d us h =
    ap (filter (is_superbox t)) h.indices
    ∙ ap (λ b. cond b ((i + 1) ∷ filter (is_superbox t) (indices_from (i + 2) us))
    (filter (is_superbox t) (indices_from (i + 2) us)))
    (ap (λ x. is_some (any_uuid x)) h.description)

-- the superboxes of two superboxes with the same boxes are the same
same_superboxes : (t u : Tree) (i j : ℕ) (d : Description) (us : Trees) → HasInside t i d us
    → HasInside u j d us
    → AllZip (SameTree t u) (superboxes t i) (superboxes u j)
same_superboxes t u i j d us h g =
    subst (λ is. AllZip (SameTree t u) is (superboxes u j)) (sym (superboxes_are t i d us h))
    (subst (λ js. AllZip (SameTree t u) (filter (is_superbox t) (indices_from (i + 2) us)) js)
    (sym (superboxes_are u j d us g))
    (same_filtered t u (λ x. is_some (any_uuid x)) (indices_from (i + 2) us) (indices_from (j + 2) us)
    (same_trees t u us (i + 2) (j + 2) h.kids g.kids)))

-- the superboxes of the same trees are the same
same_inner : (t u : Tree) (i j : ℕ) → SameTree t u i j
    → AllZip (SameTree t u) (superboxes t i) (superboxes u j)
same_inner t u i j s = by s.tree s.first s.second
  where
    by : (v : Tree) → Stands t i v → Stands u j v → AllZip (SameTree t u) (superboxes t i) (superboxes u j)
    by (leaf b) p q =
        subst (λ x. AllZip (SameTree t u) (filter (is_superbox t) (children_of i x)) (superboxes u j))
        (sym p.box)
        (subst (λ x. AllZip (SameTree t u) [] (filter (is_superbox u) (children_of j x))) (sym q.box) tt)
    by (super w d us) p q = same_superboxes t u i j d us (has_inside t i w d us p) (has_inside u j w d us q)

-- where such a box may be missing
same_inside : (t u : Tree) (o p : Option ℕ) → SameOption t u o p
    → AllZip (SameTree t u) (inside t o) (inside u p)
same_inside t u None None h = tt
same_inside t u None (Some j) h = absurd h
same_inside t u (Some i) None h = absurd h
same_inside t u (Some i) (Some j) h = same_inner t u i j h

-- ---- what is seen of a superbox

-- the item of a superbox with these further boxes
abbrev first_item : Trees → Option (List ℕ)
first_item none = None
first_item (more v vs) = cbor_contents (node v)

-- what is seen of a superbox with this description and these further boxes
abbrev pub seen_of : Description → Trees → Superbox
seen_of d us =
    record { label = d.label; contents = description_bytes d ++ trees_bytes us; item = first_item us }

-- the item that stands at an index is this
item_is : (t : Tree) (i : ℕ) (d : Description) (us : Trees) → HasInside t i d us → item_at t i ≡ first_item us
item_is t i d us h =
    ap (λ xs. option_and_then (λ j. cbor_contents (box_at t j).box) (slice_get xs 1)) h.indices ∙ by us h.kids
  where
    by : (vs : Trees) → AllStand t (i + 2) vs
        → option_and_then (λ j. cbor_contents (box_at t j).box)
        (slice_get ((i + 1) ∷ indices_from (i + 2) vs) 1) ≡ first_item vs
    by none g = refl
    by (more v vs) g = ap cbor_contents g.0.box

-- the superbox at an index is seen so
pub superbox_is : (t : Tree) (i : ℕ) (w : Bool) (d : Description) (us : Trees) → Stands t i (super w d us)
    → superbox_at t i ≡ seen_of d us
superbox_is t i w d us s =
    ap (λ x. record { label = any_label x; contents = any_contents x; item = item_at t i }) s.box
    ∙ ap (λ (o : Option (List ℕ)).
    record { label = d.label; contents = description_bytes d ++ trees_bytes us; item = o })
    (item_is t i d us (has_inside t i w d us s))

-- a tree that stands in two trees is seen as the same box
same_seen : (t u : Tree) (i j : ℕ) → SameTree t u i j → superbox_at t i ≡ superbox_at u j
same_seen t u i j s = by s.tree s.first s.second
  where
    lone : (v : Tree) (k : ℕ) (b : AnyBox) → (box_at v k).box ≡ b → children_of k b ≡ []
        → superbox_at v k ≡ record { label = any_label b; contents = any_contents b; item = None }
    lone v k b is childless =
        ap (λ x. record { label = any_label x; contents = any_contents x; item = item_at v k }) is
        ∙ ap (λ (o : Option (List ℕ)). record { label = any_label b; contents = any_contents b; item = o })
        (ap (λ xs. option_and_then (λ j. cbor_contents (box_at v j).box) (slice_get xs 1))
        (ap (children_of k) is ∙ childless))

    by : (v : Tree) → Stands t i v → Stands u j v → superbox_at t i ≡ superbox_at u j
    by (leaf b) p q = lone t i (node (leaf b)) p.box refl ∙ sym (lone u j (node (leaf b)) q.box refl)
    by (super w d us) p q = superbox_is t i w d us p ∙ sym (superbox_is u j w d us q)

-- lists of the same trees are seen as the same boxes
all_seen : (t u : Tree) (is js : List ℕ) → AllZip (SameTree t u) is js
    → map (superbox_at t) is ≡ map (superbox_at u) js
all_seen t u [] [] h = refl
all_seen t u [] (j ∷ js) h = absurd h
all_seen t u (i ∷ is) [] h = absurd h
all_seen t u (i ∷ is) (j ∷ js) h =
    ap (λ (b : Superbox). b ∷ map (superbox_at t) is) (same_seen t u i j h.0)
    ∙ ap (λ (bs : List Superbox). superbox_at u j ∷ bs) (all_seen t u is js h.1)

-- trees that are the same, or both missing, are seen as one box
option_seen : (t u : Tree) (o p : Option ℕ) → SameOption t u o p
    → option_map (superbox_at t) o ≡ option_map (superbox_at u) p
option_seen t u None None h = refl
option_seen t u None (Some j) h = absurd h
option_seen t u (Some i) None h = absurd h
option_seen t u (Some i) (Some j) h = ap Some (same_seen t u i j h)

-- ---- manifests

-- a manifest of these parts, written short
abbrev manifest : AnyBox → List Superbox → Option Superbox → List Superbox → Manifest
manifest b claims signature assertions = record {
  label = any_label b;
  contents = any_contents b;
  is_update = has_type (codes "c2um") b;
  claims = claims;
  signature = signature;
  assertions = assertions;
}

-- whether a manifest's header is wide isn't seen
width_unseen : (w v : Bool) (d : Description) (us : Trees) (cs : List Superbox) (s : Option Superbox)
    (xs : List Superbox)
    → manifest (node (super w d us)) cs s xs ≡ manifest (node (super v d us)) cs s xs
width_unseen w v d us cs s xs = refl

-- superboxes with the same description and the same boxes are the same manifest
same_manifest : (t u : Tree) (i j : ℕ) (w v : Bool) (d : Description) (us : Trees) → Stands t i (super w d us)
    → Stands u j (super v d us)
    → manifest_at t (manifest_boxes t i) ≡ manifest_at u (manifest_boxes u j)
same_manifest t u i j w v d us p q =
    ap (λ b. manifest b claims_t signature_t assertions_t) p.box
    ∙ width_unseen w v d us claims_t signature_t assertions_t
    ∙ ap (λ (x : List Superbox). manifest (node (super v d us)) x signature_t assertions_t)
    (all_seen t u (claims_in t (superboxes t i)) (claims_in u (superboxes u j)) claims)
    ∙ ap (λ (x : Option Superbox). manifest (node (super v d us)) claims_u x assertions_t)
    (option_seen t u (signature_in t (superboxes t i)) (signature_in u (superboxes u j)) signature)
    ∙ ap (λ (x : List Superbox). manifest (node (super v d us)) claims_u signature_u x)
    (all_seen t u (inside t (assertion_store_in t (superboxes t i)))
    (inside u (assertion_store_in u (superboxes u j))) assertions)
    ∙ sym (ap (λ b. manifest b claims_u signature_u assertions_u) q.box)
  where
    boxes : AllZip (SameTree t u) (superboxes t i) (superboxes u j)
    boxes = same_superboxes t u i j d us (has_inside t i w d us p) (has_inside u j v d us q)

    claims : AllZip (SameTree t u) (claims_in t (superboxes t i)) (claims_in u (superboxes u j))
    claims = same_filtered t u (has_type (codes "c2cl")) (superboxes t i) (superboxes u j) boxes

    signature : SameOption t u (signature_in t (superboxes t i)) (signature_in u (superboxes u j))
    signature =
        same_found t u (is_named (codes "c2cs") (codes "c2pa.signature")) (superboxes t i) (superboxes u j)
        boxes

    assertions : AllZip (SameTree t u) (inside t (assertion_store_in t (superboxes t i)))
        (inside u (assertion_store_in u (superboxes u j)))
    assertions =
        same_inside t u (assertion_store_in t (superboxes t i)) (assertion_store_in u (superboxes u j))
        (same_found t u (is_named (codes "c2as") (codes "c2pa.assertions")) (superboxes t i) (superboxes u j)
        boxes)

    claims_t : List Superbox
    claims_t = map (superbox_at t) (claims_in t (superboxes t i))

    claims_u : List Superbox
    claims_u = map (superbox_at u) (claims_in u (superboxes u j))

    signature_t : Option Superbox
    signature_t = option_map (superbox_at t) (signature_in t (superboxes t i))

    signature_u : Option Superbox
    signature_u = option_map (superbox_at u) (signature_in u (superboxes u j))

    assertions_t : List Superbox
    assertions_t = map (superbox_at t) (inside t (assertion_store_in t (superboxes t i)))

    assertions_u : List Superbox
    assertions_u = map (superbox_at u) (inside u (assertion_store_in u (superboxes u j)))

-- ---- equal contents

-- A superbox stands at an index.
pub record StandsSuper (t : Tree) (i : ℕ) : Type 0 where
  pub wide : Bool
  pub description : Description
  pub kids : Trees
  pub stands : Stands t i (super wide description kids)

-- a box that counts as a superbox is one
pub is_super : (t : Tree) (i : ℕ) → i < tree_count t → is_superbox t i ≡ true → StandsSuper t i
is_super t i lt e = by (box_at t i).box refl
  where
    by : (b : AnyBox) → (box_at t i).box ≡ b → StandsSuper t i
    by (node (leaf b)) is = absurd (let bad = sym e ∙ ap (λ x. is_some (any_uuid x)) is in cc (bad))
    by (node (super w d us)) is =
        record { wide = w; description = d; kids = us; stands = record { inside = lt; box = is } }
    by (described d) is = absurd (let bad = sym e ∙ ap (λ x. is_some (any_uuid x)) is in cc (bad))

-- superboxes with equal contents have one description and the same boxes
pub one_inside : (t u : Tree) (i j : ℕ) → IsLegalTree 1 t → IsLegalTree 1 u
    → (p : StandsSuper t i) (q : StandsSuper u j)
    → any_contents (box_at t i).box ≡ any_contents (box_at u j).box
    → (p.description ≡ q.description) × (p.kids ≡ q.kids)
one_inside t u i j legal legal' p q e =
    let h = legal_at t i (super p.wide p.description p.kids) legal p.stands in
    let k = legal_at u j (super q.wide q.description q.kids) legal' q.stands in
    let bytes : description_bytes p.description ++ trees_bytes p.kids ≡ description_bytes
    q.description ++ trees_bytes q.kids =
    sym (ap any_contents p.stands.box) ∙ e ∙ ap any_contents q.stands.box in
    let r = description_once p.description q.description (trees_bytes p.kids) (trees_bytes q.kids) h.1 k.1
    bytes in
    (r.0, trees_once p.kids q.kids ((box_at t i).depth + 1) ((box_at u j).depth + 1) h.3 k.3 r.1)

-- superboxes with equal contents are seen alike
pub contents_seen : (t u : Tree) (i j : ℕ) → IsLegalTree 1 t → IsLegalTree 1 u → StandsSuper t i
    → StandsSuper u j
    → any_contents (box_at t i).box ≡ any_contents (box_at u j).box → superbox_at t i ≡ superbox_at u j
contents_seen t u i j legal legal' p q e =
    let r = one_inside t u i j legal legal' p q e in
    superbox_is t i p.wide p.description p.kids p.stands
    ∙ ap (λ d. seen_of d p.kids) r.0 ∙ ap (seen_of q.description) r.1
    ∙ sym (superbox_is u j q.wide q.description q.kids q.stands)

-- boxes with the same contents are the same manifest
pub contents_manifest : (t u : Tree) (i j : ℕ) → IsLegalTree 1 t → IsLegalTree 1 u → StandsSuper t i
    → StandsSuper u j
    → any_contents (box_at t i).box ≡ any_contents (box_at u j).box
    → manifest_at t (manifest_boxes t i) ≡ manifest_at u (manifest_boxes u j)
contents_manifest t u i j legal legal' p q e =
    let r = one_inside t u i j legal legal' p q e in
    same_manifest t u i j p.wide q.wide q.description q.kids
    (subst (λ us. Stands t i (super p.wide q.description us)) r.1
    (subst (λ d. Stands t i (super p.wide d p.kids)) r.0 p.stands)) q.stands
