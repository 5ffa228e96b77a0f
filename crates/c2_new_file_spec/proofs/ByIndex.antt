-- The boxes of a tree by their indices, and the boxes themselves: both tell the same manifests.
use Rattle.std.proofs.Common.{◌≡◌, ℕ, zero, suc, ◌+◌, Bool, true, false, cond, List, [], ◌∷◌, ◌++◌, length, drop, get_or, map, Option, Some, None, slice_get, refl, sym, ap, ◌∙◌, subst, arith, append_assoc, length-append, codes}
use Rattle.std.specs.Prelude.{⊤, filter, find, is_some, option_map, option_and_then}
use Rattle.std.proofs.lemmas.List.{get_or-drop, drop-drop, drop_at, append-nil}
use Rattle.std.proofs.lemmas.Option.{same_Some}
use Rattle.c2_spec.specs.Jumbf.Tree.{Description, Tree, Trees, leaf, super, none, more, tree_bytes, head_len, description_bytes}
use Rattle.c2_spec.specs.Jumbf.Boxes.{AnyBox, IndexedBox, node, described, tree_count, trees_count, boxes_from, boxes_from_all, boxes_of, box_at, child_indices, children_of, indices_from, any_uuid, any_label, any_contents}
use Rattle.c2_spec.specs.C2pa.Manifest.{Superbox, has_type, is_named, is_superbox, superboxes, inside, claims_in, signature_in, assertion_store_in, manifest_boxes, cbor_contents, item_at, superbox_at, manifest_at, manifests_of}
use Rattle.c2_new_file_spec.specs.Manifests.{trees_list, supers_in, supers_of, item_of, superbox_of, supers_inside, is_claim_box, is_signature_box, is_assertion_store, manifest_of, tree_manifests}

-- ---- where a box stands

-- from its index on, the boxes of t begin with those of s
pub record At (t : Tree) (i : ℕ) (s : Tree) : Type 0 where
  pub at : ℕ
  pub depth : ℕ
  pub rest : List IndexedBox
  pub is : drop i (boxes_of t) ≡ boxes_from at depth i s ++ rest

pub record AllAt (t : Tree) (i : ℕ) (ss : Trees) : Type 0 where
  pub at : ℕ
  pub depth : ℕ
  pub rest : List IndexedBox
  pub is : drop i (boxes_of t) ≡ boxes_from_all at depth i ss ++ rest

mutual
  count : (s : Tree) (at depth i : ℕ) → length (boxes_from at depth i s) ≡ tree_count s
  count (leaf b) at depth i = refl
  count (super wide d us) at depth i = let n = count_all us (at + head_len wide + length (description_bytes d)) (depth + 1) (i + 2) in omega arith

  count_all : (ss : Trees) (at depth i : ℕ) → length (boxes_from_all at depth i ss) ≡ trees_count ss
  count_all none at depth i = refl
  count_all (more s ss) at depth i =
      let n = count s at depth i in
      let m = count_all ss (at + length (tree_bytes s)) depth (i + tree_count s) in
      omega
      (arith, n, m, length-append (boxes_from at depth i s) (boxes_from_all (at + length (tree_bytes s)) depth (i + tree_count s) ss))

-- the box of an index, from what stands there
box_here : (t : Tree) (i : ℕ) (b : IndexedBox) (bs : List IndexedBox) → drop i (boxes_of t) ≡ b ∷ bs → box_at t i ≡ b
box_here t i b bs e =
    let d : IndexedBox = record { index = 0; place = 0; depth = 1; box = node t } in
    let none_more : i + 0 ≡ i = omega arith in
    ap (λ n. get_or (boxes_of t) n d) (sym none_more) ∙ sym (get_or-drop i (boxes_of t) 0 d)
    ∙ ap (λ (x : List IndexedBox). get_or x 0 d) e

-- the box with an index is that of the tree that stands there
pub at_box : (t : Tree) (i : ℕ) (s : Tree) → At t i s → (box_at t i).box ≡ node s
at_box t i (leaf b) h = ap (λ (x : IndexedBox). x.box) (box_here t i _ h.rest h.is)
at_box t i (super wide d us) h =
    ap (λ (x : IndexedBox). x.box)
    (box_here t i _ (record { index = i + 1; place = h.at + head_len wide; depth = h.depth + 1; box = described d } ∷ boxes_from_all (h.at + head_len wide + length (description_bytes d)) (h.depth + 1) (i + 2) us ++ h.rest) h.is)

-- a tree stands in itself at index 0
pub at_root : (t : Tree) → At t 0 t
at_root t = record { at = 0; depth = 1; rest = []; is = sym (append-nil (boxes_of t)) }

-- the description box, and the boxes behind it
at_own : (t : Tree) (i : ℕ) (wide : Bool) (d : Description) (us : Trees) → At t i (super wide d us)
    → (box_at t (i + 1)).box ≡ described d
at_own t i wide d us h =
    ap (λ (x : IndexedBox). x.box) (box_here t (i + 1) (record { index = i + 1; place = h.at + head_len wide; depth = h.depth + 1; box = described d }) (boxes_from_all (h.at + head_len wide + length (description_bytes d)) (h.depth + 1) (i + 2) us ++ h.rest)
    (sym (drop-drop 1 i (boxes_of t)) ∙ ap (drop 1) h.is))

-- the boxes in a superbox stand behind its own box and its description
at_boxes : (t : Tree) (i : ℕ) (wide : Bool) (d : Description) (us : Trees) → At t i (super wide d us)
    → AllAt t (i + 2) us
at_boxes t i wide d us h =
    record
    { at = h.at + head_len wide + length (description_bytes d); depth = h.depth + 1; rest = h.rest; is = sym (drop-drop 2 i (boxes_of t)) ∙ ap (drop 2) h.is }

-- of boxes that stand side by side, the first stands at their index
at_first : (t : Tree) (i : ℕ) (s : Tree) (ss : Trees) → AllAt t i (more s ss) → At t i s
at_first t i s ss h = record {
  at = h.at;
  depth = h.depth;
  rest = boxes_from_all (h.at + length (tree_bytes s)) h.depth (i + tree_count s) ss ++ h.rest;
  is =
      h.is
      ∙ append_assoc (boxes_from h.at h.depth i s)
      (boxes_from_all (h.at + length (tree_bytes s)) h.depth (i + tree_count s) ss) h.rest;
}

-- of boxes that stand side by side, the others stand behind the first, by as many indices as it has boxes
at_next : (t : Tree) (i : ℕ) (s : Tree) (ss : Trees) → AllAt t i (more s ss) → AllAt t (i + tree_count s) ss
at_next t i s ss h =
    let own : List IndexedBox = boxes_from h.at h.depth i s in
    let others : List IndexedBox = boxes_from_all (h.at + length (tree_bytes s)) h.depth (i + tree_count s) ss in
    record {
      at = h.at + length (tree_bytes s);
      depth = h.depth;
      rest = h.rest;
      is =
          sym (drop-drop (tree_count s) i (boxes_of t))
          ∙ ap (drop (tree_count s)) (h.is ∙ append_assoc own others h.rest)
          ∙ drop_at own (others ++ h.rest) (tree_count s) (count s h.at h.depth i);
    }

-- ---- lists of indices, and of boxes

-- each index is that of the box at its place
unfoldable pub Both : Tree → List ℕ → List Tree → Type 0
Both t [] [] = ⊤
Both t [] (s ∷ ss) = ⊥
Both t (i ∷ is) [] = ⊥
Both t (i ∷ is) (s ∷ ss) = At t i s × Both t is ss

-- the indices of boxes that stand side by side are those of the boxes, one by one
both_all : (t : Tree) (i : ℕ) (ss : Trees) → AllAt t i ss → Both t (indices_from i ss) (trees_list ss)
unfolding Both
both_all t i none h = tt
both_all t i (more s ss) h = (at_first t i s ss h, both_all t (i + tree_count s) ss (at_next t i s ss h))

-- an index and its box both go in front of such lists, or neither does
both_cond : (t : Tree) (b c : Bool) (i : ℕ) (s : Tree) (is : List ℕ) (ss : List Tree) → b ≡ c → At t i s → Both t is ss
    → Both t (cond b (i ∷ is) is) (cond c (s ∷ ss) ss)
unfolding Both
both_cond t true true i s is ss e h k = (h, k)
both_cond t true false i s is ss e h k = absurd (cc (e))
both_cond t false true i s is ss e h k = absurd (cc (e))
both_cond t false false i s is ss e h k = k

-- the indices whose boxes pass a test are those of the boxes that pass it
both_filter : (t : Tree) (p : AnyBox → Bool) (is : List ℕ) (ss : List Tree) → Both t is ss
    → Both t (filter (λ i. p (box_at t i).box) is) (filter (λ s. p (node s)) ss)
unfolding Both
both_filter t p [] [] h = tt
both_filter t p [] (s ∷ ss) h = absurd h
both_filter t p (i ∷ is) [] h = absurd h
both_filter t p (i ∷ is) (s ∷ ss) h =
    both_cond t (p (box_at t i).box) (p (node s)) i s _ _ (ap p (at_box t i s h.0)) h.0 (both_filter t p is ss h.1)

-- what is made of each index is what is made of its box, where it is so for every box that stands at an index
pub both_map : {B : Type 0} (t : Tree) (f : ℕ → B) (g : Tree → B) (is : List ℕ) (ss : List Tree)
    → ((i : ℕ) (s : Tree) → At t i s → f i ≡ g s) → Both t is ss → map f is ≡ map g ss
unfolding Both
both_map t f g [] [] same h = refl
both_map t f g [] (s ∷ ss) same h = absurd h
both_map t f g (i ∷ is) [] same h = absurd h
both_map t f g (i ∷ is) (s ∷ ss) same h =
    ap (λ x. x ∷ map f is) (same i s h.0) ∙ ap (λ (xs : List _). g s ∷ xs) (both_map t f g is ss same h.1)

-- an index that may be there, and a box
BothMaybe : Tree → Option ℕ → Option Tree → Type 0
BothMaybe t None None = ⊤
BothMaybe t None (Some s) = ⊥
BothMaybe t (Some i) None = ⊥
BothMaybe t (Some i) (Some s) = At t i s

-- an index and its box are both chosen, or neither is
maybe_cond : (t : Tree) (b c : Bool) (i : ℕ) (s : Tree) (o : Option ℕ) (p : Option Tree) → b ≡ c → At t i s
    → BothMaybe t o p → BothMaybe t (cond b (Some i) o) (cond c (Some s) p)
unfolding BothMaybe
maybe_cond t true true i s o p e h k = h
maybe_cond t true false i s o p e h k = absurd (cc (e))
maybe_cond t false true i s o p e h k = absurd (cc (e))
maybe_cond t false false i s o p e h k = k

-- the first index whose box passes a test is that of the first box that passes it
both_find : (t : Tree) (p : AnyBox → Bool) (is : List ℕ) (ss : List Tree) → Both t is ss
    → BothMaybe t (find (λ i. p (box_at t i).box) is) (find (λ s. p (node s)) ss)
unfolding Both BothMaybe
both_find t p [] [] h = tt
both_find t p [] (s ∷ ss) h = absurd h
both_find t p (i ∷ is) [] h = absurd h
both_find t p (i ∷ is) (s ∷ ss) h =
    maybe_cond t (p (box_at t i).box) (p (node s)) i s _ _ (ap p (at_box t i s h.0)) h.0 (both_find t p is ss h.1)

-- ---- what is read of a box

-- the indices of the children of a box that stands at an index are told by the box
children_are : (t : Tree) (i : ℕ) (s : Tree) → At t i s → child_indices t i ≡ children_of i (node s)
children_are t i s h = ap (children_of i) (at_box t i s h)

-- no indices are those of no boxes
both_nothing : (t : Tree) → Both t [] []
unfolding Both
both_nothing t = tt

-- the indices of the superboxes in a box are those of the superboxes in its tree
supers_are : (t : Tree) (i : ℕ) (s : Tree) → At t i s → Both t (superboxes t i) (supers_of s)
supers_are t i (leaf b) h =
    subst (λ (x : List ℕ). Both t (filter (is_superbox t) x) []) (sym (children_are t i (leaf b) h)) (both_nothing t)
supers_are t i (super wide d us) h =
    let own : is_superbox t (i + 1) ≡ false = ap (λ (x : AnyBox). is_some (any_uuid x)) (at_own t i wide d us h) in
    subst (λ (x : List ℕ). Both t (filter (is_superbox t) x) (supers_in us))
    (sym (children_are t i (super wide d us) h))
    (subst (λ b. Both t (cond b ((i + 1) ∷ filter (is_superbox t) (indices_from (i + 2) us)) (filter (is_superbox t) (indices_from (i + 2) us))) (supers_in us)) (sym own)
    (both_filter t (λ b. is_some (any_uuid b)) (indices_from (i + 2) us) (trees_list us) (both_all t (i + 2) us (at_boxes t i wide d us h))))

-- the item of a box by its index is that of its tree
item_is : (t : Tree) (i : ℕ) (s : Tree) → At t i s → item_at t i ≡ item_of s
item_is t i (leaf b) h =
    ap (λ (x : List ℕ). option_and_then (λ j. cbor_contents (box_at t j).box) (slice_get x 1))
    (children_are t i (leaf b) h)
item_is t i (super wide d none) h =
    ap (λ (x : List ℕ). option_and_then (λ j. cbor_contents (box_at t j).box) (slice_get x 1))
    (children_are t i (super wide d none) h)
item_is t i (super wide d (more u us)) h =
    ap (λ (x : List ℕ). option_and_then (λ j. cbor_contents (box_at t j).box) (slice_get x 1))
    (children_are t i (super wide d (more u us)) h)
    ∙ ap cbor_contents (at_box t (i + 2) u (at_first t (i + 2) u us (at_boxes t i wide d (more u us) h)))

-- a box by its index is what the rules see of its tree
pub boxed_is : (t : Tree) (i : ℕ) (s : Tree) → At t i s → superbox_at t i ≡ superbox_of s
boxed_is t i s h =
    ap (λ (b : AnyBox). record { label = any_label b; contents = any_contents b; item = item_at t i }) (at_box t i s h)
    ∙ ap (λ (x : Option (List ℕ)). record { label = any_label (node s); contents = any_contents (node s); item = x })
    (item_is t i s h)

-- a box by its index, which may be there, is what the rules see of its tree
maybe_boxed : (t : Tree) (o : Option ℕ) (p : Option Tree) → BothMaybe t o p
    → option_map (superbox_at t) o ≡ option_map superbox_of p
unfolding BothMaybe
maybe_boxed t None None h = refl
maybe_boxed t None (Some s) h = absurd h
maybe_boxed t (Some i) None h = absurd h
maybe_boxed t (Some i) (Some s) h = ap Some (boxed_is t i s h)

-- the superboxes in a box that may be there are seen alike by their indices and by their trees
maybe_inside : (t : Tree) (o : Option ℕ) (p : Option Tree) → BothMaybe t o p
    → map (superbox_at t) (inside t o) ≡ map superbox_of (supers_inside p)
unfolding BothMaybe
maybe_inside t None None h = refl
maybe_inside t None (Some s) h = absurd h
maybe_inside t (Some i) None h = absurd h
maybe_inside t (Some i) (Some s) h =
    both_map t (superbox_at t) superbox_of (superboxes t i) (supers_of s) (boxed_is t) (supers_are t i s h)

-- a manifest by its index is what the rules see of its tree
pub manifest_is : (t : Tree) (i : ℕ) (s : Tree) → At t i s → manifest_at t (manifest_boxes t i) ≡ manifest_of s
manifest_is t i s h =
    let supers : Both t (superboxes t i) (supers_of s) = supers_are t i s h in
    let claims =
    both_map t (superbox_at t) superbox_of (claims_in t (superboxes t i)) (filter is_claim_box (supers_of s))
    (boxed_is t) (both_filter t (has_type (codes "c2cl")) (superboxes t i) (supers_of s) supers) in
    let signed =
    maybe_boxed t (signature_in t (superboxes t i)) (find is_signature_box (supers_of s))
    (both_find t (is_named (codes "c2cs") (codes "c2pa.signature")) (superboxes t i) (supers_of s) supers) in
    let stored =
    maybe_inside t (assertion_store_in t (superboxes t i)) (find is_assertion_store (supers_of s))
    (both_find t (is_named (codes "c2as") (codes "c2pa.assertions")) (superboxes t i) (supers_of s) supers) in
    ap
    (λ (b : AnyBox). record {
      label = any_label b;
      contents = any_contents b;
      is_update = has_type (codes "c2um") b;
      claims = map (superbox_at t) (claims_in t (superboxes t i));
      signature = option_map (superbox_at t) (signature_in t (superboxes t i));
      assertions = map (superbox_at t) (inside t (assertion_store_in t (superboxes t i)));
    })
    (at_box t i s h)
    ∙ ap
    (λ (x : List Superbox). record {
      label = any_label (node s);
      contents = any_contents (node s);
      is_update = has_type (codes "c2um") (node s);
      claims = x;
      signature = option_map (superbox_at t) (signature_in t (superboxes t i));
      assertions = map (superbox_at t) (inside t (assertion_store_in t (superboxes t i)));
    })
    claims
    ∙ ap
    (λ (x : Option Superbox). record { label = any_label (node s); contents = any_contents (node s); is_update = has_type (codes "c2um") (node s); claims = (manifest_of s).claims; signature = x; assertions = map (superbox_at t) (inside t (assertion_store_in t (superboxes t i))) })
    signed
    ∙ ap
    (λ (x : List Superbox). record { label = any_label (node s); contents = any_contents (node s); is_update = has_type (codes "c2um") (node s); claims = (manifest_of s).claims; signature = (manifest_of s).signature; assertions = x })
    stored

-- what is made of each member in two steps is made of it in one
map_map : {A B C : Type 0} (f : B → C) (g : A → B) (xs : List A) → map f (map g xs) ≡ map (λ x. f (g x)) xs
map_map f g [] = refl
map_map f g (x ∷ xs) = ap (λ (ys : List _). f (g x) ∷ ys) (map_map f g xs)

-- the manifests of a tree are the same by their indices and box by box
pub same_manifests : (t : Tree) → manifests_of t ≡ tree_manifests t
same_manifests t =
    map_map (manifest_at t) (manifest_boxes t) (superboxes t 0)
    ∙ both_map t (λ i. manifest_at t (manifest_boxes t i)) manifest_of (superboxes t 0) (supers_of t) (manifest_is t)
    (supers_are t 0 t (at_root t))

-- the superboxes, seen as boxes
pub supers_any : (t : Tree) → Both t (superboxes t 0) (supers_of t)
supers_any t = supers_are t 0 t (at_root t)

-- ---- a box at its place

-- the box at a place, where its index stands there
pub both_get : (t : Tree) (is : List ℕ) (ss : List Tree) (k i : ℕ) (s : Tree) → Both t is ss → slice_get is k ≡ Some i
    → slice_get ss k ≡ Some s → At t i s
unfolding Both
both_get t [] ss k i s h e f = absurd (cc (e))
both_get t (j ∷ is) [] k i s h e f = absurd h
both_get t (j ∷ is) (u ∷ us) zero i s h e f =
    subst (λ (n : ℕ). At t n s) (same_Some j i e) (subst (At t j) (same_Some u s f) h.0)
both_get t (j ∷ is) (u ∷ us) (suc k) i s h e f = both_get t is us k i s h.1 e f
