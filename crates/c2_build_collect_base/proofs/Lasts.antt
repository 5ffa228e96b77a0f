-- The last manifests of two stores, where they stand in the joined store.
use Rattle.std.proofs.Common.{◌≡◌, ℕ, ◌+◌, ◌-◌, ◌<◌, Bool, true, false, cond, not, ◌&&◌, bytes_eq, List, [], ◌∷◌, ◌++◌, length, map, Option, Some, slice_get, refl, sym, ap, ◌∙◌, subst, arith, lit≤}
use Rattle.std.specs.Prelude.{filter_map, option_and_then, unwrap_or}
use Rattle.std.specs.List.{AllZip, cons_option}
use Rattle.std.proofs.lemmas.List.{length-map}
use Rattle.std.proofs.lemmas.Option.{same_Some, slice_get_within}
use Rattle.std.proofs.lemmas.Slice.Eq.{bytes_eq-Decides}
use Rattle.c2_spec.specs.C2pa.Manifest.{is_given}
use Rattle.c2_spec.specs.Jumbf.Tree.{Tree, Trees, more, none, tree_bytes, tree_label}
use Rattle.c2_spec.specs.declared.digest.Alg.{Alg}
use Rattle.c2_rules.specs.Chains.{is_reached, label_in, place_of}
use Rattle.c2_rules.specs.Readings.{Reading}
use Rattle.c2_rules.proofs.ListLemmas.{from_any}
use Rattle.c2_rules.proofs.ReachLemmas.{place_is}
use Rattle.c2_chain_spec.specs.Joined.{place_in}
use Rattle.c2_chain_spec.specs.Rooted.{last_roots}
use Rattle.c2_chain_spec.proofs.Places.{get_left, picked_at, to_right}
use Rattle.c2_new_file_spec.specs.Manifests.{is_super, supers_in}
use Rattle.c2_new_file_spec.specs.Store.{NamedManifest}
use Rattle.c2_new_file_spec.specs.Written.{IsStoreBox}
use Rattle.c2_new_file_spec.specs.Parents.{IsParentOf}
use Rattle.c2_new_file_spec.specs.Redacting.{redacted_box}
use Rattle.c2_new_file_spec.proofs.Stores.{legal_at, read_label, read_len}
use Rattle.c2_collect.proofs.Manifests.{map_at}
use Rattle.c2_collect_spec.specs.Collected.{CanJoin, IsNamedAt, collected_boxes, collected_readings, collected_roots}
use Rattle.c2_collect_spec.specs.Sides.{carried_trees, has_same_label, is_carried_box, joined_boxes}
use Rattle.c2_collect_spec.specs.Stores.{IsRootedStore}
use Rattle.c2_collect_spec.proofs.Contents.{joined_store}
use Rattle.c2_collect_spec.proofs.Stores.{label_there}
use Rattle.c2_collect_spec.proofs.Zips.{Reads, ZipAt, all_picked, are_supers, higher, reads_zip, then_supers, zip_at}
use Rattle.c2_build_collect_base.specs.Steps.{left_in}
use Rattle.c2_lemmas.proofs.Bools.{and_true, both_true}
use Rattle.c2_lemmas.proofs.Each.{at_contains, contains_at, member_of, zip_length}
use Rattle.c2_lemmas.proofs.Options.{some_at}
use Rattle.c2_new_content_spec.proofs.OverWhole.{last_place}
use Rattle.c2_new_file_spec.proofs.Taken.{redacted_super}
use Rattle.c2_new_file_spec.proofs.Valid.{last_reached}
use Rattle.c2_spec.proofs.GivenLabels.{given_is}
use Rattle.c2_spec.proofs.JumbfOneTree.{spells_once}

-- ---- the joined manifests

-- the manifests of the joined boxes
joined_supers : (old other : Trees) (reached : ℕ → Bool)
    → supers_in (joined_boxes old reached other) ≡ supers_in old ++ carried_trees (supers_in old) reached (supers_in other)
joined_supers old other reached =
    then_supers old (carried_trees (supers_in old) reached (supers_in other))
    (all_picked (λ (x : Tree). is_super x ≡ true) (is_carried_box (supers_in old) reached) 0 (supers_in other) (are_supers other))

-- one of the first store stands where it stood
stands_left : (old other : Trees) (reached : ℕ → Bool) (p : ℕ) (t : Tree) → slice_get (supers_in old) p ≡ Some t
    → slice_get (supers_in (joined_boxes old reached other)) p ≡ Some t
stands_left old other reached p t is =
    ap (λ (ts : List Tree). slice_get ts p) (joined_supers old other reached)
    ∙ get_left (supers_in old) (carried_trees (supers_in old) reached (supers_in other)) p
    (slice_get_within (supers_in old) p t is)
    ∙ is

-- a manifest of the first store with the label of one that is reached in the other is that one, where they don't clash
shared_is : (hash : Alg → List ℕ → List ℕ) (old other : Trees) (old_rs other_rs : List Reading)
    → CanJoin hash old other old_rs other_rs
    → (n p : ℕ) (t ours : Tree) → is_reached other_rs n ≡ true → slice_get (supers_in other) n ≡ Some t
    → slice_get (supers_in old) p ≡ Some ours → tree_label ours ≡ tree_label t → ours ≡ t
shared_is hash old other old_rs other_rs can n p t ours reached is at label =
    spells_once (tree_bytes ours) ours t
    (record { whole = refl; legal = higher 1 2 ours (lit≤ tt) (legal_at old 2 p ours can.old_store.legal at) })
    (record { whole = (bytes_eq-Decides (tree_bytes ours) (tree_bytes t)).0 both.1; legal = higher 1 2 t (lit≤ tt) (legal_at other 2 n t can.other_store.legal is) })
  where
    sure : (x : Bool) → (is_reached old_rs p && bytes_eq (tree_bytes ours) (tree_bytes t)) ≡ x
        → (is_reached old_rs p && bytes_eq (tree_bytes ours) (tree_bytes t)) ≡ true
    sure true e = e
    sure false e =
        absurd
        (can.apart n (record { is_reached = reached; theirs = t; is_theirs = is; place = p; ours = ours; is_ours = at; label = label; differs = e }))

    both : (is_reached old_rs p ≡ true) × (bytes_eq (tree_bytes ours) (tree_bytes t) ≡ true)
    both =
        both_true (is_reached old_rs p) (bytes_eq (tree_bytes ours) (tree_bytes t))
        (sure (is_reached old_rs p && bytes_eq (tree_bytes ours) (tree_bytes t)) refl)

-- what is reached in the other store stands in the joined one
stands_in : (hash : Alg → List ℕ → List ℕ) (old other : Trees) (old_rs other_rs : List Reading)
    → CanJoin hash old other old_rs other_rs
    → (n : ℕ) (t : Tree) → is_reached other_rs n ≡ true → slice_get (supers_in other) n ≡ Some t
    → (j : ℕ) × (slice_get (supers_in (collected_boxes old other other_rs)) j ≡ Some t)
stands_in hash old other old_rs other_rs can n t reached is = by (has_same_label (supers_in old) t) refl
  where
    label : (l : List ℕ) × (tree_label t ≡ Some l)
    label =
        label_there t
        (member_of IsStoreBox (supers_in other) t can.other_store.stores (contains_at (supers_in other) n t is))

    by : (b : Bool) → has_same_label (supers_in old) t ≡ b
        → (j : ℕ) × (slice_get (supers_in (collected_boxes old other other_rs)) j ≡ Some t)
    by false e =
        let picks : ℕ → Tree → Bool = is_carried_box (supers_in old) (is_reached other_rs) in
        let cs : List Tree = carried_trees (supers_in old) (is_reached other_rs) (supers_in other) in
        let q =
        picked_at picks n (supers_in other) t is
        (and_true (is_reached other_rs n) (not (has_same_label (supers_in old) t)) reached (ap not e)) in
        (length (supers_in old) + q.0, ap (λ (ts : List Tree). slice_get ts (length (supers_in old) + q.0)) (joined_supers old other (is_reached other_rs)) ∙ to_right (supers_in old) cs q.0 t q.1)
    by true e =
        let l : List ℕ = unwrap_or (tree_label t) [] in
        let found = from_any (λ (o : Tree). is_given (tree_label o) l) (supers_in old) e in
        let p = at_contains (supers_in old) found.0 found.1 in
        let same_label : tree_label found.0 ≡ tree_label t =
        given_is (tree_label found.0) l found.2 ∙ ap (λ (o : Option (List ℕ)). Some (unwrap_or o [])) label.1 ∙ sym label.1 in
        let same : found.0 ≡ t =
        shared_is hash old other old_rs other_rs can n p.0 t found.0 reached is p.1 same_label in
        (p.0, stands_left old other (is_reached other_rs) p.0 t (p.1 ∙ ap Some same))

-- ---- the roots

-- the last manifest of a store, and where it stands among the roots of the joined chain
record IsLastRoot (old other : Trees) (old_rs other_rs : List Reading) : Type 0 where
  tree : Tree
  last : slice_get (supers_in other) (length (supers_in other) - 1) ≡ Some tree
  place : ℕ
  stands : slice_get (supers_in (collected_boxes old other other_rs)) place ≡ Some tree
  roots : collected_roots old_rs other_rs ≡ last_roots old_rs ++ place ∷ []

-- the last manifest of the other store stands at the last root
last_root : (hash : Alg → List ℕ → List ℕ) (old other : Trees) (old_rs other_rs : List Reading)
    → CanJoin hash old other old_rs other_rs → IsLastRoot old other old_rs other_rs
last_root hash old other old_rs other_rs can =
    let n : ℕ = length other_rs - 1 in
    let within : n < length other_rs = omega (arith, can.some) in
    let q = some_at other_rs n within in
    let at : ZipAt Reads (supers_in other) n q.0 =
    zip_at Reads (supers_in other) other_rs n q.0
    (reads_zip (supers_in other) other_rs can.other_store.reads can.other_store.stores) q.1 in
    let j = stands_in hash old other old_rs other_rs can n at.it (last_reached other_rs can.some) at.is in
    let boxes : Trees = collected_boxes old other other_rs in
    let js : List Reading = collected_readings old_rs other_rs in
    let store : IsRootedStore hash boxes js (collected_roots old_rs other_rs) =
    joined_store hash old other old_rs other_rs can in
    let zips : AllZip Reads (supers_in boxes) js = reads_zip (supers_in boxes) js store.reads store.stores in
    let r =
    some_at js j.0
    (subst (λ k. j.0 < k) (zip_length Reads (supers_in boxes) js zips) (slice_get_within (supers_in boxes) j.0 at.it j.1)) in
    let there : ZipAt Reads (supers_in boxes) j.0 r.0 = zip_at Reads (supers_in boxes) js j.0 r.0 zips r.1 in
    let same : there.it ≡ at.it = same_Some there.it at.it (sym there.is ∙ j.1) in
    let label : label_in r.0 ≡ label_in q.0 =
    same_Some (label_in r.0) (label_in q.0)
    (sym (read_label there.it r.0 there.corresponds.0 there.corresponds.1) ∙ ap tree_label same ∙ read_label at.it q.0 at.corresponds.0 at.corresponds.1) in
    let place : place_in js other_rs n ≡ Some j.0 =
    ap (option_and_then (λ (x : Reading). place_of js (label_in x))) q.1 ∙ ap (place_of js) (sym label) ∙ place_is js j.0 r.0 store.rooted.differ r.1 in
    let count : length (supers_in other) ≡ length other_rs =
    read_len (supers_in other) other_rs can.other_store.reads in
    record {
      tree = at.it;
      last = ap (λ k. slice_get (supers_in other) (k - 1)) count ∙ at.is;
      place = j.0;
      stands = j.1;
      roots = ap (λ (ns : List ℕ). last_roots old_rs ++ filter_map (place_in js other_rs) ns) (last_place other_rs can.some)
          ∙ ap (λ (o : Option ℕ). last_roots old_rs ++ cons_option o []) place;
    }

-- ---- what is left of them

-- a manifest is left of each
supers_redacted : (redacts : List (List ℕ)) (ts : Trees)
    → left_in redacts ts ≡ map (redacted_box redacts) (supers_in ts)
supers_redacted redacts none = refl
supers_redacted redacts (more t ts) =
    ap (λ b. cond b (redacted_box redacts t ∷ left_in redacts ts) (left_in redacts ts)) (redacted_super redacts t)
    ∙ ap (λ (xs : List Tree). cond (is_super t) (redacted_box redacts t ∷ xs) xs) (supers_redacted redacts ts)
    ∙ go (is_super t)
  where
    go : (b : Bool)
        → cond b (redacted_box redacts t ∷ map (redacted_box redacts) (supers_in ts)) (map (redacted_box redacts) (supers_in ts)) ≡ map (redacted_box redacts) (cond b (t ∷ supers_in ts) (supers_in ts))
    go true = refl
    go false = refl

-- a manifest less what is redacted of it stands where it stood
left_at : (redacts : List (List ℕ)) (boxes : Trees) (i : ℕ) (t : Tree) → slice_get (supers_in boxes) i ≡ Some t
    → slice_get (left_in redacts boxes) i ≡ Some (redacted_box redacts t)
left_at redacts boxes i t is =
    ap (λ (ts : List Tree). slice_get ts i) (supers_redacted redacts boxes)
    ∙ map_at (redacted_box redacts) (supers_in boxes) i t is

-- there are as many
left_len : (redacts : List (List ℕ)) (boxes : Trees) → length (left_in redacts boxes) ≡ length (supers_in boxes)
left_len redacts boxes = ap length (supers_redacted redacts boxes) ∙ length-map (supers_in boxes) (redacted_box redacts)

-- the last of them
left_last : (redacts : List (List ℕ)) (boxes : Trees) (t : Tree)
    → slice_get (supers_in boxes) (length (supers_in boxes) - 1) ≡ Some t
    → slice_get (left_in redacts boxes) (length (left_in redacts boxes) - 1) ≡ Some (redacted_box redacts t)
left_last redacts boxes t is =
    ap (λ k. slice_get (left_in redacts boxes) (k - 1)) (left_len redacts boxes)
    ∙ left_at redacts boxes (length (supers_in boxes) - 1) t is

-- what an ingredient names is the last manifest of a store where both places have one manifest
named_last : (ms ns : List Tree) (root : ℕ) (p : NamedManifest) (t : Tree) → slice_get ms root ≡ Some t
    → slice_get ns (length ns - 1) ≡ Some t → IsNamedAt p ms root → IsParentOf p ns
named_last ms ns root p t at last h =
    let same : h.manifest ≡ t = same_Some h.manifest t (sym h.is_manifest ∙ at) in
    record {
      active = h.manifest;
      is_active = last ∙ ap Some (sym same);
      label = h.label;
      contents = h.contents;
      signature = h.signature;
      is_signature = h.is_signature;
      signed = h.signed;
    }

-- a manifest is the last one of a store, less what is redacted of it
abbrev pub IsLastLeft : List (List ℕ) → NamedManifest → Trees → Type 0
IsLastLeft redacts p boxes = IsParentOf p (left_in redacts boxes)

-- an ingredient names a manifest of the joined store, less what is redacted of it
abbrev pub IsNamedLeft : List (List ℕ) → Trees → Trees → List Reading → NamedManifest → ℕ → Type 0
IsNamedLeft redacts old other other_rs p root = IsNamedAt p (left_in redacts (collected_boxes old other other_rs)) root

-- what an ingredient names at the last root is the last manifest of the other store
other_last : (redacts : List (List ℕ)) (old other : Trees) (old_rs other_rs : List Reading) (p : NamedManifest)
    → (root : IsLastRoot old other old_rs other_rs) → IsNamedLeft redacts old other other_rs p root.place
    → IsLastLeft redacts p other
other_last redacts old other old_rs other_rs p root h =
    let boxes : Trees = collected_boxes old other other_rs in
    named_last (left_in redacts boxes) (left_in redacts other) root.place p (redacted_box redacts root.tree)
    (left_at redacts boxes root.place root.tree root.stands) (left_last redacts other root.tree root.last) h

-- what an ingredient names at the root of the first store is that store's last manifest
old_last : (redacts : List (List ℕ)) (old other : Trees) (other_rs : List Reading) (p : NamedManifest)
    → 0 < length (supers_in old) → IsNamedLeft redacts old other other_rs p (length (supers_in old) - 1)
    → IsLastLeft redacts p old
old_last redacts old other other_rs p some h =
    let boxes : Trees = collected_boxes old other other_rs in
    let end : ℕ = length (supers_in old) - 1 in
    let t = some_at (supers_in old) end (omega (arith, some)) in
    named_last (left_in redacts boxes) (left_in redacts old) end p (redacted_box redacts t.0)
    (left_at redacts boxes end t.0 (stands_left old other (is_reached other_rs) end t.0 t.1))
    (left_last redacts old t.0 t.1) h

-- Two ingredients name the last manifests of both stores.
pub both_last :
    (hash : Alg → List ℕ → List ℕ) (redacts : List (List ℕ)) (old other : Trees) (old_rs other_rs : List Reading)
    (ps : List NamedManifest)
    → CanJoin hash old other old_rs other_rs → 0 < length old_rs
    → AllZip (IsNamedLeft redacts old other other_rs) ps (collected_roots old_rs other_rs)
    → AllZip (IsLastLeft redacts) ps (old ∷ other ∷ [])
both_last hash redacts old other old_rs other_rs ps can some h =
    by ps
    (subst (AllZip (IsNamedLeft redacts old other other_rs) ps) (root.roots ∙ ap (λ (ns : List ℕ). ns ++ root.place ∷ []) (last_place old_rs some ∙ ap (λ k. (k - 1) ∷ []) (sym count))) h)
  where
    root : IsLastRoot old other old_rs other_rs
    root = last_root hash old other old_rs other_rs can

    count : length (supers_in old) ≡ length old_rs
    count = read_len (supers_in old) old_rs can.old_store.reads

    by : (qs : List NamedManifest)
        → AllZip (IsNamedLeft redacts old other other_rs) qs ((length (supers_in old) - 1) ∷ root.place ∷ [])
        → AllZip (IsLastLeft redacts) qs (old ∷ other ∷ [])
    by [] k = absurd k
    by (p ∷ []) k = absurd k.1
    by (p ∷ q ∷ []) k =
        (old_last redacts old other other_rs p (subst (λ n. 0 < n) (sym count) some) k.0, (other_last redacts old other old_rs other_rs q root k.1.0, tt))
    by (p ∷ q ∷ x ∷ xs) k = absurd k.1.1

-- One alone names the last of the other, where the first has none.
pub one_last_alone :
    (hash : Alg → List ℕ → List ℕ) (redacts : List (List ℕ)) (old other : Trees) (old_rs other_rs : List Reading)
    (ps : List NamedManifest)
    → CanJoin hash old other old_rs other_rs → old_rs ≡ []
    → AllZip (IsNamedLeft redacts old other other_rs) ps (collected_roots old_rs other_rs)
    → AllZip (IsLastLeft redacts) ps (other ∷ [])
one_last_alone hash redacts old other old_rs other_rs ps can empty h =
    by ps
    (subst (AllZip (IsNamedLeft redacts old other other_rs) ps) (root.roots ∙ ap (λ (rs : List Reading). last_roots rs ++ root.place ∷ []) empty) h)
  where
    root : IsLastRoot old other old_rs other_rs
    root = last_root hash old other old_rs other_rs can

    by : (qs : List NamedManifest) → AllZip (IsNamedLeft redacts old other other_rs) qs (root.place ∷ [])
        → AllZip (IsLastLeft redacts) qs (other ∷ [])
    by [] k = absurd k
    by (p ∷ []) k = (other_last redacts old other old_rs other_rs p root k.0, tt)
    by (p ∷ q ∷ qs) k = absurd k.1
