-- The boxes of the stores that were read, joined by their flags.
use Rattle.std.proofs.Common.{◌≡◌, ℕ, suc, ◌+◌, ◌≤◌, Bool, true, false, cond, List, [], ◌∷◌, ◌++◌, length, Some, slice_get, None, refl, sym, ap, ◌∙◌, subst, arith, length-append, lit≤}
use Rattle.c2_spec.specs.Jumbf.Tree.{Tree, Trees, none, tree_label, trees_bytes}
use Rattle.c2_rules.specs.Chains.{is_reached}
use Rattle.c2_new_file_spec.specs.Manifests.{supers_in}
use Rattle.c2_new_file_spec.specs.Redacting.{redacted_boxes}
use Rattle.c2_new_file_spec.proofs.Stores.{read_len}
use Rattle.c2_collect.specs.Marked.{MarkedStore, box_labels, is_marked, manifests_in, marked}
use Rattle.c2_collect.proofs.Manifests.{mapped_is, store_count}
use Rattle.c2_collect_spec.specs.Sides.{ClashFirst, DoNotClash, IsClashLabel, carried_trees, is_carried_box, joined_boxes}
use Rattle.c2_chain_spec.specs.Joined.{is_carried, picked}
use Rattle.c2_build_refusals.specs.Kinds.{WithoutFault}
use Rattle.c2_build_refusals.specs.declared.error.BuildError.{BuildError}
use Rattle.c2_build_refusals.specs.declared.error.BuildError.TheVariants.{LabelClash}
use Rattle.c2_build_refusals.proofs.Outside.{outside_map}
use Rattle.c2_build_collect_base.specs.Steps.{AreFlags, AreJoined, IsClashError, IsReadStore, boxes_of, readings_of}
use Rattle.c2_build_collect_base.specs.declared.stores.ReadStore.{ReadStore}
use Rattle.c2_build_collect_base.proofs.Boxed.{carried_len, old_boxed, read_boxed}

-- there is a flag for each manifest of a store that was read
pub flags_count : (s : ReadStore) (flags : List Bool) → IsReadStore s → AreFlags (readings_of s) flags
    → length flags ≡ length s.older.now.store
flags_count s flags h k =
    k.count ∙ sym (read_len (supers_in (boxes_of s)) (readings_of s) (read_boxed s h).reads)
    ∙ sym (store_count s.older.now.tree s.older.now.store h.boxes)

-- a store with its flags tells what is reached
marked_is : (s : ReadStore) (flags : List Bool) (v : MarkedStore) → AreFlags (readings_of s) flags
    → v ≡ marked s.older.now.tree flags → is_marked v ≡ is_reached (readings_of s)
marked_is s flags v k is = ap is_marked is ∙ k.are

-- two stores, by what they are with their flags
by_marks :
    (P : Trees → (ℕ → Bool) → Trees → (ℕ → Bool) → Type 0) (a b : ReadStore) (fs gs : List Bool) (v w : MarkedStore)
    → AreFlags (readings_of a) fs → AreFlags (readings_of b) gs → v ≡ marked a.older.now.tree fs
    → w ≡ marked b.older.now.tree gs
    → P v.boxes (is_marked v) w.boxes (is_marked w)
    → P (boxes_of a) (is_reached (readings_of a)) (boxes_of b) (is_reached (readings_of b))
by_marks P a b fs gs v w h k is at p =
    subst (λ (f : ℕ → Bool). P (boxes_of a) (is_reached (readings_of a)) (boxes_of b) f) (marked_is b gs w k at)
    (subst (λ (x : Trees). P (boxes_of a) (is_reached (readings_of a)) x (is_marked w)) (ap (λ (x : MarkedStore). x.boxes) at)
    (subst (λ (f : ℕ → Bool). P (boxes_of a) f w.boxes (is_marked w)) (marked_is a fs v h is)
    (subst (λ (x : Trees). P x (is_marked v) w.boxes (is_marked w)) (ap (λ (x : MarkedStore). x.boxes) is) p)))

-- one store, by what it is with its flags
by_mark : (P : Trees → (ℕ → Bool) → Type 0) (b : ReadStore) (gs : List Bool) (w : MarkedStore)
    → AreFlags (readings_of b) gs → w ≡ marked b.older.now.tree gs → P w.boxes (is_marked w)
    → P (boxes_of b) (is_reached (readings_of b))
by_mark P b gs w k at p =
    subst (λ (f : ℕ → Bool). P (boxes_of b) f) (marked_is b gs w k at)
    (subst (λ (x : Trees). P x (is_marked w)) (ap (λ (x : MarkedStore). x.boxes) at) p)

-- no store clashes with none
pub none_apart : (was : ℕ → Bool) (others : List Tree) (reached : ℕ → Bool) → DoNotClash [] was others reached
none_apart was others reached i c = let bad = c.is_ours in cc (bad)

-- no more are picked than there are
picked_len : {X : Type 0} (p : ℕ → X → Bool) (k : ℕ) (xs : List X) → length (picked p k xs) ≤ length xs
picked_len p k [] = lit≤ tt
picked_len {X} p k (x ∷ xs) = by (p k x) (picked_len p (k + 1) xs)
  where
    by : (b : Bool) → length (picked p (k + 1) xs) ≤ length xs
        → length (cond b (x ∷ picked p (k + 1) xs) (picked p (k + 1) xs)) ≤ suc (length xs)
    by true h = omega (arith, h)
    by false h = omega (arith, h)

-- no more are carried than there are flags
pub carried_few : (s : ReadStore) (gs : List Bool) (w : MarkedStore) (olds : List Tree) (n : ℕ) → IsReadStore s
    → AreFlags (readings_of s) gs → w ≡ marked s.older.now.tree gs
    → n ≡ length (carried_trees olds (is_marked w) (manifests_in w)) → n ≤ length gs
carried_few s gs w olds n h k at count =
    let few = picked_len (is_carried_box olds (is_marked w)) 0 (manifests_in w) in
    let many : length (manifests_in w) ≡ length (supers_in (boxes_of s)) =
    ap (λ (x : MarkedStore). length (manifests_in x)) at in
    let read = read_len (supers_in (boxes_of s)) (readings_of s) (read_boxed s h).reads in
    omega (arith, few, many, read, k.count, count)

-- what is carried where there is no other store
pub carried_joined :
    (redacts : List (List ℕ)) (s : ReadStore) (gs : List Bool) (w : MarkedStore) (before after : List ℕ) (n total : ℕ)
    → IsReadStore s → AreFlags (readings_of s) gs → w ≡ marked s.older.now.tree gs → before ≡ []
    → after ≡ before ++ trees_bytes (redacted_boxes redacts (joined_boxes none (is_marked w) w.boxes))
    → n ≡ length (carried_trees [] (is_marked w) (manifests_in w))
    → total ≡ n + 1
    → AreJoined redacts none [] (boxes_of s) (readings_of s) (record { boxes = after; manifests = total })
carried_joined redacts s gs w before after n total h k at empty bytes count sum = record {
  boxes = bytes ∙ ap (λ (xs : List ℕ). xs ++ trees_bytes (redacted_boxes redacts (joined_boxes none (is_marked w) w.boxes))) empty
      ∙ by_mark (λ boxes reached. trees_bytes (redacted_boxes redacts (joined_boxes none (is_marked w) w.boxes)) ≡ trees_bytes (redacted_boxes redacts (joined_boxes none reached boxes))) s gs w k at refl;
  count = sum
      ∙ ap (λ (i : ℕ). i + 1)
      (by_mark (λ boxes reached. n ≡ length (carried_trees [] reached (supers_in boxes))) s gs w k at count
      ∙ carried_len none (boxes_of s) [] (readings_of s) (is_reached (readings_of s)) (old_boxed None tt) (read_boxed s h));
  apart = none_apart (is_reached []) (supers_in (boxes_of s)) (is_reached (readings_of s));
}

-- what is carried of both stores joined
pub both_joined :
    (redacts : List (List ℕ)) (a b : ReadStore) (fs gs : List Bool) (v w : MarkedStore) (before after : List ℕ)
    (m n count : ℕ)
    → IsReadStore a → IsReadStore b → AreFlags (readings_of a) fs → AreFlags (readings_of b) gs
    → v ≡ marked a.older.now.tree fs
    → w ≡ marked b.older.now.tree gs → before ≡ []
    → after ≡ before ++ trees_bytes (redacted_boxes redacts (joined_boxes v.boxes (is_marked w) w.boxes))
    → n ≡ length (carried_trees (manifests_in v) (is_marked w) (manifests_in w))
    → m ≡ length (readings_of a) → count ≡ m + n + 1
    → DoNotClash (manifests_in v) (is_marked v) (manifests_in w) (is_marked w)
    → AreJoined redacts (boxes_of a) (readings_of a) (boxes_of b) (readings_of b) (record { boxes = after; manifests = count })
both_joined redacts a b fs gs v w before after m n count ha hb h k is at empty bytes carried own sum apart = record {
  boxes = bytes ∙ ap (λ (xs : List ℕ). xs ++ trees_bytes (redacted_boxes redacts (joined_boxes v.boxes (is_marked w) w.boxes))) empty
      ∙ by_marks (λ old was boxes reached. trees_bytes (redacted_boxes redacts (joined_boxes v.boxes (is_marked w) w.boxes)) ≡ trees_bytes (redacted_boxes redacts (joined_boxes old reached boxes))) a b fs gs v w h k is at refl;
  count = sum ∙ ap (λ (i : ℕ). i + n + 1) own
      ∙ ap (λ (i : ℕ). i + 1)
      (ap (λ (i : ℕ). length (readings_of a) + i)
      (by_marks (λ old was boxes reached. n ≡ length (carried_trees (supers_in old) reached (supers_in boxes))) a b fs gs v w h k is at carried
      ∙ carried_len (boxes_of a) (boxes_of b) (readings_of a) (readings_of b) (is_reached (readings_of b)) (read_boxed a ha) (read_boxed b hb))
      ∙ sym (length-append (readings_of a) (picked (is_carried (readings_of a) (is_reached (readings_of b))) 0 (readings_of b))));
  apart =
      by_marks (λ old was boxes reached. DoNotClash (supers_in old) was (supers_in boxes) reached) a b fs gs v w h k is
      at apart;
}

-- the error of a clash
pub clash_error : (a b : ReadStore) (fs gs : List Bool) (v w : MarkedStore) (i : ℕ) (e : BuildError)
    → AreFlags (readings_of a) fs → AreFlags (readings_of b) gs → v ≡ marked a.older.now.tree fs
    → w ≡ marked b.older.now.tree gs
    → ClashFirst (manifests_in v) (is_marked v) (manifests_in w) (is_marked w) i
    → WithoutFault e ((label : List ℕ) × (slice_get (box_labels (manifests_in w)) i ≡ Some (Some label)) × (e ≡ LabelClash label))
    → WithoutFault e (IsClashError (boxes_of a) (readings_of a) (boxes_of b) (readings_of b) e)
clash_error a b fs gs v w i e h k is at first told =
    by_marks
    (λ old was boxes reached. WithoutFault e ((label : List ℕ) × IsClashLabel (supers_in old) was (supers_in boxes) reached label × (e ≡ LabelClash label)))
    a b fs gs v w h k is at
    (outside_map e (λ t. (t.0, record { place = i; first = first; is = sym (mapped_is tree_label (manifests_in w) i first.here.theirs (Some t.0) t.1 first.here.is_theirs) }, t.2)) told)
