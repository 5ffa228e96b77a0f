-- The flags of what is carried, one by one; and the joined boxes by them.
use Rattle.std.proofs.Common.{◌≡◌, ⊎_elim, ℕ, suc, ◌+◌, ◌<◌, Bool, cond, List, [], ◌∷◌, ◌++◌, length, Option, Some, None, slice_get, refl, sym, ap, ◌∙◌, subst, arith, append_assoc, length-append}
use Rattle.std.specs.Prelude.{false}
use Rattle.std.proofs.lemmas.Bool.{cases_lt}
use Rattle.std.proofs.lemmas.List.{get_or_append_left}
use Rattle.std.proofs.Math.Seq.{get_or-append_seam}
use Rattle.std.proofs.lemmas.Option.{slice_get_within}
use Rattle.c2_spec.specs.Jumbf.Tree.{Tree, Trees, more, none, tree_bytes, trees_bytes}
use Rattle.c2_chain_spec.specs.Joined.{picked}
use Rattle.c2_new_file_spec.specs.Manifests.{supers_in}
use Rattle.c2_collect_spec.specs.Sides.{ClashFirst, boxes_then, carried_trees, is_carried_box, joined_boxes}
use Rattle.c2_collect.specs.Carried.{AreCarried, IsFound, StoresClash, is_carried_over, wanted_bytes, wanted_in}
use Rattle.c2_collect.specs.Marked.{MarkedStore, flag_at, is_marked, manifests_in}
use Rattle.c2_lemmas.proofs.Bools.{and_true_is}

-- ---- flags

-- one flag more
pub carried_more : (old other : MarkedStore) (flags next : List Bool) (n : ℕ) (flag : Bool)
    → AreCarried old other flags n → IsFound old other n (Some flag) → next ≡ flags ++ flag ∷ []
    → AreCarried old other next (n + 1)
carried_more old other flags next n flag h f e = record {
  count = ap length e ∙ length-append flags (flag ∷ []) ∙ ap (λ k. k + 1) h.count;
  each = λ i t lt is. ap (λ x. flag_at x i) e ∙ at i t lt is;
  apart = λ i lt c. ⊎_elim (λ less. h.apart i less c) (λ le. let same : i ≡ n = omega (arith, lt, le) in f.1 (subst (StoresClash old other) same c)) (cases_lt i n);
}
  where
    at : (i : ℕ) (t : Tree) → i < n + 1 → slice_get (manifests_in other) i ≡ Some t
        → flag_at (flags ++ flag ∷ []) i ≡ is_carried_over old other i t
    at i t lt is = ⊎_elim (λ less. get_or_append_left flags (flag ∷ []) false i (omega (arith, less, h.count)) ∙ h.each i t less is)
        (λ le.
        let same : i ≡ n = omega (arith, lt, le) in
        let end : i ≡ length flags = omega (arith, same, h.count) in
        ap (flag_at (flags ++ flag ∷ [])) end ∙ get_or-append_seam flags flag [] false ∙ f.0 t (subst (λ k. slice_get (manifests_in other) k ≡ Some t) same is) ∙ ap (λ k. is_carried_over old other k t) (sym same)) (cases_lt i n)

-- a clash after flags is the first
pub clash_first : (old other : MarkedStore) (flags : List Bool) (n : ℕ) (o : Option Bool) → AreCarried old other flags n
    → IsFound old other n o → o ≡ None
    → ClashFirst (manifests_in old) (is_marked old) (manifests_in other) (is_marked other) n
clash_first old other flags n o h f e =
    record { here = subst (IsFound old other n) e f; earlier = λ j lt. h.apart j lt }

-- where all are looked at, none clashes
pub none_clash : (old other : MarkedStore) (flags : List Bool)
    → AreCarried old other flags (length (manifests_in other)) → (i : ℕ) → StoresClash old other i → ⊥
none_clash old other flags h i c = h.apart i (slice_get_within (manifests_in other) i c.theirs c.is_theirs) c

-- ---- the joined boxes

-- what is picked by tests that agree
picked_same : (p q : ℕ → Tree → Bool) (k : ℕ) (ts : List Tree)
    → ((i : ℕ) (t : Tree) → slice_get ts i ≡ Some t → p (k + i) t ≡ q (k + i) t) → picked p k ts ≡ picked q k ts
picked_same p q k [] same = refl
picked_same p q k (t ∷ ts) same =
    let zero_is : k + 0 ≡ k = omega arith in
    ap (λ b. cond b (t ∷ picked p (k + 1) ts) (picked p (k + 1) ts))
    (ap (λ n. p n t) (sym zero_is) ∙ same 0 t refl ∙ ap (λ n. q n t) zero_is)
    ∙ ap (λ (xs : List Tree). cond (q k t) (t ∷ xs) xs) (picked_same p q (k + 1) ts (λ i u is. let n : k + 1 + i ≡ k + suc i = omega arith in ap (λ m. p m u) n ∙ same (suc i) u is ∙ ap (λ m. q m u) (sym n)))

-- boxes and trees behind them by their bytes
pub then_bytes : (boxes : Trees) (xs : List Tree)
    → trees_bytes (boxes_then boxes xs) ≡ trees_bytes boxes ++ trees_bytes (boxes_then none xs)
then_bytes none xs = refl
then_bytes (more t ts) xs =
    ap (λ (x : List ℕ). tree_bytes t ++ x) (then_bytes ts xs)
    ∙ sym (append_assoc (tree_bytes t) (trees_bytes ts) (trees_bytes (boxes_then none xs)))

-- what flags want of the other store, where they say which manifests are carried
pub carried_by : (old other : Trees) (reached : ℕ → Bool) (flags : List Bool)
    → ((i : ℕ) (t : Tree) → slice_get (supers_in other) i ≡ Some t → flag_at flags i ≡ is_carried_box (supers_in old) reached i t)
    → wanted_in flags 0 (supers_in other) ≡ carried_trees (supers_in old) reached (supers_in other)
carried_by old other reached flags each =
    picked_same (λ i t. flag_at flags i) (is_carried_box (supers_in old) reached) 0 (supers_in other)
    (λ i t is. let plain : 0 + i ≡ i = omega arith in ap (flag_at flags) plain ∙ each i t is ∙ ap (λ m. is_carried_box (supers_in old) reached m t) (sym plain))

-- the joined boxes by such flags
by_flags : (old other : Trees) (reached : ℕ → Bool) (flags : List Bool)
    → ((i : ℕ) (t : Tree) → slice_get (supers_in other) i ≡ Some t → flag_at flags i ≡ is_carried_box (supers_in old) reached i t)
    → trees_bytes old ++ wanted_bytes flags (supers_in other) ≡ trees_bytes (joined_boxes old reached other)
by_flags old other reached flags each =
    ap (λ (xs : List Tree). trees_bytes old ++ trees_bytes (boxes_then none xs))
    (carried_by old other reached flags each)
    ∙ sym (then_bytes old (carried_trees (supers_in old) reached (supers_in other)))

-- the joined boxes
joined_bytes : (old other : MarkedStore) (flags : List Bool) → AreCarried old other flags (length (manifests_in other))
    → trees_bytes old.boxes ++ wanted_bytes flags (manifests_in other) ≡ trees_bytes (joined_boxes old.boxes (is_marked other) other.boxes)
joined_bytes old other flags h =
    by_flags old.boxes other.boxes (is_marked other) flags
    (λ i t is. h.each i t (slice_get_within (manifests_in other) i t is) is)

-- bytes to which a store's boxes, and behind them those that are carried of another, were appended
pub joined_behind : (old other : MarkedStore) (flags : List Bool) (before front after : List ℕ)
    → front ≡ trees_bytes old.boxes → AreCarried old other flags (length (manifests_in other))
    → after ≡ before ++ front ++ wanted_bytes flags (manifests_in other)
    → after ≡ before ++ trees_bytes (joined_boxes old.boxes (is_marked other) other.boxes)
joined_behind old other flags before front after is h e =
    e ∙ append_assoc before front (wanted_bytes flags (manifests_in other))
    ∙ ap (λ (x : List ℕ). before ++ x)
    (ap (λ (x : List ℕ). x ++ wanted_bytes flags (manifests_in other)) is ∙ joined_bytes old other flags h)

-- the boxes of no store and of another
carried_bytes : (other : MarkedStore)
    → wanted_bytes other.reached (manifests_in other) ≡ trees_bytes (joined_boxes none (is_marked other) other.boxes)
carried_bytes other =
    by_flags none other.boxes (is_marked other) other.reached (λ i t is. and_true_is (is_marked other i))

-- bytes to which they were appended
pub carried_behind : (other : MarkedStore) (flags : List Bool) (before after : List ℕ) → flags ≡ other.reached
    → after ≡ before ++ [] ++ wanted_bytes flags (manifests_in other)
    → after ≡ before ++ trees_bytes (joined_boxes none (is_marked other) other.boxes)
carried_behind other flags before after is e =
    e ∙ append_assoc before [] (wanted_bytes flags (manifests_in other))
    ∙ ap (λ (x : List ℕ). before ++ x) (ap (λ fs. wanted_bytes fs (manifests_in other)) is ∙ carried_bytes other)

-- ---- stores that are the same

-- what holds of two stores holds of the same two
pub at_stores : (P : MarkedStore → MarkedStore → Type 0) (v w x y : MarkedStore) → v ≡ x → w ≡ y → P v w → P x y
at_stores P v w x y e f h = subst (P x) f (subst (λ s. P s w) e h)
