-- The manifests that flags want, each less what redactions take out of it.
use Rattle.std.proofs.Common.{◌≡◌, ℕ, ◌+◌, ◌<◌, Bool, true, false, cond, List, [], ◌∷◌, ◌++◌, length, map, drop, Some, slice_get, refl, sym, ap, ◌∙◌, arith, append_assoc}
use Rattle.std.specs.Prelude.{filter}
use Rattle.std.proofs.Math.ListN.{drop_of_length-le}
use Rattle.std.proofs.lemmas.List.{drop_more, length-map}
use Rattle.std.proofs.lemmas.Option.{slice_get_within}
use Rattle.c2_spec.specs.Jumbf.Tree.{Tree, Trees, more, none, tree_bytes, trees_bytes}
use Rattle.c2_new_file_spec.specs.Manifests.{supers_in}
use Rattle.c2_new_file_spec.specs.Redacting.{redacted_box, redacted_boxes}
use Rattle.c2_collect_spec.specs.Sides.{boxes_then, carried_trees, is_carried_box, joined_boxes}
use Rattle.c2_collect.specs.Carried.{AreCarried, less_in, wanted_bytes, wanted_from, wanted_in}
use Rattle.c2_collect.specs.Marked.{MarkedStore, flag_at, is_marked, manifests_in}
use Rattle.c2_collect.proofs.Flags.{carried_by, then_bytes}
use Rattle.c2_collect.proofs.Manifests.{map_at}
use Rattle.c2_collect.proofs.Wanted.{append_none, append_one}
use Rattle.c2_lemmas.proofs.Bools.{and_true_is}
use Rattle.c2_lemmas.proofs.Options.{some_at}

-- ---- results

-- ---- one by one

-- as many as there are
less_length : (s : MarkedStore) (redacts : List (List ℕ)) → length (less_in redacts s) ≡ length (manifests_in s)
less_length s redacts = length-map (manifests_in s) (redacted_box redacts)

-- one that is wanted
pub append_less_one : (flags : List Bool) (s : MarkedStore) (redacts : List (List ℕ)) (k : ℕ) (out next all : List ℕ)
    → out ++ wanted_from flags k (drop k (less_in redacts s)) ≡ all → k < length (manifests_in s)
    → flag_at flags k ≡ true
    → ((m : Tree) → slice_get (manifests_in s) k ≡ Some m → next ≡ out ++ tree_bytes (redacted_box redacts m))
    → next ++ wanted_from flags (k + 1) (drop (k + 1) (less_in redacts s)) ≡ all
append_less_one flags s redacts k out next all h lt flag add =
    let m = some_at (manifests_in s) k lt in
    append_one flags (less_in redacts s) k out next all (tree_bytes (redacted_box redacts m.0)) h
    (map_at tree_bytes (less_in redacts s) k (redacted_box redacts m.0) (map_at (redacted_box redacts) (manifests_in s) k m.0 m.1))
    flag (add m.0 m.1)

-- one that isn't
pub append_less_none : (flags : List Bool) (s : MarkedStore) (redacts : List (List ℕ)) (k : ℕ) (out next all : List ℕ)
    → out ++ wanted_from flags k (drop k (less_in redacts s)) ≡ all → k < length (manifests_in s)
    → flag_at flags k ≡ false
    → next ≡ out → next ++ wanted_from flags (k + 1) (drop (k + 1) (less_in redacts s)) ≡ all
append_less_none flags s redacts k out next all h lt flag e =
    append_none flags (less_in redacts s) k out next all h (omega (arith, lt, less_length s redacts)) flag e

-- ---- the joined boxes

-- what flags want of a list that was mapped
wanted_map : (f : Tree → Tree) (flags : List Bool) (k : ℕ) (ts : List Tree)
    → wanted_in flags k (map f ts) ≡ map f (wanted_in flags k ts)
wanted_map f flags k [] = refl
wanted_map f flags k (t ∷ ts) = ap (λ (us : List Tree). cond (flag_at flags k) (f t ∷ us) us) (wanted_map f flags (k + 1) ts) ∙ go (flag_at flags k)
  where
    go : (b : Bool)
        → cond b (f t ∷ map f (wanted_in flags (k + 1) ts)) (map f (wanted_in flags (k + 1) ts)) ≡ map f (cond b (t ∷ wanted_in flags (k + 1) ts) (wanted_in flags (k + 1) ts))
    go true = refl
    go false = refl

-- boxes and trees behind them, each less what is redacted of it
redacted_then : (redacts : List (List ℕ)) (ts : Trees) (xs : List Tree)
    → redacted_boxes redacts (boxes_then ts xs) ≡ boxes_then (redacted_boxes redacts ts) (map (redacted_box redacts) xs)
redacted_then redacts none [] = refl
redacted_then redacts none (x ∷ xs) = ap (more (redacted_box redacts x)) (redacted_then redacts none xs)
redacted_then redacts (more t ts) xs = ap (more (redacted_box redacts t)) (redacted_then redacts ts xs)

-- the joined boxes by flags that say which manifests are carried
less_by : (redacts : List (List ℕ)) (old other : Trees) (reached : ℕ → Bool) (flags : List Bool)
    → ((i : ℕ) (t : Tree) → slice_get (supers_in other) i ≡ Some t → flag_at flags i ≡ is_carried_box (supers_in old) reached i t)
    → trees_bytes (redacted_boxes redacts old) ++ wanted_bytes flags (map (redacted_box redacts) (supers_in other)) ≡ trees_bytes (redacted_boxes redacts (joined_boxes old reached other))
less_by redacts old other reached flags each =
    let carried = carried_trees (supers_in old) reached (supers_in other) in
    ap (λ (xs : List Tree). trees_bytes (redacted_boxes redacts old) ++ trees_bytes (boxes_then none xs))
    (wanted_map (redacted_box redacts) flags 0 (supers_in other) ∙ ap (map (redacted_box redacts)) (carried_by old other reached flags each))
    ∙ sym (then_bytes (redacted_boxes redacts old) (map (redacted_box redacts) carried))
    ∙ ap trees_bytes (sym (redacted_then redacts old carried))

-- flags that say of each manifest whether it is carried
each_carried : (old other : MarkedStore) (flags : List Bool) → AreCarried old other flags (length (manifests_in other))
    → (i : ℕ) (t : Tree) → slice_get (manifests_in other) i ≡ Some t
    → flag_at flags i ≡ is_carried_box (manifests_in old) (is_marked other) i t
each_carried old other flags h i t is = h.each i t (slice_get_within (manifests_in other) i t is) is

-- bytes to which a store's boxes, and behind them those that are carried of another, were appended, each less what is redacted of it
pub less_behind : (old other : MarkedStore) (flags : List Bool) (redacts : List (List ℕ)) (before after : List ℕ)
    → AreCarried old other flags (length (manifests_in other))
    → after ≡ before ++ trees_bytes (redacted_boxes redacts old.boxes) ++ wanted_bytes flags (less_in redacts other)
    → after ≡ before ++ trees_bytes (redacted_boxes redacts (joined_boxes old.boxes (is_marked other) other.boxes))
less_behind old other flags redacts before after h e =
    e
    ∙ append_assoc before (trees_bytes (redacted_boxes redacts old.boxes))
    (wanted_bytes flags (less_in redacts other))
    ∙ ap (λ (x : List ℕ). before ++ x)
    (less_by redacts old.boxes other.boxes (is_marked other) flags (each_carried old other flags h))

-- where there is no other store
pub carried_less_behind : (other : MarkedStore) (flags : List Bool) (redacts : List (List ℕ)) (before after : List ℕ)
    → flags ≡ other.reached → after ≡ before ++ wanted_bytes flags (less_in redacts other)
    → after ≡ before ++ trees_bytes (redacted_boxes redacts (joined_boxes none (is_marked other) other.boxes))
carried_less_behind other flags redacts before after is e =
    e ∙ ap (λ (fs : List Bool). before ++ wanted_bytes fs (less_in redacts other)) is
    ∙ ap (λ (x : List ℕ). before ++ x)
    (less_by redacts none other.boxes (is_marked other) other.reached (λ i t at. and_true_is (is_marked other i)))

-- ---- numbers

-- as many are wanted as flags are set, from a place on
count_from : (flags : List Bool) (k : ℕ) (ts : List Tree) → length flags ≡ k + length ts
    → length (filter (λ b. b) (drop k flags)) ≡ length (wanted_in flags k ts)
count_from flags k [] e =
    ap (λ (bs : List Bool). length (filter (λ b. b) bs)) (drop_of_length-le flags (omega (arith, e)))
count_from flags k (t ∷ ts) e =
    ap (λ (bs : List Bool). length (filter (λ b. b) bs)) (drop_more flags k false (omega (arith, e)))
    ∙ go (flag_at flags k) (count_from flags (k + 1) ts (omega (arith, e)))
  where
    go : (b : Bool) → length (filter (λ b. b) (drop (k + 1) flags)) ≡ length (wanted_in flags (k + 1) ts)
        → length (filter (λ b. b) (b ∷ drop (k + 1) flags)) ≡ length (cond b (t ∷ wanted_in flags (k + 1) ts) (wanted_in flags (k + 1) ts))
    go true h = omega (arith, h)
    go false h = h

-- as many manifests are wanted of all as flags are set
count_wanted : (flags : List Bool) (ts : List Tree) → length flags ≡ length ts
    → length (filter (λ b. b) flags) ≡ length (wanted_in flags 0 ts)
count_wanted flags ts e = count_from flags 0 ts (omega (arith, e))

-- how many are carried
pub count_carried : (old other : MarkedStore) (flags : List Bool) (n : ℕ)
    → AreCarried old other flags (length (manifests_in other)) → n ≡ length (filter (λ b. b) flags)
    → n ≡ length (carried_trees (manifests_in old) (is_marked other) (manifests_in other))
count_carried old other flags n h e =
    e ∙ count_wanted flags (manifests_in other) h.count
    ∙ ap length (carried_by old.boxes other.boxes (is_marked other) flags (each_carried old other flags h))

-- where there is no other store
pub count_reached : (other : MarkedStore) (flags : List Bool) (n : ℕ) → flags ≡ other.reached
    → length flags ≡ length (manifests_in other) → n ≡ length (filter (λ b. b) flags)
    → n ≡ length (carried_trees [] (is_marked other) (manifests_in other))
count_reached other flags n is count e =
    e ∙ count_wanted flags (manifests_in other) count
    ∙ ap (λ (fs : List Bool). length (wanted_in fs 0 (manifests_in other))) is
    ∙ ap length
    (carried_by none other.boxes (is_marked other) other.reached (λ i t at. and_true_is (is_marked other i)))
