-- Labels that are sorted show the first that equals one before it.
use Rattle.std.proofs.Common.{◌≡◌, ℕ, suc, ◌-◌, ◌<◌, ◌≤◌, List, [], length, Option, Some, None, Contains, IsPermutation, IsSorted, sym, ap, subst, ◌∙◌, arith}
use denote.Ref.{Bor}
use Rattle.std.specs.Ordering.{nat_cmp, ordering_then}
use Rattle.std.specs.declared.cmp.Ordering.{Ordering}
use Rattle.std.specs.Cmp.Lexicographic.{slice_cmp}
use Rattle.std.proofs.lemmas.List.{get_or_default, length-map}
use Rattle.std.proofs.lemmas.List.Sorted.{Contains-permutation, IsPermutation-sym, IsPermutation-map}
use Rattle.c2_jumbf.specs.Labels.{Mark, marks, mark_cmp, mark_at, Repeats, RepeatsAt, LeastRepeated, NoneRepeats, IsFirstRepeated}
use Rattle.c2_lemmas.proofs.Marks.{repeats_between, sorted_map, stands_behind}

-- ---- what the sorted labels say of the labels

-- what a result says: no label is there twice, or where the first is that was there before
abbrev pub Settles : List Mark → Option ℕ → Type 0
Settles ks None = NoneRepeats ks
Settles ks (Some place) = IsFirstRepeated ks place

module _ (ks ms : List Mark) (moved : IsPermutation ks ms) (up : IsSorted mark_cmp ms) where
  -- where a label is, once they are sorted
  sorted_at : (x : Mark) → Contains ks x → (i : ℕ) × (i < length ms) × (mark_at ms i ≡ x)
  sorted_at x c =
      let m = Contains-permutation ks ms x moved c in
      (m.0, m.1, get_or_default ms m.0 (0, [], 0) x m.1 ∙ m.2)

  -- a label that is among the sorted ones was there before
  was_there : (i : ℕ) → i < length ms → Contains ks (mark_at ms i)
  was_there i l =
      Contains-permutation ms ks (mark_at ms i) (IsPermutation-sym ks ms moved)
      (i, l, get_or_default ms i (mark_at ms i) (0, [], 0) l)

  -- a label that repeats another shows beside the one before it
  shows : (x y : Mark) → Contains ks x → Contains ks y → Repeats x y
      → (k : ℕ) × (suc k < length ms) × RepeatsAt ms k × ((mark_at ms (suc k)).2 ≤ y.2)
  shows x y cx cy r =
      let a = sorted_at x cx in
      let b = sorted_at y cy in
      let there : Repeats (mark_at ms a.0) (mark_at ms b.0) =
      subst (λ u. Repeats u (mark_at ms b.0)) (sym a.2) (subst (Repeats x) (sym b.2) r) in
      let far = stands_behind ms up a.0 b.0 a.1 b.1 there in
      let k = repeats_between ms up (b.0 - a.0) a.0 b.0 (omega (arith, far)) b.1 there in
      (k.0, k.1, k.2, omega (arith, k.3, ap (λ u. u.2) b.2))

  -- the least place of a label beside its equal is that of the first that was there before; without one none is
  settles : (r : Option ℕ) → LeastRepeated ms (length ms) r → Settles ks r
  settles None h = λ x y cx cy r. let k = shows x y cx cy r in h k.0 k.1 k.2
  settles (Some place) h = record {
    earlier = mark_at ms h.0.0;
    later = mark_at ms (suc h.0.0);
    has_earlier = was_there h.0.0 (omega (arith, h.0.1));
    has_later = was_there (suc h.0.0) h.0.1;
    repeats = h.0.2;
    is = h.0.3;
    first = λ x y cx cy r. let k = shows x y cx cy r in omega (arith, h.1 k.0 k.1 k.2, k.3);
  }

-- ---- labels that are borrowed

-- a mark as the code keeps it, with its label borrowed
abbrev pub Lent : Type 0
Lent = ℕ × Bor (List ℕ) × ℕ

-- the order of such marks
abbrev pub lent_cmp : Lent → Lent → Ordering
lent_cmp x y = ordering_then (ordering_then (nat_cmp x.0 y.0) (slice_cmp nat_cmp x.1.now y.1.now)) (nat_cmp x.2 y.2)

-- the mark that it stands for
abbrev pub seen_as : Lent → Mark
seen_as m = (m.0, m.1.now, m.2)

-- what the code finds among the sorted labels is said of the labels
pub sorted_settles : (keys ks s : List Lent) (r : Option ℕ) → IsPermutation keys ks → IsSorted lent_cmp ks → s ≡ ks
    → LeastRepeated (marks s) (length s) r → Settles (marks keys) r
sorted_settles keys ks s r moved up same h =
    let here : LeastRepeated (marks ks) (length (marks ks)) r =
    subst (λ n. LeastRepeated (marks ks) n r) (sym (length-map ks seen_as))
    (subst (λ l. LeastRepeated (marks l) (length l) r) same h) in
    settles (marks keys) (marks ks) (IsPermutation-map seen_as keys ks moved) (sorted_map mark_cmp seen_as ks up) r here
