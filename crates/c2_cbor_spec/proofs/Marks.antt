-- Sorted keys show the first that equals one before it.
use Rattle.std.proofs.Common.{◌≡◌, ℕ, zero, suc, ◌+◌, ◌-◌, ◌<◌, ◌≤◌, true, List, [], ◌∷◌, ◌++◌}
use Rattle.std.proofs.Common.{length, get_or, Option, Some, None, take, drop, length-take-le, append_assoc}
use Rattle.std.proofs.Common.{append-nil, length-append, All, Contains, IsPermutation, IsSorted, refl}
use Rattle.std.proofs.Common.{sym, ap, subst, ◌∙◌, inl, inr, arith}
use denote.Ref.{Bor}
use Rattle.std.specs.Ordering.{nat_cmp, ordering_then}
use Rattle.std.specs.declared.cmp.Ordering.{Ordering}
use Rattle.std.specs.Cmp.Lexicographic.{slice_cmp}
use Rattle.std.proofs.lemmas.List.{get_or-map, get_or_default, length-map, map_push, take_more, drop_more}
use Rattle.std.proofs.Math.Seq.{take-append_seam, drop-append_seam}
use Rattle.std.proofs.lemmas.List.Elements.{All-contains_itself}
use Rattle.std.proofs.lemmas.List.Sorted.{All-permutation, IsPermutation-sym}
use Rattle.c2_spec.specs.declared.cbor.Cbor.{Cbor}
use Rattle.c2_cbor_spec.specs.Reading.{is_known}
use Rattle.c2_cbor_spec.specs.Tracking.{spelled, first_known, first_equal}
use Rattle.c2_cbor_spec.specs.Marks.{flat, lengths, StandIn, front_of, front_after, Mark, mark_of, marks, numbered, mark_cmp, IsKeyOrder, mark_at, Repeats, RepeatsAt, LeastRepeated}
use Rattle.c2_cbor_spec.proofs.Tracks.{first_repeats, repeats_first}
use Rattle.c2_lemmas.proofs.Marks.{repeats_between, stands_behind}

-- nothing is known at first
no_known : (k : List ℕ) → is_known k [] ≡ true → ⊥
no_known k e = cc

-- ---- numbered keys

-- as many marks as keys
numbered_len : (skip i : ℕ) (ks : List (List ℕ)) → length (numbered skip i ks) ≡ length ks
numbered_len skip i [] = refl
numbered_len skip i (k ∷ ks) = ap suc (numbered_len skip (suc i) ks)

-- the p-th mark
numbered_at : (skip i : ℕ) (ks : List (List ℕ)) (p : ℕ) → p < length ks
    → mark_at (numbered skip i ks) p ≡ (front_after skip (get_or ks p []), get_or ks p [], i + p)
numbered_at skip i [] p l = let never : ⊥ = omega (arith, l) in absurd never
numbered_at skip i (k ∷ ks) zero l = let e : i ≡ i + 0 = omega arith in ap (λ n. (front_after skip k, k, n)) e
numbered_at skip i (k ∷ ks) (suc p) l =
    let e : suc i + p ≡ i + suc p = omega arith in
    numbered_at skip (suc i) ks p (omega (arith, l))
    ∙ ap (λ n. (front_after skip (get_or ks p []), get_or ks p [], n)) e

-- the same, counted from 0
marked : (skip : ℕ) (ks : List (List ℕ)) (p : ℕ) → p < length ks
    → mark_at (numbered skip 0 ks) p ≡ (front_after skip (get_or ks p []), get_or ks p [], p)
marked skip ks p l = let e : 0 + p ≡ p = omega arith in numbered_at skip 0 ks p l ∙ ap (λ n. (front_after skip (get_or ks p []), get_or ks p [], n)) e

-- one more key
pub numbered_push : (skip i n : ℕ) (ks : List (List ℕ)) (k : List ℕ) → n ≡ i + length ks
    → numbered skip i (ks ++ k ∷ []) ≡ numbered skip i ks ++ (front_after skip k, k, n) ∷ []
numbered_push skip i n [] k e = let same : i ≡ n = omega (arith, e) in ap (λ m. (front_after skip k, k, m) ∷ []) same
numbered_push skip i n (x ∷ ks) k e =
    ap (λ ms. (front_after skip x, x, i) ∷ ms) (numbered_push skip (suc i) n ks k (omega (arith, e)))

module _ (skip : ℕ) (ks : List (List ℕ)) where
  -- a mark of these keys
  abbrev pub IsMark : Mark → Type 0
  IsMark m = (m.0 ≡ front_after skip m.1) × (m.2 < length ks) × (m.1 ≡ get_or ks m.2 [])

  -- each is one
  all_marks : All IsMark (numbered skip 0 ks)
  all_marks p d l =
      let lp : p < length ks = omega (arith, l, numbered_len skip 0 ks) in
      subst IsMark (sym (get_or_default (numbered skip 0 ks) p d (0, [], 0) l ∙ marked skip ks p lp)) (refl, lp, refl)

  module _ (ms : List Mark) (moved : IsPermutation (numbered skip 0 ks) ms) (up : IsSorted mark_cmp ms) where
    -- each is one once they are moved
    pub mark_is : (i : ℕ) → i < length ms → IsMark (mark_at ms i)
    mark_is i l = All-permutation IsMark (numbered skip 0 ks) ms moved all_marks i (0, [], 0) l

    -- each key has its mark
    pub stands : (p : ℕ) → p < length ks
        → (i : ℕ) × (i < length ms) × (mark_at ms i ≡ (front_after skip (get_or ks p []), get_or ks p [], p))
    stands p l =
        let lp : p < length (numbered skip 0 ks) = omega (arith, l, numbered_len skip 0 ks) in
        let c : Contains ms (mark_at (numbered skip 0 ks) p) =
        All-permutation (Contains ms) ms (numbered skip 0 ks) (IsPermutation-sym (numbered skip 0 ks) ms moved)
        (All-contains_itself ms) p (0, [], 0) lp in
        (c.0, c.1, get_or_default ms c.0 (0, [], 0) (mark_at (numbered skip 0 ks) p) c.1 ∙ c.2 ∙ marked skip ks p l)

    -- where two keys are equal, a mark repeats the one before it
    pub shows : (p q : ℕ) → p < q → q < length ks → get_or ks p [] ≡ get_or ks q []
        → (k : ℕ) × (suc k < length ms) × RepeatsAt ms k × ((mark_at ms (suc k)).2 ≤ q)
    shows p q l m e =
        let a = stands p (omega (arith, l, m)) in
        let b = stands q m in
        let r : Repeats (mark_at ms a.0) (mark_at ms b.0) = (
          ap (λ x. x.0) a.2 ∙ ap (front_after skip) e ∙ sym (ap (λ x. x.0) b.2),
          ap (λ x. x.1) a.2 ∙ e ∙ sym (ap (λ x. x.1) b.2),
          omega (arith, l, ap (λ x. x.2) a.2, ap (λ x. x.2) b.2),
        ) in
        let far = stands_behind ms up a.0 b.0 a.1 b.1 r in
        let k = repeats_between ms up (b.0 - a.0) a.0 b.0 (omega (arith, far)) b.1 r in
        (k.0, k.1, k.2, omega (arith, k.3, ap (λ x. x.2) b.2))

    -- a mark that repeats the one before it has a key that equals an earlier one
    shown : (k : ℕ) → suc k < length ms → RepeatsAt ms k
        → (j : ℕ) × (first_known [] 0 ks ≡ Some j) × (j ≤ (mark_at ms (suc k)).2)
    shown k l r =
        let x = mark_is k (omega (arith, l)) in
        let y = mark_is (suc k) l in
        let j = repeats_first [] 0 ks (mark_at ms (suc k)).2 y.1 (inr ((mark_at ms k).2, r.2, sym x.2 ∙ r.1 ∙ y.2)) in
        (j.0, j.1, omega (arith, j.2))

    -- where a key equals one before it, the scan finds one no later
    shows_first : (j : ℕ) → first_known [] 0 ks ≡ Some j
        → (k : ℕ) × (suc k < length ms) × RepeatsAt ms k × ((mark_at ms (suc k)).2 ≤ j)
    shows_first j e =
        let f = first_repeats [] 0 j ks e in
        elim f.3 [
          | inl h ↦ absurd (no_known (get_or ks f.0 []) h)
          | inr h ↦ let k = shows h.0 f.0 h.1 f.1 h.2 in (k.0, k.1, k.2, omega (arith, k.3, f.2))
        ]

    -- the least number that the scan finds is that of the first equal key
    pub least_is_first : (r : Option ℕ) → LeastRepeated ms (length ms) r → r ≡ first_known [] 0 ks
    least_is_first None h =
        elim (first_known [] 0 ks) as (λ o. first_known [] 0 ks ≡ o → None ≡ o) [
          | None ↦ λ e. refl
          | Some j ↦ λ e. let k = shows_first j e in absurd (h k.0 k.1 k.2)
        ] refl
    least_is_first (Some n) h =
        let there = shown h.0.0 h.0.1 h.0.2 in
        let k = shows_first there.0 there.1 in
        let least : n ≤ (mark_at ms (suc k.0)).2 = h.1 k.0 k.1 k.2 in
        let same : n ≡ there.0 = omega (arith, least, k.3, there.2, h.0.3) in
        ap Some same ∙ sym there.1

-- ---- the same of marks whose keys are lent

-- a mark as the code keeps it, with its key borrowed
abbrev pub Lent : Type 0
Lent = ℕ × Bor (List ℕ) × ℕ

-- the order of such marks
abbrev pub lent_cmp : Lent → Lent → Ordering
lent_cmp x y = ordering_then (ordering_then (nat_cmp x.0 y.0) (slice_cmp nat_cmp x.1.now y.1.now)) (nat_cmp x.2 y.2)

-- a lent mark, seen
pub lent_at : (ms : List Lent) (i : ℕ) (d : Lent) → i < length ms → mark_of (get_or ms i d) ≡ mark_at (marks ms) i
lent_at ms i d l = sym (get_or-map mark_of ms i d (0, [], 0) l)

-- ---- what the code does

-- what is cut off is the next key
pub key_cut : (ks : List (List ℕ)) (lens rest left : List ℕ) (i n : ℕ) (k : List ℕ)
    → i < length lens → n ≡ get_or lens i 0 → lens ≡ lengths ks → k ≡ take n rest → left ≡ drop n rest
    → rest ≡ flat (drop i ks)
    → (k ≡ get_or ks i []) × (left ≡ flat (drop (i + 1) ks))
key_cut ks lens rest left i n k lt is all front back h =
    let x : List ℕ = get_or ks i [] in
    let lk : i < length ks = omega (arith, lt, ap length all, length-map ks (λ k. length k)) in
    let len : n ≡ length x = is ∙ ap (λ l. get_or l i 0) all ∙ get_or-map (λ k. length k) ks i [] 0 lk in
    let parts : rest ≡ x ++ flat (drop (i + 1) ks) = h ∙ ap flat (drop_more ks i [] lk) in (
      front ∙ ap (λ m. take m rest) len ∙ ap (take (length x)) parts ∙ take-append_seam x (flat (drop (i + 1) ks)),
      back ∙ ap (λ m. drop m rest) len ∙ ap (drop (length x)) parts ∙ drop-append_seam x (flat (drop (i + 1) ks)),
    )

-- a mark's key is cut off
pub mark_cut : (skip : ℕ) (ms later : List Lent) (ks : List (List ℕ)) (lens rest left : List ℕ) (i n f : ℕ) (k : Bor (List ℕ)) (b : List ℕ)
    → i < length lens → n ≡ get_or lens i 0 → lens ≡ lengths ks → later ≡ ms ++ (f, k, i) ∷ [] → k.now ≡ take n rest
    → left ≡ drop n rest → f ≡ front_of b → b ≡ drop skip k.now
    → (rest ≡ flat (drop i ks)) × (marks ms ≡ numbered skip 0 (take i ks))
    → (left ≡ flat (drop (i + 1) ks)) × (marks later ≡ numbered skip 0 (take (i + 1) ks))
mark_cut skip ms later ks lens rest left i n f k b lt is all put front back first same h =
    let x : List ℕ = get_or ks i [] in
    let c = key_cut ks lens rest left i n k.now lt is all front back h.0 in
    let lk : i < length ks = omega (arith, lt, ap length all, length-map ks (λ k. length k)) in
    let long : i ≡ 0 + length (take i ks) = omega (arith, length-take-le i ks (omega (arith, lk))) in
    let number : f ≡ front_after skip x = first ∙ ap front_of (same ∙ ap (drop skip) c.0) in (
      c.1,
      ap marks put ∙ map_push mark_of ms (f, k, i) ∙ ap (λ l. l ++ (f, k.now, i) ∷ []) h.1
          ∙ ap (λ y. numbered skip 0 (take i ks) ++ (y, k.now, i) ∷ []) number
          ∙ ap (λ y. numbered skip 0 (take i ks) ++ (front_after skip x, y, i) ∷ []) c.0
          ∙ sym (numbered_push skip 0 i (take i ks) x long) ∙ ap (numbered skip 0) (sym (take_more ks i [] lk)),
    )

-- one more key is spelled
pub flat_push : (ks : List (List ℕ)) (k : List ℕ) → flat (ks ++ k ∷ []) ≡ flat ks ++ k
flat_push [] k = append-nil k
flat_push (x ∷ xs) k = ap (λ y. x ++ y) (flat_push xs k) ∙ sym (append_assoc x (flat xs) k)

-- the same of bytes and lengths
pub spelled_on : (ks later : List (List ℕ)) (k old new lens lens2 : List ℕ) (n : ℕ) → later ≡ ks ++ k ∷ []
    → new ≡ old ++ k → lens2 ≡ lens ++ n ∷ [] → n ≡ length new - length old
    → StandIn ks old lens → StandIn later new lens2
spelled_on ks later k old new lens lens2 n same put more count h =
    let len : n ≡ length k = omega (arith, count, ap length put, length-append old k) in
    record {
      flat = put ∙ ap (λ x. x ++ k) h.flat ∙ sym (flat_push ks k) ∙ ap flat (sym same);
      lengths =
          more ∙ ap (λ x. x ++ n ∷ []) h.lengths ∙ ap (λ x. lengths ks ++ x ∷ []) len
          ∙ sym (map_push (λ k. length k) ks k) ∙ ap lengths (sym same);
    }

-- what the scan of sorted keys finds is the first equal key
pub sorted_first : (ps : List (Cbor × Cbor)) (ks s : List Lent) (r : Option ℕ) → IsKeyOrder (spelled ps) (marks ks)
    → s ≡ ks → LeastRepeated (marks s) (length s) r → r ≡ first_equal ps
sorted_first ps ks s r o same h =
    let here : LeastRepeated (marks ks) (length (marks ks)) r =
    subst (λ n. LeastRepeated (marks ks) n r) (sym (length-map ks mark_of))
    (subst (λ l. LeastRepeated (marks l) (length l) r) same h) in
    least_is_first o.skip (spelled ps) (marks ks) o.moved o.up r here

-- the same of lists that are equal
pub stand_moved : (ks : List (List ℕ)) (bytes lens bytes2 lens2 : List ℕ) → bytes2 ≡ bytes → lens2 ≡ lens
    → StandIn ks bytes lens → StandIn ks bytes2 lens2
stand_moved ks bytes lens bytes2 lens2 e f s = record { flat = e ∙ s.flat; lengths = f ∙ s.lengths }
