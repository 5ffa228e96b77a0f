-- The entries of sorted keys are the pairs in the order in which they are inserted one by one.
use Rattle.std.proofs.Common.{◌≡◌, ℕ, suc, ◌+◌, ◌<◌, List, [], ◌∷◌, ◌++◌, length, get_or, drop, map, IsPermutation, IsSorted, Result, OnOk, append_assoc, refl, sym, ap, subst, ◌∙◌, arith}
use Rattle.std.specs.List.{AllByRecursion}
use Rattle.std.specs.BTreeSet.{insert_key}
use Rattle.std.specs.Ordering.{nat_cmp, ordering_then, match_ordering}
use Rattle.std.specs.declared.cmp.Ordering.{Ordering}
use Rattle.std.specs.declared.cmp.Ordering.TheVariants.{Less, Equal, Greater}
use Rattle.std.specs.Cmp.{nat_cmp_is}
use Rattle.std.specs.Cmp.Lexicographic.{slice_cmp}
use Rattle.std.proofs.lemmas.List.{get_or-drop, drop-drop, drop_more, length-map}
use Rattle.c2_cbor_spec.specs.Marks.{Bytes, AllBytes, AgreeBelow, AllAgree, front_after, Mark, mark_of, marks, mark_at, numbered, mark_cmp, IsKeyOrder}
use Rattle.c2_spec.specs.Cbor.Item.{Pairs, no_pairs, Item, pair}
use Rattle.c2_spec.specs.Cbor.View.{view, pairs_view}
use Rattle.c2_spec.specs.Cbor.Deterministic.{preferred_pairs, deterministic, sorted, sorted_pairs, insert_pair, preferred}
use Rattle.c2_spec.specs.declared.cbor.Cbor.{Cbor}
use Rattle.c2_cbor_write.specs.Entries.{Entry, insert_entry, entry_bytes, entry_of, det_keys, det_values, AreKeysOf}
use Rattle.c2_cbor_spec.proofs.Marks.{Lent, lent_at, mark_is}
use Rattle.c2_cbor_spec.proofs.Marked.{Fits, fits_more, mark_order, all_insert, all_map, inserted, sorted_is}

-- ---- the spelled pairs of an item

-- the pairs as entries: the bytes of each key and value
abbrev pub entries_of : Pairs → List Entry
entries_of no_pairs = []
entries_of (pair k v ps) = (preferred k, preferred v) ∷ entries_of ps

-- the bytes of a map's entries
pub entries_bytes : (ps : Pairs) → entry_bytes (entries_of ps) ≡ preferred_pairs ps
entries_bytes no_pairs = refl
entries_bytes (pair k v ps) = ap (λ x. (preferred k ++ preferred v) ++ x) (entries_bytes ps)

-- a choice of entries
placed : (o : Ordering) (a b c : Pairs)
    → entries_of (match_ordering o a b c) ≡ match_ordering o (entries_of a) (entries_of b) (entries_of c)
placed Less a b c = refl
placed Equal a b c = refl
placed Greater a b c = refl

-- inserting a pair inserts its entry
pub entries_insert : (ps : Pairs) (k v : Item)
    → entries_of (insert_pair ps k v) ≡ insert_entry (entries_of ps) (preferred k, preferred v)
entries_insert no_pairs k v = refl
entries_insert (pair l w ps) k v =
    placed (slice_cmp nat_cmp (preferred k) (preferred l)) (pair k v (pair l w ps)) (pair l w (insert_pair ps k v))
    (pair l w (insert_pair ps k v))
    ∙ ap
    (λ r. match_ordering (slice_cmp nat_cmp (preferred k) (preferred l)) ((preferred k, preferred v) ∷ (preferred l, preferred w) ∷ entries_of ps) ((preferred l, preferred w) ∷ r) ((preferred l, preferred w) ∷ r))
    (entries_insert ps k v)

-- ---- the entries of marks

-- all of some pairs inserted as entries into others
abbrev entered : List Entry → List (Cbor × Cbor) → List Entry
entered es [] = es
entered es (p ∷ ps) = entered (insert_entry es (deterministic (view p.0), deterministic (view p.1))) ps

-- a choice by two orders where the second is greater
chosen_by : (o p : Ordering) → p ≡ Greater → (f : List Mark → List Entry) (x y z : List Mark)
    → f (match_ordering (ordering_then o p) x y z) ≡ match_ordering o (f x) (f z) (f z)
chosen_by Less p e f x y z = refl
chosen_by Equal p e f x y z = ap (λ r. f (match_ordering r x y z)) e
chosen_by Greater p e f x y z = refl

-- inserting a mark is inserting its entry
insert_one : (skip : ℕ) (a : List ℕ) (vs : List (List ℕ)) (n : ℕ) (k : List ℕ) (ms : List Mark) → Bytes k
    → AgreeBelow skip a k → AllByRecursion (Fits skip a n) ms
    → map (entry_of vs) (insert_key mark_cmp ms (front_after skip k, k, n)) ≡ insert_entry (map (entry_of vs) ms) (k, get_or vs n [])
insert_one skip a vs n k [] b g h = refl
insert_one skip a vs n k (x ∷ xs) b g h =
    let m : Mark = (front_after skip k, k, n) in
    let e : Entry = (k, get_or vs n []) in
    let fits : Fits skip a (suc n) m = record { front = refl; bytes = b; agree = g; below = omega arith } in
    let above : nat_cmp n x.2 ≡ Greater = sym (nat_cmp_is n x.2 Greater h.0.below) in
    ap (λ o. map (entry_of vs) (match_ordering o (m ∷ x ∷ xs) (x ∷ xs) (x ∷ insert_key mark_cmp xs m)))
    (mark_order skip a (suc n) n m x fits h.0)
    ∙ chosen_by (slice_cmp nat_cmp k x.1) (nat_cmp n x.2) above (map (entry_of vs)) (m ∷ x ∷ xs) (x ∷ xs)
    (x ∷ insert_key mark_cmp xs m)
    ∙ ap
    (λ r. match_ordering (slice_cmp nat_cmp k x.1) (e ∷ map (entry_of vs) (x ∷ xs)) (entry_of vs x ∷ r) (entry_of vs x ∷ r))
    (insert_one skip a vs n k xs b g h.1)

-- what a list goes on with at n is its n-th element and the rest
module _ {A : Type 0} (d : A) (vs : List A) (n : ℕ) (first : A) (rest : List A) (e : drop n vs ≡ first ∷ rest) where
  -- the member at n
  pub here_is : get_or vs n d ≡ first
  here_is = let z : n ≡ n + 0 = omega arith in ap (λ i. get_or vs i d) z ∙ sym (get_or-drop n vs 0 d) ∙ ap (λ l. get_or l 0 d) e

  -- the members after n
  pub rest_is : drop (suc n) vs ≡ rest
  rest_is = let z : suc n ≡ n + 1 = omega arith in ap (λ i. drop i vs) z ∙ sym (drop-drop 1 n vs) ∙ ap (drop 1) e

-- inserting all marks is entering all pairs
entries_inserted : (skip : ℕ) (a : List ℕ) (vs : List (List ℕ)) (n : ℕ) (ps : List (Cbor × Cbor)) (ms : List Mark)
    → drop n vs ≡ det_values ps → AllBytes (det_keys ps) → AllAgree skip a (det_keys ps)
    → AllByRecursion (Fits skip a n) ms
    → map (entry_of vs) (inserted ms (numbered skip n (det_keys ps))) ≡ entered (map (entry_of vs) ms) ps
entries_inserted skip a vs n [] ms e b g h = refl
entries_inserted skip a vs n (p ∷ ps) ms e b g h =
    let k = deterministic (view p.0) in
    let v = deterministic (view p.1) in
    let here : Fits skip a (suc n) (front_after skip k, k, n) =
    record { front = refl; bytes = b.0; agree = g.0; below = omega arith } in
    let fits : AllByRecursion (Fits skip a (suc n)) (insert_key mark_cmp ms (front_after skip k, k, n)) =
    all_insert (Fits skip a (suc n)) ms (front_after skip k, k, n) here
    (all_map (Fits skip a n) (Fits skip a (suc n)) ms (fits_more skip a n (suc n) (omega arith)) h) in
    entries_inserted skip a vs (suc n) ps (insert_key mark_cmp ms (front_after skip k, k, n))
    (rest_is [] vs n v (det_values ps) e) b.1 g.1 fits
    ∙ ap (λ es. entered es ps)
    (insert_one skip a vs n k ms b.0 g.0 h ∙ ap (λ x. insert_entry (map (entry_of vs) ms) (k, x)) (here_is [] vs n v (det_values ps) e))

-- entering pairs is sorting them
entered_is : (ps : List (Cbor × Cbor)) (before : Pairs)
    → entered (entries_of before) ps ≡ entries_of (sorted_pairs (pairs_view ps) before)
entered_is [] before = refl
entered_is (p ∷ ps) before =
    ap (λ es. entered es ps) (sym (entries_insert before (sorted (view p.0)) (sorted (view p.1))))
    ∙ entered_is ps (insert_pair before (sorted (view p.0)) (sorted (view p.1)))

-- the entries in the order of sorted keys are the pairs in their order
pub in_order : (ps : List (Cbor × Cbor)) (ms : List Mark) → IsKeyOrder (det_keys ps) ms
    → entry_bytes (map (entry_of (det_values ps)) ms) ≡ preferred_pairs (sorted_pairs (pairs_view ps) no_pairs)
in_order ps ms o =
    ap (λ l. entry_bytes (map (entry_of (det_values ps)) l)) (sorted_is o.skip (det_keys ps) ms o.moved o.up)
    ∙ ap entry_bytes
    (entries_inserted o.skip o.shared.0 (det_values ps) 0 ps [] refl o.bytes o.shared.1 tt ∙ entered_is ps no_pairs)
    ∙ entries_bytes (sorted_pairs (pairs_view ps) no_pairs)

-- ---- what the code does

-- each key in that order is that of the pair with its number
pub keys_are : (ps : List (Cbor × Cbor)) (ms s : List Lent) → IsKeyOrder (det_keys ps) (marks ms) → s ≡ ms
    → AreKeysOf ps s
keys_are ps ms s o same = λ i d l.
    let lt : i < length (marks s) = omega (arith, l, length-map s mark_of) in
    let is =
    mark_is o.skip (det_keys ps) (marks s)
    (subst (λ x. IsPermutation (numbered o.skip 0 (det_keys ps)) (marks x)) (sym same) o.moved)
    (subst (λ x. IsSorted mark_cmp (marks x)) (sym same) o.up) i lt in
    subst (λ (m : Mark). m.1 ≡ get_or (det_keys ps) m.2 []) (sym (lent_at s i d l)) is.2

-- the key at one place among lent ones
pub sorted_key : {X E : Type 0} (r : Result X E) (keys : List Lent) (i : ℕ) (d : Lent) (old mid new : List ℕ)
    → i < length keys → mid ≡ old → OnOk r (new ≡ mid ++ (get_or keys i d).1.now)
    → OnOk r (new ≡ old ++ (mark_at (marks keys) i).1)
sorted_key r keys i d old mid new lt same h =
    subst (λ w. OnOk r (new ≡ w))
    (ap (λ x. x ++ (get_or keys i d).1.now) same ∙ ap (λ (m : Mark). old ++ m.1) (lent_at keys i d lt)) h

-- what was written with one more entry
pub entry_on : (vs : List (List ℕ)) (keys : List Lent) (i : ℕ) (d : Lent) (old mid new whole : List ℕ)
    → i < length keys → mid ≡ old ++ (mark_at (marks keys) i).1 → new ≡ mid ++ get_or vs (get_or keys i d).2 []
    → old ++ entry_bytes (map (entry_of vs) (marks (drop i keys))) ≡ whole
    → new ++ entry_bytes (map (entry_of vs) (marks (drop (i + 1) keys))) ≡ whole
entry_on vs keys i d old mid new whole lt p q h =
    let k : List ℕ = (get_or keys i d).1.now in
    let v : List ℕ = get_or vs (get_or keys i d).2 [] in
    let rest : List ℕ = entry_bytes (map (entry_of vs) (marks (drop (i + 1) keys))) in
    let key : mid ≡ old ++ k = p ∙ ap (λ (m : Mark). old ++ m.1) (sym (lent_at keys i d lt)) in
    ap (λ x. x ++ rest) (q ∙ ap (λ x. x ++ v) key ∙ append_assoc old k v) ∙ append_assoc old (k ++ v) rest
    ∙ ap (λ ks. old ++ entry_bytes (map (entry_of vs) (marks ks))) (sym (drop_more keys i d lt)) ∙ h

-- what was written in that order
pub det_written : (ps : List (Cbor × Cbor)) (ms : List Lent) (s : List Lent) (old new : List ℕ)
    → IsKeyOrder (det_keys ps) (marks ms) → s ≡ ms → new ≡ old ++ entry_bytes (map (entry_of (det_values ps)) (marks s))
    → new ≡ old ++ preferred_pairs (sorted_pairs (pairs_view ps) no_pairs)
det_written ps ms s old new o same e =
    e ∙ ap (λ l. old ++ entry_bytes (map (entry_of (det_values ps)) (marks l))) same
    ∙ ap (λ x. old ++ x) (in_order ps (marks ms) o)
