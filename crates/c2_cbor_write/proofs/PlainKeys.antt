-- Where the sorted keys of a map differ, and its keys and values are plain, the map is plain; what is plain has distinct keys.
use Rattle.std.proofs.Common.{◌≡◌, ◌↔◌, ℕ, zero, suc, ◌<◌, Bool, true, false, List, [], ◌∷◌, length, get_or, drop, Option, Some, None, Result, IfOk, is_none, Vec, Box, refl, sym, ap, subst, ◌∙◌, arith}
use Rattle.std.specs.declared.alloc.Global.{Global}
use Rattle.std.proofs.lemmas.List.{get_or-map, length-map, length-drop}
use Rattle.c2_spec.specs.Cbor.Item.{Item, uint, nint, bytes, text, list, dict, tag, simple, half, single, double, Items, no_items, item, Pairs, no_pairs, pair}
use Rattle.c2_spec.specs.Cbor.View.{view, items_view, pairs_view}
use Rattle.c2_spec.specs.Cbor.Deterministic.{deterministic}
use Rattle.c2_spec.specs.Cbor.Plain.{DiffersFrom, HasPlainKeys, ItemsHavePlainKeys, PairsHavePlainKeys}
use Rattle.c2_spec.specs.Cbor.Legal.{HasDistinctKeys, ItemsHaveDistinctKeys, PairsHaveDistinctKeys}
use Rattle.c2_spec.specs.declared.cbor.Cbor.{Cbor, List as List', Map, Tag}
use Rattle.c2_cbor_write.specs.Entries.{det_keys, value_at, KeysPlain, ValuesPlain}
use Rattle.c2_cbor_spec.specs.Marks.{Mark, mark_of, marks, mark_at, IsKeyOrder, LeastRepeated}
use Rattle.c2_cbor_spec.proofs.Marks.{Lent, mark_is, stands, shows}
use Rattle.c2_cbor_write.proofs.Entries.{here_is, rest_is}
use Rattle.c2_cbor_spec.proofs.Views.{view-Map, view-Tag}
use Rattle.c2_spec.proofs.CborViews.{view-List}
use Rattle.c2_spec.proofs.CborShared.{new_from_bytes}

-- ---- a plain map

-- the value of the i-th mark
values_at : (ps : List (Cbor × Cbor)) (ms : List Mark) (i : ℕ) → ValuesPlain ps ms → i < length ms
    → HasPlainKeys (value_at ps (mark_at ms i).2)
values_at ps [] i h l = let never : ⊥ = omega (arith, l) in absurd never
values_at ps (m ∷ ms) zero h l = h.0
values_at ps (m ∷ ms) (suc i) h l = values_at ps ms i h.1 (omega (arith, l))

module _ (all : List (Cbor × Cbor)) (n : ℕ) (p : Cbor × Cbor) (ps : List (Cbor × Cbor)) (e : drop n all ≡ p ∷ ps) where
  -- there is an n-th pair
  here_in : n < length all
  here_in = omega (arith, length-drop n all, ap length e)

  -- its key's bytes
  key_here : get_or (det_keys all) n [] ≡ deterministic (view p.0)
  key_here =
      get_or-map (λ q. deterministic (view q.0)) all n p [] here_in
      ∙ ap (λ q. deterministic (view q.0)) (here_is p all n p ps e)

  -- its value
  value_here : value_at all n ≡ view p.1
  value_here = get_or-map (λ q. view q.1) all n p (simple 22) here_in ∙ ap (λ q. view q.1) (here_is p all n p ps e)

module _ (all : List (Cbor × Cbor)) (ms : List Mark) (o : IsKeyOrder (det_keys all) ms) (least : LeastRepeated ms (length ms) None) where
  -- no two keys have the same bytes
  differ : (p q : ℕ) → p < q → q < length (det_keys all) → get_or (det_keys all) p [] ≡ get_or (det_keys all) q [] → ⊥
  differ p q l m e = let k = shows o.skip (det_keys all) ms o.moved o.up p q l m e in least k.0 k.1 k.2

  -- each value is plain
  value_plain : ValuesPlain all ms → (p : ℕ) → p < length (det_keys all) → HasPlainKeys (value_at all p)
  value_plain h p l =
      let s = stands o.skip (det_keys all) ms o.moved o.up p l in
      subst (λ n. HasPlainKeys (value_at all n)) (ap (λ m. m.2) s.2) (values_at all ms s.0 h s.1)

  -- the n-th key differs from those from the m-th on
  differs : (n m : ℕ) (k : Item) (rs : List (Cbor × Cbor)) → get_or (det_keys all) n [] ≡ deterministic k
      → drop m all ≡ rs → n < m → DiffersFrom k (pairs_view rs)
  differs n m k [] here e l = tt
  differs n m k (r ∷ rs) here e l =
      let inside : m < length (det_keys all) = omega (arith, here_in all m r rs e, length-map all (λ q. deterministic (view q.0))) in (
        λ same. differ n m l inside (here ∙ same ∙ sym (key_here all m r rs e)),
        differs n (suc m) k rs here (rest_is r all m r rs e) (omega (arith, l)),
      )

  -- what is left from the n-th pair on is plain
  plain_from : (n : ℕ) (qs : List (Cbor × Cbor)) → drop n all ≡ qs → KeysPlain qs → ValuesPlain all ms
      → PairsHavePlainKeys (pairs_view qs)
  plain_from n [] e h v = tt
  plain_from n (q ∷ qs) e h v =
      let inside : n < length (det_keys all) = omega (arith, here_in all n q qs e, length-map all (λ p. deterministic (view p.0))) in (
        h.0,
        subst HasPlainKeys (value_here all n q qs e) (value_plain v n inside),
        differs n (suc n) (view q.0) qs (key_here all n q qs e) (rest_is q all n q qs e) (omega arith),
        plain_from (suc n) qs (rest_is q all n q qs e) h.1 v,
      )

  -- the whole map is plain
  pub plain_map : KeysPlain all → ValuesPlain all ms → PairsHavePlainKeys (pairs_view all)
  plain_map h v = plain_from 0 all refl h v

-- ---- what a plain map is

-- a key that differs from all of some keys is none of them
differs_at : (k : Item) (ps : List (Cbor × Cbor)) → DiffersFrom k (pairs_view ps)
    → (n : ℕ) → n < length (det_keys ps) → deterministic k ≡ get_or (det_keys ps) n [] → ⊥
differs_at k [] h n l e = omega (arith, l)
differs_at k (p ∷ ps) h zero l e = h.0 e
differs_at k (p ∷ ps) h (suc n) l e = differs_at k ps h.1 n (omega (arith, l)) e

-- no two keys of a plain map have the same bytes
plain_differ : (ps : List (Cbor × Cbor)) → PairsHavePlainKeys (pairs_view ps)
    → (m n : ℕ) → m < n → n < length (det_keys ps) → get_or (det_keys ps) m [] ≡ get_or (det_keys ps) n [] → ⊥
plain_differ [] h m n lt l e = omega (arith, l)
plain_differ (p ∷ ps) h m zero lt l e = omega (arith, lt)
plain_differ (p ∷ ps) h zero (suc n) lt l e = differs_at (view p.0) ps h.2 n (omega (arith, l)) e
plain_differ (p ∷ ps) h (suc m) (suc n) lt l e = plain_differ ps h.3 m n (omega (arith, lt)) (omega (arith, l)) e

-- the keys of a plain map are plain
plain_keys : (ps : List (Cbor × Cbor)) → PairsHavePlainKeys (pairs_view ps) → KeysPlain ps
plain_keys [] h = tt
plain_keys (p ∷ ps) h = (h.0, plain_keys ps h.3)

-- each value of a plain map is plain
plain_value : (ps : List (Cbor × Cbor)) → PairsHavePlainKeys (pairs_view ps) → (n : ℕ) → HasPlainKeys (value_at ps n)
plain_value [] h n = tt
plain_value (p ∷ ps) h zero = h.1
plain_value (p ∷ ps) h (suc n) = plain_value ps h.3 n

-- so are those with numbers that marks have
plain_values : (ps : List (Cbor × Cbor)) (ms : List Mark) → PairsHavePlainKeys (pairs_view ps) → ValuesPlain ps ms
plain_values ps [] h = tt
plain_values ps (m ∷ ms) h = (plain_value ps h m.2, plain_values ps ms h)

-- none of its sorted keys repeats the one before it
plain_none : (ps : List (Cbor × Cbor)) (ms : List Mark) → IsKeyOrder (det_keys ps) ms
    → PairsHavePlainKeys (pairs_view ps)
    → LeastRepeated ms (length ms) None
plain_none ps ms o h i l r =
    let x = mark_is o.skip (det_keys ps) ms o.moved o.up i (omega (arith, l)) in
    let y = mark_is o.skip (det_keys ps) ms o.moved o.up (suc i) l in
    plain_differ ps h _ _ r.2 y.1 (sym x.2 ∙ r.1 ∙ y.2)

-- a map is plain exactly where its sorted keys differ and its keys and values are plain
pub plain_pairs : (ps : List (Cbor × Cbor)) (ks s t : List Lent) (whole differ parts keys values : Bool)
    → IsKeyOrder (det_keys ps) (marks ks) → s ≡ ks → t ≡ ks
    → ((differ ≡ true) ↔ LeastRepeated (marks s) (length s) None)
    → ((keys ≡ true) ↔ KeysPlain ps) → ((values ≡ true) ↔ ValuesPlain ps (marks t))
    → ((parts ≡ true) ↔ ((keys ≡ true) × (values ≡ true))) → ((whole ≡ true) ↔ ((differ ≡ true) × (parts ≡ true)))
    → (whole ≡ true) ↔ PairsHavePlainKeys (pairs_view ps)
plain_pairs ps ks s t whole differ parts keys values o same there least kp vp both all =
    let len : length (marks ks) ≡ length ks = length-map ks mark_of in
    let here : (differ ≡ true) ↔ LeastRepeated (marks ks) (length (marks ks)) None =
    subst (λ n. (differ ≡ true) ↔ LeastRepeated (marks ks) n None) (sym len)
    (subst (λ l. (differ ≡ true) ↔ LeastRepeated (marks l) (length l) None) same least) in
    let vals : (values ≡ true) ↔ ValuesPlain ps (marks ks) = subst (λ l. (values ≡ true) ↔ ValuesPlain ps (marks l)) there vp in (
      λ e. let w = all.0 e in let p = both.0 w.1 in plain_map ps (marks ks) o (here.0 w.0) (kp.0 p.0) (vals.0 p.1),
      λ h. all.1 (here.1 (plain_none ps (marks ks) o h), both.1 (kp.1 (plain_keys ps h), vals.1 (plain_values ps (marks ks) h))),
    )

-- a search that finds no key, exactly where none repeats the one before it
pub none_repeats : (ms : List Mark) (n : ℕ) (r : Option ℕ) (b : Bool) → LeastRepeated ms n r → b ≡ is_none r
    → (b ≡ true) ↔ LeastRepeated ms n None
none_repeats ms n None b h e = ((λ _. h), (λ _. e))
none_repeats ms n (Some j) b h e = ((λ t. let clash : true ≡ false = sym t ∙ e in cc), (λ g. absurd (g h.0.0 h.0.1 h.0.2)))

-- ---- while the parts are looked at

module _ (P : Type 0) where
  -- before the first of them, all are left
  pub all_left : ((true ≡ true) × P) ↔ P
  all_left = ((λ h. h.1), (λ h. (refl, h)))

  -- after one more, those behind it are left
  pub fewer_left : (b this next : Bool) (H R : Type 0) → (((b ≡ true) × (H × R)) ↔ P) → ((this ≡ true) ↔ H)
      → ((next ≡ true) ↔ ((b ≡ true) × (this ≡ true))) → ((next ≡ true) × R) ↔ P
  fewer_left b this next H R left is both = (
    λ h. let p = both.0 h.0 in left.0 (p.0, (is.0 p.1, h.1)),
    λ h. let p = left.1 h in (both.1 (p.0, is.1 p.1.0), p.1.1),
  )

  -- in the end none are left
  pub none_left : (b : Bool) → (((b ≡ true) × Unit {0}) ↔ P) → (b ≡ true) ↔ P
  none_left b left = ((λ e. left.0 (e, tt)), (λ h. (left.1 h).0))

-- ---- values that are one level

module _ {E : Type 0} (r : Result Bool E) where
  -- what may be answered for an item, where the item is this one
  abbrev TellsPlain : Type 0 → Type 0
  TellsPlain P = IfOk r (λ b. (b ≡ true) ↔ P)

  -- a list
  pub plain-List : (x : Cbor) (v : Vec Cbor Global) (vs : List Cbor) → x ≡ List' v → vs ≡ v.items
      → TellsPlain (ItemsHavePlainKeys (items_view vs)) → TellsPlain (HasPlainKeys (view x))
  plain-List x v vs is e h =
      subst (λ w. TellsPlain (HasPlainKeys w)) (sym (ap view is ∙ view-List v))
      (subst (λ ws. TellsPlain (ItemsHavePlainKeys (items_view ws))) e h)

  -- a map
  pub plain-Map : (x : Cbor) (v : Vec (Cbor × Cbor) Global) (ps : List (Cbor × Cbor)) → x ≡ Map v → ps ≡ v.items
      → TellsPlain (PairsHavePlainKeys (pairs_view ps)) → TellsPlain (HasPlainKeys (view x))
  plain-Map x v ps is e h =
      subst (λ w. TellsPlain (HasPlainKeys w)) (sym (ap view is ∙ view-Map v))
      (subst (λ qs. TellsPlain (PairsHavePlainKeys (pairs_view qs))) e h)

  -- a tag
  pub plain-Tag : (x : Cbor) (n : ℕ) (v : Box Cbor Global) (w : Cbor) → x ≡ Tag n v → w ≡ v.value
      → TellsPlain (HasPlainKeys (view w)) → TellsPlain (HasPlainKeys (view x))
  plain-Tag x n v w is e h =
      subst (λ y. TellsPlain (HasPlainKeys y)) (sym (ap view is ∙ view-Tag n v))
      (subst (λ y. TellsPlain (HasPlainKeys (view y))) e h)

-- ---- plain keys are distinct

mutual
  -- an item
  pub plain_distinct : (v : Item) → HasPlainKeys v → HasDistinctKeys v
  plain_distinct (uint n) h = tt
  plain_distinct (nint n) h = tt
  plain_distinct (bytes b) h = tt
  plain_distinct (text t) h = tt
  plain_distinct (list vs) h = plain_distinct_items vs h
  plain_distinct (dict ps) h = plain_distinct_pairs ps h
  plain_distinct (tag n v) h = plain_distinct v h
  plain_distinct (simple a) h = tt
  plain_distinct (half n) h = tt
  plain_distinct (single n) h = tt
  plain_distinct (double n) h = tt

  -- items
  plain_distinct_items : (vs : Items) → ItemsHavePlainKeys vs → ItemsHaveDistinctKeys vs
  plain_distinct_items no_items h = tt
  plain_distinct_items (item v vs) h = (plain_distinct v h.0, plain_distinct_items vs h.1)

  -- pairs
  plain_distinct_pairs : (ps : Pairs) → PairsHavePlainKeys ps → PairsHaveDistinctKeys ps
  plain_distinct_pairs no_pairs h = tt
  plain_distinct_pairs (pair k v ps) h =
      (plain_distinct k h.0, plain_distinct v h.1, new_from_bytes k ps h.2, plain_distinct_pairs ps h.3)
