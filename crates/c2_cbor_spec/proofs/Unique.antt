-- One list spells one item, no spelling begins another, and the keys that a reader takes to be new are distinct.
use Rattle.std.proofs.Common.{◌≡◌, ℕ, ◌+◌, ◌*◌, ◌^◌, ◌<◌, ◌≤◌, true, false, cond, ltb, List, [], ◌∷◌, ◌++◌, length, Ok, refl, sym, ap, ◌∙◌, append_assoc, arith, inl, inr, ◌⊎◌}
use Rattle.std.specs.Int.{w16, w32, w64, to_be_bytes}
use Rattle.std.proofs.lemmas.Bool.{ltb-true, lt-ltb, le-ltb}
use Rattle.c2_spec.specs.Cbor.Item.{Item, uint, nint, bytes, text, list, dict, tag, simple, half, single, double, Items, no_items, item, Pairs, no_pairs, pair}
use Rattle.c2_spec.specs.Cbor.Deterministic.{preferred, preferred_items, preferred_pairs, shortest_head, simple_bytes}
use Rattle.c2_spec.specs.Cbor.Item.{items_len, pairs_len}
use Rattle.c2_spec.specs.Cbor.Legal.{depth, IsNew, HasDistinctKeys, ItemsHaveDistinctKeys, PairsHaveDistinctKeys}
use Rattle.c2_cbor_spec.specs.Fine.{Fine, FineItems, FinePairs}
use Rattle.c2_cbor_spec.specs.Keyed.{Unknown, Keyed, ItemsKeyed, PairsKeyed}
use Rattle.c2_spec.specs.Cbor.Spelling.{direct, one, two, four, eight, IsHead, SpellsSimple, Spells, SpellItems, SpellPairs}
use Rattle.c2_cbor_spec.specs.Reading.{Known, is_known, with_key, item_at}
use Rattle.c2_cbor_spec.proofs.Heads.{first_is, rest_is}
use Rattle.c2_cbor_spec.proofs.Keys.{known_new, known_stays, known_other}
use Rattle.c2_cbor_spec.proofs.Complete.{item_again}
use Rattle.c2_lemmas.proofs.Bools.{true_not_false}

-- ---- a reader that knows no key

-- no key is known
abbrev pub never : Known
never k ks = false

-- so each key of a map is new when it comes
unknown_never : (seen : List (List ℕ)) (ps : Pairs) → Unknown never seen ps
unknown_never seen no_pairs = tt
unknown_never seen (pair k v ps) = (refl, unknown_never (with_key seen (preferred k)) ps)

mutual
  -- and nothing in an item has a known key
  keyed_never : (v : Item) → Keyed never v
  keyed_never (uint n) = tt
  keyed_never (nint n) = tt
  keyed_never (bytes b) = tt
  keyed_never (text t) = tt
  keyed_never (list vs) = items_keyed_never vs
  keyed_never (dict ps) = (pairs_keyed_never ps, unknown_never [] ps)
  keyed_never (tag n v) = keyed_never v
  keyed_never (simple a) = tt
  keyed_never (half n) = tt
  keyed_never (single n) = tt
  keyed_never (double n) = tt

  -- the same of items one after the other
  items_keyed_never : (vs : Items) → ItemsKeyed never vs
  items_keyed_never no_items = tt
  items_keyed_never (item v vs) = (keyed_never v, items_keyed_never vs)

  -- the same of pairs one after the other
  pairs_keyed_never : (ps : Pairs) → PairsKeyed never ps
  pairs_keyed_never no_pairs = tt
  pairs_keyed_never (pair k v ps) = (keyed_never k, keyed_never v, pairs_keyed_never ps)

-- one list spells at most one item, and no spelling begins another
pub one_spelling : (v w : Item) (x y r s : List ℕ) → Spells v x → Spells w y → x ++ r ≡ y ++ s → (v ≡ w) × (r ≡ s)
one_spelling v w x y r s p q e =
    let d = depth v + depth w in
    let a : item_at never d (x ++ r) ≡ Ok (v, r) = item_again never v d x r p (omega arith) (keyed_never v) in
    let b : item_at never d (y ++ s) ≡ Ok (w, s) = item_again never w d y s q (omega arith) (keyed_never w) in
    let both = sym a ∙ ap (item_at never d) e ∙ b in
    (first_is v w r s both, rest_is v w r s both)

-- ---- an item that has a spelling is spelled by its preferred

-- the shortest head of a number below 2^64 is a head of this number
pub short_is : (m n : ℕ) → n < 2 ^ 64 → IsHead m n (shortest_head m n)
unfolding shortest_head
short_is m n lt =
    elim (ltb n 24) as (λ b. ltb n 24 ≡ b → IsHead m n (cond b ((32 * m + n) ∷ [])
    (cond (ltb n 256) ((32 * m + 24) ∷ n ∷ []) (cond (ltb n 65536) ((32 * m + 25) ∷ to_be_bytes w16 n)
    (cond (ltb n 4294967296) ((32 * m + 26) ∷ to_be_bytes w32 n) ((32 * m + 27) ∷ to_be_bytes w64 n)))))) [
      | true ↦ λ e. (direct, ltb-true n 24 e, refl)
      | false ↦ λ e. elim (ltb n 256) as (λ b. ltb n 256 ≡ b → IsHead m n (cond b ((32 * m + 24) ∷ n ∷ []) (cond (ltb n 65536) ((32 * m + 25) ∷ to_be_bytes w16 n) (cond (ltb n 4294967296) ((32 * m + 26) ∷ to_be_bytes w32 n) ((32 * m + 27) ∷ to_be_bytes w64 n))))) [
        | true ↦ λ f. (one, ltb-true n 256 f, refl)
        | false ↦ λ f. elim (ltb n 65536) as (λ b. ltb n 65536 ≡ b → IsHead m n (cond b ((32 * m + 25) ∷ to_be_bytes w16 n) (cond (ltb n 4294967296) ((32 * m + 26) ∷ to_be_bytes w32 n) ((32 * m + 27) ∷ to_be_bytes w64 n)))) [
          | true ↦ λ g. (two, ltb-true n 65536 g, refl)
          | false ↦ λ g. elim (ltb n 4294967296) as (λ b. ltb n 4294967296 ≡ b → IsHead m n (cond b ((32 * m + 26) ∷ to_be_bytes w32 n) ((32 * m + 27) ∷ to_be_bytes w64 n))) [
            | true ↦ λ h. (four, ltb-true n 4294967296 h, refl)
            | false ↦ λ h. (eight, lt, refl)
          ] refl
        ] refl
      ] refl
    ] refl

-- a head's number is below 2^64
pub head_limit : (m n : ℕ) (h : List ℕ) → IsHead m n h → n < 2 ^ 64
head_limit m n h (direct, p, e) = omega arith
head_limit m n h (one, p, e) = omega arith
head_limit m n h (two, p, e) = omega arith
head_limit m n h (four, p, e) = omega arith
head_limit m n h (eight, p, e) = p

-- the preferred bytes of a simple value spell it
preferred_simple : (a : ℕ) → (a < 24) ⊎ ((32 ≤ a) × (a < 256)) → SpellsSimple a (simple_bytes a)
preferred_simple a (inl p) = inl (p, ap (λ b. cond b ((224 + a) ∷ []) (248 ∷ a ∷ [])) (lt-ltb a 24 p))
preferred_simple a (inr p) =
    inr (p.0, p.1, ap (λ b. cond b ((224 + a) ∷ []) (248 ∷ a ∷ [])) (le-ltb a 24 (omega (arith, p.0))))

mutual
  -- the preferred bytes of an item that has a spelling spell it
  pub preferred_spells : (v : Item) → Fine v → Spells v (preferred v)
  preferred_spells (uint n) p = short_is 0 n p
  preferred_spells (nint n) p = short_is 1 n p
  preferred_spells (bytes b) p = inl (shortest_head 2 (length b), short_is 2 (length b) p, refl, refl)
  preferred_spells (text t) p = inl (shortest_head 3 (length t), short_is 3 (length t) p.0, p.1, refl)
  preferred_spells (list vs) p =
      inl
      (shortest_head 4 (items_len vs), preferred_items vs, short_is 4 (items_len vs) p.0, preferred_spell_items vs p.1, refl)
  preferred_spells (dict ps) p =
      inl
      (shortest_head 5 (pairs_len ps), preferred_pairs ps, short_is 5 (pairs_len ps) p.0, preferred_spell_pairs ps p.1, refl)
  preferred_spells (tag n v) p = (shortest_head 6 n, preferred v, short_is 6 n p.0, preferred_spells v p.1, refl)
  preferred_spells (simple a) p = preferred_simple a p
  preferred_spells (half n) p = (p, refl)
  preferred_spells (single n) p = (p, refl)
  preferred_spells (double n) p = (p, refl)

  -- the same of items one after the other
  preferred_spell_items : (vs : Items) → FineItems vs → SpellItems vs (preferred_items vs)
  preferred_spell_items no_items p = refl
  preferred_spell_items (item v vs) p =
      (preferred v, preferred_items vs, preferred_spells v p.0, preferred_spell_items vs p.1, refl)

  -- the same of pairs one after the other
  preferred_spell_pairs : (ps : Pairs) → FinePairs ps → SpellPairs ps (preferred_pairs ps)
  preferred_spell_pairs no_pairs p = refl
  preferred_spell_pairs (pair k v ps) p =
      (preferred k, preferred v, preferred_pairs ps, preferred_spells k p.0, preferred_spells v p.1, preferred_spell_pairs ps p.2, append_assoc (preferred k) (preferred v) (preferred_pairs ps))

-- ---- what is spelled is fine, where its chunks are not longer than a definite string can be

-- items with the same preferred bytes are equal
pub preferred_same : (k l : Item) → Fine k → Fine l → preferred k ≡ preferred l → k ≡ l
preferred_same k l p q e =
    (one_spelling k l (preferred k) (preferred l) [] [] (preferred_spells k p) (preferred_spells l q) (ap (λ x. x ++ []) e)).0

-- ---- distinct keys

-- a key that is known is new to pairs of which no key is known
pub new_from : (k : Item) (ps : Pairs) (seen : List (List ℕ)) → is_known (preferred k) seen ≡ true
    → Unknown is_known seen ps → IsNew k ps
new_from k no_pairs seen e un = tt
new_from k (pair l v ps) seen e un =
    (λ same. true_not_false (is_known (preferred l) seen) (ap (λ z. is_known (preferred z) seen) (sym same) ∙ e) un.0, new_from k ps (with_key seen (preferred l)) (known_stays (preferred k) (preferred l) seen e) un.1)

mutual
  -- an item of which no key was known when it came has distinct keys
  pub distinct_from : (v : Item) → Keyed is_known v → HasDistinctKeys v
  distinct_from (uint n) p = tt
  distinct_from (nint n) p = tt
  distinct_from (bytes b) p = tt
  distinct_from (text t) p = tt
  distinct_from (list vs) p = items_distinct_from vs p
  distinct_from (dict ps) p = pairs_distinct_from ps [] p.0 p.1
  distinct_from (tag n v) p = distinct_from v p
  distinct_from (simple a) p = tt
  distinct_from (half n) p = tt
  distinct_from (single n) p = tt
  distinct_from (double n) p = tt

  -- the same of items one after the other
  pub items_distinct_from : (vs : Items) → ItemsKeyed is_known vs → ItemsHaveDistinctKeys vs
  items_distinct_from no_items p = tt
  items_distinct_from (item v vs) p = (distinct_from v p.0, items_distinct_from vs p.1)

  -- the same of pairs one after the other
  pub pairs_distinct_from : (ps : Pairs) (seen : List (List ℕ)) → PairsKeyed is_known ps → Unknown is_known seen ps
      → PairsHaveDistinctKeys ps
  pairs_distinct_from no_pairs seen p un = tt
  pairs_distinct_from (pair k v ps) seen p un =
      (distinct_from k p.0, distinct_from v p.1, new_from k ps (with_key seen (preferred k)) (known_new (preferred k) seen) un.1, pairs_distinct_from ps (with_key seen (preferred k)) p.2 un.1)

-- none of the keys is known yet
abbrev pub Fresh : List (List ℕ) → Pairs → Type 0
Fresh seen no_pairs = Unit {0}
Fresh seen (pair k v ps) = (is_known (preferred k) seen ≡ false) × Fresh seen ps

-- keys that aren't known stay so once a key that is none of theirs is known
fresh_with : (k : Item) (ps : Pairs) (seen : List (List ℕ)) → Fine k → FinePairs ps → IsNew k ps → Fresh seen ps
    → Fresh (with_key seen (preferred k)) ps
fresh_with k no_pairs seen fk fp new h = tt
fresh_with k (pair l v ps) seen fk fp new h =
    (known_other (preferred l) (preferred k) seen (λ e. new.0 (preferred_same k l fk fp.0 (sym e))) h.0, fresh_with k ps seen fk fp.2 new.1 h.1)

-- before the first pair no key is known
pub fresh_at_first : (ps : Pairs) → Fresh [] ps
fresh_at_first no_pairs = tt
fresh_at_first (pair k v ps) = (refl, fresh_at_first ps)

-- distinct keys that weren't known aren't known when they come
pub unknown_from : (ps : Pairs) (seen : List (List ℕ)) → FinePairs ps → PairsHaveDistinctKeys ps → Fresh seen ps
    → Unknown is_known seen ps
unknown_from no_pairs seen f p h = tt
unknown_from (pair k v ps) seen f p h =
    (h.0, unknown_from ps (with_key seen (preferred k)) f.2 p.3 (fresh_with k ps seen f.0 f.2 p.2 h.1))

mutual
  -- in an item with distinct keys no key is known when it comes
  pub keyed_from : (v : Item) → Fine v → HasDistinctKeys v → Keyed is_known v
  keyed_from (uint n) f p = tt
  keyed_from (nint n) f p = tt
  keyed_from (bytes b) f p = tt
  keyed_from (text t) f p = tt
  keyed_from (list vs) f p = items_keyed_from vs f.1 p
  keyed_from (dict ps) f p = (pairs_keyed_from ps f.1 p, unknown_from ps [] f.1 p (fresh_at_first ps))
  keyed_from (tag n v) f p = keyed_from v f.1 p
  keyed_from (simple a) f p = tt
  keyed_from (half n) f p = tt
  keyed_from (single n) f p = tt
  keyed_from (double n) f p = tt

  -- the same of items one after the other
  pub items_keyed_from : (vs : Items) → FineItems vs → ItemsHaveDistinctKeys vs → ItemsKeyed is_known vs
  items_keyed_from no_items f p = tt
  items_keyed_from (item v vs) f p = (keyed_from v f.0 p.0, items_keyed_from vs f.1 p.1)

  -- the same of pairs one after the other
  pub pairs_keyed_from : (ps : Pairs) → FinePairs ps → PairsHaveDistinctKeys ps → PairsKeyed is_known ps
  pairs_keyed_from no_pairs f p = tt
  pairs_keyed_from (pair k v ps) f p = (keyed_from k f.0 p.0, keyed_from v f.1 p.1, pairs_keyed_from ps f.2 p.3)
