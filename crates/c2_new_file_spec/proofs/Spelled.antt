-- Items of which each text is UTF-8 and each number can stand in a head are spelled by their preferred bytes, where these are fewer
-- than 2^64.
use Rattle.std.specs.Prelude.{⊤}
use Rattle.std.proofs.Common.{◌≡◌, inl, ⊎_elim, ℕ, ◌+◌, ◌*◌, ◌^◌, ◌<◌, ◌≤◌, List, [], ◌∷◌, ◌++◌, length, refl, sym, subst, arith, length-append, append_assoc}
use Rattle.std.specs.Int.{w16, w32, w64, to_be_bytes}
use Rattle.std.specs.Str.{IsUtf8}
use Rattle.std.proofs.lemmas.Bool.{lt-ltb, le-ltb, cases_lt}
use Rattle.std.proofs.lemmas.Str.{is_utf8-from_IsUtf8}
use Rattle.c2_spec.specs.Cbor.Item.{Item, uint, nint, bytes, text, list, dict, tag, simple, half, single, double, Items, no_items, item, items_len, Pairs, no_pairs, pair, pairs_len}
use Rattle.c2_spec.specs.Cbor.Deterministic.{shortest_head, preferred, preferred_items, preferred_pairs}
use Rattle.c2_spec.specs.Cbor.Spelling.{Spells, SpellItems, SpellPairs}
use Rattle.c2_cbor_spec.proofs.Unique.{short_is}

-- ---- what can be spelled

abbrev mutual
  -- an item of texts in UTF-8, and of numbers that fit; floats and simple values but null aren't written
  pub Fits : Item → Type 0
  Fits (uint n) = n < 2 ^ 64
  Fits (nint n) = n < 2 ^ 64
  Fits (bytes b) = ⊤
  Fits (text t) = IsUtf8 t
  Fits (list vs) = FitItems vs
  Fits (dict ps) = FitPairs ps
  Fits (tag n v) = (n < 2 ^ 64) × Fits v
  Fits (simple a) = ⊥
  Fits (half n) = ⊥
  Fits (single n) = ⊥
  Fits (double n) = ⊥

  -- each item of a list is one of texts in UTF-8, and of numbers that fit
  pub FitItems : Items → Type 0
  FitItems no_items = ⊤
  FitItems (item v vs) = Fits v × FitItems vs

  -- each key and value of a map is an item of texts in UTF-8, and of numbers that fit
  pub FitPairs : Pairs → Type 0
  FitPairs no_pairs = ⊤
  FitPairs (pair k v ps) = Fits k × Fits v × FitPairs ps

-- ---- heads

-- the shortest head of a number below 24 is one byte, in which the number stands
in_itself : (m n : ℕ) → n < 24 → shortest_head m n ≡ (32 * m + n) ∷ []
unfolding shortest_head
in_itself m n h = rw (lt-ltb n 24 h)

-- a number from 24 and below 256 stands in one byte behind the first
in_one : (m n : ℕ) → 24 ≤ n → n < 256 → shortest_head m n ≡ (32 * m + 24) ∷ n ∷ []
unfolding shortest_head
in_one m n l h = rw (le-ltb n 24 l, lt-ltb n 256 h)

-- a number from 256 and below 65,536 stands in two bytes behind the first
in_two : (m n : ℕ) → 256 ≤ n → n < 65536 → shortest_head m n ≡ (32 * m + 25) ∷ to_be_bytes w16 n
unfolding shortest_head
in_two m n l h = let a : 24 ≤ n = omega arith in rw (le-ltb n 24 a, le-ltb n 256 l, lt-ltb n 65536 h)

-- a number from 65,536 and below 2^32 stands in four bytes behind the first
in_four : (m n : ℕ) → 65536 ≤ n → n < 4294967296 → shortest_head m n ≡ (32 * m + 26) ∷ to_be_bytes w32 n
unfolding shortest_head
in_four m n l h = let a : 24 ≤ n = omega arith in let b : 256 ≤ n = omega arith in rw (le-ltb n 24 a, le-ltb n 256 b, le-ltb n 65536 l, lt-ltb n 4294967296 h)

-- a number from 2^32 on stands in eight bytes behind the first
in_eight : (m n : ℕ) → 4294967296 ≤ n → shortest_head m n ≡ (32 * m + 27) ∷ to_be_bytes w64 n
unfolding shortest_head
in_eight m n l = let a : 24 ≤ n = omega arith in let b : 256 ≤ n = omega arith in let c : 65536 ≤ n = omega arith in rw (le-ltb n 24 a, le-ltb n 256 b, le-ltb n 65536 c, le-ltb n 4294967296 l)

-- the shortest head has some byte
head_some : (m n : ℕ) → 1 ≤ length (shortest_head m n)
head_some m n =
    ⊎_elim (λ h. subst (λ (s : List ℕ). 1 ≤ length s) (sym (in_itself m n h)) (omega arith)) (λ l.
    ⊎_elim (λ h. subst (λ (s : List ℕ). 1 ≤ length s) (sym (in_one m n l h)) (omega arith)) (λ l2.
    ⊎_elim (λ h. subst (λ (s : List ℕ). 1 ≤ length s) (sym (in_two m n l2 h)) (omega arith)) (λ l3.
    ⊎_elim (λ h. subst (λ (s : List ℕ). 1 ≤ length s) (sym (in_four m n l3 h)) (omega arith))
    (λ l4. subst (λ (s : List ℕ). 1 ≤ length s) (sym (in_eight m n l4)) (omega arith))
    (cases_lt n 4294967296)) (cases_lt n 65536)) (cases_lt n 256)) (cases_lt n 24)

-- each item has some byte
some_byte : (v : Item) → Fits v → 1 ≤ length (preferred v)
some_byte (uint n) h = head_some 0 n
some_byte (nint n) h = head_some 1 n
some_byte (bytes b) h = omega (arith, head_some 2 (length b), length-append (shortest_head 2 (length b)) b)
some_byte (text t) h = omega (arith, head_some 3 (length t), length-append (shortest_head 3 (length t)) t)
some_byte (list vs) h =
    omega (arith, head_some 4 (items_len vs), length-append (shortest_head 4 (items_len vs)) (preferred_items vs))
some_byte (dict ps) h =
    omega (arith, head_some 5 (pairs_len ps), length-append (shortest_head 5 (pairs_len ps)) (preferred_pairs ps))
some_byte (tag n v) h = omega (arith, head_some 6 n, length-append (shortest_head 6 n) (preferred v))
some_byte (simple a) h = absurd h
some_byte (half n) h = absurd h
some_byte (single n) h = absurd h
some_byte (double n) h = absurd h

-- a list has no more items than bytes
few_items : (vs : Items) → FitItems vs → items_len vs ≤ length (preferred_items vs)
few_items no_items h = omega arith
few_items (item v vs) h =
    omega (arith, some_byte v h.0, few_items vs h.1, length-append (preferred v) (preferred_items vs))

-- a map has no more pairs than bytes
few_pairs : (ps : Pairs) → FitPairs ps → pairs_len ps ≤ length (preferred_pairs ps)
few_pairs no_pairs h = omega arith
few_pairs (pair k v ps) h =
    omega
    (arith, some_byte k h.0, few_pairs ps h.2, length-append (preferred k) (preferred v), length-append (preferred k ++ preferred v) (preferred_pairs ps))

-- ---- items

mutual
  -- an item that can be spelled is spelled by its preferred bytes
  pub spelled : (v : Item) → Fits v → length (preferred v) < 2 ^ 64 → Spells v (preferred v)
  spelled (uint n) h s = short_is 0 n h
  spelled (nint n) h s = short_is 1 n h
  spelled (bytes b) h s =
      inl
      (shortest_head 2 (length b), short_is 2 (length b) (omega (arith, s, length-append (shortest_head 2 (length b)) b)), refl, refl)
  spelled (text t) h s =
      inl
      (shortest_head 3 (length t), short_is 3 (length t) (omega (arith, s, length-append (shortest_head 3 (length t)) t)), is_utf8-from_IsUtf8 t h, refl)
  spelled (list vs) h s =
      let size = length-append (shortest_head 4 (items_len vs)) (preferred_items vs) in
      inl
      (shortest_head 4 (items_len vs), preferred_items vs, short_is 4 (items_len vs) (omega (arith, s, size, few_items vs h)), spelled_items vs h (omega (arith, s, size)), refl)
  spelled (dict ps) h s =
      let size = length-append (shortest_head 5 (pairs_len ps)) (preferred_pairs ps) in
      inl
      (shortest_head 5 (pairs_len ps), preferred_pairs ps, short_is 5 (pairs_len ps) (omega (arith, s, size, few_pairs ps h)), spelled_pairs ps h (omega (arith, s, size)), refl)
  spelled (tag n v) h s =
      let size = length-append (shortest_head 6 n) (preferred v) in
      (shortest_head 6 n, preferred v, short_is 6 n h.0, spelled v h.1 (omega (arith, s, size)), refl)
  spelled (simple a) h s = absurd h
  spelled (half n) h s = absurd h
  spelled (single n) h s = absurd h
  spelled (double n) h s = absurd h

  spelled_items : (vs : Items) → FitItems vs → length (preferred_items vs) < 2 ^ 64 → SpellItems vs (preferred_items vs)
  spelled_items no_items h s = refl
  spelled_items (item v vs) h s =
      let size = length-append (preferred v) (preferred_items vs) in
      (preferred v, preferred_items vs, spelled v h.0 (omega (arith, s, size)), spelled_items vs h.1 (omega (arith, s, size)), refl)

  spelled_pairs : (ps : Pairs) → FitPairs ps → length (preferred_pairs ps) < 2 ^ 64 → SpellPairs ps (preferred_pairs ps)
  spelled_pairs no_pairs h s = refl
  spelled_pairs (pair k v ps) h s =
      let one_size = length-append (preferred k) (preferred v) in
      let size = length-append (preferred k ++ preferred v) (preferred_pairs ps) in
      (preferred k, preferred v, preferred_pairs ps, spelled k h.0 (omega (arith, s, size, one_size)), spelled v h.1 (omega (arith, s, size, one_size)), spelled_pairs ps h.2 (omega (arith, s, size)), append_assoc (preferred k) (preferred v) (preferred_pairs ps))
