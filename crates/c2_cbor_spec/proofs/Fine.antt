-- An item with a spelling below 2 ^ 64 bytes has one of its preferred.
use Rattle.std.proofs.Common.{◌≡◌, ℕ, ◌^◌, ◌<◌, ◌≤◌, Bool, true, List, [], ◌∷◌, ◌++◌, length, sym, ap, subst, arith, inl, inr}
use Rattle.std.specs.Str.{is_utf8, IsUtf8}
use Rattle.std.proofs.lemmas.Str.{is_utf8-from_IsUtf8, IsUtf8-from_is_utf8, IsUtf8-append, IsUtf8-nil}
use Rattle.std.proofs.lemmas.List.{length-append}
use Rattle.c2_spec.specs.Cbor.Item.{Item, uint, nint, bytes, text, list, dict, tag, simple, half, single, double, Items, no_items, item, Pairs, no_pairs, pair}
use Rattle.c2_spec.specs.Cbor.Item.{items_len, pairs_len}
use Rattle.c2_spec.specs.Cbor.Spelling.{AreChunks, joined, SpellsString, InBrackets, Spells, SpellItems, SpellPairs}
use Rattle.c2_spec.specs.Cbor.Spelling.{any_bytes}
use Rattle.c2_cbor_spec.specs.Fine.{Fine, FineItems, FinePairs}
use Rattle.c2_cbor_spec.proofs.Unique.{head_limit}
use Rattle.c2_cbor_spec.proofs.Complete.{begins, Begins}

-- chunks are no shorter than the string that they make
joined_len : (ok : List ℕ → Bool) (m : ℕ) (cs : List (List ℕ)) (t : List ℕ) → AreChunks ok m cs t
    → length (joined cs) ≤ length t
joined_len ok m [] t p = omega arith
joined_len ok m (c ∷ cs) t (x, y, (h, hd, good, e), q, f) =
    omega
    (arith, ap length e, ap length f, length-append h c, length-append x y, length-append c (joined cs), joined_len ok m cs y q)

-- chunks that are UTF-8 make a string that is
joined_utf8 : (m : ℕ) (cs : List (List ℕ)) (t : List ℕ) → AreChunks is_utf8 m cs t → IsUtf8 (joined cs)
joined_utf8 m [] t p = IsUtf8-nil
joined_utf8 m (c ∷ cs) t (x, y, (h, hd, good, e), q, f) =
    IsUtf8-append c (joined cs) (IsUtf8-from_is_utf8 c good) (joined_utf8 m cs y q)

-- a string is no longer than its spelling
string_fine : (ok : List ℕ → Bool) (m : ℕ) (b x : List ℕ) → length x < 2 ^ 64 → SpellsString ok m b x
    → length b < 2 ^ 64
string_fine ok m b x lt (inl (h, p, good, e)) = head_limit m (length b) h p
string_fine ok m b x lt (inr (cs, t, p, j, e)) =
    omega (arith, ap length j, ap length e, joined_len ok m cs t p, length-append t (255 ∷ []))

-- a text that is spelled is UTF-8
text_good : (b x : List ℕ) → SpellsString is_utf8 3 b x → is_utf8 b ≡ true
text_good b x (inl (h, p, good, e)) = good
text_good b x (inr (cs, t, p, j, e)) = is_utf8-from_IsUtf8 b (subst IsUtf8 (sym j) (joined_utf8 3 cs t p))

-- a list or map has no more members than its spelling has bytes
brackets_fine : (m n : ℕ) (P : List ℕ → Type 0) (x : List ℕ) → length x < 2 ^ 64 → ((t : List ℕ) → P t → n ≤ length t)
    → InBrackets m n P x → (n < 2 ^ 64) × ((t : List ℕ) × P t × (length t < 2 ^ 64))
brackets_fine m n P x lt small (inl (h, t, p, q, e)) =
    (head_limit m n h p, (t, q, omega (arith, ap length e, length-append h t)))
brackets_fine m n P x lt small (inr (t, q, e)) =
    let bound : length t < 2 ^ 64 = omega (arith, ap length e, length-append t (255 ∷ [])) in
    (omega (arith, small t q), (t, q, bound))

-- what doesn't begin with a break has a byte
begun : (x : List ℕ) → Begins x → 0 < length x
begun x (b, t, lt, e) = omega (arith, ap length e)

-- there are no more items than bytes that spell them
items_small : (vs : Items) (x : List ℕ) → SpellItems vs x → items_len vs ≤ length x
items_small no_items x p = omega arith
items_small (item v vs) x (y, z, p, q, e) =
    omega (arith, ap length e, length-append y z, begun y (begins v y p), items_small vs z q)

-- there are no more pairs than bytes that spell them
pairs_small : (ps : Pairs) (x : List ℕ) → SpellPairs ps x → pairs_len ps ≤ length x
pairs_small no_pairs x p = omega arith
pairs_small (pair k v ps) x (y, w, z, p, pv, q, e) =
    omega (arith, ap length e, length-append y (w ++ z), length-append w z, begun y (begins k y p), pairs_small ps z q)

mutual
  -- what a list of fewer than 2^64 bytes spells fits the widths of heads
  pub fine : (v : Item) (x : List ℕ) → length x < 2 ^ 64 → Spells v x → Fine v
  fine (uint n) x lt p = head_limit 0 n x p
  fine (nint n) x lt p = head_limit 1 n x p
  fine (bytes b) x lt p = string_fine any_bytes 2 b x lt p
  fine (text b) x lt p = (string_fine is_utf8 3 b x lt p, text_good b x p)
  fine (list vs) x lt p = let b = brackets_fine 4 (items_len vs) (SpellItems vs) x lt (items_small vs) p in (b.0, fine_items vs b.1.0 b.1.2 b.1.1)
  fine (dict ps) x lt p = let b = brackets_fine 5 (pairs_len ps) (SpellPairs ps) x lt (pairs_small ps) p in (b.0, fine_pairs ps b.1.0 b.1.2 b.1.1)
  fine (tag n v) x lt (h, t, p, q, e) = (head_limit 6 n h p, fine v t (omega (arith, ap length e, length-append h t)) q)
  fine (simple a) x lt (inl p) = inl p.0
  fine (simple a) x lt (inr p) = inr (p.0, p.1)
  fine (half n) x lt p = p.0
  fine (single n) x lt p = p.0
  fine (double n) x lt p = p.0

  -- the same of items one after the other
  pub fine_items : (vs : Items) (x : List ℕ) → length x < 2 ^ 64 → SpellItems vs x → FineItems vs
  fine_items no_items x lt p = tt
  fine_items (item v vs) x lt (y, z, p, q, e) =
      (fine v y (omega (arith, ap length e, length-append y z)) p, fine_items vs z (omega (arith, ap length e, length-append y z)) q)

  -- the same of pairs one after the other
  pub fine_pairs : (ps : Pairs) (x : List ℕ) → length x < 2 ^ 64 → SpellPairs ps x → FinePairs ps
  fine_pairs no_pairs x lt p = tt
  fine_pairs (pair k v ps) x lt (y, w, z, p, pv, q, e) =
      let len = ap length e in
      let one = length-append y (w ++ z) in
      let two = length-append w z in
      (fine k y (omega (arith, len, one, two)) p, fine v w (omega (arith, len, one, two)) pv, fine_pairs ps z (omega (arith, len, one, two)) q)
