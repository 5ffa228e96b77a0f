-- A message that some bytes spell, with more entries in its header, is spelled by bytes that are hardly longer.
use Rattle.c2_cbor_spec.proofs.TheLaws.{round_trip}
use Rattle.std.proofs.Common.{◌≡◌, ◌⊎◌, inl, inr, ℕ, ◌+◌, ◌^◌, ◌<◌, ◌≤◌, Bool, true, ◌&&◌, List, [], ◌∷◌, ◌++◌, length, replicate, codes, Option, Some, None, refl, sym, ap, subst, ◌∙◌, arith, lit<, lit≤}
use Rattle.std.proofs.lemmas.List.{length-append, append_assoc, length-replicate}
use Rattle.std.specs.Int.{w64, to_be_bytes}
use Rattle.std.specs.Prelude.{nat_lt}
use Rattle.std.specs.Str.{is_utf8, IsAscii}
use Rattle.std.proofs.lemmas.Bool.{and_parts, ltb-true}
use Rattle.std.proofs.lemmas.Str.{IsUtf8-from_ascii, is_utf8-from_IsUtf8}
use Rattle.std.proofs.lemmas.Str.Ascii.{IsAscii-nil, IsAscii-cons}
use Rattle.c2_spec.specs.Cbor.Item.{Item, bytes, text, list, dict, tag, simple, no_items, item, Pairs, no_pairs, pair, pairs_len}
use Rattle.c2_spec.specs.Cbor.Deterministic.{shortest_head, preferred, preferred_pairs}
use Rattle.c2_spec.specs.Cbor.Spelling.{direct, eight, IsHead, InBrackets, Spells, SpellItems, SpellPairs}
use Rattle.c2_spec.specs.C2pa.Sign1.{SignParts, message_list, SpellsMessage}
use Rattle.c2_spec.specs.C2pa.Message.{tagged_message, pairs_then, padded, padded_bytes, padded_read, CanBePadded}
use Rattle.c2_pad.specs.declared.types.Fill.{Fill}
use Rattle.c2_pad.specs.Fill.{zeros_before, fill_pairs, fill_cost}
use Rattle.c2_sigstruct.proofs.Entries.{then_count}
use Rattle.c2_sigstruct.proofs.Padding.{with_map, is_with_map, entries, entries_count, padded_plain, read_padded}

-- this spells the thing, and has at most so many bytes
abbrev Short : (List ℕ → Type 0) → ℕ → Type 0
Short P n = (t : List ℕ) × P t × (length t ≤ n)

-- ---- entries

-- pairs behind others
pairs_spelled : (ps qs : Pairs) (x y : List ℕ) → SpellPairs ps x → SpellPairs qs y
    → SpellPairs (pairs_then ps qs) (x ++ y)
pairs_spelled no_pairs qs x y e q = subst (SpellPairs qs) (ap (λ z. z ++ y) (sym e)) q
pairs_spelled (pair k v ps) qs x y (a, b, c, p, w, r, e) q =
    (a, b, c ++ y, p, w, pairs_spelled ps qs c y r q, ap (λ z. z ++ y) e ∙ append_assoc a (b ++ c) y ∙ ap (λ z. a ++ z) (append_assoc b c y))

-- each byte is ASCII
is_ascii : List ℕ → Bool
is_ascii [] = true
is_ascii (b ∷ bs) = nat_lt b 128 && is_ascii bs

-- bytes that pass are ASCII
ascii : (bs : List ℕ) → is_ascii bs ≡ true → IsAscii bs
unfolding is_ascii
ascii [] h = IsAscii-nil
ascii (b ∷ bs) h = let both = and_parts (nat_lt b 128) (is_ascii bs) h in IsAscii-cons b bs (ltb-true b 128 both.0) (ascii bs both.1)

-- bytes that pass as ASCII are UTF-8
text_ok : (bs : List ℕ) → is_ascii bs ≡ true → is_utf8 bs ≡ true
text_ok bs h = is_utf8-from_IsUtf8 bs (IsUtf8-from_ascii bs (ascii bs h))

-- a key of padding
pad_spelled : Spells (text (codes "pad")) (99 ∷ codes "pad")
unfolding is_ascii
pad_spelled = inl (99 ∷ [], (direct, lit< tt, refl), text_ok (codes "pad") refl, refl)

-- the key `pad2` of padding
pad2_spelled : Spells (text (codes "pad2")) (100 ∷ codes "pad2")
unfolding is_ascii
pad2_spelled = inl (100 ∷ [], (direct, lit< tt, refl), text_ok (codes "pad2") refl, refl)

-- so many zero bytes, with the widest head
zeros_spelled : (n : ℕ) → n < 2 ^ 64 → Spells (bytes (replicate n 0)) ((91 ∷ to_be_bytes w64 n) ++ replicate n 0)
zeros_spelled n lt =
    inl
    (91 ∷ to_be_bytes w64 n, subst (λ k. IsHead 2 k (91 ∷ to_be_bytes w64 n)) (sym (length-replicate n 0)) (eight, lt, refl), refl, refl)

-- how many zero bytes an entry has
count : Option ℕ → ℕ
count None = 0
count (Some n) = n

-- an entry of zero bytes before others
entry_spelled : (key h : List ℕ) (o : Option ℕ) (qs : Pairs) (m : ℕ) → Spells (text key) h → count o < 2 ^ 64
    → Short (SpellPairs qs) m
    → Short (SpellPairs (zeros_before key o qs)) (length h + 9 + count o + m)
unfolding count
entry_spelled key h None qs m k lt (t, p, short) = (t, p, omega (arith, short))
entry_spelled key h (Some n) qs m k lt (t, p, short) =
    let z : List ℕ = (91 ∷ to_be_bytes w64 n) ++ replicate n 0 in (
      h ++ (z ++ t),
      (h, z, t, k, zeros_spelled n lt, p, refl),
      omega (arith, short, length-append h (z ++ t), length-append z t, length-append (91 ∷ to_be_bytes w64 n) (replicate n 0), length-replicate {A = ℕ} n 0),
    )

-- written, it is no shorter than its zero bytes and the others
entry_cost : (key : List ℕ) (o : Option ℕ) (qs : Pairs)
    → count o + length (preferred_pairs qs) ≤ length (preferred_pairs (zeros_before key o qs))
unfolding count
entry_cost key None qs = omega arith
entry_cost key (Some n) qs =
    omega (
      arith,
      length-append (preferred (text key) ++ preferred (bytes (replicate n 0))) (preferred_pairs qs),
      length-append (preferred (text key)) (preferred (bytes (replicate n 0))),
      length-append (shortest_head 2 (length (replicate {A = ℕ} n 0))) (replicate n 0),
      length-replicate {A = ℕ} n 0,
    )

-- the entries of padding
entries_spelled : (o q : Option ℕ) → length (preferred_pairs (entries o q)) < 2 ^ 62
    → Short (SpellPairs (entries o q)) (27 + length (preferred_pairs (entries o q)))
unfolding entries
entries_spelled o q lt =
    let second : Pairs = zeros_before (codes "pad2") q no_pairs in
    let inner = entry_cost (codes "pad2") q no_pairs in
    let outer = entry_cost (codes "pad") o second in
    let behind =
    entry_spelled (codes "pad2") (100 ∷ codes "pad2") q no_pairs 0 pad2_spelled (omega (arith, inner, outer, lt))
    ([], refl, lit≤ tt) in
    let all = entry_spelled (codes "pad") (99 ∷ codes "pad") o second _ pad_spelled (omega (arith, outer, lt)) behind in
    (all.0, all.1, omega (arith, all.2, inner, outer))

-- ---- the message around them

-- what stands in a map or list is no longer than it
inside : (m n : ℕ) (P : List ℕ → Type 0) (s : List ℕ) → InBrackets m n P s → Short P (length s)
inside m n P s (inl (h, t, head, p, e)) = (t, p, omega (arith, ap length e, length-append h t))
inside m n P s (inr (t, p, e)) = (t, p, omega (arith, ap length e, length-append t (255 ∷ [])))

-- a map of few pairs, with more behind them
map_spelled : (ps qs : Pairs) (s : List ℕ) (m : ℕ) → pairs_len ps + pairs_len qs < 24 → Spells (dict ps) s
    → Short (SpellPairs qs) m
    → Short (Spells (dict (pairs_then ps qs))) (1 + length s + m)
map_spelled ps qs s m few own (y, q, short) =
    let old = inside 5 (pairs_len ps) (SpellPairs ps) s own in (
      (160 + pairs_len (pairs_then ps qs)) ∷ (old.0 ++ y),
      inl ((160 + pairs_len (pairs_then ps qs)) ∷ [], old.0 ++ y, (direct, omega (arith, few, then_count ps qs), refl), pairs_spelled ps qs old.0 y old.1 q, refl),
      omega (arith, old.2, short, length-append old.0 y),
    )

-- the list of a message, with more entries in its map
list_spelled : (p : SignParts) (ps qs : Pairs) (s : List ℕ) (m : ℕ) → pairs_len ps + pairs_len qs < 24
    → Spells (message_list (with_map p ps)) s → Short (SpellPairs qs) m
    → Short (Spells (message_list (with_map p (pairs_then ps qs)))) (2 + length s + m)
unfolding with_map
list_spelled p ps qs s m few own more =
    let old =
    inside 4 4
    (SpellItems (item (bytes p.protected) (item (dict ps) (item (simple 22) (item (bytes p.signature) no_items)))))
    s own in
    by_items old.0 old.2 old.1
  where
    by_items : (t : List ℕ) → length t ≤ length s
        → SpellItems (item (bytes p.protected) (item (dict ps) (item (simple 22) (item (bytes p.signature) no_items)))) t
        → Short (Spells (list (item (bytes p.protected) (item (dict (pairs_then ps qs)) (item (simple 22) (item (bytes p.signature) no_items)))))) (2 + length s + m)
    by_items t lt (x, y, first, (u, w, map, rest, f), e) =
        let new = map_spelled ps qs u m few map more in (
          132 ∷ (x ++ (new.0 ++ w)),
          inl (132 ∷ [], x ++ (new.0 ++ w), (direct, lit< tt, refl), (x, new.0 ++ w, first, (new.0, w, new.1, rest, refl), refl), refl),
          omega (arith, lt, ap length e, ap length f, length-append x y, length-append u w, length-append x (new.0 ++ w), length-append new.0 w, new.2),
        )

-- bytes that spell a message spell its list, with its tag or without
list_of : (p : SignParts) (s : List ℕ) → SpellsMessage s p → Short (Spells (message_list p)) (length s)
list_of p s read = by_form read.message read.spelled read.is.form
  where
    by_form : (v : Item) → Spells v s → (v ≡ message_list p) ⊎ (v ≡ tag 18 (message_list p))
        → Short (Spells (message_list p)) (length s)
    by_form v own (inl e) = (s, subst (λ w. Spells w s) e own, omega arith)
    by_form v own (inr e) = by_tag (subst (λ w. Spells w s) e own)
      where
        by_tag : Spells (tag 18 (message_list p)) s → Short (Spells (message_list p)) (length s)
        by_tag (h, t, head, q, f) = (t, q, omega (arith, ap length f, length-append h t))

-- a message of this map is read with its fill
read_map : (p : SignParts) (ps : Pairs) (f : Fill) (s : List ℕ) → CanBePadded (with_map p ps) ps
    → SpellsMessage s (with_map p ps) → length s + fill_cost f < 2 ^ 62
    → SpellsMessage (padded_bytes (with_map p ps) (fill_pairs f)) (padded_read (with_map p ps) (fill_pairs f))
unfolding with_map entries
read_map p ps f s can read short =
    let two : pairs_len (fill_pairs f) ≤ 2 = entries_count f.pad f.pad2 in
    let old = list_of (with_map p ps) s read in
    let new =
    list_spelled p ps (fill_pairs f) old.0 _ (omega (arith, two, can.few)) old.1
    (entries_spelled f.pad f.pad2 (omega (arith, short))) in
    let whole : Spells (tagged_message (padded (with_map p ps) (fill_pairs f))) (210 ∷ new.0) =
    (210 ∷ [], new.0, (direct, lit< tt, refl), new.1, refl) in
    read_padded (with_map p ps) ps f (padded_bytes (with_map p ps) (fill_pairs f)) can
    (round_trip (tagged_message (padded (with_map p ps) (fill_pairs f))) (210 ∷ new.0) [] whole (omega (arith, old.2, new.2, short)) (padded_plain (with_map p ps) ps f can))

-- each message that can be padded is read with its fill
pub padded_is_read : (p : SignParts) (ps : Pairs) (f : Fill) (s : List ℕ) → CanBePadded p ps → SpellsMessage s p
    → length s + fill_cost f < 2 ^ 62
    → SpellsMessage (padded_bytes p (fill_pairs f)) (padded_read p (fill_pairs f))
padded_is_read p ps f s can read short =
    let is : p ≡ with_map p ps = is_with_map p ps can.map in
    subst (λ q. SpellsMessage (padded_bytes q (fill_pairs f)) (padded_read q (fill_pairs f))) (sym is)
    (read_map p ps f s (subst (λ q. CanBePadded q ps) is can) (subst (SpellsMessage s) is read) short)
