-- What is spelled so is read, whatever follows.
use Rattle.std.proofs.Common.{◌≡◌, ℕ, zero, suc, ◌+◌, ◌*◌, ◌/◌, ◌%◌, ◌<◌, ◌≤◌, Bool, true, false, cond, ltb, List, [], ◌∷◌, ◌++◌, length, Some, None, Ok, refl, sym, ap, subst, ◌∙◌, append_assoc, arith, inl, inr, lit<}
use Rattle.std.specs.Prelude.{◌==◌}
use Rattle.std.specs.Str.{is_utf8}
use Rattle.std.specs.Int.{w16, w32, w64, to_be_bytes}
use Rattle.std.proofs.lemmas.Bool.{le-ltb, lt-ltb, eq-eqb}
use Rattle.std.proofs.lemmas.List.{take_at, drop_at, length-append}
use Rattle.c2_spec.specs.Cbor.Item.{Item, uint, nint, bytes, text, list, dict, tag, simple, half, single, double, Items, no_items, item, Pairs, no_pairs, pair}
use Rattle.c2_spec.specs.Cbor.Deterministic.{preferred}
use Rattle.c2_spec.specs.Cbor.Item.{items_len, pairs_len}
use Rattle.c2_spec.specs.Cbor.View.{items_of, pairs_of}
use Rattle.c2_spec.specs.Cbor.Legal.{depth, items_depth, pairs_depth}
use Rattle.c2_cbor_spec.specs.Keyed.{Unknown, Keyed, ItemsKeyed, PairsKeyed}
use Rattle.c2_spec.specs.Cbor.Spelling.{Form, Holds, info, extra, IsHead, opening, IsString, AreChunks, joined, SpellsString, InBrackets, Spells, SpellItems, SpellPairs}
use Rattle.c2_cbor_spec.specs.declared.head.Count.{Count}
use Rattle.c2_cbor_spec.specs.declared.head.Count.TheVariants as counts
use Rattle.c2_cbor_spec.specs.declared.head.Head.{Head}
use Rattle.c2_cbor_spec.specs.declared.head.Head.TheVariants as heads
use Rattle.c2_cbor_spec.specs.Reading.{Read, ◌>>=◌, head_at, string_at, chunk_head, chunk_body, chunk_at, chunks_step, chunks, ended, fewer, items_step, items, Known, known_step, with_key, pairs_step, pairs, body, item_at}
use Rattle.c2_spec.specs.Cbor.Spelling.{any_bytes}
use Rattle.c2_cbor_spec.proofs.Heads.{mapped, argument_again, info_small, not_equal, HeadSpells, head_again}
use Rattle.c2_cbor_spec.proofs.Sound.{closing, Counts}

-- ---- strings

-- a string that passes its test is read again, and what follows it is left
pub string_again : (ok : List ℕ → Bool) (at : ℕ) (b r : List ℕ) → ok b ≡ true
    → string_at ok at (length b) (b ++ r) ≡ Ok (b, r)
unfolding string_at
string_again ok at b r h =
    let long : ltb (length (b ++ r)) (length b) ≡ false = le-ltb _ _ (omega (arith, length-append b r)) in
    rw (long, take_at b r (length b) refl, drop_at b r (length b) refl, h) refl

-- the head of a chunk of a known length is read again
pub chunk_head_again : (m : ℕ) (f : Form) (n : ℕ) (r : List ℕ) → m < 4 → Holds f n
    → chunk_head m ((32 * m + info f n) ∷ (extra f n ++ r)) ≡ Ok (Some n, r)
unfolding chunk_head
chunk_head_again m f n r lt h =
    let small = info_small f n h in
    let d : (32 * m + info f n) / 32 ≡ m = omega arith in
    let a : (32 * m + info f n) % 32 ≡ info f n = omega arith in
    let go : (32 * m + info f n == 255) ≡ false = not_equal _ _ (omega arith) in
    let same : (m == m) ≡ true = eq-eqb m m refl in
    let below : ltb (info f n) 28 ≡ true = lt-ltb _ _ small in
    rw (go, d, a, same, below, argument_again (suc (length (extra f n ++ r))) f n r h) refl

-- a chunk is read again, and what follows it is left
pub chunk_again : (ok : List ℕ → Bool) (m : ℕ) (c x r : List ℕ) → m < 4 → IsString ok m c x
    → chunk_at ok m (x ++ r) ≡ Ok (Some c, r)
unfolding chunk_at
chunk_again ok m c x r lt (h, (f, p, e), good, parts) =
    let whole : x ++ r ≡ (32 * m + info f (length c)) ∷ (extra f (length c) ++ (c ++ r)) =
    ap (λ y. y ++ r) (parts ∙ ap (λ y. y ++ c) e)
    ∙ ap (λ y. (32 * m + info f (length c)) ∷ y) (append_assoc (extra f (length c)) c r) in
    ap (λ y. chunk_head m y >>= λ h. chunk_body ok (length y) h.0 h.1) whole
    ∙ ap (λ q. q >>= λ h. chunk_body ok (suc (length (extra f (length c) ++ (c ++ r)))) h.0 h.1)
    (chunk_head_again m f (length c) (c ++ r) lt p)
    ∙ ap (mapped Some) (string_again ok (suc (length (extra f (length c) ++ (c ++ r)))) c r good)

-- a chunk has a byte
pub chunk_longer : (ok : List ℕ → Bool) (m : ℕ) (c x r : List ℕ) → IsString ok m c x → length r < length (x ++ r)
chunk_longer ok m c x r (h, (f, p, e), good, parts) =
    omega (arith, ap length parts, length-append h c, ap length e, length-append x r)

-- chunks and the break after them are read again as the joined string
pub chunks_again : (ok : List ℕ → Bool) (m : ℕ) (cs : List (List ℕ)) (n : ℕ) (t r : List ℕ) → m < 4
    → AreChunks ok m cs t → length (t ++ (255 ∷ r)) < n → chunks ok m n (t ++ (255 ∷ r)) ≡ Ok (joined cs, r)
unfolding chunks chunk_at chunk_head
chunks_again ok m cs zero t r lt h big = let never : ⊥ = omega arith in absurd never
chunks_again ok m [] (suc n) t r lt h big = ap (λ y. chunks ok m (suc n) (y ++ (255 ∷ r))) h
chunks_again ok m (c ∷ cs) (suc n) t r lt (x, y, p, q, e) big =
    let whole : t ++ (255 ∷ r) ≡ x ++ (y ++ (255 ∷ r)) = ap (λ z. z ++ (255 ∷ r)) e ∙ append_assoc x y (255 ∷ r) in
    let enough : length (y ++ (255 ∷ r)) < n =
    omega (arith, ap length whole, chunk_longer ok m c x (y ++ (255 ∷ r)) p) in
    ap (chunks ok m (suc n)) whole
    ∙ ap (λ z. z >>= λ p. chunks_step (chunks ok m n) p.0 p.1) (chunk_again ok m c x (y ++ (255 ∷ r)) lt p)
    ∙ ap (λ z. z >>= λ q. Ok (c ++ q.0, q.1)) (chunks_again ok m cs n y r lt q enough)

-- ---- the first byte

-- the first byte is no break
abbrev pub Begins : List ℕ → Type 0
Begins x = (b : ℕ) × (t : List ℕ) × (b < 255) × (x ≡ b ∷ t)

-- a head doesn't begin with a break
head_begins : (m n : ℕ) (h t : List ℕ) → m < 7 → IsHead m n h → Begins (h ++ t)
head_begins m n h t lt (f, p, e) =
    (32 * m + info f n, extra f n ++ t, omega (arith, info_small f n p), ap (λ y. y ++ t) e)

-- a string doesn't begin with a break
string_begins : (ok : List ℕ → Bool) (m : ℕ) (b x : List ℕ) → m < 4 → SpellsString ok m b x → Begins x
string_begins ok m b x lt (inl (h, p, good, e)) = subst Begins (sym e) (head_begins m (length b) h b (omega arith) p)
string_begins ok m b x lt (inr (cs, t, p, j, e)) = (opening m, t ++ 255 ∷ [], omega arith, e)

-- a list or a map doesn't begin with a break
brackets_begin : (m n : ℕ) (P : List ℕ → Type 0) (x : List ℕ) → m < 7 → InBrackets m n P x → Begins x
brackets_begin m n P x lt (inl (h, t, p, q, e)) = subst Begins (sym e) (head_begins m n h t lt p)
brackets_begin m n P x lt (inr (t, q, e)) = (opening m, t ++ 255 ∷ [], omega arith, e)

-- what is a head alone doesn't begin with a break
whole_begins : (m n : ℕ) (x : List ℕ) → m < 7 → IsHead m n x → Begins x
whole_begins m n x lt (f, p, e) = (32 * m + info f n, extra f n, omega (arith, info_small f n p), e)

-- no spelling of an item begins with a break
pub begins : (v : Item) (x : List ℕ) → Spells v x → Begins x
begins (uint n) x p = whole_begins 0 n x (lit< tt) p
begins (nint n) x p = whole_begins 1 n x (lit< tt) p
begins (bytes b) x p = string_begins any_bytes 2 b x (lit< tt) p
begins (text t) x p = string_begins is_utf8 3 t x (lit< tt) p
begins (list vs) x p = brackets_begin 4 (items_len vs) (SpellItems vs) x (lit< tt) p
begins (dict ps) x p = brackets_begin 5 (pairs_len ps) (SpellPairs ps) x (lit< tt) p
begins (tag n v) x (h, t, p, q, e) = subst Begins (sym e) (head_begins 6 n h t (lit< tt) p)
begins (simple a) x (inl p) = (224 + a, [], omega (arith, p.0), p.1)
begins (simple a) x (inr p) = (248, a ∷ [], lit< tt, p.2)
begins (half n) x p = (249, to_be_bytes w16 n, lit< tt, p.1)
begins (single n) x p = (250, to_be_bytes w32 n, lit< tt, p.1)
begins (double n) x p = (251, to_be_bytes w64 n, lit< tt, p.1)

-- what doesn't begin with a break has a byte
pub longer : (x r : List ℕ) → Begins x → length r < length (x ++ r)
longer x r (b, t, lt, e) = omega (arith, ap length e, length-append x r)

-- an item that is due is no break
not_ended : (c : Count) (k : ℕ) (x r : List ℕ) → Counts c (suc k) → Begins x → ended c (x ++ r) ≡ None
not_ended (counts.Left zero) k x r h b = let never : ⊥ = omega arith in absurd never
not_ended (counts.Left (suc n)) k x r h b = refl
not_ended counts.Open k x r h (b, t, lt, e) =
    ap (λ y. ended counts.Open (y ++ r)) e ∙ ap (λ z. cond z (Some (t ++ r)) None) (not_equal b 255 lt)

-- where no member is left, what closes a list or a map ends it
ended_closing : (c : Count) (r : List ℕ) → Counts c 0 → ended c (closing c r) ≡ Some r
ended_closing (counts.Left n) r h = ap (λ k. ended (counts.Left k) r) h
ended_closing counts.Open r h = refl

-- after one of so many members one fewer is left
counts_fewer : (c : Count) (k : ℕ) → Counts c (suc k) → Counts (fewer c) k
counts_fewer (counts.Left n) k h = omega arith
counts_fewer counts.Open k h = tt

-- what closes a list or a map stays while members are read
closing-fewer : (c : Count) (r : List ℕ) → closing c r ≡ closing (fewer c) r
closing-fewer (counts.Left n) r = refl
closing-fewer counts.Open r = refl

-- ---- members as lists

-- the items as a list
abbrev pub items_in : Items → List Item
items_in no_items = []
items_in (item v vs) = v ∷ items_in vs

-- the pairs as a list
abbrev pub pairs_in : Pairs → List (Item × Item)
pairs_in no_pairs = []
pairs_in (pair k v ps) = (k, v) ∷ pairs_in ps

-- items made a list and back are the same
pub items_of-items_in : (vs : Items) → items_of (items_in vs) ≡ vs
items_of-items_in no_items = refl
items_of-items_in (item v vs) = ap (item v) (items_of-items_in vs)

-- pairs made a list and back are the same
pub pairs_of-pairs_in : (ps : Pairs) → pairs_of (pairs_in ps) ≡ ps
pairs_of-pairs_in no_pairs = refl
pairs_of-pairs_in (pair k v ps) = ap (pair k v) (pairs_of-pairs_in ps)

-- ---- items

module _ (known : Known) where
  -- where the head of an item is spelled, reading goes on after it
  pub at_head : (d : ℕ) (h : Head) (s x r : List ℕ) → HeadSpells h x → s ≡ x ++ r
      → item_at known (suc d) s ≡ body known (item_at known d) (length s) h r
  unfolding item_at
  at_head d h s x r p e =
      ap (λ q. q >>= λ g. body known (item_at known d) (length s) g.0 g.1) (ap head_at e ∙ head_again h x r p)

  -- a string in one piece or in chunks is read again as its bytes
  bytes_again : (ok : List ℕ → Bool) (m d : ℕ) (k : List ℕ → Item) (whole : ℕ → Head) (chunked : Head) (b x r : List ℕ)
      → m < 4
      → ((n : ℕ) (h : List ℕ) → IsHead m n h → HeadSpells (whole n) h)
      → ((h : List ℕ) → h ≡ opening m ∷ [] → HeadSpells chunked h)
      → ((value : List ℕ → Read Item) (at n : ℕ) (s : List ℕ) → body known value at (whole n) s ≡ mapped k (string_at ok at n s))
      → ((value : List ℕ → Read Item) (at : ℕ) (s : List ℕ) → body known value at chunked s ≡ mapped k (chunks ok m (suc (length s)) s))
      → SpellsString ok m b x → item_at known (suc d) (x ++ r) ≡ Ok (k b, r)
  bytes_again ok m d k whole chunked b x r lt hw hc bw bc (inl (h, p, good, e)) =
      at_head d (whole (length b)) (x ++ r) h (b ++ r) (hw (length b) h p) (ap (λ y. y ++ r) e ∙ append_assoc h b r)
      ∙ bw (item_at known d) (length (x ++ r)) (length b) (b ++ r)
      ∙ ap (mapped k) (string_again ok (length (x ++ r)) b r good)
  bytes_again ok m d k whole chunked b x r lt hw hc bw bc (inr (cs, t, p, j, e)) =
      at_head d chunked (x ++ r) (opening m ∷ []) (t ++ (255 ∷ r)) (hc _ refl)
      (ap (λ y. y ++ r) e ∙ ap (λ y. opening m ∷ y) (append_assoc t (255 ∷ []) r))
      ∙ bc (item_at known d) (length (x ++ r)) (t ++ (255 ∷ r))
      ∙ ap (mapped k) (chunks_again ok m cs (suc (length (t ++ (255 ∷ r)))) t r lt p (omega arith))
      ∙ ap (λ y. Ok (k y, r)) (sym j)

  mutual
    unfolding items pairs

    pub item_again : (v : Item) (d : ℕ) (x r : List ℕ) → Spells v x → depth v ≤ d → Keyed known v
        → item_at known d (x ++ r) ≡ Ok (v, r)
    item_again (uint n) zero x r p lt k = let never : ⊥ = omega arith in absurd never
    item_again (uint n) (suc d) x r p lt k = at_head d (heads.Uint n) (x ++ r) x r p refl
    item_again (nint n) zero x r p lt k = let never : ⊥ = omega arith in absurd never
    item_again (nint n) (suc d) x r p lt k = at_head d (heads.Nint n) (x ++ r) x r p refl
    item_again (bytes b) zero x r p lt k = let never : ⊥ = omega arith in absurd never
    item_again (bytes b) (suc d) x r p lt k =
        bytes_again any_bytes 2 d bytes heads.Bytes heads.ByteChunks b x r (lit< tt) (λ n h q. q) (λ h q. q)
        (λ value at n s. refl) (λ value at s. refl) p
    item_again (text b) zero x r p lt k = let never : ⊥ = omega arith in absurd never
    item_again (text b) (suc d) x r p lt k =
        bytes_again is_utf8 3 d text heads.Text heads.TextChunks b x r (lit< tt) (λ n h q. q) (λ h q. q)
        (λ value at n s. refl) (λ value at s. refl) p
    item_again (list vs) zero x r p lt k = let never : ⊥ = omega arith in absurd never
    item_again (list vs) (suc d) x r (inl (h, t, p, q, e)) lt k =
        at_head d (heads.List (counts.Left (items_len vs))) (x ++ r) h (t ++ r) p
        (ap (λ y. y ++ r) e ∙ append_assoc h t r)
        ∙ ap (mapped (λ ws. list (items_of ws)))
        (items_again vs d (suc (length (t ++ r))) (counts.Left (items_len vs)) t r q (omega arith) k refl (omega arith))
        ∙ ap (λ ws. Ok (list ws, r)) (items_of-items_in vs)
    item_again (list vs) (suc d) x r (inr (t, q, e)) lt k =
        at_head d (heads.List counts.Open) (x ++ r) (opening 4 ∷ []) (t ++ (255 ∷ r)) refl
        (ap (λ y. y ++ r) e ∙ ap (λ y. opening 4 ∷ y) (append_assoc t (255 ∷ []) r))
        ∙ ap (mapped (λ ws. list (items_of ws)))
        (items_again vs d (suc (length (t ++ (255 ∷ r)))) counts.Open t r q (omega arith) k tt (omega arith))
        ∙ ap (λ ws. Ok (list ws, r)) (items_of-items_in vs)
    item_again (dict ps) zero x r p lt k = let never : ⊥ = omega arith in absurd never
    item_again (dict ps) (suc d) x r (inl (h, t, p, q, e)) lt k =
        at_head d (heads.Map (counts.Left (pairs_len ps))) (x ++ r) h (t ++ r) p
        (ap (λ y. y ++ r) e ∙ append_assoc h t r)
        ∙ ap (mapped (λ ws. dict (pairs_of ws)))
        (pairs_again ps d (suc (length (t ++ r))) (counts.Left (pairs_len ps)) [] t r q (omega arith) k.0 k.1 refl (omega arith))
        ∙ ap (λ ws. Ok (dict ws, r)) (pairs_of-pairs_in ps)
    item_again (dict ps) (suc d) x r (inr (t, q, e)) lt k =
        at_head d (heads.Map counts.Open) (x ++ r) (opening 5 ∷ []) (t ++ (255 ∷ r)) refl
        (ap (λ y. y ++ r) e ∙ ap (λ y. opening 5 ∷ y) (append_assoc t (255 ∷ []) r))
        ∙ ap (mapped (λ ws. dict (pairs_of ws)))
        (pairs_again ps d (suc (length (t ++ (255 ∷ r)))) counts.Open [] t r q (omega arith) k.0 k.1 tt (omega arith))
        ∙ ap (λ ws. Ok (dict ws, r)) (pairs_of-pairs_in ps)
    item_again (tag n v) zero x r p lt k = let never : ⊥ = omega arith in absurd never
    item_again (tag n v) (suc d) x r (h, t, p, q, e) lt k =
        at_head d (heads.Tag n) (x ++ r) h (t ++ r) p (ap (λ y. y ++ r) e ∙ append_assoc h t r)
        ∙ ap (mapped (tag n)) (item_again v d t r q (omega arith) k)
    item_again (simple a) zero x r p lt k = let never : ⊥ = omega arith in absurd never
    item_again (simple a) (suc d) x r p lt k = at_head d (heads.Simple a) (x ++ r) x r p refl
    item_again (half n) zero x r p lt k = let never : ⊥ = omega arith in absurd never
    item_again (half n) (suc d) x r p lt k = at_head d (heads.Half n) (x ++ r) x r p refl
    item_again (single n) zero x r p lt k = let never : ⊥ = omega arith in absurd never
    item_again (single n) (suc d) x r p lt k = at_head d (heads.Single n) (x ++ r) x r p refl
    item_again (double n) zero x r p lt k = let never : ⊥ = omega arith in absurd never
    item_again (double n) (suc d) x r p lt k = at_head d (heads.Double n) (x ++ r) x r p refl

    pub items_again : (vs : Items) (d n : ℕ) (c : Count) (x r : List ℕ) → SpellItems vs x → items_depth vs ≤ d
        → ItemsKeyed known vs → Counts c (items_len vs) → length (x ++ closing c r) < n
        → items (item_at known d) n c (x ++ closing c r) ≡ Ok (items_in vs, r)
    items_again vs d zero c x r p lt k count big = let never : ⊥ = omega arith in absurd never
    items_again no_items d (suc n) c x r p lt k count big =
        ap
        (λ y. items_step (item_at known d) (items (item_at known d) n) c (y ++ closing c r) (ended c (y ++ closing c r)))
        p
        ∙ ap (items_step (item_at known d) (items (item_at known d) n) c (closing c r)) (ended_closing c r count)
    items_again (item v vs) d (suc n) c x r (y, z, p, q, e) lt k count big =
        let whole : x ++ closing c r ≡ y ++ (z ++ closing c r) =
        ap (λ w. w ++ closing c r) e ∙ append_assoc y z (closing c r) in
        let first = begins v y p in
        let same : z ++ closing c r ≡ z ++ closing (fewer c) r = ap (λ w. z ++ w) (closing-fewer c r) in
        let enough : length (z ++ closing (fewer c) r) < n =
        omega (arith, ap length whole, ap length same, longer y (z ++ closing c r) first) in
        ap (items (item_at known d) (suc n) c) whole
        ∙ ap (items_step (item_at known d) (items (item_at known d) n) c (y ++ (z ++ closing c r)))
        (not_ended c (items_len vs) y (z ++ closing c r) count first)
        ∙ ap (λ u. u >>= λ p. items (item_at known d) n (fewer c) p.1 >>= λ q. Ok (p.0 ∷ q.0, q.1))
        (item_again v d y (z ++ closing c r) p (omega arith) k.0)
        ∙ ap (λ u. items (item_at known d) n (fewer c) u >>= λ q. Ok (v ∷ q.0, q.1)) same
        ∙ ap (λ u. u >>= λ q. Ok (v ∷ q.0, q.1))
        (items_again vs d n (fewer c) z r q (omega arith) k.1 (counts_fewer c (items_len vs) count) enough)

    pub pairs_again : (ps : Pairs) (d n : ℕ) (c : Count) (seen : List (List ℕ)) (x r : List ℕ) → SpellPairs ps x
        → pairs_depth ps ≤ d → PairsKeyed known ps → Unknown known seen ps → Counts c (pairs_len ps)
        → length (x ++ closing c r) < n
        → pairs known (item_at known d) n c seen (x ++ closing c r) ≡ Ok (pairs_in ps, r)
    pairs_again ps d zero c seen x r p lt k un count big = let never : ⊥ = omega arith in absurd never
    pairs_again no_pairs d (suc n) c seen x r p lt k un count big =
        ap
        (λ y. pairs_step known (item_at known d) (pairs known (item_at known d) n) c seen (y ++ closing c r) (ended c (y ++ closing c r)))
        p
        ∙ ap (pairs_step known (item_at known d) (pairs known (item_at known d) n) c seen (closing c r))
        (ended_closing c r count)
    pairs_again (pair key v ps) d (suc n) c seen x r (y, w, z, p, pv, q, e) lt k un count big =
        let whole : x ++ closing c r ≡ y ++ (w ++ (z ++ closing c r)) =
        ap (λ u. u ++ closing c r) e ∙ append_assoc y (w ++ z) (closing c r)
        ∙ ap (λ u. y ++ u) (append_assoc w z (closing c r)) in
        let first = begins key y p in
        let second = begins v w pv in
        let same : z ++ closing c r ≡ z ++ closing (fewer c) r = ap (λ u. z ++ u) (closing-fewer c r) in
        let enough : length (z ++ closing (fewer c) r) < n =
        omega
        (arith, ap length whole, ap length same, longer y (w ++ (z ++ closing c r)) first, longer w (z ++ closing c r) second) in
        ap (pairs known (item_at known d) (suc n) c seen) whole
        ∙ ap
        (pairs_step known (item_at known d) (pairs known (item_at known d) n) c seen (y ++ (w ++ (z ++ closing c r))))
        (not_ended c (pairs_len ps) y (w ++ (z ++ closing c r)) count first)
        ∙ ap (λ u. u >>= λ k. known_step (known (preferred k.0) seen) (length (y ++ (w ++ (z ++ closing c r))))
        (item_at known d k.1 >>= λ v. pairs known (item_at known d) n (fewer c) (with_key seen (preferred k.0)) v.1
        >>= λ q. Ok ((k.0, v.0) ∷ q.0, q.1)))
        (item_again key d y (w ++ (z ++ closing c r)) p (omega arith) k.0)
        ∙ ap
        (λ u. known_step u (length (y ++ (w ++ (z ++ closing c r)))) (item_at known d (w ++ (z ++ closing c r)) >>= λ v. pairs known (item_at known d) n (fewer c) (with_key seen (preferred key)) v.1 >>= λ q. Ok ((key, v.0) ∷ q.0, q.1)))
        un.0
        ∙ ap
        (λ u. u >>= λ v. pairs known (item_at known d) n (fewer c) (with_key seen (preferred key)) v.1 >>= λ q. Ok ((key, v.0) ∷ q.0, q.1))
        (item_again v d w (z ++ closing c r) pv (omega arith) k.1)
        ∙ ap
        (λ u. pairs known (item_at known d) n (fewer c) (with_key seen (preferred key)) u >>= λ q. Ok ((key, v) ∷ q.0, q.1))
        same
        ∙ ap (λ u. u >>= λ q. Ok ((key, v) ∷ q.0, q.1))
        (pairs_again ps d n (fewer c) (with_key seen (preferred key)) z r q (omega arith) k.2 un.1 (counts_fewer c (pairs_len ps) count) enough)
