-- A reader tells each fault.
use Rattle.std.proofs.Common.{◌≡◌, ◌≢◌, ℕ, zero, suc, ◌+◌, ◌*◌, ◌/◌, ◌%◌, ◌^◌, ◌<◌, ◌≤◌, Bool, true, false, cond, ltb}
use Rattle.std.proofs.Common.{◌&&◌, List, [], ◌∷◌, ◌++◌, length, Some, None, Ok, Err, refl, sym, ap, subst, ◌∙◌}
use Rattle.std.proofs.Common.{append_assoc, arith, inl, inr, ◌⊎◌, lit<}
use Rattle.std.specs.Prelude.{nat_lt, ◌==◌}
use Rattle.std.specs.Str.{is_utf8}
use Rattle.std.proofs.lemmas.Bool.{le-ltb, lt-ltb, eq-eqb, eqb-true}
use Rattle.std.proofs.lemmas.List.{length-append}
use Rattle.c2_spec.specs.Cbor.Item.{Item, bytes as bytes_item, text, list, dict, tag, Items, no_items, item, Pairs, no_pairs, pair}
use Rattle.c2_spec.specs.Cbor.Deterministic.{preferred}
use Rattle.c2_spec.specs.Cbor.Item.{items_len, pairs_len}
use Rattle.c2_spec.specs.Cbor.View.{items_of, pairs_of}
use Rattle.c2_spec.specs.Cbor.Legal.{items_depth, pairs_depth, PairsHaveDistinctKeys}
use Rattle.c2_cbor_spec.specs.Keyed.{Unknown, ItemsKeyed, PairsKeyed}
use Rattle.c2_spec.specs.Cbor.Spelling.{opening, AreChunks, SpellItems, SpellPairs, info, extra}
use Rattle.c2_spec.specs.Cbor.Faults.{StringFault, ChunkFault, ChunksFault, IsInside, Faulty, ends, deep, in_head, in_bytes, in_text, in_list, in_key, same_key, in_value, in_tag}
use Rattle.c2_spec.specs.Cbor.Legal.{HasKey}
use Rattle.c2_spec.specs.declared.cbor.CborError.{CborError}
use Rattle.c2_cbor_spec.specs.declared.fault.Fault.{Fault}
use Rattle.c2_cbor_spec.specs.declared.fault.Fault.TheVariants.{Short, Reserved, DuplicateKey, TooDeep}
use Rattle.c2_cbor_spec.specs.declared.head.Count.{Count}
use Rattle.c2_cbor_spec.specs.declared.head.Count.TheVariants as counts
use Rattle.c2_cbor_spec.specs.declared.head.Head.TheVariants as heads
use Rattle.c2_cbor_spec.specs.Reading.{◌>>=◌, head_at, chunk_head, chunk_body, chunk_at, chunks_step, chunks, ended, fewer, items_step, items, is_known, known_step, with_key, pairs_step, pairs, body, item_at}
use Rattle.c2_spec.specs.Cbor.Spelling.{any_bytes}
use Rattle.c2_cbor_spec.proofs.Heads.{AreBytes, mapped, not_equal, CountSpells}
use Rattle.c2_cbor_spec.proofs.HeadFaults.{Told, head_told, string_told, cut_small, argument_cut}
use Rattle.c2_cbor_spec.proofs.Sound.{rest_of}
use Rattle.c2_cbor_spec.proofs.Complete.{begins, Begins, longer, at_head, item_again, chunk_again, chunk_longer, chunk_head_again}
use Rattle.c2_cbor_spec.specs.Tracking.{seen_after}
use Rattle.c2_cbor_spec.specs.Fine.{Fine, FinePairs}
use Rattle.c2_cbor_spec.proofs.Unique.{preferred_same, keyed_from, items_keyed_from, pairs_keyed_from, unknown_from, fresh_at_first}
use Rattle.c2_cbor_spec.proofs.Fine.{fine, fine_items, fine_pairs}
use Rattle.c2_cbor_spec.proofs.Keys.{known_new, known_stays, known_other}
use Rattle.c2_lemmas.proofs.Bools.{and_unless}
use Rattle.c2_lemmas.proofs.Numbers.{not_equal as not_same}

-- ---- strings

-- a fault of a chunk is told
chunk_wrong : (n : ℕ) (ok : List ℕ → Bool) (m : ℕ) (t : List ℕ) (w : CborError) → m < 4 → ChunkFault n ok m t w
    → Told n (chunk_at ok m t) w
unfolding chunk_at chunk_head
chunk_wrong n ok m t w lt (inl (e, is)) =
    (Short, ap (λ s. chunk_head m s >>= λ h. chunk_body ok (length s) h.0 h.1) e, is)
chunk_wrong n ok m t w lt (inr (inl (b, u, e, ne, bad, is))) =
    let first : (b == 255) ≡ false = not_same b 255 ne in
    let second : ((b / 32 == m) && nat_lt (b % 32) 28) ≡ false =
    and_unless (b / 32 == m) (nat_lt (b % 32) 28) (λ h. le-ltb (b % 32) 28 (bad (eqb-true (b / 32) m h))) in
    (Reserved (length t), ap (λ s. chunk_head m s >>= λ h. chunk_body ok (length s) h.0 h.1) e ∙ rw (first, second) refl ∙ ap (λ k. Err (Reserved k)) (sym (ap length e)), is)
chunk_wrong n ok m t w lt (inr (inr (inl (b, u, e, major, cut, is)))) =
    let small = cut_small (b % 32) u cut in
    let first : (b == 255) ≡ false = not_same b 255 (λ h. omega arith) in
    let third : ltb (b % 32) 28 ≡ true = lt-ltb _ _ small in
    (Short, ap (λ s. chunk_head m s >>= λ h. chunk_body ok (length s) h.0 h.1) e ∙ rw (first, eq-eqb (b / 32) m major, third, argument_cut (suc (length u)) (b % 32) u cut) refl, is)
chunk_wrong n ok m t w lt (inr (inr (inr (k, h, u, (g, p, eh), e, cases)))) =
    let whole : t ≡ (32 * m + info g k) ∷ (extra g k ++ u) = e ∙ ap (λ y. y ++ u) eh in
    let q = string_told n ok k t u w cases in (
      q.0,
      ap (λ s. chunk_head m s >>= λ h. chunk_body ok (length t) h.0 h.1) whole ∙ ap (λ q. q >>= λ h. chunk_body ok (length t) h.0 h.1) (chunk_head_again m g k u lt p)
          ∙ ap (λ q. q >>= λ p. Ok (Some p.0, p.1)) q.1,
      q.2,
    )

-- after good chunks the next chunk's fault is told
chunks_wrong : (ok : List ℕ → Bool) (m : ℕ) (cs : List (List ℕ)) (n : ℕ) (x t : List ℕ) (f : Fault) → m < 4
    → AreChunks ok m cs x → chunk_at ok m t ≡ Err f → length (x ++ t) < n → chunks ok m n (x ++ t) ≡ Err f
unfolding chunks
chunks_wrong ok m cs zero x t f lt p e big = let never : ⊥ = omega arith in absurd never
chunks_wrong ok m [] (suc n) x t f lt p e big =
    ap (λ y. chunks ok m (suc n) (y ++ t)) p ∙ ap (λ q. q >>= λ p. chunks_step (chunks ok m n) p.0 p.1) e
chunks_wrong ok m (c ∷ cs) (suc n) x t f lt (y, z, p, q, g) e big =
    let whole : x ++ t ≡ y ++ (z ++ t) = ap (λ w. w ++ t) g ∙ append_assoc y z t in
    let enough : length (z ++ t) < n = omega (arith, ap length whole, chunk_longer ok m c y (z ++ t) p) in
    ap (chunks ok m (suc n)) whole
    ∙ ap (λ w. w >>= λ p. chunks_step (chunks ok m n) p.0 p.1) (chunk_again ok m c y (z ++ t) lt p)
    ∙ ap (λ w. w >>= λ q. Ok (c ++ q.0, q.1)) (chunks_wrong ok m cs n z t f lt q e enough)

-- ---- a member is due

-- after so many members one more is due
abbrev pub Dues : Count → ℕ → List ℕ → Type 0
Dues (counts.Left n) k t = k < n
Dues counts.Open k t = (r : List ℕ) → t ≢ 255 ∷ r

-- how many are due after so many members
abbrev pub less : ℕ → Count → Count
less zero c = c
less (suc k) c = less k (fewer c)

-- where a member is due, the list or map doesn't end
pub dues_now : (c : Count) (t : List ℕ) → Dues c 0 t → ended c t ≡ None
dues_now (counts.Left zero) t h = let never : ⊥ = omega arith in absurd never
dues_now (counts.Left (suc n)) t h = refl
dues_now counts.Open [] h = refl
dues_now counts.Open (b ∷ t) h = ap (λ z. cond z (Some t) None) (not_same b 255 (λ e. h t (ap (λ k. k ∷ t) e)))

-- after one member, a member that was due later is due one member sooner
dues_fewer : (c : Count) (k : ℕ) (t : List ℕ) → Dues c (suc k) t → Dues (fewer c) k t
dues_fewer (counts.Left n) k t h = omega arith
dues_fewer counts.Open k t h = h

-- after so many members, one being due, the list or map doesn't end
dues_later : (k : ℕ) (c : Count) (t : List ℕ) → Dues c k t → ended (less k c) t ≡ None
dues_later zero c t h = dues_now c t h
dues_later (suc k) c t h = dues_later k (fewer c) t (dues_fewer c k t h)

-- before a further member none ends
dues_before : (c : Count) (k : ℕ) (x t r : List ℕ) → Dues c (suc k) t → Begins x → ended c (x ++ r) ≡ None
dues_before (counts.Left zero) k x t r h b = let never : ⊥ = omega arith in absurd never
dues_before (counts.Left (suc n)) k x t r h b = refl
dues_before counts.Open k x t r h (b, y, lt, e) =
    ap (λ w. ended counts.Open (w ++ r)) e ∙ ap (λ z. cond z (Some (y ++ r)) None) (not_equal b 255 lt)

module _ (d : ℕ) (f : Fault) where
  -- after good items the next item's fault is told
  items_skip : (vs : Items) (n : ℕ) (c : Count) (x t : List ℕ) → SpellItems vs x → items_depth vs ≤ d
      → ItemsKeyed is_known vs → Dues c (items_len vs) t → length (x ++ t) < n
      → ((j : ℕ) → length t < j → items (item_at is_known d) j (less (items_len vs) c) t ≡ Err f)
      → items (item_at is_known d) n c (x ++ t) ≡ Err f
  unfolding items
  items_skip vs zero c x t p lt k due big tail = let never : ⊥ = omega arith in absurd never
  items_skip no_items (suc n) c x t p lt k due big tail =
      let enough : length t < suc n = omega (arith, ap length p, length-append x t) in
      ap (λ y. items (item_at is_known d) (suc n) c (y ++ t)) p ∙ tail (suc n) enough
  items_skip (item v vs) (suc n) c x t (y, z, p, q, e) lt k due big tail =
      let whole : x ++ t ≡ y ++ (z ++ t) = ap (λ w. w ++ t) e ∙ append_assoc y z t in
      let first = begins v y p in
      let enough : length (z ++ t) < n = omega (arith, ap length whole, longer y (z ++ t) first) in
      ap (items (item_at is_known d) (suc n) c) whole
      ∙ ap (items_step (item_at is_known d) (items (item_at is_known d) n) c (y ++ (z ++ t)))
      (dues_before c (items_len vs) y t (z ++ t) due first)
      ∙ ap (λ u. u >>= λ p. items (item_at is_known d) n (fewer c) p.1 >>= λ q. Ok (p.0 ∷ q.0, q.1))
      (item_again is_known v d y (z ++ t) p (omega arith) k.0)
      ∙ ap (λ u. u >>= λ q. Ok (v ∷ q.0, q.1))
      (items_skip vs n (fewer c) z t q (omega arith) k.1 (dues_fewer c (items_len vs) t due) enough tail)

  -- after good pairs the next pair's fault is told
  pairs_skip : (ps : Pairs) (n : ℕ) (c : Count) (seen : List (List ℕ)) (x t : List ℕ) → SpellPairs ps x
      → pairs_depth ps ≤ d → PairsKeyed is_known ps → Unknown is_known seen ps → Dues c (pairs_len ps) t
      → length (x ++ t) < n
      → ((j : ℕ) → length t < j → pairs is_known (item_at is_known d) j (less (pairs_len ps) c) (seen_after seen ps) t ≡ Err f)
      → pairs is_known (item_at is_known d) n c seen (x ++ t) ≡ Err f
  unfolding pairs
  pairs_skip ps zero c seen x t p lt k un due big tail = let never : ⊥ = omega arith in absurd never
  pairs_skip no_pairs (suc n) c seen x t p lt k un due big tail =
      let enough : length t < suc n = omega (arith, ap length p, length-append x t) in
      ap (λ y. pairs is_known (item_at is_known d) (suc n) c seen (y ++ t)) p ∙ tail (suc n) enough
  pairs_skip (pair key v ps) (suc n) c seen x t (y, w, z, p, pv, q, e) lt k un due big tail =
      let whole : x ++ t ≡ y ++ (w ++ (z ++ t)) =
      ap (λ u. u ++ t) e ∙ append_assoc y (w ++ z) t ∙ ap (λ u. y ++ u) (append_assoc w z t) in
      let first = begins key y p in
      let second = begins v w pv in
      let enough : length (z ++ t) < n =
      omega (arith, ap length whole, longer y (w ++ (z ++ t)) first, longer w (z ++ t) second) in
      ap (pairs is_known (item_at is_known d) (suc n) c seen) whole
      ∙ ap
      (pairs_step is_known (item_at is_known d) (pairs is_known (item_at is_known d) n) c seen (y ++ (w ++ (z ++ t))))
      (dues_before c (pairs_len ps) y t (w ++ (z ++ t)) due first)
      ∙ ap (λ u. u >>= λ k. known_step (is_known (preferred k.0) seen) (length (y ++ (w ++ (z ++ t))))
      (item_at is_known d k.1 >>= λ v. pairs is_known (item_at is_known d) n (fewer c) (with_key seen (preferred k.0)) v.1
      >>= λ q. Ok ((k.0, v.0) ∷ q.0, q.1)))
      (item_again is_known key d y (w ++ (z ++ t)) p (omega arith) k.0)
      ∙ ap
      (λ u. known_step u (length (y ++ (w ++ (z ++ t)))) (item_at is_known d (w ++ (z ++ t)) >>= λ v. pairs is_known (item_at is_known d) n (fewer c) (with_key seen (preferred key)) v.1 >>= λ q. Ok ((key, v.0) ∷ q.0, q.1)))
      un.0
      ∙ ap
      (λ u. u >>= λ v. pairs is_known (item_at is_known d) n (fewer c) (with_key seen (preferred key)) v.1 >>= λ q. Ok ((key, v.0) ∷ q.0, q.1))
      (item_again is_known v d w (z ++ t) pv (omega arith) k.1)
      ∙ ap (λ u. u >>= λ q. Ok ((key, v) ∷ q.0, q.1))
      (pairs_skip ps n (fewer c) (with_key seen (preferred key)) z t q (omega arith) k.2 un.1 (dues_fewer c (pairs_len ps) t due) enough tail)

  -- at the member itself
  item_tail : (c : Count) (t : List ℕ) → ended c t ≡ None → item_at is_known d t ≡ Err f → (j : ℕ) → length t < j
      → items (item_at is_known d) j c t ≡ Err f
  unfolding items
  item_tail c t e g zero lt = let never : ⊥ = omega arith in absurd never
  item_tail c t e g (suc j) lt =
      ap (items_step (item_at is_known d) (items (item_at is_known d) j) c t) e
      ∙ ap (λ u. u >>= λ p. items (item_at is_known d) j (fewer c) p.1 >>= λ q. Ok (p.0 ∷ q.0, q.1)) g

  -- where a key is due and isn't read, its fault is told
  key_tail : (c : Count) (seen : List (List ℕ)) (t : List ℕ) → ended c t ≡ None → item_at is_known d t ≡ Err f → (j : ℕ)
      → length t < j → pairs is_known (item_at is_known d) j c seen t ≡ Err f
  unfolding pairs
  key_tail c seen t e g zero lt = let never : ⊥ = omega arith in absurd never
  key_tail c seen t e g (suc j) lt =
      ap (pairs_step is_known (item_at is_known d) (pairs is_known (item_at is_known d) j) c seen t) e
      ∙ ap
      (λ u. u >>= λ k. known_step (is_known (preferred k.0) seen) (length t) (item_at is_known d k.1 >>= λ v. pairs is_known (item_at is_known d) j (fewer c) (with_key seen (preferred k.0)) v.1 >>= λ q. Ok ((k.0, v.0) ∷ q.0, q.1)))
      g

  -- where a key is new and its value isn't read, the value's fault is told
  value_tail : (c : Count) (seen : List (List ℕ)) (t u : List ℕ) (k : Item) → ended c t ≡ None
      → item_at is_known d t ≡ Ok (k, u) → is_known (preferred k) seen ≡ false → item_at is_known d u ≡ Err f
      → (j : ℕ) → length t < j → pairs is_known (item_at is_known d) j c seen t ≡ Err f
  unfolding pairs
  value_tail c seen t u k e g new h zero lt = let never : ⊥ = omega arith in absurd never
  value_tail c seen t u k e g new h (suc j) lt =
      ap (pairs_step is_known (item_at is_known d) (pairs is_known (item_at is_known d) j) c seen t) e
      ∙ ap
      (λ w. w >>= λ k. known_step (is_known (preferred k.0) seen) (length t) (item_at is_known d k.1 >>= λ v. pairs is_known (item_at is_known d) j (fewer c) (with_key seen (preferred k.0)) v.1 >>= λ q. Ok ((k.0, v.0) ∷ q.0, q.1)))
      g
      ∙ ap
      (λ w. known_step w (length t) (item_at is_known d u >>= λ v. pairs is_known (item_at is_known d) j (fewer c) (with_key seen (preferred k)) v.1 >>= λ q. Ok ((k, v.0) ∷ q.0, q.1)))
      new
      ∙ ap
      (λ w. w >>= λ v. pairs is_known (item_at is_known d) j (fewer c) (with_key seen (preferred k)) v.1 >>= λ q. Ok ((k, v.0) ∷ q.0, q.1))
      h

-- where a key is known, it is told as a duplicate at its place
same_tail : (d : ℕ) (c : Count) (seen : List (List ℕ)) (t u : List ℕ) (k : Item) → ended c t ≡ None
    → item_at is_known d t ≡ Ok (k, u) → is_known (preferred k) seen ≡ true → (j : ℕ) → length t < j
    → pairs is_known (item_at is_known d) j c seen t ≡ Err (DuplicateKey (length t))
unfolding pairs
same_tail d c seen t u k e g old zero lt = let never : ⊥ = omega arith in absurd never
same_tail d c seen t u k e g old (suc j) lt =
    ap (pairs_step is_known (item_at is_known d) (pairs is_known (item_at is_known d) j) c seen t) e
    ∙ ap
    (λ w. w >>= λ k. known_step (is_known (preferred k.0) seen) (length t) (item_at is_known d k.1 >>= λ v. pairs is_known (item_at is_known d) j (fewer c) (with_key seen (preferred k.0)) v.1 >>= λ q. Ok ((k.0, v.0) ∷ q.0, q.1)))
    g
    ∙ ap
    (λ w. known_step w (length t) (item_at is_known d u >>= λ v. pairs is_known (item_at is_known d) j (fewer c) (with_key seen (preferred k)) v.1 >>= λ q. Ok ((k, v.0) ∷ q.0, q.1)))
    old

-- ---- keys that came before

-- a key that is known stays so
pub still_known : (x : List ℕ) (ps : Pairs) (seen : List (List ℕ)) → is_known x seen ≡ true
    → is_known x (seen_after seen ps) ≡ true
still_known x no_pairs seen e = e
still_known x (pair k v ps) seen e = still_known x ps (with_key seen (preferred k)) (known_stays x (preferred k) seen e)

-- a key of pairs that were read is known
pub known_key : (k : Item) (ps : Pairs) (seen : List (List ℕ)) → HasKey k ps
    → is_known (preferred k) (seen_after seen ps) ≡ true
known_key k no_pairs seen h = absurd h
known_key k (pair l v ps) seen (inl e) =
    still_known (preferred k) ps (with_key seen (preferred l))
    (subst (λ z. is_known (preferred z) (with_key seen (preferred l)) ≡ true) (sym e) (known_new (preferred l) seen))
known_key k (pair l v ps) seen (inr h) = known_key k ps (with_key seen (preferred l)) h

-- a key that is none of theirs, and wasn't known, isn't known after them
pub unknown_key : (k : Item) (ps : Pairs) (seen : List (List ℕ)) → Fine k → FinePairs ps → (HasKey k ps → ⊥)
    → is_known (preferred k) seen ≡ false → is_known (preferred k) (seen_after seen ps) ≡ false
unknown_key k no_pairs seen fk fp ne e = e
unknown_key k (pair l v ps) seen fk fp ne e =
    unknown_key k ps (with_key seen (preferred l)) fk fp.2 (λ h. ne (inr h))
    (known_other (preferred k) (preferred l) seen (λ same. ne (inl (preferred_same k l fk fp.0 same))) e)

-- ---- an item

-- either form of brackets
pub record Opened (m k : ℕ) (P : List ℕ → Type 0) (s t : List ℕ) : Type 0 where
  pub count : Count
  pub head : List ℕ
  pub front : List ℕ
  pub opens : CountSpells m count head
  pub holds : P front
  pub due : Dues count k t
  pub parts : s ≡ head ++ (front ++ t)

-- what is between brackets was opened by one head of two forms
opened : (m k : ℕ) (P : List ℕ → Type 0) (s t : List ℕ) → IsInside m k P s t → Opened m k P s t
opened m k P s t (inl (n, h, x, is, p, lt, e)) =
    record { count = counts.Left n; head = h; front = x; opens = is; holds = p; due = lt; parts = e }
opened m k P s t (inr (x, p, stays, e)) =
    record { count = counts.Open; head = opening m ∷ []; front = x; opens = refl; holds = p; due = stays; parts = e }

-- what stands behind the members is short, and bytes
pub record Fits (s : List ℕ) : Type 0 where
  pub bytes : AreBytes s
  pub short : length s < 2 ^ 64

-- what follows part of bytes that fit fits
pub behind : (s x t : List ℕ) → s ≡ x ++ t → Fits s → Fits t
behind s x t e h =
    record { bytes = rest_of s x t e h.bytes; short = omega (arith, h.short, ap length e, length-append x t) }

-- a part of bytes that fit is shorter than 2^64
front_short : (s h x t : List ℕ) → s ≡ h ++ (x ++ t) → Fits s → length x < 2 ^ 64
front_short s h x t e fits = omega (arith, fits.short, ap length e, length-append h (x ++ t), length-append x t)

-- at the end of the bytes an item is told as cut short
told_ends : (d : ℕ) → item_at is_known d [] ≡ Err Short
unfolding item_at head_at
told_ends zero = refl
told_ends (suc d) = refl

-- where no level is left, an item is told as too deep
told_deep : (s : List ℕ) → s ≢ [] → item_at is_known 0 s ≡ Err (TooDeep (length s))
unfolding item_at
told_deep [] ne = absurd (ne refl)
told_deep (b ∷ s) ne = refl

-- a fault of the head is told
told_head : (d : ℕ) (s : List ℕ) (f : Fault) → head_at s ≡ Err f → item_at is_known (suc d) s ≡ Err f
unfolding item_at
told_head d s f e = ap (λ q. q >>= λ g. body is_known (item_at is_known d) (length s) g.0 g.1) e

-- a fault of a byte string is told, in one piece or in chunks
told_bytes : (n d : ℕ) (s : List ℕ) (w : CborError) → StringFault n any_bytes 2 s w ⊎ ChunksFault n any_bytes 2 s w
    → Told n (item_at is_known (suc d) s) w
told_bytes n d s w (inl (k, h, t, is, e, cases)) =
    let q = string_told n any_bytes k s t w cases in
    (q.0, at_head is_known d (heads.Bytes k) s h t is e ∙ ap (mapped bytes_item) q.1, q.2)
told_bytes n d s w (inr (cs, x, t, p, e, c)) =
    let q = chunk_wrong n any_bytes 2 t w (lit< tt) c in
    (q.0, at_head is_known d heads.ByteChunks s (opening 2 ∷ []) (x ++ t) refl e ∙ ap (mapped bytes_item) (chunks_wrong any_bytes 2 cs (suc (length (x ++ t))) x t q.0 (lit< tt) p q.1 (omega arith)), q.2)

-- a fault of a text is told, in one piece or in chunks
told_text : (n d : ℕ) (s : List ℕ) (w : CborError) → StringFault n is_utf8 3 s w ⊎ ChunksFault n is_utf8 3 s w
    → Told n (item_at is_known (suc d) s) w
told_text n d s w (inl (k, h, t, is, e, cases)) =
    let q = string_told n is_utf8 k s t w cases in
    (q.0, at_head is_known d (heads.Text k) s h t is e ∙ ap (mapped text) q.1, q.2)
told_text n d s w (inr (cs, x, t, p, e, c)) =
    let q = chunk_wrong n is_utf8 3 t w (lit< tt) c in
    (q.0, at_head is_known d heads.TextChunks s (opening 3 ∷ []) (x ++ t) refl e ∙ ap (mapped text) (chunks_wrong is_utf8 3 cs (suc (length (x ++ t))) x t q.0 (lit< tt) p q.1 (omega arith)), q.2)

-- the pairs before a key, and what is wrong from the key on
told_pairs : (d : ℕ) (s t : List ℕ) (f : Fault) (ps : Pairs) (o : Opened 5 (pairs_len ps) (SpellPairs ps) s t) → Fits s
    → pairs_depth ps ≤ d → PairsHaveDistinctKeys ps
    → ((j : ℕ) → length t < j → pairs is_known (item_at is_known d) j (less (pairs_len ps) o.count) (seen_after [] ps) t ≡ Err f)
    → item_at is_known (suc d) s ≡ Err f
told_pairs d s t f ps o fits low distinct tail =
    let small = fine_pairs ps o.front (front_short s o.head o.front t o.parts fits) o.holds in
    at_head is_known d (heads.Map o.count) s o.head (o.front ++ t) o.opens o.parts
    ∙ ap (mapped (λ ws. dict (pairs_of ws)))
    (pairs_skip d f ps (suc (length (o.front ++ t))) o.count [] o.front t o.holds low (pairs_keyed_from ps small distinct) (unknown_from ps [] small distinct (fresh_at_first ps)) o.due (omega arith) tail)

-- every fault that bytes have is told
pub fault_told : (n d : ℕ) (s : List ℕ) (w : CborError) → Faulty n d s w → Fits s → Told n (item_at is_known d s) w
fault_told n d s w (ends e) fits = (Short, told_ends e, refl)
fault_told n d s w (deep t ne) fits = (TooDeep (length t), told_deep t ne, refl)
fault_told n d s w (in_head e t g p) fits = let q = head_told n t g fits.bytes p in (q.0, told_head e t q.0 q.1, q.2)
fault_told n d s w (in_bytes e t g p) fits = told_bytes n e t g p
fault_told n d s w (in_text e t g p) fits = told_text n e t g p
fault_told n d s w (in_list e y g vs t p low distinct h) fits =
    let o = opened 4 (items_len vs) (SpellItems vs) y t p in
    let rest = behind (o.front ++ t) o.front t refl (behind y o.head (o.front ++ t) o.parts fits) in
    let small = fine_items vs o.front (front_short y o.head o.front t o.parts fits) o.holds in
    let q = fault_told n e t g h rest in (
      q.0,
      at_head is_known e (heads.List o.count) y o.head (o.front ++ t) o.opens o.parts
          ∙ ap (mapped (λ ws. list (items_of ws))) (items_skip e q.0 vs (suc (length (o.front ++ t))) o.count o.front t o.holds low (items_keyed_from vs small distinct) o.due (omega arith)
          (item_tail e q.0 (less (items_len vs) o.count) t (dues_later (items_len vs) o.count t o.due) q.1)),
      q.2,
    )
fault_told n d s w (in_key e y g ps t p low distinct h) fits =
    let o = opened 5 (pairs_len ps) (SpellPairs ps) y t p in
    let rest = behind (o.front ++ t) o.front t refl (behind y o.head (o.front ++ t) o.parts fits) in
    let q = fault_told n e t g h rest in
    (q.0, told_pairs e y t q.0 ps o fits low distinct (key_tail e q.0 (less (pairs_len ps) o.count) (seen_after [] ps) t (dues_later (pairs_len ps) o.count t o.due) q.1), q.2)
fault_told n d s w (same_key e y ps t k x u p low distinct sp parts lowk dk has) fits =
    let o = opened 5 (pairs_len ps) (SpellPairs ps) y t p in
    let rest = behind (o.front ++ t) o.front t refl (behind y o.head (o.front ++ t) o.parts fits) in
    let kx : length x < 2 ^ 64 = omega (arith, rest.short, ap length parts, length-append x u) in
    let read : item_at is_known e t ≡ Ok (k, u) =
    ap (item_at is_known e) parts ∙ item_again is_known k e x u sp lowk (keyed_from k (fine k x kx sp) dk) in
    (DuplicateKey (length t), told_pairs e y t (DuplicateKey (length t)) ps o fits low distinct (same_tail e (less (pairs_len ps) o.count) (seen_after [] ps) t u k (dues_later (pairs_len ps) o.count t o.due) read (known_key k ps [] has)), refl)
fault_told n d s w (in_value e y g ps t k x u p low distinct sp parts lowk dk new h) fits =
    let o = opened 5 (pairs_len ps) (SpellPairs ps) y t p in
    let rest = behind (o.front ++ t) o.front t refl (behind y o.head (o.front ++ t) o.parts fits) in
    let kx : length x < 2 ^ 64 = omega (arith, rest.short, ap length parts, length-append x u) in
    let fk = fine k x kx sp in
    let small = fine_pairs ps o.front (front_short y o.head o.front t o.parts fits) o.holds in
    let read : item_at is_known e t ≡ Ok (k, u) =
    ap (item_at is_known e) parts ∙ item_again is_known k e x u sp lowk (keyed_from k fk dk) in
    let q = fault_told n e u g h (behind t x u parts rest) in
    (q.0, told_pairs e y t q.0 ps o fits low distinct (value_tail e q.0 (less (pairs_len ps) o.count) (seen_after [] ps) t u k (dues_later (pairs_len ps) o.count t o.due) read (unknown_key k ps [] fk small new refl) q.1), q.2)
fault_told n d s w (in_tag e y g m h t is parts p) fits =
    let q = fault_told n e t g p (behind y h t parts fits) in
    (q.0, at_head is_known e (heads.Tag m) y h t is parts ∙ ap (mapped (tag m)) q.1, q.2)
