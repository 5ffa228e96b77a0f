-- What is read is spelled so, and legal.
use Rattle.std.proofs.Common.{◌≡◌, ℕ, zero, suc, ◌+◌, ◌*◌, ◌/◌, ◌%◌, ◌≤◌, Bool, true, false, ltb, ◌&&◌, List, [], ◌∷◌, ◌++◌, length, take, drop, Option, Some, None, Ok, refl, sym, ap, subst, ◌∙◌, append_assoc, arith, inl, inr}
use Rattle.std.specs.Prelude.{nat_lt, ◌==◌}
use Rattle.std.specs.Str.{is_utf8}
use Rattle.std.proofs.lemmas.Bool.{ltb-false, eqb-true}
use Rattle.std.proofs.lemmas.List.{take-append-drop, length-take}
use Rattle.c2_spec.specs.Cbor.Item.{Item, bytes, text, list, dict, tag, Items, Pairs}
use Rattle.c2_spec.specs.Cbor.Deterministic.{preferred}
use Rattle.c2_spec.specs.Cbor.Item.{items_len, pairs_len}
use Rattle.c2_spec.specs.Cbor.View.{items_of, pairs_of}
use Rattle.c2_spec.specs.Cbor.Legal.{depth, items_depth, pairs_depth}
use Rattle.c2_cbor_spec.specs.Keyed.{Unknown, Keyed, ItemsKeyed, PairsKeyed}
use Rattle.c2_spec.specs.Cbor.Spelling.{IsHead, opening, IsString, AreChunks, joined, InBrackets, Spells, SpellItems, SpellPairs}
use Rattle.c2_cbor_spec.specs.declared.head.Count.{Count}
use Rattle.c2_cbor_spec.specs.declared.head.Count.TheVariants as counts
use Rattle.c2_cbor_spec.specs.declared.head.Head.{Head}
use Rattle.c2_cbor_spec.specs.declared.head.Head.TheVariants as heads
use Rattle.c2_cbor_spec.specs.Reading.{Read, ◌>>=◌, argument_at, head_at, string_at, chunk_head, chunk_body, chunk_at, chunks_step, chunks, ended, fewer, items_step, items, Known, known_step, with_key, pairs_step, pairs, body, item_at}
use Rattle.c2_spec.specs.Cbor.Spelling.{any_bytes}
use Rattle.c2_cbor_spec.proofs.Heads.{AreBytes, rest_bytes, bind_ok, chosen, Found, first_is, rest_is, failed, argument_takes, argument_head, CountSpells, HeadSpells, head_takes}
use Rattle.c2_lemmas.proofs.Bools.{both_true}

-- what follows a part of bytes is bytes
pub rest_of : (s x r : List ℕ) → s ≡ x ++ r → AreBytes s → AreBytes r
rest_of s x r e h = rest_bytes x r (subst AreBytes e h)

-- ---- strings

-- a string that is read passes its test, has its length, and is the first bytes
pub string_takes : (ok : List ℕ → Bool) (at n : ℕ) (s b r : List ℕ) → string_at ok at n s ≡ Ok (b, r)
    → (ok b ≡ true) × (length b ≡ n) × (s ≡ b ++ r)
unfolding string_at
string_takes ok at n s b r e =
    elim (chosen (ltb (length s) n) _ _ _ e) [
      | inl p ↦ absurd (failed _ _ p.1)
      | inr p ↦ elim (chosen (ok (take n s)) _ _ _ p.1) [
        | inl q ↦
            let same = first_is _ _ _ _ q.1 in
            let long : n ≤ length s = ltb-false _ _ p.0 in
            let len : length (take n s) ≡ n = omega (arith, length-take n s) in
            (ap ok (sym same) ∙ q.0, ap length (sym same) ∙ len, sym (take-append-drop n s) ∙ ap (λ x. x ++ drop n s) same ∙ ap (λ x. b ++ x) (rest_is _ _ _ _ q.1))
        | inr q ↦ absurd (failed _ _ q.1)
      ]
    ]

-- a string behind its head
string_found : (ok : List ℕ → Bool) (m n at : ℕ) (s h s1 b r : List ℕ) → IsHead m n h → s ≡ h ++ s1
    → string_at ok at n s1 ≡ Ok (b, r) → Found (IsString ok m b) s r
string_found ok m n at s h s1 b r is e f =
    let t = string_takes ok at n s1 b r f in
    (h ++ b, (h, subst (λ k. IsHead m k h) (sym t.1) is, t.0, refl), e ∙ ap (λ x. h ++ x) t.2 ∙ sym (append_assoc h b r))

-- the bytes begin with a break, or with the head of a chunk of this length
abbrev pub ChunkHead : ℕ → Option ℕ → List ℕ → List ℕ → Type 0
ChunkHead m None s r = s ≡ 255 ∷ r
ChunkHead m (Some n) s r = Found (IsHead m n) s r

-- the head of a chunk that is read is there
pub chunk_head_takes : (m : ℕ) (s : List ℕ) (o : Option ℕ) (r : List ℕ) → AreBytes s → chunk_head m s ≡ Ok (o, r)
    → ChunkHead m o s r
unfolding chunk_head
chunk_head_takes m [] o r fits e = absurd (failed _ _ e)
chunk_head_takes m (b ∷ s) o r fits e =
    elim (chosen (b == 255) _ _ _ e) [
      | inl p ↦ subst (λ q. ChunkHead m q (b ∷ s) r) (first_is _ _ _ _ p.1) (ap (λ k. k ∷ s) (eqb-true b 255 p.0) ∙ ap (λ t. 255 ∷ t) (rest_is _ _ _ _ p.1))
      | inr p ↦ elim (chosen ((b / 32 == m) && nat_lt (b % 32) 28) _ _ _ p.1) [
        | inl q ↦
            let a = bind_ok (argument_at (length (b ∷ s)) (b % 32) s) (λ n. Ok (Some n.0, n.1)) (o, r) q.1 in
            let f = argument_takes (length (b ∷ s)) (b % 32) s a.0.0 a.0.1 fits.1 a.1 in
            let major : b / 32 ≡ m = eqb-true (b / 32) m (both_true _ _ q.0).0 in
            let same : 32 * m + b % 32 ≡ b = omega arith in
            subst (λ u. ChunkHead m u (b ∷ s) r) (first_is _ _ _ _ a.2)
            (b ∷ f.0, subst (λ k. IsHead m a.0.0 (k ∷ f.0)) same (argument_head m (b % 32) a.0.0 f.0 f.1), ap (λ t. b ∷ t) (f.2 ∙ ap (λ t. f.0 ++ t) (rest_is _ _ _ _ a.2)))
        | inr q ↦ absurd (failed _ _ q.1)
      ]
    ]

-- the bytes begin with a break, or with this chunk
abbrev pub Chunk : (List ℕ → Bool) → ℕ → Option (List ℕ) → List ℕ → List ℕ → Type 0
Chunk ok m None s r = s ≡ 255 ∷ r
Chunk ok m (Some c) s r = Found (IsString ok m c) s r

-- a chunk whose head and bytes are read is there
chunk_body_takes : (ok : List ℕ → Bool) (m at : ℕ) (n : Option ℕ) (s s1 : List ℕ) (o : Option (List ℕ)) (r : List ℕ)
    → ChunkHead m n s s1 → chunk_body ok at n s1 ≡ Ok (o, r) → Chunk ok m o s r
chunk_body_takes ok m at None s s1 o r h e =
    subst (λ q. Chunk ok m q s r) (first_is _ _ _ _ e) (h ∙ ap (λ t. 255 ∷ t) (rest_is _ _ _ _ e))
chunk_body_takes ok m at (Some n) s s1 o r h e =
    let b = bind_ok (string_at ok at n s1) (λ p. Ok (Some p.0, p.1)) (o, r) e in
    let f = string_found ok m n at s h.0 s1 b.0.0 b.0.1 h.1 h.2 b.1 in
    subst (λ q. Chunk ok m q s r) (first_is _ _ _ _ b.2) (f.0, f.1, f.2 ∙ ap (λ t. f.0 ++ t) (rest_is _ _ _ _ b.2))

-- a chunk that is read is there
pub chunk_takes : (ok : List ℕ → Bool) (m : ℕ) (s : List ℕ) (o : Option (List ℕ)) (r : List ℕ) → AreBytes s
    → chunk_at ok m s ≡ Ok (o, r) → Chunk ok m o s r
unfolding chunk_at
chunk_takes ok m s o r fits e =
    let b = bind_ok (chunk_head m s) (λ h. chunk_body ok (length s) h.0 h.1) (o, r) e in
    chunk_body_takes ok m (length s) b.0.0 s b.0.1 o r (chunk_head_takes m s b.0.0 b.0.1 fits b.1) b.2

-- the bytes begin with chunks of this string and a break
abbrev pub Chunks : (List ℕ → Bool) → ℕ → List ℕ → List ℕ → List ℕ → Type 0
Chunks ok m b s r = (cs : List (List ℕ)) × (t : List ℕ) × AreChunks ok m cs t × (b ≡ joined cs) × (s ≡ t ++ (255 ∷ r))

-- the same of the chunks after one that was read
chunks_step_takes : (ok : List ℕ → Bool) (m n : ℕ)
    → ((s b r : List ℕ) → AreBytes s → chunks ok m n s ≡ Ok (b, r) → Chunks ok m b s r)
    → (s : List ℕ) (o : Option (List ℕ)) (s1 b r : List ℕ) → AreBytes s → Chunk ok m o s s1
    → chunks_step (chunks ok m n) o s1 ≡ Ok (b, r) → Chunks ok m b s r
chunks_step_takes ok m n ih s None s1 b r fits h e =
    ([], [], refl, sym (first_is _ _ _ _ e), h ∙ ap (λ t. 255 ∷ t) (rest_is _ _ _ _ e))
chunks_step_takes ok m n ih s (Some c) s1 b r fits h e =
    let q = bind_ok (chunks ok m n s1) (λ q. Ok (c ++ q.0, q.1)) (b, r) e in
    let t = ih s1 q.0.0 q.0.1 (rest_of s h.0 s1 h.2 fits) q.1 in (
      c ∷ t.0,
      h.0 ++ t.1,
      (h.0, t.1, h.1, t.2, refl),
      sym (first_is _ _ _ _ q.2) ∙ ap (λ x. c ++ x) t.3,
      h.2 ∙ ap (λ x. h.0 ++ x) (t.4 ∙ ap (λ x. t.1 ++ (255 ∷ x)) (rest_is _ _ _ _ q.2)) ∙ sym (append_assoc h.0 t.1 (255 ∷ r)),
    )

-- chunks that are read are there
pub chunks_takes : (ok : List ℕ → Bool) (m n : ℕ) (s b r : List ℕ) → AreBytes s → chunks ok m n s ≡ Ok (b, r)
    → Chunks ok m b s r
unfolding chunks
chunks_takes ok m zero s b r fits e = absurd (failed _ _ e)
chunks_takes ok m (suc n) s b r fits e =
    let c = bind_ok (chunk_at ok m s) (λ p. chunks_step (chunks ok m n) p.0 p.1) (b, r) e in
    chunks_step_takes ok m n (chunks_takes ok m n) s c.0.0 c.0.1 b r fits (chunk_takes ok m s c.0.0 c.0.1 fits c.1) c.2

-- a string in chunks, with what opens and closes it
chunked : (m : ℕ) (s x s1 t r1 r : List ℕ) → x ≡ opening m ∷ [] → s ≡ x ++ s1 → s1 ≡ t ++ (255 ∷ r1) → r1 ≡ r
    → s ≡ (opening m ∷ (t ++ 255 ∷ [])) ++ r
chunked m s x s1 t r1 r p e f g =
    e ∙ ap (λ y. y ++ s1) p
    ∙ ap (λ y. opening m ∷ y) (f ∙ ap (λ y. t ++ (255 ∷ y)) g ∙ sym (append_assoc t (255 ∷ []) r))

-- ---- lists and maps

-- what stands behind the last item
abbrev pub closing : Count → List ℕ → List ℕ
closing (counts.Left n) r = r
closing counts.Open r = 255 ∷ r

-- a list or map that isn't open has this many members left
abbrev pub Counts : Count → ℕ → Type 0
Counts (counts.Left n) k = n ≡ k
Counts counts.Open k = Unit {0}

-- bytes that are there
abbrev some_text : List ℕ → Option (List ℕ)
some_text s = Some s

-- bytes that are there and equal are equal
some_is : (s r : List ℕ) → some_text s ≡ some_text r → s ≡ r
some_is s r e = cc

-- bytes that are absent aren't there
none_is : {P : Type 0} (s : List ℕ) → None ≡ some_text s → P
none_is s e = absurd cc

-- where the members end, no member is left, and what closes them is there
ended_takes : (c : Count) (s r : List ℕ) → ended c s ≡ Some r → (s ≡ closing c r) × Counts c 0
ended_takes (counts.Left zero) s r e = (some_is s r e, refl)
ended_takes (counts.Left (suc n)) s r e = none_is r e
ended_takes counts.Open [] r e = none_is r e
ended_takes counts.Open (b ∷ s) r e =
    elim (chosen (b == 255) _ _ _ e) [
      | inl p ↦ (ap (λ k. k ∷ s) (eqb-true b 255 p.0) ∙ ap (λ t. 255 ∷ t) (some_is s r p.1), tt)
      | inr p ↦ none_is r p.1
    ]

-- one member before so many others makes one more
counts_more : (c : Count) (s : List ℕ) (k : ℕ) → ended c s ≡ None → Counts (fewer c) k → Counts c (suc k)
counts_more (counts.Left zero) s k e h = none_is s (sym e)
counts_more (counts.Left (suc n)) s k e h = omega arith
counts_more counts.Open s k e h = tt

-- what closes a list or a map stays while members are read
closing-fewer : (c : Count) (r : List ℕ) → closing (fewer c) r ≡ closing c r
closing-fewer (counts.Left n) r = refl
closing-fewer counts.Open r = refl

-- the brackets round the members
brackets_takes : (m : ℕ) (c : Count) (n : ℕ) (P : List ℕ → Type 0) (s x s1 y r : List ℕ) → CountSpells m c x
    → Counts c n → P y → s ≡ x ++ s1 → s1 ≡ y ++ closing c r → Found (InBrackets m n P) s r
brackets_takes m (counts.Left k) n P s x s1 y r h count p e f =
    (x ++ y, inl (x, y, subst (λ j. IsHead m j x) count h, p, refl), e ∙ ap (λ t. x ++ t) f ∙ sym (append_assoc x y r))
brackets_takes m counts.Open n P s x s1 y r h count p e f =
    (opening m ∷ (y ++ 255 ∷ []), inr (y, p, refl), e ∙ ap (λ t. t ++ s1) h ∙ ap (λ t. opening m ∷ t) (f ∙ sym (append_assoc y (255 ∷ []) r)))

-- where reading goes on after a key, the key is new
known_step_takes : (b : Bool) (at : ℕ) (more : Read (List (Item × Item))) (y : List (Item × Item) × List ℕ)
    → known_step b at more ≡ Ok y → (b ≡ false) × (more ≡ Ok y)
known_step_takes true at more y e = absurd (failed _ _ e)
known_step_takes false at more y e = (refl, e)

module _ (known : Known) where
  -- what is said of an item that was read with so many levels left
  pub record Reads (levels : ℕ) (s : List ℕ) (v : Item) (r : List ℕ) : Type 0 where
    pub spelled : Found (Spells v) s r
    pub shallow : depth v ≤ levels
    pub keyed : Keyed known v

  -- what a reader gives was spelled there, no deeper than so many levels, with new keys
  abbrev pub IsReader : ℕ → (List ℕ → Read Item) → Type 0
  IsReader levels value = (s : List ℕ) (v : Item) (r : List ℕ) → AreBytes s → value s ≡ Ok (v, r) → Reads levels s v r

  -- what is said of items that were read
  pub record ReadsItems (levels : ℕ) (c : Count) (s : List ℕ) (vs : Items) (r : List ℕ) : Type 0 where
    pub front : List ℕ
    pub spelled : SpellItems vs front
    pub parts : s ≡ front ++ closing c r
    pub count : Counts c (items_len vs)
    pub shallow : items_depth vs ≤ levels
    pub keyed : ItemsKeyed known vs

  -- what is said of pairs that were read
  pub record ReadsPairs (levels : ℕ) (c : Count) (seen : List (List ℕ)) (s : List ℕ) (ps : Pairs) (r : List ℕ) : Type 0 where
    pub front : List ℕ
    pub spelled : SpellPairs ps front
    pub parts : s ≡ front ++ closing c r
    pub count : Counts c (pairs_len ps)
    pub shallow : pairs_depth ps ≤ levels
    pub keyed : PairsKeyed known ps
    pub unknown : Unknown known seen ps

  module _ (levels : ℕ) (value : List ℕ → Read Item) (reader : IsReader levels value) where
    items_step_takes : (n : ℕ)
        → ((c : Count) (s : List ℕ) (vs : List Item) (r : List ℕ) → AreBytes s → items value n c s ≡ Ok (vs, r) → ReadsItems levels c s (items_of vs) r)
        → (c : Count) (s : List ℕ) (o : Option (List ℕ)) (vs : List Item) (r : List ℕ) → ended c s ≡ o → AreBytes s
        → items_step value (items value n) c s o ≡ Ok (vs, r) → ReadsItems levels c s (items_of vs) r
    items_step_takes n ih c s (Some s1) vs r end fits e =
        let t = ended_takes c s s1 end in
        subst (λ ws. ReadsItems levels c s (items_of ws) r) (first_is _ _ _ _ e)
        (record { front = []; spelled = refl; parts = t.0 ∙ ap (closing c) (rest_is _ _ _ _ e); count = t.1; shallow = omega arith; keyed = tt })
    items_step_takes n ih c s None vs r end fits e =
        let p = bind_ok (value s) (λ p. items value n (fewer c) p.1 >>= λ q. Ok (p.0 ∷ q.0, q.1)) (vs, r) e in
        let one = reader s p.0.0 p.0.1 fits p.1 in
        let q = bind_ok (items value n (fewer c) p.0.1) (λ q. Ok (p.0.0 ∷ q.0, q.1)) (vs, r) p.2 in
        let more = ih (fewer c) p.0.1 q.0.0 q.0.1 (rest_of s one.spelled.0 p.0.1 one.spelled.2 fits) q.1 in
        subst (λ ws. ReadsItems levels c s (items_of ws) r) (first_is _ _ _ _ q.2)
        (record {
          front = one.spelled.0 ++ more.front;
          spelled = (one.spelled.0, more.front, one.spelled.1, more.spelled, refl);
          parts =
              one.spelled.2
              ∙ ap (λ t. one.spelled.0 ++ t)
              (more.parts ∙ ap (λ t. more.front ++ t) (closing-fewer c q.0.1 ∙ ap (closing c) (rest_is _ _ _ _ q.2)))
              ∙ sym (append_assoc one.spelled.0 more.front (closing c r));
          count = counts_more c s _ end more.count;
          shallow = omega (arith, one.shallow, more.shallow);
          keyed = (one.keyed, more.keyed);
        })

    items_takes : (n : ℕ) (c : Count) (s : List ℕ) (vs : List Item) (r : List ℕ) → AreBytes s
        → items value n c s ≡ Ok (vs, r) → ReadsItems levels c s (items_of vs) r
    unfolding items
    items_takes zero c s vs r fits e = absurd (failed _ _ e)
    items_takes (suc n) c s vs r fits e = items_step_takes n (items_takes n) c s (ended c s) vs r refl fits e

    pairs_step_takes : (n : ℕ)
        → ((c : Count) (seen : List (List ℕ)) (s : List ℕ) (ps : List (Item × Item)) (r : List ℕ) → AreBytes s → pairs known value n c seen s ≡ Ok (ps, r) → ReadsPairs levels c seen s (pairs_of ps) r)
        → (c : Count) (seen : List (List ℕ)) (s : List ℕ) (o : Option (List ℕ)) (ps : List (Item × Item)) (r : List ℕ)
        → ended c s ≡ o → AreBytes s → pairs_step known value (pairs known value n) c seen s o ≡ Ok (ps, r)
        → ReadsPairs levels c seen s (pairs_of ps) r
    pairs_step_takes n ih c seen s (Some s1) ps r end fits e =
        let t = ended_takes c s s1 end in
        subst (λ ws. ReadsPairs levels c seen s (pairs_of ws) r) (first_is _ _ _ _ e)
        (record { front = []; spelled = refl; parts = t.0 ∙ ap (closing c) (rest_is _ _ _ _ e); count = t.1; shallow = omega arith; keyed = tt; unknown = tt })
    pairs_step_takes n ih c seen s None ps r end fits e =
        let k =
        bind_ok (value s)
        (λ k. known_step (known (preferred k.0) seen) (length s) (value k.1 >>= λ v. pairs known value n (fewer c) (with_key seen (preferred k.0)) v.1 >>= λ q. Ok ((k.0, v.0) ∷ q.0, q.1)))
        (ps, r) e in
        let one = reader s k.0.0 k.0.1 fits k.1 in
        let fits1 = rest_of s one.spelled.0 k.0.1 one.spelled.2 fits in
        let new =
        known_step_takes (known (preferred k.0.0) seen) (length s)
        (value k.0.1 >>= λ v. pairs known value n (fewer c) (with_key seen (preferred k.0.0)) v.1 >>= λ q. Ok ((k.0.0, v.0) ∷ q.0, q.1))
        (ps, r) k.2 in
        let v =
        bind_ok (value k.0.1)
        (λ v. pairs known value n (fewer c) (with_key seen (preferred k.0.0)) v.1 >>= λ q. Ok ((k.0.0, v.0) ∷ q.0, q.1))
        (ps, r) new.1 in
        let two = reader k.0.1 v.0.0 v.0.1 fits1 v.1 in
        let q =
        bind_ok (pairs known value n (fewer c) (with_key seen (preferred k.0.0)) v.0.1)
        (λ q. Ok ((k.0.0, v.0.0) ∷ q.0, q.1)) (ps, r) v.2 in
        let more =
        ih (fewer c) (with_key seen (preferred k.0.0)) v.0.1 q.0.0 q.0.1
        (rest_of k.0.1 two.spelled.0 v.0.1 two.spelled.2 fits1) q.1 in
        subst (λ ws. ReadsPairs levels c seen s (pairs_of ws) r) (first_is _ _ _ _ q.2)
        (record {
          front = one.spelled.0 ++ (two.spelled.0 ++ more.front);
          spelled = (one.spelled.0, two.spelled.0, more.front, one.spelled.1, two.spelled.1, more.spelled, refl);
          parts = one.spelled.2 ∙ ap (λ t. one.spelled.0 ++ t) (two.spelled.2 ∙ ap (λ t. two.spelled.0 ++ t) (more.parts ∙ ap (λ t. more.front ++ t) (closing-fewer c q.0.1 ∙ ap (closing c) (rest_is _ _ _ _ q.2))))
              ∙ ap (λ t. one.spelled.0 ++ t) (sym (append_assoc two.spelled.0 more.front (closing c r))) ∙ sym (append_assoc one.spelled.0 (two.spelled.0 ++ more.front) (closing c r));
          count = counts_more c s _ end more.count;
          shallow = omega (arith, one.shallow, two.shallow, more.shallow);
          keyed = (one.keyed, two.keyed, more.keyed);
          unknown = (new.0, more.unknown);
        })

    pairs_takes : (n : ℕ) (c : Count) (seen : List (List ℕ)) (s : List ℕ) (ps : List (Item × Item)) (r : List ℕ)
        → AreBytes s → pairs known value n c seen s ≡ Ok (ps, r) → ReadsPairs levels c seen s (pairs_of ps) r
    unfolding pairs
    pairs_takes zero c seen s ps r fits e = absurd (failed _ _ e)
    pairs_takes (suc n) c seen s ps r fits e = pairs_step_takes n (pairs_takes n) c seen s (ended c s) ps r refl fits e

  -- what follows a head: spelled together with the head
  body_takes : (levels : ℕ) (value : List ℕ → Read Item) → IsReader levels value
      → (at : ℕ) (h : Head) (s x s1 : List ℕ) (v : Item) (r : List ℕ) → AreBytes s1 → HeadSpells h x → s ≡ x ++ s1
      → body known value at h s1 ≡ Ok (v, r) → Reads (suc levels) s v r
  body_takes levels value reader at (heads.Uint n) s x s1 v r fits p e f =
      subst (λ w. Reads (suc levels) s w r) (first_is _ _ _ _ f)
      (record { spelled = (x, p, e ∙ ap (λ t. x ++ t) (rest_is _ _ _ _ f)); shallow = omega arith; keyed = tt })
  body_takes levels value reader at (heads.Nint n) s x s1 v r fits p e f =
      subst (λ w. Reads (suc levels) s w r) (first_is _ _ _ _ f)
      (record { spelled = (x, p, e ∙ ap (λ t. x ++ t) (rest_is _ _ _ _ f)); shallow = omega arith; keyed = tt })
  body_takes levels value reader at (heads.Bytes n) s x s1 v r fits p e f =
      let b = bind_ok (string_at any_bytes at n s1) (λ p. Ok (bytes p.0, p.1)) (v, r) f in
      let t = string_found any_bytes 2 n at s x s1 b.0.0 b.0.1 p e b.1 in
      subst (λ w. Reads (suc levels) s w r) (first_is _ _ _ _ b.2)
      (record { spelled = (t.0, inl t.1, t.2 ∙ ap (λ y. t.0 ++ y) (rest_is _ _ _ _ b.2)); shallow = omega arith; keyed = tt })
  body_takes levels value reader at heads.ByteChunks s x s1 v r fits p e f =
      let b = bind_ok (chunks any_bytes 2 (suc (length s1)) s1) (λ p. Ok (bytes p.0, p.1)) (v, r) f in
      let t = chunks_takes any_bytes 2 (suc (length s1)) s1 b.0.0 b.0.1 fits b.1 in
      subst (λ w. Reads (suc levels) s w r) (first_is _ _ _ _ b.2)
      (record { spelled = (opening 2 ∷ (t.1 ++ 255 ∷ []), inr (t.0, t.1, t.2, t.3, refl), chunked 2 s x s1 t.1 b.0.1 r p e t.4 (rest_is _ _ _ _ b.2)); shallow = omega arith; keyed = tt })
  body_takes levels value reader at (heads.Text n) s x s1 v r fits p e f =
      let b = bind_ok (string_at is_utf8 at n s1) (λ p. Ok (text p.0, p.1)) (v, r) f in
      let t = string_found is_utf8 3 n at s x s1 b.0.0 b.0.1 p e b.1 in
      subst (λ w. Reads (suc levels) s w r) (first_is _ _ _ _ b.2)
      (record { spelled = (t.0, inl t.1, t.2 ∙ ap (λ y. t.0 ++ y) (rest_is _ _ _ _ b.2)); shallow = omega arith; keyed = tt })
  body_takes levels value reader at heads.TextChunks s x s1 v r fits p e f =
      let b = bind_ok (chunks is_utf8 3 (suc (length s1)) s1) (λ p. Ok (text p.0, p.1)) (v, r) f in
      let t = chunks_takes is_utf8 3 (suc (length s1)) s1 b.0.0 b.0.1 fits b.1 in
      subst (λ w. Reads (suc levels) s w r) (first_is _ _ _ _ b.2)
      (record { spelled = (opening 3 ∷ (t.1 ++ 255 ∷ []), inr (t.0, t.1, t.2, t.3, refl), chunked 3 s x s1 t.1 b.0.1 r p e t.4 (rest_is _ _ _ _ b.2)); shallow = omega arith; keyed = tt })
  body_takes levels value reader at (heads.List c) s x s1 v r fits p e f =
      let b = bind_ok (items value (suc (length s1)) c s1) (λ p. Ok (list (items_of p.0), p.1)) (v, r) f in
      let t = items_takes levels value reader (suc (length s1)) c s1 b.0.0 b.0.1 fits b.1 in
      let found =
      brackets_takes 4 c (items_len (items_of b.0.0)) (SpellItems (items_of b.0.0)) s x s1 t.front b.0.1 p
      t.count t.spelled e t.parts in
      subst (λ w. Reads (suc levels) s w r) (first_is _ _ _ _ b.2)
      (record { spelled = (found.0, found.1, found.2 ∙ ap (λ y. found.0 ++ y) (rest_is _ _ _ _ b.2)); shallow = omega (arith, t.shallow); keyed = t.keyed })
  body_takes levels value reader at (heads.Map c) s x s1 v r fits p e f =
      let b = bind_ok (pairs known value (suc (length s1)) c [] s1) (λ p. Ok (dict (pairs_of p.0), p.1)) (v, r) f in
      let t = pairs_takes levels value reader (suc (length s1)) c [] s1 b.0.0 b.0.1 fits b.1 in
      let found =
      brackets_takes 5 c (pairs_len (pairs_of b.0.0)) (SpellPairs (pairs_of b.0.0)) s x s1 t.front b.0.1 p
      t.count t.spelled e t.parts in
      subst (λ w. Reads (suc levels) s w r) (first_is _ _ _ _ b.2)
      (record { spelled = (found.0, found.1, found.2 ∙ ap (λ y. found.0 ++ y) (rest_is _ _ _ _ b.2)); shallow = omega (arith, t.shallow); keyed = (t.keyed, t.unknown) })
  body_takes levels value reader at (heads.Tag n) s x s1 v r fits p e f =
      let b = bind_ok (value s1) (λ p. Ok (tag n p.0, p.1)) (v, r) f in
      let t = reader s1 b.0.0 b.0.1 fits b.1 in
      subst (λ w. Reads (suc levels) s w r) (first_is _ _ _ _ b.2)
      (record { spelled = (x ++ t.spelled.0, (x, t.spelled.0, p, t.spelled.1, refl), e ∙ ap (λ y. x ++ y) (t.spelled.2 ∙ ap (λ y. t.spelled.0 ++ y) (rest_is _ _ _ _ b.2)) ∙ sym (append_assoc x t.spelled.0 r)); shallow = omega (arith, t.shallow); keyed = t.keyed })
  body_takes levels value reader at (heads.Simple n) s x s1 v r fits p e f =
      subst (λ w. Reads (suc levels) s w r) (first_is _ _ _ _ f)
      (record { spelled = (x, p, e ∙ ap (λ t. x ++ t) (rest_is _ _ _ _ f)); shallow = omega arith; keyed = tt })
  body_takes levels value reader at (heads.Half n) s x s1 v r fits p e f =
      subst (λ w. Reads (suc levels) s w r) (first_is _ _ _ _ f)
      (record { spelled = (x, p, e ∙ ap (λ t. x ++ t) (rest_is _ _ _ _ f)); shallow = omega arith; keyed = tt })
  body_takes levels value reader at (heads.Single n) s x s1 v r fits p e f =
      subst (λ w. Reads (suc levels) s w r) (first_is _ _ _ _ f)
      (record { spelled = (x, p, e ∙ ap (λ t. x ++ t) (rest_is _ _ _ _ f)); shallow = omega arith; keyed = tt })
  body_takes levels value reader at (heads.Double n) s x s1 v r fits p e f =
      subst (λ w. Reads (suc levels) s w r) (first_is _ _ _ _ f)
      (record { spelled = (x, p, e ∙ ap (λ t. x ++ t) (rest_is _ _ _ _ f)); shallow = omega arith; keyed = tt })

  -- an item that is read was spelled there
  pub item_takes : (levels : ℕ) → IsReader levels (item_at known levels)
  unfolding item_at
  item_takes zero [] v r fits e = absurd (failed _ _ e)
  item_takes zero (b ∷ s) v r fits e = absurd (failed _ _ e)
  item_takes (suc d) s v r fits e =
      let h = bind_ok (head_at s) (λ h. body known (item_at known d) (length s) h.0 h.1) (v, r) e in
      let t = head_takes s h.0.0 h.0.1 fits h.1 in
      body_takes d (item_at known d) (item_takes d) (length s) h.0.0 s t.0 h.0.1 v r (rest_of s t.0 h.0.1 t.2 fits) t.1
      t.2 h.2
