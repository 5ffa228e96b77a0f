-- What a reader tells is the fault.
use Rattle.std.proofs.Common.{◌≡◌, ◌≢◌, ℕ, zero, suc, ◌/◌, ◌%◌, ◌^◌, ◌<◌, ◌≤◌, Bool, true, false, ltb, ◌&&◌}
use Rattle.std.proofs.Common.{List, [], ◌∷◌, ◌++◌, length, take, Option, Some, None, Ok, Err, refl, sym, ap, subst}
use Rattle.std.proofs.Common.{◌∙◌, append_assoc, arith, inl, inr, ◌⊎◌}
use Rattle.std.specs.Prelude.{nat_lt, ◌==◌}
use Rattle.std.specs.Str.{is_utf8}
use Rattle.std.specs.BTreeMap.{is_at}
use Rattle.std.specs.Ordering.{nat_cmp}
use Rattle.std.specs.Cmp.Lexicographic.{slice_cmp}
use Rattle.std.proofs.lemmas.Bool.{ltb-false, ltb-true, eq-eqb, eqb-true}
use Rattle.std.proofs.lemmas.List.{length-append}
use Rattle.c2_spec.specs.Cbor.Item.{Item, bytes as bytes_item, text, list, dict, tag, Items, no_items, item, Pairs, no_pairs, pair}
use Rattle.c2_spec.specs.Cbor.Deterministic.{preferred}
use Rattle.c2_spec.specs.Cbor.Item.{items_len, pairs_len}
use Rattle.c2_spec.specs.Cbor.View.{items_of, pairs_of}
use Rattle.c2_spec.specs.Cbor.Legal.{items_depth, pairs_depth, ItemsHaveDistinctKeys}
use Rattle.c2_cbor_spec.specs.Keyed.{Unknown, PairsKeyed}
use Rattle.c2_spec.specs.Cbor.Spelling.{opening, AreChunks, SpellItems, SpellPairs}
use Rattle.c2_spec.specs.Cbor.Faults.{place, ChunkFault, ChunksFault, IsInside, Faulty, ends, deep, in_head, in_bytes, in_text, in_list, in_key, same_key, in_value, in_tag}
use Rattle.c2_spec.specs.Cbor.Legal.{HasKey}
use Rattle.c2_spec.specs.declared.cbor.CborError.TheVariants as errors
use Rattle.c2_cbor_spec.specs.Placed.{error_at}
use Rattle.c2_cbor_spec.specs.declared.fault.Fault.{Fault}
use Rattle.c2_cbor_spec.specs.declared.fault.Fault.TheVariants.{DuplicateKey}
use Rattle.c2_cbor_spec.specs.declared.head.Count.{Count}
use Rattle.c2_cbor_spec.specs.declared.head.Count.TheVariants as counts
use Rattle.c2_cbor_spec.specs.declared.head.Head.{Head}
use Rattle.c2_cbor_spec.specs.declared.head.Head.TheVariants as heads
use Rattle.c2_cbor_spec.specs.Reading.{Read, ◌>>=◌, head_at, string_at, chunk_head, chunk_body, chunk_at, chunks_step, chunks, ended, fewer, items_step, items, is_known, known_step, with_key, pairs_step, pairs, body, item_at}
use Rattle.c2_spec.specs.Cbor.Spelling.{any_bytes}
use Rattle.c2_cbor_spec.proofs.Heads.{AreBytes, chosen, CountSpells, HeadSpells, head_takes}
use Rattle.c2_cbor_spec.proofs.HeadFaults.{err_is, no_err, bind_err, mapped_err, head_fault, argument_fault, differs}
use Rattle.c2_cbor_spec.proofs.Sound.{rest_of, item_takes, chunk_head_takes, ChunkHead, chunk_takes, Chunk}
use Rattle.c2_cbor_spec.proofs.Shorter.{under_ok, item_at-under, chunk_at-under}
use Rattle.c2_cbor_spec.specs.Fine.{Fine, FinePairs}
use Rattle.c2_cbor_spec.proofs.Unique.{preferred_same, distinct_from, pairs_distinct_from}
use Rattle.c2_cbor_spec.proofs.Fine.{fine, fine_pairs}
use Rattle.c2_cbor_spec.proofs.Keys.{known_with, same_at}
use Rattle.c2_cbor_spec.proofs.FaultTold.{Dues, Fits, behind, known_key}
use Rattle.c2_cbor_spec.specs.Tracking.{seen_after}
use Rattle.c2_lemmas.proofs.Bools.{and_second, first_true, or_cases, true_not_false}

-- ---- strings

-- a string that isn't read is cut short, or fails its test at its place
string_fault : (n : ℕ) (ok : List ℕ → Bool) (k : ℕ) (s t : List ℕ) (f : Fault) → string_at ok (length s) k t ≡ Err f
    → ((length t < k) × (error_at n f ≡ errors.Short n)) ⊎ ((k ≤ length t) × (ok (take k t) ≡ false) × (error_at n f ≡ errors.BadText (place n s)))
unfolding string_at
string_fault n ok k s t f e =
    elim (chosen (ltb (length t) k) _ _ _ e) [
      | inl p ↦ inl (ltb-true _ _ p.0, ap (error_at n) (sym (err_is _ _ p.1)))
      | inr p ↦ elim (chosen (ok (take k t)) _ _ _ p.1) [ inl q ↦ no_err _ _ q.1 | inr q ↦ inr (ltb-false _ _ p.0, q.0, ap (error_at n) (sym (err_is _ _ q.1))) ]
    ]

-- of two conditions that both hold the second holds
second_true : (a b : Bool) → (a && b) ≡ true → b ≡ true
second_true true b e = e
second_true false b e = absurd cc

-- where the head of a chunk isn't read, that is a fault of the chunk
chunk_head_fault : (n : ℕ) (ok : List ℕ → Bool) (m : ℕ) (t : List ℕ) (f : Fault) → chunk_head m t ≡ Err f
    → ChunkFault n ok m t (error_at n f)
unfolding chunk_head
chunk_head_fault n ok m [] f e = inl (refl, ap (error_at n) (sym (err_is _ _ e)))
chunk_head_fault n ok m (b ∷ u) f e =
    elim (chosen (b == 255) _ _ _ e) [
      | inl p ↦ no_err _ _ p.1
      | inr p ↦ elim (chosen ((b / 32 == m) && nat_lt (b % 32) 28) _ _ _ p.1) [
        | inl q ↦
            let major : b / 32 ≡ m = eqb-true (b / 32) m (first_true _ _ q.0) in
            let low : b % 32 < 28 = ltb-true (b % 32) 28 (second_true _ _ q.0) in
            elim (argument_fault (length (b ∷ u)) (b % 32) u f (mapped_err Some _ f q.1)) [
              | inl r ↦ absurd (let high = r.0 in omega arith)
              | inr r ↦ inr (inr (inl (b, u, refl, major, r.0, ap (error_at n) r.1)))
            ]
        | inr q ↦ inr (inl (b, u, refl, differs b 255 p.0, λ h. ltb-false (b % 32) 28 (and_second _ _ q.0 (eq-eqb (b / 32) m h)), ap (error_at n) (sym (err_is _ _ q.1))))
      ]
    ]

-- where the bytes of a chunk aren't read, that is a fault of the chunk
chunk_body_fault : (n : ℕ) (ok : List ℕ → Bool) (m : ℕ) (t : List ℕ) (k : Option ℕ) (u : List ℕ) (f : Fault)
    → ChunkHead m k t u → chunk_body ok (length t) k u ≡ Err f → ChunkFault n ok m t (error_at n f)
chunk_body_fault n ok m t None u f h e = no_err _ _ e
chunk_body_fault n ok m t (Some k) u f h e =
    inr (inr (inr (k, h.0, u, h.1, h.2, string_fault n ok k t u f (mapped_err Some _ f e))))

-- where a chunk isn't read, it has a fault
chunk_fault : (n : ℕ) (ok : List ℕ → Bool) (m : ℕ) (t : List ℕ) (f : Fault) → AreBytes t → chunk_at ok m t ≡ Err f
    → ChunkFault n ok m t (error_at n f)
unfolding chunk_at
chunk_fault n ok m t f fits e =
    elim (bind_err (chunk_head m t) (λ h. chunk_body ok (length t) h.0 h.1) f e) [
      | inl p ↦ chunk_head_fault n ok m t f p
      | inr p ↦ chunk_body_fault n ok m t p.0.0 p.0.1 f (chunk_head_takes m t p.0.0 p.0.1 fits p.1) p.2
    ]

-- the chunks before it
abbrev ChunksBefore : ℕ → (List ℕ → Bool) → ℕ → List ℕ → Fault → Type 0
ChunksBefore n ok m s f =
    (cs : List (List ℕ)) × (x : List ℕ) × (t : List ℕ) × AreChunks ok m cs x × (s ≡ x ++ t) × ChunkFault n ok m t
    (error_at n f)

-- the same of the chunks after one that was read
chunks_step_fault : (l : ℕ) (ok : List ℕ → Bool) (m n : ℕ)
    → ((s : List ℕ) (f : Fault) → AreBytes s → length s < n → chunks ok m n s ≡ Err f → ChunksBefore l ok m s f)
    → (s : List ℕ) (o : Option (List ℕ)) (u : List ℕ) (f : Fault) → AreBytes s → length u < n → Chunk ok m o s u
    → chunks_step (chunks ok m n) o u ≡ Err f → ChunksBefore l ok m s f
chunks_step_fault l ok m n ih s None u f fits lt c e = no_err _ _ e
chunks_step_fault l ok m n ih s (Some c) u f fits lt (x, is, g) e =
    let more = ih u f (rest_of s x u g fits) lt (mapped_err (λ b. c ++ b) _ f e) in
    (c ∷ more.0, x ++ more.1, more.2, (x, more.1, is, more.3, refl), g ∙ ap (λ y. x ++ y) more.4 ∙ sym (append_assoc x more.1 more.2), more.5)

-- where chunks aren't read, one after some good ones has a fault
chunks_fault : (l : ℕ) (ok : List ℕ → Bool) (m n : ℕ) (s : List ℕ) (f : Fault) → AreBytes s → length s < n
    → chunks ok m n s ≡ Err f → ChunksBefore l ok m s f
unfolding chunks
chunks_fault l ok m zero s f fits lt e = let never : ⊥ = omega arith in absurd never
chunks_fault l ok m (suc n) s f fits lt e =
    elim (bind_err (chunk_at ok m s) (λ p. chunks_step (chunks ok m n) p.0 p.1) f e) [
      | inl p ↦ ([], [], s, refl, refl, chunk_fault l ok m s f fits p)
      | inr p ↦
          let shorter : length p.0.1 < length s = under_ok _ _ _ _ p.1 (chunk_at-under ok m s) in
          chunks_step_fault l ok m n (chunks_fault l ok m n) s p.0.0 p.0.1 f fits (omega arith)
          (chunk_takes ok m s p.0.0 p.0.1 fits p.1) p.2
    ]

-- ---- members

-- a list that is there isn't absent
some_none : {P : Type 0} (s : List ℕ) → Some s ≡ None → P
some_none s e = absurd cc

-- where a key or what follows it isn't read, the key is known, or the rest has the fault
known_cases : (b : Bool) (at : ℕ) (more : Read (List (Item × Item))) (f : Fault) → known_step b at more ≡ Err f
    → ((b ≡ true) × (f ≡ DuplicateKey at)) ⊎ ((b ≡ false) × (more ≡ Err f))
known_cases true at more f e = inl (refl, sym (err_is _ _ e))
known_cases false at more f e = inr (refl, e)

-- where the members don't end, one is due
due_first : (c : Count) (t : List ℕ) → ended c t ≡ None → Dues c 0 t
due_first (counts.Left zero) t e = some_none t e
due_first (counts.Left (suc n)) t e = omega arith
due_first counts.Open t e = λ r h. some_none r (sym (ap (ended counts.Open) h) ∙ e)

-- a member that was read comes before those that are due after it
due_more : (c : Count) (k : ℕ) (s t : List ℕ) → ended c s ≡ None → Dues (fewer c) k t → Dues c (suc k) t
due_more (counts.Left zero) k s t e h = some_none s e
due_more (counts.Left (suc n)) k s t e h = omega arith
due_more counts.Open k s t e h = h

module _ (d : ℕ) where
  -- the items before the one that is due
  record ItemsBefore (c : Count) (s : List ℕ) (f : Fault) : Type 0 where
    vs : Items
    front : List ℕ
    rest : List ℕ
    spelled : SpellItems vs front
    parts : s ≡ front ++ rest
    due : Dues c (items_len vs) rest
    shallow : items_depth vs ≤ d
    distinct : ItemsHaveDistinctKeys vs
    wrong : item_at is_known d rest ≡ Err f

  -- the same of the items after one that was read
  items_step_fault : (n : ℕ)
      → ((c : Count) (s : List ℕ) (f : Fault) → AreBytes s → length s < n → items (item_at is_known d) n c s ≡ Err f → ItemsBefore c s f)
      → (c : Count) (s : List ℕ) (o : Option (List ℕ)) (f : Fault) → ended c s ≡ o → AreBytes s → length s < suc n
      → items_step (item_at is_known d) (items (item_at is_known d) n) c s o ≡ Err f → ItemsBefore c s f
  items_step_fault n ih c s (Some r) f end fits lt e = no_err _ _ e
  items_step_fault n ih c s None f end fits lt e =
      elim (bind_err (item_at is_known d s) (λ p. items (item_at is_known d) n (fewer c) p.1 >>= λ q. Ok (p.0 ∷ q.0, q.1)) f e) [
        | inl p ↦ record { vs = no_items; front = []; rest = s; spelled = refl; parts = refl; due = due_first c s end; shallow = omega arith; distinct = tt; wrong = p }
        | inr p ↦
            let one = item_takes is_known d s p.0.0 p.0.1 fits p.1 in
            let shorter : length p.0.1 < length s = under_ok _ _ _ _ p.1 (item_at-under is_known d s) in
            let more =
            ih (fewer c) p.0.1 f (rest_of s one.spelled.0 p.0.1 one.spelled.2 fits) (omega arith)
            (mapped_err (λ ws. p.0.0 ∷ ws) _ f p.2) in
            record {
              vs = item p.0.0 more.vs;
              front = one.spelled.0 ++ more.front;
              rest = more.rest;
              spelled = (one.spelled.0, more.front, one.spelled.1, more.spelled, refl);
              parts =
                  one.spelled.2 ∙ ap (λ y. one.spelled.0 ++ y) more.parts
                  ∙ sym (append_assoc one.spelled.0 more.front more.rest);
              due = due_more c (items_len more.vs) s more.rest end more.due;
              shallow = omega (arith, one.shallow, more.shallow);
              distinct = (distinct_from p.0.0 one.keyed, more.distinct);
              wrong = more.wrong;
            }
      ]

  -- where items aren't read, one after some good ones has the fault
  items_fault : (n : ℕ) (c : Count) (s : List ℕ) (f : Fault) → AreBytes s → length s < n
      → items (item_at is_known d) n c s ≡ Err f → ItemsBefore c s f
  unfolding items
  items_fault zero c s f fits lt e = let never : ⊥ = omega arith in absurd never
  items_fault (suc n) c s f fits lt e = items_step_fault n (items_fault n) c s (ended c s) f refl fits lt e

  -- what is wrong from a key on
  abbrev PairWrong : List (List ℕ) → List ℕ → Fault → Type 0
  PairWrong seen t f =
      (item_at is_known d t ≡ Err f)
      ⊎ ((k : Item) × (u : List ℕ) × (item_at is_known d t ≡ Ok (k, u)) × (((is_known (preferred k) seen ≡ true) × (f ≡ DuplicateKey (length t))) ⊎ ((is_known (preferred k) seen ≡ false) × (item_at is_known d u ≡ Err f))))

  -- the pairs before the one that is due, whose keys are new
  record PairsBefore (c : Count) (seen : List (List ℕ)) (s : List ℕ) (f : Fault) : Type 0 where
    ps : Pairs
    front : List ℕ
    rest : List ℕ
    spelled : SpellPairs ps front
    parts : s ≡ front ++ rest
    due : Dues c (pairs_len ps) rest
    shallow : pairs_depth ps ≤ d
    keyed : PairsKeyed is_known ps
    unknown : Unknown is_known seen ps
    wrong : PairWrong (seen_after seen ps) rest f

  -- the same of the pairs after one that was read
  pairs_step_fault : (n : ℕ)
      → ((c : Count) (seen : List (List ℕ)) (s : List ℕ) (f : Fault) → AreBytes s → length s < n → pairs is_known (item_at is_known d) n c seen s ≡ Err f → PairsBefore c seen s f)
      → (c : Count) (seen : List (List ℕ)) (s : List ℕ) (o : Option (List ℕ)) (f : Fault) → ended c s ≡ o → AreBytes s
      → length s < suc n
      → pairs_step is_known (item_at is_known d) (pairs is_known (item_at is_known d) n) c seen s o ≡ Err f
      → PairsBefore c seen s f
  pairs_step_fault n ih c seen s (Some r) f end fits lt e = no_err _ _ e
  pairs_step_fault n ih c seen s None f end fits lt e =
      let first : PairWrong seen s f → PairsBefore c seen s f =
      λ w. record { ps = no_pairs; front = []; rest = s; spelled = refl; parts = refl; due = due_first c s end; shallow = omega arith; keyed = tt; unknown = tt; wrong = w } in
      elim (bind_err (item_at is_known d s) (λ k. known_step (is_known (preferred k.0) seen) (length s) (item_at is_known d k.1 >>= λ v. pairs is_known (item_at is_known d) n (fewer c) (with_key seen (preferred k.0)) v.1 >>= λ q. Ok ((k.0, v.0) ∷ q.0, q.1))) f e) [
        | inl p ↦ first (inl p)
        | inr p ↦ elim (known_cases (is_known (preferred p.0.0) seen) (length s) _ f p.2) [
          | inl q ↦ first (inr (p.0.0, p.0.1, p.1, inl q))
          | inr q ↦ elim (bind_err (item_at is_known d p.0.1) (λ v. pairs is_known (item_at is_known d) n (fewer c) (with_key seen (preferred p.0.0)) v.1 >>= λ q. Ok ((p.0.0, v.0) ∷ q.0, q.1)) f q.1) [
            | inl u ↦ first (inr (p.0.0, p.0.1, p.1, inr (q.0, u)))
            | inr u ↦
                let one = item_takes is_known d s p.0.0 p.0.1 fits p.1 in
                let fits1 = rest_of s one.spelled.0 p.0.1 one.spelled.2 fits in
                let two = item_takes is_known d p.0.1 u.0.0 u.0.1 fits1 u.1 in
                let shorter : length p.0.1 < length s = under_ok _ _ _ _ p.1 (item_at-under is_known d s) in
                let shorter2 : length u.0.1 < length p.0.1 = under_ok _ _ _ _ u.1 (item_at-under is_known d p.0.1) in
                let more =
                ih (fewer c) (with_key seen (preferred p.0.0)) u.0.1 f
                (rest_of p.0.1 two.spelled.0 u.0.1 two.spelled.2 fits1) (omega arith)
                (mapped_err (λ ws. (p.0.0, u.0.0) ∷ ws) _ f u.2) in
                record {
                  ps = pair p.0.0 u.0.0 more.ps;
                  front = one.spelled.0 ++ (two.spelled.0 ++ more.front);
                  rest = more.rest;
                  spelled =
                      (one.spelled.0, two.spelled.0, more.front, one.spelled.1, two.spelled.1, more.spelled, refl);
                  parts =
                      one.spelled.2
                      ∙ ap (λ y. one.spelled.0 ++ y)
                      (two.spelled.2 ∙ ap (λ y. two.spelled.0 ++ y) more.parts ∙ sym (append_assoc two.spelled.0 more.front more.rest))
                      ∙ sym (append_assoc one.spelled.0 (two.spelled.0 ++ more.front) more.rest);
                  due = due_more c (pairs_len more.ps) s more.rest end more.due;
                  shallow = omega (arith, one.shallow, two.shallow, more.shallow);
                  keyed = (one.keyed, two.keyed, more.keyed);
                  unknown = (q.0, more.unknown);
                  wrong = more.wrong;
                }
          ]
        ]
      ]

  -- where pairs aren't read, one after some good ones has the fault
  pairs_fault : (n : ℕ) (c : Count) (seen : List (List ℕ)) (s : List ℕ) (f : Fault) → AreBytes s → length s < n
      → pairs is_known (item_at is_known d) n c seen s ≡ Err f → PairsBefore c seen s f
  unfolding pairs
  pairs_fault zero c seen s f fits lt e = let never : ⊥ = omega arith in absurd never
  pairs_fault (suc n) c seen s f fits lt e = pairs_step_fault n (pairs_fault n) c seen s (ended c s) f refl fits lt e

-- ---- keys

-- a key that is known after some pairs was known before or is the key of one
has_key_from : (k : Item) (ps : Pairs) (seen : List (List ℕ)) → Fine k → FinePairs ps
    → is_known (preferred k) (seen_after seen ps) ≡ true → (is_known (preferred k) seen ≡ true) ⊎ HasKey k ps
has_key_from k no_pairs seen fk fp e = inl e
has_key_from k (pair l v ps) seen fk fp e =
    elim (has_key_from k ps (with_key seen (preferred l)) fk fp.2 e) [
      | inl p ↦ elim (or_cases (is_at (slice_cmp nat_cmp (preferred k)) (preferred l)) (is_known (preferred k) seen) (sym (known_with (preferred k) (preferred l) seen) ∙ p)) [
        | inl q ↦ inr (inl (preferred_same k l fk fp.0 (same_at (preferred k) (preferred l) q)))
        | inr q ↦ inl q
      ]
      | inr p ↦ inr (inr p)
    ]

-- ---- an item

-- members between brackets, after which one more is due
inside : (m k : ℕ) (P : List ℕ → Type 0) (c : Count) (s h x r t : List ℕ) → CountSpells m c h → P x → Dues c k t
    → s ≡ h ++ r → r ≡ x ++ t → IsInside m k P s t
inside m k P (counts.Left n) s h x r t is p due e g = inl (n, h, x, is, p, due, e ∙ ap (λ y. h ++ y) g)
inside m k P counts.Open s h x r t is p due e g = inr (x, p, due, e ∙ ap (λ y. y ++ r) is ∙ ap (λ y. opening m ∷ y) g)

-- a fault of a chunk is a fault of a string in chunks
chunks_inside : (n : ℕ) (ok : List ℕ → Bool) (m : ℕ) (s x r : List ℕ) (f : Fault) → x ≡ opening m ∷ [] → s ≡ x ++ r
    → ChunksBefore n ok m r f → ChunksFault n ok m s (error_at n f)
chunks_inside n ok m s x r f is e c = (c.0, c.1, c.2, c.3, e ∙ ap (λ y. y ++ r) is ∙ ap (λ y. opening m ∷ y) c.4, c.5)

-- a fault of a pair is a fault of the map
pairs_body_fault : (l d : ℕ)
    → ((s : List ℕ) (f : Fault) → Fits s → item_at is_known d s ≡ Err f → Faulty l d s (error_at l f))
    → (c : Count) (s x r : List ℕ) (f : Fault) → Fits s → Fits r → CountSpells 5 c x → s ≡ x ++ r
    → PairsBefore d c [] r f → Faulty l (suc d) s (error_at l f)
pairs_body_fault l d ih c s x r f fits fits1 p e b =
    let in5 = inside 5 (pairs_len b.ps) (SpellPairs b.ps) c s x b.front r b.rest p b.spelled b.due e b.parts in
    let distinct = pairs_distinct_from b.ps [] b.keyed b.unknown in
    let fits2 = behind r b.front b.rest b.parts fits1 in
    let front_low : length b.front < 2 ^ 64 =
    omega (arith, fits1.short, ap length b.parts, length-append b.front b.rest) in
    let small = fine_pairs b.ps b.front front_low b.spelled in
    elim b.wrong [
      | inl w ↦ in_key d s (error_at l f) b.ps b.rest in5 b.shallow distinct (ih b.rest f fits2 w)
      | inr w ↦
          let k = w.0 in
          let u = w.1 in
          let one = item_takes is_known d b.rest k u fits2.bytes w.2 in
          let key_low : length one.spelled.0 < 2 ^ 64 =
          omega (arith, fits2.short, ap length one.spelled.2, length-append one.spelled.0 u) in
          let fk = fine k one.spelled.0 key_low one.spelled.1 in
          elim w.3 [
            | inl q ↦
                let has : HasKey k b.ps =
                elim (has_key_from k b.ps [] fk small q.0)
                [ inl z ↦ absurd (true_not_false false z refl) | inr z ↦ z ] in
                subst (λ g. Faulty l (suc d) s (error_at l g)) (sym q.1)
                (same_key d s b.ps b.rest k one.spelled.0 u in5 b.shallow distinct one.spelled.1 one.spelled.2 one.shallow (distinct_from k one.keyed) has)
            | inr q ↦
                in_value d s (error_at l f) b.ps b.rest k one.spelled.0 u in5 b.shallow distinct one.spelled.1
                one.spelled.2 one.shallow (distinct_from k one.keyed)
                (λ has. true_not_false (is_known (preferred k) (seen_after [] b.ps)) (known_key k b.ps [] has) q.0)
                (ih u f (behind b.rest one.spelled.0 u one.spelled.2 fits2) q.1)
          ]
    ]

-- where what follows a head isn't read, the item has that fault
body_fault : (l d : ℕ)
    → ((s : List ℕ) (f : Fault) → Fits s → item_at is_known d s ≡ Err f → Faulty l d s (error_at l f))
    → (h : Head) (s x r : List ℕ) (f : Fault) → Fits s → Fits r → HeadSpells h x → s ≡ x ++ r
    → body is_known (item_at is_known d) (length s) h r ≡ Err f → Faulty l (suc d) s (error_at l f)
body_fault l d ih (heads.Uint n) s x r f fits fits1 p e w = no_err _ _ w
body_fault l d ih (heads.Nint n) s x r f fits fits1 p e w = no_err _ _ w
body_fault l d ih (heads.Bytes n) s x r f fits fits1 p e w =
    in_bytes d s (error_at l f) (inl (n, x, r, p, e, string_fault l any_bytes n s r f (mapped_err bytes_item _ f w)))
body_fault l d ih heads.ByteChunks s x r f fits fits1 p e w =
    in_bytes d s (error_at l f)
    (inr (chunks_inside l any_bytes 2 s x r f p e (chunks_fault l any_bytes 2 (suc (length r)) r f fits1.bytes (omega arith) (mapped_err bytes_item _ f w))))
body_fault l d ih (heads.Text n) s x r f fits fits1 p e w =
    in_text d s (error_at l f) (inl (n, x, r, p, e, string_fault l is_utf8 n s r f (mapped_err text _ f w)))
body_fault l d ih heads.TextChunks s x r f fits fits1 p e w =
    in_text d s (error_at l f)
    (inr (chunks_inside l is_utf8 3 s x r f p e (chunks_fault l is_utf8 3 (suc (length r)) r f fits1.bytes (omega arith) (mapped_err text _ f w))))
body_fault l d ih (heads.List c) s x r f fits fits1 p e w =
    let b =
    items_fault d (suc (length r)) c r f fits1.bytes (omega arith) (mapped_err (λ ws. list (items_of ws)) _ f w) in
    in_list d s (error_at l f) b.vs b.rest
    (inside 4 (items_len b.vs) (SpellItems b.vs) c s x b.front r b.rest p b.spelled b.due e b.parts) b.shallow
    b.distinct (ih b.rest f (behind r b.front b.rest b.parts fits1) b.wrong)
body_fault l d ih (heads.Map c) s x r f fits fits1 p e w =
    pairs_body_fault l d ih c s x r f fits fits1 p e
    (pairs_fault d (suc (length r)) c [] r f fits1.bytes (omega arith) (mapped_err (λ ws. dict (pairs_of ws)) _ f w))
body_fault l d ih (heads.Tag n) s x r f fits fits1 p e w =
    in_tag d s (error_at l f) n x r p e (ih r f fits1 (mapped_err (tag n) _ f w))
body_fault l d ih (heads.Simple a) s x r f fits fits1 p e w = no_err _ _ w
body_fault l d ih (heads.Half n) s x r f fits fits1 p e w = no_err _ _ w
body_fault l d ih (heads.Single n) s x r f fits fits1 p e w = no_err _ _ w
body_fault l d ih (heads.Double n) s x r f fits fits1 p e w = no_err _ _ w

-- a list with a first byte isn't empty
nonempty : (b : ℕ) (s : List ℕ) → b ∷ s ≢ []
nonempty b s e = cc

-- where an item isn't read, the bytes have that fault
pub fault_found : (l d : ℕ) (s : List ℕ) (f : Fault) → Fits s → item_at is_known d s ≡ Err f
    → Faulty l d s (error_at l f)
unfolding item_at
fault_found l zero [] f fits e = subst (λ g. Faulty l 0 [] (error_at l g)) (err_is _ _ e) (ends 0)
fault_found l zero (b ∷ s) f fits e =
    subst (λ g. Faulty l 0 (b ∷ s) (error_at l g)) (err_is _ _ e) (deep (b ∷ s) (nonempty b s))
fault_found l (suc d) s f fits e =
    elim (bind_err (head_at s) (λ h. body is_known (item_at is_known d) (length s) h.0 h.1) f e) [
      | inl p ↦ elim (head_fault l s f fits.bytes p) [
        | inl q ↦ subst (λ g. Faulty l (suc d) s (error_at l g)) (sym q.1) (subst (λ y. Faulty l (suc d) y (errors.Short l)) (sym q.0) (ends (suc d)))
        | inr q ↦ in_head d s (error_at l f) q
      ]
      | inr p ↦
          let t = head_takes s p.0.0 p.0.1 fits.bytes p.1 in
          body_fault l d (fault_found l d) p.0.0 s t.0 p.0.1 f fits (behind s t.0 p.0.1 t.2 fits) t.1 t.2 p.2
    ]
