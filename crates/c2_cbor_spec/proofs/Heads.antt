-- A head that is read is the head that was written, and what was written is read again.
use Rattle.std.proofs.Common.{◌≡◌, ℕ, zero, suc, ◌+◌, ◌*◌, ◌/◌, ◌%◌, ◌^◌, ◌<◌, ◌≤◌, Bool, true, false, cond, ltb, List, [], ◌∷◌, ◌++◌, length, get_or, take, drop, Result, Ok, Err, refl, sym, ap, subst, ◌∙◌, arith, inl, inr, ◌⊎◌, lit<}
use Rattle.std.specs.Prelude.{◌==◌}
use Rattle.std.specs.Int.{Width, w16, w32, w64, byte_len, from_be_bytes, to_be_bytes}
use Rattle.std.proofs.lemmas.Bool.{ltb-false, ltb-true, le-ltb, lt-ltb, eqb-true}
use Rattle.std.proofs.lemmas.List.{take_at, drop_at, take-append-drop, length-append, length-take}
use Rattle.std.proofs.lemmas.Nat.{be_bytes_2, be_bytes_4, be_bytes_8, from_be_bytes-to_be_bytes_2, from_be_bytes-to_be_bytes_4, from_be_bytes-to_be_bytes_8}
use Rattle.c2_cbor_spec.specs.declared.fault.Fault.{Fault}
use Rattle.c2_cbor_spec.specs.declared.fault.Fault.TheVariants.{Short, Reserved}
use Rattle.c2_cbor_spec.specs.declared.head.Count.{Count}
use Rattle.c2_cbor_spec.specs.declared.head.Count.TheVariants as counts
use Rattle.c2_cbor_spec.specs.declared.head.Head.{Head}
use Rattle.c2_cbor_spec.specs.declared.head.Head.TheVariants as heads
use Rattle.c2_spec.specs.Cbor.Spelling.{Form, direct, one, two, four, eight, Holds, info, extra, IsHead, opening, SpellsSimple}
use Rattle.c2_cbor_spec.specs.Reading.{Read, ◌>>=◌, byte_at, number_at, argument_at, count_at, major_7, head_of, head_at}

-- each member is below 256
abbrev pub AreBytes : List ℕ → Type 0
AreBytes [] = Unit {0}
AreBytes (b ∷ s) = (b < 256) × AreBytes s

-- a list whose members at all places are below 256 is bytes
pub are_bytes : (s : List ℕ) → ((i : ℕ) → get_or s i 0 < 256) → AreBytes s
are_bytes [] h = tt
are_bytes (b ∷ s) h = (h 0, are_bytes s (λ i. h (suc i)))

-- a list of bytes is below 256 at all places
pub each_byte : (s : List ℕ) → AreBytes s → (i : ℕ) → get_or s i 0 < 256
each_byte [] h i = omega arith
each_byte (b ∷ s) h zero = h.0
each_byte (b ∷ s) h (suc i) = each_byte s h.1 i

-- what follows a part of bytes is bytes
pub rest_bytes : (x s : List ℕ) → AreBytes (x ++ s) → AreBytes s
rest_bytes [] s h = h
rest_bytes (b ∷ x) s h = rest_bytes x s h.1

-- what comes before a part of bytes is bytes
pub front_bytes : (x s : List ℕ) → AreBytes (x ++ s) → AreBytes x
front_bytes [] s h = tt
front_bytes (b ∷ x) s h = (h.0, front_bytes x s h.1)

-- the value of a step that did not fail
pub bind_ok : {A B : Type 0} (r : Result A Fault) (f : A → Result B Fault) (y : B) → (r >>= f) ≡ Ok y
    → (x : A) × (r ≡ Ok x) × (f x ≡ Ok y)
bind_ok (Ok x) f y e = (x, refl, e)
bind_ok (Err d) f y e = absurd cc

-- what a choice gives is its first value where the test passes, else the second
pub chosen : {A : Type 0} (b : Bool) (x y z : A) → cond b x y ≡ z → ((b ≡ true) × (x ≡ z)) ⊎ ((b ≡ false) × (y ≡ z))
chosen true x y z e = inl (refl, e)
chosen false x y z e = inr (refl, e)

-- P is said of a prefix, and rest is left
abbrev pub Found : (List ℕ → Type 0) → List ℕ → List ℕ → Type 0
Found P s rest = (x : List ℕ) × P x × (s ≡ x ++ rest)

-- a value as an answer
abbrev done : {A : Type 0} → A → Result A Fault
done x = Ok x

-- equal answers that are values have the same value
pub ok_is : {A : Type 0} (x y : A) → done x ≡ done y → x ≡ y
ok_is x y e = cc

-- equal answers have the same value before what is left
pub first_is : {A : Type 0} (a b : A) (s t : List ℕ) → done {A = A × List ℕ} (a, s) ≡ done {A = A × List ℕ} (b, t)
    → a ≡ b
first_is {A} a b s t e = let q : A × List ℕ = (a, s) in let r : A × List ℕ = (b, t) in ap (λ (p : A × List ℕ). p.0) (ok_is q r e)

-- equal answers leave the same bytes
pub rest_is : {A : Type 0} (a b : A) (s t : List ℕ) → done {A = A × List ℕ} (a, s) ≡ done {A = A × List ℕ} (b, t)
    → s ≡ t
rest_is {A} a b s t e = let q : A × List ℕ = (a, s) in let r : A × List ℕ = (b, t) in ap (λ (p : A × List ℕ). p.1) (ok_is q r e)

-- ---- numbers

-- a fault isn't a value
pub failed : {A : Type 0} (f : Fault) (x : A) → Err f ≡ done x → ⊥
failed f x e = cc

-- numbers of this width are below this limit, and spelled by their bytes
pub record IsWide (w : Width) (limit : ℕ) : Type 0 where
  pub len : (n : ℕ) → length (to_be_bytes w n) ≡ byte_len w
  pub back : (s : List ℕ) → length s ≡ byte_len w → ((i : ℕ) → get_or s i 0 < 256)
      → to_be_bytes w (from_be_bytes w s) ≡ s
  pub again : (n : ℕ) → n < limit → from_be_bytes w (to_be_bytes w n) ≡ n
  pub below : (s : List ℕ) → ((i : ℕ) → get_or s i 0 < 256) → from_be_bytes w s < limit

-- two bytes hold numbers below 2^16
pub wide16 : IsWide w16 (2 ^ 16)
wide16 =
    record
    { len = λ n. refl; back = λ s len fits. be_bytes_2 s _ len fits refl; again = λ n lt. from_be_bytes-to_be_bytes_2 n lt; below = λ s fits. omega (arith, fits 0, fits 1) }

-- four bytes hold numbers below 2^32
pub wide32 : IsWide w32 (2 ^ 32)
wide32 =
    record
    { len = λ n. refl; back = λ s len fits. be_bytes_4 s _ len fits refl; again = λ n lt. from_be_bytes-to_be_bytes_4 n lt; below = λ s fits. omega (arith, fits 0, fits 1, fits 2, fits 3) }

-- eight bytes hold numbers below 2^64
pub wide64 : IsWide w64 (2 ^ 64)
wide64 =
    record
    { len = λ n. refl; back = λ s len fits. be_bytes_8 s _ len fits refl; again = λ n lt. from_be_bytes-to_be_bytes_8 n lt; below = λ s fits. omega (arith, fits 0, fits 1, fits 2, fits 3, fits 4, fits 5, fits 6, fits 7) }

-- a number that is read is spelled by the bytes that were taken
pub number_takes : (w : Width) (limit : ℕ) (wide : IsWide w limit) (s : List ℕ) (n : ℕ) (rest : List ℕ) → AreBytes s
    → number_at w s ≡ Ok (n, rest) → (n < limit) × (s ≡ to_be_bytes w n ++ rest)
number_takes w limit wide s n rest fits e =
    elim (chosen (ltb (length s) (byte_len w)) (Err Short) (Ok (from_be_bytes w (take (byte_len w) s), drop (byte_len w) s)) (Ok (n, rest)) e) [
      | inl p ↦ absurd (failed _ _ p.1)
      | inr p ↦
          let long : byte_len w ≤ length s = ltb-false _ _ p.0 in
          let split = take-append-drop (byte_len w) s in
          let front : AreBytes (take (byte_len w) s) =
          front_bytes (take (byte_len w) s) (drop (byte_len w) s) (subst AreBytes (sym split) fits) in
          let n-is : from_be_bytes w (take (byte_len w) s) ≡ n = first_is _ _ _ _ p.1 in
          let r-is : drop (byte_len w) s ≡ rest = rest_is _ _ _ _ p.1 in
          let again : to_be_bytes w n ≡ take (byte_len w) s =
          ap (to_be_bytes w) (sym n-is)
          ∙ wide.back (take (byte_len w) s) (omega (arith, length-take (byte_len w) s)) (each_byte _ front) in
          (subst (λ k. k < limit) n-is (wide.below (take (byte_len w) s) (each_byte _ front)), sym split ∙ ap (λ x. x ++ drop (byte_len w) s) (sym again) ∙ ap (λ x. to_be_bytes w n ++ x) r-is)
    ]

-- the bytes of a number are read again as this number
pub number_again : (w : Width) (limit : ℕ) (wide : IsWide w limit) (n : ℕ) (rest : List ℕ) → n < limit
    → number_at w (to_be_bytes w n ++ rest) ≡ Ok (n, rest)
number_again w limit wide n rest lt =
    let len = wide.len n in
    let long : ltb (length (to_be_bytes w n ++ rest)) (byte_len w) ≡ false =
    le-ltb _ _ (omega (arith, length-append (to_be_bytes w n) rest)) in
    rw
    (long, take_at (to_be_bytes w n) rest (byte_len w) len, drop_at (to_be_bytes w n) rest (byte_len w) len, wide.again n lt)
    refl

-- ---- arguments

-- a byte that is read is the first
byte_takes : (s : List ℕ) (n : ℕ) (rest : List ℕ) → AreBytes s → byte_at s ≡ Ok (n, rest) → (n < 256) × (s ≡ n ∷ rest)
byte_takes [] n rest fits e = absurd (failed _ _ e)
byte_takes (b ∷ s) n rest fits e =
    (subst (λ k. k < 256) (first_is _ _ _ _ e) fits.0, ap (λ k. k ∷ s) (first_is _ _ _ _ e) ∙ ap (λ t. n ∷ t) (rest_is _ _ _ _ e))

-- this additional information and these bytes spell the argument
abbrev pub IsArgument : ℕ → ℕ → List ℕ → Type 0
IsArgument a n x = (f : Form) × Holds f n × (a ≡ info f n) × (x ≡ extra f n)

-- an argument that is read is spelled by the bytes that were taken
pub argument_takes : (at a : ℕ) (s : List ℕ) (n : ℕ) (rest : List ℕ) → AreBytes s → argument_at at a s ≡ Ok (n, rest)
    → Found (IsArgument a n) s rest
unfolding argument_at
argument_takes at a s n rest fits e =
    elim (chosen (ltb a 24) _ _ _ e) [
      | inl p ↦ let same = first_is _ _ _ _ p.1 in ([], (direct, subst (λ k. k < 24) same (ltb-true a 24 p.0), same, refl), rest_is _ _ _ _ p.1)
      | inr p ↦ elim (chosen (a == 24) _ _ _ p.1) [
        | inl q ↦ let b = byte_takes s n rest fits q.1 in (n ∷ [], (one, b.0, eqb-true a 24 q.0, refl), b.1)
        | inr q ↦ elim (chosen (a == 25) _ _ _ q.1) [
          | inl u ↦ let t = number_takes w16 (2 ^ 16) wide16 s n rest fits u.1 in (to_be_bytes w16 n, (two, t.0, eqb-true a 25 u.0, refl), t.1)
          | inr u ↦ elim (chosen (a == 26) _ _ _ u.1) [
            | inl v ↦ let t = number_takes w32 (2 ^ 32) wide32 s n rest fits v.1 in (to_be_bytes w32 n, (four, t.0, eqb-true a 26 v.0, refl), t.1)
            | inr v ↦ elim (chosen (a == 27) _ _ _ v.1) [
              | inl w ↦ let t = number_takes w64 (2 ^ 64) wide64 s n rest fits w.1 in (to_be_bytes w64 n, (eight, t.0, eqb-true a 27 w.0, refl), t.1)
              | inr w ↦ absurd (failed _ _ w.1)
            ]
          ]
        ]
      ]
    ]

-- the bytes of an argument are read again as this argument
pub argument_again : (at : ℕ) (f : Form) (n : ℕ) (rest : List ℕ) → Holds f n
    → argument_at at (info f n) (extra f n ++ rest) ≡ Ok (n, rest)
unfolding argument_at
argument_again at direct n rest h = rw (lt-ltb n 24 h) refl
argument_again at one n rest h = refl
argument_again at two n rest h = number_again w16 (2 ^ 16) wide16 n rest h
argument_again at four n rest h = number_again w32 (2 ^ 32) wide32 n rest h
argument_again at eight n rest h = number_again w64 (2 ^ 64) wide64 n rest h

-- ---- heads

-- the head of a list or a map with this count
abbrev pub CountSpells : ℕ → Count → List ℕ → Type 0
CountSpells m (counts.Left n) x = IsHead m n x
CountSpells m counts.Open x = x ≡ opening m ∷ []

-- these bytes spell this head
abbrev pub HeadSpells : Head → List ℕ → Type 0
HeadSpells (heads.Uint n) x = IsHead 0 n x
HeadSpells (heads.Nint n) x = IsHead 1 n x
HeadSpells (heads.Bytes n) x = IsHead 2 n x
HeadSpells heads.ByteChunks x = x ≡ opening 2 ∷ []
HeadSpells (heads.Text n) x = IsHead 3 n x
HeadSpells heads.TextChunks x = x ≡ opening 3 ∷ []
HeadSpells (heads.List c) x = CountSpells 4 c x
HeadSpells (heads.Map c) x = CountSpells 5 c x
HeadSpells (heads.Tag n) x = IsHead 6 n x
HeadSpells (heads.Simple a) x = SpellsSimple a x
HeadSpells (heads.Half n) x = (n < 2 ^ 16) × (x ≡ 249 ∷ to_be_bytes w16 n)
HeadSpells (heads.Single n) x = (n < 2 ^ 32) × (x ≡ 250 ∷ to_be_bytes w32 n)
HeadSpells (heads.Double n) x = (n < 2 ^ 64) × (x ≡ 251 ∷ to_be_bytes w64 n)

-- a first byte and an argument are a head of that major type
pub argument_head : (m a n : ℕ) (x : List ℕ) → IsArgument a n x → IsHead m n ((32 * m + a) ∷ x)
argument_head m a n x arg =
    (arg.0, arg.1, ap (λ k. (32 * m + k) ∷ x) arg.2 ∙ ap (λ y. (32 * m + info arg.0 n) ∷ y) arg.3)

-- what was found behind the first byte
abbrev Behind : ℕ → Head → List ℕ → List ℕ → Type 0
Behind b h s r = Found (λ x. HeadSpells h (b ∷ x)) s r

-- a reading whose value is changed
abbrev pub mapped : {A B : Type 0} → (A → B) → Read A → Read B
mapped k r = r >>= λ n. Ok (k n.0, n.1)

-- a head with an argument that is read is spelled by the bytes that were taken
plain_takes : (at m a : ℕ) (s : List ℕ) (k : ℕ → Head) (h : Head) (r : List ℕ)
    → ((n : ℕ) (x : List ℕ) → IsHead m n x → HeadSpells (k n) x) → AreBytes s
    → mapped k (argument_at at a s) ≡ Ok (h, r) → Behind (32 * m + a) h s r
plain_takes at m a s k h r spells fits e =
    let b = bind_ok (argument_at at a s) (λ n. Ok (k n.0, n.1)) (h, r) e in
    let f = argument_takes at a s b.0.0 b.0.1 fits b.1 in
    let same = first_is _ _ _ _ b.2 in
    (f.0, subst (λ g. HeadSpells g ((32 * m + a) ∷ f.0)) same (spells b.0.0 _ (argument_head m a b.0.0 f.0 f.1)), f.2 ∙ ap (λ t. f.0 ++ t) (rest_is _ _ _ _ b.2))

-- a count that is read is spelled by the bytes that were taken
count_takes : (at m a : ℕ) (s : List ℕ) (c : Count) (r : List ℕ) → AreBytes s → count_at at a s ≡ Ok (c, r)
    → Found (λ x. CountSpells m c ((32 * m + a) ∷ x)) s r
unfolding count_at
count_takes at m a s c r fits e =
    elim (chosen (a == 31) _ _ _ e) [
      | inl p ↦ ([], subst (λ d. CountSpells m d ((32 * m + a) ∷ [])) (first_is _ _ _ _ p.1) (ap (λ k. (32 * m + k) ∷ []) (eqb-true a 31 p.0)), rest_is _ _ _ _ p.1)
      | inr p ↦
          let b = bind_ok (argument_at at a s) (λ n. Ok (counts.Left n.0, n.1)) (c, r) p.1 in
          let f = argument_takes at a s b.0.0 b.0.1 fits b.1 in
          (f.0, subst (λ d. CountSpells m d ((32 * m + a) ∷ f.0)) (first_is _ _ _ _ b.2) (argument_head m a b.0.0 f.0 f.1), f.2 ∙ ap (λ t. f.0 ++ t) (rest_is _ _ _ _ b.2))
    ]

-- the same of the head of a list or a map
counted_takes : (at m a : ℕ) (s : List ℕ) (k : Count → Head) (h : Head) (r : List ℕ)
    → ((c : Count) (x : List ℕ) → CountSpells m c x → HeadSpells (k c) x) → AreBytes s
    → mapped k (count_at at a s) ≡ Ok (h, r) → Behind (32 * m + a) h s r
counted_takes at m a s k h r spells fits e =
    let b = bind_ok (count_at at a s) (λ n. Ok (k n.0, n.1)) (h, r) e in
    let f = count_takes at m a s b.0.0 b.0.1 fits b.1 in
    (f.0, subst (λ g. HeadSpells g ((32 * m + a) ∷ f.0)) (first_is _ _ _ _ b.2) (spells b.0.0 _ f.1), f.2 ∙ ap (λ t. f.0 ++ t) (rest_is _ _ _ _ b.2))

-- the same of the head of a float
float_takes :
    (w : Width) (limit : ℕ) (wide : IsWide w limit) (b : ℕ) (s : List ℕ) (k : ℕ → Head) (h : Head) (r : List ℕ)
    → ((n : ℕ) → n < limit → HeadSpells (k n) (b ∷ to_be_bytes w n)) → AreBytes s
    → mapped k (number_at w s) ≡ Ok (h, r) → Behind b h s r
float_takes w limit wide b s k h r spells fits e =
    let q = bind_ok (number_at w s) (λ n. Ok (k n.0, n.1)) (h, r) e in
    let t = number_takes w limit wide s q.0.0 q.0.1 fits q.1 in
    (to_be_bytes w q.0.0, subst (λ g. HeadSpells g (b ∷ to_be_bytes w q.0.0)) (first_is _ _ _ _ q.2) (spells q.0.0 t.0), t.1 ∙ ap (λ y. to_be_bytes w q.0.0 ++ y) (rest_is _ _ _ _ q.2))

-- the same by an equal first byte
at_first : (a b : ℕ) (h : Head) (s r : List ℕ) → a ≡ b → Behind a h s r → Behind b h s r
at_first a b h s r e f = subst (λ k. Behind k h s r) e f

-- the same of major type 7
major_7_takes : (at a : ℕ) (s : List ℕ) (h : Head) (r : List ℕ) → AreBytes s → major_7 at a s ≡ Ok (h, r)
    → Behind (224 + a) h s r
unfolding major_7
major_7_takes at a s h r fits e =
    elim (chosen (ltb a 24) _ _ _ e) [
      | inl p ↦ ([], subst (λ g. HeadSpells g ((224 + a) ∷ [])) (first_is _ _ _ _ p.1) (inl (ltb-true a 24 p.0, refl)), rest_is _ _ _ _ p.1)
      | inr p ↦ elim (chosen (a == 24) _ _ _ p.1) [
        | inl q ↦
            let b =
            bind_ok (byte_at s) (λ n. cond (ltb n.0 32) (Err (Reserved at)) (Ok (heads.Simple n.0, n.1))) (h, r) q.1 in
            let t = byte_takes s b.0.0 b.0.1 fits b.1 in
            elim (chosen (ltb b.0.0 32) _ _ _ b.2) [
              | inl u ↦ absurd (failed _ _ u.1)
              | inr u ↦ at_first 248 (224 + a) h s r (ap (λ k. 224 + k) (sym (eqb-true a 24 q.0)))
                  (b.0.0 ∷ [], subst (λ g. HeadSpells g (248 ∷ b.0.0 ∷ [])) (first_is _ _ _ _ u.1) (inr (ltb-false _ _ u.0, t.0, refl)), t.1 ∙ ap (λ y. b.0.0 ∷ y) (rest_is _ _ _ _ u.1))
            ]
        | inr q ↦ elim (chosen (a == 25) _ _ _ q.1) [
          | inl u ↦ at_first 249 (224 + a) h s r (ap (λ k. 224 + k) (sym (eqb-true a 25 u.0))) (float_takes w16 (2 ^ 16) wide16 249 s heads.Half h r (λ n lt. (lt, refl)) fits u.1)
          | inr u ↦ elim (chosen (a == 26) _ _ _ u.1) [
            | inl v ↦ at_first 250 (224 + a) h s r (ap (λ k. 224 + k) (sym (eqb-true a 26 v.0))) (float_takes w32 (2 ^ 32) wide32 250 s heads.Single h r (λ n lt. (lt, refl)) fits v.1)
            | inr v ↦ elim (chosen (a == 27) _ _ _ v.1) [
              | inl w ↦ at_first 251 (224 + a) h s r (ap (λ k. 224 + k) (sym (eqb-true a 27 w.0))) (float_takes w64 (2 ^ 64) wide64 251 s heads.Double h r (λ n lt. (lt, refl)) fits w.1)
              | inr w ↦ absurd (failed _ _ w.1)
            ]
          ]
        ]
      ]
    ]

-- the opening of an indefinite string
opens : (m a : ℕ) (s : List ℕ) (k h : Head) (r : List ℕ) → ((x : List ℕ) → x ≡ opening m ∷ [] → HeadSpells k x) → a ≡ 31
    → done {A = Head × List ℕ} (k, s) ≡ Ok (h, r) → Behind (32 * m + a) h s r
opens m a s k h r spells is e =
    ([], subst (λ g. HeadSpells g ((32 * m + a) ∷ [])) (first_is _ _ _ _ e) (spells _ (ap (λ n. (32 * m + n) ∷ []) is)), rest_is _ _ _ _ e)

-- the same of every major type
head_of_takes : (at m a : ℕ) (s : List ℕ) (h : Head) (r : List ℕ) → m < 8 → AreBytes s → head_of at m a s ≡ Ok (h, r)
    → Behind (32 * m + a) h s r
unfolding head_of
head_of_takes at zero a s h r lt fits e = plain_takes at 0 a s heads.Uint h r (λ n x p. p) fits e
head_of_takes at (suc zero) a s h r lt fits e = plain_takes at 1 a s heads.Nint h r (λ n x p. p) fits e
head_of_takes at (suc (suc zero)) a s h r lt fits e =
    elim (chosen (a == 31) _ _ _ e) [
      | inl p ↦ opens 2 a s heads.ByteChunks h r (λ x q. q) (eqb-true a 31 p.0) p.1
      | inr p ↦ plain_takes at 2 a s heads.Bytes h r (λ n x q. q) fits p.1
    ]
head_of_takes at (suc (suc (suc zero))) a s h r lt fits e =
    elim (chosen (a == 31) _ _ _ e) [
      | inl p ↦ opens 3 a s heads.TextChunks h r (λ x q. q) (eqb-true a 31 p.0) p.1
      | inr p ↦ plain_takes at 3 a s heads.Text h r (λ n x q. q) fits p.1
    ]
head_of_takes at (suc (suc (suc (suc zero)))) a s h r lt fits e =
    counted_takes at 4 a s heads.List h r (λ n x p. p) fits e
head_of_takes at (suc (suc (suc (suc (suc zero))))) a s h r lt fits e =
    counted_takes at 5 a s heads.Map h r (λ n x p. p) fits e
head_of_takes at (suc (suc (suc (suc (suc (suc zero)))))) a s h r lt fits e =
    plain_takes at 6 a s heads.Tag h r (λ n x p. p) fits e
head_of_takes at (suc (suc (suc (suc (suc (suc (suc zero))))))) a s h r lt fits e = major_7_takes at a s h r fits e
head_of_takes at (suc (suc (suc (suc (suc (suc (suc (suc m)))))))) a s h r lt fits e = let never : ⊥ = omega arith in absurd never

-- a head that is read is spelled by the bytes that were taken
pub head_takes : (s : List ℕ) (h : Head) (r : List ℕ) → AreBytes s → head_at s ≡ Ok (h, r) → Found (HeadSpells h) s r
unfolding head_at
head_takes [] h r fits e = absurd (failed _ _ e)
head_takes (b ∷ s) h r fits e =
    let lt : b / 32 < 8 = omega (arith, fits.0) in
    let f = head_of_takes (length (b ∷ s)) (b / 32) (b % 32) s h r lt fits.1 e in
    let same : 32 * (b / 32) + b % 32 ≡ b = omega arith in
    (b ∷ f.0, subst (λ k. HeadSpells h (k ∷ f.0)) same f.1, ap (λ t. b ∷ t) f.2)

-- ---- written heads

-- additional information of an argument is below 28
pub info_small : (f : Form) (n : ℕ) → Holds f n → info f n < 28
info_small direct n h = omega arith
info_small one n h = omega arith
info_small two n h = omega arith
info_small four n h = omega arith
info_small eight n h = omega arith

-- a lesser number isn't equal by the test
pub not_equal : (a b : ℕ) → a < b → (a == b) ≡ false
not_equal a b lt =
    elim (a == b) as (λ t. (a == b) ≡ t → t ≡ false) [ true ↦ λ e. absurd (let same = eqb-true a b e in omega arith) | false ↦ λ e. refl ] refl

-- a first byte is its major type and its additional information
head_at-split : (m a : ℕ) (s : List ℕ) → a < 32 → head_at ((32 * m + a) ∷ s) ≡ head_of (suc (length s)) m a s
unfolding head_at
head_at-split m a s lt =
    let d : (32 * m + a) / 32 ≡ m = omega arith in
    let r : (32 * m + a) % 32 ≡ a = omega arith in
    rw (d, r) refl

-- a count is read again
count_again : (at : ℕ) (f : Form) (n : ℕ) (r : List ℕ) → Holds f n
    → count_at at (info f n) (extra f n ++ r) ≡ Ok (counts.Left n, r)
unfolding count_at
count_again at f n r h = rw (not_equal (info f n) 31 (omega (arith, info_small f n h)), argument_again at f n r h) refl

-- a head with an argument is its major type, its additional information and the bytes after
split_head : (m : ℕ) (f : Form) (n : ℕ) (x r : List ℕ) → Holds f n → x ≡ (32 * m + info f n) ∷ extra f n
    → head_at (x ++ r) ≡ head_of (suc (length (extra f n ++ r))) m (info f n) (extra f n ++ r)
split_head m f n x r h e =
    ap (λ y. head_at (y ++ r)) e ∙ head_at-split m (info f n) (extra f n ++ r) (omega (arith, info_small f n h))

-- a simple value below 24 is read again
major_7_again : (at a : ℕ) (r : List ℕ) → a < 24 → major_7 at a r ≡ Ok (heads.Simple a, r)
unfolding major_7
major_7_again at a r h = rw (lt-ltb a 24 h) refl

-- a simple value is read again, in either form
pub simple_again : (a : ℕ) (x r : List ℕ) → SpellsSimple a x → head_at (x ++ r) ≡ Ok (heads.Simple a, r)
unfolding head_at head_of major_7
simple_again a x r (inl p) =
    ap (λ y. head_at (y ++ r)) p.1 ∙ head_at-split 7 a r (omega (arith, p.0)) ∙ major_7_again (suc (length r)) a r p.0
simple_again a x r (inr p) =
    ap (λ y. head_at (y ++ r)) p.2
    ∙ ap (λ b. cond b (Err (Reserved (suc (suc (length r))))) (Ok (heads.Simple a, r))) (le-ltb a 32 p.0)

-- the head of a list or a map is read again
counted_again : (m : ℕ) (c : Count) (x r : List ℕ) (k : Count → Head)
    → ((at a : ℕ) (s : List ℕ) → head_of at m a s ≡ mapped k (count_at at a s)) → CountSpells m c x
    → head_at (x ++ r) ≡ Ok (k c, r)
unfolding count_at
counted_again m (counts.Left n) x r k is (f, p, e) =
    split_head m f n x r p e ∙ is _ _ _ ∙ ap (mapped k) (count_again (suc (length (extra f n ++ r))) f n r p)
counted_again m counts.Open x r k is e = ap (λ y. head_at (y ++ r)) e ∙ head_at-split m 31 r (lit< tt) ∙ is _ _ _

-- a head of each major type
pub head_again : (h : Head) (x r : List ℕ) → HeadSpells h x → head_at (x ++ r) ≡ Ok (h, r)
unfolding head_at head_of major_7
head_again (heads.Uint n) x r (f, p, e) =
    split_head 0 f n x r p e ∙ ap (mapped heads.Uint) (argument_again (suc (length (extra f n ++ r))) f n r p)
head_again (heads.Nint n) x r (f, p, e) =
    split_head 1 f n x r p e ∙ ap (mapped heads.Nint) (argument_again (suc (length (extra f n ++ r))) f n r p)
head_again (heads.Bytes n) x r (f, p, e) =
    split_head 2 f n x r p e
    ∙ ap
    (λ b. cond b (Ok (heads.ByteChunks, extra f n ++ r)) (mapped heads.Bytes (argument_at (suc (length (extra f n ++ r))) (info f n) (extra f n ++ r))))
    (not_equal (info f n) 31 (omega (arith, info_small f n p)))
    ∙ ap (mapped heads.Bytes) (argument_again (suc (length (extra f n ++ r))) f n r p)
head_again heads.ByteChunks x r e = ap (λ y. head_at (y ++ r)) e
head_again (heads.Text n) x r (f, p, e) =
    split_head 3 f n x r p e
    ∙ ap
    (λ b. cond b (Ok (heads.TextChunks, extra f n ++ r)) (mapped heads.Text (argument_at (suc (length (extra f n ++ r))) (info f n) (extra f n ++ r))))
    (not_equal (info f n) 31 (omega (arith, info_small f n p)))
    ∙ ap (mapped heads.Text) (argument_again (suc (length (extra f n ++ r))) f n r p)
head_again heads.TextChunks x r e = ap (λ y. head_at (y ++ r)) e
head_again (heads.List c) x r p = counted_again 4 c x r heads.List (λ at a s. refl) p
head_again (heads.Map c) x r p = counted_again 5 c x r heads.Map (λ at a s. refl) p
head_again (heads.Tag n) x r (f, p, e) =
    split_head 6 f n x r p e ∙ ap (mapped heads.Tag) (argument_again (suc (length (extra f n ++ r))) f n r p)
head_again (heads.Simple a) x r p = simple_again a x r p
head_again (heads.Half n) x r p =
    ap (λ y. head_at (y ++ r)) p.1 ∙ ap (mapped heads.Half) (number_again w16 (2 ^ 16) wide16 n r p.0)
head_again (heads.Single n) x r p =
    ap (λ y. head_at (y ++ r)) p.1 ∙ ap (mapped heads.Single) (number_again w32 (2 ^ 32) wide32 n r p.0)
head_again (heads.Double n) x r p =
    ap (λ y. head_at (y ++ r)) p.1 ∙ ap (mapped heads.Double) (number_again w64 (2 ^ 64) wide64 n r p.0)
