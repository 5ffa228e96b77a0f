-- Each step of reading leaves fewer bytes.
use Rattle.std.proofs.Common.{◌≡◌, ℕ, zero, suc, ◌/◌, ◌%◌, ◌<◌, ◌≤◌, Bool, true, false, cond, ◌&&◌, List, [], ◌∷◌, length, take, Option, Some, None, Ok, Err, refl, ap, subst, arith}
use Rattle.std.specs.Prelude.{nat_lt, ◌==◌}
use Rattle.std.specs.Int.{Width, w16, w32, w64, byte_len}
use Rattle.std.specs.Str.{is_utf8}
use Rattle.std.proofs.lemmas.List.{length-drop}
use Rattle.c2_spec.specs.Cbor.Item.{Item}
use Rattle.c2_spec.specs.Cbor.Deterministic.{preferred}
use Rattle.c2_cbor_spec.specs.declared.head.Count.{Count}
use Rattle.c2_cbor_spec.specs.declared.head.Count.TheVariants as counts
use Rattle.c2_cbor_spec.specs.declared.head.Head.{Head}
use Rattle.c2_cbor_spec.specs.declared.head.Head.TheVariants as heads
use Rattle.c2_cbor_spec.specs.Reading.{Read, ◌>>=◌, byte_at, number_at, argument_at, count_at, major_7, head_of, head_at, string_at, chunk_head, chunk_body, chunk_at, chunks_step, chunks, ended, fewer, items_step, items, Known, known_step, with_key, pairs_step, pairs, body, item_at}
use Rattle.c2_spec.specs.Cbor.Spelling.{any_bytes}

-- fewer than n bytes are left
abbrev pub Under : {A : Type 0} → ℕ → Read A → Type 0
Under n (Ok x) = length x.1 < n
Under n (Err f) = Unit {0}

-- where both readings of a choice leave fewer bytes, the choice does
pub under_if : {A : Type 0} (n : ℕ) (b : Bool) (x y : Read A) → Under n x → Under n y → Under n (cond b x y)
under_if n true x y p q = p
under_if n false x y p q = q

-- where each of two steps leaves fewer bytes, both together do
pub under_bind : {A B : Type 0} (n m : ℕ) (r : Read A) (f : A × List ℕ → Read B) → Under n r
    → ((x : A × List ℕ) → length x.1 < n → Under m (f x)) → Under m (r >>= f)
under_bind n m (Ok x) f p q = q x p
under_bind n m (Err e) f p q = tt

-- a reading that leaves fewer bytes and succeeds leaves fewer
pub under_ok : {A : Type 0} (n : ℕ) (r : Read A) (a : A) (s : List ℕ) → r ≡ Ok (a, s) → Under n r → length s < n
under_ok n r a s e h = subst (λ (q : Read _). Under n q) e h

-- a byte that is read is taken
byte_at-under : (s : List ℕ) → Under (suc (length s)) (byte_at s)
byte_at-under [] = tt
byte_at-under (b ∷ s) = omega arith

-- reading a number leaves no more bytes
number_at-under : (w : Width) (s : List ℕ) → Under (suc (length s)) (number_at w s)
number_at-under w s = under_if _ (nat_lt (length s) (byte_len w)) _ _ tt (omega (arith, length-drop (byte_len w) s))

-- reading an argument leaves no more bytes
pub argument_at-under : (at a : ℕ) (s : List ℕ) → Under (suc (length s)) (argument_at at a s)
unfolding argument_at
argument_at-under at a s =
    under_if _ (nat_lt a 24) _ _ (omega arith)
    (under_if _ (a == 24) _ _ (byte_at-under s)
    (under_if _ (a == 25) _ _ (number_at-under w16 s)
    (under_if _ (a == 26) _ _ (number_at-under w32 s)
    (under_if _ (a == 27) _ _ (number_at-under w64 s) tt))))

-- reading a count leaves no more bytes
count_at-under : (at a : ℕ) (s : List ℕ) → Under (suc (length s)) (count_at at a s)
unfolding count_at
count_at-under at a s =
    under_if _ (a == 31) _ _ (omega arith) (under_bind _ _ (argument_at at a s) _ (argument_at-under at a s) (λ x h. h))

-- reading a head of major type 7 leaves no more bytes after the first
major_7-under : (at a : ℕ) (s : List ℕ) → Under (suc (length s)) (major_7 at a s)
unfolding major_7
major_7-under at a s =
    under_if _ (nat_lt a 24) _ _ (omega arith)
    (under_if _ (a == 24) _ _ (under_bind _ _ (byte_at s) _ (byte_at-under s) (λ x h. under_if _ (nat_lt x.0 32) _ _ tt h))
    (under_if _ (a == 25) _ _ (under_bind _ _ (number_at w16 s) _ (number_at-under w16 s) (λ x h. h))
    (under_if _ (a == 26) _ _ (under_bind _ _ (number_at w32 s) _ (number_at-under w32 s) (λ x h. h))
    (under_if _ (a == 27) _ _ (under_bind _ _ (number_at w64 s) _ (number_at-under w64 s) (λ x h. h)) tt))))

-- the same of every major type
head_of-under : (at m a : ℕ) (s : List ℕ) → Under (suc (length s)) (head_of at m a s)
unfolding head_of
head_of-under at m a s =
    under_if _ (m == 7) _ _ (major_7-under at a s)
    (under_if _ ((m == 2) && (a == 31)) _ _ (omega arith)
    (under_if _ ((m == 3) && (a == 31)) _ _ (omega arith)
    (under_if _ (m == 4) _ _ (under_bind _ _ (count_at at a s) _ (count_at-under at a s) (λ x h. h))
    (under_if _ (m == 5) _ _ (under_bind _ _ (count_at at a s) _ (count_at-under at a s) (λ x h. h))
    (under_bind _ _ (argument_at at a s) _ (argument_at-under at a s) (λ x h. h))))))

-- reading a head takes a byte
pub head_at-under : (s : List ℕ) → Under (length s) (head_at s)
unfolding head_at
head_at-under [] = tt
head_at-under (b ∷ s) = head_of-under (length (b ∷ s)) (b / 32) (b % 32) s

-- reading a string leaves no more bytes
pub string_at-under : (ok : List ℕ → Bool) (at n : ℕ) (s : List ℕ) → Under (suc (length s)) (string_at ok at n s)
unfolding string_at
string_at-under ok at n s =
    under_if _ (nat_lt (length s) n) _ _ tt (under_if _ (ok (take n s)) _ _ (omega (arith, length-drop n s)) tt)

-- reading the head of a chunk takes a byte
chunk_head-under : (m : ℕ) (s : List ℕ) → Under (length s) (chunk_head m s)
unfolding chunk_head
chunk_head-under m [] = tt
chunk_head-under m (b ∷ s) =
    under_if _ (b == 255) _ _ (omega arith)
    (under_if _ ((b / 32 == m) && nat_lt (b % 32) 28) _ _ (under_bind _ _ (argument_at (length (b ∷ s)) (b % 32) s) _ (argument_at-under (length (b ∷ s)) (b % 32) s) (λ x h. h)) tt)

-- reading the bytes of a chunk leaves no more bytes
chunk_body-under : (ok : List ℕ → Bool) (at : ℕ) (n : Option ℕ) (s : List ℕ)
    → Under (suc (length s)) (chunk_body ok at n s)
chunk_body-under ok at None s = omega arith
chunk_body-under ok at (Some n) s = under_bind _ _ (string_at ok at n s) _ (string_at-under ok at n s) (λ x h. h)

-- what leaves fewer than so many bytes leaves fewer than more
under_more : {A : Type 0} (n m : ℕ) (r : Read A) → n ≤ m → Under n r → Under m r
under_more n m (Ok x) h p = omega arith
under_more n m (Err e) h p = tt

-- reading a chunk takes a byte
pub chunk_at-under : (ok : List ℕ → Bool) (m : ℕ) (s : List ℕ) → Under (length s) (chunk_at ok m s)
unfolding chunk_at
chunk_at-under ok m s =
    under_bind _ _ (chunk_head m s) _ (chunk_head-under m s)
    (λ x h. under_more _ _ _ h (chunk_body-under ok (length s) x.0 x.1))

-- reading chunks takes a byte
pub chunks-under : (ok : List ℕ → Bool) (m n : ℕ) (s : List ℕ) → Under (length s) (chunks ok m n s)
unfolding chunks
chunks-under ok m zero s = tt
chunks-under ok m (suc n) s =
    under_bind _ _ (chunk_at ok m s) _ (chunk_at-under ok m s)
    (λ x h. elim x.0 as (λ o. Under (length s) (chunks_step (chunks ok m n) o x.1)) [
      | None ↦ h
      | Some c ↦ under_bind _ _ (chunks ok m n x.1) _ (chunks-under ok m n x.1) (λ y k. omega arith)
    ])

-- a reader of items takes at least one byte
abbrev pub Shrinks : (List ℕ → Read Item) → Type 0
Shrinks value = (s : List ℕ) → Under (length s) (value s)

-- how many bytes are left, where some are told
abbrev kept : Option (List ℕ) → ℕ
kept (Some s) = length s
kept None = 0

-- what ends a list or a map leaves no more bytes
ended-shorter : (c : Count) (s r : List ℕ) → ended c s ≡ Some r → length r ≤ length s
ended-shorter (counts.Left zero) s r e = omega (arith, ap kept e)
ended-shorter (counts.Left (suc n)) s r e = absurd cc
ended-shorter counts.Open [] r e = absurd cc
ended-shorter counts.Open (b ∷ s) r e = elim (b == 255) as (λ t. cond t (Some s) None ≡ Some r → length r ≤ suc (length s)) [
  | true ↦ λ f. omega (arith, ap kept f)
  | false ↦ λ f. absurd cc
] e

-- reading items leaves no more bytes
pub items-under : (value : List ℕ → Read Item) → Shrinks value → (n : ℕ) (c : Count) (s : List ℕ)
    → Under (suc (length s)) (items value n c s)
unfolding items
items-under value h zero c s = tt
items-under value h (suc n) c s =
    elim (ended c s) as (λ o. ended c s ≡ o → Under (suc (length s)) (items_step value (items value n) c s o)) [
      | Some r ↦ λ e. omega (arith, ended-shorter c s r e)
      | None ↦ λ e. under_bind _ _ (value s) _ (h s) (λ x k. under_bind _ _ (items value n (fewer c) x.1) _ (items-under value h n (fewer c) x.1) (λ y j. omega arith))
    ] refl

-- reading pairs leaves no more bytes
pub pairs-under : (known : Known) (value : List ℕ → Read Item) → Shrinks value
    → (n : ℕ) (c : Count) (seen : List (List ℕ)) (s : List ℕ) → Under (suc (length s)) (pairs known value n c seen s)
unfolding pairs
pairs-under known value h zero c seen s = tt
pairs-under known value h (suc n) c seen s =
    elim (ended c s) as (λ o. ended c s ≡ o → Under (suc (length s)) (pairs_step known value (pairs known value n) c seen s o)) [
      | Some r ↦ λ e. omega (arith, ended-shorter c s r e)
      | None ↦ λ e. under_bind _ _ (value s) _ (h s) (λ x k. elim (known (preferred x.0) seen) as (λ t. Under (suc (length s)) (known_step t (length s) (value x.1 >>= λ v. pairs known value n (fewer c) (with_key seen (preferred x.0)) v.1 >>= λ q. Ok ((x.0, v.0) ∷ q.0, q.1)))) [
        | true ↦ tt
        | false ↦ under_bind _ _ (value x.1) _ (h x.1) (λ v l. under_bind _ _ (pairs known value n (fewer c) (with_key seen (preferred x.0)) v.1) _ (pairs-under known value h n (fewer c) (with_key seen (preferred x.0)) v.1) (λ y j. omega arith))
      ])
    ] refl

-- reading what follows a head leaves no more bytes
body-under : (known : Known) (value : List ℕ → Read Item) → Shrinks value → (at : ℕ) (h : Head) (s : List ℕ)
    → Under (suc (length s)) (body known value at h s)
body-under known value p at (heads.Uint n) s = omega arith
body-under known value p at (heads.Nint n) s = omega arith
body-under known value p at (heads.Bytes n) s =
    under_bind _ _ (string_at any_bytes at n s) _ (string_at-under any_bytes at n s) (λ x h. h)
body-under known value p at heads.ByteChunks s =
    under_bind _ _ (chunks any_bytes 2 (suc (length s)) s) _ (chunks-under any_bytes 2 (suc (length s)) s)
    (λ x h. omega arith)
body-under known value p at (heads.Text n) s =
    under_bind _ _ (string_at is_utf8 at n s) _ (string_at-under is_utf8 at n s) (λ x h. h)
body-under known value p at heads.TextChunks s =
    under_bind _ _ (chunks is_utf8 3 (suc (length s)) s) _ (chunks-under is_utf8 3 (suc (length s)) s)
    (λ x h. omega arith)
body-under known value p at (heads.List c) s =
    under_bind _ _ (items value (suc (length s)) c s) _ (items-under value p (suc (length s)) c s) (λ x h. h)
body-under known value p at (heads.Map c) s =
    under_bind _ _ (pairs known value (suc (length s)) c [] s) _ (pairs-under known value p (suc (length s)) c [] s)
    (λ x h. h)
body-under known value p at (heads.Tag n) s = under_bind _ _ (value s) _ (p s) (λ x h. omega arith)
body-under known value p at (heads.Simple a) s = omega arith
body-under known value p at (heads.Half n) s = omega arith
body-under known value p at (heads.Single n) s = omega arith
body-under known value p at (heads.Double n) s = omega arith

-- reading an item takes a byte
pub item_at-under : (known : Known) (levels : ℕ) → Shrinks (item_at known levels)
unfolding item_at
item_at-under known zero [] = tt
item_at-under known zero (b ∷ s) = tt
item_at-under known (suc d) s =
    under_bind _ _ (head_at s) _ (head_at-under s)
    (λ x h. under_more _ _ _ h (body-under known (item_at known d) (item_at-under known d) (length s) x.0 x.1))
