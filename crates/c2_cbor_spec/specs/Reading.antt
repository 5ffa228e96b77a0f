-- Reading from left to right, with the first fault that is met. A place is the count of the bytes from it to the end.
use Rattle.std.specs.Prelude.{◌≡◌, ℕ, zero, suc, ◌-◌, map, ◌/◌, ◌%◌, List, [], ◌∷◌, ◌++◌, length, take, drop, Bool, true, false, ◌&&◌, Option, Some, None, Result, Ok, Err, nat_lt, ◌==◌, if◌then◌else◌}
use Rattle.std.specs.Str.{is_utf8}
use Rattle.std.specs.List.{list_any}
use Rattle.std.specs.BTreeMap.{is_at}
use Rattle.std.specs.BTreeSet.{insert_key}
use Rattle.std.specs.Ordering.{nat_cmp}
use Rattle.std.specs.Cmp.Lexicographic.{slice_cmp}
use Rattle.c2_spec.specs.Cbor.View.{view, items_of, pairs_of}
use Rattle.c2_spec.specs.Cbor.Spelling.{any_bytes}
use Rattle.c2_spec.specs.declared.cbor.Cbor.{Cbor}
use Rattle.c2_spec.specs.Cbor.Deterministic.{preferred}
use Rattle.std.specs.Int.{Width, w16, w32, w64, byte_len, from_be_bytes}
use Rattle.c2_spec.specs.Cbor.Item.{Item, uint, nint, bytes, text, list, dict, tag, simple, half, single, double}
use Rattle.c2_cbor_spec.specs.declared.fault.Fault.{Fault}
use Rattle.c2_cbor_spec.specs.declared.fault.Fault.TheVariants.{Short, Reserved, BadText, DuplicateKey, TooDeep}
use Rattle.c2_cbor_spec.specs.declared.fault.ReadError.{ReadError}
use Rattle.c2_cbor_spec.specs.declared.fault.ReadError.TheVariants as errors
use Rattle.c2_cbor_spec.specs.declared.head.Count.{Count}
use Rattle.c2_cbor_spec.specs.declared.head.Count.TheVariants as counts
use Rattle.c2_cbor_spec.specs.declared.head.Head.{Head}
use Rattle.c2_cbor_spec.specs.declared.head.Head.TheVariants as heads

infixl 10 ◌>>=◌
abbrev pub ◌>>=◌ : {A B : Type 0} → Result A Fault → (A → Result B Fault) → Result B Fault
(Ok x) >>= f = f x
(Err e) >>= f = Err e

-- What a function returned, seen by view, is what reading gives, or out of memory.
abbrev pub Fails : {Y : Type 0} → ReadError → Result Y Fault → Type 0
Fails errors.Memory read = Unit {0}
Fails (errors.Fault f) read = read ≡ Err f

-- the value as it is seen is what reading gives; for an error, as above
abbrev pub Gives : {X Y : Type 0} → (X → Y) → Result X ReadError → Result Y Fault → Type 0
Gives view (Ok x) read = read ≡ Ok (view x)
Gives view (Err e) read = Fails e read

-- a value, and the bytes after it
abbrev pub Read : Type 0 → Type 0
Read A = Result (A × List ℕ) Fault

-- a byte
abbrev pub byte_at : List ℕ → Read ℕ
byte_at [] = Err Short
byte_at (b ∷ s) = Ok (b, s)

-- a number of so many bytes
abbrev pub number_at : Width → List ℕ → Read ℕ
number_at w s = if nat_lt (length s) (byte_len w) then Err Short else Ok (from_be_bytes w (take (byte_len w) s), drop (byte_len w) s)

-- the argument of a head by its additional information; `at` is the head's place
unfoldable pub argument_at : ℕ → ℕ → List ℕ → Read ℕ
argument_at at a s =
    if nat_lt a 24 then Ok (a, s)
    else (if a == 24 then byte_at s
    else (if a == 25 then number_at w16 s
    else (if a == 26 then number_at w32 s
    else (if a == 27 then number_at w64 s
    else Err (Reserved at)))))

-- how many members a list or a map has, or that it is open
unfoldable pub count_at : ℕ → ℕ → List ℕ → Read Count
count_at at a s = if a == 31 then Ok (counts.Open, s) else (argument_at at a s >>= λ n. Ok (counts.Left n.0, n.1))

-- a head of major type 7: a simple value or a float
unfoldable pub major_7 : ℕ → ℕ → List ℕ → Read Head
major_7 at a s =
    if nat_lt a 24 then Ok (heads.Simple a, s)
    else (if a == 24 then (byte_at s >>= λ n. if nat_lt n.0 32 then Err (Reserved at) else Ok (heads.Simple n.0, n.1))
    else (if a == 25 then (number_at w16 s >>= λ n. Ok (heads.Half n.0, n.1))
    else (if a == 26 then (number_at w32 s >>= λ n. Ok (heads.Single n.0, n.1))
    else (if a == 27 then (number_at w64 s >>= λ n. Ok (heads.Double n.0, n.1))
    else Err (Reserved at)))))

-- the head of a major type that is no string, list or map of its preferred form
abbrev pub plain_head : ℕ → ℕ → Head
plain_head m n =
    if m == 0 then heads.Uint n
    else (if m == 1 then heads.Nint n
    else (if m == 2 then heads.Bytes n
    else (if m == 3 then heads.Text n
    else heads.Tag n)))

-- a head of a major type, after its first byte
unfoldable pub head_of : ℕ → ℕ → ℕ → List ℕ → Read Head
head_of at m a s =
    if m == 7 then major_7 at a s
    else (if (m == 2) && (a == 31) then Ok (heads.ByteChunks, s)
    else (if (m == 3) && (a == 31) then Ok (heads.TextChunks, s)
    else (if m == 4 then (count_at at a s >>= λ c. Ok (heads.List c.0, c.1))
    else (if m == 5 then (count_at at a s >>= λ c. Ok (heads.Map c.0, c.1))
    else (argument_at at a s >>= λ n. Ok (plain_head m n.0, n.1))))))

-- a head
unfoldable pub head_at : List ℕ → Read Head
head_at [] = Err Short
head_at (b ∷ s) = head_of (length (b ∷ s)) (b / 32) (b % 32) s

-- ---- strings

-- n bytes that pass the test
unfoldable pub string_at : (List ℕ → Bool) → ℕ → ℕ → List ℕ → Read (List ℕ)
string_at ok at n s = if nat_lt (length s) n then Err Short else (if ok (take n s) then Ok (take n s, drop n s) else Err (BadText at))

-- the length of the next chunk of a string of major type m, or None at the break
unfoldable pub chunk_head : ℕ → List ℕ → Read (Option ℕ)
chunk_head m [] = Err Short
chunk_head m (b ∷ s) =
    if b == 255 then Ok (None, s)
    else (if (b / 32 == m) && nat_lt (b % 32) 28 then (argument_at (length (b ∷ s)) (b % 32) s >>= λ n. Ok (Some n.0, n.1))
    else Err (Reserved (length (b ∷ s))))

-- the bytes of a chunk of a known length, or the break
abbrev pub chunk_body : (List ℕ → Bool) → ℕ → Option ℕ → List ℕ → Read (Option (List ℕ))
chunk_body ok at None s = Ok (None, s)
chunk_body ok at (Some n) s = string_at ok at n s >>= λ p. Ok (Some p.0, p.1)

-- a chunk, or the break
unfoldable pub chunk_at : (List ℕ → Bool) → ℕ → List ℕ → Read (Option (List ℕ))
chunk_at ok m s = chunk_head m s >>= λ h. chunk_body ok (length s) h.0 h.1

-- a chunk and those after it, or none after the break
abbrev pub chunks_step : (List ℕ → Read (List ℕ)) → Option (List ℕ) → List ℕ → Read (List ℕ)
chunks_step more None s = Ok ([], s)
chunks_step more (Some c) s = more s >>= λ q. Ok (c ++ q.0, q.1)

-- chunks up to the break; the number bounds the turns, and more than the count of the bytes is enough
unfoldable pub chunks : (List ℕ → Bool) → ℕ → ℕ → List ℕ → Read (List ℕ)
chunks ok m zero s = Err Short
chunks ok m (suc n) s = chunk_at ok m s >>= λ p. chunks_step (chunks ok m n) p.0 p.1

-- ---- lists and maps

-- the pairs as items
abbrev pub pairs_seen : List (Cbor × Cbor) → List (Item × Item)
pairs_seen ps = map (λ p. (view p.0, view p.1)) ps

-- what follows the last item, where none is due
abbrev pub ended : Count → List ℕ → Option (List ℕ)
ended (counts.Left zero) s = Some s
ended (counts.Left (suc n)) s = None
ended counts.Open [] = None
ended counts.Open (b ∷ s) = if b == 255 then Some s else None

-- the members that are due after one more
abbrev pub fewer : Count → Count
fewer (counts.Left n) = counts.Left (n - 1)
fewer counts.Open = counts.Open

-- one item and those after it, or none at the end
abbrev pub items_step : (List ℕ → Read Item) → (Count → List ℕ → Read (List Item)) → Count → List ℕ → Option (List ℕ) → Read (List Item)
items_step value more c s (Some rest) = Ok ([], rest)
items_step value more c s None = value s >>= λ p. more (fewer c) p.1 >>= λ q. Ok (p.0 ∷ q.0, q.1)

-- items up to the end; the number bounds the turns
unfoldable pub items : (List ℕ → Read Item) → ℕ → Count → List ℕ → Read (List Item)
items value zero c s = Err Short
items value (suc n) c s = items_step value (items value n) c s (ended c s)

-- a key's bytes are among these, which are in order
abbrev pub is_known : List ℕ → List (List ℕ) → Bool
is_known k ks = list_any (is_at (slice_cmp nat_cmp k)) ks

-- these with one more, in order
abbrev pub with_key : List (List ℕ) → List ℕ → List (List ℕ)
with_key ks k = insert_key (slice_cmp nat_cmp) ks k

-- a key that is known is a duplicate, and reading goes on after any other
abbrev pub known_step : Bool → ℕ → Read (List (Item × Item)) → Read (List (Item × Item))
known_step true at more = Err (DuplicateKey at)
known_step false at more = more

-- whether a key's spelling is among these
abbrev pub Known : Type 0
Known = List ℕ → List (List ℕ) → Bool

-- one pair and those after it, or none at the end
abbrev pub pairs_step : Known → (List ℕ → Read Item) → (Count → List (List ℕ) → List ℕ → Read (List (Item × Item))) → Count → List (List ℕ) → List ℕ → Option (List ℕ) → Read (List (Item × Item))
pairs_step known value more c seen s (Some rest) = Ok ([], rest)
pairs_step known value more c seen s None =
    value s >>= λ k. known_step (known (preferred k.0) seen) (length s)
    (value k.1 >>= λ v. more (fewer c) (with_key seen (preferred k.0)) v.1 >>= λ q. Ok ((k.0, v.0) ∷ q.0, q.1))

-- pairs up to the end, none of whose keys is known; the number bounds the turns
unfoldable pub pairs : Known → (List ℕ → Read Item) → ℕ → Count → List (List ℕ) → List ℕ → Read (List (Item × Item))
pairs known value zero c seen s = Err Short
pairs known value (suc n) c seen s = pairs_step known value (pairs known value n) c seen s (ended c s)

-- ---- items

-- what follows the head of an item, whose place is at
abbrev pub body : Known → (List ℕ → Read Item) → ℕ → Head → List ℕ → Read Item
body known value at (heads.Uint n) s = Ok (uint n, s)
body known value at (heads.Nint n) s = Ok (nint n, s)
body known value at (heads.Bytes n) s = string_at any_bytes at n s >>= λ p. Ok (bytes p.0, p.1)
body known value at heads.ByteChunks s = chunks any_bytes 2 (suc (length s)) s >>= λ p. Ok (bytes p.0, p.1)
body known value at (heads.Text n) s = string_at is_utf8 at n s >>= λ p. Ok (text p.0, p.1)
body known value at heads.TextChunks s = chunks is_utf8 3 (suc (length s)) s >>= λ p. Ok (text p.0, p.1)
body known value at (heads.List c) s = items value (suc (length s)) c s >>= λ p. Ok (list (items_of p.0), p.1)
body known value at (heads.Map c) s = pairs known value (suc (length s)) c [] s >>= λ p. Ok (dict (pairs_of p.0), p.1)
body known value at (heads.Tag n) s = value s >>= λ p. Ok (tag n p.0, p.1)
body known value at (heads.Simple a) s = Ok (simple a, s)
body known value at (heads.Half n) s = Ok (half n, s)
body known value at (heads.Single n) s = Ok (single n, s)
body known value at (heads.Double n) s = Ok (double n, s)

-- an item, where so many levels are left
unfoldable pub item_at : Known → ℕ → List ℕ → Read Item
item_at known zero [] = Err Short
item_at known zero (b ∷ s) = Err (TooDeep (length (b ∷ s)))
item_at known (suc levels) s = head_at s >>= λ h. body known (item_at known levels) (length s) h.0 h.1
