-- Fields put over a list: where they stand, and what they leave.
use Rattle.std.proofs.Common.{◌≡◌, inl, inr, ⊎_elim, ℕ, zero, suc, ◌+◌, ◌-◌, ◌<◌, ◌≤◌, Bool, true, false, cond, ◌&&◌, List, [], ◌∷◌, ◌++◌, length, get_or, take, drop, refl, sym, ap, ◌∙◌, subst, arith}
use Rattle.std.specs.Prelude.{nat_le, nat_lt}
use Rattle.std.specs.Int.{w32, w64, from_be_bytes}
use Rattle.std.proofs.lemmas.Bool.{cases_lt}
use Rattle.std.proofs.lemmas.Bool.Decides.{Decides-ltb}
use Rattle.std.proofs.lemmas.Nat.{be_bytes_4, be_bytes_8, from_be_bytes-to_be_bytes_4, from_be_bytes-to_be_bytes_8}
use Rattle.c2_lemmas.proofs.Bytes.{AreBytes, bytes-drop, bytes-take}
use Rattle.c2_bmff_rows.proofs.PathRows.{Member}
use Rattle.c2_bmff_chunks.specs.Fields.{Covers, all_fields, field_limit, fields_from, fields_of, moved, number_at, number_bytes}
use Rattle.c2_bmff_chunks.specs.Shifted.{moved_bytes, part_with, put_over, put_over_from, with_fields}
use Rattle.c2_bmff_chunks.specs.Tables.{StandApart, field_len, fields_len, table_len}
use Rattle.c2_bmff_chunks.specs.declared.table.ChunkTable.{ChunkTable}
use Rattle.c2_bmff_chunks.specs.declared.table.Field.{Field}
use Rattle.c2_bmff_chunks.proofs.Putting.{part_left, part_right, put_beside_left, put_bytes, put_get_left, put_get_right, put_here, put_len, put_part}

-- ---- numbers

-- a number has the length of its field
pub number_len : (wide : Bool) (n : ℕ) → length (number_bytes wide n) ≡ field_len wide
number_len true n = refl
number_len false n = refl

-- the bytes of a number in a field are bytes
pub number_are : (wide : Bool) (n : ℕ) → AreBytes (number_bytes wide n)
number_are true n zero = omega arith
number_are true n (suc zero) = omega arith
number_are true n (suc (suc zero)) = omega arith
number_are true n (suc (suc (suc zero))) = omega arith
number_are true n (suc (suc (suc (suc zero)))) = omega arith
number_are true n (suc (suc (suc (suc (suc zero))))) = omega arith
number_are true n (suc (suc (suc (suc (suc (suc zero)))))) = omega arith
number_are true n (suc (suc (suc (suc (suc (suc (suc zero))))))) = omega arith
number_are true n (suc (suc (suc (suc (suc (suc (suc (suc i)))))))) = omega arith
number_are false n zero = omega arith
number_are false n (suc zero) = omega arith
number_are false n (suc (suc zero)) = omega arith
number_are false n (suc (suc (suc zero))) = omega arith
number_are false n (suc (suc (suc (suc i)))) = omega arith

-- a field of bytes has a number below its limit
pub number_small : (wide : Bool) (file : List ℕ) (at : ℕ) → AreBytes file → number_at wide file at < field_limit wide
number_small true file at h = let b : AreBytes (take 8 (drop at file)) = bytes-take 8 (drop at file) (bytes-drop at file h) in omega (arith, b 0, b 1, b 2, b 3, b 4, b 5, b 6, b 7)
number_small false file at h = let b : AreBytes (take 4 (drop at file)) = bytes-take 4 (drop at file) (bytes-drop at file h) in omega (arith, b 0, b 1, b 2, b 3)

-- the number of a field is that in its bytes
abbrev pub number_in : Bool → List ℕ → ℕ
number_in wide bytes = cond wide (from_be_bytes w64 bytes) (from_be_bytes w32 bytes)

-- by the bytes of the field
pub number_of : (wide : Bool) (file : List ℕ) (at : ℕ)
    → number_at wide file at ≡ number_in wide (take (field_len wide) (drop at file))
number_of true file at = refl
number_of false file at = refl

-- a number that fits is read as it was written
pub number_back : (wide : Bool) (n : ℕ) → n < field_limit wide → number_in wide (number_bytes wide n) ≡ n
number_back true n h = from_be_bytes-to_be_bytes_8 n h
number_back false n h = from_be_bytes-to_be_bytes_4 n h

-- a moved place fits
pub moved_fits : (wide : Bool) (from by v : ℕ) → v < field_limit wide → moved wide from by v < field_limit wide
moved_fits wide from by v h = go (nat_le from v) (nat_lt (v + by) (field_limit wide)) refl
  where
    go : (a b : Bool) → nat_lt (v + by) (field_limit wide) ≡ b → cond (a && b) (v + by) v < field_limit wide
    go true true e = (Decides-ltb (v + by) (field_limit wide)).0 e
    go true false e = h
    go false b e = h

-- bytes of a field are those of its number
pub number_told : (wide : Bool) (bytes : List ℕ) → AreBytes bytes → length bytes ≡ field_len wide
    → number_bytes wide (number_in wide bytes) ≡ bytes
number_told true bytes h e = be_bytes_8 bytes (from_be_bytes w64 bytes) e h refl
number_told false bytes h e = be_bytes_4 bytes (from_be_bytes w32 bytes) e h refl

-- what is put over a field has its length
pub moved_len : (from by : ℕ) (file : List ℕ) (f : Field) → length (moved_bytes from by file f) ≡ field_len f.wide
moved_len from by file f = number_len f.wide (moved f.wide from by (number_at f.wide file f.at))

-- ---- where fields stand

-- Fields one after the other, from a place on and up to another.
abbrev pub FieldsApart : ℕ → ℕ → List Field → Type 0
FieldsApart low high [] = low ≤ high
FieldsApart low high (f ∷ fs) = (low ≤ f.at) × FieldsApart (f.at + field_len f.wide) high fs

-- a field has bytes
pub field_some : (wide : Bool) → 4 ≤ field_len wide
field_some true = omega arith
field_some false = omega arith

-- one more field
pub fields_more : (wide : Bool) (n : ℕ) → fields_len wide (suc n) ≡ field_len wide + fields_len wide n
fields_more true n = omega arith
fields_more false n = omega arith

-- none
fields_zero : (wide : Bool) → fields_len wide 0 ≡ 0
fields_zero true = refl
fields_zero false = refl

-- the bounds of fields that stand apart go up
pub apart_ordered : (low high : ℕ) (fs : List Field) → FieldsApart low high fs → low ≤ high
apart_ordered low high [] h = h
apart_ordered low high (f ∷ fs) h = omega (arith, h.0, apart_ordered (f.at + field_len f.wide) high fs h.1)

-- the lower bound of fields that stand apart may be lower
apart_lower : (low low' high : ℕ) (fs : List Field) → low' ≤ low → FieldsApart low high fs → FieldsApart low' high fs
apart_lower low low' high [] l h = omega (arith, l, h)
apart_lower low low' high (f ∷ fs) l h = (omega (arith, l, h.0), h.1)

-- fields behind others
apart_append : (low mid high : ℕ) (fs gs : List Field) → FieldsApart low mid fs → FieldsApart mid high gs
    → FieldsApart low high (fs ++ gs)
apart_append low mid high [] gs h k = apart_lower mid low high gs h k
apart_append low mid high (f ∷ fs) gs h k = (h.0, apart_append (f.at + field_len f.wide) mid high fs gs h.1 k)

-- the fields of a table stand one after the other
pub fields_apart : (wide : Bool) (at n : ℕ) → FieldsApart at (at + fields_len wide n) (fields_from wide at n)
fields_apart wide at zero = omega (arith, fields_zero wide)
fields_apart wide at (suc n) =
    let e : at + field_len wide + fields_len wide n ≡ at + fields_len wide (suc n) =
    omega (arith, fields_more wide n) in
    (omega arith, subst (λ k. FieldsApart (at + field_len wide) k (fields_from wide (at + field_len wide) n)) e (fields_apart wide (at + field_len wide) n))

-- the fields of tables that stand apart stand apart
pub tables_apart : (low high : ℕ) (ts : List ChunkTable) → StandApart low high ts → FieldsApart low high (all_fields ts)
tables_apart low high [] h = h
tables_apart low high (t ∷ ts) h =
    apart_append low (t.first + table_len t) high (fields_of t) (all_fields ts)
    (apart_lower t.first low (t.first + table_len t) (fields_of t) h.0 (fields_apart t.wide t.first t.count))
    (tables_apart (t.first + table_len t) high ts h.1)

-- ---- fields put over a list

-- a list keeps its length
pub with_len : (from by : ℕ) (file : List ℕ) (fs : List Field) (xs : List ℕ)
    → length (with_fields from by file fs xs) ≡ length xs
with_len from by file [] xs = refl
with_len from by file (f ∷ fs) xs =
    with_len from by file fs (put_over f.at (moved_bytes from by file f) xs)
    ∙ put_len f.at (moved_bytes from by file f) xs

-- a list of bytes stays one where fields are put into it
pub with_bytes : (from by : ℕ) (file : List ℕ) (fs : List Field) (xs : List ℕ) → AreBytes xs
    → AreBytes (with_fields from by file fs xs)
with_bytes from by file [] xs h = h
with_bytes from by file (f ∷ fs) xs h =
    with_bytes from by file fs (put_over f.at (moved_bytes from by file f) xs)
    (put_bytes f.at (moved_bytes from by file f) xs (number_are f.wide (moved f.wide from by (number_at f.wide file f.at))) h)

-- a part of it
pub with_part : (from by pos n : ℕ) (file : List ℕ) (fs : List Field) (xs : List ℕ)
    → take n (drop pos (with_fields from by file fs xs)) ≡ part_with from by pos file fs (take n (drop pos xs))
with_part from by pos n file [] xs = refl
with_part from by pos n file (f ∷ fs) xs =
    with_part from by pos n file fs (put_over f.at (moved_bytes from by file f) xs)
    ∙ ap (part_with from by pos file fs) (put_part pos n f.at (moved_bytes from by file f) xs)

-- fields behind a part leave it
pub with_behind : (from by pos n low high : ℕ) (file : List ℕ) (fs : List Field) (xs : List ℕ) → FieldsApart low high fs
    → pos + n ≤ low
    → take n (drop pos (with_fields from by file fs xs)) ≡ take n (drop pos xs)
with_behind from by pos n low high file [] xs h k = refl
with_behind from by pos n low high file (f ∷ fs) xs h k =
    with_behind from by pos n (f.at + field_len f.wide) high file fs (put_over f.at (moved_bytes from by file f) xs) h.1
    (omega (arith, h.0, k))
    ∙ put_beside_left pos n f.at (moved_bytes from by file f) xs (omega (arith, h.0, k))

-- a place that no field holds stays
pub with_get : (from by : ℕ) (file : List ℕ) (fs : List Field) (xs : List ℕ) (i : ℕ)
    → ((f : Field) → Member f fs → Covers f i → ⊥)
    → get_or (with_fields from by file fs xs) i 0 ≡ get_or xs i 0
with_get from by file [] xs i free = refl
with_get from by file (f ∷ fs) xs i free =
    let len : length (moved_bytes from by file f) ≡ field_len f.wide = moved_len from by file f in
    with_get from by file fs (put_over f.at (moved_bytes from by file f) xs) i (λ g m. free g (inr m))
    ∙ ⊎_elim
    (λ l. put_get_left f.at i (moved_bytes from by file f) xs l)
    (λ g. ⊎_elim
    (λ l. absurd (free f (inl refl) (g, l)))
    (λ k. put_get_right f.at i (moved_bytes from by file f) xs (omega (arith, k, len)))
    (cases_lt i (f.at + field_len f.wide)))
    (cases_lt i f.at)

-- a field among others stands between their bounds
pub member_within : (low high : ℕ) (fs : List Field) (f : Field) → FieldsApart low high fs → Member f fs
    → (low ≤ f.at) × (f.at + field_len f.wide ≤ high)
member_within low high [] f h m = absurd m
member_within low high (g ∷ gs) f h (inl e) =
    let up : g.at + field_len g.wide ≤ high = apart_ordered (g.at + field_len g.wide) high gs h.1 in
    subst (λ (x : Field). (low ≤ x.at) × (x.at + field_len x.wide ≤ high)) (sym e) (h.0, up)
member_within low high (g ∷ gs) f h (inr m) =
    let more = member_within (g.at + field_len g.wide) high gs f h.1 m in
    (omega (arith, h.0, more.0), more.1)

-- a field that is put stands there
pub with_here : (from by low high : ℕ) (file : List ℕ) (fs : List Field) (xs : List ℕ) (f : Field)
    → FieldsApart low high fs → high ≤ length xs → Member f fs
    → take (field_len f.wide) (drop f.at (with_fields from by file fs xs)) ≡ moved_bytes from by file f
with_here from by low high file [] xs f h k m = absurd m
with_here from by low high file (g ∷ gs) xs f h k (inl e) =
    subst
    (λ (x : Field). take (field_len x.wide) (drop x.at (with_fields from by file (g ∷ gs) xs)) ≡ moved_bytes from by file x)
    (sym e)
    (let len : length (moved_bytes from by file g) ≡ field_len g.wide = moved_len from by file g in
    let up : g.at + field_len g.wide ≤ high = apart_ordered (g.at + field_len g.wide) high gs h.1 in
    with_behind from by g.at (field_len g.wide) (g.at + field_len g.wide) high file gs
    (put_over g.at (moved_bytes from by file g) xs) h.1 (omega arith)
    ∙ ap (λ n. take n (drop g.at (put_over g.at (moved_bytes from by file g) xs))) (sym len)
    ∙ put_here g.at (moved_bytes from by file g) xs (omega (arith, len, up, k)))
with_here from by low high file (g ∷ gs) xs f h k (inr m) =
    with_here from by (g.at + field_len g.wide) high file gs (put_over g.at (moved_bytes from by file g) xs) f h.1
    (omega (arith, k, put_len g.at (moved_bytes from by file g) xs)) m

-- ---- fields put over a part

-- a part keeps its length
pub part_len : (from by pos : ℕ) (file : List ℕ) (fs : List Field) (xs : List ℕ)
    → length (part_with from by pos file fs xs) ≡ length xs
part_len from by pos file [] xs = refl
part_len from by pos file (f ∷ fs) xs =
    part_len from by pos file fs (put_over_from pos f.at (moved_bytes from by file f) xs)
    ∙ put_len (f.at - pos) (drop (pos - f.at) (moved_bytes from by file f)) xs

-- fields after others
pub part_append : (from by pos : ℕ) (file : List ℕ) (fs gs : List Field) (xs : List ℕ)
    → part_with from by pos file (fs ++ gs) xs ≡ part_with from by pos file gs (part_with from by pos file fs xs)
part_append from by pos file [] gs xs = refl
part_append from by pos file (f ∷ fs) gs xs =
    part_append from by pos file fs gs (put_over_from pos f.at (moved_bytes from by file f) xs)

-- fields that end before the part leave it
pub part_before : (from by pos low high : ℕ) (file : List ℕ) (fs : List Field) (xs : List ℕ) → FieldsApart low high fs
    → high ≤ pos → part_with from by pos file fs xs ≡ xs
part_before from by pos low high file [] xs h k = refl
part_before from by pos low high file (f ∷ fs) xs h k =
    let up : f.at + field_len f.wide ≤ high = apart_ordered (f.at + field_len f.wide) high fs h.1 in
    ap (part_with from by pos file fs)
    (part_left pos f.at (moved_bytes from by file f) xs (omega (arith, up, k, moved_len from by file f)))
    ∙ part_before from by pos (f.at + field_len f.wide) high file fs xs h.1 k

-- fields that begin behind the part leave it
pub part_behind : (from by pos low high : ℕ) (file : List ℕ) (fs : List Field) (xs : List ℕ) → FieldsApart low high fs
    → pos + length xs ≤ low → part_with from by pos file fs xs ≡ xs
part_behind from by pos low high file [] xs h k = refl
part_behind from by pos low high file (f ∷ fs) xs h k =
    ap (part_with from by pos file fs) (part_right pos f.at (moved_bytes from by file f) xs (omega (arith, h.0, k)))
    ∙ part_behind from by pos (f.at + field_len f.wide) high file fs xs h.1 (omega (arith, h.0, k))

-- so many fields are the first of them and those after
pub fields_split : (wide : Bool) (at m n : ℕ)
    → fields_from wide at (m + n) ≡ fields_from wide at m ++ fields_from wide (at + fields_len wide m) n
fields_split wide at zero n =
    let e : zero + n ≡ n = omega arith in
    let z : at ≡ at + fields_len wide 0 = omega (arith, fields_zero wide) in
    ap (fields_from wide at) e ∙ ap (λ k. fields_from wide k n) z
fields_split wide at (suc m) n =
    let e : suc m + n ≡ suc (m + n) = omega arith in
    let z : at + field_len wide + fields_len wide m ≡ at + fields_len wide (suc m) =
    omega (arith, fields_more wide m) in
    ap (fields_from wide at) e
    ∙ ap (λ (xs : List Field). record { at = at; wide = wide } ∷ xs)
    (fields_split wide (at + field_len wide) m n ∙ ap (λ k. fields_from wide (at + field_len wide) m ++ fields_from wide k n) z)

-- the fields of tables that stand apart are those of the first and those of the others
pub fields_first : (t : ChunkTable) (ts : List ChunkTable) → all_fields (t ∷ ts) ≡ fields_of t ++ all_fields ts
fields_first t ts = refl

-- the bytes of so many fields are those of the first of them and of those after
pub fields_split_len : (wide : Bool) (m n : ℕ) → fields_len wide (m + n) ≡ fields_len wide m + fields_len wide n
fields_split_len true m n = omega arith
fields_split_len false m n = omega arith
