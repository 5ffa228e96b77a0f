-- Fields and tables one at a time.
use Rattle.std.proofs.Common.{◌≡◌, ℕ, zero, suc, ◌+◌, ◌-◌, ◌<◌, ◌≤◌, Bool, true, false, cond, List, [], ◌∷◌, ◌++◌, length, get_or, take, drop, map, min, Option, refl, sym, ap, ap₂, ◌∙◌, subst, arith}
use Rattle.std.specs.Prelude.{filter}
use Rattle.std.specs.List.{AllByRecursion}
use Rattle.std.specs.Option.{ForSome}
use Rattle.std.proofs.lemmas.Grind.{flat_map-append}
use Rattle.std.proofs.lemmas.List.{drop-drop, length-drop, take-append-drop}
use borrow.Rule.Slice.PartMut.{put_mid, post_of}
use Rattle.c2_base.specs.Source.{FilledAt}
use Rattle.c2_bmff_rows.proofs.Lists.{piece_of}
use Rattle.c2_bmff_chunks.specs.Fields.{all_fields, fields_from, fields_of, number_at, overflows, places_of}
use Rattle.c2_bmff_chunks.specs.Shifted.{part_with, put_over_from}
use Rattle.c2_bmff_chunks.specs.Tables.{StandApart, field_len, fields_len, table_len}
use Rattle.c2_bmff_chunks.specs.declared.table.ChunkTable.{ChunkTable}
use Rattle.c2_bmff_chunks.specs.declared.table.Field.{Field}
use Rattle.c2_bmff_chunks.proofs.ApartLemmas.{stand_ordered}
use Rattle.c2_bmff_chunks.proofs.Putting.{part_left, put_drop, put_len, region}
use Rattle.c2_bmff_chunks.proofs.FieldLemmas.{fields_apart, fields_more, fields_split, number_in, number_of, part_append, part_before, part_behind, tables_apart}
use Rattle.c2_shift.specs.Parts.{IsAsRead}

-- ---- one field

-- the first of some fields
pub fields_step : (wide : Bool) (at n : ℕ) → 0 < n
    → fields_from wide at n ≡ record { at = at; wide = wide } ∷ fields_from wide (at + field_len wide) (n - 1)
fields_step wide at zero some = absurd (omega (arith, some))
fields_step wide at (suc n) some = let e : n ≡ suc n - 1 = omega arith in ap (λ k. record { at = at; wide = wide } ∷ fields_from wide (at + field_len wide) k) e

-- the bytes of the first of some fields
pub len_step : (wide : Bool) (n : ℕ) → 0 < n → fields_len wide n ≡ field_len wide + fields_len wide (n - 1)
len_step wide zero some = absurd (omega (arith, some))
len_step wide (suc n) some = let e : suc n - 1 ≡ n = omega arith in fields_more wide n ∙ ap (λ k. field_len wide + fields_len wide k) (sym e)

-- no fields
pub fields_none : (wide : Bool) (at n : ℕ) → n ≤ 0 → fields_from wide at n ≡ []
fields_none wide at zero h = refl
fields_none wide at (suc n) h = absurd (omega (arith, h))

-- a field that fits is passed
pub places_pass : (from by : ℕ) (file : List ℕ) (f : Field) (fs : List Field) → overflows from by file f ≡ false
    → places_of from by file (f ∷ fs) ≡ places_of from by file fs
places_pass from by file f fs e =
    ap
    (λ (t : Bool). map (λ (g : Field). g.at) (cond t (f ∷ filter (overflows from by file) fs) (filter (overflows from by file) fs)))
    e

-- one that doesn't is the first
pub places_stop : (from by : ℕ) (file : List ℕ) (f : Field) (fs : List Field) → overflows from by file f ≡ true
    → places_of from by file (f ∷ fs) ≡ f.at ∷ places_of from by file fs
places_stop from by file f fs e =
    ap
    (λ (t : Bool). map (λ (g : Field). g.at) (cond t (f ∷ filter (overflows from by file) fs) (filter (overflows from by file) fs)))
    e

-- fields after others that fit
pub places_append : (from by : ℕ) (file : List ℕ) (fs gs : List Field)
    → places_of from by file (fs ++ gs) ≡ places_of from by file fs ++ places_of from by file gs
places_append from by file [] gs = refl
places_append from by file (f ∷ fs) gs = go (overflows from by file f) (places_append from by file fs gs)
  where
    go : (t : Bool) → places_of from by file (fs ++ gs) ≡ places_of from by file fs ++ places_of from by file gs
        → map (λ (g : Field). g.at) (cond t (f ∷ filter (overflows from by file) (fs ++ gs)) (filter (overflows from by file) (fs ++ gs)))
        ≡ map (λ (g : Field). g.at)
        (cond t (f ∷ filter (overflows from by file) fs) (filter (overflows from by file) fs)) ++ places_of from by
        file gs
    go true e = ap (λ (xs : List ℕ). f.at ∷ xs) e
    go false e = e

-- ---- fields that a part doesn't reach

-- the first fields of a table pass where they end before the part
pub fields_passed : (from by pos : ℕ) (file : List ℕ) (wide : Bool) (at n skip : ℕ) (xs : List ℕ) → skip ≤ n
    → (0 < skip → at + fields_len wide skip ≤ pos)
    → part_with from by pos file (fields_from wide at n) xs ≡ part_with from by pos file (fields_from wide (at + fields_len wide skip) (n - skip)) xs
fields_passed from by pos file wide at n skip xs few ends =
    let e : n ≡ skip + (n - skip) = omega (arith, few) in
    ap (λ k. part_with from by pos file (fields_from wide at k) xs) e
    ∙ ap (λ (fs : List Field). part_with from by pos file fs xs) (fields_split wide at skip (n - skip))
    ∙ part_append from by pos file (fields_from wide at skip) (fields_from wide (at + fields_len wide skip) (n - skip))
    xs
    ∙ ap (part_with from by pos file (fields_from wide (at + fields_len wide skip) (n - skip))) (front skip ends)
  where
    front : (k : ℕ) → (0 < k → at + fields_len wide k ≤ pos)
        → part_with from by pos file (fields_from wide at k) xs ≡ xs
    front zero h = refl
    front (suc k) h =
        part_before from by pos at (at + fields_len wide (suc k)) file (fields_from wide at (suc k)) xs
        (fields_apart wide at (suc k)) (h (omega arith))

-- the fields behind the part pass
pub fields_behind : (from by pos : ℕ) (file : List ℕ) (wide : Bool) (at n : ℕ) (xs : List ℕ) → pos + length xs ≤ at
    → part_with from by pos file (fields_from wide at n) xs ≡ xs
fields_behind from by pos file wide at n xs h =
    part_behind from by pos at (at + fields_len wide n) file (fields_from wide at n) xs (fields_apart wide at n) h

-- ---- tables

-- a table ends at a place or before it
abbrev pub EndsBy : ℕ → ChunkTable → Type 0
EndsBy pos t = t.first + table_len t ≤ pos

-- a table ends where its source does, or before
pub ends_in : (low high k : ℕ) (ts : List ChunkTable) (d : ChunkTable) → StandApart low high ts → k < length ts
    → (get_or ts k d).first + table_len (get_or ts k d) ≤ high
ends_in low high k [] d h inside = absurd (omega (arith, inside))
ends_in low high zero (t ∷ ts) d h inside = stand_ordered (t.first + table_len t) high ts h.1
ends_in low high (suc k) (t ∷ ts) d h inside = ends_in (t.first + table_len t) high k ts d h.1 (omega (arith, inside))

-- a table begins behind those before it
pub begins_behind : (low high k : ℕ) (ts : List ChunkTable) (d : ChunkTable) → StandApart low high ts → k < length ts
    → low ≤ (get_or ts k d).first
begins_behind low high k [] d h inside = absurd (omega (arith, inside))
begins_behind low high zero (t ∷ ts) d h inside = h.0
begins_behind low high (suc k) (t ∷ ts) d h inside =
    omega (arith, h.0, begins_behind (t.first + table_len t) high k ts d h.1 (omega (arith, inside)))

-- where a table ends before a place, those before it do
pub ends_before : (low high k pos : ℕ) (ts : List ChunkTable) (d : ChunkTable) → StandApart low high ts → k < length ts
    → EndsBy pos (get_or ts k d) → AllByRecursion (EndsBy pos) (take (k + 1) ts)
ends_before low high k pos [] d h inside e = absurd (omega (arith, inside))
ends_before low high zero pos (t ∷ ts) d h inside e = (e, tt)
ends_before low high (suc k) pos (t ∷ ts) d h inside e =
    let z : suc k + 1 ≡ suc (k + 1) = omega arith in
    subst (λ n. AllByRecursion (EndsBy pos) (take n (t ∷ ts))) (sym z)
    (omega (arith, e, begins_behind (t.first + table_len t) high k ts d h.1 (omega (arith, inside))), ends_before (t.first + table_len t) high k pos ts d h.1 (omega (arith, inside)) e)

-- the tables after some stand apart
pub stand_drop : (low high k : ℕ) (ts : List ChunkTable) → StandApart low high ts
    → (low' : ℕ) × StandApart low' high (drop k ts)
stand_drop low high zero ts h = (low, h)
stand_drop low high (suc k) [] h = (low, h)
stand_drop low high (suc k) (t ∷ ts) h = stand_drop (t.first + table_len t) high k ts h.1

-- tables that end before the part pass
ended_pass : (from by pos : ℕ) (file : List ℕ) (ts : List ChunkTable) (xs : List ℕ) → AllByRecursion (EndsBy pos) ts
    → part_with from by pos file (all_fields ts) xs ≡ xs
ended_pass from by pos file [] xs h = refl
ended_pass from by pos file (t ∷ ts) xs h =
    part_append from by pos file (fields_of t) (all_fields ts) xs
    ∙ ap (part_with from by pos file (all_fields ts))
    (part_before from by pos t.first (t.first + table_len t) file (fields_of t) xs (fields_apart t.wide t.first t.count) h.0)
    ∙ ended_pass from by pos file ts xs h.1

-- where tables end before the part, those after them are enough
pub tables_passed : (from by pos k : ℕ) (file : List ℕ) (ts : List ChunkTable) (xs : List ℕ)
    → AllByRecursion (EndsBy pos) (take k ts)
    → part_with from by pos file (all_fields ts) xs ≡ part_with from by pos file (all_fields (drop k ts)) xs
tables_passed from by pos k file ts xs h =
    ap (λ (us : List ChunkTable). part_with from by pos file (all_fields us) xs) (sym (take-append-drop k ts))
    ∙ ap (λ (fs : List Field). part_with from by pos file fs xs) (flat_map-append fields_of (take k ts) (drop k ts))
    ∙ part_append from by pos file (all_fields (take k ts)) (all_fields (drop k ts)) xs
    ∙ ap (part_with from by pos file (all_fields (drop k ts))) (ended_pass from by pos file (take k ts) xs h)

-- tables behind the part pass
pub tables_behind : (from by pos high : ℕ) (file : List ℕ) (t : ChunkTable) (ts : List ChunkTable) (xs : List ℕ)
    → StandApart t.first high (t ∷ ts) → pos + length xs ≤ t.first
    → part_with from by pos file (all_fields (t ∷ ts)) xs ≡ xs
tables_behind from by pos high file t ts xs h k =
    part_behind from by pos t.first high file (all_fields (t ∷ ts)) xs (tables_apart t.first high (t ∷ ts) h) k

-- ---- a part that is as it was read

-- a part that is as it was read from a place on is so from each later place on
pub as_read_later : (file : List ℕ) (pos at at' : ℕ) (part : List ℕ) → at ≤ at' → IsAsRead file pos at part
    → IsAsRead file pos at' part
as_read_later file pos at at' part le h =
    let raw : List ℕ = take (length part) (drop pos file) in
    let split : (at - pos) + ((at' - pos) - (at - pos)) ≡ at' - pos = omega (arith, le) in
    ap (λ k. drop k part) (sym split) ∙ sym (drop-drop ((at' - pos) - (at - pos)) (at - pos) part)
    ∙ ap (drop ((at' - pos) - (at - pos))) h
    ∙ drop-drop ((at' - pos) - (at - pos)) (at - pos) raw ∙ ap (λ k. drop k raw) split

-- a field that is put leaves what is behind it
pub as_read_put : (file : List ℕ) (pos at : ℕ) (piece part new : List ℕ) → IsAsRead file pos at part
    → new ≡ put_over_from pos at piece part → IsAsRead file pos (at + length piece) new
as_read_put file pos at piece part new h is =
    let k : ℕ = at + length piece - pos in
    let rest : List ℕ = drop (pos - at) piece in
    let size : length new ≡ length part = ap length is ∙ put_len (at - pos) rest part in
    let ends : (at - pos) + length rest ≤ k = omega (arith, length-drop (pos - at) piece) in
    let later : IsAsRead file pos (at + length piece) part =
    as_read_later file pos at (at + length piece) part (omega arith) h in
    ap (drop k) is ∙ put_drop k (at - pos) rest part ∙ part_left k (at - pos) rest (drop k part) ends ∙ later
    ∙ ap (λ n. drop k (take n (drop pos file))) (sym size)

-- bytes that were read are so from any place on
pub as_read_whole : (known : Option (List ℕ)) (pos at : ℕ) (part : List ℕ) → FilledAt known pos part
    → ForSome known (λ file. IsAsRead file pos at part)
as_read_whole known pos at part h file is = ap (drop (at - pos)) (h file is)

-- the number in a field that lies in such a part
pub number_as_read : (file : List ℕ) (pos : ℕ) (f : Field) (part : List ℕ) → pos ≤ f.at
    → f.at + field_len f.wide ≤ pos + length part → IsAsRead file pos f.at part
    → number_at f.wide part (f.at - pos) ≡ number_at f.wide file f.at
number_as_read file pos f part from to h =
    let k : ℕ = f.at - pos in
    let n : ℕ = field_len f.wide in
    let place : pos + k ≡ f.at = omega (arith, from) in
    let fits : k + n ≤ length part = omega (arith, from, to) in
    number_of f.wide part k
    ∙ ap (λ (xs : List ℕ). number_in f.wide (take n xs)) h
    ∙ ap (number_in f.wide) (piece_of (length part) k n (drop pos file) fits)
    ∙ ap (λ (xs : List ℕ). number_in f.wide (take n xs)) (drop-drop k pos file ∙ ap (λ m. drop m file) place)
    ∙ sym (number_of f.wide file f.at)

-- ---- a piece

-- a piece that is copied to its places in a part
pub piece_put : (pos at : ℕ) (piece xs new : List ℕ) (first end skip : ℕ) → first ≡ min (at - pos) (length xs)
    → end ≡ min (at + length piece - pos) (length xs) → skip ≡ min (pos - at) (length piece)
    → new ≡ take (end - first) (drop skip piece) → put_mid first (end - first) xs new ≡ put_over_from pos at piece xs
piece_put pos at piece xs new first end skip a b c is =
    let place : first + (end - first) ≡ end = omega (arith, a, b) in
    let back : post_of first (end - first) xs ≡ drop end xs =
    drop-drop (end - first) first xs ∙ ap (λ n. drop n xs) place in
    ap₂ (λ (ys zs : List ℕ). take first xs ++ (ys ++ zs)) is back ∙ region pos at piece xs first end skip a b c

-- ---- lists

-- a list that isn't empty
pub first_of : {A : Type 0} (xs : List A) (d : A) → 0 < length xs → xs ≡ get_or xs 0 d ∷ drop 1 xs
first_of [] d some = absurd (omega (arith, some))
first_of (x ∷ xs) d some = refl

-- a table of nothing
abbrev pub no_table : ChunkTable
no_table = record { first = 0; count = 0; wide = false }

-- one more table is put
pub tables_step : (from by pos : ℕ) (file : List ℕ) (ts : List ChunkTable) (xs : List ℕ) → 0 < length ts
    → part_with from by pos file (all_fields ts) xs ≡ part_with from by pos file (all_fields (drop 1 ts)) (part_with from by pos file (fields_of (get_or ts 0 no_table)) xs)
tables_step from by pos file ts xs some =
    ap (λ (us : List ChunkTable). part_with from by pos file (all_fields us) xs) (first_of ts no_table some)
    ∙ part_append from by pos file (fields_of (get_or ts 0 no_table)) (all_fields (drop 1 ts)) xs

-- the tables after the first stand apart
pub stand_step : (low high : ℕ) (ts : List ChunkTable) → 0 < length ts → StandApart low high ts
    → StandApart ((get_or ts 0 no_table).first + table_len (get_or ts 0 no_table)) high (drop 1 ts)
stand_step low high ts some h = (subst (StandApart low high) (first_of ts no_table some) h).1

-- tables that stand apart do so from the first table's place on
pub stand_first : (low high : ℕ) (ts : List ChunkTable) → 0 < length ts → StandApart low high ts
    → StandApart (get_or ts 0 no_table).first high (get_or ts 0 no_table ∷ drop 1 ts)
stand_first low high ts some h = (omega arith, stand_step low high ts some h)

-- tables of which the first begins behind the part pass
pub rest_behind : (from by pos low high : ℕ) (file : List ℕ) (ts : List ChunkTable) (xs : List ℕ) → 0 < length ts
    → StandApart low high ts → pos + length xs ≤ (get_or ts 0 no_table).first
    → part_with from by pos file (all_fields ts) xs ≡ xs
rest_behind from by pos low high file ts xs some h k =
    ap (λ (us : List ChunkTable). part_with from by pos file (all_fields us) xs) (first_of ts no_table some)
    ∙ tables_behind from by pos high file (get_or ts 0 no_table) (drop 1 ts) xs (stand_first low high ts some h) k

-- the places that don't fit, of the first table and of the others
pub places_step : (from by : ℕ) (file : List ℕ) (ts : List ChunkTable) → 0 < length ts
    → places_of from by file (all_fields ts) ≡ places_of from by file (fields_of (get_or ts 0 no_table)) ++ places_of from by file (all_fields (drop 1 ts))
places_step from by file ts some =
    ap (λ (us : List ChunkTable). places_of from by file (all_fields us)) (first_of ts no_table some)
    ∙ places_append from by file (fields_of (get_or ts 0 no_table)) (all_fields (drop 1 ts))
