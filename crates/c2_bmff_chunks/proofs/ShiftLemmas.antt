-- One file is another with moved places, and its chunks stay.
use Rattle.std.proofs.Common.{◌≡◌, ◌⊎◌, inl, inr, ⊎_elim, ℕ, ◌+◌, ◌-◌, ◌^◌, ◌<◌, ◌≤◌, Bool, true, false, cond, ◌&&◌, List, [], ◌∷◌, ◌++◌, length, get_or, take, drop, map, refl, sym, ap, ap₂, ◌∙◌, subst, arith}
use Rattle.std.specs.Prelude.{All, Contains, filter, nat_le}
use Rattle.std.proofs.lemmas.Bool.{cases_lt, le-leb, lt-ltb}
use Rattle.std.proofs.lemmas.List.{drop-drop, drop_at, get_or-drop, get_or-take, length-drop, length-take-le}
use Rattle.std.proofs.lemmas.List.Elements.{All-from_get_or}
use Rattle.std.proofs.lemmas.Grind.{same_number_lists}
use Rattle.c2_spec.specs.PutIn.{put_in}
use Rattle.c2_lemmas.proofs.Bytes.{AreBytes, are_bytes, bytes-drop, bytes-take}
use Rattle.c2_bmff_rows.proofs.PathRows.{Member, from_member, to_member}
use Rattle.c2_bmff_chunks.specs.Fields.{Covers, all_fields, field_limit, moved, number_at, number_bytes, overflows}
use Rattle.c2_bmff_chunks.specs.Laws.{ChunksStay, OneShifted, SomeShifted}
use Rattle.c2_bmff_chunks.specs.Shifted.{shifted}
use Rattle.c2_bmff_chunks.specs.Tables.{field_len}
use Rattle.c2_bmff_chunks.specs.declared.table.Field.{Field}
use Rattle.c2_bmff_chunks.proofs.FieldLemmas.{FieldsApart, member_within, moved_fits, number_back, number_in, number_of, number_small, number_told, tables_apart, with_bytes, with_get, with_here, with_len}

-- bytes, as a clause says it
pub all_bytes : (xs : List ℕ) → AreBytes xs → All (λ b. b < 2 ^ 8) xs
all_bytes xs h = All-from_get_or (λ b. b < 2 ^ 8) xs 0 (λ i k. h i)

-- ---- some

-- the file with its fields put over it is shifted
pub some_shifted : SomeShifted
some_shifted from by ts file bytes apart =
    let fs : List Field = all_fields ts in
    let are : AreBytes file = are_bytes file bytes in
    let stand : FieldsApart 0 (length file) fs = tables_apart 0 (length file) ts apart in
    record {
      size = with_len from by file fs file;
      bytes = all_bytes (shifted from by ts file) (with_bytes from by file fs file are);
      fields = λ f c.
          number_of f.wide (shifted from by ts file) f.at
          ∙ ap (number_in f.wide)
          (with_here from by 0 (length file) file fs file f stand (omega arith) (to_member fs f c))
          ∙ number_back f.wide (moved f.wide from by (number_at f.wide file f.at)) (moved_fits f.wide from by (number_at f.wide file f.at) (number_small f.wide file f.at are));
      others = λ i free. with_get from by file fs file i (λ f m. free f (from_member fs f m));
    }

-- ---- one

-- some field holds a place, or none does
pub held_or_not : (fs : List Field) (i : ℕ)
    → ((f : Field) × Member f fs × Covers f i) ⊎ ((f : Field) → Member f fs → Covers f i → ⊥)
held_or_not [] i = inr (λ f m. absurd m)
held_or_not (g ∷ gs) i =
    ⊎_elim
    (λ l. go (λ c. omega (arith, l, c.0)) (held_or_not gs i))
    (λ k. ⊎_elim (λ l. inl (g, inl refl, (k, l))) (λ m. go (λ c. omega (arith, m, c.1)) (held_or_not gs i)) (cases_lt i (g.at + field_len g.wide)))
    (cases_lt i g.at)
  where
    go : (Covers g i → ⊥) → ((f : Field) × Member f gs × Covers f i) ⊎ ((f : Field) → Member f gs → Covers f i → ⊥)
        → ((f : Field) × Member f (g ∷ gs) × Covers f i) ⊎ ((f : Field) → Member f (g ∷ gs) → Covers f i → ⊥)
    go not_here (inl h) = inl (h.0, inr h.1, h.2)
    go not_here (inr none) =
        inr
        (λ f m c. ⊎_elim (λ (e : f ≡ g). not_here (subst (λ (x : Field). Covers x i) e c)) (λ (n : Member f gs). none f n c) m)

-- two fields of bytes with one number have the same bytes
same_field : (wide : Bool) (a b : List ℕ) (at : ℕ) → AreBytes a → AreBytes b → at + field_len wide ≤ length a
    → at + field_len wide ≤ length b
    → number_at wide a at ≡ number_at wide b at → take (field_len wide) (drop at a) ≡ take (field_len wide) (drop at b)
same_field wide a b at h k inside inside' e =
    let n : ℕ = field_len wide in
    let left : number_bytes wide (number_in wide (take n (drop at a))) ≡ take n (drop at a) =
    number_told wide (take n (drop at a)) (bytes-take n (drop at a) (bytes-drop at a h))
    (length-take-le n (drop at a) (omega (arith, inside, length-drop at a))) in
    let right : number_bytes wide (number_in wide (take n (drop at b))) ≡ take n (drop at b) =
    number_told wide (take n (drop at b)) (bytes-take n (drop at b) (bytes-drop at b k))
    (length-take-le n (drop at b) (omega (arith, inside', length-drop at b))) in
    sym left ∙ ap (number_bytes wide) (sym (number_of wide a at) ∙ e ∙ number_of wide b at) ∙ right

-- a place in a part
part_get : (xs : List ℕ) (at n i : ℕ) → at ≤ i → i < at + n → get_or xs i 0 ≡ get_or (take n (drop at xs)) (i - at) 0
part_get xs at n i l k =
    let e : at + (i - at) ≡ i = omega (arith, l) in
    ap (λ j. get_or xs j 0) (sym e) ∙ sym (get_or-drop at xs (i - at) 0)
    ∙ sym (get_or-take n (drop at xs) (i - at) 0 (omega (arith, l, k)))

-- the file is shifted to one file
pub one_shifted : OneShifted
one_shifted from by ts file a b apart h k =
    same_number_lists a b (h.size ∙ sym k.size) (λ i inside. at i)
  where
    fs : List Field
    fs = all_fields ts

    stand : FieldsApart 0 (length file) fs
    stand = tables_apart 0 (length file) ts apart

    at : (i : ℕ) → get_or a i 0 ≡ get_or b i 0
    at i = ⊎_elim
        (λ held.
        let f : Field = held.0 in
        let c : Contains fs f = from_member fs f held.1 in
        let within = member_within 0 (length file) fs f stand held.1 in
        let same : take (field_len f.wide) (drop f.at a) ≡ take (field_len f.wide) (drop f.at b) =
        same_field f.wide a b f.at (are_bytes a h.bytes) (are_bytes b k.bytes) (omega (arith, within.1, h.size)) (omega (arith, within.1, k.size)) (h.fields f c ∙ sym (k.fields f c)) in
        part_get a f.at (field_len f.wide) i held.2.0 held.2.1 ∙ ap (λ (xs : List ℕ). get_or xs (i - f.at) 0) same ∙ sym (part_get b f.at (field_len f.wide) i held.2.0 held.2.1))
        (λ none. h.others i (λ f c. none f (to_member fs f c)) ∙ sym (k.others i (λ f c. none f (to_member fs f c))))
        (held_or_not fs i)

-- ---- chunks

-- the places behind a piece that is put in
pub put_in_behind : (e n : ℕ) (piece base : List ℕ) → e ≤ length base → e ≤ n
    → drop (n + length piece) (put_in e piece base) ≡ drop n base
put_in_behind e n piece base inside h =
    let all : List ℕ = put_in e piece base in
    let front : length (take e base) ≡ e = length-take-le e base inside in
    let first : drop e all ≡ piece ++ drop e base = drop_at (take e base) (piece ++ drop e base) e front in
    let second : drop (length piece) (drop e all) ≡ drop e base =
    ap (drop (length piece)) first ∙ drop_at piece (drop e base) (length piece) refl in
    let place : (e + length piece) + (n - e) ≡ n + length piece = omega (arith, h) in
    let back : e + (n - e) ≡ n = omega (arith, h) in
    ap (λ m. drop m all) (sym place) ∙ sym (drop-drop (n - e) (e + length piece) all)
    ∙ ap (drop (n - e)) (sym (drop-drop (length piece) e all) ∙ second)
    ∙ drop-drop (n - e) e base ∙ ap (λ m. drop m base) back

-- where no moved place is too large, each fits
none_pass : (p : Field → Bool) (fs : List Field) (f : Field) → map (λ (g : Field). g.at) (filter p fs) ≡ []
    → Member f fs → p f ≡ false
none_pass p [] f e m = absurd m
none_pass p (g ∷ gs) f e m = go (p g) refl e (λ h n. none_pass p gs f h n) m
  where
    go : (t : Bool) → p g ≡ t → map (λ (x : Field). x.at) (cond t (g ∷ filter p gs) (filter p gs)) ≡ []
        → (map (λ (x : Field). x.at) (filter p gs) ≡ [] → Member f gs → p f ≡ false) → Member f (g ∷ gs) → p f ≡ false
    go true s h more n = absurd (cc (h))
    go false s h more (inl q) = ap p q ∙ s
    go false s h more (inr n) = more h n

-- a place that fits is moved
moves : (wide : Bool) (from by v : ℕ) → from ≤ v → (nat_le from v && nat_le (field_limit wide) (v + by)) ≡ false
    → moved wide from by v ≡ v + by
moves wide from by v h e =
    let yes : nat_le from v ≡ true = le-leb from v h in
    let no : nat_le (field_limit wide) (v + by) ≡ false =
    sym (ap (λ t. t && nat_le (field_limit wide) (v + by)) yes) ∙ e in
    let small : v + by < field_limit wide =
    ⊎_elim (λ l. l) (λ g. absurd (let bad = sym (le-leb (field_limit wide) (v + by) g) ∙ no in cc (bad))) (cases_lt (v + by) (field_limit wide)) in
    ap₂ (λ (s t : Bool). cond (s && t) (v + by) v) yes (lt-ltb (v + by) (field_limit wide) small)

-- each field tells where its byte is then
pub chunks_stay : ChunksStay
chunks_stay e piece media base ts f v inside fits s has behind is from within =
    let d : ℕ = length piece in
    let new : List ℕ = put_in e piece base in
    let size : e ≤ length base = omega (arith, s.size, inside) in
    let fits' : (nat_le e (number_at f.wide media f.at) && nat_le (field_limit f.wide) (number_at f.wide media f.at + d)) ≡ false =
    none_pass (overflows e d media) (all_fields ts) f fits (to_member (all_fields ts) f has) in
    let moves' : moved f.wide e d (number_at f.wide media f.at) ≡ number_at f.wide media f.at + d =
    moves f.wide e d (number_at f.wide media f.at) (omega (arith, is, from)) fits' in
    let byte : get_or new (v + d) 0 ≡ get_or base v 0 =
    (let n : v + d + 0 ≡ v + d = omega arith in let m : v + 0 ≡ v = omega arith in
    ap (λ k. get_or new k 0) (sym n) ∙ sym (get_or-drop (v + d) new 0 0) ∙ ap (λ (xs : List ℕ). get_or xs 0 0) (put_in_behind e v piece base size from) ∙ get_or-drop v base 0 0 ∙ ap (λ k. get_or base k 0) m) in
    record {
      field =
          number_of f.wide new (f.at + d)
          ∙ ap (λ (xs : List ℕ). number_in f.wide (take (field_len f.wide) xs))
          (put_in_behind e f.at piece base size behind)
          ∙ sym (number_of f.wide base f.at) ∙ s.fields f has ∙ moves' ∙ ap (λ n. n + d) (sym is);
      byte = λ free. byte ∙ s.others v free;
    }
