-- A header that passes stands at the front of a box.
use Rattle.std.proofs.Common.{◌≡◌, ℕ, zero, suc, ◌+◌, ◌-◌, ◌^◌, ◌<◌, ◌≤◌, Bool, true, false, cond, ◌&&◌, List, ◌++◌, length, take, drop, None, ltb, leb, ◌==◌, refl, sym, ap, ap₂, ◌∙◌, subst, arith}
use Rattle.std.specs.Str.{bytes_eq}
use Rattle.std.proofs.lemmas.Bool.Decides.{Decides-ltb}
use Rattle.std.proofs.lemmas.List.{length-take-le, length-drop, take-append-drop, drop-drop, append_assoc}
use Rattle.std.proofs.lemmas.Nat.{be_bytes_4}
use Rattle.std.specs.Int.{w32, w64, to_be_bytes, from_be_bytes}
use Rattle.std.proofs.lemmas.Bool.{le-leb}
use borrow.Author.Tests.{eqb-true, ltb-false}
use Rattle.c2_base.specs.declared.media.MediaError.TheVariants.{Truncated, BadBox}
use Rattle.c2_spec.specs.Bmff.Boxes.{SizeForm, short, long, to_end, box_fault, header_len, header_bytes, stated_size, stated_long_size, stated_len, stated_kind, stated_header_len, uuid_kind, size_fits, is_to_end}
use Rattle.c2_spec.proofs.BmffTests.{six, len_by, file_by}
use Rattle.c2_bmff_rows.specs.Rows.{BeginsWith}
use Rattle.c2_lemmas.proofs.Bools.{and_second}
use Rattle.c2_lemmas.proofs.Bytes.{AreBytes, bytes-take, small_4, spell_8}
use Rattle.c2_lemmas.proofs.Lists.{take_split}

-- six tests that all pass
six_pass : {A : Type 0} (a b c d e f : Bool) (x y : A) → six a b c d e f x y ≡ None
    → (a ≡ false) × (b ≡ false) × (c ≡ false) × (d ≡ false) × (e ≡ false) × (f ≡ false)
six_pass false false false false false false x y h = (refl, refl, refl, refl, refl, refl)
six_pass true b c d e f x y h = absurd (cc (h))
six_pass false true c d e f x y h = absurd (cc (h))
six_pass false false true d e f x y h = absurd (cc (h))
six_pass false false false true e f x y h = absurd (cc (h))
six_pass false false false false true f x y h = absurd (cc (h))
six_pass false false false false false true x y h = absurd (cc (h))

-- a number that was read of the first four bytes is spelled by them
four_at : (xs : List ℕ) (n : ℕ) → AreBytes xs → 4 ≤ length xs → n ≡ from_be_bytes w32 (take 4 xs)
    → to_be_bytes w32 n ≡ take 4 xs
four_at xs n h inside e = be_bytes_4 (take 4 xs) n (length-take-le 4 xs inside) (bytes-take 4 xs h) e

-- a box whose header stands at the front of the rest
begins : (f : SizeForm) (rest k : List ℕ) (len : ℕ) (e : Bool) → header_len f ≤ len → len ≤ length rest
    → header_bytes f len k ≡ take (header_len f) rest → length k ≡ 4 → size_fits f len ≡ true
    → (bytes_eq k uuid_kind ≡ true → header_len f + 16 ≤ len) → is_to_end f ≡ e → (e ≡ true → len ≡ length rest)
    → BeginsWith rest (header_len f) len k e
begins f rest k len e least inside header four fits user end ends =
    let size : length (take (len - header_len f) (drop (header_len f) rest)) ≡ len - header_len f =
    length-take-le (len - header_len f) (drop (header_len f) rest)
    (omega (arith, length-drop (header_len f) rest, least, inside)) in
    let total : header_len f + length (take (len - header_len f) (drop (header_len f) rest)) ≡ len =
    omega (arith, size, least) in
    let whole : header_len f + (len - header_len f) ≡ len = omega (arith, least) in
    record {
      box = record { form = f; kind = k; payload = take (len - header_len f) (drop (header_len f) rest) };
      is_box =
          record { kind = four; fits = ap (size_fits f) total ∙ fits; user_type = λ u. omega (arith, size, user u) };
      bytes =
          sym (take-append-drop (header_len f) rest)
          ∙ ap₂ (λ (xs ys : List ℕ). xs ++ ys) (sym header ∙ ap (λ n. header_bytes f n k) (sym total))
          (sym (take-append-drop (len - header_len f) (drop (header_len f) rest)) ∙ ap (λ (ys : List ℕ). take (len - header_len f) (drop (header_len f) rest) ++ ys) (drop-drop (len - header_len f) (header_len f) rest ∙ ap (λ n. drop n rest) whole))
          ∙ sym (append_assoc (header_bytes f (header_len f + length (take (len - header_len f) (drop (header_len f) rest))) k) (take (len - header_len f) (drop (header_len f) rest)) (drop len rest));
      length_is = total;
      header_is = refl;
      kind_is = refl;
      end_is = end;
      ends = ends;
    }

-- the header where the size isn't 1 has eight bytes
header_short : (rest : List ℕ) (n : ℕ) → AreBytes rest → 8 ≤ length rest → n ≡ stated_size rest
    → to_be_bytes w32 n ++ stated_kind rest ≡ take 8 rest
header_short rest n h l e =
    ap (λ (xs : List ℕ). xs ++ stated_kind rest) (four_at rest n h (omega (arith, l)) e) ∙ sym (take_split 4 4 rest)

-- the header where the size is 1 has sixteen bytes
header_long : (rest : List ℕ) (len : ℕ) → AreBytes rest → 16 ≤ length rest → 1 ≡ stated_size rest
    → len ≡ stated_long_size rest → to_be_bytes w32 1 ++ stated_kind rest ++ to_be_bytes w64 len ≡ take 16 rest
header_long rest len h l one e =
    ap (λ (xs : List ℕ). (to_be_bytes w32 1 ++ stated_kind rest) ++ xs) (spell_8 rest 8 len h (omega (arith, l)) e)
    ∙ ap (λ (xs : List ℕ). xs ++ take 8 (drop 8 rest)) (header_short rest 1 h (omega (arith, l)) one)
    ∙ sym (take_split 8 8 rest)

-- A header that passes stands at the front of a box, and states it.
pub box_there : (p : ℕ) (rest : List ℕ) → AreBytes rest → length rest < 2 ^ 64 → box_fault p rest ≡ None
    → BeginsWith rest (stated_header_len rest) (stated_len rest) (stated_kind rest) (stated_size rest == 0)
box_there p rest bytes fits none = go (stated_size rest == 0) (stated_size rest == 1) refl refl
  where
    n : ℕ
    n = stated_size rest

    tests : (ltb (length rest) 8 ≡ false) × (ltb (length rest) (cond (n == 1) 16 8) ≡ false)
        × ((leb 2 n && ltb n 8) ≡ false) × (((n == 1) && ltb (stated_long_size rest) 16) ≡ false)
        × (ltb (length rest) (len_by (length rest) n (stated_long_size rest)) ≡ false)
        × ((bytes_eq (stated_kind rest) uuid_kind
        && ltb (len_by (length rest) n (stated_long_size rest)) (cond (n == 1) 16 8 + 16)) ≡ false)
    tests = six_pass _ _ _ _ _ _ (Truncated (p + length rest)) (BadBox p) (sym (file_by p rest) ∙ none)

    eight : 8 ≤ length rest
    eight = ltb-false (length rest) 8 tests.0

    four : length (stated_kind rest) ≡ 4
    four = length-take-le 4 (drop 4 rest) (omega (arith, length-drop 4 rest, eight))

    room : (h len : ℕ) → cond (n == 1) 16 8 ≡ h → len_by (length rest) n (stated_long_size rest) ≡ len
        → bytes_eq (stated_kind rest) uuid_kind ≡ true → h + 16 ≤ len
    room h len e f u =
        omega
        (arith, ltb-false (len_by (length rest) n (stated_long_size rest)) (cond (n == 1) 16 8 + 16) (and_second (bytes_eq (stated_kind rest) uuid_kind) _ tests.5 u), e, f)

    inside : (len : ℕ) → len_by (length rest) n (stated_long_size rest) ≡ len → len ≤ length rest
    inside len f = omega (arith, ltb-false (length rest) (len_by (length rest) n (stated_long_size rest)) tests.4, f)

    go : (z o : Bool) → (n == 0) ≡ z → (n == 1) ≡ o
        → BeginsWith rest (cond (n == 1) 16 8) (cond (n == 0) (length rest) (cond (n == 1) (stated_long_size rest) n)) (stated_kind rest) (n == 0)
    go true true a b = absurd (let x : n ≡ 0 = eqb-true n 0 a in let y : n ≡ 1 = eqb-true n 1 b in omega (arith, x, y))
    go true false a b =
        let zero' : 0 ≡ n = sym (eqb-true n 0 a) in
        let header : cond (n == 1) 16 8 ≡ 8 = ap (λ t. cond t 16 8) b in
        let len : len_by (length rest) n (stated_long_size rest) ≡ length rest =
        ap (λ t. cond t (length rest) (cond (n == 1) (stated_long_size rest) n)) a in
        subst (λ (t : Bool). BeginsWith rest (cond (n == 1) 16 8) (cond t (length rest) (cond (n == 1) (stated_long_size rest) n)) (stated_kind rest) t) (sym a) (subst (λ (t : Bool). BeginsWith rest (cond t 16 8) (length rest) (stated_kind rest) true) (sym b)
        (begins to_end rest (stated_kind rest) (length rest) true eight (omega arith) (header_short rest 0 bytes eight zero') four refl (room 8 (length rest) header len) refl (λ e. refl)))
    go false true a b =
        let one : 1 ≡ n = sym (eqb-true n 1 b) in
        let header : cond (n == 1) 16 8 ≡ 16 = ap (λ t. cond t 16 8) b in
        let len : len_by (length rest) n (stated_long_size rest) ≡ stated_long_size rest =
        ap (λ t. cond t (length rest) (cond (n == 1) (stated_long_size rest) n)) a
        ∙ ap (λ t. cond t (stated_long_size rest) n) b in
        let wide : 16 ≤ stated_long_size rest =
        ltb-false (stated_long_size rest) 16 (and_second (n == 1) _ tests.3 b) in
        let within : stated_long_size rest ≤ length rest = inside (stated_long_size rest) len in
        subst (λ (t : Bool). BeginsWith rest (cond (n == 1) 16 8) (cond t (length rest) (cond (n == 1) (stated_long_size rest) n)) (stated_kind rest) t) (sym a) (subst (λ (t : Bool). BeginsWith rest (cond t 16 8) (cond t (stated_long_size rest) n) (stated_kind rest) false) (sym b)
        (begins long rest (stated_kind rest) (stated_long_size rest) false wide within
        (header_long rest (stated_long_size rest) bytes (omega (arith, wide, within)) one refl) four
        ((Decides-ltb (stated_long_size rest) (2 ^ 64)).1 (omega (arith, within, fits)))
        (room 16 (stated_long_size rest) header len) refl (λ e. absurd (cc (e)))))
    go false false a b =
        let header : cond (n == 1) 16 8 ≡ 8 = ap (λ t. cond t 16 8) b in
        let len : len_by (length rest) n (stated_long_size rest) ≡ n =
        ap (λ t. cond t (length rest) (cond (n == 1) (stated_long_size rest) n)) a
        ∙ ap (λ t. cond t (stated_long_size rest) n) b in
        let least : 8 ≤ n = sized n a b tests.2 in
        subst (λ (t : Bool). BeginsWith rest (cond (n == 1) 16 8) (cond t (length rest) (cond (n == 1) (stated_long_size rest) n)) (stated_kind rest) t) (sym a) (subst (λ (t : Bool). BeginsWith rest (cond t 16 8) (cond t (stated_long_size rest) n) (stated_kind rest) false) (sym b)
        (begins short rest (stated_kind rest) n false least (inside n len) (header_short rest n bytes eight refl) four ((Decides-ltb n (2 ^ 32)).1 (small_4 (take 4 rest) (bytes-take 4 rest bytes))) (room 8 n header len) refl (λ e. absurd (cc (e)))))
      where
        sized : (m : ℕ) → (m == 0) ≡ false → (m == 1) ≡ false → (leb 2 m && ltb m 8) ≡ false → 8 ≤ m
        sized zero e f h = absurd (cc (e))
        sized (suc zero) e f h = absurd (cc (f))
        sized (suc (suc m)) e f h =
            ltb-false (suc (suc m)) 8 (and_second (leb 2 (suc (suc m))) _ h (le-leb 2 (suc (suc m)) (omega arith)))
