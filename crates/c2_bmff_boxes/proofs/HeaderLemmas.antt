-- The first 16 bytes of what is left of a file tell what a box's tests ask for.
use Rattle.std.proofs.Common.{◌≡◌, ℕ, ◌+◌, ◌-◌, ◌<◌, ◌≤◌, ⊎_elim, min, zero, suc, Bool, true, false, cond, ◌&&◌, List, [], ◌∷◌, length, take, drop, Option, Some, None, option_map, ltb, leb, ◌==◌, refl, sym, ap, ap₂, ◌∙◌, arith}
use Rattle.std.proofs.lemmas.Bool.{lt-ltb, le-ltb, cases_lt}
use Rattle.std.proofs.lemmas.List.{drop-take, take-take}
use Rattle.std.specs.Int.{w32, w64, from_be_bytes}
use Rattle.std.specs.Str.{bytes_eq}
use Rattle.c2_base.specs.declared.media.MediaError.{MediaError}
use Rattle.c2_spec.specs.Bmff.Boxes.{box_fault, stated_size, stated_long_size, stated_kind, stated_header_len, uuid_kind}
use Rattle.c2_spec.proofs.BmffTests.{six, len_by, by, file_by}
use Rattle.c2_bmff_boxes.specs.Headers.{head_fault, header_fault, header_total, IsBoxHead, IsHeader, lacks_user_type}
use Rattle.c2_bmff_boxes.specs.Heads.{IsHead, media_error}
use Rattle.c2_bmff_boxes.specs.declared.header.BoxHead.{BoxHead}
use Rattle.c2_bmff_boxes.specs.declared.header.HeadError.{HeadError}
use Rattle.c2_bmff_boxes.specs.declared.header.HeadError.TheVariants.{Short, Bad}

-- a piece of the first 16 bytes
piece : (from count : ℕ) (rest : List ℕ) → from + count ≤ 16
    → take count (drop from (take 16 rest)) ≡ take count (drop from rest)
piece from count rest h =
    let m : 16 ≡ from + (16 - from) = omega (arith, h) in
    ap (λ n. take count (drop from (take n rest))) m ∙ ap (take count) (drop-take from (16 - from) rest)
    ∙ take-take count (16 - from) (drop from rest) (omega (arith, h))

-- six tests whose two errors are mapped find the mapped error of the same test
mapped : (g : HeadError → MediaError) (a b c d e f : Bool)
    → six a b c d e f (g Short) (g Bad) ≡ option_map g (six a b c d e f Short Bad)
mapped g true b c d e f = refl
mapped g false true c d e f = refl
mapped g false false true d e f = refl
mapped g false false false true e f = refl
mapped g false false false false true f = refl
mapped g false false false false false true = refl
mapped g false false false false false false = refl

-- the first header test that fails is that of the six tests, by the numbers that the header states
header_by : (left : ℕ) (bytes : List ℕ)
    → header_fault left bytes ≡ by left Short Bad (stated_size bytes) (stated_long_size bytes) (stated_kind bytes)
unfolding header_fault
header_by left bytes = refl

-- the first 16 bytes state the size that the rest of the file does
size_same : (rest : List ℕ) → stated_size (take 16 rest) ≡ stated_size rest
size_same rest = ap (from_be_bytes w32) (piece 0 4 rest (omega arith))

-- the first 16 bytes state the type that the rest of the file does
kind_same : (rest : List ℕ) → stated_kind (take 16 rest) ≡ stated_kind rest
kind_same rest = piece 4 4 rest (omega arith)

-- the first 16 bytes state the size of 8 bytes that all bytes state
long_same : (rest : List ℕ) → stated_long_size (take 16 rest) ≡ stated_long_size rest
long_same rest = ap (from_be_bytes w64) (piece 8 8 rest (omega arith))

-- with errors of the file in place of the header's, the same test of the header is the first to fail
by_mapped : (g : HeadError → MediaError) (left size long : ℕ) (kind : List ℕ)
    → by left (g Short) (g Bad) size long kind ≡ option_map g (by left Short Bad size long kind)
by_mapped g left size long kind =
    mapped g (ltb left 8) (ltb left (cond (size == 1) 16 8)) (leb 2 size && ltb size 8) ((size == 1) && ltb long 16)
    (ltb left (len_by left size long))
    (bytes_eq kind uuid_kind && ltb (len_by left size long) (cond (size == 1) 16 8 + 16))

-- a box fails at its place as its first 16 bytes do, with the error of the file
pub same_fault : (p : ℕ) (rest : List ℕ)
    → box_fault p rest ≡ option_map (media_error p (length rest)) (header_fault (length rest) (take 16 rest))
same_fault p rest =
    file_by p rest
    ∙ by_mapped (media_error p (length rest)) (length rest) (stated_size rest) (stated_long_size rest)
    (stated_kind rest)
    ∙ ap (option_map (media_error p (length rest)))
    (ap (λ n. by (length rest) Short Bad n (stated_long_size rest) (stated_kind rest)) (sym (size_same rest))
    ∙ ap (λ n. by (length rest) Short Bad (stated_size (take 16 rest)) n (stated_kind rest)) (sym (long_same rest))
    ∙ ap (λ k. by (length rest) Short Bad (stated_size (take 16 rest)) (stated_long_size (take 16 rest)) k)
    (sym (kind_same rest))
    ∙ sym (header_by (length rest) (take 16 rest)))

-- what the first 16 bytes tell of a header that passes holds of the box at its place in the file
pub head_of : (p : ℕ) (rest bytes : List ℕ) (left : ℕ) (h : BoxHead) → bytes ≡ take 16 rest → left ≡ length rest
    → IsHeader left bytes h → IsHead p rest h
head_of p rest bytes left h b l f =
    let good : header_fault (length rest) (take 16 rest) ≡ None = sym (ap₂ header_fault l b) ∙ f.good in
    record {
      good = same_fault p rest ∙ ap (option_map (media_error p (length rest))) good;
      header = f.header ∙ ap (λ (x : List ℕ). stated_header_len x) b ∙ ap (λ n. cond (n == 1) 16 8) (size_same rest);
      length = f.length ∙ ap₂ header_total l b ∙ ap₂ (len_by (length rest)) (size_same rest) (long_same rest);
      kind = f.kind ∙ ap stated_kind b ∙ kind_same rest;
      to_end = f.to_end ∙ ap (λ (x : List ℕ). stated_size x == 0) b ∙ ap (λ n. n == 0) (size_same rest);
    }

-- where the first 16 bytes fail a test, the box at its place fails with that test's error of the file
pub fault_of : (p : ℕ) (rest bytes : List ℕ) (left : ℕ) (e : HeadError) → bytes ≡ take 16 rest → left ≡ length rest
    → header_fault left bytes ≡ Some e → box_fault p rest ≡ Some (media_error p (length rest) e)
fault_of p rest bytes left e b l f =
    same_fault p rest ∙ ap (option_map (media_error p (length rest))) (sym (ap₂ header_fault l b) ∙ f)

-- two fronts of a list are one, where the list ends in the shorter
pub same_take : (n m : ℕ) (xs : List ℕ) → n ≤ m → (n < m → length xs ≤ n) → take n xs ≡ take m xs
same_take zero zero xs h k = refl
same_take zero (suc m) [] h k = refl
same_take zero (suc m) (x ∷ xs) h k = absurd (omega (arith, k (omega arith)))
same_take (suc n) zero xs h k = absurd (omega (arith, h))
same_take (suc n) (suc m) [] h k = refl
same_take (suc n) (suc m) (x ∷ xs) h k =
    ap (λ (ys : List ℕ). x ∷ ys) (same_take n m xs (omega (arith, h)) (λ lt. omega (arith, k (omega (arith, lt)))))

-- ---- the header alone, and the box

-- the first of five tests that fails
five : Bool → Bool → Bool → Bool → Bool → Option HeadError
five a b c d e =
    cond a (Some Short) (cond b (Some Short) (cond c (Some Bad) (cond d (Some Bad) (cond e (Some Short) None))))

-- where one of them fails, it is the first of six
five_some : (a b c d e f : Bool) (x : HeadError) → five a b c d e ≡ Some x → six a b c d e f Short Bad ≡ Some x
unfolding five
five_some true b c d e f x h = h
five_some false true c d e f x h = h
five_some false false true d e f x h = h
five_some false false false true e f x h = h
five_some false false false false true f x h = h
five_some false false false false false f x h = absurd (cc (h))

-- where none fails, the sixth decides
five_none : (a b c d e f : Bool) → five a b c d e ≡ None → six a b c d e f Short Bad ≡ cond f (Some Bad) None
unfolding five
five_none true b c d e f h = absurd (cc (h))
five_none false true c d e f h = absurd (cc (h))
five_none false false true d e f h = absurd (cc (h))
five_none false false false true e f h = absurd (cc (h))
five_none false false false false true f h = absurd (cc (h))
five_none false false false false false f h = refl

-- the first 16 bytes are too few for a header where those that are left are
few_same : (count left n : ℕ) → count ≡ min 16 left → n ≤ 16 → ltb (min count left) n ≡ ltb left n
few_same count left n e small = ⊎_elim
    (λ l. lt-ltb (min count left) n (omega (arith, l)) ∙ sym (lt-ltb left n l))
    (λ g. le-ltb (min count left) n (omega (arith, g, e, small)) ∙ sym (le-ltb left n g))
    (cases_lt left n)

-- a header has at most 16 bytes
most_header : (t : Bool) → cond t 16 8 ≤ 16
most_header true = omega arith
most_header false = omega arith

-- a size of four bytes can't be
abbrev few_sized : List ℕ → Bool
few_sized bytes = leb 2 (stated_size bytes) && ltb (stated_size bytes) 8

-- nor can one of eight
abbrev few_wide : List ℕ → Bool
few_wide bytes = (stated_size bytes == 1) && ltb (stated_long_size bytes) 16

-- a `uuid` box has no room for its user type
abbrev few_uuid : ℕ → List ℕ → Bool
few_uuid left bytes =
    bytes_eq (stated_kind bytes) uuid_kind && ltb (header_total left bytes) (stated_header_len bytes + 16)

-- the five tests of the header alone, over the first 16 of the bytes that are left
head_by : (left : ℕ) (bytes : List ℕ) → length bytes ≡ min 16 left
    → head_fault left bytes
    ≡ five (ltb left 8) (ltb left (stated_header_len bytes)) (few_sized bytes) (few_wide bytes)
    (ltb left (header_total left bytes))
unfolding head_fault five
head_by left bytes first =
    ap₂ (λ (a b : Bool). five a b (few_sized bytes) (few_wide bytes) (ltb left (header_total left bytes)))
    (few_same (length bytes) left 8 first (omega arith))
    (few_same (length bytes) left (stated_header_len bytes) first (most_header (stated_size bytes == 1)))

-- a header that fails is a box that fails
pub box_of_bad : (left : ℕ) (bytes : List ℕ) (e : HeadError) → length bytes ≡ min 16 left
    → head_fault left bytes ≡ Some e → header_fault left bytes ≡ Some e
box_of_bad left bytes e first fails =
    header_by left bytes
    ∙ five_some (ltb left 8) (ltb left (stated_header_len bytes)) (few_sized bytes) (few_wide bytes)
    (ltb left (header_total left bytes)) (few_uuid left bytes) e (sym (head_by left bytes first) ∙ fails)

-- fewer than 16 bytes stand after the header
few_after : (n m : ℕ) → m ≤ n → ltb n (m + 16) ≡ ltb (n - m) 16
few_after n m least = ⊎_elim
    (λ l. lt-ltb n (m + 16) (omega (arith, l, least)) ∙ sym (lt-ltb (n - m) 16 l))
    (λ g. le-ltb n (m + 16) (omega (arith, g, least)) ∙ sym (le-ltb (n - m) 16 g))
    (cases_lt (n - m) 16)

-- a header that passes is a box that passes but for the user type of a `uuid` box
pub box_of_good : (left : ℕ) (bytes : List ℕ) (h : BoxHead) (t : Bool) → length bytes ≡ min 16 left
    → IsBoxHead left bytes h → lacks_user_type h ≡ t → header_fault left bytes ≡ cond t (Some Bad) None
box_of_good left bytes h t first is e =
    let lacks : few_uuid left bytes ≡ lacks_user_type h =
    ap₂ (λ (k : List ℕ) (n : ℕ). bytes_eq k uuid_kind && ltb n (stated_header_len bytes + 16)) (sym is.kind)
    (sym is.length)
    ∙ ap (λ (n : ℕ). bytes_eq h.kind uuid_kind && ltb h.length (n + 16)) (sym is.header)
    ∙ ap (λ (b : Bool). bytes_eq h.kind uuid_kind && b) (few_after h.length h.header is.least) in
    header_by left bytes
    ∙ five_none (ltb left 8) (ltb left (stated_header_len bytes)) (few_sized bytes) (few_wide bytes)
    (ltb left (header_total left bytes)) (few_uuid left bytes) (sym (head_by left bytes first) ∙ is.good)
    ∙ ap (λ (b : Bool). cond b (Some Bad) None) (lacks ∙ e)
