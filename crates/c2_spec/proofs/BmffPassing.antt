-- A box that is spelled passes the tests of its header.
use Rattle.std.proofs.Common.{◌≡◌, ℕ, ◌+◌, ◌^◌, ◌≤◌, Bool, true, false, cond, ◌&&◌, List, [], ◌++◌, length, None, ltb, leb, ◌==◌, refl, sym, ap, ◌∙◌, arith, length-append}
use Rattle.std.specs.Str.{bytes_eq}
use Rattle.std.proofs.lemmas.Bool.Decides.{Decides-ltb}
use Rattle.std.proofs.lemmas.Nat.{from_be_bytes-to_be_bytes_4}
use Rattle.std.specs.Int.{w64, to_be_bytes}
use borrow.Author.Tests.{le-ltb, ne_eqb}
use Rattle.c2_base.specs.declared.media.MediaError.{MediaError}
use Rattle.c2_base.specs.declared.media.MediaError.TheVariants.{Truncated, BadBox}
use Rattle.c2_spec.specs.Bmff.Boxes.{SizeForm, short, long, to_end, Box, IsBox, box_bytes, is_to_end, uuid_kind, box_fault, stated_size, stated_long_size, stated_kind}
use Rattle.c2_spec.proofs.BmffOneList.{Tells, tells}
use Rattle.c2_spec.proofs.BmffTests.{by, six, len_by, file_by}
use Rattle.c2_lemmas.proofs.Bools.{and_unless}

-- six tests of which each fails have no fault
six_none : {A : Type 0} (a b c d e f : Bool) (x y : A) → a ≡ false → b ≡ false → c ≡ false → d ≡ false → e ≡ false
    → f ≡ false → six a b c d e f x y ≡ None
six_none false false false false false false x y p q r s t u = refl
six_none true b c d e f x y p q r s t u = absurd (cc (p))
six_none false true c d e f x y p q r s t u = absurd (cc (q))
six_none false false true d e f x y p q r s t u = absurd (cc (r))
six_none false false false true e f x y p q r s t u = absurd (cc (s))
six_none false false false false true f x y p q r s t u = absurd (cc (t))
six_none false false false false false true x y p q r s t u = absurd (cc (u))

-- sizes that pass: so long a header, so long a box, no size that is none, room for a user type
passes : (left size big header : ℕ) (kind : List ℕ) (x y : MediaError) → cond (size == 1) 16 8 ≡ header → 8 ≤ header
    → header ≤ len_by left size big → len_by left size big ≤ left
    → (leb 2 size ≡ true → 8 ≤ size) → ((size == 1) ≡ true → 16 ≤ big)
    → (bytes_eq kind uuid_kind ≡ true → header + 16 ≤ len_by left size big) → by left x y size big kind ≡ None
passes left size big header kind x y head least inside whole sized wide user =
    six_none (ltb left 8) (ltb left (cond (size == 1) 16 8)) (leb 2 size && ltb size 8) ((size == 1) && ltb big 16)
    (ltb left (len_by left size big))
    (bytes_eq kind uuid_kind && ltb (len_by left size big) (cond (size == 1) 16 8 + 16)) x y
    (le-ltb left 8 (omega (arith, least, inside, whole)))
    (le-ltb left (cond (size == 1) 16 8) (omega (arith, head, inside, whole)))
    (and_unless (leb 2 size) (ltb size 8) (λ e. le-ltb size 8 (sized e)))
    (and_unless (size == 1) (ltb big 16) (λ e. le-ltb big 16 (wide e)))
    (le-ltb left (len_by left size big) whole)
    (and_unless (bytes_eq kind uuid_kind) (ltb (len_by left size big) (cond (size == 1) 16 8 + 16)) (λ e. le-ltb (len_by left size big) (cond (size == 1) 16 8 + 16) (omega (arith, head, user e))))

-- a box of these parts, written short
abbrev box_of : SizeForm → List ℕ → List ℕ → Box
box_of form kind payload = record { form = form; kind = kind; payload = payload }

-- a box of type `uuid` has 16 bytes of payload at least, also by the type that its bytes state
user_room : (stated kind payload : List ℕ) → stated ≡ kind → (bytes_eq kind uuid_kind ≡ true → 16 ≤ length payload)
    → bytes_eq stated uuid_kind ≡ true → 16 ≤ length payload
user_room stated kind payload same h e = h (ap (λ (k : List ℕ). bytes_eq k uuid_kind) (sym same) ∙ e)

-- a box that is spelled passes, also the last, which runs to the end
pub box_passes : (form : SizeForm) (kind payload tail : List ℕ) → IsBox (box_of form kind payload)
    → (is_to_end form ≡ true → tail ≡ []) → (p : ℕ) → box_fault p (box_bytes (box_of form kind payload) ++ tail) ≡ None
box_passes short kind payload tail b ends p =
    let region : List ℕ = box_bytes (box_of short kind payload) ++ tail in
    let n : ℕ = 8 + length payload in
    let four : length kind ≡ 4 = b.kind in
    let parts : length (kind ++ payload ++ tail) ≡ length kind + length payload + length tail =
    length-append (kind ++ payload) tail ∙ ap (λ m. m + length tail) (length-append kind payload) in
    let whole : length region ≡ n + length tail = omega (arith, four, parts) in
    let size : stated_size region ≡ n = from_be_bytes-to_be_bytes_4 n ((Decides-ltb n (2 ^ 32)).0 b.fits) in
    let zero' : (n == 0) ≡ false = ne_eqb n 0 (λ e. omega (arith, e)) in
    let one' : (n == 1) ≡ false = ne_eqb n 1 (λ e. omega (arith, e)) in
    let one : (stated_size region == 1) ≡ false = ap (λ z. z == 1) size ∙ one' in
    let len : len_by (length region) (stated_size region) (stated_long_size region) ≡ n =
    ap (λ z. len_by (length region) z (stated_long_size region)) size
    ∙ ap (λ x. cond x (length region) (cond (n == 1) (stated_long_size region) n)) zero'
    ∙ ap (λ x. cond x (stated_long_size region) n) one' in
    let t : Tells region short kind payload = tells short kind payload tail b.kind b in
    file_by p region
    ∙ passes (length region) (stated_size region) (stated_long_size region) 8 (stated_kind region)
    (Truncated (p + length region)) (BadBox p) (ap (λ x. cond x 16 8) one) (omega arith) (omega (arith, len))
    (omega (arith, len, whole))
    (λ _. omega (arith, size)) (λ e. absurd (let bad = sym e ∙ one in cc (bad))) (λ e. omega (arith, len, user_room (stated_kind region) kind payload t.kind_is b.user_type e))
box_passes long kind payload tail b ends p =
    let region : List ℕ = box_bytes (box_of long kind payload) ++ tail in
    let n : ℕ = 16 + length payload in
    let four : length kind ≡ 4 = b.kind in
    let parts : length (kind ++ to_be_bytes w64 n ++ payload ++ tail)
    ≡ length kind + 8 + length payload + length tail =
    length-append (kind ++ to_be_bytes w64 n ++ payload) tail
    ∙ ap (λ m. m + length tail) (length-append (kind ++ to_be_bytes w64 n) payload
    ∙ ap (λ m. m + length payload) (length-append kind (to_be_bytes w64 n))) in
    let whole : length region ≡ n + length tail = omega (arith, four, parts) in
    let t : Tells region long kind payload = tells long kind payload tail b.kind b in
    let wide : stated_long_size region ≡ n = t.size_is refl in
    file_by p region
    ∙ passes (length region) (stated_size region) (stated_long_size region) 16 (stated_kind region)
    (Truncated (p + length region)) (BadBox p) refl (omega arith) (omega (arith, wide)) (omega (arith, wide, whole))
    (λ e. absurd (cc (e))) (λ _. omega (arith, wide))
    (λ e. omega (arith, wide, user_room (stated_kind region) kind payload t.kind_is b.user_type e))
box_passes to_end kind payload tail b ends p =
    let region : List ℕ = box_bytes (box_of to_end kind payload) ++ tail in
    let four : length kind ≡ 4 = b.kind in
    let parts : length (kind ++ payload ++ tail) ≡ length kind + length payload + length tail =
    length-append (kind ++ payload) tail ∙ ap (λ m. m + length tail) (length-append kind payload) in
    let whole : length region ≡ 8 + length payload + length tail = omega (arith, four, parts) in
    let t : Tells region to_end kind payload = tells to_end kind payload tail b.kind b in
    file_by p region
    ∙ passes (length region) (stated_size region) (stated_long_size region) 8 (stated_kind region)
    (Truncated (p + length region)) (BadBox p) refl (omega arith) (omega (arith, whole)) (omega arith)
    (λ e. absurd (cc (e))) (λ e. absurd (cc (e)))
    (λ e. omega (arith, whole, user_room (stated_kind region) kind payload t.kind_is b.user_type e))
