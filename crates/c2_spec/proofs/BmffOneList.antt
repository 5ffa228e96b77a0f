-- One list of bytes is the concatenation of one list of boxes.
use Rattle.std.proofs.Common.{◌≡◌, ℕ, ◌+◌, ◌^◌, ◌<◌, Bool, true, false, cond, List, [], ◌∷◌, ◌++◌, length, take, drop, ◌==◌, refl, sym, ap, ap₂, ◌∙◌, subst, arith, length-append}
use Rattle.std.proofs.lemmas.Bool.Decides.{Decides-ltb}
use Rattle.std.proofs.lemmas.List.{take_at, append_cancel_left, append_assoc}
use Rattle.std.proofs.lemmas.Nat.{from_be_bytes-to_be_bytes_4, from_be_bytes-to_be_bytes_8}
use Rattle.std.specs.Int.{w64, from_be_bytes, to_be_bytes}
use Rattle.std.specs.List.{flat_map}
use borrow.Author.Tests.{ne_eqb}
use Rattle.c2_spec.specs.Bmff.Boxes.{SizeForm, short, long, to_end, Box, IsBox, AreBoxForms, HasRoots, box_bytes, box_len, header_len, header_bytes, is_to_end, stated_size, stated_long_size, stated_kind}

-- how a box says its size, by the number in its first four bytes
abbrev pub form_by : ℕ → SizeForm
form_by size = cond (size == 0) to_end (cond (size == 1) long short)

-- what the first bytes of a box state of it: how it says its size, its type, and the size where one is said
pub record Tells (region : List ℕ) (form : SizeForm) (kind payload : List ℕ) : Type 0 where
  pub form_is : form_by (stated_size region) ≡ form
  pub kind_is : stated_kind region ≡ kind
  pub size_is : is_to_end form ≡ false
      → cond (stated_size region == 1) (stated_long_size region) (stated_size region) ≡ header_len form + length payload

-- four bytes of a type come first, whatever follows
pub kind_first : (kind more : List ℕ) → length kind ≡ 4 → take 4 (kind ++ more) ≡ kind
kind_first kind more h = take_at kind more 4 h

-- the eight bytes after the type give the 64-bit size that was written there
pub long_first : (size : ℕ) (kind more : List ℕ) → length kind ≡ 4 → size < 2 ^ 64
    → from_be_bytes w64 (take 8 (drop 4 (kind ++ to_be_bytes w64 size ++ more))) ≡ size
long_first size (a ∷ b ∷ c ∷ d ∷ []) more h s = from_be_bytes-to_be_bytes_8 size s
long_first size [] more h s = absurd (cc (h))
long_first size (a ∷ []) more h s = absurd (cc (h))
long_first size (a ∷ b ∷ []) more h s = absurd (cc (h))
long_first size (a ∷ b ∷ c ∷ []) more h s = absurd (cc (h))
long_first size (a ∷ b ∷ c ∷ d ∷ e ∷ es) more h s = absurd (cc (h))

-- the first bytes of a box that is spelled give how it says its size, its type and its size
pub tells : (form : SizeForm) (kind payload tail : List ℕ) → length kind ≡ 4
    → IsBox (record { form = form; kind = kind; payload = payload })
    → Tells (box_bytes (record { form = form; kind = kind; payload = payload }) ++ tail) form kind payload
tells short kind payload tail k b =
    let n : ℕ = 8 + length payload in
    let small : n < 2 ^ 32 = (Decides-ltb n (2 ^ 32)).0 b.fits in
    let size : stated_size (box_bytes (record { form = short; kind = kind; payload = payload }) ++ tail) ≡ n =
    from_be_bytes-to_be_bytes_4 n small in
    let zero' : (n == 0) ≡ false = ne_eqb n 0 (λ e. omega (arith, e)) in
    let one' : (n == 1) ≡ false = ne_eqb n 1 (λ e. omega (arith, e)) in
    record {
      form_is =
          ap form_by size ∙ ap (λ x. cond x to_end (cond (n == 1) long short)) zero' ∙ ap (λ x. cond x long short) one';
      kind_is = ap (take 4) (append_assoc kind payload tail) ∙ kind_first kind (payload ++ tail) k;
      size_is =
          λ _. ap (λ z. cond (z == 1) (stated_long_size (box_bytes (record { form = short; kind = kind; payload = payload }) ++ tail)) z) size
          ∙ ap
          (λ x. cond x (stated_long_size (box_bytes (record { form = short; kind = kind; payload = payload }) ++ tail)) n)
          one';
    }
tells long kind payload tail k b =
    let n : ℕ = 16 + length payload in
    let small : n < 2 ^ 64 = (Decides-ltb n (2 ^ 64)).0 b.fits in
    let whole : kind ++ to_be_bytes w64 n ++ payload ++ tail ≡ kind ++ to_be_bytes w64 n ++ (payload ++ tail) =
    append_assoc (kind ++ to_be_bytes w64 n) payload tail in
    record {
      form_is = refl;
      kind_is =
          ap (take 4) (whole ∙ append_assoc kind (to_be_bytes w64 n) (payload ++ tail))
          ∙ kind_first kind (to_be_bytes w64 n ++ (payload ++ tail)) k;
      size_is =
          λ _. ap (λ (z : List ℕ). from_be_bytes w64 (take 8 (drop 4 z))) whole
          ∙ long_first n kind (payload ++ tail) k small;
    }
tells to_end kind payload tail k b =
    record
    { form_is = refl; kind_is = ap (take 4) (append_assoc kind payload tail) ∙ kind_first kind (payload ++ tail) k; size_is = λ e. absurd (cc (e)) }

-- a box of these parts, written short
abbrev box_of : SizeForm → List ℕ → List ℕ → Box
box_of form kind payload = record { form = form; kind = kind; payload = payload }

-- where a box says no size, its header has none
open_header : (form : SizeForm) (m n : ℕ) (kind : List ℕ) → is_to_end form ≡ true
    → header_bytes form m kind ≡ header_bytes form n kind
open_header short m n kind e = absurd (cc (e))
open_header long m n kind e = absurd (cc (e))
open_header to_end m n kind e = refl

-- boxes of one form and one type, and of one size where they say one, have equal headers
same_header : (b c : Box) → b.form ≡ c.form → b.kind ≡ c.kind → (is_to_end b.form ≡ false → box_len b ≡ box_len c)
    → header_bytes b.form (box_len b) b.kind ≡ header_bytes c.form (box_len c) c.kind
same_header b c form kind len = by (is_to_end b.form) refl ∙ ap₂ (λ (f : SizeForm) (k : List ℕ). header_bytes f (box_len c) k) form kind
  where
    by : (t : Bool) → is_to_end b.form ≡ t
        → header_bytes b.form (box_len b) b.kind ≡ header_bytes b.form (box_len c) b.kind
    by true e = open_header b.form (box_len b) (box_len c) b.kind e
    by false e = ap (λ n. header_bytes b.form n b.kind) (len e)

-- bytes that begin with two boxes begin with one: the boxes and what follows them are equal
pub box_once : (b c : Box) (x y : List ℕ) → IsBox b → IsBox c → (is_to_end b.form ≡ true → x ≡ [])
    → (is_to_end c.form ≡ true → y ≡ []) → box_bytes b ++ x ≡ box_bytes c ++ y → (b ≡ c) × (x ≡ y)
box_once b c x y h k ends ends' e =
    let t : Tells (box_bytes b ++ x) b.form b.kind b.payload = tells b.form b.kind b.payload x h.kind h in
    let u : Tells (box_bytes b ++ x) c.form c.kind c.payload =
    subst (λ (z : List ℕ). Tells z c.form c.kind c.payload) (sym e) (tells c.form c.kind c.payload y k.kind k) in
    let form : b.form ≡ c.form = sym t.form_is ∙ u.form_is in
    let kind : b.kind ≡ c.kind = sym t.kind_is ∙ u.kind_is in
    let len : is_to_end b.form ≡ false → box_len b ≡ box_len c =
    λ s. sym (t.size_is s) ∙ u.size_is (ap is_to_end (sym form) ∙ s) in
    let header = same_header b c form kind len in
    let both =
    sym (append_assoc (header_bytes b.form (box_len b) b.kind) b.payload x) ∙ e
    ∙ append_assoc (header_bytes c.form (box_len c) c.kind) c.payload y
    ∙ ap (λ (z : List ℕ). z ++ (c.payload ++ y)) (sym header) in
    let more : b.payload ++ x ≡ c.payload ++ y =
    append_cancel_left (header_bytes b.form (box_len b) b.kind) (b.payload ++ x) (c.payload ++ y) both in
    let sizes : length b.payload ≡ length c.payload = by_end b c x y form len ends ends' more in
    let payload : b.payload ≡ c.payload = sym (take_at b.payload x (length b.payload) refl) ∙ ap (take (length b.payload)) more ∙ take_at c.payload y (length b.payload) (sym sizes) in (
      ap (λ (f : SizeForm). box_of f b.kind b.payload) form ∙ ap (λ (z : List ℕ). box_of c.form z b.payload) kind ∙ ap (λ (z : List ℕ). box_of c.form c.kind z) payload,
      append_cancel_left b.payload x y (more ∙ ap (λ (z : List ℕ). z ++ y) (sym payload)),
    )
  where
    by_end : (b c : Box) (x y : List ℕ) → b.form ≡ c.form → (is_to_end b.form ≡ false → box_len b ≡ box_len c)
        → (is_to_end b.form ≡ true → x ≡ []) → (is_to_end c.form ≡ true → y ≡ []) → b.payload ++ x ≡ c.payload ++ y
        → length b.payload ≡ length c.payload
    by_end b c x y form len ends ends' more = go (is_to_end b.form) refl
      where
        go : (t : Bool) → is_to_end b.form ≡ t → length b.payload ≡ length c.payload
        go true s =
            let l : length b.payload + length x ≡ length c.payload + length y =
            sym (length-append b.payload x) ∙ ap length more ∙ length-append c.payload y in
            let none : length x ≡ 0 = ap length (ends s) in
            let none' : length y ≡ 0 = ap length (ends' (ap is_to_end (sym form) ∙ s)) in
            omega (arith, l, none, none')
        go false s = let headers : header_len b.form ≡ header_len c.form = ap header_len form in let sizes : header_len b.form + length b.payload ≡ header_len c.form + length c.payload = len s in omega (arith, sizes, headers)

-- ---- lists of boxes

-- a box has bytes
pub no_bytes : (form : SizeForm) (kind payload x : List ℕ) → [] ≡ box_bytes (box_of form kind payload) ++ x → ⊥
no_bytes short kind payload x e = cc (e)
no_bytes long kind payload x e = cc (e)
no_bytes to_end kind payload x e = cc (e)

-- the first of boxes in their forms is a box
pub first_box : (b : Box) (bs : List Box) → AreBoxForms (b ∷ bs) → IsBox b
first_box b [] f = f
first_box b (c ∷ cs) f = f.0.is_box

-- the boxes after the first of boxes in their forms are in their forms too
pub other_boxes : (b : Box) (bs : List Box) → AreBoxForms (b ∷ bs) → AreBoxForms bs
other_boxes b [] f = tt
other_boxes b (c ∷ cs) f = f.1

-- nothing follows a box that runs to the end
pub none_after : (b : Box) (bs : List Box) → AreBoxForms (b ∷ bs) → is_to_end b.form ≡ true → flat_map box_bytes bs ≡ []
none_after b [] f e = refl
none_after b (c ∷ cs) f e = absurd (let bad = sym e ∙ f.0.sized in cc (bad))

-- bytes are the concatenation of one list of boxes
pub lists_once : (bs cs : List Box) → AreBoxForms bs → AreBoxForms cs → flat_map box_bytes bs ≡ flat_map box_bytes cs
    → bs ≡ cs
lists_once [] [] f g e = refl
lists_once [] (c ∷ cs) f g e = absurd (no_bytes c.form c.kind c.payload (flat_map box_bytes cs) e)
lists_once (b ∷ bs) [] f g e = absurd (no_bytes b.form b.kind b.payload (flat_map box_bytes bs) (sym e))
lists_once (b ∷ bs) (c ∷ cs) f g e =
    let one =
    box_once b c (flat_map box_bytes bs) (flat_map box_bytes cs) (first_box b bs f) (first_box c cs g)
    (none_after b bs f) (none_after c cs g) e in
    ap₂ (λ (x : Box) (xs : List Box). x ∷ xs) one.0 (lists_once bs cs (other_boxes b bs f) (other_boxes c cs g) one.1)

-- a file has one list of root boxes
pub roots_once : (file : List ℕ) (a b : List Box) → HasRoots file a → HasRoots file b → a ≡ b
roots_once file a b h k = lists_once a b h.forms k.forms (sym h.bytes ∙ k.bytes)
