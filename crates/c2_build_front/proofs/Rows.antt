-- The first root box, by its row.
use Rattle.std.proofs.Common.{◌≡◌, ℕ, ◌≤◌, Bool, true, false, cond, List, [], ◌∷◌, length, Option, Some, None, refl, sym, ap, ◌∙◌, get_or, append-nil, arith}
use Rattle.std.specs.Prelude.{option_map}
use Rattle.std.specs.Option.{option_to_list}
use Rattle.c2_spec.specs.Bmff.Boxes.{Box, HasRoots, box_bytes, box_len, is_to_end}
use Rattle.c2_spec.proofs.BmffOneList.{first_box}
use Rattle.c2_spec.proofs.BmffSizes.{bytes_size}
use Rattle.c2_bmff_rows.specs.Rows.{rows_of}
use Rattle.c2_bmff_rows.specs.declared.row.RootBox.{RootBox}
use Rattle.c2_new_front_spec.specs.InFront.{front_place, open_first}
use Rattle.c2_new_front_spec.specs.Order.{open_box}
use Rattle.c2_build_refusals.specs.declared.error.BuildError.TheVariants as build
use Rattle.c2_build_front.specs.Steps.{IsFirstError}

-- a row that stands first among rows
pub first_row : (rows : List RootBox) (r : RootBox) → 1 ≤ length rows → r ≡ get_or rows 0 r
    → (rest : List RootBox) × (rows ≡ r ∷ rest)
first_row [] r l e = absurd (omega (arith, l))
first_row (x ∷ xs) r l e = (xs, ap (λ (z : RootBox). z ∷ xs) (sym e))

-- rows of no boxes are none
pub none_passes : (rows : List RootBox) (boxes : List Box) → length rows ≡ 0 → rows ≡ rows_of boxes
    → (open_first boxes ≡ None) × (0 ≡ front_place boxes)
none_passes rows [] none is = (refl, refl)
none_passes rows (b ∷ bs) none is =
    absurd (let bad : length rows ≡ length (rows_of (b ∷ bs)) = ap length is in omega (arith, bad, none))

-- the first box of rows that begin with this one
data IsFirst (r : RootBox) (boxes : List Box) : Type 0 where
  first : (b : Box) (bs : List Box) → boxes ≡ b ∷ bs → r.length ≡ box_len b → r.to_end ≡ is_to_end b.form
      → IsFirst r boxes

-- rows that begin with this one are those of boxes with a first box
is_first : (rows : List RootBox) (r : RootBox) (rest : List RootBox) (boxes : List Box) → rows ≡ r ∷ rest
    → rows ≡ rows_of boxes → IsFirst r boxes
is_first rows r rest [] at is = absurd (let bad : length rows ≡ length (r ∷ rest) = ap length at in let none : length rows ≡ 0 = ap length is in omega (arith, bad, none))
is_first rows r rest (b ∷ bs) at is =
    let same : r ∷ rest ≡ rows_of (b ∷ bs) = sym at ∙ is in
    first b bs refl (let n : r.length ≡ box_len b = ap row_len (ap (head_or r) same) in n) (let t : r.to_end ≡ is_to_end b.form = ap row_end (ap (head_or r) same) in t)
  where
    head_or : RootBox → List RootBox → RootBox
    head_or d [] = d
    head_or d (x ∷ xs) = x

    row_len : RootBox → ℕ
    row_len x = x.length

    row_end : RootBox → Bool
    row_end x = x.to_end

-- where the first root box says its size, it ends where the first box of the file does
pub first_passes : (rows : List RootBox) (r : RootBox) (rest : List RootBox) (file : List ℕ) (boxes : List Box)
    → rows ≡ r ∷ rest → HasRoots file boxes → rows ≡ rows_of boxes → r.to_end ≡ false
    → (open_first boxes ≡ None) × (r.length ≡ front_place boxes)
first_passes rows r rest file boxes at has is sized = by boxes has (is_first rows r rest boxes at is)
  where
    by : (xs : List Box) → HasRoots file xs → IsFirst r xs → (open_first xs ≡ None) × (r.length ≡ front_place xs)
    by [] h (first b bs same n t) = absurd (cc (same))
    by (x ∷ xs) h (first b bs same n t) =
        let one : x ≡ b = cc (same) in
        let closed : is_to_end x.form ≡ false = ap (λ (y : Box). is_to_end y.form) one ∙ sym t ∙ sized in
        let len : front_place (x ∷ xs) ≡ box_len x =
        ap length (append-nil (box_bytes x)) ∙ bytes_size x (first_box x xs h.forms) in
        (ap (λ (q : Bool). cond {A = Option ℕ} q (Some 0) None) closed, n ∙ ap box_len (sym one) ∙ sym len)

-- where the first root box doesn't say its size, it is refused
pub first_refused : (rows : List RootBox) (r : RootBox) (rest : List RootBox) (boxes : List Box) → rows ≡ r ∷ rest
    → rows ≡ rows_of boxes → r.to_end ≡ true
    → IsFirstError (option_to_list (option_map open_box (open_first boxes))) (build.OpenBox 0)
first_refused rows r rest boxes at is unsized = by boxes (is_first rows r rest boxes at is)
  where
    by : (xs : List Box) → IsFirst r xs
        → IsFirstError (option_to_list (option_map open_box (open_first xs))) (build.OpenBox 0)
    by [] (first b bs same n t) = absurd (cc (same))
    by (x ∷ xs) (first b bs same n t) =
        let one : x ≡ b = cc (same) in
        let unsaid : is_to_end x.form ≡ true = ap (λ (y : Box). is_to_end y.form) one ∙ sym t ∙ unsized in
        (open_box 0, [], ap (λ (q : Bool). option_to_list (option_map open_box (cond {A = Option ℕ} q (Some 0) None))) unsaid, refl)

-- an open root box that is read first is refused
pub told_refused : (rows : List RootBox) (d : RootBox) (boxes : List Box) → 1 ≤ length rows → rows ≡ rows_of boxes
    → (get_or rows 0 d).to_end ≡ true
    → IsFirstError (option_to_list (option_map open_box (open_first boxes))) (build.OpenBox 0)
told_refused [] d boxes some is unsized = absurd (omega (arith, some))
told_refused (r ∷ rest) d boxes some is unsized = first_refused (r ∷ rest) r rest boxes refl is unsized
