-- The tests of a box at the rest of a file, by the numbers that they ask for.
use Rattle.std.proofs.Common.{◌≡◌, ℕ, ◌+◌, Bool, cond, ◌&&◌, List, length, Option, Some, None, ltb, leb, ◌==◌, refl}
use Rattle.std.specs.Str.{bytes_eq}
use Rattle.c2_base.specs.declared.media.MediaError.TheVariants.{Truncated, BadBox}
use Rattle.c2_spec.specs.Bmff.Boxes.{box_fault, stated_size, stated_long_size, stated_kind, uuid_kind}

-- six tests in their order
abbrev pub six : {A : Type 0} → Bool → Bool → Bool → Bool → Bool → Bool → A → A → Option A
six a b c d e f x y =
    cond a (Some x) (cond b (Some x) (cond c (Some y) (cond d (Some y) (cond e (Some x) (cond f (Some y) None)))))

-- the size of a box, by the numbers in its header
abbrev pub len_by : ℕ → ℕ → ℕ → ℕ
len_by left size long = cond (size == 0) left (cond (size == 1) long size)

-- the six tests, by these numbers
abbrev pub by : {A : Type 0} → ℕ → A → A → ℕ → ℕ → List ℕ → Option A
by left x y size long kind =
    six (ltb left 8) (ltb left (cond (size == 1) 16 8)) (leb 2 size && ltb size 8) ((size == 1) && ltb long 16)
    (ltb left (len_by left size long))
    (bytes_eq kind uuid_kind && ltb (len_by left size long) (cond (size == 1) 16 8 + 16)) x y

-- the tests of a box are these
pub file_by : (p : ℕ) (rest : List ℕ)
    → box_fault p rest ≡ by (length rest) (Truncated (p + length rest)) (BadBox p) (stated_size rest) (stated_long_size rest) (stated_kind rest)
unfolding box_fault
file_by p rest = refl
