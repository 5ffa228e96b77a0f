-- A file with a box freed is that of its boxes with that one freed.
use Rattle.std.proofs.Common.{◌≡◌, ℕ, ◌+◌, ◌-◌, List, ◌++◌, length, refl, sym, ap, ap₂, ◌∙◌, arith, append_assoc, length-append}
use Rattle.std.specs.Prelude.{replicate, codes}
use Rattle.std.specs.Int.{w32, w64, to_be_bytes}
use Rattle.std.proofs.lemmas.List.{length-replicate}
use Rattle.c2_spec.specs.Bmff.Boxes.{SizeForm, short, long, to_end, Box, IsBox, box_bytes, box_len, header_bytes, header_len}
use Rattle.c2_spec.specs.Bmff.Writing.{freed}
use Rattle.c2_spec.proofs.BmffSizes.{header_size}
use Rattle.c2_bmff_rows.specs.declared.row.RootBox.{RootBox}
use Rattle.c2_without_store.specs.Clears.{freed_in, written_at}
use Rattle.c2_without_store.specs.Written.{put_over}
use Rattle.c2_bmff_insert_spec.proofs.Bases.{freed_len}

-- the type of free space
abbrev free_kind : List ℕ
free_kind = codes "free"

-- a type behind four bytes is replaced
type_put : (front a kind rest : List ℕ) → length a ≡ 4 → length kind ≡ 4
    → written_at (length front + 4) free_kind (front ++ (a ++ (kind ++ rest))) ≡ front ++ (a ++ (free_kind ++ rest))
type_put front a kind rest four size =
    ap (written_at (length front + 4) free_kind) (sym (append_assoc front a (kind ++ rest)))
    ∙ put_over (length front + 4) (front ++ a) kind free_kind rest (omega (arith, four, length-append front a)) size
    ∙ append_assoc front a (free_kind ++ rest)

-- the type in a header is replaced
kind_put : (front : List ℕ) (f : SizeForm) (n : ℕ) (kind back : List ℕ) → length kind ≡ 4
    → written_at (length front + 4) free_kind (front ++ (header_bytes f n kind ++ back)) ≡ front ++ (header_bytes f n free_kind ++ back)
kind_put front short n kind back four =
    ap (λ (xs : List ℕ). written_at (length front + 4) free_kind (front ++ xs))
    (append_assoc (to_be_bytes w32 n) kind back)
    ∙ type_put front (to_be_bytes w32 n) kind back refl four
    ∙ ap (λ (xs : List ℕ). front ++ xs) (sym (append_assoc (to_be_bytes w32 n) free_kind back))
kind_put front long n kind back four =
    let split : (k : List ℕ)
    → (to_be_bytes w32 1 ++ (k ++ to_be_bytes w64 n)) ++ back
    ≡ to_be_bytes w32 1 ++ (k ++ (to_be_bytes w64 n ++ back)) =
    λ k. append_assoc (to_be_bytes w32 1) (k ++ to_be_bytes w64 n) back
    ∙ ap (λ (xs : List ℕ). to_be_bytes w32 1 ++ xs) (append_assoc k (to_be_bytes w64 n) back) in
    ap (λ (xs : List ℕ). written_at (length front + 4) free_kind (front ++ xs)) (split kind)
    ∙ type_put front (to_be_bytes w32 1) kind (to_be_bytes w64 n ++ back) refl four
    ∙ ap (λ (xs : List ℕ). front ++ xs) (sym (split free_kind))
kind_put front to_end n kind back four =
    ap (λ (xs : List ℕ). written_at (length front + 4) free_kind (front ++ xs))
    (append_assoc (to_be_bytes w32 0) kind back)
    ∙ type_put front (to_be_bytes w32 0) kind back refl four
    ∙ ap (λ (xs : List ℕ). front ++ xs) (sym (append_assoc (to_be_bytes w32 0) free_kind back))

-- a box between others is freed
pub freed_file : (front : List ℕ) (b : Box) (back : List ℕ) (r : RootBox) → IsBox b → r.start ≡ length front
    → r.header ≡ header_len b.form → r.length ≡ box_len b
    → freed_in r (front ++ (box_bytes b ++ back)) ≡ front ++ (box_bytes (freed b) ++ back)
freed_file front b back r is start header len =
    let was : List ℕ = header_bytes b.form (box_len b) b.kind in
    let now : List ℕ = header_bytes b.form (box_len b) free_kind in
    let zeros : List ℕ = replicate (length b.payload) 0 in
    let size : length now ≡ header_len b.form = header_size b.form (box_len b) free_kind refl in
    let rest : r.length - r.header ≡ length b.payload = omega (arith, len, header) in
    let type : written_at (r.start + 4) free_kind (front ++ (box_bytes b ++ back)) ≡ front ++ (now ++ (b.payload ++ back)) =
    ap₂ (λ (n : ℕ) (xs : List ℕ). written_at (n + 4) free_kind (front ++ xs)) start (append_assoc was b.payload back) ∙ kind_put front b.form (box_len b) b.kind (b.payload ++ back) is.kind in
    ap₂ (λ (n : ℕ) (xs : List ℕ). written_at (r.start + r.header) (replicate n 0) xs) rest
    (type ∙ sym (append_assoc front now (b.payload ++ back)))
    ∙ put_over (r.start + r.header) (front ++ now) b.payload zeros back
    (omega (arith, start, header, size, length-append front now)) (sym (length-replicate (length b.payload) 0))
    ∙ append_assoc front now (zeros ++ back)
    ∙ ap (λ (xs : List ℕ). front ++ xs) (sym (append_assoc now zeros back))
    ∙ ap (λ (n : ℕ). front ++ ((header_bytes b.form n free_kind ++ zeros) ++ back)) (sym (freed_len b))
