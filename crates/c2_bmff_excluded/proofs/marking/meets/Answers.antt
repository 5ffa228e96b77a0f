use Rattle.std.proofs.Common.{◌≡◌, ◌∙◌, ◌+◌, Bool, ℕ, List, length, take, drop, ◌&&◌, sym, ap, arith}
use Rattle.std.specs.Prelude.{bytes_eq}
use Rattle.std.proofs.lemmas.Bool.{le-leb}
use Rattle.std.proofs.lemmas.List.{drop-drop}
use Rattle.c2_bmff_excluded.specs.Marks.{stands_at}
use Rattle.c2_bmff_rows.proofs.Lists.{piece_of}
use Rattle.c2_bmff_excluded.proofs.marking.meets.Goals as goal

-- the first bytes of the box tell whether the value stands there
pub returns : goal.returns
returns c file is =
    let row = c.args.row in
    let off : ℕ = c.args.offset in
    let v : List ℕ = c.args.value.now in
    let front : List ℕ = c.args.front.now in
    let piece : take (length v) (drop off front) ≡ take (length v) (drop (row.start + off) file) =
    ap (λ (xs : List ℕ). take (length v) (drop off xs)) is ∙ piece_of (length front) off (length v) (drop row.start file) c.in-Some.ensures.inside ∙ ap (take (length v)) (drop-drop off row.start file) in
    c.in-Some.ensures.same ∙ ap (λ (xs : List ℕ). bytes_eq xs v) piece
    ∙ sym
    (ap (λ (b : Bool). b && stands_at file (row.start + off) v) (le-leb (off + length v) row.length (omega (arith, c.if-value-row.false, c.if-offset-row.false))))
