use Rattle.std.proofs.Common.{◌≡◌, ◌∙◌, ◌-◌, ◌+◌, ◌++◌, min, List, ℕ, length, take, drop, ap, arith}
use Rattle.std.proofs.lemmas.List.{length-drop, take_all}
use Rattle.c2_bmff_excluded.proofs.RunLemmas.{holds_at, joins}
use Rattle.c2_bmff_excluded.proofs.runs.join_value.Goals as goal

-- the bytes that are added are those of the value past the run
pub returns-clause-join : goal.returns-clause-join
returns-clause-join c same file r offset =
    let old : List ℕ = c.args.bytes.now.items in
    let v : List ℕ = c.args.value.now in
    let n = c.min-count.result in
    let size : c.len.result ≡ length old = omega (arith, c.len.ensures) in
    let count : n ≡ min (length v) (length old - (c.args.start + c.args.from)) =
    c.min-count.ensures ∙ ap (λ (k : ℕ). min (length v) (k - (c.args.start + c.args.from))) size in
    let tail : take (length v - n) (drop n v) ≡ drop n v =
    take_all (length v - n) (drop n v) (omega (arith, length-drop n v)) in
    ap (λ (xs : List ℕ). holds_at file r offset (drop c.args.start xs))
    (c.in_ok-extend_from_slice.ensures.items ∙ ap (λ (ys : List ℕ). old ++ ys) tail)
    ∙ (joins old c.deref.result.now v c.args.start c.args.from n c.is_same.result c.deref.ensures.value c.requires count c.is_same.ensures).0
    c.if-not-is_same.false file r offset

-- no box meets both
pub returns-then-not-is_same-clause-differ : goal.returns-then-not-is_same-clause-differ
returns-then-not-is_same-clause-differ c same file r offset =
    let old : List ℕ = c.args.bytes.now.items in
    let v : List ℕ = c.args.value.now in
    let n = c.min-count.result in
    let size : c.len.result ≡ length old = omega (arith, c.len.ensures) in
    let count : n ≡ min (length v) (length old - (c.args.start + c.args.from)) =
    c.min-count.ensures ∙ ap (λ (k : ℕ). min (length v) (k - (c.args.start + c.args.from))) size in
    (joins old c.deref.result.now v c.args.start c.args.from n c.is_same.result c.deref.ensures.value c.requires count c.is_same.ensures).1
    c.if-not-is_same.true file r offset
