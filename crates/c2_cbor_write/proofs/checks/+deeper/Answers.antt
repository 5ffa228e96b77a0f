use Rattle.std.proofs.Common.{◌≡◌, ◌+◌, ◌∷◌, suc, drop, sym, ap, ◌∙◌, arith}
use Rattle.std.proofs.lemmas.List.{drop_more}
use Rattle.c2_spec.specs.Cbor.View.{view, items_view, pairs_view}
use Rattle.c2_spec.specs.Cbor.Legal.{depth, items_depth, pairs_depth}
use Rattle.c2_cbor_spec.proofs.Views.{depth-Map}
use Rattle.c2_cbor_write.proofs.Writable.{deeper_left}
use Rattle.c2_cbor_write.proofs.checks.+deeper.Goals as goal

pub is_deeper-returns-in-Map : goal.is_deeper-returns-in-Map
is_deeper-returns-in-Map t c =
    let e : depth (view c.args.item.now) ≡ suc (pairs_depth (pairs_view c.deref-in-Map.result.now)) =
    ap (λ v. depth (view v)) c.in-Map.is ∙ depth-Map c.in-Map.pairs _ c.deref-in-Map.ensures.value in
    (λ h. let g = c.pairs_deeper.ensures.0 h in omega (arith, e, g), λ h. c.pairs_deeper.ensures.1 (omega (arith, e, h)))

pub items_deeper-loop-item-preserved : goal.items_deeper-loop-item-preserved
items_deeper-loop-item-preserved t c =
    let xs = c.args.items.now in
    let i = c.loop-item.item-index in
    let x = c.item-item.result in
    let left : drop i xs ≡ x ∷ drop (i + 1) xs =
    drop_more xs i x (omega arith) ∙ ap (λ y. y ∷ drop (i + 1) xs) (sym c.item-item.is) in
    deeper_left c.is_deeper.result c.args.levels _ _ _ _ (ap (λ ys. items_depth (items_view ys)) left)
    c.is_deeper.ensures.1 c.if-is_deeper.false c.loop-item.invariant
