use Rattle.std.proofs.Common.{◌≡◌, ◌+◌, ◌++◌, ◌∷◌, [], take, ap, sym, subst, ◌∙◌, arith}
use Rattle.std.proofs.lemmas.List.{take_more}
use Rattle.c2_spec.specs.Cbor.View.{view}
use Rattle.c2_spec.specs.Cbor.Deterministic.{preferred}
use Rattle.c2_cbor_spec.specs.Tracking.{keys_of, NoneAbove}
use Rattle.c2_cbor_spec.proofs.Tracks.{few_distinct, above_is, rises_on}
use Rattle.c2_cbor_heads.proofs.repeats.keys_rise.Goals as goal

pub returns-then-pairs-lt2 : goal.returns-then-pairs-lt2
returns-then-pairs-lt2 c = λ _. few_distinct c.args.pairs.now (omega arith)

pub loop-pair-preserved : goal.loop-pair-preserved
loop-pair-preserved c =
    let xs = c.args.pairs.now in
    let i = c.loop-pair.pair-index in
    let x = c.pair-item.result in
    let here : take (i + 1) xs ≡ take i xs ++ x ∷ [] =
    take_more xs i x (omega arith) ∙ ap (λ y. take i xs ++ y ∷ []) (sym c.pair-item.is) in
    let spelled : c.push_preferred.new.out.items ≡ preferred (view x.0) =
    c.in_ok-push_preferred.ensures ∙ ap (λ k. k ++ preferred (view x.0)) c.clear.ensures.items in
    let next =
    rises_on (take i xs) (take (i + 1) xs) x here c.push_preferred.new.out.items c.loop-pair.last.items spelled
    (above_is _ _ _ _ _ c.is_above.ensures c.if-not-is_above.false c.as_slice.ensures.value c.as_slice-in-loop-pair.ensures.value) c.loop-pair.invariant in
    (next.0, subst (λ v. NoneAbove v.items (keys_of (take (i + 1) xs))) (sym c.swap.ensures.y_after) next.1)
