use Rattle.std.proofs.Common.{◌∙◌, ◌++◌, ◌∷◌, [], List, ap, sym, take, arith}
use Rattle.std.proofs.lemmas.List.{take_more}
use Rattle.c2_rules.specs.Readings.{Reading}
use Rattle.c2_parent.proofs.targets.targets_of.Goals as goal

-- with one manifest more, these are the first `k + 1`
pub loop-k-preserved : goal.loop-k-preserved
loop-k-preserved c =
    let kept = c.args.kept.now in
    let own = c.in_ok-own.own in
    c.in_ok-push.ensures.items ∙ ap (λ (xs : List Reading). xs ++ own ∷ []) c.loop-k.invariant
    ∙ ap (λ (r : Reading). take c.loop-k.k kept ++ r ∷ []) (c.in_ok-own.ensures ∙ c.index-kept-k.is)
    ∙ sym (take_more kept c.loop-k.k c.index-kept-k.result (omega (arith, c.loop-k-test.true)))
