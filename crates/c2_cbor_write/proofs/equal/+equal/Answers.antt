use Rattle.std.proofs.Common.{◌≡◌, [], drop, subst, arith}
use Rattle.std.proofs.lemmas.List.{drop_all}
use Rattle.c2_spec.specs.Cbor.View.{pairs_view}
use Rattle.c2_cbor_write.proofs.EqualKeys.{PartsLeft, some_said, none_said}
use Rattle.c2_cbor_write.proofs.equal.+equal.Goals as goal

pub pairs_equal-returns-clause-yes : goal.pairs_equal-returns-clause-yes
pairs_equal-returns-clause-yes t c =
    λ f b. some_said c.args.pairs.now c.in_ok-at.at c.is_some.result c.in_ok-at.ensures c.is_some.ensures f b

pub pairs_equal-returns-clause-no : goal.pairs_equal-returns-clause-no
pairs_equal-returns-clause-no t c = λ f b.
    let none : drop c.loop-pair.pair-index c.args.pairs.now ≡ [] =
    drop_all c.loop-pair.pair-index c.args.pairs.now (omega arith) in
    let left : PartsLeft (pairs_view c.args.pairs.now) (pairs_view []) =
    subst (λ ps. PartsLeft (pairs_view c.args.pairs.now) (pairs_view ps)) none (c.loop-pair.invariant f) in
    none_said c.args.pairs.now c.in_ok-at.at c.is_some.result c.in_ok-at.ensures c.is_some.ensures (left.no tt) b
