use Rattle.std.proofs.Common.{◌∙◌, ◌∷◌, ◌++◌, [], List, take, ap, sym}
use Rattle.std.proofs.lemmas.List.{take_all, take_more}
use Rattle.c2_spec.specs.Bmff.Hash.{Exclusion}
use Rattle.c2_bmff_excluded.proofs.entries.members.Goals as goal

-- with one exclusion more
pub loop-exclusion-preserved : goal.loop-exclusion-preserved
loop-exclusion-preserved c =
    let all : List Exclusion = c.args.exclusions.now in
    let k = c.loop-exclusion.exclusion-index in
    let this : Exclusion = c.exclusion-item.result in
    c.in_ok-push.ensures.items ∙ ap (λ (es : List Exclusion). es ++ this ∷ []) c.loop-exclusion.invariant
    ∙ ap (λ (e : Exclusion). take k all ++ e ∷ []) c.exclusion-item.is
    ∙ sym (take_more all k this c.loop-exclusion-test.true)

-- after the last, all of them
pub returns : goal.returns
returns c =
    c.loop-exclusion.invariant
    ∙ take_all c.loop-exclusion.exclusion-index c.args.exclusions.now c.loop-exclusion-test.false
