use Rattle.std.proofs.Common.{◌≡◌, ◌+◌, ◌-◌, true, drop, sym, ap, subst, ◌∙◌, arith}
use Rattle.std.specs.List.{list_any}
use Rattle.c2_label_index.specs.Labels.{is_among}
use Rattle.c2_definition.specs.declared.types.NewAssertion.{NewAssertion}
use Rattle.c2_definition.specs.DefinitionFile.{has_label, labels_differ}
use Rattle.c2_definition.proofs.LabelSteps.{same_here}
use Rattle.c2_definition.proofs.differing.labels_differ.Goals as goal

-- the label was found behind it
pub returns-then-has_label : goal.returns-then-has_label
returns-then-has_label c =
    let list = c.args.list.now in
    let a = c.index-list-i.result in
    let next : c.loop-i.i ≡ (c.loop-i.i - 1) + 1 = omega (arith, c.loop-i-test.true) in
    let own = c.as_str-label.ensures.value ∙ ap (λ (b : NewAssertion). b.label) (sym c.index-list-i.is) in
    let found =
    c.has_label.ensures ∙ ap (is_among c.loop-i.behind) own ∙ c.loop-i.invariant.kept a.label
    ∙ ap (λ k. list_any (has_label a.label) (drop k list)) next in
    let behind = subst (λ k. labels_differ (drop k list) ≡ true) next c.loop-i.invariant.differ in
    same_here list (c.loop-i.i - 1) a c.has_label.result (omega (arith, c.loop-i-test.true, c.loop-i.invariant.within))
    c.index-list-i.is found behind c.if-has_label.true
