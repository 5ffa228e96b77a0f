use Rattle.std.proofs.Common.{List, [], ◌++◌, ◌∙◌, ◌∷◌, ap, subst, sym}
use Rattle.c2_new_file_spec.specs.Store.{new_alg}
use Rattle.c2_definition.specs.declared.types.NewAssertion.{NewAssertion}
use Rattle.c2_build_collect_base.specs.Steps.{NameLast, boxes_of}
use Rattle.c2_build_collect_base.proofs.Named.{two_named}
use Rattle.c2_build_collect_base.proofs.types.Collector.parent_and_component.Goals as goal

-- the parent, and then the component
pub returns : goal.returns
returns g c =
    let of = g.H.Hashing.digest_of (new_alg c.args.self.now.definition.now) in
    let redacts = c.args.redactions.now in
    let parent = c.in_ok-parent.parent in
    let component = c.in_ok-component.component in
    let old = boxes_of c.args.ours.now in
    let other = boxes_of c.args.theirs.now in
    let items =
    c.in_ok-push-2.ensures.items
    ∙ ap (λ (xs : List NewAssertion). xs ++ component ∷ [])
    (c.in_ok-push.ensures.items ∙ ap (λ (xs : List NewAssertion). xs ++ parent ∷ []) c.new-all.ensures.items) in
    subst (NameLast of redacts (old ∷ other ∷ [])) (sym items)
    (two_named of redacts old other parent component c.in_ok-parent.ensures c.in_ok-component.ensures)
