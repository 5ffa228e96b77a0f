use Rattle.std.proofs.Common.{List, [], ◌++◌, ◌∙◌, ◌∷◌, ap, subst, sym}
use Rattle.c2_new_file_spec.specs.Store.{new_alg}
use Rattle.c2_definition.specs.declared.types.NewAssertion.{NewAssertion}
use Rattle.c2_build_collect_base.specs.Steps.{NameLast, boxes_of}
use Rattle.c2_build_collect_base.proofs.Named.{one_named}
use Rattle.c2_build_collect_base.proofs.types.Collector.component.Goals as goal

-- it is the only one
pub returns : goal.returns
returns g c =
    let of = g.H.Hashing.digest_of (new_alg c.args.self.now.definition.now) in
    let redacts = c.args.redactions.now in
    let other = boxes_of c.args.theirs.now in
    subst (NameLast of redacts (other ∷ []))
    (sym (c.in_ok-push.ensures.items ∙ ap (λ (xs : List NewAssertion). xs ++ c.in_ok-one.one ∷ []) c.new-all.ensures.items))
    (one_named of redacts other c.in_ok-one.one c.in_ok-one.ensures)
