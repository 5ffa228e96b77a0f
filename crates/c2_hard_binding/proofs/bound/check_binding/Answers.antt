use Rattle.std.proofs.Common.{IfOk, option_map, ap, subst, sym, ◌∙◌}
use Rattle.c2_spec.specs.Cbor.View.{view}
use Rattle.c2_spec.specs.declared.assertion.Kind.{Kind}
use Rattle.c2_rules.specs.Binding.{IsBinding}
use Rattle.c2_rules.specs.Chains.{label_in}
use Rattle.c2_rules.specs.Ingredients.{assertion_uri}
use Rattle.c2_hard_binding.specs.Found.{IsItemBound}
use Rattle.c2_hard_binding.proofs.BoundLemmas.{bound_item}
use Rattle.c2_hard_binding.proofs.bound.check_binding.Goals as goal

-- the root boxes of the fields are those of the container
pub check_read-requires : goal.check_read-requires
check_read-requires g c = c.read-read.ensures.inside (g.S.Source.len c.args.source.now) c.requires

-- the binding has an item: the rule on what was read of it decides
pub returns-clause-found : goal.returns-clause-found
returns-clause-found g c = λ file known m media_is b has.
    let hash = g.H.Hashing.digest_of in
    let own = c.args.own.now in
    let name = c.in-Some.name.now in
    let item = view c.in-Ok-Some.item in
    bound_item hash m own file name (option_map (λ x. x.now) c.binding_item.result) (option_map view c.in-Ok-Some.field-0) item b c.check_read.result (sym c.binding_label.ensures ∙ ap (option_map (λ x. x.now)) c.in-Some.is) c.binding_item.ensures c.in-Ok-Some.ensures
    (ap (option_map view) c.in-Ok-Some.field-0-is)
    (λ x binds. subst (λ (k : Kind). IfOk c.check_read.result (IsItemBound hash own (assertion_uri (label_in own) name) k file x)) c.label_kind.ensures
    (c.check_read.ensures.found file known c.label_kind.result x c.read-read.ensures.code (c.read-read.ensures.fields file m media_is x (subst (λ (k : Kind). IsBinding m k item x) (sym c.label_kind.ensures) binds)))) has
