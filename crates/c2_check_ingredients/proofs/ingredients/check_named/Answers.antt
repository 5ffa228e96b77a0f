use Rattle.std.proofs.Common.{option_map, sym}
use Rattle.c2_rules.specs.Rules.{assertion_box_uri}
use Rattle.c2_check_ingredients.proofs.ChildLemmas.{fact_there}
use Rattle.c2_check_ingredients.proofs.StandingLemmas.{child_stands}
use Rattle.c2_check_ingredients.proofs.ingredients.check_named.Goals as goal

-- what was found out of the child at the place has the digests of that child
pub check_child-requires : goal.check_child-requires
check_child-requires g c =
    let at = c.args.store.now.at in
    (fact_there g.H.Hashing.digest_of at.all.now c.manifests.result.now at.place c.in-Some.place c.fact_at-fact.result
    c.index-manifests-place.result c.if-place-store.false at.inside c.manifests.ensures c.index-manifests-place.is
    c.fact_at-fact.ensures).digests

-- what fails by the child that an ingredient names fails by where the manifest with that label stands
pub returns : goal.returns
returns g c =
    let at = c.args.store.now.at in
    let named = c.args.named.now in
    child_stands g.H.Hashing.digest_of c.args.own.now
    (assertion_box_uri c.args.own.now (option_map (λ x. x.now) c.args.name)) named.manifest.now named.sign.now
    at.all.now
    c.manifests.result.now at.place c.in-Some.place named.label.now c.index-manifests-place.result
    c.fact_at-fact.result.touched c.check_child.result at.inside (sym c.in-Some.ensures) c.if-place-store.false
    c.manifests.ensures c.index-manifests-place.is
    (fact_there g.H.Hashing.digest_of at.all.now c.manifests.result.now at.place c.in-Some.place c.fact_at-fact.result
    c.index-manifests-place.result c.if-place-store.false at.inside c.manifests.ensures c.index-manifests-place.is
    c.fact_at-fact.ensures).touched c.check_child.ensures
