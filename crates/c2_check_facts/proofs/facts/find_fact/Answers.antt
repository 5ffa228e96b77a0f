use Rattle.c2_check_facts.proofs.FactLemmas.{fact_at_place}
use Rattle.c2_check_facts.proofs.facts.find_fact.Goals as goal

-- what is found out of the manifest that is fetched is true of the manifest at its place
pub returns : goal.returns
returns g c =
    fact_at_place g.H.Hashing.digest_of c.args.all.now c.manifests.result.now c.args.m c.index-manifests-m.result
    c.is_touched.result c.fact_from.result c.requires c.manifests.ensures c.index-manifests-m.is
    c.is_touched.ensures c.fact_from.ensures
