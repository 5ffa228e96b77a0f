use Rattle.c2_check_facts.proofs.FactLemmas.{fact_known}
use Rattle.c2_check_facts.proofs.facts.fact_at.Goals as goal
use Rattle.std.proofs.Common.{sym, ◌∙◌}

-- a fact that was found out before is that of the manifest at the place
pub returns-in-Some : goal.returns-in-Some
returns-in-Some g c =
    fact_known g.H.Hashing.digest_of c.args.all.now c.args.facts.now c.args.m c.in-Some.fact c.requires.known
    (sym c.in-Some.is ∙ c.known_fact.ensures)
