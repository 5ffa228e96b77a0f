use Rattle.c2_check_facts.proofs.PlaceLemmas.{found_here, not_here}
use Rattle.c2_check_facts.proofs.indices.place_of.Goals as goal

-- an index among this manifest's boxes, in none of those before, has this manifest's place and its own there
pub returns-in-Some : goal.returns-in-Some
returns-in-Some c =
    found_here c.args.store.now c.loop-i.i c.args.at c.in-Some.index c.assertions.result.now c.place_among.result
    c.loop-i.invariant c.assertions.ensures c.place_among.ensures c.in-Some.is

-- an index that isn't among this manifest's boxes has the place that the later manifests give it
pub loop-i-preserved : goal.loop-i-preserved
loop-i-preserved c =
    not_here c.args.store.now c.loop-i.i c.args.at c.assertions.result.now c.place_among.result c.loop-i.invariant
    c.assertions.ensures c.place_among.ensures c.in-None.is
