use Rattle.c2_jpegseg.proofs.search.locate.Goals as goal

pub returns-in-Ok-clause-inside : goal.returns-in-Ok-clause-inside
returns-in-Ok-clause-inside g c =
    let inside = c.in-Ok.ensures.inside in
    record { small = inside.small; range = inside.range; store = inside.store }
