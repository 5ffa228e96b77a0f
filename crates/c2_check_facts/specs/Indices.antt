-- For private clauses: the place of an assertion box.
use Rattle.c2_rules.specs.BoxPlaces.{BoxPlace}
use Rattle.c2_check_facts.specs.declared.indices.Place.{Place}

-- an assertion box meant by the place of its manifest and its own place among that manifest's boxes
abbrev pub pair_of : Place → BoxPlace
pair_of p = record { manifest = p.manifest; box = p.index }
