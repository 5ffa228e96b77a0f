use Rattle.std.proofs.Common.{◌≡◌, drop}
use Rattle.c2_rules.specs.BoxPlaces.{box_place_from}
use Rattle.c2_check_facts.proofs.indices.place_of.Given as goal

-- no manifest that was passed has the index: its place is what the rest give it
abbrev pub invariant-loop-i : goal.invariant-loop-i
invariant-loop-i l = box_place_from 0 l.store l.at ≡ box_place_from l.i (drop l.i l.store) l.at
