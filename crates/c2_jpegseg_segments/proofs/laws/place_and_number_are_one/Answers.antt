use Rattle.c2_jpegseg_segments.proofs.TheLaws.{place_and_number_are_one_each, place_and_number_are_one_number, place_and_number_are_one_place}
use Rattle.c2_jpegseg_segments.proofs.laws.place_and_number_are_one.Goals as goal

pub returns-clause-place : goal.returns-clause-place
returns-clause-place c = place_and_number_are_one_place

pub returns-clause-number : goal.returns-clause-number
returns-clause-number c = place_and_number_are_one_number

pub returns-clause-each : goal.returns-clause-each
returns-clause-each c = place_and_number_are_one_each
