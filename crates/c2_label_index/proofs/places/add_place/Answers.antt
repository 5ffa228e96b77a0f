use Rattle.std.proofs.Common.{ap, not}
use Rattle.c2_label_index.proofs.PlaceLemmas.{new_added, old_added}
use Rattle.c2_label_index.proofs.places.add_place.Goals as goal

-- a label that is new is kept with this place, and the others keep theirs
pub returns-in_ok-keep : goal.returns-in_ok-keep
returns-in_ok-keep c = λ labels h count.
    new_added labels c.args.places.now c.keep.new.places c.args.label c.in-Some.text c.args.place c.first_place.result c.in-Some.is c.first_place.ensures (ap not c.if-is_none.ensures) c.in_ok-keep.ensures h count

-- a label that is there keeps its first place
pub returns-else-is_none : goal.returns-else-is_none
returns-else-is_none c = λ labels h count.
    old_added labels c.args.places.now c.args.label c.in-Some.text c.first_place.result c.in-Some.is c.first_place.ensures (ap not c.if-is_none.ensures) h
