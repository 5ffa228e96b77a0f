use Rattle.std.proofs.Common.{map, take}
use Rattle.c2_label_index.specs.Places.{ArePlaces}
use Rattle.c2_check_claim.specs.Labelled.{entry_labels}
use Rattle.c2_check_claim.proofs.labelled.places_of_entries.Given as goal

-- the places are those where the labels of the entries that were passed stand first
abbrev pub invariant-loop-k : goal.invariant-loop-k
invariant-loop-k l = ArePlaces (entry_labels l.own.manifest (take l.k (map (λ x. x.now) l.entries))) l.places
