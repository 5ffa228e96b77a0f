use Rattle.std.proofs.Common.{map, option_map, take}
use Rattle.c2_check_claim.specs.Labelled.{entry_labels}
use Rattle.c2_check_claim.proofs.LabelledLemmas.{entry_more, entry_place}
use Rattle.c2_check_claim.proofs.labelled.places_of_entries.Goals as goal

-- with the label of one entry more, the places are right of the entries so far
pub loop-k-preserved : goal.loop-k-preserved
loop-k-preserved c =
    let es = map (λ x. x.now) c.args.entries.now in
    entry_more c.args.own.now.manifest es c.loop-k.k c.entry_among.result.now
    (option_map (λ x. x.now) c.entry_label-label.result) c.add_place.new.places c.entry_among.ensures
    c.entry_label-label.ensures
    (c.in_ok-add_place.ensures (entry_labels c.args.own.now.manifest (take c.loop-k.k es)) c.loop-k.invariant (entry_place c.args.own.now.manifest es c.loop-k.k c.entry_among.result.now c.entry_among.ensures))
