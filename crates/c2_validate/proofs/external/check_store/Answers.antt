use Rattle.std.proofs.Common.{map, refl}
use Rattle.c2_spec.specs.Judges.Panel.{panel_says}
use Rattle.c2_calls_spec.proofs.PanelLemmas.{hears_error, hears_later}
use Rattle.c2_validate.specs.Boxes.{BoxesAsk}
use Rattle.c2_validate.specs.Checked.{validate_heard}
use Rattle.c2_validate.proofs.ExternalLemmas.{store_of}
use Rattle.c2_validate.proofs.external.check_store.Goals as goal

-- the store was checked
pub returns-in-Ok-clause-answer : goal.returns-in-Ok-clause-answer
returns-in-Ok-clause-answer g c = λ file known.
    let b = c.args.boxes.now in
    store_of g.H.Hashing.digest_of
    (panel_says (map (λ j. (goal.Judge-dyn g (j.vtable, j.value)).says j.value) c.args.judges.now.items))
    file b.container.now b.range.start b.range.length b.tree.now c.in-Ok.answer (c.in-Ok.ensures.answer file known)

pub returns-in-Ok-clause-panel : goal.returns-in-Ok-clause-panel
returns-in-Ok-clause-panel g c =
    hears_later _ _ _ validate_heard validate_heard (BoxesAsk g.H.Hashing.digest_of c.args.boxes.now)
    (BoxesAsk g.H.Hashing.digest_of c.args.boxes.now) c.args.judges.now c.check_boxes.new.judges c.in-Ok.answer _ tt
    (λ qs asks. asks) c.in-Ok.ensures.panel

-- the check failed
pub returns-in-Err-clause-panel : goal.returns-in-Err-clause-panel
returns-in-Err-clause-panel g c =
    hears_error _ _ _ validate_heard validate_heard (BoxesAsk g.H.Hashing.digest_of c.args.boxes.now)
    (BoxesAsk g.H.Hashing.digest_of c.args.boxes.now) c.args.judges.now c.check_boxes.new.judges c.in-Err.error
    c.in-Err.error refl (λ qs asks. asks) c.in-Err.ensures.panel
