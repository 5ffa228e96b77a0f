use Rattle.std.proofs.Common.{map, refl}
use Rattle.c2_spec.specs.Judges.Panel.{panel_says}
use Rattle.c2_calls_spec.proofs.PanelLemmas.{hears_early, hears_same}
use Rattle.c2_opening.specs.declared.error.ValidateError.TheVariants.{NoMemory}
use Rattle.c2_validate.specs.Boxes.{BoxesAsk}
use Rattle.c2_validate.specs.Checked.{validate_heard}
use Rattle.c2_validate.proofs.FileLemmas.{boxes_answered, tree_asks}
use Rattle.c2_validate.proofs.checking.check_boxes.Goals as goal

-- memory ran out before anybody was asked
pub returns-in-Err-clause-panel : goal.returns-in-Err-clause-panel
returns-in-Err-clause-panel g c =
    hears_early _ _ _ _ (BoxesAsk g.H.Hashing.digest_of c.args.boxes.now) c.args.judges.now NoMemory refl

-- the manifests that were read were checked
pub returns-clause-answer : goal.returns-clause-answer
returns-clause-answer g c = λ file known.
    let b = c.args.boxes.now in
    boxes_answered g.H.Hashing.digest_of
    (panel_says (map (λ j. (goal.Judge-dyn g (j.vtable, j.value)).says j.value) c.args.judges.now.items))
    file b.container.now b.range.start b.range.length b.tree.now c.in-Ok.chain.readings c.check_opened.result c.in-Ok.ensures.reads
    (c.check_opened.ensures.answer file known)

pub returns-clause-panel : goal.returns-clause-panel
returns-clause-panel g c =
    hears_same _ _ _ validate_heard (BoxesAsk g.H.Hashing.digest_of c.args.boxes.now) _ c.args.judges.now
    c.check_opened.new.judges c.check_opened.result
    (λ qs asks. tree_asks g.H.Hashing.digest_of
    (panel_says (map (λ j. (goal.Judge-dyn g (j.vtable, j.value)).says j.value) c.args.judges.now.items))
    c.args.boxes.now.tree.now c.in-Ok.chain.readings asks.0 qs c.in-Ok.ensures.reads asks.1 asks.2)
    c.check_opened.ensures.panel
