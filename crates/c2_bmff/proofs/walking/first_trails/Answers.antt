use Rattle.std.proofs.Common.{◌∙◌, ◌||◌, Bool, false, get_or, ap, sym}
use Rattle.std.specs.List.{list_any}
use Rattle.std.proofs.lemmas.List.{take_all}
use Rattle.c2_bmff_excluded.specs.Marks.{SharedPath, excludes_any}
use Rattle.c2_bmff_rows.proofs.Lists.{any_more}
use Rattle.c2_bmff.specs.Trails.{ahead, no_exclusion}
use Rattle.c2_bmff.proofs.walking.first_trails.Goals as goal

-- at first there are none
pub loop-k-init : goal.loop-k-init
loop-k-init c file i rows = ap (list_any (ahead file c.args.entries.now i rows)) c.new-trails.ensures.items

-- with the trail of one exclusion more
pub loop-k-preserved : goal.loop-k-preserved
loop-k-preserved c file i rows =
    let excludes : SharedPath → Bool = excludes_any file rows i in
    let k = c.loop-k.k in
    let entries = c.args.entries.now in
    c.in_ok-add_first.ensures file i rows
    ∙ ap (λ (b : Bool). b || excludes_any file rows i (get_or entries k no_exclusion)) (c.loop-k.invariant file i rows)
    ∙ sym (any_more excludes entries k no_exclusion false c.loop-k-test.true)

-- after the last, those of all
pub returns : goal.returns
returns c file i rows =
    c.loop-k.invariant file i rows
    ∙ ap (list_any (excludes_any file rows i)) (take_all c.loop-k.k c.args.entries.now c.loop-k-test.false)
