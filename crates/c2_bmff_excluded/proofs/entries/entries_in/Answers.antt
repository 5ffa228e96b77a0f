use Rattle.std.proofs.Common.{◌∙◌, ◌||◌, Bool, false, List, take, ap, sym}
use Rattle.std.specs.List.{list_any}
use Rattle.std.proofs.lemmas.List.{take_all}
use Rattle.c2_spec.specs.Bmff.Hash.{Exclusion}
use Rattle.c2_bmff_excluded.specs.Marks.{excludes_any, excludes_row}
use Rattle.c2_bmff_rows.proofs.Lists.{any_more}
use Rattle.c2_bmff_excluded.proofs.entries.entries_in.Goals as goal

-- at first there are none
pub loop-group-init : goal.loop-group-init
loop-group-init c file rows i = ap (list_any (excludes_any file rows i)) c.new-entries.ensures.items

-- with one group more
pub loop-group-preserved : goal.loop-group-preserved
loop-group-preserved c file rows i =
    let excludes : Exclusion → Bool = excludes_row file rows i in
    let k = c.loop-group.group-index in
    let groups : List Exclusion = c.args.groups.now in
    c.in_ok-add_group.ensures file rows i
    ∙ ap (λ (b : Bool). b || excludes c.group-item.result) (c.loop-group.invariant file rows i)
    ∙ ap (λ (e : Exclusion). list_any excludes (take k groups) || excludes e) c.group-item.is
    ∙ sym (any_more excludes groups k c.group-item.result false c.loop-group-test.true)

-- after the last, what all of them exclude
pub returns : goal.returns
returns c file rows i =
    c.loop-group.invariant file rows i
    ∙ ap (list_any (excludes_row file rows i)) (take_all c.loop-group.group-index c.args.groups.now c.loop-group-test.false)
