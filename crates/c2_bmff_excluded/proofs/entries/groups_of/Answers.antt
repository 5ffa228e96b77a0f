use Rattle.std.proofs.Common.{◌∙◌, ◌||◌, Bool, false, List, take, ap, sym}
use Rattle.std.specs.List.{list_any}
use Rattle.std.proofs.lemmas.List.{take_all}
use Rattle.c2_spec.specs.Bmff.Hash.{Exclusion}
use Rattle.c2_bmff_excluded.specs.Marks.{excludes_row}
use Rattle.c2_bmff_rows.proofs.Lists.{any_more}
use Rattle.c2_bmff_excluded.proofs.entries.groups_of.Goals as goal

-- at first there are none
pub loop-member-init : goal.loop-member-init
loop-member-init c file rows i = ap (list_any (excludes_row file rows i)) c.new-groups.ensures.items

-- with the exclusion of one member more
pub loop-member-preserved : goal.loop-member-preserved
loop-member-preserved c file rows i =
    let excludes : Exclusion → Bool = excludes_row file rows i in
    let k = c.loop-member.member-index in
    let list : List Exclusion = c.args.list.now in
    c.in_ok-add_exclusion.ensures file rows i
    ∙ ap (λ (b : Bool). b || excludes c.member.inside.exclusion.now) (c.loop-member.invariant file rows i)
    ∙ ap (λ (e : Exclusion). list_any excludes (take k list) || excludes e) (c.member.view_is ∙ c.member-item.is)
    ∙ sym (any_more excludes list k c.member-item.result false c.loop-member-test.true)

-- after the last, what all of them exclude
pub returns : goal.returns
returns c file rows i =
    c.loop-member.invariant file rows i
    ∙ ap (list_any (excludes_row file rows i)) (take_all c.loop-member.member-index c.args.list.now c.loop-member-test.false)
