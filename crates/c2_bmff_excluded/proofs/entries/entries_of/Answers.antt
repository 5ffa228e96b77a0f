use Rattle.std.proofs.Common.{◌∙◌, Bool, ap, sym}
use Rattle.std.specs.List.{list_any}
use Rattle.std.proofs.lemmas.List.Sorted.{list_any-IsPermutation}
use Rattle.c2_spec.specs.Bmff.Hash.{Exclusion}
use Rattle.c2_bmff_excluded.specs.Marks.{excludes_row}
use Rattle.c2_bmff_excluded.proofs.entries.entries_of.Goals as goal

-- in any order, and as groups, the exclusions exclude the same
pub returns : goal.returns
returns c file rows i =
    let excludes : Exclusion → Bool = excludes_row file rows i in
    c.in_ok-entries.ensures file rows i ∙ ap (list_any excludes) c.as_slice-2.ensures.value
    ∙ c.in_ok-groups.ensures file rows i ∙ ap (list_any excludes) c.as_slice.ensures.value
    ∙ sym (list_any-IsPermutation excludes c.args.exclusions.now c.in_ok-list.list.items c.in_ok-list.ensures)
