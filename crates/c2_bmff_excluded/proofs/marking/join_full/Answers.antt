use Rattle.std.proofs.Common.{◌∙◌, ◌||◌, List, sym, ap}
use Rattle.std.proofs.lemmas.List.Sorted.{All-permutation, list_any-IsPermutation}
use Rattle.c2_base.specs.declared.values.Range.{Range}
use Rattle.c2_spec.specs.Cover.{holds, is_excluded}
use Rattle.c2_bmff_excluded.specs.Marks.{IsRangeWithin}
use Rattle.c2_bmff_excluded.proofs.marking.join_full.Goals as goal

-- to no ranges, the same are added
pub returns-clause-same : goal.returns-clause-same
returns-clause-same c i =
    c.in_ok-add_sorted.ensures.same i
    ∙ ap (λ (rs : List Range). is_excluded rs i || is_excluded c.args.ranges.now.items i) c.new-all.ensures.items

-- without memory for all, they are only sorted
pub returns-in_err-add_sorted-clause-same : goal.returns-in_err-add_sorted-clause-same
returns-in_err-add_sorted-clause-same c i =
    sym
    (list_any-IsPermutation (holds i) c.args.ranges.now.items c.add_sorted.new.others.items c.in_err-add_sorted.ensures.sorted)

-- and end where they did
pub returns-in_err-add_sorted-clause-within : goal.returns-in_err-add_sorted-clause-within
returns-in_err-add_sorted-clause-within c n all =
    All-permutation (IsRangeWithin n) c.args.ranges.now.items c.add_sorted.new.others.items
    c.in_err-add_sorted.ensures.sorted all
