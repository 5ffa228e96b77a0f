use Rattle.std.proofs.Common.{◌∙◌, ap, sym}
use Rattle.std.specs.List.{list_any}
use Rattle.std.proofs.lemmas.List.Sorted.{list_any-IsPermutation}
use Rattle.c2_spec.specs.Bmff.Hash.{in_part}
use Rattle.c2_bmff_excluded.proofs.parts.merged.Goals as goal

-- the parts hold the same positions in any order
pub returns-clause-same : goal.returns-clause-same
returns-clause-same c i =
    c.in_ok-done.ensures.same i ∙ ap (list_any (in_part i)) c.as_slice.ensures.value
    ∙ sym (list_any-IsPermutation (in_part i) c.args.parts.now c.in_ok-parts.parts.items c.in_ok-parts.ensures.same)
