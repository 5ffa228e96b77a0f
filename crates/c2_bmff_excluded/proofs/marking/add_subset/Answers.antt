use Rattle.std.proofs.Common.{◌∙◌, ◌||◌, Bool, sym, ap}
use Rattle.std.specs.Prelude.{option_map}
use Rattle.std.specs.List.{list_any}
use Rattle.c2_spec.specs.Cover.{is_excluded}
use Rattle.c2_bmff_excluded.specs.Marks.{in_row_part, in_row_subset}
use Rattle.c2_bmff_excluded.proofs.MarkLemmas.{parts_are}
use Rattle.c2_bmff_excluded.proofs.marking.add_subset.Goals as goal

-- with the parts of the box, the ranges hold the positions of its subset and those before
pub returns-clause-same : goal.returns-clause-same
returns-clause-same c i =
    c.in_ok-add_parts.ensures.same i
    ∙ ap (λ (b : Bool). is_excluded c.args.ranges.now.items i || b)
    (ap (list_any (in_row_part i c.args.row)) c.as_slice.ensures.value ∙ parts_are i c.args.row c.in-Some.parts.items ∙ ap (λ s. in_row_subset i c.args.row (option_map (λ parts. parts.items) s)) (sym c.in-Some.is))
