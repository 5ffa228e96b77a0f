use Rattle.std.proofs.Common.{◌∙◌, ◌||◌, List, Bool, ap, ap₂}
use Rattle.std.specs.List.{list_any}
use Rattle.c2_base.specs.declared.values.Range.{Range}
use Rattle.c2_spec.specs.Cover.{is_excluded}
use Rattle.c2_bmff_excluded.specs.Marks.{excludes_any}
use Rattle.c2_bmff.proofs.walking.mark_all.Goals as goal

-- the first list of siblings lies inside the source
pub walk-requires-clause-levels : goal.walk-requires-clause-levels
walk-requires-clause-levels g c =
    c.in_ok-levels.ensures.within (g.S.Source.len c.args.source.now) c.requires.inside

-- from no ranges and the first list of siblings on, the walk ends with what the exclusions exclude, whose parts were put in order
pub returns-in-Ok-clause-excluded : goal.returns-in-Ok-clause-excluded
returns-in-Ok-clause-excluded g c file known i =
    c.in-Ok.ensures.same file known i
    ∙ ap₂ (λ (rs : List Range) (b : Bool). is_excluded rs i || b) c.in_ok-marking.ensures
    (c.in_ok-levels.ensures.ahead file i)
    ∙ ap (list_any (excludes_any file c.args.siblings.now i)) c.as_slice-entries.ensures.value
    ∙ c.in_ok-entries.ensures file c.args.siblings.now i
