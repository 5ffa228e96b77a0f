use Rattle.std.proofs.Common.{◌∙◌, List, [], ap, subst}
use Rattle.std.specs.Prelude.{option_map}
use Rattle.std.specs.List.{list_all}
use Rattle.std.specs.declared.option.Option.{Option}
use Rattle.c2_base.specs.declared.values.Range.{Range}
use Rattle.c2_spec.specs.Bmff.Hash.{ByteTest, Exclusion}
use Rattle.c2_bmff_excluded.specs.Marks.{holds_test}
use Rattle.c2_bmff_excluded.specs.Parts.{MarkSame}
use Rattle.c2_bmff_excluded.specs.Runs.{asked}
use Rattle.c2_bmff_excluded.proofs.OrderLemmas.{same_subset}
use Rattle.c2_bmff_excluded.proofs.entries.ask_of.Goals as goal

-- parts in order hold what the parts do, and the same boxes meet what is asked
pub returns : goal.returns
returns c =
    let old : Option (List Range) = option_map (λ parts. parts.items) c.group.inside.parts in
    let first : Exclusion =
    record
    { path = c.first.inside.path; length = c.first.inside.length; tests = c.first.inside.tests; subset = old } in
    let tests : List ByteTest = asked c.in_ok-tests.tests in
    let subset : Option (List Range) = option_map (λ parts. parts.items) c.in_ok-parts.parts in
    let ask : Exclusion = record { path = []; length = first.length; tests = tests; subset = subset } in
    subst (λ (e : Exclusion). MarkSame ask e) c.group.view_is
    (subst (λ (e : Exclusion). MarkSame ask (record { path = e.path; length = e.length; tests = e.tests; subset = old })) c.first.view_is
    (same_subset first [] tests subset (λ file r. c.in_ok-tests.ensures.same file r ∙ ap (list_all (holds_test file r)) c.as_slice.ensures) c.in_ok-parts.ensures.same))
