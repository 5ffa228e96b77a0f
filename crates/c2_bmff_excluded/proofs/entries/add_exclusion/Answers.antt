use Rattle.std.proofs.Common.{◌∙◌, ◌||◌, Bool, List, ap, sym}
use Rattle.std.specs.Prelude.{option_map}
use Rattle.std.specs.List.{list_any}
use Rattle.std.specs.declared.option.Option.{Option}
use Rattle.c2_base.specs.declared.values.Range.{Range}
use Rattle.c2_spec.specs.Bmff.Hash.{Exclusion, in_subset}
use Rattle.c2_bmff_excluded.specs.Marks.{excludes_row}
use Rattle.c2_bmff_rows.proofs.Lists.{any_append}
use Rattle.c2_bmff_excluded.proofs.OrderLemmas.{united_same}
use Rattle.c2_bmff_excluded.proofs.entries.add_exclusion.Goals as goal
use Rattle.c2_lemmas.proofs.Bools.{or_join}

-- the last group with the parts of one more excludes what both do
pub returns-then-is_alike : goal.returns-then-is_alike
returns-then-is_alike c file rows i =
    let excludes : Exclusion → Bool = excludes_row file rows i in
    let rest : List Exclusion = c.pop.new.self.items in
    let first : Exclusion = c.last.inside.first.now in
    let old : Option (List Range) = option_map (λ parts. parts.items) c.last.inside.parts in
    let last : Exclusion = record { path = first.path; length = first.length; tests = first.tests; subset = old } in
    let subset : Option (List Range) = option_map (λ parts. parts.items) c.in_ok-parts.parts in
    let both : Exclusion = record { path = first.path; length = first.length; tests = first.tests; subset = subset } in
    let other : Exclusion = c.args.exclusion.now in
    ap (list_any excludes) c.in_ok-push.ensures.items ∙ any_append excludes rest both
    ∙ ap (λ (b : Bool). list_any excludes rest || b)
    (united_same last other subset (c.is_alike.ensures c.if-is_alike.true) (λ k. c.in_ok-parts.ensures k ∙ ap (λ (e : Exclusion). in_subset k old || in_subset k e.subset) c.exclusion.view_is) file rows i
    ∙ ap (λ (e : Exclusion). excludes e || excludes other) c.last.view_is)
    ∙ sym (or_join (list_any excludes rest) (excludes c.in-Some.last) (excludes other))
    ∙ ap (λ (b : Bool). b || excludes other) (sym (any_append excludes rest c.in-Some.last) ∙ ap (list_any excludes) (sym c.in-Some.ensures.items))
