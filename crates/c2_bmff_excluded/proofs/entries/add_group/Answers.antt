use Rattle.std.proofs.Common.{◌≡◌, ◌∙◌, ◌||◌, Bool, List, ap, sym}
use Rattle.std.specs.List.{list_any}
use Rattle.c2_spec.specs.Bmff.Hash.{Exclusion}
use Rattle.c2_spec.specs.Bmff.Paths.{PathStep}
use Rattle.c2_bmff_excluded.specs.Marks.{SharedPath, excludes_any, excludes_row}
use Rattle.c2_bmff_rows.proofs.Lists.{any_append}
use Rattle.c2_bmff_excluded.proofs.OrderLemmas.{joins_path}
use Rattle.c2_bmff_excluded.proofs.entries.add_group.Goals as goal
use Rattle.c2_lemmas.proofs.Bools.{or_join}

-- the exclusions of the last path with one more of that path
pub returns-then-is_same_path : goal.returns-then-is_same_path
returns-then-is_same_path c file rows i =
    let excludes : SharedPath → Bool = excludes_any file rows i in
    let rest : List SharedPath = c.pop.new.self.items in
    let path : List PathStep = c.last.inside.path.now in
    let xs : List Exclusion = c.last.inside.asks.items in
    let last : SharedPath = record { path = path; exclusions = xs } in
    let ask : Exclusion = c.in_ok-ask.ask in
    let group : Exclusion = c.args.group.now in
    let same : path ≡ group.path =
    c.is_same_path.ensures c.if-is_same_path.true ∙ ap (λ (e : Exclusion). e.path) c.first.view_is
    ∙ ap (λ (e : Exclusion). e.path) c.group.view_is in
    ap (list_any excludes) c.in_ok-push-2.ensures.items
    ∙ any_append excludes rest (record { path = path; exclusions = c.push.new.self.items })
    ∙ ap (λ (b : Bool). list_any excludes rest || b)
    (ap (λ (ys : List Exclusion). excludes (record { path = path; exclusions = ys })) c.in_ok-push.ensures.items
    ∙ joins_path path xs ask group same c.in_ok-ask.ensures file rows i
    ∙ ap (λ (e : SharedPath). excludes e || excludes_row file rows i group) c.last.view_is)
    ∙ sym (or_join (list_any excludes rest) (excludes c.in-Some.last) (excludes_row file rows i group))
    ∙ ap (λ (b : Bool). b || excludes_row file rows i group) (sym (any_append excludes rest c.in-Some.last) ∙ ap (list_any excludes) (sym c.in-Some.ensures.items))
