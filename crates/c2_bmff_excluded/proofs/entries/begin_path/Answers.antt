use Rattle.std.proofs.Common.{◌≡◌, ◌∙◌, ◌||◌, ◌∷◌, ◌++◌, [], Bool, List, ap}
use Rattle.std.specs.List.{list_any}
use Rattle.c2_spec.specs.Bmff.Hash.{Exclusion}
use Rattle.c2_spec.specs.Bmff.Paths.{PathStep}
use Rattle.c2_bmff_excluded.specs.Marks.{SharedPath, excludes_any}
use Rattle.c2_bmff_rows.proofs.Lists.{any_append}
use Rattle.c2_bmff_excluded.proofs.OrderLemmas.{begins_path}
use Rattle.c2_bmff_excluded.proofs.entries.begin_path.Goals as goal

-- one exclusion more, of its path alone
pub returns : goal.returns
returns c file rows i =
    let excludes : SharedPath → Bool = excludes_any file rows i in
    let old : List SharedPath = c.args.entries.now.items in
    let made : List Exclusion = c.push.new.self.items in
    let path : c.first.inside.path ≡ c.args.group.now.path =
    ap (λ (e : Exclusion). e.path) c.first.view_is ∙ ap (λ (e : Exclusion). e.path) c.group.view_is in
    ap (list_any excludes) c.in_ok-push-2.ensures.items
    ∙ any_append excludes old (record { path = c.first.inside.path; exclusions = made })
    ∙ ap (λ (b : Bool). list_any excludes old || b)
    (ap (λ (xs : List Exclusion). excludes (record { path = c.first.inside.path; exclusions = xs })) (c.in_ok-push.ensures.items ∙ ap (λ (xs : List Exclusion). xs ++ c.args.ask ∷ []) c.new-asks.ensures.items)
    ∙ ap (λ (p : List PathStep). excludes (record { path = p; exclusions = c.args.ask ∷ [] })) path
    ∙ begins_path c.args.ask c.args.group.now c.requires file rows i)
