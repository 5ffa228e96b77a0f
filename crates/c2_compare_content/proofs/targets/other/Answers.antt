use Rattle.std.proofs.Common.{ap, refl, ◌∙◌, Some, None, slice_get, option_map}
use Rattle.c2_compare_content.proofs.Placed.{other_found}
use Rattle.c2_compare_content.proofs.targets.other.Goals as goal

-- the manifest at the place of the label
pub returns-in-Some : goal.returns-in-Some
returns-in-Some c =
    other_found c.args.all.now c.args.name.now (Some c.in-Some.m) (option_map (λ k. k.now) c.kept_at.result) c.in-Some.ensures.place
    (c.kept_at.ensures ∙ ap (λ rs. slice_get rs c.in-Some.m) c.manifests.ensures)

-- there is none
pub returns-in-None : goal.returns-in-None
returns-in-None c = other_found c.args.all.now c.args.name.now None None c.in-None.ensures.place refl
