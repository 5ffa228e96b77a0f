use Rattle.std.proofs.Common.{map, ap, ◌∙◌}
use Rattle.c2_read_manifests.specs.Placed.{seen_in}
use Rattle.c2_check_ingredients.proofs.BoundLemmas.{binds_update, binds_standard}
use Rattle.c2_check_ingredients.proofs.bindings.check_bindings.Goals as goal

-- what fails first of an update by its labels fails first by the rule on bindings and parents
pub returns-then-is_update : goal.returns-then-is_update
returns-then-is_update c =
    binds_update (seen_in c.args.at.now c.args.own.now) c.is_update.result
    (map (λ x. x.now) c.as_slice-names.result.now) c.check_update.result c.if-is_update.true c.is_update.ensures
    (ap (map (λ x. x.now)) c.as_slice-names.ensures.value ∙ c.in_ok-listed.ensures) c.check_update.ensures

-- what fails first of a manifest that is no update, by what it lists, fails first by the rule on bindings
pub returns : goal.returns
returns c =
    binds_standard (seen_in c.args.at.now c.args.own.now) c.is_update.result
    (map (λ x. x.now) c.as_slice-names.result.now) (map (λ x. x.now) c.as_slice-known.result.now)
    c.check_standard.result c.if-is_update.false c.is_update.ensures
    (ap (map (λ x. x.now)) c.as_slice-names.ensures.value ∙ c.in_ok-listed.ensures)
    (ap (map (λ x. x.now)) c.as_slice-known.ensures.value ∙ c.in_ok-kept.ensures) c.check_standard.ensures
