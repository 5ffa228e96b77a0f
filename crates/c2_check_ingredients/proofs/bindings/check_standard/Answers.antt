use Rattle.std.proofs.Common.{map}
use Rattle.c2_rules.specs.Rules.{hash_kind_test}
use Rattle.c2_read_manifests.specs.Placed.{seen_in}
use Rattle.c2_rules.specs.Tests.{over_all}
use Rattle.c2_check_ingredients.specs.Counts.{number_tests}
use Rattle.c2_check_ingredients.proofs.BoundLemmas.{goes_on}
use Rattle.c2_check_ingredients.proofs.bindings.check_standard.Goals as goal

-- where no kind of hash is refused, what fails first by the numbers fails first of all these rules
pub returns-in-None : goal.returns-in-None
returns-in-None c =
    goes_on (over_all (hash_kind_test (seen_in c.args.at.now c.args.own.now)) 0 (map (λ x. x.now) c.args.labels.now))
    (number_tests (seen_in c.args.at.now c.args.own.now) (map (λ x. x.now) c.args.labels.now) (map (λ x. x.now) c.args.bindings.now))
    c.in_ok-found.found c.check_numbers.result c.in-None.is c.in_ok-found.ensures c.check_numbers.ensures
