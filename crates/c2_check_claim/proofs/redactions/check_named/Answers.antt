use Rattle.std.proofs.Common.{◌≡◌, IfOk, option_map, sym, subst}
use Rattle.c2_spec.specs.C2pa.Uri.{target_view}
use Rattle.c2_spec.specs.declared.uri.Target.{Target}
use Rattle.c2_rules.specs.Chains.{label_in}
use Rattle.c2_rules.specs.Rules.{claim_uri, target_tests}
use Rattle.c2_rules.specs.Tests.{first_failing}
use Rattle.c2_check_claim.proofs.redactions.check_named.Goals as goal

-- what fails of a redaction by the label of an assertion fails by the target of its URI
pub returns-in-Assertion : goal.returns-in-Assertion
returns-in-Assertion c =
    subst
    (λ (t : Target). IfOk c.check_target.result (λ found. found ≡ first_failing (target_tests (label_in c.args.own.now) (claim_uri c.args.own.now) (option_map (λ x. x.now) c.args.manifest) (target_view t))))
    (sym c.in-Assertion.is) c.check_target.ensures
