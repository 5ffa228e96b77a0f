use Rattle.std.proofs.Common.{◌≡◌, Option, IfOk, ap, ◌∙◌, subst}
use Rattle.c2_spec.specs.C2pa.Uri.{PlainUri, uri_of}
use Rattle.c2_rules.specs.Chains.{label_in}
use Rattle.c2_rules.specs.Rules.{claim_uri, uri_tests}
use Rattle.c2_rules.specs.Tests.{first_failing}
use Rattle.c2_check_claim.proofs.redactions.check_redaction.Goals as goal

-- what fails of the URI that a redaction is fails of the redaction
pub returns-in-Some : goal.returns-in-Some
returns-in-Some c =
    subst
    (λ (u : Option PlainUri). IfOk c.check_named.result (λ found. found ≡ first_failing (uri_tests (label_in c.args.own.now) (claim_uri c.args.own.now) u)))
    (c.in-Some.ensures ∙ ap uri_of c.as_str.ensures.value) c.check_named.ensures
