use Rattle.std.proofs.Common.{◌≡◌, ℕ, List, drop}
use Rattle.c2_rules.specs.Chains.{label_in}
use Rattle.c2_rules.specs.Rules.{claim_uri, redaction_tests}
use Rattle.c2_rules.specs.Tests.{each, first_failing}
use Rattle.c2_check_claim.proofs.redactions.check_redactions.Given as goal

-- the redactions that were passed hold: what fails first of all is among the rest
abbrev pub invariant-loop-k : goal.invariant-loop-k
invariant-loop-k l =
    let tests = λ (k : ℕ) (text : List ℕ). redaction_tests (label_in l.own) (claim_uri l.own) text in
    first_failing (each tests 0 l.texts) ≡ first_failing (each tests l.k (drop l.k l.texts))
