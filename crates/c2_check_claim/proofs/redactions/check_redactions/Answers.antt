use Rattle.std.proofs.Common.{ℕ, List}
use Rattle.c2_rules.specs.Chains.{label_in}
use Rattle.c2_rules.specs.Rules.{claim_uri, redaction_tests}
use Rattle.c2_rules.proofs.TestLemmas.{each_failed}
use Rattle.c2_check_claim.proofs.redactions.check_redactions.Goals as goal

-- where all redactions before it pass, what fails of this one fails first of all
pub returns-in-Some : goal.returns-in-Some
returns-in-Some c =
    each_failed (λ (k : ℕ) (text : List ℕ). redaction_tests (label_in c.args.own.now) (claim_uri c.args.own.now) text) c.args.texts.now c.loop-k.k c.index-texts-k.result c.in_ok-found.found c.in-Some.failing c.loop-k-test.true c.index-texts-k.is
    c.loop-k.invariant c.in-Some.is c.in_ok-found.ensures
