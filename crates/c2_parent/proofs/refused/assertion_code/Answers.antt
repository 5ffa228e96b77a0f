use Rattle.c2_rules.specs.Ingredients.{assertion_uri}
use Rattle.c2_parent.proofs.RefusedLemmas.{kind_is, rule_fails, rules_pass}
use Rattle.c2_parent.proofs.refused.assertion_code.Goals as goal

pub returns-in-Some : goal.returns-in-Some
returns-in-Some c = λ redacts text h.
    let uri = assertion_uri c.args.manifest.now c.args.label.now in
    rule_fails c.args.own.now c.args.known.now redacts text c.args.manifest.now c.args.label.now c.kind_code.result c.in-Some.code (kind_is _ _ _ _ uri c.kind_code.result c.kind_code.ensures c.is_own.ensures c.label_kind.ensures) c.in-Some.is

pub returns-in-None : goal.returns-in-None
returns-in-None c = λ redacts text h.
    let uri = assertion_uri c.args.manifest.now c.args.label.now in
    rules_pass c.args.own.now c.args.known.now redacts text c.args.manifest.now c.args.label.now c.kind_code.result c.store_code.result (kind_is _ _ _ _ uri c.kind_code.result c.kind_code.ensures c.is_own.ensures c.label_kind.ensures) c.in-None.is (c.store_code.ensures redacts h)
