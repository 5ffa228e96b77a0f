use Rattle.c2_parent.proofs.BothLemmas.{later_refuses, rule_refuses}
use Rattle.c2_parent.proofs.both.entry_code.Goals as goal

-- no rule on redactions refuses it
pub returns-in-Ok : goal.returns-in-Ok
returns-in-Ok c = λ redacts h.
    later_refuses c.args.own.now c.args.text.now c.in-Ok.named.manifest.now c.in-Ok.named.label.now c.args.old.now c.args.other.now redacts c.store_code.result c.in-Ok.ensures.named.names c.in-Ok.ensures.named.passes
    (c.store_code.ensures redacts h)

-- one does
pub returns-in-Err : goal.returns-in-Err
returns-in-Err c =
    λ redacts h. rule_refuses c.args.own.now c.args.text.now c.args.old.now c.args.other.now redacts c.in-Err.code c.in-Err.ensures.refused
