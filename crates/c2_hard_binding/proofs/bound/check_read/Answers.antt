use Rattle.c2_rules.specs.Chains.{label_in}
use Rattle.c2_rules.specs.Ingredients.{assertion_uri}
use Rattle.c2_hard_binding.proofs.BoundLemmas.{read_fields, read_refused}
use Rattle.c2_hard_binding.proofs.bound.check_read.Goals as goal

-- the fields were read: the rule on them decides
pub returns-in-Ok-clause-found : goal.returns-in-Ok-clause-found
returns-in-Ok-clause-found g c = λ file known kind b coded reads.
    read_fields g.H.Hashing.digest_of c.args.own.now (assertion_uri (label_in c.args.own.now) c.args.name.now) kind file c.args.read.now c.in-Ok.fields b c.check_fields.result c.in-Ok.is coded reads
    (λ x same comes. c.check_fields.ensures.found file known kind x same comes)

-- a field is refused
pub returns-in-Ok-field_code-clause-found : goal.returns-in-Ok-field_code-clause-found
returns-in-Ok-field_code-clause-found g c = λ file known kind b coded reads.
    read_refused g.H.Hashing.digest_of c.args.own.now (assertion_uri (label_in c.args.own.now) c.args.name.now) kind file c.args.read.now c.in-Err.error c.field_code.result c.in-Ok-field_code.code b c.fails.result c.in-Err.is reads c.field_code.ensures.memory c.in-Ok-field_code.is
    c.in-Ok-field_code.ensures.code c.fails.ensures.found
