use Rattle.std.proofs.Common.{arith}
use Rattle.std.proofs.lemmas.List.{take_rest}
use Rattle.c2_jumbf.proofs.FieldLemmas.{no_label, no_id, no_digest, no_private, fields_here}
use Rattle.c2_jumbf.proofs.fields.fields_of.Goals as goal

pub returns-in_default-clause-none : goal.returns-in_default-clause-none
returns-in_default-clause-none c =
    no_label c.args.payload.now _ (take_rest c.args.payload.now 17) c.in_default.ensures.none.0
    c.in_default.ensures.none.1

pub returns-in_default-fixed_part-clause-none : goal.returns-in_default-fixed_part-clause-none
returns-in_default-fixed_part-clause-none c =
    no_id c.args.payload.now _ _ _ (take_rest c.args.payload.now 17) c.in-Some.ensures.found
    c.in_default-fixed_part.ensures.none.0 c.in_default-fixed_part.ensures.none.1

pub returns-in_default-fixed_part-2-clause-none : goal.returns-in_default-fixed_part-2-clause-none
returns-in_default-fixed_part-2-clause-none c =
    no_digest c.args.payload.now _ _ _ _ _ (take_rest c.args.payload.now 17) c.in-Some.ensures.found
    c.in-Some-fixed_part.ensures.found.1 c.in_default-fixed_part-2.ensures.none.0
    c.in_default-fixed_part-2.ensures.none.1

pub returns-then-not-is_private-clause-none : goal.returns-then-not-is_private-clause-none
returns-then-not-is_private-clause-none c =
    no_private c.args.payload.now _ _ _ _ _ _ _ (take_rest c.args.payload.now 17) c.in-Some.ensures.found
    c.in-Some-fixed_part.ensures.found.1 c.in-Some-fixed_part-2.ensures.found.1 c.if-not-is_private.ensures.none

pub returns-clause-found : goal.returns-clause-found
returns-clause-found c = fields_here c.args.payload.now _ _ _ _ _ c.in-Some-fixed_part.ensures.found.0
    c.in-Some-fixed_part-2.ensures.found.0 c.if-not-is_private.ensures.found.0 (omega arith) (omega arith)
    (take_rest c.args.payload.now 17) c.in-Some.ensures.found c.in-Some-fixed_part.ensures.found.1
    c.in-Some-fixed_part-2.ensures.found.1 c.if-not-is_private.ensures.found.1
