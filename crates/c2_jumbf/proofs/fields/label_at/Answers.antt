use Rattle.std.proofs.Common.{arith}
use Rattle.std.proofs.lemmas.List.{take_rest}
use Rattle.c2_jumbf.proofs.FieldLemmas.{label_here, label_open, label_control, label_no_text}
use Rattle.c2_jumbf.proofs.fields.label_at.Goals as goal

pub returns-then-end-bytes-clause-none : goal.returns-then-end-bytes-clause-none
returns-then-end-bytes-clause-none c =
    label_open c.args.bytes.now c.label_end-end.result (omega arith) c.label_end-end.ensures.before

pub returns-then-bytes-end-ne0-clause-none : goal.returns-then-bytes-end-ne0-clause-none
returns-then-bytes-end-ne0-clause-none c =
    label_control c.args.bytes.now c.label_end-end.result (omega arith) c.label_end-end.ensures.before
    c.label_end-end.ensures.at c.if-bytes-end-ne0.true

pub returns-in-Ok-clause-found : goal.returns-in-Ok-clause-found
returns-in-Ok-clause-found c =
    label_here c.args.bytes.now c.in-Ok.label.now _ c.label_end-end.result (omega arith) c.label_end-end.ensures.before
    c.if-bytes-end-ne0.false c.in-Ok.ensures.cases.0 (take_rest c.args.bytes.now _) c.in-Ok.ensures.cases.1

pub returns-in-Err-clause-none : goal.returns-in-Err-clause-none
returns-in-Err-clause-none c =
    label_no_text c.args.bytes.now c.label_end-end.result (omega arith) c.label_end-end.ensures.before
    c.if-bytes-end-ne0.false c.in-Err.ensures.cases.0
