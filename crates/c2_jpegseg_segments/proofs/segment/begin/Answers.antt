use Rattle.std.proofs.lemmas.Result.{err_from_is_err_and}
use Rattle.std.proofs.Common.{sym}
use Rattle.c2_spec.specs.Jpeg.Store.{SegmentFault}
use Rattle.c2_jpegseg_segments.proofs.Outside.{or_outside-map}
use Rattle.c2_jpegseg_segments.proofs.Outcomes.{begin-no_packet, begin-other, begin-start, begin-refused}
use Rattle.c2_jpegseg_segments.proofs.segment.begin.Goals as goal

pub returns-in_default-clause-ok : goal.returns-in_default-clause-ok
returns-in_default-clause-ok c = λ file s. begin-no_packet file c.args.at c.args.end c.args.packet s c.in_default.is

pub returns-then-not-is_first-clause-ok : goal.returns-then-not-is_first-clause-ok
returns-then-not-is_first-clause-ok c =
    λ file s. begin-other file c.args.at c.args.end c.args.packet c.in-Some.first s c.in-Some.is (sym c.if-not-is_first.ensures)

pub returns-clause-ok : goal.returns-clause-ok
returns-clause-ok c =
    λ file s. begin-start file c.args.at c.args.end c.args.packet c.in-Some.first _ s c.in-Some.is (sym c.if-not-is_first.ensures) c.in_ok-start.ensures.passes c.in_ok-start.ensures.started

pub returns-in_err-start-clause-err : goal.returns-in_err-start-clause-err
returns-in_err-start-clause-err c =
    let p = err_from_is_err_and c.from_residual.result c.from_residual.ensures.1 in
    rw (p.1, p.2) (λ file s. or_outside-map c.in_err-start.field-0.0 _ (SegmentFault file c.in_err-start.field-0.0)
    (begin-refused file c.args.at c.args.end c.args.packet c.in-Some.first c.in_err-start.field-0.0 s c.in-Some.is (sym c.if-not-is_first.ensures)) c.in_err-start.ensures.fails)
