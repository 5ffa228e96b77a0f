use Rattle.std.proofs.Common.{◌++◌, sym, ◌∙◌}
use Rattle.std.proofs.lemmas.List.{append_assoc}
use Rattle.c2_compare_spec.specs.EvidenceText.{evidence_text, printed}
use Rattle.c2_compare_evidence.specs.Differing.{binder_view, location_view}
use Rattle.c2_compare_evidence.specs.Writing.{later_lines, opening}
use Rattle.c2_compare_evidence.proofs.EvidenceLines.{found_parts}
use Rattle.c2_calls_spec.proofs.SinkLemmas.{sink_next, writes_next}
use Rattle.c2_compare_evidence.proofs.Written.{appends_after, prefix_after, prefix_first, written_last, written_prefix}
use Rattle.c2_compare_evidence.proofs.evidence.write_evidence.Goals as goal

-- the report failed before the location
pub returns-in-Err-clause-wrote : goal.returns-in-Err-clause-wrote
returns-in-Err-clause-wrote g c = λ p is.
    written_prefix _ (g.W.Sink.written c.args.report.now) (g.W.Sink.written c.write_opening.new.report)
    (evidence_text p)
    (prefix_first (g.W.Sink.written c.args.report.now) (g.W.Sink.written c.write_opening.new.report) (opening (binder_view c.args.found.now.bound_by)) _ (evidence_text p) c.in-Err.ensures.wrote.prefix (found_parts c.args.found.now p is))

-- the report failed at the location
pub returns-in-Err-write_location-clause-wrote : goal.returns-in-Err-write_location-clause-wrote
returns-in-Err-write_location-clause-wrote g c = λ p is.
    written_prefix _ (g.W.Sink.written c.args.report.now) (g.W.Sink.written c.write_location.new.report)
    (evidence_text p)
    (prefix_after (g.W.Sink.written c.args.report.now) (g.W.Sink.written c.write_opening.new.report) (g.W.Sink.written c.write_location.new.report)
    (opening (binder_view c.args.found.now.bound_by)) (printed (location_view c.args.found.now.location)) _ (evidence_text p) c.in-Ok.ensures.wrote.whole c.in-Err-write_location.ensures.wrote.prefix (found_parts c.args.found.now p is))

-- the lines behind it
pub returns-clause-wrote : goal.returns-clause-wrote
returns-clause-wrote g c = λ p is.
    written_last c.write_later.result (g.W.Sink.written c.args.report.now)
    (g.W.Sink.written c.write_location.new.report) (g.W.Sink.written c.write_later.new.report)
    (opening (binder_view c.args.found.now.bound_by) ++ printed (location_view c.args.found.now.location))
    (later_lines (binder_view c.args.found.now.bound_by) c.args.found.now.left.now c.args.found.now.right.now)
    (evidence_text p)
    (appends_after (g.W.Sink.written c.args.report.now) (g.W.Sink.written c.write_opening.new.report)
    (g.W.Sink.written c.write_location.new.report) (opening (binder_view c.args.found.now.bound_by))
    (printed (location_view c.args.found.now.location)) c.in-Ok.ensures.wrote.whole
    c.in-Ok-write_location.ensures.wrote.whole)
    c.write_later.ensures.wrote
    (found_parts c.args.found.now p is ∙ sym (append_assoc (opening (binder_view c.args.found.now.bound_by)) (printed (location_view c.args.found.now.location)) _))

-- ---- what is left of the report

-- it failed at the location
pub returns-in-Err-write_location-clause-report : goal.returns-in-Err-write_location-clause-report
returns-in-Err-write_location-clause-report g c =
    writes_next c.args.report.now c.write_opening.new.report c.write_location.new.report _ c.in-Ok.ensures.report.stays c.in-Ok.ensures.report.quiet c.in-Err-write_location.ensures.report

-- the lines behind it
pub returns-clause-report : goal.returns-clause-report
returns-clause-report g c =
    writes_next c.args.report.now c.write_location.new.report c.write_later.new.report _
    (sink_next c.args.report.now c.write_opening.new.report c.write_location.new.report c.in-Ok.ensures.report.stays c.in-Ok-write_location.ensures.report.stays)
    (c.in-Ok-write_location.ensures.report.quiet ∙ c.in-Ok.ensures.report.quiet) c.write_later.ensures.report
