use Rattle.std.proofs.Common.{ap, ◌∙◌}
use Rattle.c2_compare_spec.specs.EvidenceText.{printed}
use Rattle.c2_compare_evidence.specs.Differing.{location_view}
use Rattle.c2_compare_evidence.proofs.EvidenceLines.{assertion_lines, signature_lines, whole_lines}
use Rattle.c2_compare_evidence.proofs.Written.{written_same}
use Rattle.c2_compare_evidence.proofs.evidence.write_location.Goals as goal

-- of an assertion
pub returns-in-Assertion-clause-wrote : goal.returns-in-Assertion-clause-wrote
returns-in-Assertion-clause-wrote g c =
    written_same c.write_pieces.result (g.W.Sink.written c.args.report.now) (g.W.Sink.written c.write_pieces.new.report)
    _ (printed (location_view c.args.location)) c.write_pieces.ensures.wrote
    (ap (λ l. printed (location_view l)) c.in-Assertion.is ∙ assertion_lines c.in-Assertion.manifest.now c.in-Assertion.label.now)

-- of a signature
pub returns-in-Signature-clause-wrote : goal.returns-in-Signature-clause-wrote
returns-in-Signature-clause-wrote g c =
    written_same c.write_pieces-in-Signature.result (g.W.Sink.written c.args.report.now) (g.W.Sink.written c.write_pieces-in-Signature.new.report) _ (printed (location_view c.args.location)) c.write_pieces-in-Signature.ensures.wrote
    (ap (λ l. printed (location_view l)) c.in-Signature.is ∙ signature_lines c.in-Signature.manifest.now)

-- of a manifest
pub returns-in-Whole-clause-wrote : goal.returns-in-Whole-clause-wrote
returns-in-Whole-clause-wrote g c =
    written_same c.write_pieces-in-Whole.result (g.W.Sink.written c.args.report.now) (g.W.Sink.written c.write_pieces-in-Whole.new.report) _ (printed (location_view c.args.location)) c.write_pieces-in-Whole.ensures.wrote
    (ap (λ l. printed (location_view l)) c.in-Whole.is ∙ whole_lines c.in-Whole.manifest.now)
