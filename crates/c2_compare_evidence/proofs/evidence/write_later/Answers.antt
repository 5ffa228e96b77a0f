use Rattle.std.proofs.Common.{ap, ◌∙◌}
use Rattle.c2_compare_evidence.specs.Differing.{binder_view}
use Rattle.c2_compare_evidence.specs.Writing.{later_lines}
use Rattle.c2_compare_evidence.proofs.EvidenceLines.{digest_later, signature_later}
use Rattle.c2_compare_evidence.proofs.Written.{written_same}
use Rattle.c2_compare_evidence.proofs.evidence.write_later.Goals as goal

-- behind a digest
pub returns-in-Digest-clause-wrote : goal.returns-in-Digest-clause-wrote
returns-in-Digest-clause-wrote g c =
    written_same c.write_pieces.result (g.W.Sink.written c.args.report.now) (g.W.Sink.written c.write_pieces.new.report)
    _ (later_lines (binder_view c.args.bound_by) c.args.left.now c.args.right.now) c.write_pieces.ensures.wrote
    (ap (λ b. later_lines (binder_view b) c.args.left.now c.args.right.now) c.in-Digest.is ∙ digest_later c.args.left.now c.args.right.now)

-- behind a signature
pub returns-in-Signature-clause-wrote : goal.returns-in-Signature-clause-wrote
returns-in-Signature-clause-wrote g c =
    written_same c.write_pieces-in-Signature.result (g.W.Sink.written c.args.report.now)
    (g.W.Sink.written c.write_pieces-in-Signature.new.report) _
    (later_lines (binder_view c.args.bound_by) c.args.left.now c.args.right.now)
    c.write_pieces-in-Signature.ensures.wrote
    (ap (λ b. later_lines (binder_view b) c.args.left.now c.args.right.now) c.in-Signature.is ∙ signature_later c.in-Signature.contents.now c.args.left.now c.args.right.now)
