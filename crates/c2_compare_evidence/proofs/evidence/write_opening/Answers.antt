use Rattle.std.proofs.Common.{ap, ◌∙◌}
use Rattle.c2_compare_evidence.specs.Differing.{binder_view}
use Rattle.c2_compare_evidence.specs.Writing.{opening}
use Rattle.c2_compare_evidence.proofs.EvidenceLines.{digest_opening, signature_opening}
use Rattle.c2_compare_evidence.proofs.Written.{written_same}
use Rattle.c2_compare_evidence.proofs.evidence.write_opening.Goals as goal

-- a digest binds the lists
pub returns-in-Digest-clause-wrote : goal.returns-in-Digest-clause-wrote
returns-in-Digest-clause-wrote g c =
    written_same c.write_pieces.result (g.W.Sink.written c.args.report.now) (g.W.Sink.written c.write_pieces.new.report)
    _ (opening (binder_view c.args.bound_by)) c.write_pieces.ensures.wrote
    (ap (λ b. opening (binder_view b)) c.in-Digest.is ∙ digest_opening c.in-Digest.name.now)

-- a signature does
pub returns-in-Signature-clause-wrote : goal.returns-in-Signature-clause-wrote
returns-in-Signature-clause-wrote g c =
    written_same c.write_pieces-in-Signature.result (g.W.Sink.written c.args.report.now)
    (g.W.Sink.written c.write_pieces-in-Signature.new.report) _ (opening (binder_view c.args.bound_by))
    c.write_pieces-in-Signature.ensures.wrote
    (ap (λ b. opening (binder_view b)) c.in-Signature.is ∙ signature_opening)
