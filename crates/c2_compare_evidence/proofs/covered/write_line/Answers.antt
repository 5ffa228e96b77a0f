use Rattle.std.proofs.Common.{[], ◌∷◌, refl, ◌∙◌}
use Rattle.hex.specs.Hex.{encode_lower}
use Rattle.c2_compare_spec.specs.EvidenceText.{hex_line}
use Rattle.c2_cover.specs.Covers.{text_of}
use Rattle.c2_calls_spec.proofs.SinkLemmas.{sink_next, writes_done, writes_error, writes_next}
use Rattle.c2_calls_spec.proofs.SourceLemmas.{reads_then}
use Rattle.c2_compare_evidence.proofs.TextLines.{last_prefix, last_whole}
use Rattle.c2_compare_evidence.proofs.Written.{prefix_first, written_prefix, written_whole}
use Rattle.c2_compare_evidence.specs.declared.error.CompareError.TheVariants.{WriteFault}
use Rattle.c2_compare_evidence.proofs.covered.write_line.Goals as goal

-- the digits failed
pub returns-in-Err-clause-wrote : goal.returns-in-Err-clause-wrote
returns-in-Err-clause-wrote g c = λ file known.
    written_prefix _ (g.W.Sink.written c.args.report.now) (g.W.Sink.written c.write_text.new.report)
    (hex_line (text_of c.args.cover.now file))
    (prefix_first (g.W.Sink.written c.args.report.now) (g.W.Sink.written c.write_text.new.report) (encode_lower (text_of c.args.cover.now file)) (0x0A ∷ []) (hex_line (text_of c.args.cover.now file)) (c.in-Err.ensures.wrote file known).prefix refl)

-- the line feed failed
pub returns-in-Err-write_pieces-clause-wrote : goal.returns-in-Err-write_pieces-clause-wrote
returns-in-Err-write_pieces-clause-wrote g c = λ file known.
    written_prefix _ (g.W.Sink.written c.args.report.now) (g.W.Sink.written c.write_pieces.new.report)
    (hex_line (text_of c.args.cover.now file))
    (last_prefix (g.W.Sink.written c.args.report.now) (g.W.Sink.written c.write_text.new.report) (g.W.Sink.written c.write_pieces.new.report)
    (encode_lower (text_of c.args.cover.now file)) (0x0A ∷ []) (hex_line (text_of c.args.cover.now file)) (c.in-Ok.ensures.wrote file known).whole c.in-Err-write_pieces.ensures.wrote.prefix refl)

-- both are written
pub returns-in-Ok-write_pieces-clause-wrote : goal.returns-in-Ok-write_pieces-clause-wrote
returns-in-Ok-write_pieces-clause-wrote g c = λ file known.
    written_whole _ (g.W.Sink.written c.args.report.now) (g.W.Sink.written c.write_pieces.new.report)
    (hex_line (text_of c.args.cover.now file))
    (last_whole (g.W.Sink.written c.args.report.now) (g.W.Sink.written c.write_text.new.report) (g.W.Sink.written c.write_pieces.new.report)
    (encode_lower (text_of c.args.cover.now file)) (0x0A ∷ []) (hex_line (text_of c.args.cover.now file)) (c.in-Ok.ensures.wrote file known).whole c.in-Ok-write_pieces.ensures.wrote.whole refl)

-- ---- what is left of the source and the report

-- the line feed failed
pub returns-in-Err-write_pieces-clause-source : goal.returns-in-Err-write_pieces-clause-source
returns-in-Err-write_pieces-clause-source g c =
    reads_then _ _ _ _ _ c.args.source.now c.write_text.new.source _ _ tt c.in-Ok.ensures.source

pub returns-in-Err-write_pieces-clause-report : goal.returns-in-Err-write_pieces-clause-report
returns-in-Err-write_pieces-clause-report g c =
    writes_error c.args.report.now c.write_pieces.new.report _ WriteFault
    (λ h. h) (writes_next c.args.report.now c.write_text.new.report c.write_pieces.new.report _ c.in-Ok.ensures.report.stays c.in-Ok.ensures.report.quiet c.in-Err-write_pieces.ensures.report)

-- both are written
pub returns-in-Ok-write_pieces-clause-source : goal.returns-in-Ok-write_pieces-clause-source
returns-in-Ok-write_pieces-clause-source g c =
    reads_then _ _ _ _ _ c.args.source.now c.write_text.new.source _ _ tt c.in-Ok.ensures.source

pub returns-in-Ok-write_pieces-clause-report : goal.returns-in-Ok-write_pieces-clause-report
returns-in-Ok-write_pieces-clause-report g c =
    writes_done c.args.report.now c.write_pieces.new.report _
    (sink_next c.args.report.now c.write_text.new.report c.write_pieces.new.report c.in-Ok.ensures.report.stays c.in-Ok-write_pieces.ensures.report.stays)
    (c.in-Ok-write_pieces.ensures.report.quiet ∙ c.in-Ok.ensures.report.quiet) tt
