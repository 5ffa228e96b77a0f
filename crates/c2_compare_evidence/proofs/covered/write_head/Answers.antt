use Rattle.c2_compare_evidence.specs.Covered.{covered_head}
use Rattle.c2_compare_evidence.proofs.TextLines.{head_pieces}
use Rattle.c2_compare_evidence.proofs.Written.{written_same}
use Rattle.c2_compare_evidence.proofs.covered.write_head.Goals as goal

-- the pieces are the line
pub returns-clause-wrote : goal.returns-clause-wrote
returns-clause-wrote g c =
    written_same c.write_pieces.result (g.W.Sink.written c.args.report.now) (g.W.Sink.written c.write_pieces.new.report)
    _ (covered_head c.args.alg.now) c.write_pieces.ensures.wrote (head_pieces c.args.alg.now)
