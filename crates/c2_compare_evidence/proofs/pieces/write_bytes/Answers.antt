use Rattle.c2_calls_spec.proofs.SinkLemmas.{writes_taken}
use Rattle.c2_compare_evidence.proofs.Leaving.{failed_cause}
use Rattle.c2_compare_evidence.proofs.pieces.write_bytes.Goals as goal

-- the report took a prefix, all of it unless it failed
pub returns-clause-report : goal.returns-clause-report
returns-clause-report g c =
    writes_taken g.W.Sink.spare c.args.bytes.now c.args.report.now c.write_all.new.sink c.write_all.result
    c.write_all.ensures.prefix c.write_all.ensures.unfinished c.write_all.ensures.cause
    (failed_cause _ _ c.write_all.result c.write_all.ensures.cause.failed)
