use Rattle.c2_strip.proofs.Answering.{refused_is, refused_reads, refused_unwritten, refused_within, stripped_is}
use Rattle.c2_strip.proofs.stripping.comes_to.Goals as goal

-- the container is refused
pub returns-in-Err-clause-answer : goal.returns-in-Err-clause-answer
returns-in-Err-clause-answer g c =
    λ file known. refused_is file c.in-Err.error c.refused.result (c.in-Err.ensures.said file known) c.refused.ensures

pub returns-in-Err-clause-within : goal.returns-in-Err-clause-within
returns-in-Err-clause-within g c =
    refused_within (g.S.Source.len c.args.source.now) (g.S.Source.faults c.args.source.now)
    (g.S.Source.faults c.locate.new.source) c.in-Err.error c.refused.result c.in-Err.ensures.cause c.refused.ensures

pub returns-in-Err-clause-unwritten : goal.returns-in-Err-clause-unwritten
returns-in-Err-clause-unwritten g c = refused_unwritten c.in-Err.error c.refused.result c.refused.ensures

pub returns-in-Err-clause-reads : goal.returns-in-Err-clause-reads
returns-in-Err-clause-reads g c =
    refused_reads g.S.Source.len g.S.Source.known g.S.Source.faults c.args.source.now c.locate.new.source
    c.in-Err.error c.refused.result c.in-Err.ensures.stays c.in-Err.ensures.cause c.refused.ensures

-- it isn't
pub returns-in-Ok-clause-answer : goal.returns-in-Ok-clause-answer
returns-in-Ok-clause-answer g c =
    λ file known. stripped_is file c.answer_of.result (c.answer_of.ensures.strips file (c.in-Ok.ensures.said file known))

pub returns-in-Ok-clause-within : goal.returns-in-Ok-clause-within
returns-in-Ok-clause-within g c = c.answer_of.ensures.within (g.S.Source.len c.args.source.now) c.in-Ok.ensures.within
