use Rattle.std.proofs.Common.{sym}
use Rattle.c2_jpegseg_segments.specs.Runs.{collected}
use Rattle.c2_jpegseg_segments.proofs.Outcomes.{proceed-no_packet, proceed-other, proceed-next}
use Rattle.c2_jpegseg_segments.proofs.segment.proceed.Goals as goal

pub returns-in_default-clause-err : goal.returns-in_default-clause-err
returns-in_default-clause-err c =
    λ file s. proceed-no_packet file c.args.at c.args.end c.args.packet (collected c.args.run.now) s c.requires.short c.in_default.is

pub returns-then-not-goes_on-clause-err : goal.returns-then-not-goes_on-clause-err
returns-then-not-goes_on-clause-err c =
    λ file s. proceed-other file c.args.at c.args.end c.args.packet c.in-Some.next (collected c.args.run.now) s c.requires.short c.in-Some.is (sym c.if-not-goes_on.ensures.goes)

pub returns-clause-ok : goal.returns-clause-ok
returns-clause-ok c =
    λ file s. proceed-next file c.args.at c.args.end c.args.packet c.in-Some.next (collected c.args.run.now) _ s c.requires.short c.in-Some.is (sym c.if-not-goes_on.ensures.goes) c.in_ok-append.ensures.ok
