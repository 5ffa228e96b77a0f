use Rattle.std.proofs.Common.{sym}
use Rattle.c2_jpegseg_segments.specs.Runs.{collected}
use Rattle.c2_jpegseg_segments.proofs.Outcomes.{pass-no_packet, pass-second, pass-stray, pass-packet}
use Rattle.c2_jpegseg_segments.proofs.segment.pass.Goals as goal

pub returns-in_default-clause-ok : goal.returns-in_default-clause-ok
returns-in_default-clause-ok c =
    λ file s. pass-no_packet file c.args.at c.args.end c.args.packet (collected c.args.run.now) s c.requires.whole c.in_default.is

pub returns-then-is_first-clause-err : goal.returns-then-is_first-clause-err
returns-then-is_first-clause-err c =
    λ file s. pass-second file c.args.at c.args.end c.args.packet c.in-Some.other (collected c.args.run.now) s c.requires.whole c.in-Some.is (sym c.if-is_first.ensures)

pub returns-then-is_further-clause-err : goal.returns-then-is_further-clause-err
returns-then-is_further-clause-err c =
    λ file s. pass-stray file c.args.at c.args.end c.args.packet c.in-Some.other (collected c.args.run.now) s c.requires.whole c.in-Some.is (sym c.if-is_first.ensures) (sym c.if-is_further.ensures)

pub returns-clause-ok : goal.returns-clause-ok
returns-clause-ok c =
    λ file s. pass-packet file c.args.at c.args.end c.args.packet c.in-Some.other (collected c.args.run.now) s c.requires.whole c.in-Some.is (sym c.if-is_first.ensures) (sym c.if-is_further.ensures)
