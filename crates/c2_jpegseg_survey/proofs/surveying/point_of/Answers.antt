use Rattle.std.proofs.Common.{arith}
use Rattle.c2_base.specs.declared.values.Range.{Range}
use Rattle.c2_jpegseg_survey.specs.Surveys.{range_of}
use Rattle.c2_jpegseg_segments.proofs.Fronts.{has-place}
use Rattle.c2_jpegseg_segments.proofs.NumberMarks.{has-number}
use Rattle.c2_jpegseg_survey.proofs.RunRanges.{kept-front, kept-marks}
use Rattle.c2_jpegseg_survey.proofs.surveying.point_of.Goals as goal

pub returns-clause-point : goal.returns-clause-point
returns-clause-point c file size small h can =
    let skip : Range = range_of c.args.found.now in
    record {
      place =
          has-place file skip c.args.kept.now.front c.min-start.result (omega (arith, size, small))
          (kept-front file skip c.args.kept.now h)
          (λ le. omega (arith, le, size, c.taken_len-taken.ensures, c.saturating_sub-left.ensures, c.min-start.ensures))
          can;
      number =
          has-number file skip c.args.kept.now.marks c.least_free-number.result (omega (arith, size, small))
          (kept-marks file skip c.args.kept.now h) c.least_free-number.ensures can;
    }
