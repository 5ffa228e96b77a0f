use Rattle.std.proofs.Common.{refl}
use Rattle.c2_jpegseg_segments.proofs.NumberMarks.{no-marks}
use Rattle.c2_jpegseg_segments.proofs.numbers.no_marks.Goals as goal

pub returns : goal.returns
returns c = no-marks _ refl
